-- A conversation that goes on, event by event, and how it ends.
use Rattle.std.proofs.Common.{◌≡◌, ◌≢◌, ℕ, Bool, true, false, cond, List, [], ◌∷◌, ◌++◌, refl, sym, ap, ◌∙◌, subst}
use Rattle.std.proofs.Common.{append_assoc, append-nil, take, drop, length, take-append-drop, arith, ◌≤◌, ◌+◌}
use lib.Seq.{take-append_seam}
use Rattle.std.specs.Io.{StartsWith}
use Rattle.std.specs.declared.io.Error.{Error}
use Rattle.jh_lines.specs.Lines.{lines_from, rest_from, last_line, whole_lines, all_lines}
use Rattle.jh_lines.specs.Answering.{after_lines, answers_to_lines, said_to_all}
use Rattle.jh_lines.specs.Events.{TalkEvent, Told, Heard, Ended, TellFailed, ListenFailed, heard_in, told_in}
use Rattle.jh_lines.specs.Events.{is_at_end, lines_heard, machine_after, due_in, Went, IsPrompt}
use Rattle.jh_lines.specs.Events.{ListensOpen}
use Rattle.jh_lines.specs.Endings.{IsConversation, IsEndingOf}
use Rattle.jh_lines.specs.declared.ending.Ending.{Ending}
use Rattle.jh_lines.specs.declared.ending.Ending.TheVariants.{Over, InputEnded, ReadFailed, WriteFailed, OutOfMemory}
use Rattle.jh_lines.proofs.LineLemmas.{rest_from-append, lines_from-append, after_lines-append, answers_to_lines-append}
use Rattle.jh_lines.proofs.LineLemmas.{StaysOver, said_to_all-over}

-- some bytes of what is due are a prefix of what is due with them
starts_with_some : (past bytes due : List ℕ) (n : ℕ) → past ++ bytes ≡ due → StartsWith due (past ++ take n bytes)
starts_with_some past bytes due n whole =
    let parts : due ≡ (past ++ take n bytes) ++ drop n bytes =
    sym whole ∙ ap (λ l. past ++ l) (sym (take-append-drop n bytes))
    ∙ sym (append_assoc past (take n bytes) (drop n bytes)) in
    ap (take (length (past ++ take n bytes))) parts ∙ take-append_seam (past ++ take n bytes) (drop n bytes)

starts_with_all : (told due : List ℕ) → told ≡ due → StartsWith due told
starts_with_all told due e =
    let parts : due ≡ told ++ [] = sym e ∙ sym (append-nil told) in
    ap (take (length told)) parts ∙ take-append_seam told []

-- the lines that were heard, where something more is heard, or the end
lines_of : (past : List TalkEvent) → is_at_end past ≡ false → lines_heard past ≡ whole_lines (heard_in past)
lines_of past e = ap (λ b. cond b (all_lines (heard_in past)) (whole_lines (heard_in past))) e

more_lines : (past : List TalkEvent) (line bytes : List ℕ) → is_at_end past ≡ false
    → line ≡ rest_from [] (heard_in past)
    → lines_heard (Heard bytes ∷ past) ≡ lines_heard past ++ lines_from line bytes
more_lines past line bytes goes_on cut = lines_from-append [] (heard_in past) bytes
    ∙ ap (λ l. whole_lines (heard_in past) ++ lines_from l bytes) (sym cut)
    ∙ ap (λ l. l ++ lines_from line bytes) (sym (lines_of past goes_on))

lines_at_end : (past : List TalkEvent) (line : List ℕ) → is_at_end past ≡ false → line ≡ rest_from [] (heard_in past)
    → lines_heard (Ended ∷ past) ≡ lines_heard past ++ last_line line
lines_at_end past line goes_on cut = ap (λ l. whole_lines (heard_in past) ++ last_line l) (sym cut)
    ∙ ap (λ l. l ++ last_line line) (sym (lines_of past goes_on))

module _ {P M : Type 0} (told heard : P → List ℕ → P → Type 0) (ended : P → P → Type 0)
    (tell_failed : P → List ℕ → Error → P → Type 0)
    (listen_failed : P → Error → P → Type 0) (opening : M → List ℕ) (after_line : M → List ℕ → M)
    (answer_to : M → List ℕ → List ℕ) (begin : P) (first : M) (has_finished : M → Bool) where
  abbrev due : List TalkEvent → List ℕ
  due = due_in opening after_line answer_to first

  abbrev after : List TalkEvent → M
  after = machine_after after_line first

  abbrev finished : List TalkEvent → Bool
  finished past = has_finished (after past)

  abbrev said_to_lines : M → List (List ℕ) → List ℕ
  said_to_lines = answers_to_lines after_line answer_to

  -- the machine has taken all that was heard, and `out` is all that is due and not told
  pub record Answers (past : List TalkEvent) (peer : P) (machine : M) (out : List ℕ) : Type 0 where
    pub went : Went told heard ended tell_failed listen_failed begin past peer
    pub prompt : IsPrompt due past
    pub has_heard : machine ≡ after past
    pub is_due : told_in past ++ out ≡ due past
    pub listens : ListensOpen finished past

  -- the same where the input goes on, and `line` has come of the next line
  pub record Stands (turns : ℕ) (peer : P) (line : List ℕ) (machine : M) (out : List ℕ) : Type 0 where
    pub past : List TalkEvent
    pub long : turns ≤ length past
    pub goes_on : is_at_end past ≡ false
    pub cut : line ≡ rest_from [] (heard_in past)
    pub answers : Answers past peer machine out

  -- the conversation as the contract has it
  abbrev pub Holds : P → M → Ending → Type 0
  Holds peer machine ending =
      (past : List TalkEvent) × Went told heard ended tell_failed listen_failed begin past peer
      × IsConversation opening after_line answer_to has_finished first past machine ending

  pub stands_first : (line out : List ℕ) → line ≡ [] → out ≡ [] ++ opening first → Stands 0 begin line first out
  stands_first line out no_line opened = record {
    past = [];
    long = omega arith;
    goes_on = refl;
    cut = no_line;
    answers = record { went = refl; prompt = tt; has_heard = refl; is_due = opened ∙ sym (append-nil (opening first)); listens = tt };
  }

  all_told : (past : List TalkEvent) (peer : P) (machine : M) → Answers past peer machine [] → told_in past ≡ due past
  all_told past peer machine a = sym (append-nil (told_in past)) ∙ a.is_due

  answers_told : (past : List TalkEvent) (peer next : P) (machine : M) (out shown : List ℕ)
      → Answers past peer machine out → shown ≡ out
      → told peer shown next → Answers (Told shown ∷ past) next machine []
  answers_told past peer next machine out shown a e step =
      let whole : told_in past ++ shown ≡ due past = ap (λ l. told_in past ++ l) e ∙ a.is_due in
      record {
        went = (peer, a.went, step);
        prompt = (starts_with_all _ _ whole, a.prompt);
        has_heard = a.has_heard;
        is_due = append-nil (told_in past ++ shown) ∙ whole;
        listens = a.listens;
      }

  -- what is due where there are more lines
  due_more : (past : List TalkEvent) (peer : P) (machine : M) (out cleared : List ℕ) (lines all : List (List ℕ))
      → Answers past peer machine []
      → all ≡ lines_heard past ++ lines → cleared ≡ [] → out ≡ cleared ++ said_to_lines machine lines
      → told_in past ++ out ≡ opening first ++ said_to_lines first all
  due_more past peer machine out cleared lines all a more clear said =
      ap (λ l. l ++ out) (all_told past peer machine a)
      ∙ append_assoc (opening first) (said_to_lines first (lines_heard past)) out
      ∙ ap (λ l. opening first ++ l)
      (ap (λ l. said_to_lines first (lines_heard past) ++ l)
      (said ∙ ap (λ l. l ++ said_to_lines machine lines) clear ∙ ap (λ m. said_to_lines m lines) a.has_heard)
      ∙ sym (answers_to_lines-append after_line answer_to first (lines_heard past) lines) ∙ ap (said_to_lines first) (sym more))

  after_more : (past : List TalkEvent) (peer : P) (machine machine' : M) (lines all : List (List ℕ))
      → Answers past peer machine []
      → all ≡ lines_heard past ++ lines → machine' ≡ after_lines after_line machine lines
      → machine' ≡ after_lines after_line first all
  after_more past peer machine machine' lines all a more taken =
      taken ∙ ap (λ m. after_lines after_line m lines) a.has_heard
      ∙ sym (after_lines-append after_line answer_to first (lines_heard past) lines)
      ∙ ap (after_lines after_line first) (sym more)

  module _ (turns : ℕ) (peer next : P) (line : List ℕ) (machine : M) (out shown : List ℕ)
    where
      -- what was told before the machine listens
      on : (s : Stands turns peer line machine out) → shown ≡ out → told peer shown next
          → Answers (Told shown ∷ s.past) next machine []
      on s e step = answers_told s.past peer next machine out shown s.answers e step

      -- it listens, since it has not finished
      listens : (s : Stands turns peer line machine out) → has_finished machine ≡ false
          → (finished (Told shown ∷ s.past) ≡ false) × ListensOpen finished (Told shown ∷ s.past)
      listens s going = (ap has_finished (sym s.answers.has_heard) ∙ going, s.answers.listens)

      pub exit_unwritten : (error : Error) → Stands turns peer line machine out → shown ≡ out
          → ((n : ℕ) × tell_failed peer (take n shown) error next) → Holds next machine (WriteFailed error)
      exit_unwritten error s e (n, step) = (
        TellFailed (take n shown) error ∷ s.past,
        (peer, s.answers.went, step),
        (
          (starts_with_some _ shown _ n (ap (λ l. told_in s.past ++ l) e ∙ s.answers.is_due), s.answers.prompt),
          (s.answers.has_heard, refl),
          s.answers.listens,
        ),
      )

      pub exit_over : Stands turns peer line machine out → shown ≡ out → told peer shown next
          → has_finished machine ≡ true → Holds next machine Over
      exit_over s e step over =
          let a = on s e step in
          (Told shown ∷ s.past, a.went, (a.prompt, (all_told _ next machine a, a.has_heard, s.goes_on, over), a.listens))

      pub exit_unread : (last : P) (error : Error) → Stands turns peer line machine out → shown ≡ out
          → told peer shown next → has_finished machine ≡ false → listen_failed next error last → Holds last machine (ReadFailed error)
      exit_unread last error s e step going failed =
          let a = on s e step in
          let same : due (ListenFailed error ∷ Told shown ∷ s.past) ≡ due s.past =
          ap (λ l. opening first ++ said_to_lines first l) (sym (lines_of s.past s.goes_on)) in (
            ListenFailed error ∷ Told shown ∷ s.past,
            (next, a.went, failed),
            (
              (all_told _ next machine a, a.prompt),
              (
                all_told _ next machine a ∙ sym same,
                a.has_heard ∙ ap (after_lines after_line first) (lines_of s.past s.goes_on),
                refl,
              ),
              listens s going,
            ),
          )

      -- the input has ended, and the last line is answered
      answers_end : (last : P) (machine' : M) (cleared out' bytes : List ℕ) (count : ℕ)
          (s : Stands turns peer line machine out) → shown ≡ out → told peer shown next → has_finished machine ≡ false
          → ((count ≡ 0 → ended next last) × (count ≢ 0 → heard next bytes last)) → count ≡ 0 → cleared ≡ []
          → machine' ≡ after_lines after_line machine (last_line line)
          → out' ≡ cleared ++ said_to_lines machine (last_line line) → Answers (Ended ∷ Told shown ∷ s.past) last machine' out'
      answers_end last machine' cleared out' bytes count s e step going h none clear taken said =
          let a = on s e step in
          let more = lines_at_end (Told shown ∷ s.past) line s.goes_on s.cut in
          record {
            went = (next, a.went, h.0 none);
            prompt = (all_told _ next machine a, a.prompt);
            has_heard = after_more (Told shown ∷ s.past) next machine machine' (last_line line) _ a more taken;
            is_due = due_more (Told shown ∷ s.past) next machine out' cleared (last_line line) _ a more clear said;
            listens = listens s going;
          }

      pub exit_told : (last final : P) (machine' : M) (cleared out' shown' bytes : List ℕ) (count : ℕ)
          → Stands turns peer line machine out → shown ≡ out → told peer shown next → has_finished machine ≡ false
          → ((count ≡ 0 → ended next last) × (count ≢ 0 → heard next bytes last)) → count ≡ 0 → cleared ≡ []
          → machine' ≡ after_lines after_line machine (last_line line)
          → out' ≡ cleared ++ said_to_lines machine (last_line line) → shown' ≡ out' → told last shown' final
          → (ending : Ending) → ending ≡ InputEnded → Holds final machine' ending
      exit_told last final machine' cleared out' shown' bytes count s e step going h none clear taken said e' step' ending is =
          let b =
          answers_told _ last final machine' out' shown'
          (answers_end last machine' cleared out' bytes count s e step going h none clear taken said) e' step' in
          subst (Holds final machine') (sym is) (
            Told shown' ∷ Ended ∷ Told shown ∷ s.past,
            b.went,
            (b.prompt, (all_told _ final machine' b, b.has_heard, refl), b.listens),
          )

      pub exit_untold : (last final : P) (machine' : M) (cleared out' shown' bytes : List ℕ) (count : ℕ) (error : Error)
          → Stands turns peer line machine out → shown ≡ out
          → told peer shown next → has_finished machine ≡ false → ((count ≡ 0 → ended next last) × (count ≢ 0 → heard next bytes last)) → count ≡ 0
          → cleared ≡ []
          → machine' ≡ after_lines after_line machine (last_line line)
          → out' ≡ cleared ++ said_to_lines machine (last_line line) → shown' ≡ out'
          → ((n : ℕ) × tell_failed last (take n shown') error final) → (ending : Ending) → ending ≡ WriteFailed error
          → Holds final machine' ending
      exit_untold last final machine' cleared out' shown' bytes count error s e step going h none clear taken said e' (n, step')
          ending is =
          let a = answers_end last machine' cleared out' bytes count s e step going h none clear taken said in
          subst (Holds final machine') (sym is) (
            TellFailed (take n shown') error ∷ Ended ∷ Told shown ∷ s.past,
            (last, a.went, step'),
            (
              (starts_with_some _ shown' _ n (ap (λ l. (told_in s.past ++ shown) ++ l) e' ∙ a.is_due), a.prompt),
              (a.has_heard, refl),
              a.listens,
            ),
          )

      -- some bytes were heard, and the lines that end in them are answered
      pub stands_on : (last : P) (line' : List ℕ) (machine' : M) (cleared out' bytes : List ℕ) (count : ℕ)
          → Stands turns peer line machine out → shown ≡ out → told peer shown next → has_finished machine ≡ false
          → ((count ≡ 0 → ended next last) × (count ≢ 0 → heard next bytes last)) → (count ≡ 0 → ⊥) → cleared ≡ []
          → line' ≡ rest_from line bytes
          → machine' ≡ after_lines after_line machine (lines_from line bytes)
          → out' ≡ cleared ++ said_to_lines machine (lines_from line bytes)
          → Stands (turns + 1) last line' machine' out'
      stands_on last line' machine' cleared out' bytes count s e step going h some clear cut taken said =
          let a = on s e step in
          let more = more_lines (Told shown ∷ s.past) line bytes s.goes_on s.cut in
          record {
            past = Heard bytes ∷ Told shown ∷ s.past;
            long = omega (arith, s.long);
            goes_on = refl;
            cut = cut ∙ ap (λ l. rest_from l bytes) s.cut ∙ sym (rest_from-append [] (heard_in s.past) bytes);
            answers = record {
              went = (next, a.went, h.1 some);
              prompt = (all_told _ next machine a, a.prompt);
              has_heard = after_more (Told shown ∷ s.past) next machine machine' (lines_from line bytes) _ a more taken;
              is_due =
                  due_more (Told shown ∷ s.past) next machine out' cleared (lines_from line bytes) _ a more clear said;
              listens = listens s going;
            };
          }

      -- memory was refused where the end was heard, or some bytes
      pub exit_end_memory : (last : P) (other : M) (bytes : List ℕ) (count : ℕ) → Stands turns peer line machine out
          → shown ≡ out → told peer shown next → has_finished machine ≡ false
          → ((count ≡ 0 → ended next last) × (count ≢ 0 → heard next bytes last)) → count ≡ 0
          → Holds last other OutOfMemory
      exit_end_memory last other bytes count s e step going h none =
          let a = on s e step in
          (Ended ∷ Told shown ∷ s.past, (next, a.went, h.0 none), ((all_told _ next machine a, a.prompt), tt, listens s going))

      pub exit_memory : (last : P) (other : M) (bytes : List ℕ) (count : ℕ) → Stands turns peer line machine out
          → shown ≡ out → told peer shown next → has_finished machine ≡ false
          → ((count ≡ 0 → ended next last) × (count ≢ 0 → heard next bytes last)) → (count ≡ 0 → ⊥)
          → Holds last other OutOfMemory
      exit_memory last other bytes count s e step going h some =
          let a = on s e step in
          (Heard bytes ∷ Told shown ∷ s.past, (next, a.went, h.1 some), ((all_told _ next machine a, a.prompt), tt, listens s going))

-- what an ending says of what was told, where nothing failed
module _ {M : Type 0} (opening : M → List ℕ) (after_line : M → List ℕ → M) (answer_to : M → List ℕ → List ℕ)
    (has_finished : M → Bool) (first machine : M)
    (past : List TalkEvent) (ending : Ending) where
  abbrev Ends : Ending → Type 0
  Ends =
      IsEndingOf (due_in opening after_line answer_to first) (machine_after after_line first) has_finished past machine

  pub told_to_end : ending ≡ InputEnded → Ends ending
      → (is_at_end past ≡ true) × (told_in past ≡ said_to_all opening after_line answer_to first (heard_in past))
  told_to_end e h =
      let k : Ends InputEnded = subst Ends e h in
      let said : List (List ℕ) → List ℕ = λ lines. opening first ++ answers_to_lines after_line answer_to first lines in
      (k.2, k.0 ∙ ap (λ b. said (cond b (all_lines (heard_in past)) (whole_lines (heard_in past)))) k.2)

  pub told_when_over : StaysOver after_line answer_to has_finished → ending ≡ Over → Ends ending → (rest : List ℕ)
      → said_to_all opening after_line answer_to first (heard_in past ++ rest) ≡ told_in past
  told_when_over stays_over e h rest =
      let k : Ends Over = subst Ends e h in
      let lines : lines_heard past ≡ whole_lines (heard_in past) = lines_of past k.2 in
      let over : has_finished (after_lines after_line first (whole_lines (heard_in past))) ≡ true =
      ap has_finished (sym (k.1 ∙ ap (after_lines after_line first) lines)) ∙ k.3 in
      said_to_all-over after_line answer_to has_finished stays_over opening first (heard_in past) rest over
      ∙ ap (λ l. opening first ++ answers_to_lines after_line answer_to first l) (sym lines) ∙ sym k.0
