-- Trials of parts behind one another, and what they answered.
use Rattle.std.proofs.Common.{◌≡◌, ◌∙◌, ◌+◌, ◌<◌, ◌≤◌, ◌==◌, inl, inr, ℕ, Bool, true, false, List, [], ◌∷◌, length, Option, Some, None, Result, Ok, Err, IsErrAnd, MatchResult, refl, sym, ap, subst, arith, eq-eqb}
use Rattle.std.proofs.KnownBytes.{Appends-nil, Appends-trans, Consumes-nil, Consumes-trans}
use Rattle.std.proofs.lemmas.Bool.{eqb-true, false≢true}
use Rattle.std.proofs.lemmas.List.Elements.{Contains-append_left, Contains-append_right, Contains-push, Contains-push_cases}
use Rattle.std.specs.List.{Contains}
use Rattle.std.specs.Prelude.{IsSome, is_some}
use Rattle.jh_checkers.specs.declared.finding.Judging.{Judging}
use Rattle.jh_drive.specs.declared.error.DriveError.{DriveError}
use Rattle.jh_drive.specs.declared.error.DriveError.TheVariants.{Settings, SettingsRead, BadPalette, Reply, RepliesEnded, Read, TooManyTurns, Mismatch, Write, OutOfMemory}
use Rattle.jh_drive_search.specs.DriveSearch.{Tried, heard_in_all, read_in, told_in_all}
use Rattle.jh_lines.specs.Events.{heard_in, told_in}
use Rattle.jh_shrink.specs.Shrunk.{IsSubsequence}
use Rattle.jh_simnode.specs.declared.schedule.Entry.{Entry}
use Rattle.jh_test_parts.specs.Test.{TestValue}
use Rattle.jh_test_parts.specs.declared.parts.TestEntry.{TestEntry}
use Rattle.jh_trials.specs.Held.{FailsTrial}
use Rattle.jh_trials.specs.Trials.{TrialValue, IsTrialBegun}
use Rattle.jh_drive_shrink.specs.DriveShrink.{BreaksShrinking, IsNextPart, IsPartBroken, entries_tried, test_of_part}
use Rattle.jh_drive_shrink.specs.PartsInside.{part_at, place_numbers, standing_at}
use Rattle.jh_drive_shrink.specs.ShrinkInside.{AreAnswersOf, AreAtError, FailsTest, HasAnswered, HaveAnswered, IsAnswerOf, IsLearnt, IsTestHeld, KeepsAnswers, WerePartsHeld}
use Rattle.jh_drive_shrink.proofs.PartLemmas.{standing_is_part}
use Rattle.jh_drive_shrink.specs.declared.judge.Progress.{Progress}
use Rattle.jh_drive_shrink.specs.declared.trying.HeldTrial.{HeldTrial}

pub err_matched : {A : Type 0} (result : Result A DriveError) (error : DriveError) (P : A → Type 0) (Q : DriveError → Type 0)
    → IsErrAnd result (λ it. it ≡ error) → Q error → MatchResult result P Q
err_matched (Err it) error P Q is met = subst Q (sym is) met
err_matched (Ok it) error P Q is met = absurd is

pub is_none : {X : Type 0} (o : Option X) → is_some o ≡ false → o ≡ None
is_none None is = refl
is_none (Some x) is = absurd (false≢true (sym is))

-- ---- what was answered

later : {X : Type 0} (x : X) (xs : List X) (y : X) → Contains xs y → Contains (x ∷ xs) y
later x xs y it = Contains-append_right (x ∷ []) xs y it

first_of_all : {X : Type 0} (x : X) (xs : List X) → Contains (x ∷ xs) x
first_of_all x xs = (0, omega arith, refl)

answered_still : (t : TestValue) (tried : Tried) (trials : List Tried) (places : List ℕ) (failed : Bool) → IsAnswerOf t trials places failed → IsAnswerOf t (tried ∷ trials) places failed
answered_still t tried trials places true it = (it.0, later tried trials it.0 it.1, it.2, it.3)
answered_still t tried trials places false it = (it.0, later tried trials it.0 it.1, it.2, it.3)

answered_now : (t : TestValue) (tried : Tried) (trials : List Tried) (places : List ℕ) (failed : Bool) → entries_tried tried ≡ standing_at 0 t.schedule places → failed ≡ (tried.status == 1)
    → IsAnswerOf t (tried ∷ trials) places failed
answered_now t tried trials places true same fails = (tried, first_of_all tried trials, same, eqb-true tried.status 1 (sym fails))
answered_now t tried trials places false same fails =
    (tried, first_of_all tried trials, same, λ is. false≢true (fails ∙ eq-eqb tried.status 1 is))

pub answers_more : (t : TestValue) (tried : Tried) (trials : List Tried) (one next : Progress) (places : List ℕ) (held : HeldTrial) (failed : Bool)
    → entries_tried tried ≡ standing_at 0 t.schedule places → tried.status ≡ held.judged.status → IsLearnt one next places held failed
    → AreAnswersOf t trials one.answers.items → AreAnswersOf t (tried ∷ trials) next.answers.items
answers_more t tried trials one next places held failed same is learnt known answer it =
    elim (Contains-push_cases one.answers.items learnt.answer answer (subst (λ l. Contains l answer) learnt.more it)) [
      | inl old ↦ answered_still t tried trials answer.places.items answer.failed (known answer old)
      | inr new ↦
          let fails = learnt.has_failed ∙ learnt.fails ∙ ap (λ n. n == 1) (sym is) in
          subst (λ a. IsAnswerOf t (tried ∷ trials) a.places.items a.failed) new
          (answered_now t tried trials learnt.answer.places.items learnt.answer.failed (same ∙ ap (standing_at 0 t.schedule) (sym learnt.of_places)) fails)
    ]

pub learnt_keeps : (one next : Progress) (places : List ℕ) (held : HeldTrial) (failed : Bool) → IsLearnt one next places held failed → KeepsAnswers one next
learnt_keeps one next places held failed learnt = record {
  answers = λ answer it. subst (λ l. Contains l answer) (sym learnt.more) (Contains-append_left one.answers.items (learnt.answer ∷ []) answer it);
  none = λ it. subst IsSome (sym learnt.error) it;
}

pub learnt_answer : (one next : Progress) (places : List Entry) (held : HeldTrial) (failed : Bool) → IsLearnt one next (place_numbers places) held failed → HasAnswered next places (Some failed)
learnt_answer one next places held failed learnt =
    (learnt.answer, subst (λ l. Contains l learnt.answer) (sym learnt.more) (Contains-push one.answers.items learnt.answer), learnt.of_places, learnt.has_failed)

pub answer_of : (t : TestValue) (trials : List Tried) (progress : Progress) (places : List Entry) (failed : Bool) → AreAnswersOf t trials progress.answers.items
    → HasAnswered progress places (Some failed) → IsAnswerOf t trials (place_numbers places) failed
answer_of t trials progress places failed known said =
    subst (IsAnswerOf t trials (place_numbers places)) said.3 (subst (λ l. IsAnswerOf t trials l said.0.failed) said.2 (known said.0 said.1))

-- ---- trials

module _ (t : TestValue) (judging : Judging) (input before : Option (List ℕ)) where
  pub breaks : (n : ℕ) (rest after : Option (List ℕ)) (error : DriveError) → IsPartBroken t judging n input rest before after error → BreaksShrinking t judging n input rest before after error
  breaks n rest after (Settings e) broken = broken
  breaks n rest after SettingsRead broken = broken
  breaks n rest after BadPalette broken = broken
  breaks n rest after (Reply number why) broken = broken
  breaks n rest after RepliesEnded broken = broken
  breaks n rest after Read broken = broken
  breaks n rest after TooManyTurns broken = broken
  breaks n rest after Mismatch broken = broken
  breaks n rest after Write broken = tt
  breaks n rest after OutOfMemory broken = tt

  within_more : (n m : ℕ) (rest after : Option (List ℕ)) (error : DriveError) → n ≤ m → IsPartBroken t judging n input rest before after error → IsPartBroken t judging m input rest before after error
  within_more n m rest after error le it = record {
    earlier = it.earlier;
    tried = it.tried;
    within = omega (arith, it.within, le);
    part = it.part;
    first = it.first;
    last = it.last;
    begun = it.begun;
    input_then = it.input_then;
    output_then = it.output_then;
    heard = it.heard;
    written = it.written;
    fails = it.fails;
  }

  -- more might be held
  pub breaks_more : (n m : ℕ) (rest after : Option (List ℕ)) (error : DriveError) → n ≤ m → BreaksShrinking t judging n input rest before after error → BreaksShrinking t judging m input rest before after error
  breaks_more n m rest after (Settings e) le it = within_more n m rest after (Settings e) le it
  breaks_more n m rest after SettingsRead le it = within_more n m rest after SettingsRead le it
  breaks_more n m rest after BadPalette le it = within_more n m rest after BadPalette le it
  breaks_more n m rest after (Reply number why) le it = within_more n m rest after (Reply number why) le it
  breaks_more n m rest after RepliesEnded le it = within_more n m rest after RepliesEnded le it
  breaks_more n m rest after Read le it = within_more n m rest after Read le it
  breaks_more n m rest after TooManyTurns le it = within_more n m rest after TooManyTurns le it
  breaks_more n m rest after Mismatch le it = within_more n m rest after Mismatch le it
  breaks_more n m rest after Write le it = tt
  breaks_more n m rest after OutOfMemory le it = tt

  module _ (mid between : Option (List ℕ)) (count read : ℕ) (trials : List Tried) (h : WerePartsHeld t judging input mid before between count read trials)
      (part : List TestEntry) (is_part : IsSubsequence part t.schedule) where
    next_part : (first : TrialValue) → IsTrialBegun (test_of_part t part) count read first → IsNextPart t judging trials part first
    next_part first begun =
        (is_part, subst (λ n. IsTrialBegun (test_of_part t part) n (read_in trials) first) (sym h.so_many) (subst (λ r. IsTrialBegun (test_of_part t part) count r first) h.lines begun))

    module _ (rest after : Option (List ℕ)) where
      pub tried_part : (held : HeldTrial) (it : IsTestHeld (test_of_part t part) judging count read mid rest between after held)
          → it.0.conversation.test.schedule ≡ part
      tried_part held it = ap (λ test. test.schedule) it.1.is_begun.0

      -- one more was held
      pub held_more : (held : HeldTrial) (it : IsTestHeld (test_of_part t part) judging count read mid rest between after held)
          → WerePartsHeld t judging input rest before after (count + 1) held.trial.read (record { first = it.0; last = held.trial; past = it.2.0; status = held.judged.status } ∷ trials)
      held_more held it = record {
        tried = ((subst (λ p. IsNextPart t judging trials p it.0) (sym (tried_part held it)) (next_part it.0 it.1), (held.judged.text.items, it.2.1)), h.tried);
        so_many = omega (arith, h.so_many);
        lines = refl;
        heard = Consumes-trans _ _ _ (heard_in_all trials) (heard_in it.2.0) h.heard it.2.2;
        told = Appends-trans _ _ _ (told_in_all trials) (told_in it.2.0) h.told it.2.3;
      }

      broken_by : (n : ℕ) (error : DriveError) → count ≤ n
          → (first last : TrialValue) × IsTrialBegun (test_of_part t part) count read first × FailsTrial judging first last mid rest between after error
          → IsPartBroken t judging n input rest before after error
      broken_by n error le it = record {
        earlier = trials;
        tried = h.tried;
        within = omega (arith, h.so_many, le);
        part = part;
        first = it.0;
        last = it.1;
        begun = next_part it.0 it.2;
        input_then = mid;
        output_then = between;
        heard = h.heard;
        written = h.told;
        fails = it.3;
      }

      -- the next one did not come to its end
      pub held_in_part : (n : ℕ) (error : DriveError) → count ≤ n → FailsTest (test_of_part t part) judging count read mid rest between after error
          → BreaksShrinking t judging n input rest before after error
      held_in_part n (Settings e) le it = broken_by n (Settings e) le it
      held_in_part n SettingsRead le it = broken_by n SettingsRead le it
      held_in_part n BadPalette le it = broken_by n BadPalette le it
      held_in_part n (Reply number why) le it = broken_by n (Reply number why) le it
      held_in_part n RepliesEnded le it = broken_by n RepliesEnded le it
      held_in_part n Read le it = broken_by n Read le it
      held_in_part n TooManyTurns le it = broken_by n TooManyTurns le it
      held_in_part n Mismatch le it = broken_by n Mismatch le it
      held_in_part n Write le it = tt
      held_in_part n OutOfMemory le it = tt

  -- the trial of the part at these places answered, or did not come to its end
  module _ (mid between rest after : Option (List ℕ)) (count : ℕ) (one : Progress) (places : List Entry) (it : HaveAnswered t judging input mid before between count one) where
    pub went_on : (next : Progress) (held : HeldTrial) (failed : Bool)
        → IsTestHeld (test_of_part t (part_at t places)) judging count one.read mid rest between after held → IsLearnt one next (place_numbers places) held failed
        → HaveAnswered t judging input rest before after (count + 1) next
    went_on next held failed is_held learnt =
        let part = part_at t places in
        let is_part = standing_is_part 0 t.schedule (place_numbers places) in
        let tried : Tried = record { first = is_held.0; last = held.trial; past = is_held.2.0; status = held.judged.status } in (
          tried ∷ it.0,
          subst (λ r. WerePartsHeld t judging input rest before after (count + 1) r (tried ∷ it.0)) (sym learnt.read) (held_more mid between count one.read it.0 it.1 part is_part rest after held is_held),
          answers_more t tried it.0 one next (place_numbers places) held failed (tried_part mid between count one.read it.0 it.1 part is_part rest after held is_held) refl learnt it.2,
        )

    pub went_wrong : (error : DriveError) → FailsTest (test_of_part t (part_at t places)) judging count one.read mid rest between after error → BreaksShrinking t judging (count + 1) input rest before after error
    went_wrong error fails =
        held_in_part mid between count one.read it.0 it.1 (part_at t places) (standing_is_part 0 t.schedule (place_numbers places)) rest after (count + 1) error (omega arith) fails

  -- none was held yet
  pub at_first : (p : Progress) → p.answers.items ≡ [] → p.read ≡ 0 → HaveAnswered t judging input input before before 0 p
  at_first p none read = (
    [],
    record { tried = tt; so_many = refl; lines = read; heard = Consumes-nil input; told = Appends-nil before },
    λ answer it. let within : it.0 < length p.answers.items = it.1 in absurd (omega (arith, within, ap length none)),
  )

  -- so many were held, and each came to its end
  pub at_none : (rest after : Option (List ℕ)) (count : ℕ) (p : Progress) → p.asked ≡ count → p.error ≡ None → HaveAnswered t judging input rest before after count p
      → AreAtError t judging input rest before after p p.error
  at_none rest after count p as_many none it =
      subst (AreAtError t judging input rest before after p) (sym none) (subst (λ n. HaveAnswered t judging input rest before after n p) (sym as_many) it)
