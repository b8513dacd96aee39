-- Known bytes of a reader that gives a line at a time.
use Rattle.std.proofs.Common.{◌≡◌, ℕ, Bool, true, false, cond, ◌==◌, List, [], ◌∷◌, ◌++◌, ◌⊎◌, inl, inr, refl, sym, ap, ◌∙◌, subst}
use Rattle.std.proofs.Common.{if◌then◌else◌, length, take, drop, ◌+◌, ◌<◌, ◌≢◌, slice_index_or, zero, suc, arith, append_assoc, take-append-drop}
use Rattle.std.proofs.Math.Seq.{drop-append_seam, drop-length}
use Rattle.std.proofs.lemmas.List.{length-append, length-take, nil_from_length}
use Rattle.std.specs.Prelude.{min, Result, Ok, Err}
use Rattle.std.specs.Io.KnownBytes.{Appends, Consumes, IsAtEnd, Keeps, prepend_known}
use Rattle.std.proofs.KnownBytes.{Appends-nil, Appends-trans, Consumes-nil, Consumes-trans, Consumes-kept}
use Rattle.std.proofs.Common.{append-nil}
use Rattle.std.specs.declared.option.Option.{Option}
use Rattle.std.specs.declared.option.Option.TheVariants.{None, Some}
use Rattle.std.specs.declared.io.Error.{Error}
use Rattle.std.specs.Io.BufRead.{take_through}
use Rattle.jh_lines.specs.Answering.{after_lines}
use Rattle.jh_lines.specs.ByLines.{StopsAtFeed}
use Rattle.jh_lines.specs.Events.{TalkEvent, Told, Heard, Ended, TellFailed, ListenFailed, Went, heard_in, told_in}
use Rattle.jh_lines.specs.Endings.{IsConversation}
use Rattle.jh_lines.specs.declared.ending.Ending.{Ending}
use Rattle.jh_lines.specs.declared.ending.Ending.TheVariants.{Over}
use Rattle.jh_lines.specs.Events.{ListensOpen, is_at_end, machine_after}
use Rattle.jh_lines.specs.Lines.{all_lines, last_line, lines_from, rest_from, whole_lines}
use Rattle.jh_lines.proofs.LineLemmas.{StaysOver, after_lines-append, lines_from-append, rest_from-append}

false-true : false ≡ true → ⊥
false-true e = cc

-- a line is read where nothing of the one before it is left
pub fills : (a b : Option (List ℕ)) (before line : List ℕ) → before ≡ [] → Consumes a b line
    → Keeps (prepend_known before a) (prepend_known line b)
fills None b before line none read = tt
fills (Some x) None before line none read = absurd read
fills (Some x) (Some y) before line none read = sym (ap (λ l. l ++ x) none ∙ read)

pub ends : (a : Option (List ℕ)) (before : List ℕ) → before ≡ [] → IsAtEnd a → IsAtEnd (prepend_known before a)
ends None before none end = tt
ends (Some x) before none end = ap (λ l. l ++ x) none ∙ end

-- ---- the bytes up to a line feed

-- none of the first so many bytes is a feed
abbrev pub HasNoFeedBefore : ℕ → List ℕ → Type 0
HasNoFeedBefore place bytes = (i : ℕ) → i < place → slice_index_or bytes i 0 ≢ 10

pub no_feed_more : (bytes : List ℕ) (place : ℕ) → HasNoFeedBefore place bytes → slice_index_or bytes place 0 ≢ 10
    → HasNoFeedBefore (place + 1) bytes
no_feed_more bytes place before here i within =
    (elim (i == place) as (λ b. ((i == place) ≡ b) → slice_index_or bytes i 0 ≢ 10) [
      | true ↦ λ is.
          let same : i ≡ place = grind (arith, is) in
          subst (λ k. slice_index_or bytes k 0 ≢ 10) (sym same) here
      | false ↦ λ isnt.
          let other : i ≢ place = λ e. grind (arith, isnt, e) in
          before i (omega (arith, other, within))
    ]) refl

through_other : (byte : ℕ) (bytes : List ℕ) → byte ≢ 10 → take_through 10 (byte ∷ bytes) ≡ byte ∷ take_through 10 bytes
through_other byte bytes other =
    (elim (byte == 10) as (λ b. ((byte == 10) ≡ b) → (if b then byte ∷ [] else byte ∷ take_through 10 bytes) ≡ byte ∷ take_through 10 bytes) [
      | true ↦ λ is. absurd (other (grind (arith, is)))
      | false ↦ λ isnt. refl
    ]) refl

through_at_next : (bytes : List ℕ) (place : ℕ) → HasNoFeedBefore place bytes → place < length bytes
    → slice_index_or bytes place 0 ≡ 10 → take (suc place) bytes ≡ take_through 10 bytes
through_at_next [] place before within here = absurd (omega (arith, within))
through_at_next (byte ∷ bytes) zero before within here = rw here refl
through_at_next (byte ∷ bytes) (suc place) before within here =
    ap (λ l. byte ∷ l) (through_at_next bytes place (λ i below. before (suc i) (omega (arith, below))) (omega (arith, within)) here)
    ∙ sym (through_other byte bytes (before 0 (omega arith)))

pub through_at : (bytes : List ℕ) (place : ℕ) → HasNoFeedBefore place bytes → place < length bytes
    → slice_index_or bytes place 0 ≡ 10 → take (place + 1) bytes ≡ take_through 10 bytes
through_at bytes place before within here =
    ap (λ n. take n bytes) {x = place + 1} {y = suc place} (omega arith) ∙ through_at_next bytes place before within here

pub through_all : (bytes : List ℕ) → HasNoFeedBefore (length bytes) bytes → bytes ≡ take_through 10 bytes
through_all [] before = refl
through_all (byte ∷ bytes) before =
    ap (λ l. byte ∷ l) (through_all bytes (λ i below. before (suc i) (omega (arith, below))))
    ∙ sym (through_other byte bytes (before 0 (omega arith)))

-- what is taken through a feed stops there
pub through_stops : (bytes : List ℕ) → StopsAtFeed (take_through 10 bytes)
through_stops [] = refl
through_stops (byte ∷ bytes) =
    (elim (byte == 10) as (λ b. ((byte == 10) ≡ b) → take_through 10 (if b then byte ∷ [] else byte ∷ take_through 10 bytes)
    ≡ (if b then byte ∷ [] else byte ∷ take_through 10 bytes)) [
      | true ↦ λ is. ap (λ b. if b then byte ∷ [] else byte ∷ []) is
      | false ↦ λ isnt. ap (λ b. if b then byte ∷ [] else byte ∷ take_through 10 (take_through 10 bytes)) isnt
          ∙ ap (λ l. byte ∷ l) (through_stops bytes)
    ]) refl

-- and is the front of the bytes
pub through_front : (bytes : List ℕ) → bytes ≡ take_through 10 bytes ++ drop (length (take_through 10 bytes)) bytes
through_front [] = refl
through_front (byte ∷ bytes) =
    elim (byte == 10) as (λ b. byte ∷ bytes ≡ (if b then byte ∷ [] else byte ∷ take_through 10 bytes)
    ++ drop (length (if b then byte ∷ [] else byte ∷ take_through 10 bytes)) (byte ∷ bytes)) [
      | true ↦ refl
      | false ↦ ap (λ l. byte ∷ l) (through_front bytes)
    ]

front_of : (xs p q r : List ℕ) → xs ≡ (p ++ q) ++ r → xs ≡ p ++ drop (length p) xs
front_of xs p q r e =
    let parts = e ∙ append_assoc p q r in
    parts ∙ ap (λ l. p ++ l) (sym (ap (drop (length p)) parts ∙ drop-append_seam p (q ++ r)))

through_none : (bytes : List ℕ) → take_through 10 bytes ≡ [] → bytes ≡ []
through_none [] none = refl
through_none (byte ∷ bytes) none =
    elim (byte == 10) as (λ b. ((if b then byte ∷ [] else byte ∷ take_through 10 bytes) ≡ []) → byte ∷ bytes ≡ []) [
      | true ↦ λ some. absurd (omega (arith, ap length some))
      | false ↦ λ some. absurd (omega (arith, ap length some))
    ] none

abbrev count_in : {E : Type 0} → Result ℕ E → ℕ
count_in (Ok count) = count
count_in (Err error) = 0

pub same_count : {E : Type 0} (n m : ℕ) → ◌≡◌ {A = Result ℕ E} (Ok n) (Ok m) → n ≡ m
same_count n m same = ap count_in same

-- some bytes of a line were given, into a buffer with room
module _ (unread buffer filled rest : List ℕ) (most count : ℕ) (room : 0 < length buffer)
    (at_most : most ≡ min (length unread) (length buffer))
    (counted : count ≡ min (length (take_through 10 (take most unread))) (length buffer))
    (read : take_through 10 (take most unread) ≡ take count filled ++ rest)
    (left : rest ≡ drop count (take_through 10 (take most unread))) where
  abbrev piece : List ℕ
  piece = take_through 10 (take most unread)

  all_given : count ≡ length piece
  all_given = omega (
    arith,
    at_most,
    counted,
    sym (ap length (through_front (take most unread)))
        ∙ length-take most unread,
    length-append piece (drop (length piece) (take most unread)),
  )

  given_is : take count filled ≡ piece
  given_is = sym (read ∙ ap (λ l. take count filled ++ l) (left ∙ ap (λ n. drop n piece) all_given ∙ drop-length piece)
      ∙ append-nil (take count filled))

  pub given_stops : StopsAtFeed (take count filled)
  given_stops = subst StopsAtFeed (sym given_is) (through_stops (take most unread))

  pub given_front : unread ≡ take count filled ++ drop count unread
  given_front = front_of unread piece (drop (length piece) (take most unread)) (drop most unread)
      (sym (take-append-drop most unread) ∙ ap (λ l. l ++ drop most unread) (through_front (take most unread)))
      ∙ ap (λ n. piece ++ drop n unread) (sym all_given) ∙ ap (λ l. l ++ drop count unread) (sym given_is)

  pub given_none : count ≡ 0 → unread ≡ []
  given_none none =
      let nothing : take most unread ≡ [] = through_none (take most unread) (nil_from_length piece (sym all_given ∙ none)) in
      nil_from_length unread (omega (arith, at_most, room, sym (length-take most unread) ∙ ap length nothing))

-- ---- where what was heard ends with a line

abbrev pub ArePieces : List TalkEvent → Type 0
ArePieces [] = Unit {0}
ArePieces (Told bytes ∷ past) = ArePieces past
ArePieces (Heard bytes ∷ past) = StopsAtFeed bytes × ArePieces past
ArePieces (Ended ∷ past) = ArePieces past
ArePieces (TellFailed bytes error ∷ past) = ArePieces past
ArePieces (ListenFailed error ∷ past) = ArePieces past

-- bytes of one line end no line, or nothing has come of the next one
no_line_or_rest : (line bytes : List ℕ) → StopsAtFeed bytes → (lines_from line bytes ≡ []) ⊎ (rest_from line bytes ≡ [])
no_line_or_rest line [] stops = inl refl
no_line_or_rest line (byte ∷ bytes) stops =
    elim (byte == 10) as (λ b. ((if b then byte ∷ [] else byte ∷ take_through 10 bytes) ≡ byte ∷ bytes)
    → (cond b (line ∷ lines_from [] bytes) (lines_from (line ++ byte ∷ []) bytes) ≡ [])
    ⊎ (cond b (rest_from [] bytes) (rest_from (line ++ byte ∷ []) bytes) ≡ [])) [
      | true ↦ λ one. inr (ap (rest_from []) (sym (ap (drop 1) one)))
      | false ↦ λ more. no_line_or_rest (line ++ byte ∷ []) bytes (ap (drop 1) more)
    ] stops

module _ {M : Type 0} (after_line : M → List ℕ → M) (answer_to : M → List ℕ → List ℕ) (has_finished : M → Bool)
    (stays_over : StaysOver after_line answer_to has_finished) (first : M) where
  stays : (m : M) (lines : List (List ℕ)) → has_finished m ≡ true → has_finished (after_lines after_line m lines) ≡ true
  stays m [] over = over
  stays m (line ∷ lines) over = stays (after_line m line) lines (stays_over m line over).1

  abbrev finished : List TalkEvent → Bool
  finished past = has_finished (machine_after after_line first past)

  abbrev finished_by : List (List ℕ) → Bool
  finished_by lines = has_finished (after_lines after_line first lines)

  -- whole lines that finish it finish it at the end too
  finished_at_end : (bytes : List ℕ) (at_end : Bool) → finished_by (whole_lines bytes) ≡ true
      → finished_by (cond at_end (all_lines bytes) (whole_lines bytes)) ≡ true
  finished_at_end bytes false over = over
  finished_at_end bytes true over =
      ap has_finished (after_lines-append after_line answer_to first (whole_lines bytes) (last_line (rest_from [] bytes)))
      ∙ stays (after_lines after_line first (whole_lines bytes)) (last_line (rest_from [] bytes)) over

  apart : {x : Bool} → x ≡ false → x ≡ true → ⊥
  apart isnt is = absurd (false-true (sym isnt ∙ is))

  pub ends_with_line : (past : List TalkEvent) → ArePieces past → ListensOpen finished past → is_at_end past ≡ false
      → finished past ≡ true → rest_from [] (heard_in past) ≡ []
  ends_with_line [] pieces going goes over = refl
  ends_with_line (Told bytes ∷ past) pieces going goes over = ends_with_line past pieces going goes over
  ends_with_line (Heard bytes ∷ past) (one, pieces) (going, goings) goes over =
      elim (no_line_or_rest (rest_from [] (heard_in past)) bytes one) [
        | inr none ↦ rest_from-append [] (heard_in past) bytes ∙ none
        | inl none ↦
            let same : whole_lines (heard_in past ++ bytes) ≡ whole_lines (heard_in past) =
            lines_from-append [] (heard_in past) bytes ∙ ap (λ l. whole_lines (heard_in past) ++ l) none
            ∙ append-nil (whole_lines (heard_in past)) in
            absurd (apart going (finished_at_end (heard_in past) (is_at_end past) (ap finished_by (sym same) ∙ over)))
      ]
  ends_with_line (Ended ∷ past) pieces going goes over = absurd (apart goes refl)
  ends_with_line (TellFailed bytes error ∷ past) pieces going goes over = ends_with_line past pieces going goes over
  ends_with_line (ListenFailed error ∷ past) pieces (going, goings) goes over =
      absurd (apart going (finished_at_end (heard_in past) (is_at_end past) over))

-- a conversation that is over heard whole lines
module _ {M : Type 0} (opening : M → List ℕ) (after_line : M → List ℕ → M) (answer_to : M → List ℕ → List ℕ)
    (has_finished : M → Bool) (stays_over : StaysOver after_line answer_to has_finished) (first machine : M)
    (past : List TalkEvent) (ending : Ending) where
  abbrev Talks : Ending → Type 0
  Talks = IsConversation opening after_line answer_to has_finished first past machine

  pub over_with_line : ArePieces past → Talks ending → ending ≡ Over → rest_from [] (heard_in past) ≡ []
  over_with_line pieces talk is =
      let over : Talks Over = subst Talks is talk in
      let ended = over.1 in
      ends_with_line after_line answer_to has_finished stays_over first past pieces over.2 ended.2
      (ap has_finished (sym ended.1) ∙ ended.3)

module _ {S R W N : Type 0} (reader : S → R) (writer : S → W) (left : R → Option (List ℕ)) (contents : W → Option (List ℕ))
    (reader_name : R → N) (writer_name : W → N) where
  abbrev pub TellsTo : S → List ℕ → S → Type 0
  TellsTo s bytes t =
      (reader t ≡ reader s) × (writer_name (writer t) ≡ writer_name (writer s)) × Appends (contents (writer s)) (contents (writer t)) bytes

  abbrev pub HearsFrom : S → List ℕ → S → Type 0
  HearsFrom s bytes t =
      (writer t ≡ writer s) × (reader_name (reader t) ≡ reader_name (reader s)) × Consumes (left (reader s)) (left (reader t)) bytes
      × StopsAtFeed bytes

  abbrev pub EndsAt : S → S → Type 0
  EndsAt s t =
      (writer t ≡ writer s) × (reader_name (reader t) ≡ reader_name (reader s)) × Consumes (left (reader s)) (left (reader t)) []
      × IsAtEnd (left (reader s))

  abbrev pub FailsToTell : S → List ℕ → Error → S → Type 0
  FailsToTell s bytes error t = TellsTo s bytes t

  abbrev pub FailsToListen : S → Error → S → Type 0
  FailsToListen s error t =
      (writer t ≡ writer s) × (reader_name (reader t) ≡ reader_name (reader s)) × Keeps (left (reader s)) (left (reader t))

  abbrev pub WentOn : S → List TalkEvent → S → Type 0
  WentOn s past t = Went TellsTo HearsFrom EndsAt FailsToTell FailsToListen s past t

  -- what passed by turns was taken from the lines, and went to the writer
  pub went_by_lines : (s t : S) (past : List TalkEvent) → WentOn s past t
      → Consumes (left (reader s)) (left (reader t)) (heard_in past)
      × Appends (contents (writer s)) (contents (writer t)) (told_in past)
  went_by_lines s t [] same =
      subst (λ u. Consumes (left (reader s)) (left (reader u)) [] × Appends (contents (writer s)) (contents (writer u)) [])
      (sym same) (Consumes-nil (left (reader s)), Appends-nil (contents (writer s)))
  went_by_lines s t (Told bytes ∷ past) (mid, before, (kept, named, step)) =
      let first = went_by_lines s mid past before in (
        subst (λ r. Consumes (left (reader s)) (left r) (heard_in past)) (sym kept) first.0,
        Appends-trans _ _ _ (told_in past) bytes first.1 step,
      )
  went_by_lines s t (Heard bytes ∷ past) (mid, before, (kept, named, step, stops)) =
      let first = went_by_lines s mid past before in (
        Consumes-trans _ _ _ (heard_in past) bytes first.0 step,
        subst (λ w. Appends (contents (writer s)) (contents w) (told_in past)) (sym kept) first.1,
      )
  went_by_lines s t (Ended ∷ past) (mid, before, (kept, named, step, end)) =
      let first = went_by_lines s mid past before in (
        subst (Consumes (left (reader s)) (left (reader t))) (append-nil (heard_in past))
            (Consumes-trans _ _ _ (heard_in past) [] first.0 step),
        subst (λ w. Appends (contents (writer s)) (contents w) (told_in past)) (sym kept) first.1,
      )
  went_by_lines s t (TellFailed bytes error ∷ past) (mid, before, (kept, named, step)) =
      let first = went_by_lines s mid past before in (
        subst (λ r. Consumes (left (reader s)) (left r) (heard_in past)) (sym kept) first.0,
        Appends-trans _ _ _ (told_in past) bytes first.1 step,
      )
  went_by_lines s t (ListenFailed error ∷ past) (mid, before, (kept, named, step)) =
      let first = went_by_lines s mid past before in (
        Consumes-kept _ _ _ (heard_in past) first.0 step,
        subst (λ w. Appends (contents (writer s)) (contents w) (told_in past)) (sym kept) first.1,
      )

  -- the lines and the writer are those that were lent
  abbrev NamedAs : S → S → Type 0
  NamedAs s t = (reader_name (reader t) ≡ reader_name (reader s)) × (writer_name (writer t) ≡ writer_name (writer s))

  pub named_as : (s t : S) (past : List TalkEvent) → WentOn s past t → NamedAs s t
  named_as s t [] same = (ap (λ u. reader_name (reader u)) same, ap (λ u. writer_name (writer u)) same)
  named_as s t (Told bytes ∷ past) (mid, before, (kept, named, step)) =
      let first = named_as s mid past before in (ap reader_name kept ∙ first.0, named ∙ first.1)
  named_as s t (Heard bytes ∷ past) (mid, before, (kept, named, step, stops)) =
      let first = named_as s mid past before in (named ∙ first.0, ap writer_name kept ∙ first.1)
  named_as s t (Ended ∷ past) (mid, before, (kept, named, step, end)) =
      let first = named_as s mid past before in (named ∙ first.0, ap writer_name kept ∙ first.1)
  named_as s t (TellFailed bytes error ∷ past) (mid, before, (kept, named, step)) =
      let first = named_as s mid past before in (ap reader_name kept ∙ first.0, named ∙ first.1)
  named_as s t (ListenFailed error ∷ past) (mid, before, (kept, named, step)) =
      let first = named_as s mid past before in (named ∙ first.0, ap writer_name kept ∙ first.1)

  -- each time bytes of one line were heard
  pub pieces_of : (s t : S) (past : List TalkEvent) → WentOn s past t → ArePieces past
  pieces_of s t [] same = tt
  pieces_of s t (Told bytes ∷ past) (mid, before, step) = pieces_of s mid past before
  pieces_of s t (Heard bytes ∷ past) (mid, before, (kept, named, step, stops)) = (stops, pieces_of s mid past before)
  pieces_of s t (Ended ∷ past) (mid, before, step) = pieces_of s mid past before
  pieces_of s t (TellFailed bytes error ∷ past) (mid, before, step) = pieces_of s mid past before
  pieces_of s t (ListenFailed error ∷ past) (mid, before, step) = pieces_of s mid past before
