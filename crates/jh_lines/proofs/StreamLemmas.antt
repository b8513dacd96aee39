-- Known bytes that are written piece by piece, and read and written by turns.
use Rattle.std.proofs.Common.{◌≡◌, ℕ, ◌+◌, ◌-◌, List, [], ◌∷◌, ◌++◌, take, drop, length, length-drop, sym, ap, refl}
use Rattle.std.proofs.Common.{◌∙◌, subst, append-nil, true, false, IfSome}
use Rattle.std.proofs.Math.Seq.{take-add}
use Rattle.std.proofs.KnownBytes.{Appends-trans, Appends-nil, Consumes-trans, Consumes-nil, Consumes-whole}
use Rattle.std.proofs.KnownBytes.{Consumes-kept}
use Rattle.std.specs.Io.KnownBytes.{Appends, Consumes, IsAtEnd, Keeps}
use Rattle.std.specs.declared.option.Option.{Option}
use Rattle.std.specs.declared.option.Option.TheVariants.{None, Some}
use Rattle.std.specs.declared.io.Error.{Error}
use Rattle.jh_lines.specs.Events.{TalkEvent, Told, Heard, Ended, TellFailed, ListenFailed, Went, heard_in, told_in}
use Rattle.jh_lines.specs.Events.{is_at_end}

false-true : false ≡ true → ⊥
false-true e = cc

take_length : (bytes : List ℕ) → take (length bytes) bytes ≡ bytes
take_length [] = refl
take_length (byte ∷ bytes) = ap (λ l. byte ∷ l) (take_length bytes)

pub slice_rest : (bytes : List ℕ) (n : ℕ) → take (length bytes - n) (drop n bytes) ≡ drop n bytes
slice_rest bytes n = ap (λ k. take k (drop n bytes)) (sym (length-drop n bytes)) ∙ take_length (drop n bytes)

pub appends_more : (a b c : Option (List ℕ)) (bytes : List ℕ) (n m : ℕ) → Appends a b (take n bytes)
    → Appends b c (take m (take (length bytes - n) (drop n bytes))) → Appends a c (take (n + m) bytes)
appends_more a b c bytes n m p q =
    let r : Appends b c (take m (drop n bytes)) = subst (λ l. Appends b c (take m l)) (slice_rest bytes n) q in
    subst (Appends a c) (sym (take-add n m bytes)) (Appends-trans a b c (take n bytes) (take m (drop n bytes)) p r)

module _ {S R W : Type 0} (reader : S → R) (writer : S → W) (remaining : R → Option (List ℕ))
    (contents : W → Option (List ℕ)) where
  abbrev pub TellsTo : S → List ℕ → S → Type 0
  TellsTo s bytes t = (reader t ≡ reader s) × Appends (contents (writer s)) (contents (writer t)) bytes

  abbrev pub HearsFrom : S → List ℕ → S → Type 0
  HearsFrom s bytes t = (writer t ≡ writer s) × Consumes (remaining (reader s)) (remaining (reader t)) bytes

  abbrev pub EndsAt : S → S → Type 0
  EndsAt s t =
      (writer t ≡ writer s) × Consumes (remaining (reader s)) (remaining (reader t)) [] × IsAtEnd (remaining (reader t))

  abbrev pub FailsToTell : S → List ℕ → Error → S → Type 0
  FailsToTell s bytes error t = TellsTo s bytes t

  abbrev pub FailsToListen : S → Error → S → Type 0
  FailsToListen s error t = (writer t ≡ writer s) × Keeps (remaining (reader s)) (remaining (reader t))

  abbrev pub WentOver : S → List TalkEvent → S → Type 0
  WentOver s past t = Went TellsTo HearsFrom EndsAt FailsToTell FailsToListen s past t

  -- what passed by turns was taken from the reader, and went to the writer
  pub went_over : (s t : S) (past : List TalkEvent) → WentOver s past t
      → Consumes (remaining (reader s)) (remaining (reader t)) (heard_in past)
      × Appends (contents (writer s)) (contents (writer t)) (told_in past)
  went_over s t [] same =
      subst (λ u. Consumes (remaining (reader s)) (remaining (reader u)) []
      × Appends (contents (writer s)) (contents (writer u)) []) (sym same)
      (Consumes-nil (remaining (reader s)), Appends-nil (contents (writer s)))
  went_over s t (Told bytes ∷ past) (mid, before, (kept, step)) =
      let first = went_over s mid past before in (
        subst (λ r. Consumes (remaining (reader s)) (remaining r) (heard_in past)) (sym kept) first.0,
        Appends-trans _ _ _ (told_in past) bytes first.1 step,
      )
  went_over s t (Heard bytes ∷ past) (mid, before, (kept, step)) =
      let first = went_over s mid past before in (
        Consumes-trans _ _ _ (heard_in past) bytes first.0 step,
        subst (λ w. Appends (contents (writer s)) (contents w) (told_in past)) (sym kept) first.1,
      )
  went_over s t (Ended ∷ past) (mid, before, (kept, step, over)) =
      let first = went_over s mid past before in (
        subst (Consumes (remaining (reader s)) (remaining (reader t))) (append-nil (heard_in past))
            (Consumes-trans _ _ _ (heard_in past) [] first.0 step),
        subst (λ w. Appends (contents (writer s)) (contents w) (told_in past)) (sym kept) first.1,
      )
  went_over s t (TellFailed bytes error ∷ past) (mid, before, (kept, step)) =
      let first = went_over s mid past before in (
        subst (λ r. Consumes (remaining (reader s)) (remaining r) (heard_in past)) (sym kept) first.0,
        Appends-trans _ _ _ (told_in past) bytes first.1 step,
      )
  went_over s t (ListenFailed error ∷ past) (mid, before, (kept, step)) =
      let first = went_over s mid past before in (
        Consumes-kept _ _ _ (heard_in past) first.0 step,
        subst (λ w. Appends (contents (writer s)) (contents w) (told_in past)) (sym kept) first.1,
      )

  -- where the input has ended, the reader has nothing left
  pub ended_over : (s t : S) (past : List TalkEvent) → WentOver s past t → is_at_end past ≡ true
      → IsAtEnd (remaining (reader t))
  ended_over s t [] same never = absurd (false-true never)
  ended_over s t (Told bytes ∷ past) (mid, before, (kept, step)) is_so =
      subst (λ r. IsAtEnd (remaining r)) (sym kept) (ended_over s mid past before is_so)
  ended_over s t (Heard bytes ∷ past) went never = absurd (false-true never)
  ended_over s t (Ended ∷ past) (mid, before, (kept, step, over)) is_so = over
  ended_over s t (TellFailed bytes error ∷ past) (mid, before, (kept, step)) is_so =
      subst (λ r. IsAtEnd (remaining r)) (sym kept) (ended_over s mid past before is_so)
  ended_over s t (ListenFailed error ∷ past) went never = absurd (false-true never)

  -- so what was told goes with all that it had
  pub whole_over : (s t : S) (past : List TalkEvent) (P : List ℕ → Type 0) → WentOver s past t → is_at_end past ≡ true
      → P (heard_in past) → IfSome (remaining (reader s)) P
  whole_over s t past P went ended h =
      Consumes-whole _ _ (heard_in past) P (went_over s t past went).0 (ended_over s t past went ended) h

-- what holds whatever is left of a reader's bytes
pub Consumes-some : (a b : Option (List ℕ)) (bytes : List ℕ) (P : List ℕ → Type 0) → Consumes a b bytes
    → ((rest : List ℕ) → P (bytes ++ rest)) → IfSome a P
Consumes-some None b bytes P p h = tt
Consumes-some (Some x) None bytes P p h = absurd p
Consumes-some (Some x) (Some y) bytes P p h = subst P (sym p) (h y)
