-- What the loops of the code keep.
use Rattle.std.proofs.Common.{◌≡◌, ◌≢◌, ℕ, suc, ◌+◌, ◌-◌, ◌<◌, ◌==◌, true, false, refl, sym, ap}
use Rattle.std.proofs.Common.{◌∙◌, arith, add-one, eq-eqb, subst}
use Rattle.std.specs.Prelude.{Option, None, Some, if◌then◌else◌, is_some}
use Rattle.std.proofs.lemmas.Bool.{ne_eqb, false≢true, true≢false}
use Rattle.jh_conversation.specs.Machine.{Machine}
use Rattle.jh_conversation.specs.Sound.{IsSoundMachine}
use Rattle.jh_test_parts.specs.Test.{IsFitTest, TestValue}
use Rattle.jh_conversation.specs.Turn.{calls, go_on, move, passes, round, rounds, step, visit}
use Rattle.jh_conversation.specs.Turn.{visits, work}
use Rattle.jh_conversation.specs.TurnInside.{moved}
use Rattle.jh_conversation.proofs.KeptLemmas.{IfMoved, kept_calls, kept_move, kept_round, kept_step}
use Rattle.jh_conversation.proofs.KeptLemmas.{kept_visit}
use Rattle.jh_conversation.proofs.SoundLemmas.{sound_by_calls, sound_in_turn}

-- Rounds.

visits_on : (t : TestValue) (m : Machine) (thread most : ℕ) → thread < most → visits t thread (most - thread) m ≡ visits t (thread + 1) (most - (thread + 1)) (visit t thread m)
visits_on t m thread most h =
    let more : most - thread ≡ suc (most - (thread + 1)) = omega arith in
    ap (λ n. visits t thread n m) more ∙ ap (λ k. visits t k (most - (thread + 1)) (visit t thread m)) (sym (add-one thread))

-- what is left of the threads gives the round
pub rest_next : (t : TestValue) (m next : Machine) (thread most : ℕ) (all : Machine) → thread < most → visits t thread (most - thread) m ≡ all → next ≡ visit t thread m
    → visits t (thread + 1) (most - (thread + 1)) next ≡ all
rest_next t m next thread most all h rest is =
    ap (visits t (thread + 1) (most - (thread + 1))) is ∙ sym (visits_on t m thread most h) ∙ rest

-- where a round gave something, the next one follows
pub round_next : (t : TestValue) (m next : Machine) (n most : ℕ) (all : Machine) → n < most → rounds t (most - n) m ≡ all → next ≡ round t m → next.given ≢ m.given
    → rounds t (most - (n + 1)) next ≡ all
round_next t m next n most all h rest is more =
    let left : most - n ≡ suc (most - (n + 1)) = omega arith in
    let gave : ((round t m).given == m.given) ≡ false = ne_eqb _ _ (λ e. more (ap (λ c. c.given) is ∙ e)) in
    ap (rounds t (most - (n + 1))) is
    ∙ sym (ap (λ k. rounds t k m) left ∙ ap (λ v. if v then round t m else rounds t (most - (n + 1)) (round t m)) gave)
    ∙ rest

-- the last round gave nothing
pub round_last : (t : TestValue) (m next : Machine) (n most : ℕ) (all : Machine) → n < most → rounds t (most - n) m ≡ all → next ≡ round t m → next.given ≡ m.given → next ≡ all
round_last t m next n most all h rest is same =
    let left : most - n ≡ suc (most - (n + 1)) = omega arith in
    let none : ((round t m).given == m.given) ≡ true = eq-eqb _ _ (ap (λ c. c.given) (sym is) ∙ same) in
    is ∙ sym (ap (λ k. rounds t k m) left ∙ ap (λ v. if v then round t m else rounds t (most - (n + 1)) (round t m)) none) ∙ rest

-- The machine stays sound.

pub sound_visit : (t : TestValue) (m next : Machine) (thread : ℕ) → IsFitTest t → thread < t.clients → IsSoundMachine t m → next ≡ visit t thread m → IsSoundMachine t next
sound_visit t m next thread fit within h is = subst (IsSoundMachine t) (sym is) (kept_visit t (IsSoundMachine t) (sound_by_calls t fit) m thread within h)

pub sound_round : (t : TestValue) (m next : Machine) → IsFitTest t → IsSoundMachine t m → next ≡ round t m → IsSoundMachine t next
sound_round t m next fit h is = subst (IsSoundMachine t) (sym is) (kept_round t (IsSoundMachine t) (sound_by_calls t fit) m h)

pub sound_step : (t : TestValue) (m next : Machine) → IsFitTest t → IsSoundMachine t m → next ≡ step t m → IsSoundMachine t next
sound_step t m next fit h is = subst (IsSoundMachine t) (sym is) (kept_step t (IsSoundMachine t) (sound_in_turn t fit) m h)

pub sound_pass : (t : TestValue) (m stepped worked next : Machine) → IsFitTest t → IsSoundMachine t m → stepped ≡ step t m → worked ≡ calls t stepped → next ≡ moved worked (move t worked) → IsSoundMachine t next
sound_pass t m stepped worked next fit h one two three = subst (IsSoundMachine t) (sym three) (go (move t worked) (kept_move t (IsSoundMachine t) (sound_in_turn t fit) worked there))
  where
    there : IsSoundMachine t worked
    there = subst (IsSoundMachine t) (sym two) (kept_calls t (IsSoundMachine t) (sound_by_calls t fit) stepped (sound_step t m stepped fit h one))

    go : (n : Option Machine) → IfMoved (IsSoundMachine t) n → IsSoundMachine t (moved worked n)
    go None k = there
    go (Some n) k = k

-- Passes.

pass_is : (t : TestValue) (m stepped worked : Machine) (n most : ℕ) (all : Machine) → n < most → passes t (most - n) m ≡ all → stepped ≡ step t m → worked ≡ calls t stepped
    → go_on (passes t (most - (n + 1))) worked (move t worked) ≡ all
pass_is t m stepped worked n most all h rest one two =
    let left : most - n ≡ suc (most - (n + 1)) = omega arith in
    let same : worked ≡ work t m = two ∙ ap (calls t) one in
    ap (λ c. go_on (passes t (most - (n + 1))) c (move t c)) same ∙ sym (ap (λ k. passes t k m) left) ∙ rest

pub pass_next : (t : TestValue) (m stepped worked next : Machine) (n most : ℕ) (all : Machine) → n < most → passes t (most - n) m ≡ all → stepped ≡ step t m → worked ≡ calls t stepped
    → next ≡ moved worked (move t worked) → is_some (move t worked) ≡ true → passes t (most - (n + 1)) next ≡ all
pass_next t m stepped worked next n most all h rest one two three is =
    ap (passes t (most - (n + 1))) three ∙ go (move t worked) is ∙ pass_is t m stepped worked n most all h rest one two
  where
    go : (o : Option Machine) → is_some o ≡ true → passes t (most - (n + 1)) (moved worked o) ≡ go_on (passes t (most - (n + 1))) worked o
    go None e = absurd (false≢true e)
    go (Some m) e = refl

pub pass_last : (t : TestValue) (m stepped worked next : Machine) (n most : ℕ) (all : Machine) → n < most → passes t (most - n) m ≡ all → stepped ≡ step t m → worked ≡ calls t stepped
    → next ≡ moved worked (move t worked) → is_some (move t worked) ≡ false → next ≡ all
pass_last t m stepped worked next n most all h rest one two three is =
    three ∙ go (move t worked) is ∙ pass_is t m stepped worked n most all h rest one two
  where
    go : (o : Option Machine) → is_some o ≡ false → moved worked o ≡ go_on (passes t (most - (n + 1))) worked o
    go None e = refl
    go (Some m) e = absurd (true≢false e)
