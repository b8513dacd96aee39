-- What is known of what is left of a schedule.
use Rattle.std.proofs.Common.{ℕ, List, [], ◌∷◌, All, inl, inr, sym, subst, arith}
use Rattle.std.specs.Prelude.{Bool, true, false, Option, Some}
use Rattle.std.specs.List.{remove}
use Rattle.std.specs.Fn.{FnReturnsAt}
use denote.Param.Members.{Shared}
use denote.Ref.{Bor}
use Rattle.std.proofs.lemmas.List.Elements.{All-cons, All-head, All-tail}
use Rattle.jh_simnode.specs.declared.schedule.Entry.{Entry}
use Rattle.jh_shrink.specs.Shrunk.{IsShrunk, IsSubsequence}
use Rattle.jh_shrink.specs.declared.shrinking.Shrunk.{Shrunk}
use Rattle.jh_shrink.specs.declared.shrinking.Shrunk.TheVariants.{Minimal, Budget, NotFailing}
use Rattle.jh_cli.specs.ShrinkText.{schedule_of}

-- what a judge answered in its calls is what another answers
pub shrunk_by : {F : Type 0} (g : Shared F (Bor (List Entry) × Unit {0}) (Option Bool)) (f : F) (B : List Entry → Option Bool → Type 0)
    → ((schedule : List Entry) (answer : Option Bool) → FnReturnsAt g f schedule answer → B schedule answer)
    → (runs : ℕ) (given : List Entry) (shrunk : Shrunk) → IsShrunk (FnReturnsAt g f) runs given shrunk → IsShrunk B runs given shrunk
shrunk_by g f B so runs given (Minimal schedule) h =
    ((h.0.0, so schedule (Some true) h.0.1), (λ place below. so (remove schedule place) (Some false) (h.1 place below)), h.2)
shrunk_by g f B so runs given (Budget schedule) (inl same) = inl same
shrunk_by g f B so runs given (Budget schedule) (inr failing) = inr (failing.0, so schedule (Some true) failing.1)
shrunk_by g f B so runs given (NotFailing schedule) h = (h.0, so schedule (Some false) h.1, h.2)

-- what holds of all elements holds of those that are left
all_left : {X : Type 0} (P : X → Type 0) (left given : List X) → IsSubsequence left given → All P given → All P left
all_left P [] given s all = λ k d below. absurd (omega (arith, below))
all_left P (x ∷ left) [] s all = absurd s
all_left P (x ∷ left) (y ∷ given) (inl both) all =
    All-cons P x left (subst P (sym both.0) (All-head P y given all)) (all_left P left given both.1 (All-tail P y given all))
all_left P (x ∷ left) (y ∷ given) (inr later) all = all_left P (x ∷ left) given later (All-tail P y given all)

pub all_shrunk : (P : Entry → Type 0) (A : List Entry → Option Bool → Type 0) (runs : ℕ) (given : List Entry) (shrunk : Shrunk)
    → IsShrunk A runs given shrunk → All P given → All P (schedule_of shrunk)
all_shrunk P A runs given (Minimal schedule) h all = all_left P schedule given h.0.0 all
all_shrunk P A runs given (Budget schedule) (inl same) all = subst (All P) (sym same.1) all
all_shrunk P A runs given (Budget schedule) (inr failing) all = all_left P schedule given failing.0 all
all_shrunk P A runs given (NotFailing schedule) h all = subst (All P) (sym h.0) all
