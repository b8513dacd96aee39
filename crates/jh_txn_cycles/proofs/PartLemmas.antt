-- A part of a graph grows by one more step, and by the steps of one more node.
use Rattle.std.proofs.Common.{◌≡◌, ℕ, zero, suc, ◌<◌, List, [], ◌∷◌, ◌++◌, length, Some, ◌+◌, refl, sym, subst, arith}
use Rattle.std.specs.Prelude.{slice_get, Option, Vec}
use Rattle.std.specs.declared.alloc.Global.{Global}
use Rattle.jh_txn.specs.declared.dependency.Step.{Step}
use Rattle.jh_txn_graph.specs.Graphs.{AreHubsUpwards, IsClosed, IsStepTo}
use Rattle.jh_txn_cycles.specs.Part.{IsPartOf}

nothing : (i : ℕ) (s : Step) → ◌≡◌ {A = Option Step} (slice_get [] i) (Some s) → ⊥
nothing zero s is = cc
nothing (suc i) s is = cc

-- what is true of each step, and of one more, is true of all
pub each_pushed : (P : Step → Type 0) (kept : List Step) (x : Step) → ((i : ℕ) (s : Step) → slice_get kept i ≡ Some s → P s) → P x
    → (i : ℕ) (s : Step) → slice_get (kept ++ x ∷ []) i ≡ Some s → P s
each_pushed P [] x all one zero s is = let same : x ≡ s = cc in subst P same one
each_pushed P [] x all one (suc i) s is = absurd (nothing i s is)
each_pushed P (k ∷ kept) x all one zero s is = all 0 s is
each_pushed P (k ∷ kept) x all one (suc i) s is = each_pushed P kept x (λ j t e. all (suc j) t e) one i s is

-- the same of the steps to each node, and to one more
pub rows_pushed : (Q : ℕ → Step → Type 0) (part : List (Vec Step Global)) (row : Vec Step Global) → ((n : ℕ) (s : Step) → IsStepTo part s n → Q n s)
    → ((s : Step) (i : ℕ) → slice_get row.items i ≡ Some s → Q (length part) s) → (n : ℕ) (s : Step) → IsStepTo (part ++ row ∷ []) s n → Q n s
rows_pushed Q [] row all last zero s to = last s to.0 to.1
rows_pushed Q [] row all last (suc n) s to = absurd (nothing to.0 s to.1)
rows_pushed Q (r ∷ part) row all last zero s to = all 0 s to
rows_pushed Q (r ∷ part) row all last (suc n) s to = rows_pushed (λ m t. Q (suc m) t) part row (λ m t h. all (suc m) t h) last n s to

-- what is asked of a graph holds of its parts
pub part_closed : (graph part : List (Vec Step Global)) → IsPartOf graph part → IsClosed graph → IsClosed part
part_closed graph part of closed step node to = subst (λ n. step.place < n) (sym of.count) (closed step node (of.steps step node to))

pub part_upwards : (graph part : List (Vec Step Global)) (count : ℕ) → IsPartOf graph part → AreHubsUpwards graph count → AreHubsUpwards part count
part_upwards graph part count of upwards step node to from at = upwards step node (of.steps step node to) from at

pub one_longer : (part : List (Vec Step Global)) (row : Vec Step Global) → length (part ++ row ∷ []) ≡ length part + 1
one_longer [] row = refl
one_longer (r ∷ part) row = let e = one_longer part row in omega (arith, e)
