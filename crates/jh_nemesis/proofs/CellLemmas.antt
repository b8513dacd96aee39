-- A cell is what the faults that name it make of it.
use Rattle.std.proofs.Common.{◌≡◌, ℕ, ◌+◌, Bool, true, false, List, [], ◌∷◌, refl, sym, ap, ap₂, ◌∙◌, arith}
use Rattle.std.specs.Prelude.{if◌then◌else◌, ◌||◌, ◌==◌, ℤ, pos, ◌+ℤ◌, filter, fold, max}
use Rattle.std.specs.List.{list_any}
use Rattle.std.proofs.lemmas.Bool.{or_parts}
use Rattle.std.proofs.lemmas.Int.{ints}
use Rattle.jh_env.specs.Cells.{Link, NodeCell, Running, Paused, Killed}
use Rattle.jh_env.specs.Faults.{FaultValue, Cut, Slow, Loss, Fix, Pause, Kill, Bump}
use Rattle.jh_env.specs.Overlay.{link_over, node_over, cuts, delay_after_fault, delay_by, loss_by, pauses, kills, bump_by, is_paused, is_killed}
use Rattle.jh_nemesis.specs.Changed.{AgreeElsewhere, fault_names_link, fault_names_node}
use Rattle.jh_nemesis.proofs.LawLemmas.{same_link_cell, same_node_cell}

module _ {X : Type 0} (q : X → Bool) where
  -- a fold passes over what leaves it as it is
  fold_kept : {B : Type 0} (f : B → X → B) → ((b : B) (x : X) → q x ≡ false → f b x ≡ b) → (b : B) (xs : List X) → fold f b xs ≡ fold f b (filter q xs)
  fold_kept f stays b [] = refl
  fold_kept f stays b (x ∷ xs) =
      elim (q x) as (λ t. q x ≡ t → fold f (f b x) xs ≡ fold f b (if t then x ∷ filter q xs else filter q xs)) [
        | true ↦ λ is. fold_kept f stays (f b x) xs
        | false ↦ λ is. ap (λ c. fold f c xs) (stays b x is) ∙ fold_kept f stays b xs
      ] refl

  any_kept : (p : X → Bool) → ((x : X) → q x ≡ false → p x ≡ false) → (xs : List X) → list_any p xs ≡ list_any p (filter q xs)
  any_kept p fails [] = refl
  any_kept p fails (x ∷ xs) =
      elim (q x) as (λ t. q x ≡ t → (p x || list_any p xs) ≡ list_any p (if t then x ∷ filter q xs else filter q xs)) [
        | true ↦ λ is. ap (λ b. p x || b) (any_kept p fails xs)
        | false ↦ λ is. rw (fails x is) (any_kept p fails xs)
      ] refl

  -- where none passes, none is kept
  pub none_kept : (xs : List X) → list_any q xs ≡ false → filter q xs ≡ []
  none_kept [] h = refl
  none_kept (x ∷ xs) h = let p = or_parts (q x) (list_any q xs) h in rw (p.0, none_kept xs p.1) refl

module _ (a b : ℕ) where
  uncut : (f : FaultValue) → fault_names_link a b f ≡ false → cuts a b f ≡ false
  uncut (Cut links) h = h
  uncut _ h = refl

  unfixed : (delay : ℕ) (f : FaultValue) → fault_names_link a b f ≡ false → delay_after_fault a b delay f ≡ delay
  unfixed delay (Fix ms links) h = rw h refl
  unfixed delay _ h = refl

  unslowed : (sum : ℕ) (f : FaultValue) → fault_names_link a b f ≡ false → sum + delay_by a b f ≡ sum
  unslowed sum (Slow ms links) h = rw h (omega arith)
  unslowed sum _ h = omega arith

  unlost : (level : ℕ) (f : FaultValue) → fault_names_link a b f ≡ false → max level (loss_by a b f) ≡ level
  unlost level (Loss more links) h = rw h (omega arith)
  unlost level _ h = omega arith

  link_kept : (fs : List FaultValue) (l : Link) → link_over fs a b l ≡ link_over (filter (fault_names_link a b) fs) a b l
  link_kept fs l =
      let named : FaultValue → Bool = fault_names_link a b in
      same_link_cell _ _ _ _ _ _
      (ap (λ c. l.cut || c) (any_kept named (cuts a b) uncut fs))
      (ap₂ (λ m n. m + n) (fold_kept named (delay_after_fault a b) unfixed l.delay fs) (fold_kept named (λ n f. n + delay_by a b f) unslowed 0 fs))
      (fold_kept named (λ n f. max n (loss_by a b f)) unlost l.loss fs)

module _ (a : ℕ) where
  unpaused : (f : FaultValue) → fault_names_node a f ≡ false → pauses a f ≡ false
  unpaused (Pause nodes) h = h
  unpaused _ h = refl

  unkilled : (f : FaultValue) → fault_names_node a f ≡ false → kills a f ≡ false
  unkilled (Kill nodes) h = h
  unkilled _ h = refl

  still : (bumps : List (ℕ × ℤ)) → list_any (λ b. b.0 == a) bumps ≡ false → bump_by a (Bump bumps) ≡ pos 0
  still bumps h =
      fold_kept (λ (b : ℕ × ℤ). b.0 == a) (λ z b. z +ℤ (if b.0 == a then b.1 else pos 0)) (λ z b is. rw is (omega (arith, ints))) (pos 0) bumps
      ∙ rw (none_kept (λ (b : ℕ × ℤ). b.0 == a) bumps h) refl

  unbumped : (z : ℤ) (f : FaultValue) → fault_names_node a f ≡ false → (z +ℤ bump_by a f) ≡ z
  unbumped z (Bump bumps) h = rw (still bumps h) (omega (arith, ints))
  unbumped z _ h = omega (arith, ints)

  node_kept : (fs : List FaultValue) (n : NodeCell) → node_over fs a n ≡ node_over (filter (fault_names_node a) fs) a n
  node_kept fs n =
      let named : FaultValue → Bool = fault_names_node a in
      same_node_cell _ _ _ _
      (ap₂ (λ k p. if is_killed n.process || k then Killed else if is_paused n.process || p then Paused else Running) (any_kept named (kills a) unkilled fs) (any_kept named (pauses a) unpaused fs))
      (fold_kept named (λ z f. z +ℤ bump_by a f) unbumped n.clock fs)

-- two lists agree elsewhere, where each test that none of the named ones passes keeps the same of both
pub agree : (named before after : List FaultValue) → ((p : FaultValue → Bool) → list_any p named ≡ false → filter p before ≡ filter p after)
    → AgreeElsewhere named before after
agree named before after same = record {
  links = λ a b l none.
      link_kept a b before l ∙ ap (λ fs. link_over fs a b l) (same (fault_names_link a b) none) ∙ sym (link_kept a b after l);
  nodes = λ a n none.
      node_kept a before n ∙ ap (λ fs. node_over fs a n) (same (fault_names_node a) none) ∙ sym (node_kept a after n);
}
