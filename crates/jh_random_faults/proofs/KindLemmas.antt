-- What is true of the kinds that are drawn.
use Rattle.std.proofs.Common.{◌≡◌, ℕ, ◌<◌, Bool, true, false}
use Rattle.std.specs.Prelude.{◌||◌, not, nat_lt}
use Rattle.std.proofs.lemmas.Bool.{and_parts, ltb-true}
use Rattle.jh_step_texts.proofs.LinkLemmas.{all_from, kept}
use Rattle.jh_step_texts.specs.Kinds.{fault_kinds}
use Rattle.jh_step_texts.specs.declared.kinds.FaultKind.{FaultKind}
use Rattle.jh_random_faults.specs.declared.kinds.Palette.{Palette}
use Rattle.jh_random_faults.specs.Kinds.{has_kind, is_drawn, is_on_links, kinds_drawn}
use Rattle.jh_random_faults.specs.Named.{HasNamed, HaveNamed}

-- a kind that is drawn has something to name
named_if_drawn : (palette : Palette) (count : ℕ) (kind : FaultKind) → is_drawn palette count kind ≡ true → HasNamed count kind
named_if_drawn palette count kind drawn links = go (is_on_links kind) links (and_parts (has_kind palette kind) (not (is_on_links kind) || nat_lt 1 count) drawn).1 where
  go : (b : Bool) → b ≡ true → (not b || nat_lt 1 count) ≡ true → 1 < count
  go true is some = ltb-true 1 count some
  go false is some = absurd cc

pub drawn_named : (palette : Palette) (count : ℕ) → HaveNamed count (kinds_drawn palette count)
drawn_named palette count =
    all_from (HasNamed count) (kinds_drawn palette count)
    (λ kind has. named_if_drawn palette count kind (kept (is_drawn palette count) fault_kinds kind has).1)
