-- The kinds of faults that random schedules are made of (this project's own; what a fault of each
-- kind does stands in jh_tables).
use Rattle.std.specs.Prelude.{ℕ, ◌%◌, ◌&&◌, ◌||◌, Bool, true, false, not, nat_lt, List, filter}
use Rattle.std.specs.Prelude.{length, slice_get, Option}
use Rattle.jh_step_texts.specs.Kinds.{fault_kinds}
use Rattle.jh_step_texts.specs.declared.kinds.FaultKind.{FaultKind}
use Rattle.jh_step_texts.specs.declared.kinds.FaultKind.TheVariants.{Cut, Slow, Loss, Fix, Pause}
use Rattle.jh_step_texts.specs.declared.kinds.FaultKind.TheVariants.{Kill, Bump}
use Rattle.jh_random_faults.specs.declared.draws.Draw.{Draw}
use Rattle.jh_random_faults.specs.declared.kinds.Palette.{Palette}

-- the palette that has them all
abbrev pub whole_palette : Palette
whole_palette =
    record {
      cut = true;
      slow = true;
      loss = true;
      fix = true;
      pause = true;
      kill = true;
      bump =
          true;
    }

-- the palette has this kind
abbrev pub has_kind : Palette → FaultKind → Bool
has_kind palette Cut = palette.cut
has_kind palette Slow = palette.slow
has_kind palette Loss = palette.loss
has_kind palette Fix = palette.fix
has_kind palette Pause = palette.pause
has_kind palette Kill = palette.kill
has_kind palette Bump = palette.bump

-- faults of this kind name links
abbrev pub is_on_links : FaultKind → Bool
is_on_links Cut = true
is_on_links Slow = true
is_on_links Loss = true
is_on_links Fix = true
is_on_links Pause = false
is_on_links Kill = false
is_on_links Bump = false

-- Faults of this kind are drawn for so many nodes: the palette has it, and they have something to
-- name, for one node has no link.
abbrev pub is_drawn : Palette → ℕ → FaultKind → Bool
is_drawn palette count kind = has_kind palette kind && (not (is_on_links kind) || nat_lt 1 count)

-- in the order in which one is chosen
abbrev pub kinds_drawn : Palette → ℕ → List FaultKind
kinds_drawn palette count = filter (is_drawn palette count) fault_kinds

-- the one that a draw chooses, where there is one
abbrev pub drawn_kind : List FaultKind → Draw → Option FaultKind
drawn_kind kinds d = slice_get kinds (d.kind % length kinds)
