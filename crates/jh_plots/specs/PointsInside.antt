-- Numbers for points, of which no two have one. Proofs rest on it, and no public clause names it.
use Rattle.std.specs.Prelude.{ℕ, ◌+◌, ◌*◌, ◌≤◌}
use Rattle.jh_ops.specs.declared.operation.Kind.{Kind}
use Rattle.jh_plots.specs.declared.plot.Point.{Point}

abbrev pub ending_number : Kind → ℕ
ending_number Kind.Invoke = 0
ending_number Kind.Ok = 1
ending_number Kind.Fail = 2
ending_number Kind.Info = 3

abbrev pub point_number : Point → ℕ
point_number point = (ending_number point.kind * 65536 + point.x) * 65536 + point.y

-- a point is in its panel
pub record IsInPanel (point : Point) : Type 0 where
  pub x : point.x ≤ 899
  pub y : point.y ≤ 299
