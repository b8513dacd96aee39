-- The points of calls, byte for byte (this project's own; SVG 2, chapter 9, has paths). All points that ended the same way are
-- one path, of which the style makes signs.
use Rattle.std.specs.Prelude.{ℕ, List, [], ◌++◌, codes, if◌then◌else◌}
use Rattle.std.specs.Fmt.{decimal}
use Rattle.std.specs.List.{flat_map}
use Rattle.jh_ops.specs.Operation.{is_kind}
use Rattle.jh_ops.specs.declared.operation.Kind.{Kind}
use Rattle.jh_plots.specs.declared.plot.Point.{Point}

-- the class of what ended so in the style
abbrev pub kind_class : Kind → List ℕ
kind_class Kind.Ok = codes "ok"
kind_class Kind.Fail = codes "fail"
kind_class _ = codes "info"

-- a point, as a line that has no length
abbrev pub point_text : Point → List ℕ
point_text point =
    codes "M" ++ (decimal point.x ++ (codes "-" ++ (decimal point.y ++ codes "h0")))

-- a point if it ended so
abbrev pub point_of_kind : Kind → Point → List ℕ
point_of_kind kind point = if is_kind point.kind kind then point_text point else []

-- the points that ended so
abbrev pub points_text : List Point → Kind → List ℕ
points_text points kind =
    codes "<path class=\"" ++ kind_class kind ++ codes "\" d=\"" ++ flat_map (point_of_kind kind) points
    ++ codes "\"/>\n"
