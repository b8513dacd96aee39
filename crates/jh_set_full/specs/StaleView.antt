-- What a contract sees of stale elements that a program holds (this project's own).
use Rattle.std.specs.Prelude.{ℕ, List, map, Option}
use Rattle.jh_edn.specs.Edn.{Edn}
use Rattle.jh_edn.specs.View.{view}
use Rattle.jh_set_full.specs.declared.stale.Stale.{Stale}

abbrev pub view_stale : Stale → Edn × Option ℕ
view_stale s = (view s.element, s.milliseconds)

abbrev pub view_stales : List Stale → List (Edn × Option ℕ)
view_stales ss = map view_stale ss
