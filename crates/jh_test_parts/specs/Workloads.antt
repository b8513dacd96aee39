-- The workloads of tests of real databases, each with the checker that judges its histories (this
-- project's own; the checkers are Jepsen's, as `jh_checkers` has them).
use Rattle.std.specs.Prelude.{ℕ, List, codes, if◌then◌else◌, Option, Some, None}
use Rattle.std.specs.Str.{bytes_eq}
use Rattle.jh_checkers.specs.Checkers.{checker_name}
use Rattle.jh_checkers.specs.declared.checker.Checker.{Checker}
use Rattle.jh_test_parts.specs.declared.workload.TestWorkload.{TestWorkload}
use Rattle.jh_test_parts.specs.declared.workload.TestWorkload.TheVariants.{Register, Set, Counter}
use Rattle.jh_test_parts.specs.declared.workload.TestWorkload.TheVariants.{Ids, ListAppend}

-- the checker that judges the history of a test of this workload
abbrev pub test_checker : TestWorkload → Checker
test_checker Register = Checker.Register
test_checker Set = Checker.Set
test_checker Counter = Checker.Counter
test_checker Ids = Checker.Ids
test_checker ListAppend = Checker.ListAppend

-- a workload has the name of its checker
abbrev pub test_workload_name : TestWorkload → List ℕ
test_workload_name workload = checker_name (test_checker workload)

-- the workload of this name
abbrev pub test_workload_named : List ℕ → Option TestWorkload
test_workload_named name =
    if bytes_eq name (codes "register") then Some Register
    else if bytes_eq name (codes "set") then Some Set
    else if bytes_eq name (codes "counter") then Some Counter
    else if bytes_eq name (codes "unique-ids") then Some Ids
    else if bytes_eq name (codes "list-append") then Some ListAppend
    else None
