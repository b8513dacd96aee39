-- The names of cycles (Adya, "Weak consistency", 1999: G0 of `:ww` alone, G1c without `:rw`, G2-item with
-- some. Kingsbury and Alvaro, "Elle", 2020: G-single with one, G-nonadjacent with some that are apart, and
-- `-realtime` where steps of real time are among them; Elle's lost-update is found by the first committer,
-- `:fcw`, here).
use Rattle.std.specs.Prelude.{ℕ, ◌==◌, ◌&&◌, Bool, true, false, List, [], ◌∷◌, ◌++◌, codes}
use Rattle.std.specs.Prelude.{if◌then◌else◌, zip}
use Rattle.std.specs.List.{count_by, list_all, list_any}
use Rattle.jh_txn_findings.specs.declared.cycle_name.CycleKind.{CycleKind}
use Rattle.jh_txn_findings.specs.declared.cycle_name.CycleKind.TheVariants.{LostUpdate, G0, G1c, GSingle}
use Rattle.jh_txn_findings.specs.declared.cycle_name.CycleKind.TheVariants.{GNonadjacent, G2Item}
use Rattle.jh_txn_findings.specs.declared.cycle_name.CycleName.{CycleName}
use Rattle.jh_txn_findings.specs.declared.cycle_name.CycleName.TheVariants.{Plain}
use Rattle.jh_txn_findings.specs.declared.cycle_name.CycleName.TheVariants.{RealTime}
use Rattle.jh_txn_findings.specs.declared.finding.FoundStep.{FoundStep}
use Rattle.jh_txn_findings.specs.declared.finding.FoundWhy.{FoundWhy}
use Rattle.jh_txn_findings.specs.declared.finding.FoundWhy.TheVariants as why

-- ---- steps

-- `:ww` or `:rt`
abbrev pub is_write_or_time : FoundWhy → Bool
is_write_or_time (why.WriteWrite key element) = true
is_write_or_time why.RealTime = true
is_write_or_time _ = false

-- `:fcw`
abbrev pub is_first_committer : FoundWhy → Bool
is_first_committer (why.FirstCommitter key element) = true
is_first_committer _ = false

-- `:rw`
abbrev pub is_anti_dependency : FoundWhy → Bool
is_anti_dependency (why.ReadWrite key element) = true
is_anti_dependency _ = false

-- `:rt`
abbrev pub is_real_time : FoundWhy → Bool
is_real_time why.RealTime = true
is_real_time _ = false

-- how many steps are `:rw`
abbrev pub anti_dependencies : List FoundStep → ℕ
anti_dependencies steps = count_by (λ step. is_anti_dependency step.why) steps

-- each step with the one behind it, the last one with the first one
abbrev pub neighbours : List FoundStep → List (FoundStep × FoundStep)
neighbours [] = []
neighbours (step ∷ steps) = zip (step ∷ steps) (steps ++ step ∷ [])

-- both steps are `:rw`
abbrev pub are_anti_dependencies : FoundStep × FoundStep → Bool
are_anti_dependencies two = is_anti_dependency two.0.why && is_anti_dependency two.1.why

-- ---- cycles

-- lost-update: a step is `:fcw`. G0: all steps are `:ww` or `:rt`. G1c: none is `:rw`. G-single: one
-- is `:rw`. G-nonadjacent: several are, and no two neighbours. G2-item: two neighbours are.
abbrev pub cycle_kind : List FoundStep → CycleKind
cycle_kind steps =
    if list_any (λ step. is_first_committer step.why) steps then LostUpdate
    else if list_all (λ step. is_write_or_time step.why) steps then G0
    else if anti_dependencies steps == 0 then G1c
    else if anti_dependencies steps == 1 then GSingle
    else if list_any are_anti_dependencies (neighbours steps) then G2Item
    else GNonadjacent

-- What a cycle is, and whether a step of it is of real time.
abbrev pub cycle_name : List FoundStep → CycleName
cycle_name steps =
    if list_any (λ step. is_real_time step.why) steps then RealTime (cycle_kind steps)
    else Plain (cycle_kind steps)

-- ---- texts, as keywords without their colon

abbrev pub kind_text : CycleKind → List ℕ
kind_text LostUpdate = codes "lost-update"
kind_text G0 = codes "G0"
kind_text G1c = codes "G1c"
kind_text GSingle = codes "G-single"
kind_text GNonadjacent = codes "G-nonadjacent"
kind_text G2Item = codes "G2-item"

abbrev pub cycle_name_text : CycleName → List ℕ
cycle_name_text (Plain kind) = kind_text kind
cycle_name_text (RealTime kind) = kind_text kind ++ codes "-realtime"
