-- Which plans can be written as settings, and as which plan they are read back (this project's
-- own).
use Rattle.std.specs.Prelude.{◌≡◌, ℕ, ◌^◌, ◌<◌, ◌≤◌, map, All, Some, IfSome}
use Rattle.jh_edn.specs.Printable.{IsPrintable}
use Rattle.jh_edn.specs.Spelling.{depth_limit}
use Rattle.jh_tables.specs.declared.cells.Link.{Link}
use Rattle.jh_tables.specs.declared.cells.NodeCell.{NodeCell}
use Rattle.jh_env.specs.Overlay.{link_of, node_of}
use Rattle.jh_env.specs.Starting.{IsStartingLink, IsStartingNode}
use Rattle.jh_nemesis.specs.declared.steps.Step.{Step}
use Rattle.jh_nemesis.specs.declared.steps.Step.TheVariants.{Begin}
use Rattle.jh_ops.specs.declared.call.Workload.{Workload}
use Rattle.jh_gen_texts.specs.GeneratorWritten.{edn_of_generator}
use Rattle.jh_simnode.specs.declared.schedule.Entry.{Entry}
use Rattle.jh_simnode.specs.Plans.{PlanValue}
use Rattle.jh_settings.specs.Limits.{max_due_at, max_tick_every}
use Rattle.jh_laws.specs.StepLines.{HasNoSelfLink, step_in_order}

-- no link of the step's fault leads from a node to itself
abbrev pub LeadsToOthers : Step → Type 0
LeadsToOthers (Begin id fault) = HasNoSelfLink fault
LeadsToOthers _ = Unit {0}

-- the entry can be written in settings
abbrev pub IsWritableEntry : Entry → Type 0
IsWritableEntry entry = (entry.at ≤ max_due_at) × LeadsToOthers entry.step

-- Settings can say the plan: its links and nodes are as they may be at a start, its generator is
-- nested no deeper than a text may be, only a register holds something at first, its numbers are in
-- the ranges of their keys, and the faults of its schedule have texts.
pub record CanBeWritten (p : PlanValue) : Type 0 where
  pub links : (a b : ℕ) (link : Link) → link_of p.env a b ≡ Some link → IsStartingLink link
  pub nodes : (a : ℕ) (cell : NodeCell) → node_of p.env a ≡ Some cell → IsStartingNode cell
  pub generator : IsPrintable depth_limit (edn_of_generator p.generator)
  pub initial : IfSome p.database.initial (λ _. p.database.workload ≡ Workload.Register)
  pub tick_every : p.tick_every ≤ max_tick_every
  pub seed : p.seed < 2 ^ 63
  pub due : All (λ entry. entry.at ≤ max_due_at) p.schedule
  pub others : All (λ entry. LeadsToOthers entry.step) p.schedule

-- the same entry, with the links, nodes or bumps of its fault in order
abbrev pub entry_in_order : Entry → Entry
entry_in_order entry = record entry { step = step_in_order entry.step }

-- the same plan, with the links, nodes or bumps of the faults of its schedule in order
abbrev pub plan_in_order : PlanValue → PlanValue
plan_in_order p = record p { schedule = map entry_in_order p.schedule }
