-- What the plan of a run holds, and which plans can be run (this project's own).
use Rattle.std.specs.Prelude.{◌≡◌, ℕ, ◌≤◌, true, List, [], length, All}
use Rattle.jh_env.specs.Overlay.{EnvValue, StandsFor}
use Rattle.jh_nemesis.specs.Steps.{FitsNodes}
use Rattle.jh_gen.specs.DriverState.{max_clients}
use Rattle.jh_gen.specs.Generator.{Generator}
use Rattle.jh_gen.specs.Suits.{suits}
use Rattle.jh_gen.specs.View.{generator_of}
use Rattle.jh_ops.specs.Requests.{max_calls_of}
use Rattle.jh_simnode.specs.declared.database.Database.{Database}
use Rattle.jh_simnode.specs.declared.schedule.Entry.{Entry}
use Rattle.jh_simnode.specs.Limits.{max_entries, max_rows}
use Rattle.jh_simnode.specs.declared.plan.PlanData.{PlanData}
use Rattle.jh_simnode.specs.declared.plan.PlanError.{PlanError}
use Rattle.jh_simnode.specs.declared.plan.PlanError.TheVariants.{BadClients, BadOps, BadRows}
use Rattle.jh_simnode.specs.declared.plan.PlanError.TheVariants.{BadGenerator, BadStep, OutOfMemory}

-- an environment at its start, the database of its nodes, so many client threads that make so
-- many calls of a generator, the steps of the nemesis, after how many of its calls a thread ticks,
-- the rows of the log of a run on threads, and the seed of the random numbers
pub record PlanValue : Type 0 where
  pub env : EnvValue
  pub database : Database
  pub clients : ℕ
  pub ops : ℕ
  pub generator : Generator
  pub schedule : List Entry
  pub tick_every : ℕ
  pub rows : ℕ
  pub seed : ℕ

-- the plan that is made of this data
abbrev pub plan_of_data : PlanData → PlanValue
plan_of_data fields =
    record {
      env = fields.environment;
      database = fields.database;
      clients = fields.clients;
      ops = fields.ops;
      generator = generator_of fields.generator;
      schedule = fields.schedule;
      tick_every = fields.tick_every;
      rows = fields.rows;
      seed = fields.seed;
    }

-- the plan with another schedule, all else being the same
abbrev pub plan_with_schedule : PlanValue → List Entry → PlanValue
plan_with_schedule p schedule = record p { schedule = schedule }

-- the plan with another seed, all else being the same
abbrev pub plan_with_seed : PlanValue → ℕ → PlanValue
plan_with_seed p seed = record p { seed = seed }

-- some client threads, and no more than a driver has
abbrev pub HasClients : PlanValue → Type 0
HasClients p = (1 ≤ p.clients) × (p.clients ≤ max_clients)

-- how many calls are allowed
abbrev pub HasOps : PlanValue → Type 0
HasOps p = (1 ≤ p.ops) × (p.ops ≤ max_calls_of p.database.workload)

-- how many rows are allowed
abbrev pub HasRows : PlanValue → Type 0
HasRows p = (1 ≤ p.rows) × (p.rows ≤ max_rows)

-- each node that a fault of the schedule names is in the environment
abbrev pub HasSteps : PlanValue → Type 0
HasSteps p = All (λ entry. FitsNodes (length p.env.names) entry.step) p.schedule

-- the generator's calls are requests of the workload, and none is the nemesis's
abbrev pub HasGenerator : PlanValue → Type 0
HasGenerator p = suits p.database.workload p.clients p.generator ≡ true

-- a plan that can be run
pub record IsFit (p : PlanValue) : Type 0 where
  pub clients : HasClients p
  pub ops : HasOps p
  pub rows : HasRows p
  pub generator : HasGenerator p
  pub steps : HasSteps p

-- why a plan is refused: each is looked at only where those before it are right
abbrev pub RefusesPlan : PlanValue → PlanError → Type 0
RefusesPlan p BadClients = HasClients p → ⊥
RefusesPlan p BadOps = HasClients p × (HasOps p → ⊥)
RefusesPlan p BadRows = HasClients p × HasOps p × (HasRows p → ⊥)
RefusesPlan p BadGenerator = HasClients p × HasOps p × HasRows p × (HasGenerator p → ⊥)
RefusesPlan p BadStep = HasClients p × HasOps p × HasRows p × HasGenerator p × (HasSteps p → ⊥)
RefusesPlan p OutOfMemory = IsFit p

-- why a plan takes no other schedule; its other parts are right
abbrev pub RefusesSchedule : PlanValue → List Entry → PlanError → Type 0
RefusesSchedule p schedule BadStep = HasSteps (plan_with_schedule p schedule) → ⊥
RefusesSchedule p schedule OutOfMemory = HasSteps (plan_with_schedule p schedule)
RefusesSchedule p schedule _ = ⊥

-- what holds of every plan
pub record IsKeptPlan (p : PlanValue) : Type 0 where
  pub fit : IsFit p
  pub calm : StandsFor p.env []
  pub few : length p.schedule ≤ max_entries
