-- What a contract sees of the fields of a world and of a plan, and what holds of them.
-- This project's own.
use Rattle.jh_nemesis.specs.State.{State}
use Rattle.jh_simnode.specs.declared.database.Database.{Database}
use Rattle.jh_simnode.specs.Events.{Setup, WorldValue, IsWorldOf}
use Rattle.jh_simnode.specs.Plans.{PlanValue, IsKeptPlan}
use Rattle.jh_simnode.specs.declared.plan.Plan.TheInside as plan
use Rattle.jh_simnode.specs.declared.world.World.TheInside.{Inside}

-- what a world keeps for good
abbrev pub world_setup : State → Database → Setup
world_setup s database = record { names = s.names; start = s.start; database = database }

-- what callers see of what a world is made of
abbrev pub world_of : Inside → WorldValue
world_of a =
    record {
      setup = world_setup a.nemesis.state a.database;
      journal = a.journal.items;
      work =
          a.nemesis.work;
    }

-- what holds of every world
abbrev pub IsSoundWorld : Inside → Type 0
IsSoundWorld a =
    IsWorldOf (world_setup a.nemesis.state a.database) a.nemesis.state a.replicas.items
    a.journal.items

-- what callers see of what a plan is made of
abbrev pub plan_of : plan.Inside → PlanValue
plan_of a = record {
  env = a.environment;
  database = a.database;
  clients = a.clients;
  ops = a.ops;
  generator = a.generator;
  schedule = a.schedule;
  tick_every = a.tick_every;
  rows = a.rows;
  seed = a.seed;
}

-- what holds of every plan, as it is made
abbrev pub IsKeptInside : plan.Inside → Type 0
IsKeptInside a = IsKeptPlan (plan_of a)
