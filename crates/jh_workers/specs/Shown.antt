-- What a locked world shows (this project's own).
use Rattle.std.specs.Prelude.{ℕ, List}
use Rattle.jh_simnode.specs.declared.events.Event.{Event}
use Rattle.jh_simnode.specs.Events.{Setup, IsLegal}

-- the parts of the ledger of a locked world, one for each share: enough for the most client threads
-- and the thread that applies the schedule
abbrev pub world_parts : ℕ
world_parts = 32

-- a journal that is legal for the nodes, starting cells and database of some world; which world that
-- is stays open here, also where a plan is given beside the journal
abbrev pub IsJournal : List Event → Type 0
IsJournal journal = (setup : Setup) × IsLegal setup journal
