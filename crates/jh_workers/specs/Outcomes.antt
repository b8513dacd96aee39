-- What a run of a plan on threads over a locked world leaves (this project's own).
use Rattle.std.specs.Prelude.{List}
use Rattle.jh_audit.specs.Audit.{IsAudited}
use Rattle.jh_audit.specs.Plans.{FollowsPlan}
use Rattle.jh_ops.specs.Operation.{Operation}
use Rattle.jh_simnode.specs.declared.events.Event.{Event}
use Rattle.jh_simnode.specs.Plans.{PlanValue}
use Rattle.jh_workers.specs.Shown.{IsJournal}

-- a legal journal, and a history that tells the same and keeps to the plan
pub record IsOutcome (p : PlanValue) (journal : List Event)
    (history : List Operation) : Type 0 where
  pub legal : IsJournal journal
  pub audited : IsAudited journal history
  pub planned : FollowsPlan p journal history
