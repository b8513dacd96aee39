-- What the search for a linearization keeps: proofs rest on it, and no public clause names it.
-- This project's own. The head of src/judge.rt describes the search.
use Rattle.std.specs.Prelude.{◌⊎◌, ◌≡◌, ◌==◌, ℕ, ◌+◌, ◌*◌, ◌<◌, ◌≤◌, ℤ, Bool, true, false, not}
use Rattle.std.specs.Prelude.{Option, Some, None, List, [], ◌∷◌, ◌++◌, length, take, drop, ◌-◌}
use Rattle.std.specs.Prelude.{slice_index_or, slice_get, nat_lt, map}
use Rattle.std.specs.List.{All, IsDistinct, filter, Contains}
use Rattle.jh_linear.specs.declared.register.Outcome.{Outcome}
use Rattle.jh_linear.specs.declared.register.Outcome.TheVariants.{Done, Failed, Unsure}
use Rattle.jh_linear.specs.declared.register.RegCall.{RegCall}
use Rattle.jh_linear.specs.declared.register.RegCall.TheVariants.{Read, Write, Cas}
use Rattle.jh_linear.specs.declared.register.RegOp.{RegOp}
use Rattle.jh_linear.specs.Stuck.{behind_all, op_end}
use Rattle.jh_linear.specs.declared.sorted_ops.Stage.{Stage}
use Rattle.jh_linear.specs.declared.sorted_ops.Class.{Class}
use Rattle.jh_linear.specs.declared.sorted_ops.Problem.{Problem}
use Rattle.jh_linear.specs.declared.config.Config.{Config}
use Rattle.jh_linear.specs.declared.moves.Move.{Move}
use Rattle.jh_linear.specs.declared.moves.Source.{Source}
use Rattle.jh_linear.specs.declared.moves.Source.TheVariants.{Happened, NextOfClass}
use Rattle.jh_linear.specs.declared.search.Search.{Search}
use Rattle.jh_linear.specs.declared.search.Added.{Added}
use Rattle.jh_linear.specs.declared.search.Added.TheVariants.{Known, New, Full}
use Rattle.jh_linear.specs.declared.search.Furthest.{Furthest}
use Rattle.jh_linear.specs.declared.walk.WalkEnd.{WalkEnd}
use Rattle.jh_linear.specs.declared.walk.WalkEnd.TheVariants.{Several, Stuck, Complete}
use Rattle.jh_linear.specs.declared.verdict.Step.{Step}
use Rattle.jh_linear.specs.declared.judge.ExpansionEnd.{ExpansionEnd}
use Rattle.jh_linear.specs.declared.queue.RankedConfig.{RankedConfig}
use Rattle.jh_linear.specs.declared.judge.ExpansionEnd.TheVariants.{More, Complete as Whole}
use Rattle.jh_linear.specs.declared.judge.ExpansionEnd.TheVariants.{Full as NoRoom}
use Rattle.jh_linear.specs.Order.{op_at, HasAllDone, IsPossible, IsDone, Precedes, has, Allows}
use Rattle.jh_linear.specs.Order.{EndAfterInvoked}
use Rattle.jh_linear.specs.Reached.{order_at, root, NameEarlier}
use Rattle.jh_linear.specs.WaitingInside.{IsWith, awaits, expansions_in, expansions_left}

-- ---- orders, number by number

-- The operation with a number may come next behind an order.
pub record MayComeNext (ops : List RegOp) (front : List ℕ) (number : ℕ) : Type 0 where
  pub there : number < length ops
  pub possible : IsPossible ops number
  pub fresh : has front number ≡ false
  pub ready : (first : ℕ) → Precedes ops first number → has front first ≡ true

-- Behind those in front, each operation of an order may come next when those before it have come,
-- and they lead the register from one value to the last.
abbrev pub GoesOnWith : List RegOp → List ℕ → Option ℤ → List ℕ → Option ℤ → Type 0
GoesOnWith ops front value [] last = last ≡ value
GoesOnWith ops front value (number ∷ order) last =
    MayComeNext ops front number
    × ((next : Option ℤ) × Allows (op_at ops number).call value next
    × GoesOnWith ops (front ++ number ∷ []) next order last)

-- ---- what is placed

-- Whether an operation is tried though it is not known to have happened. A read is not, since an
-- order that has it is still an order when it is left out.
abbrev pub is_unsure_change : Outcome → RegCall → Bool
is_unsure_change Failed call = false
is_unsure_change Done call = false
is_unsure_change Unsure (Read seen) = false
is_unsure_change Unsure (Write new) = true
is_unsure_change Unsure (Cas old new) = true

abbrev pub IsUnsureChange : List RegOp → ℕ → Type 0
IsUnsureChange ops number =
    is_unsure_change (op_at ops number).outcome (op_at ops number).call ≡ true

-- Where the call is allowed, it leaves the value as it is.
abbrev pub LeavesValue : RegCall → Type 0
LeavesValue call = (value next : Option ℤ) → Allows call value next → next ≡ value

-- An operation is known to have happened, leaves the value as it is, and the value allows it: it
-- can be placed at once and alone.
abbrev pub IsSettled : RegOp → Option ℤ → Type 0
IsSettled op value = (op.outcome ≡ Done) × LeavesValue op.call × Allows op.call value value

-- The register must have this value for the call.
abbrev pub Needs : RegCall → Option ℤ → Type 0
Needs (Read None) value = ⊥
Needs (Read (Some seen)) value = value ≡ Some seen
Needs (Write new) value = ⊥
Needs (Cas old new) value = value ≡ Some old

-- ---- the operations, sorted

-- the place of the invocation of an operation
abbrev pub invocation_at : List RegOp → ℕ → ℕ
invocation_at ops number = (op_at ops number).invoked

-- the place where an operation ended; one with no such place ends after all others
abbrev pub end_at : List RegOp → ℕ → ℕ
end_at ops number = op_end (op_at ops number)

-- what stands past the end of a list of stages
abbrev pub no_stage : Stage
no_stage = record { number = 0; arrived = 0 }

abbrev pub stage_at : List Stage → ℕ → Stage
stage_at stages k = slice_index_or stages k no_stage

-- the operations that are known to have happened and were invoked before the end of a stage
abbrev pub arrivals_by : List ℕ → List Stage → ℕ → List ℕ
arrivals_by arrivals stages k = take (stage_at stages k).arrived arrivals

-- The operations that are known to have happened, in the order of their invocations (`arrivals`),
-- and once more in the order of their ends (`stages`).
pub record AreDoneSorted (ops : List RegOp) (arrivals : List ℕ) (stages : List Stage) : Type 0 where
  pub distinct : IsDistinct ◌==◌ arrivals
  pub happened : All (IsDone ops) arrivals
  pub all : (number : ℕ) → IsDone ops number → has arrivals number ≡ true
  pub bounded : (k : ℕ) → k < length stages → (stage_at stages k).arrived ≤ length arrivals
  pub rises : (k : ℕ) → k + 1 < length stages
      → (stage_at stages k).arrived ≤ (stage_at stages (k + 1)).arrived
  pub each_done : (number : ℕ) → IsDone ops number → (k : ℕ) × (k < length stages)
      × ((stage_at stages k).number ≡ number)
  pub are_done : (k : ℕ) → k < length stages → IsDone ops (stage_at stages k).number
  pub ends_rise : (j k : ℕ) → j ≤ k → k < length stages
      → end_at ops (stage_at stages j).number ≤ end_at ops (stage_at stages k).number
  pub needs : (k first second : ℕ) → k < length stages
      → invocation_at ops second ≤ end_at ops (stage_at stages k).number → Precedes ops first second
      → (j : ℕ) × (j < k) × ((stage_at stages j).number ≡ first)
  pub in_time : (k number : ℕ) → k < length stages
      → has (arrivals_by arrivals stages k) number ≡ true
      → invocation_at ops number ≤ end_at ops (stage_at stages k).number
  pub enough : (k number : ℕ) → k < length stages → IsDone ops number
      → (Precedes ops (stage_at stages k).number number → ⊥)
      → has (arrivals_by arrivals stages k) number ≡ true

-- an operation of unknown outcome as an entry, sorted by its call and then by its invocation
abbrev pub unknown_entry : List RegOp → ℕ → RegCall × ℕ × ℕ
unknown_entry ops number = ((op_at ops number).call, invocation_at ops number, number)

-- Two entries have the same call, and the first is not invoked after the second.
abbrev pub AreTwinEntries : RegCall × ℕ × ℕ → RegCall × ℕ × ℕ → Type 0
AreTwinEntries first second = (first.0 ≡ second.0) × (first.1 ≤ second.1)

-- that of two operations
abbrev pub AreTwins : List RegOp → ℕ → ℕ → Type 0
AreTwins ops first second = AreTwinEntries (unknown_entry ops first) (unknown_entry ops second)

-- what stands past the end of a list of classes
abbrev pub no_class : Class
no_class = record { from = 0; upto = 0 }

abbrev pub class_at : List Class → ℕ → Class
class_at classes k = slice_index_or classes k no_class

-- The operation of unknown outcome at an index is of this class.
abbrev pub IsOfClass : List Class → ℕ → ℕ → Type 0
IsOfClass classes k j = ((class_at classes k).from ≤ j) × (j < (class_at classes k).upto)

-- the number of the operation of unknown outcome at an index
abbrev pub unknown_number : List ℕ → ℕ → ℕ
unknown_number unknown j = slice_index_or unknown j 0

-- The operations of unknown outcome that are tried, each in one class; those of a class are twins,
-- in the order of invocation.
pub record AreClasses (ops : List RegOp) (unknown : List ℕ) (classes : List Class) : Type 0 where
  pub distinct : IsDistinct ◌==◌ unknown
  pub each : All (IsUnsureChange ops) unknown
  pub all : (number : ℕ) → IsUnsureChange ops number → has unknown number ≡ true
  pub bounded : (k : ℕ) → k < length classes
      → ((class_at classes k).from ≤ (class_at classes k).upto)
      × ((class_at classes k).upto ≤ length unknown)
  pub covered : (j : ℕ) → j < length unknown → (k : ℕ) × (k < length classes)
      × IsOfClass classes k j
  pub rises : (k l : ℕ) → k < l → l < length classes
      → (class_at classes k).upto ≤ (class_at classes l).from
  pub twins : (k i j : ℕ) → k < length classes → IsOfClass classes k i → IsOfClass classes k j
      → i ≤ j → AreTwins ops (unknown_number unknown i) (unknown_number unknown j)

-- What a search takes for granted: operations end after their invocations, and are sorted rightly.
pub record IsProblem (problem : Problem) : Type 0 where
  pub ends : EndAfterInvoked problem.ops.now
  pub done : AreDoneSorted problem.ops.now problem.sorted.arrivals.items
      problem.sorted.stages.items
  pub classes : AreClasses problem.ops.now problem.sorted.unsure_changes.items
      problem.sorted.classes.items

-- how many stages there are
abbrev pub stages_in : Problem → ℕ
stages_in problem = length problem.sorted.stages.items

-- the operation of a stage
abbrev pub stage_number : Problem → ℕ → ℕ
stage_number problem k = (stage_at problem.sorted.stages.items k).number

-- ---- configurations

-- those of some numbers that do not stand in an order
abbrev pub numbers_without : List ℕ → List ℕ → List ℕ
numbers_without order numbers = filter (λ number. not (has order number)) numbers

-- The stage at which an order is, and which operations are pending there: those that are known to
-- have happened, were invoked before the end of the stage, and do not stand in the order.
pub record IsAt (arrivals : List ℕ) (stages : List Stage) (order : List ℕ) (stage : ℕ)
    (pending : List ℕ) : Type 0 where
  pub passed : (k : ℕ) → k < stage → has order (stage_at stages k).number ≡ true
  pub pending_is : stage < length stages
      → pending ≡ numbers_without order (arrivals_by arrivals stages stage)
  pub arrived : stage < length stages → (number : ℕ) → has order number ≡ true
      → has arrivals number ≡ true → has (arrivals_by arrivals stages stage) number ≡ true

-- the index of the next operation of a class
abbrev pub next_at : List ℕ → ℕ → ℕ
next_at next k = slice_index_or next k 0

-- Of each class the operations before its next are placed, and no others.
pub record AreNext (unknown : List ℕ) (classes : List Class) (order : List ℕ)
    (next : List ℕ) : Type 0 where
  pub sizes : length next ≡ length classes
  pub bounds : (k : ℕ) → k < length classes → ((class_at classes k).from ≤ next_at next k)
      × (next_at next k ≤ (class_at classes k).upto)
  pub placed : (k j : ℕ) → k < length classes → IsOfClass classes k j
      → has order (unknown_number unknown j) ≡ nat_lt j (next_at next k)

-- A configuration stands for an order: that leads to its value, and has the operations that the
-- configuration says to be placed.
pub record LeadsTo (problem : Problem) (order : List ℕ) (config : Config) : Type 0 where
  pub follows : GoesOnWith problem.ops.now [] problem.initial order config.value
  pub searched : (number : ℕ) → has order number ≡ true → IsDone problem.ops.now number
      ⊎ IsUnsureChange problem.ops.now number
  pub known : IsAt problem.sorted.arrivals.items problem.sorted.stages.items order config.stage
      config.happened.items
  pub used : AreNext problem.sorted.unsure_changes.items problem.sorted.classes.items order
      config.next.items
  pub low : config.stage ≤ stages_in problem
  pub waits : config.stage < stages_in problem
      → has order (stage_number problem config.stage) ≡ false

-- Two configurations have the same stage, the same numbers pending and next, and the same value.
abbrev pub AreSame : Config → Config → Type 0
AreSame a b =
    (a.stage ≡ b.stage) × (a.happened.items ≡ b.happened.items) × (a.next.items ≡ b.next.items)
    × (a.value ≡ b.value)

-- An order that leads to this value can be continued to one that passes so many stages.
abbrev pub CanReach : Problem → ℕ → List ℕ → Option ℤ → Type 0
CanReach problem stages order value =
    (back : List ℕ) × (last : Option ℤ) × GoesOnWith problem.ops.now order value back last
    × ((k : ℕ) → k < stages → has (order ++ back) (stage_number problem k) ≡ true)

-- If one order can be continued past this stage, to some number of stages, so can another one.
abbrev pub Carries : Problem → ℕ → List ℕ → Option ℤ → List ℕ → Option ℤ → Type 0
Carries problem stage order value order' value' =
    (stages : ℕ) → stage < stages → stages ≤ stages_in problem → CanReach problem stages order value
    → CanReach problem stages order' value'

-- An order can't be continued to one that passes the stage.
abbrev pub IsDead : Problem → ℕ → List ℕ → Option ℤ → Type 0
IsDead problem stage order value =
    (stages : ℕ) → stage < stages → stages ≤ stages_in problem → CanReach problem stages order value
    → ⊥

-- ---- moves

-- the number of the operation that a move places
abbrev pub source_number : Problem → Config → Source → ℕ
source_number problem config (Happened index) = slice_index_or config.happened.items index 0
source_number problem config (NextOfClass k) =
    unknown_number problem.sorted.unsure_changes.items (next_at config.next.items k)

-- that operation
abbrev pub op_of : Problem → Config → Source → RegOp
op_of problem config source = op_at problem.ops.now (source_number problem config source)

-- its call
abbrev pub source_call : Problem → Config → Source → RegCall
source_call problem config source = (op_of problem config source).call

-- The class has an operation that is not placed.
abbrev pub IsLeft : Problem → Config → ℕ → Type 0
IsLeft problem config k =
    (k < length problem.sorted.classes.items)
    × (next_at config.next.items k < (class_at problem.sorted.classes.items k).upto)

-- There is such an operation, which is not placed and was invoked before the end of the stage.
abbrev pub CanBePlaced : Problem → Config → Source → Type 0
CanBePlaced problem config (Happened index) = index < length config.happened.items
CanBePlaced problem config (NextOfClass k) =
    IsLeft problem config k
    × (invocation_at problem.ops.now (source_number problem config (NextOfClass k))
    ≤ end_at problem.ops.now (stage_number problem config.stage))

-- A move can be made: its operation can be placed, and leads from the value to that of the move.
abbrev pub IsMove : Problem → Config → Move → Type 0
IsMove problem config move =
    CanBePlaced problem config move.source
    × Allows (source_call problem config move.source) config.value move.value

-- The class has an operation that is not placed, and the next of them may come before the operation
-- of the stage.
abbrev pub IsReady : Problem → Config → ℕ → Type 0
IsReady problem config k =
    IsLeft problem config k
    × (Precedes problem.ops.now (stage_number problem config.stage)
    (source_number problem config (NextOfClass k)) → ⊥)

-- Some operation that may come next needs the register to have this value.
abbrev pub IsWanted : Problem → Config → Option ℤ → Type 0
IsWanted problem config value =
    ((index : ℕ) × (index < length config.happened.items)
    × Needs (source_call problem config (Happened index)) value)
    ⊎ ((k : ℕ) × IsReady problem config k
    × Needs (source_call problem config (NextOfClass k)) value)

-- There is a move with this source and value.
abbrev pub IsAmong : List Move → Source → Option ℤ → Type 0
IsAmong moves source value =
    (i : ℕ) × (move : Move) × (slice_get moves i ≡ Some move) × (move.source ≡ source)
    × (move.value ≡ value)

-- Each pending operation below an index is among the moves, where the value allows it.
abbrev pub HasHappened : Problem → Config → List Move → ℕ → Type 0
HasHappened problem config moves bound =
    (index : ℕ) (next : Option ℤ) → index < bound
    → Allows (source_call problem config (Happened index)) config.value next
    → IsAmong moves (Happened index) next

-- The next operation of each class below a bound is among the moves, where it may come next and
-- leads to a value that is wanted.
abbrev pub HasUnknown : Problem → Config → List Move → ℕ → Type 0
HasUnknown problem config moves bound =
    (k : ℕ) (next : Option ℤ) → k < bound → IsReady problem config k
    → Allows (source_call problem config (NextOfClass k)) config.value next
    → IsWanted problem config next → IsAmong moves (NextOfClass k) next

-- No pending operation below an index is a read of any value.
abbrev pub IsNoneSettled : Problem → Config → ℕ → Type 0
IsNoneSettled problem config bound =
    (index : ℕ) → index < bound
    → IsDone problem.ops.now (source_number problem config (Happened index))
    → source_call problem config (Happened index) ≡ Read None → ⊥

-- The pending operation at an index can be placed at once and alone.
abbrev pub IsSettledAt : Problem → Config → ℕ → Type 0
IsSettledAt problem config index =
    (index < length config.happened.items)
    × IsSettled (op_of problem config (Happened index)) config.value

-- The moves are enough for no order to be lost: one of them places an operation that can be placed
-- at once and alone, or they have all pending operations, and the next of each class that is
-- wanted.
abbrev pub AreEnough : Problem → Config → List Move → Type 0
AreEnough problem config moves =
    ((index : ℕ) × IsSettledAt problem config index × IsAmong moves (Happened index) config.value)
    ⊎ (HasHappened problem config moves (length config.happened.items)
    × HasUnknown problem config moves (length problem.sorted.classes.items)
    × IsNoneSettled problem config (length config.happened.items))

-- Each of the moves can be made.
abbrev pub EachIsMove : Problem → Config → List Move → Type 0
EachIsMove problem config moves =
    (i : ℕ) (move : Move) → slice_get moves i ≡ Some move → IsMove problem config move

-- There are more moves than before, and all can be made if those before could.
pub record MovesMore (problem : Problem) (config : Config) (old new : List Move) : Type 0 where
  pub each : EachIsMove problem config old → EachIsMove problem config new
  pub kept : (source : Source) (value : Option ℤ) → IsAmong old source value
      → IsAmong new source value

-- the moves from a configuration: each can be made, and they are enough
pub record AreMoves (problem : Problem) (config : Config) (moves : List Move) : Type 0 where
  pub each : EachIsMove problem config moves
  pub enough : AreEnough problem config moves

-- ---- one step, and a walk

-- The ends of the stages come one after another, so that more and more operations are invoked
-- before them.
pub record AreRising (arrivals : List ℕ) (stages : List Stage) : Type 0 where
  pub bounded : (k : ℕ) → k < length stages → (stage_at stages k).arrived ≤ length arrivals
  pub rises : (k : ℕ) → k + 1 < length stages
      → (stage_at stages k).arrived ≤ (stage_at stages (k + 1)).arrived

-- the operations that were invoked after the end of a stage, and before that of the next
abbrev pub arrivals_after : List ℕ → List Stage → ℕ → List ℕ
arrivals_after arrivals stages stage =
    take ((stage_at stages (stage + 1)).arrived - (stage_at stages stage).arrived)
    (drop (stage_at stages stage).arrived arrivals)

-- From one stage an order comes to a later one, which it does not pass, with these operations
-- pending there.
pub record PassesStages (problem : Problem) (stage : ℕ) (pending : List ℕ) (later : ℕ)
    (left : List ℕ) : Type 0 where
  pub rises : stage ≤ later
  pub low : later ≤ stages_in problem
  pub waits : later < stages_in problem → has left (stage_number problem later) ≡ true
  pub at : (order : List ℕ)
      → IsAt problem.sorted.arrivals.items problem.sorted.stages.items order stage pending
      → IsAt problem.sorted.arrivals.items problem.sorted.stages.items order later left

-- A configuration with this value stands for every order that the other one stands for, with one
-- more number.
pub record IsAfter (problem : Problem) (config : Config) (number : ℕ) (value : Option ℤ)
    (config' : Config) : Type 0 where
  pub rises : config.stage ≤ config'.stage
  pub value_is : config'.value ≡ value
  pub sizes : length config'.next.items ≡ length config.next.items
  pub stands : (order : List ℕ) → LeadsTo problem order config
      → LeadsTo problem (order ++ number ∷ []) config'

-- A move was made, and its operation appended to those that were placed.
pub record IsMadeBy (problem : Problem) (config : Config) (placed : List ℕ) (move : Move)
    (config' : Config) (placed' : List ℕ) : Type 0 where
  pub after : IsAfter problem config (source_number problem config move.source) move.value config'
  pub placed_is : placed' ≡ placed ++ source_number problem config move.source ∷ []

-- A walk led from one configuration to another: that stands for every order that the first one
-- stands for, with the operations behind that were placed, and no order is lost.
pub record HasGone (problem : Problem) (config : Config) (placed : List ℕ) (config' : Config)
    (placed' : List ℕ) : Type 0 where
  pub rises : config.stage ≤ config'.stage
  pub longer : length placed ≤ length placed'
  pub sizes : length config'.next.items ≡ length config.next.items
  pub stands : (front : List ℕ) → LeadsTo problem (front ++ placed) config
      → LeadsTo problem (front ++ placed') config'
  pub carries : (front : List ℕ) → LeadsTo problem (front ++ placed) config
      → Carries problem config'.stage (front ++ placed) config.value
      (front ++ placed') config'.value

-- what is known where a walk ends
abbrev pub EndsAs : Problem → Config → List ℕ → WalkEnd → Type 0
EndsAs problem config placed Several = config.stage < stages_in problem
EndsAs problem config placed Stuck =
    (config.stage < stages_in problem)
    × ((front : List ℕ) → LeadsTo problem (front ++ placed) config
    → IsDead problem config.stage (front ++ placed) config.value)
EndsAs problem config placed Complete = stages_in problem ≤ config.stage

-- ---- the search

-- The configurations that were reached so far, each by its own order, and none in which every stage
-- is passed.
pub record IsSearch (problem : Problem) (configs : List Config) (steps : List Step) : Type 0 where
  pub sizes : length configs ≡ length steps
  pub some : 0 < length steps
  pub begins : slice_index_or steps 0 root ≡ root
  pub earlier : NameEarlier steps
  pub stands : (i : ℕ) (config : Config) → slice_get configs i ≡ Some config
      → LeadsTo problem (order_at steps i) config
  pub open' : (i : ℕ) (config : Config) → slice_get configs i ≡ Some config
      → config.stage < stages_in problem
  pub apart : (i j : ℕ) (a b : Config) → i < j → slice_get configs i ≡ Some a
      → slice_get configs j ≡ Some b → AreSame a b → ⊥

-- the order that passes the most stages
abbrev pub furthest_order : List Step → Furthest → List ℕ
furthest_order steps furthest = order_at steps furthest.step.parent ++ furthest.step.placed

-- An order that passes so many stages, which is not all; no configuration that was reached passes
-- more.
pub record IsFurthest (problem : Problem) (configs : List Config) (steps : List Step)
    (furthest : Furthest) : Type 0 where
  pub named : furthest.step.parent < length steps
  pub open' : furthest.stage < stages_in problem
  pub value : Option ℤ
  pub follows : GoesOnWith problem.ops.now [] problem.initial (furthest_order steps furthest) value
  pub passed : (k : ℕ) → k < furthest.stage
      → has (furthest_order steps furthest) (stage_number problem k) ≡ true
  pub most : (i : ℕ) (config : Config) → slice_get configs i ≡ Some config
      → config.stage ≤ furthest.stage

-- A configuration was reached with a longer order, which can be continued to one that passes so
-- many stages.
abbrev pub LeadsOn : Problem → List Config → List Step → ℕ → ℕ → Type 0
LeadsOn problem configs steps size stages =
    (i : ℕ) × (found : Config) × (slice_get configs i ≡ Some found)
    × (size < length (order_at steps i))
    × CanReach problem stages (order_at steps i) found.value

-- An order with this value was expanded: if it can be continued past the stage, then so can the
-- longer order of another configuration that was reached.
abbrev pub IsGoneOn : Problem → List Config → List Step → ℕ → List ℕ → Option ℤ → Type 0
IsGoneOn problem configs steps stage order value =
    (stages : ℕ) → stage < stages → stages ≤ stages_in problem → CanReach problem stages order value
    → LeadsOn problem configs steps (length order) stages

-- What comes of adding a configuration: it was known, it is new and waits, or it is new and the
-- budget is used up.
abbrev pub Adds : Search → Search → ℕ → ℕ → List ℕ → Config → Added → Type 0
Adds old new budget parent placed config Known =
    (new.configs.keys ≡ old.configs.keys) × (new.steps.items ≡ old.steps.items)
    × (new.waiting ≡ old.waiting)
    × (new.furthest ≡ old.furthest)
    × ((i : ℕ) × (found : Config) × (slice_get old.configs.keys i ≡ Some found)
    × AreSame config found)
Adds old new budget parent placed config New =
    (new.configs.keys ≡ old.configs.keys ++ config ∷ [])
    × (new.steps.items ≡ old.steps.items ++ record { parent = parent; placed = placed } ∷ [])
    × ((ranked : RankedConfig) × (ranked.at ≡ length old.configs.keys) × (ranked.is_last ≡ false)
    × IsWith ranked old.waiting new.waiting)
    × (new.furthest ≡ old.furthest)
    × ((i : ℕ) (found : Config) → slice_get old.configs.keys i ≡ Some found → AreSame config found
    → ⊥)
    × ((length old.steps.items ≡ budget) → ⊥)
Adds old new budget parent placed config Full =
    (new.steps.items ≡ old.steps.items) × (length old.steps.items ≡ budget)

-- What comes of noting an order: it is kept if it passes more stages than any before.
pub record Notes (old new : Search) (parent : ℕ) (placed : List ℕ) (stage : ℕ) : Type 0 where
  pub configs : new.configs.keys ≡ old.configs.keys
  pub steps : new.steps.items ≡ old.steps.items
  pub waiting : new.waiting ≡ old.waiting
  pub furthest : ((stage ≤ old.furthest.stage) × (new.furthest ≡ old.furthest))
      ⊎ ((old.furthest.stage < stage)
      × (new.furthest
      ≡ record { stage = stage; step = record { parent = parent; placed = placed } }))

-- the lists that a search keeps, and how far it came
pub record SearchLists : Type 0 where
  pub configs : List Config
  pub steps : List Step
  pub waiting : List RankedConfig
  pub furthest : Furthest

-- the lists of a search, as a value of the program has them
abbrev pub search_lists : Search → SearchLists
search_lists search = record {
  configs = search.configs.keys;
  steps = search.steps.items;
  waiting = search.waiting;
  furthest = search.furthest;
}

-- What holds between the lists before and after a part of the search.
pub record Grows (problem : Problem) (old new : SearchLists) : Type 0 where
  pub known : IsSearch problem new.configs new.steps
  pub far : IsFurthest problem new.configs new.steps new.furthest
  pub few : length new.steps ≤ problem.budget
  pub longer : length old.steps ≤ length new.steps
  pub further : old.furthest.stage ≤ new.furthest.stage
  pub orders : (i : ℕ) → i < length old.steps → order_at new.steps i ≡ order_at old.steps i
  pub kept : (i : ℕ) (config : Config) → slice_get old.configs i ≡ Some config
      → slice_get new.configs i ≡ Some config
  pub fresh : (i : ℕ) (config : Config) → slice_get new.configs i ≡ Some config
      → (slice_get old.configs i ≡ Some config) ⊎ (awaits new.waiting i ≡ true)
  pub waits : (i : ℕ) → awaits old.waiting i ≡ true → awaits new.waiting i ≡ true
  pub inside : ((i : ℕ) → awaits old.waiting i ≡ true → i < length old.steps) → (i : ℕ)
      → awaits new.waiting i ≡ true → i < length new.steps
  pub balance : expansions_in new.waiting + 2 * length old.steps
      ≡ expansions_in old.waiting + 2 * length new.steps

abbrev pub GrowsTo : Problem → Search → Search → Type 0
GrowsTo problem old new = Grows problem (search_lists old) (search_lists new)

-- An order that passes every stage.
abbrev pub IsWholeOrder : Problem → List ℕ → Type 0
IsWholeOrder problem order =
    ((end : Option ℤ) × GoesOnWith problem.ops.now [] problem.initial order end)
    × HasAllDone problem.ops.now order

-- The budget is used up.
abbrev pub IsFull : Problem → Search → Type 0
IsFull problem search =
    ((configs : List Config) × IsSearch problem configs search.steps.items)
    × (length search.steps.items ≡ problem.budget)

-- What holds of a search at any time, also while a configuration is expanded.
pub record IsSearchSoFar (problem : Problem) (search : Search) : Type 0 where
  pub known : IsSearch problem search.configs.keys search.steps.items
  pub far : IsFurthest problem search.configs.keys search.steps.items search.furthest
  pub few : length search.steps.items ≤ problem.budget

-- A configuration is the one that was reached at an index.
abbrev pub WasReached : Search → ℕ → Config → Type 0
WasReached search at config =
    (found : Config) × (slice_get search.configs.keys at ≡ Some found) × AreSame found config

-- A move was tried: if the order can be continued by it past the furthest stage, then so can the
-- longer order of a configuration that was reached.
abbrev pub IsMoved : Problem → Search → Search → ℕ → Config → Move → Type 0
IsMoved problem old new at config move =
    (stages : ℕ) → new.furthest.stage < stages → stages ≤ stages_in problem
    → CanReach problem stages
    (order_at old.steps.items at ++ source_number problem config move.source ∷ []) move.value
    → LeadsOn problem new.configs.keys new.steps.items (length (order_at old.steps.items at)) stages

-- What came of entering a configuration, which was reached from the order at an index by placing
-- some operations.
abbrev pub ComesOfEntering : Problem → Search → Search → ℕ → List ℕ → Config → ExpansionEnd → Type 0
ComesOfEntering problem old new at placed config More =
    GrowsTo problem old new × (new.furthest ≡ old.furthest)
    × ((stages : ℕ) → CanReach problem stages (order_at old.steps.items at ++ placed) config.value
    → LeadsOn problem new.configs.keys new.steps.items
    (length (order_at old.steps.items at)) stages)
ComesOfEntering problem old new at placed config (Whole numbers) = ⊥
ComesOfEntering problem old new at placed config NoRoom = IsFull problem new

-- What came of making one move behind the order at an index.
abbrev pub ComesOfMove : Problem → Search → Search → ℕ → Config → Move → ExpansionEnd → Type 0
ComesOfMove problem old new at config move More =
    GrowsTo problem old new × IsMoved problem old new at config move
ComesOfMove problem old new at config move (Whole placed) =
    (new.steps.items ≡ old.steps.items)
    × IsWholeOrder problem (order_at old.steps.items at ++ placed.items)
ComesOfMove problem old new at config move NoRoom = IsFull problem new

-- Each of the moves was tried from the configuration at an index.
abbrev pub AreAllTried : Problem → Search → Search → ℕ → Config → List Move → Type 0
AreAllTried problem old new at config moves =
    (i : ℕ) (move : Move) → slice_get moves i ≡ Some move → IsMoved problem old new at config move

-- The last moves, this many of them, were tried from the configuration at an index.
abbrev pub AreTried : Problem → Search → Search → ℕ → Config → List Move → ℕ → Type 0
AreTried problem old new at config moves count =
    (i : ℕ) (move : Move) → length moves ≤ i + count → slice_get moves i ≡ Some move
    → IsMoved problem old new at config move

-- What is known where an order is complete: that of the configuration at an index, with more
-- numbers behind.
abbrev pub IsCompleted : Problem → Search → ℕ → List ℕ → Type 0
IsCompleted problem search at placed =
    IsWholeOrder problem (order_at search.steps.items at ++ placed)
    × (at < length search.steps.items) × NameEarlier search.steps.items

-- What came of trying moves from the configuration at an index.
abbrev pub WereTried : Problem → Search → Search → ℕ → Config → List Move → ExpansionEnd → Type 0
WereTried problem old new at config moves More =
    GrowsTo problem old new × AreAllTried problem old new at config moves
WereTried problem old new at config moves (Whole placed) = IsCompleted problem new at placed.items
WereTried problem old new at config moves NoRoom = IsFull problem new

-- A configuration was expanded: all its moves were tried, or it waits for its second expansion.
pub record IsExpanded (problem : Problem) (old new : Search) (ranked : RankedConfig) : Type 0 where
  pub again : List RankedConfig
  pub fewer : expansions_in again < expansions_left ranked
  pub own : (i : ℕ) → awaits again i ≡ true → i ≡ ranked.at
  pub on : Grows problem (record (search_lists old) { waiting = again ++ old.waiting })
      (search_lists new)
  pub gone : (awaits again ranked.at ≡ true)
      ⊎ ((config : Config) → slice_get old.configs.keys ranked.at ≡ Some config
      → IsGoneOn problem new.configs.keys new.steps.items new.furthest.stage
      (order_at old.steps.items ranked.at) config.value)

-- What came of expanding a configuration.
abbrev pub ComesOfExpansion : Problem → Search → Search → RankedConfig → ExpansionEnd → Type 0
ComesOfExpansion problem old new ranked More = IsExpanded problem old new ranked
ComesOfExpansion problem old new ranked (Whole placed) =
    IsCompleted problem new ranked.at placed.items
ComesOfExpansion problem old new ranked NoRoom = IsFull problem new

-- Each configuration that was reached waits or was expanded.
pub record IsSearchKept (problem : Problem) (search : Search) : Type 0 where
  pub begun : IsSearchSoFar problem search
  pub first : (config : Config) × (slice_get search.configs.keys 0 ≡ Some config)
      × (config.value ≡ problem.initial)
  pub inside : (i : ℕ) → awaits search.waiting i ≡ true → i < length search.steps.items
  pub gone : (i : ℕ) (config : Config) → slice_get search.configs.keys i ≡ Some config
      → (awaits search.waiting i ≡ true)
      ⊎ IsGoneOn problem search.configs.keys search.steps.items search.furthest.stage
      (order_at search.steps.items i) config.value

-- Nothing waits any more.
abbrev pub IsExhausted : Problem → Search → Type 0
IsExhausted problem search = IsSearchKept problem search × (search.waiting ≡ [])

-- ---- sorting

-- Entries with a number in each, one for each number below a bound that is to have one.
pub record AreNumberEntries {X : Type 0} (Kept : ℕ → Type 0) (entry : ℕ → X) (number : X → ℕ)
    (bound : ℕ) (entries : List X) : Type 0 where
  pub each : All (λ x. (number x < bound) × Kept (number x) × (entry (number x) ≡ x)) entries
  pub all : (p : ℕ) → p < bound → Kept p → Contains entries (entry p)
  pub distinct : IsDistinct ◌==◌ (map number entries)

-- the number of an operation behind the place of its invocation, or behind that of its end
abbrev pub arrival_entry : List RegOp → ℕ → ℕ × ℕ
arrival_entry ops number = (invocation_at ops number, number)

abbrev pub end_entry : List RegOp → ℕ → ℕ × ℕ
end_entry ops number = (end_at ops number, number)

-- What entries are sorted by, the first of each, does not fall.
abbrev pub DoNotFall : List (ℕ × ℕ) → Type 0
DoNotFall entries =
    (i j : ℕ) (d : ℕ × ℕ) → i ≤ j → j < length entries
    → (slice_index_or entries i d).0 ≤ (slice_index_or entries j d).0

-- what stands past the end of a list of entries
abbrev pub no_entry : ℕ × ℕ
no_entry = (0, 0)

-- There is a stage for each end, with the number of the invocations that are not after it.
pub record AreStages (invocations ends : List (ℕ × ℕ)) (stages : List Stage) : Type 0 where
  pub sizes : length stages ≡ length ends
  pub number : (k : ℕ) → k < length stages
      → (stage_at stages k).number ≡ (slice_index_or ends k no_entry).1
  pub bounded : (k : ℕ) → k < length stages → (stage_at stages k).arrived ≤ length invocations
  pub below : (k i : ℕ) → k < length stages → i < (stage_at stages k).arrived
      → (slice_index_or invocations i no_entry).0 ≤ (slice_index_or ends k no_entry).0
  pub above : (k : ℕ) → k < length stages → (stage_at stages k).arrived < length invocations
      → ((slice_index_or ends k no_entry).0
      < (slice_index_or invocations (stage_at stages k).arrived no_entry).0)
      × ((slice_index_or ends k no_entry).0 < behind_all)

-- what stands past the end of a list of entries with calls
abbrev pub no_call : RegCall × ℕ × ℕ
no_call = (Read None, 0, 0)

-- The classes of the entries below an index: each has neighbours that go together, and each entry
-- is in one.
pub record AreClassesUpTo (entries : List (RegCall × ℕ × ℕ)) (classes : List Class)
    (upto : ℕ) : Type 0 where
  pub bounded : (k : ℕ) → k < length classes
      → ((class_at classes k).from ≤ (class_at classes k).upto) × ((class_at classes k).upto ≤ upto)
  pub covered : (j : ℕ) → j < upto → (k : ℕ) × (k < length classes) × IsOfClass classes k j
  pub rises : (k l : ℕ) → k < l → l < length classes
      → (class_at classes k).upto ≤ (class_at classes l).from
  pub together : (k i j : ℕ) → k < length classes → IsOfClass classes k i → IsOfClass classes k j
      → i ≤ j
      → AreTwinEntries (slice_index_or entries i no_call) (slice_index_or entries j no_call)
