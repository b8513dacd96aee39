-- What a verdict names has numbers below those of the tables, and places below that of the pairs.
use Rattle.std.proofs.Common.{◌≡◌, ℕ, zero, suc, ◌<◌, Bool, true, false, eqb, cond, List, [], ◌∷◌, length, map, refl, sym, subst, arith, inl, inr}
use Rattle.std.specs.List.{All}
use Rattle.std.proofs.lemmas.Bool.{false≢true, eqb-true}
use Rattle.std.proofs.lemmas.List.Elements.{All-cons, All-nil}
use Rattle.jh_txn.proofs.ListLemmas.{includes_cons}
use Rattle.jh_txn.proofs.OrderCheckLemmas.{done_below}
use Rattle.jh_txn.specs.declared.dependency.Step.{Step}
use Rattle.jh_txn.specs.declared.dependency.Why.{Why}
use Rattle.jh_txn.specs.declared.dependency.Why.TheVariants.{WriteRead, WriteWrite, FirstCommitter, ReadWrite, RealTime}
use Rattle.jh_txn.specs.declared.model.ConsistencyModel.{ConsistencyModel}
use Rattle.jh_txn.specs.declared.txn.MicroOp.{MicroOp}
use Rattle.jh_txn.specs.declared.txn.MicroOp.TheVariants.{Append, Read}
use Rattle.jh_txn.specs.declared.txn.Txn.{Txn}
use Rattle.jh_txn.specs.BadReads.{IsBadRead}
use Rattle.jh_txn.specs.Cycles.{IsCycle, IsSnapshotCycle, LeadTo, first_place}
use Rattle.jh_txn.specs.declared.anomaly.BadRead as wrong
use Rattle.jh_txn.specs.Dependencies.{IsReason, MustBeThere}
use Rattle.jh_txn.specs.Transactions.{Appends, IsKeyBelow, appended, includes, ops_at}
use Rattle.jh_txn_findings.specs.Found.{AreStepsNumbered, IsWhyNumbered}
use Rattle.jh_txn_writers.proofs.EntryLemmas.{ops_all}
use Rattle.jh_txn_writers.specs.Numbers.{AreElementsOfBelow, AreNumbersOf}

module _ (keys elements key element : ℕ) where
  abbrev Below : Type 0
  Below = (key < keys) × (element < elements)

  -- of an append and what is behind it
  append_below : (k e : ℕ) (rest : List ℕ) → k < keys → e < elements → (includes rest element ≡ true → Below) → (b : Bool) → eqb k key ≡ b → includes (cond b (e ∷ rest) rest) element ≡ true → Below
  append_below k e rest low small later false is there = later there
  append_below k e rest low small later true is there = elim (includes_cons e rest element there) as (λ _. Below) [
    | inl own ↦ (subst (λ n. n < keys) (eqb-true k key is) low, subst (λ n. n < elements) own small)
    | inr behind ↦ later behind
  ]

  -- what is appended is within bounds
  ops_below : (ops : List MicroOp) → All (IsKeyBelow keys) ops → All (AreElementsOfBelow elements) ops → includes (appended key ops) element ≡ true → Below
  ops_below [] ks es h = absurd (false≢true h)
  ops_below (Read k seen ∷ ops) ks es h =
      ops_below ops (λ i d low. ks (suc i) d (omega (arith, low))) (λ i d low. es (suc i) d (omega (arith, low))) h
  ops_below (Append k e ∷ ops) ks es h =
      append_below k e (appended key ops) (ks 0 (Append k e) (omega arith)) (es 0 (Append k e) (omega arith))
      (λ later. ops_below ops (λ i d low. ks (suc i) d (omega (arith, low))) (λ i d low. es (suc i) d (omega (arith, low))) later)
      (eqb k key) refl h

appends_below : (txns : List Txn) (keys elements key element place : ℕ) → AreNumbersOf txns keys elements → Appends txns key element place → (key < keys) × (element < elements)
appends_below txns keys elements key element place numbers h =
    ops_below keys elements key element (ops_at txns place) (ops_all (IsKeyBelow keys) txns numbers.keys_below place) (ops_all (AreElementsOfBelow elements) txns numbers.elements_below place) h

-- who appends something is one of the transactions
writer_below : (txns : List Txn) (key element place : ℕ) → Appends txns key element place → place < length txns
writer_below [] key element place h = absurd (false≢true h)
writer_below (txn ∷ txns) key element zero h = omega arith
writer_below (txn ∷ txns) key element (suc place) h = omega (arith, writer_below txns key element place h)

there_below : (txns : List Txn) (place : ℕ) → MustBeThere txns place → place < length txns
there_below txns place there = elim there as (λ _. place < length txns) [ inl done ↦ done_below txns place done | inr shown ↦ writer_below txns shown.0 shown.1 place shown.3 ]

-- the key and the element of a reason have numbers
why_numbered : (txns : List Txn) (model : ConsistencyModel) (keys elements : ℕ) → AreNumbersOf txns keys elements → (why : Why) (first second : ℕ) → IsReason txns model why first second → IsWhyNumbered keys elements why
why_numbered txns model keys elements numbers (WriteRead key element) first second r = appends_below txns keys elements key element first numbers r.0
why_numbered txns model keys elements numbers (WriteWrite key element) first second r = appends_below txns keys elements key element first numbers r.0
why_numbered txns model keys elements numbers (FirstCommitter key element) first second r = appends_below txns keys elements key element first numbers r.1
why_numbered txns model keys elements numbers (ReadWrite key element) first second r = appends_below txns keys elements key element second numbers r.1
why_numbered txns model keys elements numbers RealTime first second r = tt

led_numbered : (txns : List Txn) (model : ConsistencyModel) (keys elements : ℕ) → AreNumbersOf txns keys elements → (steps : List Step) (last : ℕ) → LeadTo txns model steps last → AreStepsNumbered keys elements steps
led_numbered txns model keys elements numbers [] last led = All-nil (λ step. IsWhyNumbered keys elements step.why)
led_numbered txns model keys elements numbers (step ∷ steps) last led =
    All-cons (λ s. IsWhyNumbered keys elements s.why) step steps (why_numbered txns model keys elements numbers step.why step.place (first_place steps last) led.0.reason) (led_numbered txns model keys elements numbers steps last led.1)

pub cycle_numbered : (txns : List Txn) (model : ConsistencyModel) (keys elements : ℕ) → AreNumbersOf txns keys elements → (steps : List Step) → IsCycle txns model steps → AreStepsNumbered keys elements steps
cycle_numbered txns model keys elements numbers [] cycle = absurd cycle
cycle_numbered txns model keys elements numbers (step ∷ steps) cycle = led_numbered txns model keys elements numbers (step ∷ steps) step.place cycle

led_below : (txns : List Txn) (model : ConsistencyModel) (steps : List Step) (last : ℕ) → LeadTo txns model steps last → All (λ place. place < length txns) (map (λ step. step.place) steps)
led_below txns model [] last led = All-nil (λ place. place < length txns)
led_below txns model (step ∷ steps) last led =
    All-cons (λ place. place < length txns) step.place (map (λ s. s.place) steps) (there_below txns step.place led.0.first_there) (led_below txns model steps last led.1)

pub cycle_below : (txns : List Txn) (model : ConsistencyModel) (steps : List Step) → IsCycle txns model steps → All (λ place. place < length txns) (map (λ step. step.place) steps)
cycle_below txns model [] cycle = absurd cycle
cycle_below txns model (step ∷ steps) cycle = led_below txns model (step ∷ steps) step.place cycle

-- who has a bad read is one of the transactions
pub bad_read_below : (txns : List Txn) (place index : ℕ) (kind : wrong.BadRead) → IsBadRead txns place index kind → place < length txns
bad_read_below txns place index kind bad = done_below txns place bad.2.0

-- a cycle that excludes snapshot orders is a cycle
pub is_cycle : (txns : List Txn) (model : ConsistencyModel) (steps : List Step) → IsSnapshotCycle txns model steps → IsCycle txns model steps
is_cycle txns model [] cycle = absurd cycle
is_cycle txns model (step ∷ steps) cycle = cycle.0
