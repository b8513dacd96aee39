-- How often a value is in the lists that the checker keeps, and in the parts of its result by these
-- numbers (this project's own).
use Rattle.std.specs.Prelude.{ℕ, ◌-◌, min, ◌==◌, if◌then◌else◌, List}
use Rattle.jh_edn.specs.Edn.{Edn}
use Rattle.jh_edn.specs.View.{views}
use Rattle.jh_check.specs.Distinct.{Ascends, count_of}
use Rattle.jh_total_queue.specs.declared.lists.Lists.{Lists}
use Rattle.jh_total_queue.specs.declared.lists.Part.{Part}
use Rattle.jh_total_queue.specs.declared.lists.Part.TheVariants.{Lost, Unexpected, Duplicated}
use Rattle.jh_total_queue.specs.declared.lists.Part.TheVariants.{Recovered}
use Rattle.jh_total_queue.specs.declared.lists.Times.{Times}

-- each of the lists ascends
abbrev pub AreOrdered : Lists → Type 0
AreOrdered lists =
    Ascends (views lists.attempts.items) × Ascends (views lists.enqueues.items)
    × Ascends (views lists.dequeues.items)

-- how often a value is among attempts, enqueues and dequeues
abbrev pub times_in : List Edn → List Edn → List Edn → Edn → Times
times_in attempts enqueues dequeues x =
    record {
      attempted = count_of attempts x;
      enqueued = count_of enqueues x;
      dequeued = count_of dequeues x;
    }

abbrev pub times_of : Lists → Edn → Times
times_of lists x =
    times_in (views lists.attempts.items) (views lists.enqueues.items) (views lists.dequeues.items)
    x

-- the counts of specs/TotalQueue.antt, by these numbers
abbrev pub ok_times : Times → ℕ
ok_times times = min times.dequeued times.attempted

abbrev pub unexpected_times : Times → ℕ
unexpected_times times = if times.attempted == 0 then times.dequeued else 0

abbrev pub part_times : Part → Times → ℕ
part_times Lost times = times.enqueued - times.dequeued
part_times Unexpected times = unexpected_times times
part_times Duplicated times = times.dequeued - times.attempted - unexpected_times times
part_times Recovered times = ok_times times - times.enqueued
