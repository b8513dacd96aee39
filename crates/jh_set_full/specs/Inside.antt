-- What the checker keeps on its way (this project's own). Operations are from the one that was
-- invoked last on.
use Rattle.std.specs.Prelude.{◌≡◌, ℕ, ◌-◌, ◌<◌, ◌==◌, ◌&&◌, nat_lt, Bool, false, not}
use Rattle.std.specs.Prelude.{if◌then◌else◌, List, [], ◌∷◌, map, filter, flat_map, length, get_or}
use Rattle.std.specs.Prelude.{Option, Some, None, is_some, unwrap_or}
use Rattle.std.specs.List.{cons_option}
use Rattle.std.specs.Option.{option_map_or}
use Rattle.jh_edn.specs.Edn.{Edn}
use Rattle.jh_edn.specs.Order.{in_order, is_below}
use Rattle.jh_edn.specs.View.{view}
use Rattle.jh_ops.specs.Operation.{Operation}
use Rattle.jh_ops.specs.declared.pairs.Pair.{Pair}
use Rattle.jh_check.specs.CounterResults.{end_place, is_ok_read}
use Rattle.jh_check.specs.Distinct.{Ascends, count_of, distinct_values, is_same, set_of}
use Rattle.jh_check.specs.Tallies.{is_repeated}
use Rattle.jh_set_full.specs.SetFull.{added_by, greatest_of, has_element, having, shows_no_elements, invoke_place}
use Rattle.jh_set_full.specs.SetFull.{is_before, is_later, last_add, later_of, least}
use Rattle.jh_set_full.specs.SetFull.{Timeline, is_lost, is_never_read, is_stable, is_stale}
use Rattle.jh_set_full.specs.SetFull.{milliseconds_between, ok_end, shown_by, time_at}
use Rattle.jh_set_full.specs.declared.sightings.Side.{Side}
use Rattle.jh_set_full.specs.declared.sightings.Side.TheVariants.{Adds, Reads}
use Rattle.jh_set_full.specs.declared.sightings.Sighting.{Sighting}
use Rattle.jh_set_full.specs.declared.spots.Spot.{Spot}
use Rattle.jh_set_full.specs.declared.spots.State.{State}
use Rattle.jh_set_full.specs.declared.spots.State.TheVariants.{Lost, NeverRead, Stable, Stale}
use Rattle.jh_set_full.specs.declared.spots.Tables.{Tables}

-- ---- sightings

-- an element, the operation that adds or shows it, and how often
abbrev pub Seen : Type 0
Seen = Edn × (Pair × ℕ)

abbrev pub seen : Sighting → Seen
seen s = (view s.element, (s.pair, s.times))

abbrev pub seen_pair : Seen → Pair
seen_pair s = s.1.0

abbrev pub seen_times : Seen → ℕ
seen_times s = s.1.1

abbrev pub shown_in : Side → List Operation → Pair → List Edn
shown_in Adds history pair = added_by history pair
shown_in Reads history pair = shown_by history pair

-- a counted element with its operation
abbrev pub counted_by : Pair → Edn × ℕ → Seen
counted_by pair counted = (counted.0, (pair, counted.1))

-- each element of these once, with how often it is there
abbrev pub counted_in : List Edn → List (Edn × ℕ)
counted_in xs = map (λ x. (x, count_of xs x)) (set_of xs)

-- the same of elements that ascend
abbrev pub counted_in_order : List Edn → List (Edn × ℕ)
counted_in_order xs = map (λ x. (x, count_of xs x)) (distinct_values xs)

-- they are by elements in normal order
abbrev pub AreByElement : List Sighting → Type 0
AreByElement ss = Ascends (map (λ s. view s.element) ss)

abbrev pub sightings_by : Side → List Operation → Pair → List Seen
sightings_by side history pair = map (counted_by pair) (counted_in (shown_in side history pair))

abbrev pub sightings_of : Side → List Operation → List Pair → List Seen
sightings_of side history pairs = flat_map (sightings_by side history) pairs

abbrev pub seen_below : Seen → Seen → Bool
seen_below a b = is_below a.0 b.0

-- those of an element
abbrev pub sees : Edn → Seen → Bool
sees x s = is_same x s.0

-- ---- places

-- where the operation completed, and where it was invoked, if it completed behind a place
abbrev pub end_behind : ℕ → Pair → Option ℕ
end_behind place pair = if is_later place pair then Some (end_place pair) else None

-- where a read completed that does not show elements
abbrev pub bad_end : List Operation → Pair → Option ℕ
bad_end history pair = if shows_no_elements history pair then Some (end_place pair) else None

abbrev pub invoke_behind : ℕ → Pair → Option ℕ
invoke_behind place pair = if is_later place pair then Some pair.invoke else None

-- the first of the reads that is not the next of those that have an element: where it was invoked
abbrev pub first_lacking : List Pair → List Pair → Option ℕ
first_lacking [] having = None
first_lacking (read ∷ reads) [] = Some read.invoke
first_lacking (read ∷ reads) (next ∷ having) =
    if next.invoke == read.invoke then first_lacking reads having else Some read.invoke

abbrev pub same_place : Option ℕ → Option ℕ → Bool
same_place (Some a) (Some b) = a == b
same_place _ _ = false

-- ---- the last reads of all

-- the latest of the places that are there
abbrev pub latest_of : List (Option ℕ) → Option ℕ
latest_of [] = None
latest_of (place ∷ places) = later_of place (latest_of places)

-- how far the completion of an operation is from the end of a history of this length
abbrev pub from_end : ℕ → Pair → ℕ
from_end count pair = count - 1 - end_place pair

-- where the last was invoked of those that complete nearer to the end
abbrev pub newest_within : ℕ → List Pair → ℕ → Option ℕ
newest_within count reads near =
    greatest_of (map invoke_place (filter (λ pair. nat_lt (from_end count pair) near) reads))

-- where the last read was invoked that completed behind a place
abbrev pub newest_behind : List Operation → List Pair → ℕ → Option ℕ
newest_behind history pairs place =
    greatest_of (map invoke_place (filter (λ pair. is_later place pair && is_ok_read history pair) pairs))

-- ---- what decides on an element

abbrev pub sighted_pairs : List Sighting → List Pair
sighted_pairs ss = map (λ s. s.pair) ss

-- of an element that this operation added and these show, by what is kept
abbrev pub spot_by : List Operation → Tables → List Pair → Pair → Spot
spot_by history tables having add =
    record {
      known = least (cons_option (ok_end history add) (map end_place (filter (is_later add.invoke) having)));
      present = greatest_of (map invoke_place (filter (is_later add.invoke) having));
      missed = first_lacking tables.reads.items having;
      newest = get_or tables.newest.items (length tables.newest.items - 1 - add.invoke) None;
    }

-- the same by all operations
abbrev pub spot_with : List Operation → List Pair → List Pair → Pair → Spot
spot_with history pairs having add =
    record {
      known = least (cons_option (ok_end history add) (map end_place (filter (is_later add.invoke) having)));
      present = greatest_of (map invoke_place (filter (is_later add.invoke) having));
      missed = first_lacking (filter (is_ok_read history) pairs) having;
      newest = newest_behind history pairs add.invoke;
    }

abbrev pub no_spot : Spot
no_spot = record { known = None; present = None; missed = None; newest = None }

abbrev pub spot_of : List Operation → List Pair → Edn → Spot
spot_of history pairs x =
    option_map_or (spot_with history pairs (filter (has_element history x) pairs)) (last_add history pairs x) no_spot

abbrev pub is_stable_spot : Spot → Bool
is_stable_spot s = same_place s.present s.newest

abbrev pub is_missed_spot : Spot → Bool
is_missed_spot s = is_some s.known && is_before s.known s.missed

abbrev pub is_lost_spot : Spot → Bool
is_lost_spot s = is_missed_spot s && is_before s.present s.missed

abbrev pub is_spot_in : State → Spot → Bool
is_spot_in Stable s = is_stable_spot s
is_spot_in Lost s = is_lost_spot s
is_spot_in NeverRead s = not (is_stable_spot s) && not (is_lost_spot s)
is_spot_in Stale s = is_stable_spot s && is_missed_spot s

-- the tables have what they are to have
pub record AreTables (history : List Operation) (tables : Tables) : Type 0 where
  pub adds : map seen tables.adds.items ≡ in_order seen_below (sightings_of Adds history tables.pairs.items)
  pub adds_ordered : AreByElement tables.adds.items
  pub shown : map seen tables.shown.items ≡ in_order seen_below (sightings_of Reads history tables.pairs.items)
  pub shown_ordered : AreByElement tables.shown.items
  pub reads : tables.reads.items ≡ filter (is_ok_read history) tables.pairs.items
  pub newest : (near : ℕ) → near < length tables.newest.items
      → get_or tables.newest.items near None
      ≡ newest_within (length tables.newest.items) (filter (is_ok_read history) tables.pairs.items) near

-- the greatest number of times that one of the sightings shows the element
abbrev pub most_by : Tables → Edn → ℕ
most_by tables x = unwrap_or (greatest_of (map (λ s. s.times) (filter (λ s. sees x (seen s)) tables.shown.items))) 0

-- a timeline is of this state
abbrev pub is_timeline_in : State → Timeline → Bool
is_timeline_in Stable t = is_stable t
is_timeline_in Lost t = is_lost t
is_timeline_in NeverRead t = is_never_read t
is_timeline_in Stale t = is_stale t

-- ---- parts of the result

-- the milliseconds for which an element was stale
abbrev pub spot_staleness : List Operation → Spot → Option ℕ
spot_staleness history s = milliseconds_between (time_at history s.known) (time_at history s.missed)

abbrev pub stale_by : List Operation → List Pair → Edn → Edn × Option ℕ
stale_by history pairs x = (x, spot_staleness history (spot_of history pairs x))

-- those of the elements that are there more than once, by how often each is
abbrev pub repeated_by : (Edn → ℕ) → List Edn → List (Edn × ℕ)
repeated_by count xs = filter is_repeated (map (λ x. (x, count x)) xs)
