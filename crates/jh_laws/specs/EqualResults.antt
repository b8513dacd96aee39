-- What the checkers of unique ids and of sets find (jepsen.checker, `unique-ids` and `set`), by
-- the values as they stand in a history, and by which of them are equal (EDN's format description,
-- "Equality").
use Rattle.std.specs.Prelude.{◌≡◌, ◌⊎◌, ◌↔◌, ℕ, suc, ◌<◌, List, [], ◌∷◌, map, filter, codes, Some}
use Rattle.std.specs.Prelude.{All, AllPairs, Any, Contains}
use Rattle.jh_edn.specs.Edn.{Edn}
use Rattle.jh_edn.specs.Equality.{Equals}
use Rattle.jh_edn.specs.Normal.{normal}
use Rattle.jh_edn.specs.Printable.{IsPrintable}
use Rattle.jh_edn.specs.Spelling.{depth_limit}
use Rattle.jh_ops.specs.Operation.{Operation, is_asked}
use Rattle.jh_ops.specs.declared.operation.Kind.{Kind}
use Rattle.jh_check.specs.SetResults.{elements_read}
use Rattle.jh_check.specs.declared.set.SetFound.{SetFound}

-- ---- values

-- the values of clients' operations of this kind, of the function of this name, in their order and
-- as they stand
abbrev pub values_held : Kind → List ℕ → List Operation → List Edn
values_held kind name history = map (λ op. op.value) (filter (is_asked kind name) history)

-- each value can be printed, as each that was read of bytes
abbrev pub CanPrintEach : List Edn → Type 0
CanPrintEach values = All (IsPrintable depth_limit) values

-- it is equal to one of the values
abbrev pub IsOneOf : List Edn → Edn → Type 0
IsOneOf values x = Any (Equals x) values

-- it is the normal form of one of the values, of which this is so
abbrev pub IsNormalOf : List Edn → (Edn → Type 0) → Edn → Type 0
IsNormalOf values IsSo v = (x : Edn) × Contains values x × IsSo x × (v ≡ normal x)

-- ---- unique ids

-- the ids that were given
abbrev pub ids_given : List Operation → List Edn
ids_given history = values_held Kind.Ok (codes "generate") history

-- no two of them are equal
abbrev pub AreUnequal : List Edn → Type 0
AreUnequal values = AllPairs (λ x y. Equals x y → ⊥) values

-- the id was given so many times: so many of these are equal to it
abbrev pub IsGivenTimes : List Edn → Edn → ℕ → Type 0
IsGivenTimes [] x times = times ≡ 0
IsGivenTimes (y ∷ ys) x times =
    (Equals x y × (others : ℕ) × (times ≡ suc others) × IsGivenTimes ys x others)
    ⊎ ((Equals x y → ⊥) × IsGivenTimes ys x times)

-- the normal form of an id that was given so many times, more than once
abbrev pub IsRepeated : List Edn → Edn → ℕ → Type 0
IsRepeated ids v times = (1 < times) × IsNormalOf ids (λ x. IsGivenTimes ids x times) v

-- ---- sets

-- the elements that clients tried to add
abbrev pub elements_attempted : List Operation → List Edn
elements_attempted history = values_held Kind.Invoke (codes "add") history

-- those whose adds are known to have happened
abbrev pub elements_acknowledged : List Operation → List Edn
elements_acknowledged history = values_held Kind.Ok (codes "add") history

-- the last read shows these elements, and they and all that were added can be printed
pub record LastReadShows (history : List Operation) (read : List Edn) : Type 0 where
  pub shown : elements_read history ≡ Some read
  pub read_printable : CanPrintEach read
  pub attempted_printable : CanPrintEach (elements_attempted history)
  pub acknowledged_printable : CanPrintEach (elements_acknowledged history)

-- Each element that is known to have been added is equal to one that was read, and each that was
-- read to one that was attempted.
abbrev pub IsWholeSet : List Operation → List Edn → Type 0
IsWholeSet history read =
    All (IsOneOf read) (elements_acknowledged history)
    × All (IsOneOf (elements_attempted history)) read

-- What is found, in normal form. ok: what was read and attempted. unexpected: what was read and
-- never attempted. lost: what is known to have been added and was not read. recovered: what is ok
-- and was not known to have been added.
pub record IsSetFound (history : List Operation) (read : List Edn) (found : SetFound) : Type 0 where
  pub ok : (v : Edn)
      → (Contains found.ok v ↔ IsNormalOf read (IsOneOf (elements_attempted history)) v)
  pub unexpected : (v : Edn) → (Contains found.unexpected v
      ↔ IsNormalOf read (λ x. IsOneOf (elements_attempted history) x → ⊥) v)
  pub lost : (v : Edn) → (Contains found.lost v
      ↔ IsNormalOf (elements_acknowledged history) (λ x. IsOneOf read x → ⊥) v)
  pub recovered : (v : Edn) → (Contains found.recovered v
      ↔ IsNormalOf read
      (λ x. IsOneOf (elements_attempted history) x
      × (IsOneOf (elements_acknowledged history) x → ⊥)) v)
