-- Which part of a value is why the value is no generator (this project's own). A form is a list or
-- a vector that begins with a keyword, its name; specs/GeneratorText.antt says which forms mean
-- generators.
use Rattle.std.specs.Prelude.{◌≡◌, ℕ, suc, Bool, true, false, List, [], ◌∷◌, codes, is_some}
use Rattle.std.specs.Prelude.{if◌then◌else◌, Option, Some, None, option_map}
use Rattle.std.specs.Str.{bytes_eq}
use Rattle.jh_edn.specs.Edn.{Edn, elements_of, integer_of}
use Rattle.jh_gen.specs.GeneratorText.{◌>>=◌, keyword_name, parsed_generator, small_number_of}
use Rattle.jh_gen.specs.declared.bad_parts.FormStep.{FormStep}

abbrev pub is_generator : Edn → Bool
is_generator value = is_some (parsed_generator value)

-- Which values a form holds as generators, in the order written. A form that is wrong in itself, in
-- its name, a number or how many parts it has, holds none.

-- a number from 0 to 4,294,967,295
abbrev pub is_small_number : Edn → Bool
is_small_number value = is_some (integer_of value >>= small_number_of)

-- the only part
abbrev pub only_value : List Edn → Option Edn
only_value (part ∷ []) = Some part
only_value _ = None

abbrev pub listed : Option Edn → List Edn
listed None = []
listed (Some value) = value ∷ []

abbrev pub only_held : List Edn → List Edn
only_held parts = listed (only_value parts)

-- what stands behind the number of a limit
abbrev pub limit_holds : List Edn → List Edn
limit_holds (number ∷ part ∷ []) = if is_small_number number then part ∷ [] else []
limit_holds _ = []

-- numbers, each with a value, and a value behind them
abbrev pub is_reserve_form : List Edn → Bool
is_reserve_form [] = false
is_reserve_form (part ∷ []) = true
is_reserve_form (number ∷ part ∷ parts) =
    if is_small_number number then is_reserve_form parts else false

-- what stands behind each number, and what stands last
abbrev pub behind_numbers : List Edn → List Edn
behind_numbers [] = []
behind_numbers (part ∷ []) = part ∷ []
behind_numbers (number ∷ part ∷ parts) = part ∷ behind_numbers parts

abbrev pub reserve_holds : List Edn → List Edn
reserve_holds parts = if is_reserve_form parts then behind_numbers parts else []

-- what the form of this name with these parts holds
abbrev pub holds_named : List ℕ → List Edn → List Edn
holds_named name parts =
    if bytes_eq name (codes "nil") then []
    else if bytes_eq name (codes "once") then []
    else if bytes_eq name (codes "rising") then []
    else if bytes_eq name (codes "rising-write") then []
    else if bytes_eq name (codes "forever") then []
    else if bytes_eq name (codes "seq") then parts
    else if bytes_eq name (codes "limit") then limit_holds parts
    else if bytes_eq name (codes "mix") then parts
    else if bytes_eq name (codes "phases") then parts
    else if bytes_eq name (codes "reserve") then reserve_holds parts
    else if bytes_eq name (codes "each-thread") then only_held parts
    else if bytes_eq name (codes "clients") then only_held parts
    else if bytes_eq name (codes "nemesis") then only_held parts
    else []

abbrev pub holds_behind : Option (List ℕ) → List Edn → List Edn
holds_behind None parts = []
holds_behind (Some name) parts = holds_named name parts

abbrev pub holds_in : List Edn → List Edn
holds_in [] = []
holds_in (first ∷ parts) = holds_behind (keyword_name first) parts

abbrev pub holds_of : Option (List Edn) → List Edn
holds_of None = []
holds_of (Some elements) = holds_in elements

-- the values that a value holds as generators
abbrev pub held_values : Edn → List Edn
held_values value = holds_of (elements_of value)

-- The way to the part.

abbrev pub first_name : List Edn → Option (List ℕ)
first_name [] = None
first_name (first ∷ parts) = keyword_name first

-- the name of the form that a value is
abbrev pub form_name : Edn → Option (List ℕ)
form_name value = elements_of value >>= first_name

-- the first of these values that is no generator, and its place from 1
abbrev pub first_no_generator : List Edn → Option (ℕ × Edn)
first_no_generator [] = None
first_no_generator (value ∷ values) =
    if is_generator value then option_map (λ bad. (suc bad.0, bad.1)) (first_no_generator values)
    else Some (1, value)

-- the step goes from a value to the first that it holds and that is no generator
pub record IsStepInto (value : Edn) (step : FormStep) (inner : Edn) : Type 0 where
  pub form : form_name value ≡ Some step.form.now
  pub first : first_no_generator (held_values value) ≡ Some (step.place, inner)

-- This way goes from a value to a part of it. Each step has the name of a form, and the place of
-- the first value that the form holds and that is no generator, and goes to that value.
abbrev pub IsWayTo : List FormStep → Edn → Edn → Type 0
IsWayTo [] value part = value ≡ part
IsWayTo (step ∷ way) value part =
    (inner : Edn) × IsStepInto value step inner × IsWayTo way inner part

-- The part is why the value is no generator, and this way leads to it: it is none, though all that
-- it holds are.
pub record IsBadPart (value : Edn) (way : List FormStep) (part : Edn) : Type 0 where
  pub refused : parsed_generator value ≡ None
  pub leads : IsWayTo way value part
  pub bad : parsed_generator part ≡ None
  pub innermost : first_no_generator (held_values part) ≡ None
