-- Generators as EDN values: vectors or lists that begin with the kind's name (the names are those
-- of jepsen.generator; the forms are this project's own). A new kind is a new line of
-- `generator_named`.
use Rattle.std.specs.Prelude.{ℕ, ◌^◌, ℤ, pos, List, [], ◌∷◌, codes, nat_lt, if◌then◌else◌, Option}
use Rattle.std.specs.Prelude.{Some, None, option_map, IsSome, ◌≡◌}
use Rattle.std.specs.Str.{bytes_eq}
use Rattle.jh_edn.specs.Edn.{Edn, int, keyword, list, vector, elements_of, Items, no_items, item}
use Rattle.jh_edn.specs.Edn.{integer_of}
use Rattle.jh_gen.specs.Generator.{Generator, nothing, once, rising, forever, seq, limit, mix}
use Rattle.jh_gen.specs.Generator.{phases, reserve, each_thread, clients, nemesis_only, Generators}
use Rattle.jh_gen.specs.Generator.{no_generators, generator, ShareList, no_shares, share}
use Rattle.jh_gen.specs.declared.rise.Rise.TheVariants.{Adds, Writes}
use Rattle.jh_gen.specs.declared.text.GenTextError.{GenTextError}
use Rattle.jh_gen.specs.declared.text.GenTextError.TheVariants.{BadGenerator, OutOfMemory}
use Rattle.jh_ops.specs.declared.call.Call.{Call}
use Rattle.jh_ops.specs.declared.call.Call.TheVariants.{Client, Step}
use Rattle.jh_ops.specs.declared.call.Request.TheVariants.{Read, Write, Cas, Add, Generate, Txn}

infixl 10 ◌>>=◌
-- what follows from something, if there is something
abbrev pub ◌>>=◌ : {A B : Type 0} → Option A → (A → Option B) → Option B
(Some x) >>= follows = follows x
None >>= follows = None

-- a number from 0 to 4,294,967,295
abbrev pub small_number_of : ℤ → Option ℕ
small_number_of (pos n) = if nat_lt n (2 ^ 32) then Some n else None
small_number_of _ = None

-- Calls.

-- `:read`, `:generate` and `:txn`
abbrev pub call_named : List ℕ → Option Call
call_named name =
    if bytes_eq name (codes "read") then Some (Client Read)
    else if bytes_eq name (codes "generate") then Some (Client Generate)
    else if bytes_eq name (codes "txn") then Some (Client Txn)
    else None

-- `[:write N]`, `[:add N]` and `[:step I]`
abbrev pub number_call : List ℕ → ℤ → Option Call
number_call name z =
    if bytes_eq name (codes "write") then Some (Client (Write z))
    else if bytes_eq name (codes "add") then Some (Client (Add z))
    else if bytes_eq name (codes "step") then option_map Step (small_number_of z)
    else None

-- these, and `[:cas OLD NEW]`
abbrev pub call_in : List Edn → Option Call
call_in (keyword name ∷ int z ∷ []) = number_call name z
call_in (keyword name ∷ int old ∷ int new ∷ []) =
    if bytes_eq name (codes "cas") then Some (Client (Cas old new)) else None
call_in _ = None

-- the call that a value means
abbrev pub parsed_call : Edn → Option Call
parsed_call (keyword name) = call_named name
parsed_call value = elements_of value >>= call_in

-- Generators.

-- a value in a form, and the generator that it means, if it means one
pub record Operand : Type 0 where
  pub value : Edn
  pub parsed : Option Generator

-- the only part
abbrev pub only_operand : List Operand → Option Operand
only_operand (part ∷ []) = Some part
only_operand _ = None

-- nothing behind the name
abbrev pub generator_of_none : List Operand → Option Generator
generator_of_none [] = Some nothing
generator_of_none _ = None

abbrev pub one_call : List Operand → Option Call
one_call parts = only_operand parts >>= (λ part. parsed_call part.value)

abbrev pub one_integer : List Operand → Option ℤ
one_integer parts = only_operand parts >>= (λ part. integer_of part.value)

abbrev pub one_generator : List Operand → Option Generator
one_generator parts = only_operand parts >>= (λ part. part.parsed)

-- each part a generator
abbrev pub members : List Operand → Option Generators
members [] = Some no_generators
members (part ∷ parts) = part.parsed >>= (λ g. option_map (generator g) (members parts))

-- a part that is a number from 0 to 4,294,967,295
abbrev pub number_in : Operand → Option ℕ
number_in part = integer_of part.value >>= small_number_of

-- N and a generator
abbrev pub limit_operands : List Operand → Option Generator
limit_operands (number ∷ part ∷ []) = number_in number >>= (λ n. option_map (limit n) part.parsed)
limit_operands _ = None

-- N and a generator, so many times, and the default
abbrev pub reserve_operands : List Operand → Option (ShareList × Generator)
reserve_operands [] = None
reserve_operands (part ∷ []) = option_map (λ g. (no_shares, g)) part.parsed
reserve_operands (number ∷ part ∷ parts) =
    number_in number
    >>= (λ n. part.parsed
    >>= (λ g. option_map (λ r. (share n g r.0, r.1)) (reserve_operands parts)))

-- the generator of this name with these parts
abbrev pub generator_named : List ℕ → List Operand → Option Generator
generator_named name parts =
    if bytes_eq name (codes "nil") then generator_of_none parts
    else if bytes_eq name (codes "once") then option_map once (one_call parts)
    else if bytes_eq name (codes "rising") then option_map (rising Adds) (one_integer parts)
    else if bytes_eq name (codes "rising-write")
    then option_map (rising Writes) (one_integer parts)
    else if bytes_eq name (codes "forever") then option_map forever (one_call parts)
    else if bytes_eq name (codes "seq") then option_map seq (members parts)
    else if bytes_eq name (codes "limit") then limit_operands parts
    else if bytes_eq name (codes "mix") then option_map mix (members parts)
    else if bytes_eq name (codes "phases") then option_map phases (members parts)
    else if bytes_eq name (codes "reserve")
    then option_map (λ r. reserve r.0 r.1) (reserve_operands parts)
    else if bytes_eq name (codes "each-thread") then option_map each_thread (one_generator parts)
    else if bytes_eq name (codes "clients") then option_map clients (one_generator parts)
    else if bytes_eq name (codes "nemesis") then option_map nemesis_only (one_generator parts)
    else None

abbrev pub keyword_name : Edn → Option (List ℕ)
keyword_name (keyword name) = Some name
keyword_name _ = None

-- the generator of these parts, the first its name
abbrev pub generator_of_operands : List Operand → Option Generator
generator_of_operands [] = None
generator_of_operands (first ∷ parts) =
    keyword_name first.value >>= (λ name. generator_named name parts)

abbrev mutual
  -- the generator that a value means, if it means one
  pub parsed_generator : Edn → Option Generator
  parsed_generator (list xs) = generator_of_operands (operands_of xs)
  parsed_generator (vector xs) = generator_of_operands (operands_of xs)
  parsed_generator _ = None

  pub operands_of : Items → List Operand
  operands_of no_items = []
  operands_of (item x xs) = record { value = x; parsed = parsed_generator x } ∷ operands_of xs

-- Why a value is refused as a generator: it means none. `OutOfMemory` is possible only where it
-- means one.
abbrev pub RefusesGenerator : Edn → GenTextError → Type 0
RefusesGenerator value BadGenerator = parsed_generator value ≡ None
RefusesGenerator value OutOfMemory = IsSome (parsed_generator value)
