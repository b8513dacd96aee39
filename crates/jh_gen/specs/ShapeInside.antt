-- What a contract sees of a generator's form as a program reads it (this project's own).
use Rattle.std.specs.Prelude.{◌≡◌, ℕ, List, [], ◌∷◌, Option, Some, None, option_map}
use Rattle.jh_edn.specs.Edn.{Edn, items_of, size_of, size_list}
use Rattle.jh_edn.specs.View.{view, views}
use Rattle.jh_gen.specs.BadPart.{reserve_holds}
use Rattle.jh_gen.specs.Generator.{Generator, nothing, once, rising, forever, seq, limit, mix}
use Rattle.jh_gen.specs.Generator.{phases, reserve, each_thread, clients, nemesis_only, Generators}
use Rattle.jh_gen.specs.Generator.{no_generators, generator, ShareList, no_shares, share}
use Rattle.jh_gen.specs.GeneratorText.{Operand, members, reserve_operands, operands_of}
use Rattle.jh_gen.specs.GeneratorText.{parsed_generator}
use Rattle.jh_gen.specs.declared.text.GenTextError.{GenTextError}
use Rattle.jh_gen.specs.declared.text.GenTextError.TheVariants.{BadGenerator, OutOfMemory}
use Rattle.jh_gen.specs.declared.text.GeneratorShape.{GeneratorShape}

-- the part that a value is
abbrev pub operand_of : Edn → Operand
operand_of value = record { value = value; parsed = parsed_generator value }

-- the parts that these values are
abbrev pub operands_in : List Edn → List Operand
operands_in xs = operands_of (items_of xs)

abbrev pub parsed_members : List Edn → Option Generators
parsed_members xs = members (operands_in xs)

abbrev pub parsed_reserve : List Edn → Option (ShareList × Generator)
parsed_reserve xs = reserve_operands (operands_in xs)

-- the generator of a form whose inner values are still to be read
abbrev pub parsed_shape : GeneratorShape → Option Generator
parsed_shape GeneratorShape.Nil = Some nothing
parsed_shape (GeneratorShape.Once call) = Some (once call)
parsed_shape (GeneratorShape.Rising r first) = Some (rising r first)
parsed_shape (GeneratorShape.Forever call) = Some (forever call)
parsed_shape (GeneratorShape.Seq parts) = option_map seq (parsed_members (views parts.now))
parsed_shape (GeneratorShape.Limit number inner) =
    option_map (limit number) (parsed_generator (view inner.now))
parsed_shape (GeneratorShape.Mix parts) = option_map mix (parsed_members (views parts.now))
parsed_shape (GeneratorShape.Phases parts) = option_map phases (parsed_members (views parts.now))
parsed_shape (GeneratorShape.Reserve parts) =
    option_map (λ r. reserve r.0 r.1) (parsed_reserve (views parts.now))
parsed_shape (GeneratorShape.EachThread inner) =
    option_map each_thread (parsed_generator (view inner.now))
parsed_shape (GeneratorShape.Clients inner) = option_map clients (parsed_generator (view inner.now))
parsed_shape (GeneratorShape.NemesisOnly inner) =
    option_map nemesis_only (parsed_generator (view inner.now))

abbrev pub generator_of_shape : Option GeneratorShape → Option Generator
generator_of_shape None = None
generator_of_shape (Some shape) = parsed_shape shape

-- the values that a form holds as generators
abbrev pub shape_holds : Option GeneratorShape → List Edn
shape_holds (Some (GeneratorShape.Seq parts)) = views parts.now
shape_holds (Some (GeneratorShape.Limit number inner)) = view inner.now ∷ []
shape_holds (Some (GeneratorShape.Mix parts)) = views parts.now
shape_holds (Some (GeneratorShape.Phases parts)) = views parts.now
shape_holds (Some (GeneratorShape.Reserve parts)) = reserve_holds (views parts.now)
shape_holds (Some (GeneratorShape.EachThread inner)) = view inner.now ∷ []
shape_holds (Some (GeneratorShape.Clients inner)) = view inner.now ∷ []
shape_holds (Some (GeneratorShape.NemesisOnly inner)) = view inner.now ∷ []
shape_holds _ = []

-- how large its inner values are, by which a reading ends
abbrev pub shape_size : GeneratorShape → ℕ
shape_size GeneratorShape.Nil = 0
shape_size (GeneratorShape.Once call) = 0
shape_size (GeneratorShape.Rising r first) = 0
shape_size (GeneratorShape.Forever call) = 0
shape_size (GeneratorShape.Seq parts) = size_list (views parts.now)
shape_size (GeneratorShape.Limit number inner) = size_of (view inner.now)
shape_size (GeneratorShape.Mix parts) = size_list (views parts.now)
shape_size (GeneratorShape.Phases parts) = size_list (views parts.now)
shape_size (GeneratorShape.Reserve parts) = size_list (views parts.now)
shape_size (GeneratorShape.EachThread inner) = size_of (view inner.now)
shape_size (GeneratorShape.Clients inner) = size_of (view inner.now)
shape_size (GeneratorShape.NemesisOnly inner) = size_of (view inner.now)

-- Why a reading ends early: there is nothing to be parsed, unless memory was refused.
abbrev pub EndsReading : {A : Type 0} → Option A → GenTextError → Type 0
EndsReading parsed BadGenerator = parsed ≡ None
EndsReading parsed OutOfMemory = Unit {0}

-- generators before others
abbrev pub joined_members : Generators → Generators → Generators
joined_members no_generators gs = gs
joined_members (generator g rest) gs = generator g (joined_members rest gs)

-- shares before others
abbrev pub joined_shares : ShareList → ShareList → ShareList
joined_shares no_shares ms = ms
joined_shares (share n g rest) ms = share n g (joined_shares rest ms)

-- The generators so far, with those that the rest means, are those that all mean.
abbrev pub AreMembersSoFar : Generators → List Edn → List Edn → Type 0
AreMembersSoFar made rest all =
    parsed_members all ≡ option_map (joined_members made) (parsed_members rest)

-- The shares so far, with what the rest means, are what all mean.
abbrev pub AreSharesSoFar : ShareList → List Edn → List Edn → Type 0
AreSharesSoFar made rest all =
    parsed_reserve all ≡ option_map (λ r. (joined_shares made r.0, r.1)) (parsed_reserve rest)
