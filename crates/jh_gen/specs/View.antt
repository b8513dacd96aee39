-- What contracts see of a generator (this project's own).
use Rattle.std.specs.Prelude.{ℕ, List, map}
use Rattle.jh_gen.specs.Generator.{Generator, nothing, once, rising, forever, seq, limit, mix}
use Rattle.jh_gen.specs.Generator.{phases, reserve, each_thread, clients, nemesis_only, row_of}
use Rattle.jh_gen.specs.Generator.{share_list}
use Rattle.jh_gen.specs.declared.generator.Gen.{Gen}
use Rattle.jh_gen.specs.declared.generator.Gen.TheVariants.{Nil, Once, Rising, Forever, Seq, Limit}
use Rattle.jh_gen.specs.declared.generator.Gen.TheVariants.{Mix, Phases, Reserve, EachThread}
use Rattle.jh_gen.specs.declared.generator.Gen.TheVariants.{Clients, NemesisOnly}

abbrev pub generator_of : Gen → Generator
generator_of Nil = nothing
generator_of (Once c) = once c
generator_of (Rising r n) = rising r n
generator_of (Forever c) = forever c
generator_of (Seq gs) = seq (row_of gs)
generator_of (Limit n g) = limit n g
generator_of (Mix gs) = mix (row_of gs)
generator_of (Phases gs) = phases (row_of gs)
generator_of (Reserve ms g) = reserve (share_list ms) g
generator_of (EachThread g) = each_thread g
generator_of (Clients g) = clients g
generator_of (NemesisOnly g) = nemesis_only g

abbrev pub generators_of : List Gen → List Generator
generators_of gs = map generator_of gs

abbrev pub share_of : ℕ × Gen → ℕ × Generator
share_of m = (m.0, generator_of m.1)

abbrev pub shares_of : List (ℕ × Gen) → List (ℕ × Generator)
shares_of ms = map share_of ms
