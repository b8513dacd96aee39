-- The value that is written of a generator (the names are those of jepsen.generator; the forms are
-- this project's own): of the forms that `parsed_generator` of jh_gen reads, the vectors. A new
-- kind is a new line of `edn_of_generator` and of `IsWritableGenerator`.
use Rattle.std.specs.Prelude.{ℕ, ◌^◌, ◌<◌, pos, List, [], ◌∷◌, ◌++◌, codes}
use Rattle.jh_edn.specs.Edn.{Edn, int, keyword, vector, items_of}
use Rattle.jh_gen.specs.Generator.{Generator, nothing, once, rising, forever, seq, limit, mix}
use Rattle.jh_gen.specs.Generator.{phases, reserve, each_thread, clients, nemesis_only, Generators}
use Rattle.jh_gen.specs.Generator.{no_generators, generator, ShareList, no_shares, share}
use Rattle.jh_gen.specs.declared.rise.Rise.{Rise}
use Rattle.jh_gen.specs.declared.rise.Rise.TheVariants.{Adds, Writes}
use Rattle.jh_ops.specs.declared.call.Call.{Call}
use Rattle.jh_ops.specs.declared.call.Call.TheVariants.{Client, Step}
use Rattle.jh_ops.specs.declared.call.Request.TheVariants.{Read, Write, Cas, Add, Generate, Txn}

-- a vector of a name and what belongs to it
abbrev pub named : List ℕ → List Edn → Edn
named name parts = vector (items_of (keyword name ∷ parts))

-- the value that spells a call
abbrev pub edn_of_call : Call → Edn
edn_of_call (Client Read) = keyword (codes "read")
edn_of_call (Client (Write z)) = named (codes "write") (int z ∷ [])
edn_of_call (Client (Cas old new)) = named (codes "cas") (int old ∷ int new ∷ [])
edn_of_call (Client (Add z)) = named (codes "add") (int z ∷ [])
edn_of_call (Client Generate) = keyword (codes "generate")
edn_of_call (Client Txn) = keyword (codes "txn")
edn_of_call (Step i) = named (codes "step") (int (pos i) ∷ [])

abbrev pub rising_name : Rise → List ℕ
rising_name Adds = codes "rising"
rising_name Writes = codes "rising-write"

abbrev mutual
  -- the value that spells a generator
  pub edn_of_generator : Generator → Edn
  edn_of_generator nothing = named (codes "nil") []
  edn_of_generator (once call) = named (codes "once") (edn_of_call call ∷ [])
  edn_of_generator (rising r z) = named (rising_name r) (int z ∷ [])
  edn_of_generator (forever call) = named (codes "forever") (edn_of_call call ∷ [])
  edn_of_generator (seq gs) = named (codes "seq") (values_of_generators gs)
  edn_of_generator (limit n g) = named (codes "limit") (int (pos n) ∷ edn_of_generator g ∷ [])
  edn_of_generator (mix gs) = named (codes "mix") (values_of_generators gs)
  edn_of_generator (phases gs) = named (codes "phases") (values_of_generators gs)
  edn_of_generator (reserve ms g) =
      named (codes "reserve") (values_of_shares ms ++ edn_of_generator g ∷ [])
  edn_of_generator (each_thread g) = named (codes "each-thread") (edn_of_generator g ∷ [])
  edn_of_generator (clients g) = named (codes "clients") (edn_of_generator g ∷ [])
  edn_of_generator (nemesis_only g) = named (codes "nemesis") (edn_of_generator g ∷ [])

  -- the value of each generator, in order
  pub values_of_generators : Generators → List Edn
  values_of_generators no_generators = []
  values_of_generators (generator g gs) = edn_of_generator g ∷ values_of_generators gs

  -- the number of each share and the value of its generator, in order
  pub values_of_shares : ShareList → List Edn
  values_of_shares no_shares = []
  values_of_shares (share n g ms) = int (pos n) ∷ edn_of_generator g ∷ values_of_shares ms

-- the place of a step is below 2^32
abbrev pub IsWritableCall : Call → Type 0
IsWritableCall (Client request) = Unit {0}
IsWritableCall (Step i) = i < 2 ^ 32

abbrev mutual
  -- the numbers of its limits, reserves and steps are below 2^32, as in all that a program holds
  pub IsWritableGenerator : Generator → Type 0
  IsWritableGenerator nothing = Unit {0}
  IsWritableGenerator (once call) = IsWritableCall call
  IsWritableGenerator (rising r z) = Unit {0}
  IsWritableGenerator (forever call) = IsWritableCall call
  IsWritableGenerator (seq gs) = AreWritable gs
  IsWritableGenerator (limit n g) = (n < 2 ^ 32) × IsWritableGenerator g
  IsWritableGenerator (mix gs) = AreWritable gs
  IsWritableGenerator (phases gs) = AreWritable gs
  IsWritableGenerator (reserve ms g) = AreWritableShares ms × IsWritableGenerator g
  IsWritableGenerator (each_thread g) = IsWritableGenerator g
  IsWritableGenerator (clients g) = IsWritableGenerator g
  IsWritableGenerator (nemesis_only g) = IsWritableGenerator g

  -- each of the generators is
  pub AreWritable : Generators → Type 0
  AreWritable no_generators = Unit {0}
  AreWritable (generator g gs) = IsWritableGenerator g × AreWritable gs

  -- the number of each share is below 2^32, and its generator writable
  pub AreWritableShares : ShareList → Type 0
  AreWritableShares no_shares = Unit {0}
  AreWritableShares (share n g ms) = (n < 2 ^ 32) × IsWritableGenerator g × AreWritableShares ms
