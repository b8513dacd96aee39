-- What is written of a generator is ASCII.
use Rattle.std.proofs.Common.{[], ◌∷◌, ◌++◌, codes, refl}
use Rattle.std.specs.Str.{IsUtf8}
use Rattle.jh_edn.specs.Edn.{Edn, items_of}
use Rattle.jh_edn.specs.Print.{print}
use Rattle.jh_edn.specs.Printable.{IsPrintable}
use Rattle.jh_edn.specs.Spelling.{depth_limit}
use Rattle.jh_gen.specs.Generator.{Generator, nothing, once, rising, forever, seq, limit, mix, phases, reserve, each_thread, clients, nemesis_only, Generators, no_generators, generator, ShareList, no_shares, share}
use Rattle.jh_gen_texts.specs.GeneratorWritten.{edn_of_call, edn_of_generator, values_of_generators, values_of_shares}
use Rattle.jh_gen.specs.declared.rise.Rise.TheVariants.{Adds, Writes}
use Rattle.jh_ops.specs.declared.call.Call.{Call}
use Rattle.jh_ops.specs.declared.call.Call.TheVariants.{Client, Step}
use Rattle.jh_ops.specs.declared.call.Request.TheVariants.{Read, Write, Cas, Add, Generate, Txn}
use Rattle.jh_settings_texts.proofs.AsciiLemmas.{HasAscii, HaveAscii, tested, printed_utf8}

call_ascii : (call : Call) → HasAscii (edn_of_call call)
call_ascii (Client Read) = tested (codes "read") refl
call_ascii (Client (Write z)) = (tested (codes "write") refl, (tt, tt))
call_ascii (Client (Cas old new)) = (tested (codes "cas") refl, (tt, (tt, tt)))
call_ascii (Client (Add z)) = (tested (codes "add") refl, (tt, tt))
call_ascii (Client Generate) = tested (codes "generate") refl
call_ascii (Client Txn) = tested (codes "txn") refl
call_ascii (Step i) = (tested (codes "step") refl, (tt, tt))

mutual
  generator_ascii : (g : Generator) → HasAscii (edn_of_generator g)
  generator_ascii nothing = (tested (codes "nil") refl, tt)
  generator_ascii (once call) = (tested (codes "once") refl, (call_ascii call, tt))
  generator_ascii (rising Adds z) = (tested (codes "rising") refl, (tt, tt))
  generator_ascii (rising Writes z) = (tested (codes "rising-write") refl, (tt, tt))
  generator_ascii (forever call) = (tested (codes "forever") refl, (call_ascii call, tt))
  generator_ascii (seq gs) = (tested (codes "seq") refl, row_ascii gs)
  generator_ascii (limit n g) = (tested (codes "limit") refl, (tt, (generator_ascii g, tt)))
  generator_ascii (mix gs) = (tested (codes "mix") refl, row_ascii gs)
  generator_ascii (phases gs) = (tested (codes "phases") refl, row_ascii gs)
  generator_ascii (reserve ms g) = (tested (codes "reserve") refl, shares_ascii ms (edn_of_generator g) (generator_ascii g))
  generator_ascii (each_thread g) = (tested (codes "each-thread") refl, (generator_ascii g, tt))
  generator_ascii (clients g) = (tested (codes "clients") refl, (generator_ascii g, tt))
  generator_ascii (nemesis_only g) = (tested (codes "nemesis") refl, (generator_ascii g, tt))

  row_ascii : (gs : Generators) → HaveAscii (items_of (values_of_generators gs))
  row_ascii no_generators = tt
  row_ascii (generator g gs) = (generator_ascii g, row_ascii gs)

  shares_ascii : (ms : ShareList) (last : Edn) → HasAscii last → HaveAscii (items_of (values_of_shares ms ++ last ∷ []))
  shares_ascii no_shares last h = (h, tt)
  shares_ascii (share n g ms) last h = (tt, (generator_ascii g, shares_ascii ms last h))

pub generator_utf8 : (g : Generator) → IsPrintable depth_limit (edn_of_generator g) → IsUtf8 (print (edn_of_generator g))
generator_utf8 g printable = printed_utf8 (edn_of_generator g) depth_limit printable (generator_ascii g)
