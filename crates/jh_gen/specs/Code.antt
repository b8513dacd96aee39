-- A code of a generator, by which a proof tells generators apart (this project's own).
use Rattle.std.specs.Prelude.{◌≡◌, refl}
use Rattle.jh_edn.specs.Code.{head, tail}
use Rattle.std.proofs.Common.{ap}
use Rattle.std.specs.Coded.{Coded, coded_ℕ, coded_ℤ}
use Rattle.jh_gen.specs.Generator.{Generator, nothing, once, rising, forever, seq, limit, mix}
use Rattle.jh_gen.specs.Generator.{phases, reserve, each_thread, clients, nemesis_only, Generators}
use Rattle.jh_gen.specs.Generator.{no_generators, generator, ShareList, no_shares, share}
use Rattle.jh_gen.specs.declared.rise.Rise.{Rise}
use Rattle.jh_gen.specs.declared.rise.Rise.TheVariants.{Adds, Writes}
use Rattle.jh_ops.specs.declared.call.Call.{Call}
use Rattle.jh_ops.specs.declared.call.Call.TheVariants.{Client, Step}
use Rattle.jh_ops.specs.declared.call.Request.{Request}
use Rattle.jh_ops.specs.declared.call.Request.TheVariants.{Read, Write, Cas, Add, Generate, Txn}
use base.Stored.{Gv, gnil, gnum, gcons}

abbrev pub code_request : Request → Gv
code_request Read = gnil
code_request (Write n) = gcons (gnum 1) (coded_ℤ.code n)
code_request (Cas m n) = gcons (gnum 2) (gcons (coded_ℤ.code m) (coded_ℤ.code n))
code_request (Add n) = gcons (gnum 3) (coded_ℤ.code n)
code_request Generate = gnum 4
code_request Txn = gnum 5

pub inj_request : (x y : Request) → code_request x ≡ code_request y → x ≡ y
inj_request Read Read p = refl
inj_request (Write m) (Write n) p = ap Write (coded_ℤ.inj m n (ap tail p))
inj_request (Cas m n) (Cas k l) p =
    λ i. Cas (coded_ℤ.inj m k (ap (λ g. head (tail g)) p) i)
    (coded_ℤ.inj n l (ap (λ g. tail (tail g)) p) i)
inj_request (Add m) (Add n) p = ap Add (coded_ℤ.inj m n (ap tail p))
inj_request Generate Generate p = refl
inj_request Txn Txn p = refl
inj_request _ _ p = absurd cc

abbrev pub code_call : Call → Gv
code_call (Client r) = gcons (gnum 1) (code_request r)
code_call (Step n) = gcons (gnum 2) (gnum n)

pub inj_call : (x y : Call) → code_call x ≡ code_call y → x ≡ y
inj_call (Client r) (Client s) p = ap Client (inj_request r s (ap tail p))
inj_call (Step m) (Step n) p = ap Step (coded_ℕ.inj m n (ap tail p))
inj_call _ _ p = absurd cc

abbrev pub code_rise : Rise → Gv
code_rise Adds = gnil
code_rise Writes = gnum 1

pub inj_rise : (x y : Rise) → code_rise x ≡ code_rise y → x ≡ y
inj_rise Adds Adds p = refl
inj_rise Writes Writes p = refl
inj_rise _ _ p = absurd cc

abbrev mutual
  pub code_generator : Generator → Gv
  code_generator nothing = gnil
  code_generator (once c) = gcons (gnum 1) (code_call c)
  code_generator (rising r n) = gcons (gnum 2) (gcons (code_rise r) (coded_ℤ.code n))
  code_generator (forever c) = gcons (gnum 3) (code_call c)
  code_generator (seq gs) = gcons (gnum 4) (code_generators gs)
  code_generator (limit n g) = gcons (gnum 5) (gcons (gnum n) (code_generator g))
  code_generator (mix gs) = gcons (gnum 6) (code_generators gs)
  code_generator (phases gs) = gcons (gnum 7) (code_generators gs)
  code_generator (reserve ms g) = gcons (gnum 8) (gcons (code_shared ms) (code_generator g))
  code_generator (each_thread g) = gcons (gnum 9) (code_generator g)
  code_generator (clients g) = gcons (gnum 10) (code_generator g)
  code_generator (nemesis_only g) = gcons (gnum 11) (code_generator g)

  pub code_generators : Generators → Gv
  code_generators no_generators = gnil
  code_generators (generator g gs) = gcons (code_generator g) (code_generators gs)

  pub code_shared : ShareList → Gv
  code_shared no_shares = gnil
  code_shared (share n g ms) = gcons (gnum n) (gcons (code_generator g) (code_shared ms))

mutual
  pub inj_generator : (x y : Generator) → code_generator x ≡ code_generator y → x ≡ y
  inj_generator nothing nothing p = refl
  inj_generator (once b) (once c) p = ap once (inj_call b c (ap tail p))
  inj_generator (rising r b) (rising s c) p =
      λ i. rising (inj_rise r s (ap (λ g. head (tail g)) p) i)
      (coded_ℤ.inj b c (ap (λ g. tail (tail g)) p) i)
  inj_generator (forever b) (forever c) p = ap forever (inj_call b c (ap tail p))
  inj_generator (seq b) (seq c) p = ap seq (inj_generators b c (ap tail p))
  inj_generator (limit m b) (limit n c) p =
      λ i. limit (coded_ℕ.inj m n (ap (λ g. head (tail g)) p) i)
      (inj_generator b c (ap (λ g. tail (tail g)) p) i)
  inj_generator (mix b) (mix c) p = ap mix (inj_generators b c (ap tail p))
  inj_generator (phases b) (phases c) p = ap phases (inj_generators b c (ap tail p))
  inj_generator (reserve m b) (reserve n c) p =
      λ i. reserve (inj_shared m n (ap (λ g. head (tail g)) p) i)
      (inj_generator b c (ap (λ g. tail (tail g)) p) i)
  inj_generator (each_thread b) (each_thread c) p = ap each_thread (inj_generator b c (ap tail p))
  inj_generator (clients b) (clients c) p = ap clients (inj_generator b c (ap tail p))
  inj_generator (nemesis_only b) (nemesis_only c) p =
      ap nemesis_only (inj_generator b c (ap tail p))
  inj_generator _ _ p = absurd cc

  pub inj_generators : (x y : Generators) → code_generators x ≡ code_generators y → x ≡ y
  inj_generators no_generators no_generators p = refl
  inj_generators (generator x xs) (generator y ys) p =
      λ i. generator (inj_generator x y (ap head p) i) (inj_generators xs ys (ap tail p) i)
  inj_generators _ _ p = absurd cc

  pub inj_shared : (x y : ShareList) → code_shared x ≡ code_shared y → x ≡ y
  inj_shared no_shares no_shares p = refl
  inj_shared (share m x xs) (share n y ys) p =
      λ i. share (coded_ℕ.inj m n (ap head p) i) (inj_generator x y (ap (λ g. head (tail g)) p) i)
      (inj_shared xs ys (ap (λ g. tail (tail g)) p) i)
  inj_shared _ _ p = absurd cc

abbrev pub generator_coded : Coded Generator
generator_coded = record { code = code_generator; inj = inj_generator }
