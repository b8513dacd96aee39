use Rattle.std.proofs.Common.{rules, [], ◌∷◌, refl, codes}
use Rattle.std.specs.Prelude.{FitsSigned}
use Rattle.std.specs.Int.{w64}
use Rattle.jh_edn.specs.Edn.{int}
use Rattle.jh_settings_texts.proofs.NestingLemmas.{read_is, write_is, cas_is, add_is, generate_is, txn_is, vector_within}
use Rattle.jh_settings_texts.proofs.depth.is_request_within.Goals as goal

pub returns-in-Read : goal.returns-in-Read
returns-in-Read c = rw (c.in-Read.is) (λ told. read_is, λ printable. refl)

pub returns-in-Write : goal.returns-in-Write
returns-in-Write c =
    let fits : FitsSigned w64 c.in-Write._number = search rules in
    rw (c.in-Write.is) (vector_within (codes "write") (int c.in-Write._number ∷ []) c.args.depth write_is (fits, tt))

pub returns-in-Cas : goal.returns-in-Cas
returns-in-Cas c =
    let old : FitsSigned w64 c.in-Cas._old = search rules in
    let new : FitsSigned w64 c.in-Cas._new = search rules in
    rw (c.in-Cas.is) (vector_within (codes "cas") (int c.in-Cas._old ∷ int c.in-Cas._new ∷ []) c.args.depth cas_is (old, (new, tt)))

pub returns-in-Add : goal.returns-in-Add
returns-in-Add c =
    let fits : FitsSigned w64 c.in-Add._number = search rules in
    rw (c.in-Add.is) (vector_within (codes "add") (int c.in-Add._number ∷ []) c.args.depth add_is (fits, tt))

pub returns-in-Generate : goal.returns-in-Generate
returns-in-Generate c = rw (c.in-Generate.is) (λ told. generate_is, λ printable. refl)

pub returns-in-Txn : goal.returns-in-Txn
returns-in-Txn c = rw (c.in-Txn.is) (λ told. txn_is, λ printable. refl)
