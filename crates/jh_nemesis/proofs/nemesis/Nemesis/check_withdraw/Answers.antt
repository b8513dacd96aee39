use Rattle.jh_nemesis.proofs.CursorLemmas.{known}
use Rattle.jh_nemesis.proofs.nemesis.Nemesis.check_withdraw.Goals as goal

pub stamp_of-requires : goal.stamp_of-requires
stamp_of-requires c =
    let a = c.self.inside in
    rw (c.deref.ensures.value, c.deref-2.ensures.0) (known c.self.invariant)
