use Rattle.std.proofs.Common.{subst, sym, ap, ◌∙◌, length}
use Rattle.jh_unread.specs.Blanks.{AreOwnOrBlank}
use Rattle.jh_unread.proofs.WalkLemmas.{if_ok_so}
use Rattle.jh_unread.proofs.BlankLemmas.{own_without, same_length}
use Rattle.jh_unread.proofs.UnchangedLemmas.{same_without}
use Rattle.jh_unread.proofs.walking.without_unread.Goals as goal

pub returns-clause-blanks : goal.returns-clause-blanks
returns-clause-blanks c =
    let text = c.args.text.now in
    if_ok_so _ _ c.walk_through.result c.walk_through.ensures (λ out e. subst (AreOwnOrBlank text) (sym e) (own_without text))

pub returns-clause-length : goal.returns-clause-length
returns-clause-length c =
    let text = c.args.text.now in
    if_ok_so _ _ c.walk_through.result c.walk_through.ensures (λ out e. ap length e ∙ same_length text _ (own_without text))

pub returns-clause-unchanged : goal.returns-clause-unchanged
returns-clause-unchanged c =
    let text = c.args.text.now in
    if_ok_so _ _ c.walk_through.result c.walk_through.ensures (λ out e none. e ∙ same_without text none)
