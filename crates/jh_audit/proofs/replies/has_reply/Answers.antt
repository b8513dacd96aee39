use Rattle.std.proofs.Common.{◌≡◌, sym, ◌∙◌, rules}
use Rattle.jh_edn.specs.View.{view}
use Rattle.jh_simnode.specs.Histories.{completion_kind}
use Rattle.jh_audit.proofs.ReplyValueLemmas.{replied_decides}
use Rattle.jh_audit.proofs.replies.has_reply.Goals as goal

pub returns-then-eq : goal.returns-then-eq
returns-then-eq c =
    let decides = replied_decides c.args.request c.args.reply.now (view c.args.op.now.value) in
    let kind : c.args.op.now.kind ≡ completion_kind c.args.reply.now = search rules in (
      λ holds. (kind, decides.0 (sym c.is_replied.ensures ∙ holds)),
      λ same. c.is_replied.ensures ∙ decides.1 same.1,
    )
