use Rattle.std.proofs.Common.{ap₂, refl, ◌∙◌}
use Rattle.clap.specs.Words.{with_rule}
use Rattle.jh_arguments.proofs.line.judged.Goals as goal

pub returns-clause-judged : goal.returns-clause-judged
returns-clause-judged c =
    c.in_ok-judged.ensures.shape c.judge_option.ensures.local ∙ ap₂ with_rule
    (c.in_ok-arg-7.ensures.shape c.flag_option-locked.ensures.local ∙ ap₂ with_rule
    (c.in_ok-arg-6.ensures.shape c.flag_option-linearizable.ensures.local ∙ ap₂ with_rule
    (c.in_ok-arg-5.ensures.shape c.flag_option-negative.ensures.local ∙ ap₂ with_rule
    (c.in_ok-arg-4.ensures.shape c.total_option.ensures.local ∙ ap₂ with_rule
    (c.in_ok-arg-3.ensures.shape c.accounts_option.ensures.local ∙ ap₂ with_rule
    (c.in_ok-arg-2.ensures.shape c.model_option.ensures.local ∙ ap₂ with_rule
    (c.in_ok-arg.ensures.shape c.initial_option.ensures.local ∙ ap₂ with_rule refl c.initial_option.ensures.rule)
    c.model_option.ensures.rule) c.accounts_option.ensures.rule) c.total_option.ensures.rule) c.flag_option-negative.ensures.rule)
    c.flag_option-linearizable.ensures.rule) c.flag_option-locked.ensures.rule) c.judge_option.ensures.rule
