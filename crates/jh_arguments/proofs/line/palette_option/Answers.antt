use Rattle.std.proofs.Common.{ap, codes, ◌≡◌, ◌∙◌}
use Rattle.clap.specs.Words.{rule_of}
use Rattle.jh_arguments.specs.Line.{option}
use Rattle.jh_arguments.proofs.ChainLemmas.{defaulted, longed, named_once}
use Rattle.jh_arguments.proofs.line.palette_option.Goals as goal

pub returns-clause-rule : goal.returns-clause-rule
returns-clause-rule c =
    let plain : rule_of c.help.result ≡ option (codes "palette") = ap rule_of c.help.ensures ∙ (ap rule_of c.value_name.ensures
    ∙ ap named_once (ap rule_of c.long.ensures ∙ ap (longed (codes "palette")) c.new.ensures.rule)) in
    ap rule_of c.default_value.ensures ∙ ap (defaulted (codes "cut,slow,loss,fix,pause,kill,bump")) plain

pub returns-clause-local : goal.returns-clause-local
returns-clause-local c = rw (c.default_value.ensures, c.help.ensures, c.value_name.ensures, c.long.ensures) c.new.ensures.optional.1
