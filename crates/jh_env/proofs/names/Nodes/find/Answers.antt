use Rattle.std.proofs.Common.{◌∙◌}
use Rattle.std.specs.String.{string_bytes}
use Rattle.std.specs.Str.{bytes_eq}
use Rattle.jh_env.proofs.NameLemmas.{position-map}
use Rattle.jh_env.proofs.names.Nodes.find.Goals as goal

pub returns-in_err-place-clause-found : goal.returns-in_err-place-clause-found
returns-in_err-place-clause-found c = rw (← c.self.view_is, position-map (bytes_eq c.args.name.now) string_bytes c.self.inside.names.keys) (c.from_residual.ensures ∙ c.in_err-place.ensures.index)

pub returns-clause-found : goal.returns-clause-found
returns-clause-found c = rw (← c.self.view_is, position-map (bytes_eq c.args.name.now) string_bytes c.self.inside.names.keys, c.at.ensures) c.in_ok-place.ensures.index
