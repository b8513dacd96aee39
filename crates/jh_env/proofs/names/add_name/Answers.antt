use Rattle.std.proofs.Common.{◌∙◌, sym, map}
use Rattle.std.specs.String.{string_bytes}
use Rattle.std.specs.Str.{bytes_eq}
use Rattle.jh_env.specs.Names.{MayFollow}
use Rattle.jh_env.proofs.NameLemmas.{list_any-map, text_added}
use Rattle.jh_env.proofs.names.add_name.Goals as goal
use Rattle.jh_env.proofs.names.add_name.Goals.{in-Ok-insert, in-Err}

pub returns-then-contains : goal.returns-then-contains
returns-then-contains c = (sym c.if-not-is_node_name.ensures, list_any-map (bytes_eq c.args.name.now) string_bytes c.args.set.now.keys ∙ sym c.if-contains.ensures)

pub returns-in_default : goal.returns-in_default
returns-in_default c = (sym c.if-not-is_node_name.ensures, list_any-map (bytes_eq c.args.name.now) string_bytes c.args.set.now.keys ∙ sym c.if-contains.ensures)

pub returns : goal.returns
returns c =
    let follows : MayFollow (map string_bytes c.args.set.now.keys) c.args.name.now =
    (sym c.if-not-is_node_name.ensures, list_any-map (bytes_eq c.args.name.now) string_bytes c.args.set.now.keys ∙ sym c.if-contains.ensures) in
    elim c.match-insert.branch [
      | in-Ok-insert w ↦
          let added = text_added c.args.set.now.keys c.insert.new.self.keys c.in-Ok.text c.args.name.now c.in-Ok.ensures.ok (sym c.if-contains.ensures) w.in-Ok-insert.ensures.keys in
          rw w.result-is (added, follows)
      | in-Err w ↦ rw w.result-is follows
    ]
