use Rattle.std.proofs.Common.{◌∙◌, [], sym, ap, subst, arith, refl, None, Option}
use Rattle.std.specs.List.{All}
use Rattle.std.proofs.lemmas.List.{length-map, length-replicate}
use Rattle.jh_tables.specs.declared.counted.FixEntry.{FixEntry}
use Rattle.jh_tables.specs.Cells.{Table}
use Rattle.jh_tables.specs.Tallies.{cells_at_start, fresh_node}
use Rattle.jh_tables.specs.Standing.{StandsAt, IsStartingLink, IsStartingNode}
use Rattle.jh_tables.proofs.StartLemmas.{fresh_delays, fresh_square, fresh_stands, fresh_start, fresh_tallies}
use Rattle.jh_tables.proofs.WholeLemmas.{tables_of}
use Rattle.jh_tables.proofs.tables.Tables.start.Goals as goal

pub invariant_of-result : goal.invariant_of-result
invariant_of-result c =
    let links = c.args.links.now in
    let nodes = c.args.nodes.now in
    let starts = fresh_start links nodes c.requires.square in
    rw c.in_ok-new.ensures (record {
      faults = [];
      laid = refl;
      few = omega arith;
      tallies = fresh_tallies links nodes c.requires.square;
      nodes = rw (length-map nodes fresh_node) c.requires.few;
      square = fresh_square links nodes c.requires.square;
      room = length-replicate 256 (let none : Option FixEntry = None in none);
      delays = fresh_delays 256;
      starting_links = subst (λ (t : Table). All IsStartingLink t.links) (sym starts) c.requires.starting.0;
      starting_nodes = subst (λ (t : Table). All IsStartingNode t.nodes) (sym starts) c.requires.starting.1;
    })

pub returns-clause-stands : goal.returns-clause-stands
returns-clause-stands c =
    subst (λ t. StandsAt (tables_of t 0) []) (sym c.in_ok-new.ensures) (fresh_stands c.args.links.now c.args.nodes.now c.requires.square)

pub returns-clause-start : goal.returns-clause-start
returns-clause-start c = ap cells_at_start c.in_ok-new.ensures ∙ fresh_start c.args.links.now c.args.nodes.now c.requires.square
