use Rattle.std.proofs.Common.{ℕ, ◌∷◌, ◌++◌, ◌-◌, length, ap, sym, subst, arith, ◌∙◌, length-append}
use Rattle.std.specs.List.{All}
use Rattle.std.proofs.lemmas.List.{length-map}
use Rattle.jh_tables.specs.declared.changing.Change.TheVariants.{Remove}
use Rattle.jh_tables.specs.Cells.{Table}
use Rattle.jh_tables.specs.Faults.{FaultValue, fix_value}
use Rattle.jh_tables.specs.Plain.{fault_of}
use Rattle.jh_tables.specs.Tallies.{node_now}
use Rattle.jh_tables.specs.Standing.{StandsAt, TablesValue, IsStartingLink, IsStartingNode, faults_of}
use Rattle.jh_tables.proofs.RoomLemmas.{tallies_room}
use Rattle.jh_tables.proofs.StandingLemmas.{entry_there, used_changed}
use Rattle.jh_tables.proofs.TallyLemmas.{tallies_changed}
use Rattle.jh_tables.proofs.WholeLemmas.{delays_changed, held_few, held_fault, held_tallies, room_changed, square_stays, stands_changed, start_stays, tables_of}
use Rattle.jh_tables.proofs.tables.Tables.take.Goals as goal

pub change_all-requires-clause-fits : goal.change_all-requires-clause-fits
change_all-requires-clause-fits c =
    let r = rw (← c.self.view_is) at c.requires in
    (held_fault c.args.stamp (fault_of c.args.fault.now) r.0 r.1 c.self.inside.counted c.self.inside.laid r.2).1

pub change_all-requires-clause-right : goal.change_all-requires-clause-right
change_all-requires-clause-right c =
    let r = rw (← c.self.view_is) at c.requires in
    (held_fault c.args.stamp (fault_of c.args.fault.now) r.0 r.1 c.self.inside.counted c.self.inside.laid r.2).0

pub change_all-requires-clause-room : goal.change_all-requires-clause-room
change_all-requires-clause-room c =
    let f = fault_of c.args.fault.now in
    let t = c.self.inside.counted in
    let r = rw (← c.self.view_is) at c.requires in
    tallies_room (faults_of r.0) f (faults_of r.1) Remove t
    (held_few c.args.stamp f r.0 r.1 t c.self.inside.laid r.2 c.self.invariant.few)
    (held_fault c.args.stamp f r.0 r.1 t c.self.inside.laid r.2).0
    (held_tallies c.args.stamp f r.0 r.1 t c.self.inside.laid r.2)

pub change_all-requires-clause-entries : goal.change_all-requires-clause-entries
change_all-requires-clause-entries c =
    let t = c.self.inside.counted in
    let r = rw (← c.self.view_is) at c.requires in
    let s : StandsAt (tables_of t c.self.inside.laid) (r.0 ++ (c.args.stamp, fault_of c.args.fault.now) ∷ r.1) = r.2 in
    entry_there (length t.nodes) c.args.stamp (fault_of c.args.fault.now) r.0 r.1 t.fixes s.entries

pub invariant_of-self : goal.invariant_of-self
invariant_of-self c =
    let w = c.self.invariant in
    let f = fault_of c.args.fault.now in
    let old = c.self.inside.counted in
    let new = c.change_all.new.counted in
    let e = c.change_all.ensures in
    let r = rw (← c.self.view_is) at c.requires in
    let s : StandsAt (tables_of old c.self.inside.laid) (r.0 ++ (c.args.stamp, f) ∷ r.1) = r.2 in
    let right = held_fault c.args.stamp f r.0 r.1 old c.self.inside.laid s in
    let starts = start_stays Remove f old new e.changed w.square in
    record {
      faults = faults_of r.0 ++ faults_of r.1;
      laid = omega (
        arith,
        s.laid,
        length-append r.0 ((c.args.stamp, f) ∷ r.1),
        length-append (faults_of r.0) (faults_of r.1),
        length-map r.0 (λ (x : ℕ × FaultValue). x.1),
        length-map r.1 (λ (x : ℕ × FaultValue). x.1),
      );
      few = omega (arith, w.few);
      tallies = rw (e.changed).many_nodes
          (tallies_changed Remove (faults_of r.0) f (faults_of r.1) right.0 old new right.1 e.changed (used_changed Remove c.args.stamp f old.fixes new.fixes e.entries)
          (held_tallies c.args.stamp f r.0 r.1 old c.self.inside.laid s));
      nodes = rw (e.changed).many_nodes w.nodes;
      square = square_stays Remove f old new e.changed w.square;
      room = room_changed Remove c.args.stamp (fix_value f) old.fixes new.fixes e.entries ∙ w.room;
      delays = delays_changed Remove c.args.stamp f old.fixes new.fixes right.0 e.entries w.delays;
      starting_links = subst (λ (t : Table). All IsStartingLink t.links) (sym starts) w.starting_links;
      starting_nodes = subst (λ (t : Table). All IsStartingNode t.nodes) (sym starts) w.starting_nodes;
    }

pub returns-clause-stands : goal.returns-clause-stands
returns-clause-stands c before after st =
    let w = c.self.invariant in
    let f = fault_of c.args.fault.now in
    let old = c.self.inside.counted in
    let new = c.change_all.new.counted in
    let e = c.change_all.ensures in
    let s : StandsAt (tables_of old c.self.inside.laid) (before ++ (c.args.stamp, f) ∷ after) = rw (← c.self.view_is) at st in
    let right = held_fault c.args.stamp f before after old c.self.inside.laid s in
    stands_changed Remove c.args.stamp f before after old new c.self.inside.laid (c.self.inside.laid - 1) w.nodes w.square right.0 right.1 e.changed e.entries s.order
    (omega (arith, s.laid, length-append before after, length-append before ((c.args.stamp, f) ∷ after))) s

pub returns-clause-start : goal.returns-clause-start
returns-clause-start c =
    start_stays Remove (fault_of c.args.fault.now) c.self.inside.counted c.change_all.new.counted c.change_all.ensures.changed c.self.invariant.square
    ∙ ap (λ (t : TablesValue). t.start) c.self.view_is

pub returns-clause-whole : goal.returns-clause-whole
returns-clause-whole c =
    length-map c.change_all.new.counted.nodes node_now
    ∙ (c.change_all.ensures.changed).many_nodes
    ∙ sym (length-map c.self.inside.counted.nodes node_now)
    ∙ ap (λ (t : TablesValue). length t.cells.nodes) c.self.view_is
