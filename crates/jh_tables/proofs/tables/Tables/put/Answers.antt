use Rattle.std.proofs.Common.{◌∷◌, ◌++◌, ◌+◌, [], length, ap, sym, subst, arith, ◌∙◌, length-append}
use Rattle.std.specs.List.{All}
use Rattle.std.proofs.lemmas.List.{length-map}
use Rattle.jh_tables.specs.declared.changing.Change.TheVariants.{Add}
use Rattle.jh_tables.specs.Cells.{Table}
use Rattle.jh_tables.specs.Faults.{FitsCount, fix_value}
use Rattle.jh_tables.specs.Plain.{fault_of}
use Rattle.jh_tables.specs.Tallies.{node_now}
use Rattle.jh_tables.specs.Standing.{StandsAt, TablesValue, IsStartingLink, IsStartingNode}
use Rattle.jh_tables.proofs.RoomLemmas.{tallies_room}
use Rattle.jh_tables.proofs.StandingLemmas.{used_changed}
use Rattle.jh_tables.proofs.TallyLemmas.{tallies_changed}
use Rattle.jh_tables.proofs.WholeLemmas.{delays_changed, room_changed, square_stays, stands_changed, start_stays, tables_of}
use Rattle.jh_tables.proofs.tables.Tables.put.Goals as goal

pub change_all-requires-clause-room : goal.change_all-requires-clause-room
change_all-requires-clause-room c =
    let w = c.self.invariant in
    let room = rw (← c.self.view_is) at c.requires.room in
    tallies_room [] (fault_of c.args.fault.now) w.faults Add c.self.inside.counted (omega (arith, room, w.laid)) c.requires.right w.tallies

pub invariant_of-self : goal.invariant_of-self
invariant_of-self c =
    let w = c.self.invariant in
    let f = fault_of c.args.fault.now in
    let old = c.self.inside.counted in
    let new = c.change_all.new.counted in
    let e = c.change_all.ensures in
    let room = rw (← c.self.view_is) at c.requires.room in
    let fits : FitsCount (length old.nodes) f = rw (← c.self.view_is, length-map old.nodes) at c.requires.fits in
    let starts = start_stays Add f old new e.changed w.square in
    record {
      faults = f ∷ w.faults;
      laid = omega (arith, w.laid);
      few = omega (arith, room);
      tallies = rw (e.changed).many_nodes
          (tallies_changed Add [] f w.faults c.requires.right old new fits e.changed (used_changed Add c.args.stamp f old.fixes new.fixes e.entries) w.tallies);
      nodes = rw (e.changed).many_nodes w.nodes;
      square = square_stays Add f old new e.changed w.square;
      room = room_changed Add c.args.stamp (fix_value f) old.fixes new.fixes e.entries ∙ w.room;
      delays = delays_changed Add c.args.stamp f old.fixes new.fixes c.requires.right e.entries w.delays;
      starting_links = subst (λ (t : Table). All IsStartingLink t.links) (sym starts) w.starting_links;
      starting_nodes = subst (λ (t : Table). All IsStartingNode t.nodes) (sym starts) w.starting_nodes;
    }

pub returns-clause-stands : goal.returns-clause-stands
returns-clause-stands c before after order st =
    let w = c.self.invariant in
    let f = fault_of c.args.fault.now in
    let old = c.self.inside.counted in
    let new = c.change_all.new.counted in
    let e = c.change_all.ensures in
    let fits : FitsCount (length old.nodes) f = rw (← c.self.view_is, length-map old.nodes) at c.requires.fits in
    let s : StandsAt (tables_of old c.self.inside.laid) (before ++ after) = rw (← c.self.view_is) at st in
    stands_changed Add c.args.stamp f before after old new c.self.inside.laid (c.self.inside.laid + 1) w.nodes w.square c.requires.right fits e.changed e.entries order
    (omega (arith, s.laid, length-append before after, length-append before ((c.args.stamp, f) ∷ after))) s

pub returns-clause-start : goal.returns-clause-start
returns-clause-start c =
    start_stays Add (fault_of c.args.fault.now) c.self.inside.counted c.change_all.new.counted c.change_all.ensures.changed c.self.invariant.square
    ∙ ap (λ (t : TablesValue). t.start) c.self.view_is

pub returns-clause-whole : goal.returns-clause-whole
returns-clause-whole c =
    length-map c.change_all.new.counted.nodes node_now
    ∙ (c.change_all.ensures.changed).many_nodes
    ∙ sym (length-map c.self.inside.counted.nodes node_now)
    ∙ ap (λ (t : TablesValue). length t.cells.nodes) c.self.view_is
