use Rattle.std.proofs.Common.{ℕ, ◌-◌, ◌<◌, ◌++◌, List, length, get_or, None, refl, sym, subst, arith}
use Rattle.std.proofs.lemmas.Option.{slice_get-get_or}
use Rattle.jh_linear.specs.declared.judge.ExpansionEnd.TheVariants.{More}
use Rattle.jh_linear.specs.declared.moves.Move.{Move}
use Rattle.jh_linear.specs.declared.moves.Source.TheVariants.{Happened}
use Rattle.jh_linear.specs.declared.verdict.Step.{Step}
use Rattle.jh_linear.specs.Reached.{order_at, NameEarlier}
use Rattle.jh_linear.specs.SearchInside.{IsSearchSoFar, IsWholeOrder, ComesOfMove, search_lists}
use Rattle.jh_linear.proofs.GrowthLemmas.{below, grows_trans}
use Rattle.jh_linear.proofs.GoingOnLemmas.{tried_more}
use Rattle.jh_linear.proofs.judge.try_moves.Goals as goal

pub try_move-requires-clause-reached : goal.try_move-requires-clause-reached
try_move-requires-clause-reached c =
    let t = c.requires.reached in
    (t.0, c.loop-tried.invariant.on.kept c.args.at t.0 t.1, t.2)

pub try_move-requires-clause-begun : goal.try_move-requires-clause-begun
try_move-requires-clause-begun c =
    let on = c.loop-tried.invariant.on in
    record { known = on.known; far = on.far; few = on.few }

-- what an index past the end reads as
abbrev first_move : Move
first_move = record { source = Happened 0; value = None }

pub try_move-requires-clause-moves : goal.try_move-requires-clause-moves
try_move-requires-clause-moves c =
    let moves : List Move = c.args.moves.now in
    let index : ℕ = length moves - 1 - c.loop-tried.tried in
    c.requires.moves index (get_or moves index first_move) (slice_get-get_or moves index first_move (omega (arith, c.loop-tried-test.true)))

pub loop-tried-preserved : goal.loop-tried-preserved
loop-tried-preserved c =
    let p = c.args.problem.now in
    let s = c.args.search.now in
    let t = c.requires.reached in
    let l = c.loop-tried in
    let m = l.search in
    let n = c.try_move.new.search in
    let moves : List Move = c.args.moves.now in
    let low = below p c.requires.problem s.configs.keys s.steps.items c.requires.begun.known c.args.at t.0 t.1 in
    let index : ℕ = length moves - 1 - l.tried in
    let on = l.invariant.on in
    let begun : IsSearchSoFar p m = record { known = on.known; far = on.far; few = on.few } in
    let this : Move = get_or moves index first_move in
    let tried : ComesOfMove p m n c.args.at c.args.config.now this More = subst (ComesOfMove p m n c.args.at c.args.config.now this) c.in-More.is c.in_ok-try_move.ensures in
    record {
      on = grows_trans p c.requires.problem (search_lists s) (search_lists m) (search_lists n) on tried.0;
      tried = tried_more p c.requires.problem s m n c.args.at c.args.config.now moves l.tried index first_move low refl c.loop-tried-test.true begun on tried.0 tried.1 l.invariant.tried;
    }

pub returns-in-Complete : goal.returns-in-Complete
returns-in-Complete c =
    let p = c.args.problem.now in
    let s = c.args.search.now in
    let t = c.requires.reached in
    let m = c.loop-tried.search in
    let n = c.try_move.new.search in
    let on = c.loop-tried.invariant.on in
    let tried = rw c.in-Complete.is at c.in_ok-try_move.ensures in
    let low = below p c.requires.problem m.configs.keys m.steps.items on.known c.args.at t.0 (on.kept c.args.at t.0 t.1) in (
      subst (λ (ss : List Step). IsWholeOrder p (order_at ss c.args.at ++ c.in-Complete.placed.items)) (sym tried.0) tried.1,
      subst (λ (ss : List Step). c.args.at < length ss) (sym tried.0) low,
      subst (λ (ss : List Step). NameEarlier ss) (sym tried.0) on.known.earlier,
    )

pub returns : goal.returns
returns c =
    let l = c.loop-tried in
    (l.invariant.on, λ i move there. l.invariant.tried i move (omega arith) there)
