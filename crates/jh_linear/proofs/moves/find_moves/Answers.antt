use Rattle.std.proofs.Common.{◌≡◌, length, refl, inl, inr, arith}
use Rattle.std.proofs.lemmas.Grind.{common_steps}
use Rattle.jh_linear.specs.SearchInside.{IsNoneSettled}
use Rattle.jh_linear.proofs.MoveLemmas.{each_none}
use Rattle.jh_linear.proofs.moves.find_moves.Goals as goal

pub returns-in-Some : goal.returns-in-Some
returns-in-Some c =
    let p = c.args.problem.now in
    let config = c.args.config.now in
    let settled = c.in-Some.ensures.some in
    let pushed = c.in_ok-push_move.ensures in
    record {
      each = pushed.more.each (each_none p config c.clear.new.self.items c.clear.ensures.items);
      enough = inl (c.in-Some.index, settled, pushed.among config.value settled.1.2);
    }

pub returns-then-is_empty : goal.returns-then-is_empty
returns-then-is_empty c =
    let p = c.args.problem.now in
    let config = c.args.config.now in
    let happened = c.in_ok-push_happened.ensures in
    let empty : length p.sorted.classes.items ≡ 0 = grind (arith, common_steps) in
    let none : IsNoneSettled p config (length config.happened.items) = λ index lt. c.in_default.ensures.none refl index (omega (arith, lt)) in
    record {
      each = happened.more.each (each_none p config c.clear.new.self.items c.clear.ensures.items);
      enough = inr (λ index next lt allowed. happened.happened index next (omega (arith, lt)) allowed, λ k next lt. absurd (omega (arith, lt, empty)), none);
    }

pub returns : goal.returns
returns c =
    let p = c.args.problem.now in
    let config = c.args.config.now in
    let happened = c.in_ok-push_happened.ensures in
    let unknown = c.in_ok-push_unknown.ensures in
    let none : IsNoneSettled p config (length config.happened.items) = λ index lt. c.in_default.ensures.none refl index (omega (arith, lt)) in
    record {
      each = unknown.more.each (happened.more.each (each_none p config c.clear.new.self.items c.clear.ensures.items));
      enough = inr (λ index next lt allowed. unknown.more.kept _ next (happened.happened index next (omega (arith, lt)) allowed), unknown.unknown, none);
    }
