use Rattle.std.proofs.Common.{◌≡◌, ℕ, ◌+◌, List, ◌∷◌, true, drop, length, get_or, refl, sym, subst, ◌∙◌, arith}
use Rattle.jh_linear.specs.Order.{has}
use Rattle.jh_linear.specs.CheckingInside.{IsNoneLate}
use Rattle.std.proofs.lemmas.Bool.{false≢true}
use Rattle.jh_linear.proofs.OrderLemmas.{not_apart, apart_if, none_behind}
use Rattle.jh_linear.proofs.order_check.are_apart.Goals as goal

again : (order behind : List ℕ) (k : ℕ) → behind ≡ drop (k + 1) order → has behind (get_or order k 0) ≡ true → has (drop (k + 1) order) (get_or order k 0) ≡ true
again order behind k is h = subst (λ xs. has xs (get_or order k 0) ≡ true) is h

pub stands_again-requires : goal.stands_again-requires
stands_again-requires c = record {
  in_time = λ in_time.
      subst (λ xs. IsNoneLate c.args.ops.now (get_or c.args.order.now c.loop-index.index 0 ∷ xs)) (sym c.behind.ensures)
      (none_behind c.args.ops.now c.args.order.now c.loop-index.index (omega arith) (c.none_late-in_time.ensures.0 in_time));
}

pub returns-then-stands_again : goal.returns-then-stands_again
returns-then-stands_again c =
    (λ e. absurd (false≢true e), λ apart. absurd (not_apart c.args.order.now c.loop-index.index (omega arith) (again c.args.order.now c.behind.result.now c.loop-index.index c.behind.ensures (sym c.stands_again.ensures ∙ c.if-stands_again.true)) apart))

pub returns : goal.returns
returns c =
    let all : length c.args.order.now ≡ c.loop-index.index = omega arith in
    (λ e. apart_if c.args.order.now (λ k low. c.loop-index.invariant k (omega (arith, low, all))), λ apart. refl)
