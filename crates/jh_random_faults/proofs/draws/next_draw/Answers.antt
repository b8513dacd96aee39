use Rattle.std.proofs.Common.{◌≡◌, ◌+◌, arith, rules}
use Rattle.jh_random_faults.proofs.draws.next_draw.Goals as goal

pub returns : goal.returns
returns c seed n at =
    let two : n + 1 + 1 ≡ n + 2 = omega arith in
    let three : n + 2 + 1 ≡ n + 3 = omega arith in
    let four : n + 3 + 1 ≡ n + 4 = omega arith in
    let five : n + 4 + 1 ≡ n + 5 = omega arith in
    let six : n + 5 + 1 ≡ n + 6 = omega arith in
    let seven : n + 6 + 1 ≡ n + 7 = omega arith in
    let kind = c.next_number.ensures seed n at in
    let shape = c.next_number-2.ensures seed (n + 1) kind.1 in
    let order = c.next_number-3.ensures seed (n + 2) (rw two at shape.1) in
    let amount = c.next_number-4.ensures seed (n + 3) (rw three at order.1) in
    let begin = c.next_number-5.ensures seed (n + 4) (rw four at amount.1) in
    let stay = c.next_number-6.ensures seed (n + 5) (rw five at begin.1) in
    let length = c.next_number-7.ensures seed (n + 6) (rw six at stay.1) in
    (rw (kind.0, shape.0, order.0, amount.0, begin.0, stay.0, length.0) search rules, rw seven at length.1)
