use Rattle.std.proofs.Common.{◌≡◌, ℕ, ◌+◌, ◌*◌, ◌≤◌, replicate, arith, length, sym, ap, ◌∙◌, subst}
use Rattle.jh_slots.specs.Stored.{IsSeat, View, opening_view}
use Rattle.jh_slots.proofs.OpeningLemmas.{opens}
use Rattle.jh_slots.proofs.WordLemmas.{zeros_len}
use Rattle.jh_slots.proofs.SeatLemmas.{seat_opening}
use Rattle.jh_slots.proofs.slots.Slots.new.Goals as goal

pub of_words-requires : goal.of_words-requires
of_words-requires c = opens c.args.rows c.deref.result.now (c.deref.ensures.value ∙ c.in_ok-words.ensures)

pub invariant_of-result-2 : goal.invariant_of-result-2
invariant_of-result-2 c =
    let e = c.in_ok-table.ensures in
    let is : c.deref.result.now ≡ replicate (1 + 6 * c.args.rows) 0 = c.deref.ensures.value ∙ c.in_ok-words.ensures in
    let words : c.in_ok-table.inner.table_id.words ≡ 1 + 6 * c.args.rows =
    ap (λ z. z.words) e.2 ∙ (e.0 ∙ (ap length is ∙ zeros_len (1 + 6 * c.args.rows))) in
    let view : c.in_ok-table.inner.me.0 ≡ opening_view c.args.rows = ap (λ p. p.0) e.4 in
    let most = c.if-rows-gt-MAX_ROWS.false in
    let small : c.args.rows ≤ 65536 = omega arith in (
      ap (λ p. p.1) e.4,
      subst (λ (y : ℕ × View). IsSeat y.0 y.1) (λ i. (sym words i, sym view i)) (seat_opening c.args.rows small),
    )
