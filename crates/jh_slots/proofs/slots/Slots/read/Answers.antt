use Rattle.std.proofs.Common.{◌≡◌, ◌+◌, ◌-◌, ◌*◌, ◌<◌, [], length, take, refl, sym, ap, ◌∙◌, arith}
use Rattle.std.specs.FinMap as map
use Rattle.std.proofs.lemmas.List.{length-take-le, drop-set-lt}
use Rattle.jh_slots.specs.Seats.{Words, Void, Knowledge, knowledge_after_read}
use Rattle.jh_slots.specs.Stored.{View, place_at}
use Rattle.jh_slots.proofs.LoadLemmas.{peeks_at, gathers_at}
use Rattle.jh_slots.proofs.SeatLemmas.{stays, cap_is}
use Rattle.jh_slots.proofs.ReadLemmas.{none_of, status_place, absent, voids, noted, small, peek_stay, starts, read_stay, reads_on, whole}
use Rattle.jh_slots.proofs.slots.Slots.read.Goals as goal

pub returns-then-row-self-clause-read : goal.returns-then-row-self-clause-read
returns-then-row-self-clause-read c =
    let same : c.seat.inside.inner.table_id ≡ c.self.inside.table.shared.table_id = ap (λ s. s.table) c.seat.view_is ∙ (c.requires ∙ sym (ap (λ s. s.table) c.self.view_is)) in
    let here : c.seat.inside.inner.me.0.cap ≡ c.self.inside.rows = cap_is _ _ _ c.seat.invariant.1 (ap (λ z. z.words) same ∙ c.self.invariant.1) in
    let past = c.if-row-self.true in
    (none_of _ (λ m e. let lt = c.seat.invariant.1.seen c.args.row m (ap (λ s. map.get s.knows.seen c.args.row) c.seat.view_is ∙ e) in omega arith), refl, refl)

pub load-status-requires : goal.load-status-requires
load-status-requires c =
    let same : c.seat.inside.inner.table_id ≡ c.self.inside.table.shared.table_id = ap (λ s. s.table) c.seat.view_is ∙ (c.requires ∙ sym (ap (λ s. s.table) c.self.view_is)) in
    let here : c.seat.inside.inner.me.0.cap ≡ c.self.inside.rows = cap_is _ _ _ c.seat.invariant.1 (ap (λ z. z.words) same ∙ c.self.invariant.1) in
    let key : c.self.inside.table.shared.key ≡ c.self.inside.rows = c.self.invariant.0 in
    let words = c.self.invariant.1 in
    (same, omega arith, peeks_at c.self.inside.table.shared.key _ _ c.args.row _ _ (ap (λ k. 1 + (5 * k + c.args.row)) (sym key)) (here ∙ sym key))

pub invariant_of-seat : goal.invariant_of-seat
invariant_of-seat c =
    let same : c.seat.inside.inner.table_id ≡ c.self.inside.table.shared.table_id = ap (λ s. s.table) c.seat.view_is ∙ (c.requires ∙ sym (ap (λ s. s.table) c.self.view_is)) in
    let size = ap (λ z. z.words) same ∙ c.self.invariant.1 in
    let here : c.seat.inside.inner.me.0.cap ≡ c.self.inside.rows = cap_is _ _ _ c.seat.invariant.1 size in
    let e = c.load-status.ensures in
    let t = e.2.1 c.args.row (status_place _ _ _ c.args.row c.seat.invariant.1 size) in
    stays _ _ _ _ _ _ c.seat.invariant.0 e.2.0 e.0 refl (peek_stay _ c.seat.inside.inner.me.0 _ c.args.row _ t c.seat.invariant.1 (let lt = c.if-row-self.false in omega arith))

pub returns-then-status-eq0-clause-read : goal.returns-then-status-eq0-clause-read
returns-then-status-eq0-clause-read c =
    let same : c.seat.inside.inner.table_id ≡ c.self.inside.table.shared.table_id = ap (λ s. s.table) c.seat.view_is ∙ (c.requires ∙ sym (ap (λ s. s.table) c.self.view_is)) in
    let size = ap (λ z. z.words) same ∙ c.self.invariant.1 in
    let here : c.seat.inside.inner.me.0.cap ≡ c.self.inside.rows = cap_is _ _ _ c.seat.invariant.1 size in
    let e = c.load-status.ensures in
    let t = e.2.1 c.args.row (status_place _ _ _ c.args.row c.seat.invariant.1 size) in
    let a = absent c.seat.inside.inner.me.0 _ c.args.row _ t c.if-status-eq0.true in
    (ap (λ s. map.get s.knows.seen c.args.row) (sym c.seat.view_is) ∙ a.0, a.1 ∙ ap (λ s. s.knows) c.seat.view_is, refl)

pub invariant_of-seat-then-status-eq1 : goal.invariant_of-seat-then-status-eq1
invariant_of-seat-then-status-eq1 c =
    let same : c.seat.inside.inner.table_id ≡ c.self.inside.table.shared.table_id = ap (λ s. s.table) c.seat.view_is ∙ (c.requires ∙ sym (ap (λ s. s.table) c.self.view_is)) in
    let size = ap (λ z. z.words) same ∙ c.self.invariant.1 in
    let here : c.seat.inside.inner.me.0.cap ≡ c.self.inside.rows = cap_is _ _ _ c.seat.invariant.1 size in
    let e = c.load-status.ensures in
    let t = e.2.1 c.args.row (status_place _ _ _ c.args.row c.seat.invariant.1 size) in
    stays _ _ _ _ _ _ c.seat.invariant.0 e.2.0 e.0 refl (peek_stay _ c.seat.inside.inner.me.0 _ c.args.row _ t c.seat.invariant.1 (let lt = c.if-row-self.false in omega arith))

pub returns-then-status-eq1-clause-read : goal.returns-then-status-eq1-clause-read
returns-then-status-eq1-clause-read c =
    let same : c.seat.inside.inner.table_id ≡ c.self.inside.table.shared.table_id = ap (λ s. s.table) c.seat.view_is ∙ (c.requires ∙ sym (ap (λ s. s.table) c.self.view_is)) in
    let size = ap (λ z. z.words) same ∙ c.self.invariant.1 in
    let here : c.seat.inside.inner.me.0.cap ≡ c.self.inside.rows = cap_is _ _ _ c.seat.invariant.1 size in
    let e = c.load-status.ensures in
    let t = e.2.1 c.args.row (status_place _ _ _ c.args.row c.seat.invariant.1 size) in
    let a = voids c.seat.inside.inner.me.0 _ c.args.row _ t c.if-status-eq1.true in
    (a.0 ∙ ap (λ s. knowledge_after_read c.args.row Void s.knows) c.seat.view_is, (λ m is. a.1 m (ap (λ s. map.get s.knows.seen c.args.row) c.seat.view_is ∙ is)), refl)

pub invariant_of-seat-then-len-buffer : goal.invariant_of-seat-then-len-buffer
invariant_of-seat-then-len-buffer c =
    let same : c.seat.inside.inner.table_id ≡ c.self.inside.table.shared.table_id = ap (λ s. s.table) c.seat.view_is ∙ (c.requires ∙ sym (ap (λ s. s.table) c.self.view_is)) in
    let size = ap (λ z. z.words) same ∙ c.self.invariant.1 in
    let here : c.seat.inside.inner.me.0.cap ≡ c.self.inside.rows = cap_is _ _ _ c.seat.invariant.1 size in
    let e = c.load-status.ensures in
    let t = e.2.1 c.args.row (status_place _ _ _ c.args.row c.seat.invariant.1 size) in
    stays _ _ _ _ _ _ c.seat.invariant.0 e.2.0 e.0 refl (peek_stay _ c.seat.inside.inner.me.0 _ c.args.row _ t c.seat.invariant.1 (let lt = c.if-row-self.false in omega arith))

pub returns-then-len-buffer-clause-read : goal.returns-then-len-buffer-clause-read
returns-then-len-buffer-clause-read c =
    let same : c.seat.inside.inner.table_id ≡ c.self.inside.table.shared.table_id = ap (λ s. s.table) c.seat.view_is ∙ (c.requires ∙ sym (ap (λ s. s.table) c.self.view_is)) in
    let size = ap (λ z. z.words) same ∙ c.self.invariant.1 in
    let here : c.seat.inside.inner.me.0.cap ≡ c.self.inside.rows = cap_is _ _ _ c.seat.invariant.1 size in
    let e = c.load-status.ensures in
    let t = e.2.1 c.args.row (status_place _ _ _ c.args.row c.seat.invariant.1 size) in
    let n = noted c.seat.inside.inner.me.0 _ c.args.row _ t c.if-status-eq0.false c.if-status-eq1.false in
    (c.if-len-buffer.true, ap (λ (u : View). u.knows) n ∙ ap (λ s. s.knows) c.seat.view_is, refl, λ m is. small c.seat.inside.inner.me.0 _ c.args.row _ t c.if-status-eq0.false c.if-status-eq1.false m (ap (λ s. map.get s.knows.seen c.args.row) c.seat.view_is ∙ is))

pub loop-place-init : goal.loop-place-init
loop-place-init c =
    let same : c.seat.inside.inner.table_id ≡ c.self.inside.table.shared.table_id = ap (λ s. s.table) c.seat.view_is ∙ (c.requires ∙ sym (ap (λ s. s.table) c.self.view_is)) in
    let size = ap (λ z. z.words) same ∙ c.self.invariant.1 in
    let here : c.seat.inside.inner.me.0.cap ≡ c.self.inside.rows = cap_is _ _ _ c.seat.invariant.1 size in
    let e = c.load-status.ensures in
    let t = e.2.1 c.args.row (status_place _ _ _ c.args.row c.seat.invariant.1 size) in
    let n = noted c.seat.inside.inner.me.0 _ c.args.row _ t c.if-status-eq0.false c.if-status-eq1.false in
    let a = c.if-status-eq0.false in let b = c.if-status-eq1.false in
    (refl, e.2.0 ∙ c.seat.invariant.0, starts c.seat.inside.inner.me.0 c.load-status.new.seat.me.0 _ _ n (omega arith), refl, λ z. absurd (omega arith))

pub invariant_of-seat-in-loop-place : goal.invariant_of-seat-in-loop-place
invariant_of-seat-in-loop-place c =
    let same : c.seat.inside.inner.table_id ≡ c.self.inside.table.shared.table_id = ap (λ s. s.table) c.seat.view_is ∙ (c.requires ∙ sym (ap (λ s. s.table) c.self.view_is)) in
    let size = ap (λ z. z.words) same ∙ c.self.invariant.1 in
    let here : c.seat.inside.inner.me.0.cap ≡ c.self.inside.rows = cap_is _ _ _ c.seat.invariant.1 size in
    let e = c.load-status.ensures in
    let t = e.2.1 c.args.row (status_place _ _ _ c.args.row c.seat.invariant.1 size) in
    let n = noted c.seat.inside.inner.me.0 _ c.args.row _ t c.if-status-eq0.false c.if-status-eq1.false in
    let i = c.loop-place.invariant in
    let cap : c.load-status.new.seat.me.0.cap ≡ c.seat.inside.inner.me.0.cap = ap (λ (u : View). u.cap) n in
    let lt : c.args.row < c.load-status.new.seat.me.0.cap = let l = c.if-row-self.false in omega arith in
    let was = peek_stay _ c.seat.inside.inner.me.0 c.load-status.new.seat.me.0 c.args.row _ t c.seat.invariant.1 (let l = c.if-row-self.false in omega arith) in
    stays [] _ _ _ _ _ refl i.1 (i.0 ∙ e.0) i.2 (read_stay _ c.load-status.new.seat.me.0 _ _ _ was lt)

pub load-requires : goal.load-requires
load-requires c =
    let same : c.seat.inside.inner.table_id ≡ c.self.inside.table.shared.table_id = ap (λ s. s.table) c.seat.view_is ∙ (c.requires ∙ sym (ap (λ s. s.table) c.self.view_is)) in
    let size = ap (λ z. z.words) same ∙ c.self.invariant.1 in
    let here : c.seat.inside.inner.me.0.cap ≡ c.self.inside.rows = cap_is _ _ _ c.seat.invariant.1 size in
    let e = c.load-status.ensures in
    let t = e.2.1 c.args.row (status_place _ _ _ c.args.row c.seat.invariant.1 size) in
    let i = c.loop-place.invariant in
    let last = c.loop-place-test.true in
    let long = c.if-len-buffer.false in
    let size2 = c.loop-place.auto.buffer in
    let fits = t.2 (omega arith) in
    let words = c.self.invariant.1 in
    let k : length (take c.loop-place.place c.loop-place.buffer) ≡ c.loop-place.place = length-take-le c.loop-place.place c.loop-place.buffer (omega arith) in (
      i.0 ∙ (e.0 ∙ same),
      omega arith,
      gathers_at _ _ _ _ _ (record { row = c.args.row; len = c.load-status.result - 1; words = take c.loop-place.place c.loop-place.buffer }) (ap (place_at c.args.row) (sym k)) (ap (λ (u : View). u.note) i.2) (omega arith),
    )

pub loop-place-preserved : goal.loop-place-preserved
loop-place-preserved c =
    let i = c.loop-place.invariant in
    let g = c.load.ensures in
    let last = c.loop-place-test.true in
    let long = c.if-len-buffer.false in
    let size2 = c.loop-place.auto.buffer in
    let on = reads_on c.load-status.new.seat.me.0 c.loop-place.seat-inside.inner.me.0 c.load.new.seat.me.0 c.args.row (c.load-status.result - 1) c.loop-place.place (1 + (5 * c.args.row + c.loop-place.place)) c.load.result c.loop-place.buffer i.2 last (omega arith) refl g.2.1 in
    (g.0 ∙ i.0, g.2.0 ∙ i.1, on.0, drop-set-lt _ _ _ _ last ∙ i.3, on.1)

pub returns-clause-read : goal.returns-clause-read
returns-clause-read c =
    let same : c.seat.inside.inner.table_id ≡ c.self.inside.table.shared.table_id = ap (λ s. s.table) c.seat.view_is ∙ (c.requires ∙ sym (ap (λ s. s.table) c.self.view_is)) in
    let size = ap (λ z. z.words) same ∙ c.self.invariant.1 in
    let here : c.seat.inside.inner.me.0.cap ≡ c.self.inside.rows = cap_is _ _ _ c.seat.invariant.1 size in
    let e = c.load-status.ensures in
    let t = e.2.1 c.args.row (status_place _ _ _ c.args.row c.seat.invariant.1 size) in
    let n = noted c.seat.inside.inner.me.0 _ c.args.row _ t c.if-status-eq0.false c.if-status-eq1.false in
    let i = c.loop-place.invariant in
    let end = c.loop-place-test.false in
    let most = c.loop-place.auto.place-end in
    let long = c.if-len-buffer.false in
    let size2 = c.loop-place.auto.buffer in
    let a = c.if-status-eq0.false in let b = c.if-status-eq1.false in
    let all : c.loop-place.place ≡ c.load-status.result - 1 = omega arith in
    let len : length (take c.loop-place.place c.loop-place.buffer) ≡ c.load-status.result - 1 = length-take-le c.loop-place.place c.loop-place.buffer (omega arith) ∙ all in
    let was : c.load-status.new.seat.me.0.knows ≡ c.args.seat.now.knows = ap (λ (u : View). u.knows) n ∙ ap (λ s. s.knows) c.seat.view_is in (
      omega arith,
      long,
      ap (λ (u : View). u.knows) i.2 ∙ (whole c.load-status.new.seat.me.0 c.args.row (c.load-status.result - 1) (take c.loop-place.place c.loop-place.buffer) len ∙ λ j. knowledge_after_read c.args.row (Words (take (all j) c.loop-place.buffer)) (was j)),
      λ m is. i.4 all m (ap (λ (u : Knowledge). map.get u.seen c.args.row) was ∙ is) ∙ ap (λ k. Words (take k c.loop-place.buffer)) all,
      i.3,
    )
