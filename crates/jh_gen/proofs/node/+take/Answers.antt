use Rattle.std.proofs.Common.{◌≡◌, refl, sym, ap, ◌∙◌, ◌<◌, ◌≤◌, ◌⊎◌, inl, inr, true, false, [], arith, rules, length}
use Rattle.std.specs.Prelude.{Some, is_some}
use Rattle.jh_gen.specs.declared.node.Lots.TheDeep.{deep-Node}
use Rattle.jh_gen.specs.NodeView.{node_state}
use Rattle.jh_gen.specs.Scope.{has_busy_thread}
use Rattle.jh_gen.specs.State.{in_turn, mixed, split, taking, taken_call, rest_of, states_from, lots_from, row_size}
use Rattle.jh_gen.specs.Turns.{question, first_open_place, is_done_at, turn_at, first_turn, lot_turn, lot_at}
use Rattle.jh_gen.proofs.RowLemmas.{Asks, none_call, some_call, member_falls, turn_waits, turn_none, turn_gives, set_kept, past_end, lots_past_end, none_any, in_turn_call, in_turn_rest, mixed_call, mixed_rest, split_call, split_rest, lot_call, lot_left, done_at, among_gives, among_passes, no_call, row_length, lots_length}
use Rattle.jh_gen.proofs.node.+take.Goals as goal
use Rattle.jh_gen.proofs.node.+take.Goals.{Row::take_at-else-not-member-via-then-not-member+else-is_any_busy, Row::take_at-else-not-member-via-else-not-member, Row::take_among-then-not-is_done+else-is_some, Row::take_among-else-not-is_done}

pub Row::take_at-take-requires : goal.Row::take_at-take-requires
Row::take_at-take-requires t c =
    let a : Asks c.args.awaited.now c.self.inside.members.items c.args.self.now c.args.at c.index_mut-member.result.now (question c.args.asked) =
    record { view_is = c.self.view_is; within_row = c.requires; is_at = c.index_mut-member.ensures.value } in
    let smaller : deep-Node c.index_mut-member.result.now.node < row_size c.args.self.now = member_falls _ _ _ _ _ _ a in
    search rules

pub Row::take_at-returns-then-is_any_busy : goal.Row::take_at-returns-then-is_any_busy
Row::take_at-returns-then-is_any_busy t c =
    let m = c.index_mut-member.result.now in
    let q = question c.args.asked in
    let a : Asks c.args.awaited.now c.self.inside.members.items c.args.self.now c.args.at m q =
    record { view_is = c.self.view_is; within_row = c.requires; is_at = c.index_mut-member.ensures.value } in
    record {
      call = sym (ap taken_call (turn_waits _ _ _ _ _ _ a (search rules) (search rules)));
      rest = set_kept c.self.inside.members.items c.args.at m m.node c.index_mut-member.ensures.value refl
          ∙ c.self.view_is
          ∙ sym (ap (rest_of c.args.self.now) (turn_waits _ _ _ _ _ _ a (search rules) (search rules)));
    }

pub Row::take_at-returns-in_err-call : goal.Row::take_at-returns-in_err-call
Row::take_at-returns-in_err-call t c =
    let m = c.index_mut-member.result.now in
    let q = question c.args.asked in
    let a : Asks c.args.awaited.now c.self.inside.members.items c.args.self.now c.args.at m q =
    record { view_is = c.self.view_is; within_row = c.requires; is_at = c.index_mut-member.ensures.value } in
    let none = none_call (taking (node_state m.node) q) (sym c.in_err-call.was ∙ c.take.ensures.call) in
    record {
      call = c.from_residual.ensures ∙ sym (ap taken_call (turn_none _ _ _ _ _ _ a none));
      rest = set_kept c.self.inside.members.items c.args.at m c.take.new.self c.index_mut-member.ensures.value (c.take.ensures.rest ∙ ap (rest_of (node_state m.node)) none)
          ∙ c.self.view_is
          ∙ sym (ap (rest_of c.args.self.now) (turn_none _ _ _ _ _ _ a none));
    }

pub Row::take_at-returns : goal.Row::take_at-returns
Row::take_at-returns t c =
    let m = c.index_mut-member.result.now in
    let q = question c.args.asked in
    let a : Asks c.args.awaited.now c.self.inside.members.items c.args.self.now c.args.at m q =
    record { view_is = c.self.view_is; within_row = c.requires; is_at = c.index_mut-member.ensures.value } in
    let free : (m.started ≡ true) ⊎ (has_busy_thread q.busy c.args.awaited.now ≡ false) = elim c.else-not-member.branch [
      | Row::take_at-else-not-member-via-then-not-member+else-is_any_busy w ↦ inr (search rules)
      | Row::take_at-else-not-member-via-else-not-member w ↦ inl (search rules)
    ] in
    let gives = some_call (taking (node_state m.node) q) c.in_ok-call.call (node_state m.node) (sym c.in_ok-call.was ∙ c.take.ensures.call) ∙ ap (λ s. Some (c.in_ok-call.call, s)) (sym c.take.ensures.rest) in
    record {
      call = sym (ap taken_call (turn_gives _ _ _ _ _ _ a free c.in_ok-call.call c.take.new.self gives));
      rest = sym (ap (rest_of c.args.self.now) (turn_gives _ _ _ _ _ _ a free c.in_ok-call.call c.take.new.self gives));
    }

pub Row::take_first-returns-else-at-len : goal.Row::take_first-returns-else-at-len
Row::take_first-returns-else-at-len t c =
    let same = row_length c.self.inside.members.items c.args.self.now c.self.view_is in
    let over : length c.args.self.now ≤ first_open_place c.args.self.now = omega (arith, c.first_open_place-at.ensures, c.len.ensures, same) in
    let none = past_end c.args.awaited.now c.args.self.now (first_open_place c.args.self.now) (question c.args.asked) over in
    record {
      call = sym (ap taken_call none);
      rest = sym (ap (rest_of c.args.self.now) none);
    }

pub Row::take_any-returns-then-open-eq0 : goal.Row::take_any-returns-then-open-eq0
Row::take_any-returns-then-open-eq0 t c =
    record {
      call = sym (ap taken_call (none_any c.args.self.now (question c.args.asked) (sym c.open_len-open.ensures ∙ c.if-open-eq0.true)));
      rest = sym (ap (rest_of c.args.self.now) (none_any c.args.self.now (question c.args.asked) (sym c.open_len-open.ensures ∙ c.if-open-eq0.true)));
    }

pub Row::take_among-returns-then-is_some : goal.Row::take_among-returns-then-is_some
Row::take_among-returns-then-is_some t c =
    let ms = c.args.self.now in
    let q = question c.args.asked in
    let k = c.loop-at.at in
    let same : c.loop-at.self ≡ ms = c.loop-at.invariant.same in
    let lens : length c.loop-at.self ≡ length ms = ap length same in
    let in_row : k < length c.loop-at.self = omega arith in
    let at = done_at c.self.inside.members.items c.loop-at.self k c.index.result.now c.self.view_is in_row (search rules) in
    let unspent : is_done_at ms k ≡ false = sym (ap (λ r. is_done_at r k) same) ∙ at ∙ sym c.if-not-is_done.ensures in
    let e : c.take_at-call.result ≡ taken_call (turn_at [] ms k q) = c.take_at-call.ensures.call ∙ ap (λ r. taken_call (turn_at [] r k q)) same in
    let some : is_some (taken_call (turn_at [] ms k q)) ≡ true = sym (ap is_some e) ∙ sym c.is_some.ensures ∙ c.if-is_some.true in
    let gives = among_gives ms q k c.args.to _ (omega arith) c.loop-at.invariant.turn unspent some in
    record {
      call = e ∙ ap taken_call gives;
      rest = c.take_at-call.ensures.rest ∙ ap (λ r. rest_of r (turn_at [] r k q)) same ∙ ap (rest_of ms) gives;
    }

pub Row::take_among-loop-at-preserved : goal.Row::take_among-loop-at-preserved
Row::take_among-loop-at-preserved t c =
    let ms = c.args.self.now in
    let q = question c.args.asked in
    let k = c.loop-at.at in
    let same : c.loop-at.self ≡ ms = c.loop-at.invariant.same in
    let lens : length c.loop-at.self ≡ length ms = ap length same in
    let in_row : k < length c.loop-at.self = omega arith in
    let at = done_at c.self.inside.members.items c.loop-at.self k c.index.result.now c.self.view_is in_row (search rules) in
    let lt : k < c.args.to = omega arith in
    elim c.if-not-is_done.branch [
      | Row::take_among-then-not-is_done+else-is_some w ↦
          let e : w.take_at-call.result ≡ taken_call (turn_at [] ms k q) = w.take_at-call.ensures.call ∙ ap (λ r. taken_call (turn_at [] r k q)) same in
          let none = no_call (turn_at [] ms k q) (sym (ap is_some e) ∙ sym w.is_some.ensures ∙ w.if-is_some.false) in
          record {
            same = w.self-is ∙ w.take_at-call.ensures.rest ∙ ap (λ r. rest_of r (turn_at [] r k q)) same ∙ ap (rest_of ms) none;
            turn = among_passes ms q k c.args.to _ lt c.loop-at.invariant.turn (inr none);
          }
      | Row::take_among-else-not-is_done w ↦
          record {
            same = w.self-is ∙ same;
            turn = among_passes ms q k c.args.to _ lt c.loop-at.invariant.turn (inl (sym (ap (λ r. is_done_at r k) same) ∙ at ∙ sym c.is_done.ensures ∙ w.if-not-is_done.false));
          }
    ]

pub Lots::take-returns-then-at-len : goal.Lots::take-returns-then-at-len
Lots::take-returns-then-at-len t c =
    let ls = c.args.self.now in
    let q = question c.args.asked in
    let k = c.lot_at-at.result in
    let same = lots_length c.self.inside.items.items ls c.self.view_is in
    let in_lots : k < length ls = omega (arith, c.len.ensures, same) in
    record {
      call = c.take.ensures.call
          ∙ sym (lot_call c.self.inside.items.items ls k c.index_mut.result.now q c.self.view_is in_lots c.index_mut.ensures.value)
          ∙ ap (λ j. taken_call (lot_turn ls j q)) c.lot_at-at.ensures;
      rest = lot_left c.self.inside.items.items ls k c.index_mut.result.now c.take.new.self q c.self.view_is in_lots c.index_mut.ensures.value c.take.ensures.rest
          ∙ ap (λ j. rest_of ls (lot_turn ls j q)) c.lot_at-at.ensures;
    }

pub Lots::take-returns-else-at-len : goal.Lots::take-returns-else-at-len
Lots::take-returns-else-at-len t c =
    let same = lots_length c.self.inside.items.items c.args.self.now c.self.view_is in
    let over : length c.args.self.now ≤ lot_at c.args.self.now c.args.asked.asker = omega (arith, c.lot_at-at.ensures, c.len.ensures, same) in
    record {
      call = sym (ap taken_call (lots_past_end c.args.self.now _ (question c.args.asked) over));
      rest = sym (ap (rest_of c.args.self.now) (lots_past_end c.args.self.now _ (question c.args.asked) over));
    }

pub Node::take-returns-in-InTurn : goal.Node::take-returns-in-InTurn
Node::take-returns-in-InTurn t c =
    let q = question c.args.asked in
    let row : c.take_first.new.self ≡ rest_of c.in-InTurn.row (first_turn c.in-InTurn.awaited.items c.in-InTurn.row q) = search rules in
    let call : c.take_first.result ≡ taken_call (first_turn c.in-InTurn.awaited.items c.in-InTurn.row q) = search rules in
    record {
      call = call ∙ in_turn_call c.in-InTurn.awaited.items c.in-InTurn.row q ∙ ap (λ n. taken_call (taking (node_state n) q)) (sym c.in-InTurn.is);
      rest = ap (λ ms. in_turn c.in-InTurn.awaited.items (states_from ms)) row
          ∙ in_turn_rest c.in-InTurn.awaited.items c.in-InTurn.row q
          ∙ ap (λ n. rest_of (node_state n) (taking (node_state n) q)) (sym c.in-InTurn.is);
    }

pub Node::take-returns-in-Mixed : goal.Node::take-returns-in-Mixed
Node::take-returns-in-Mixed t c =
    let q = question c.args.asked in
    record {
      call = c.take_any.ensures.call ∙ mixed_call c.in-Mixed.row q ∙ ap (λ n. taken_call (taking (node_state n) q)) (sym c.in-Mixed.is);
      rest = ap (λ ms. mixed (states_from ms)) c.take_any.ensures.rest ∙ mixed_rest c.in-Mixed.row q
          ∙ ap (λ n. rest_of (node_state n) (taking (node_state n) q)) (sym c.in-Mixed.is);
    }

pub Node::take-returns-in-Split : goal.Node::take-returns-in-Split
Node::take-returns-in-Split t c =
    let q = question c.args.asked in
    record {
      call = c.take-in-Split.ensures.call ∙ split_call c.in-Split.lots q ∙ ap (λ n. taken_call (taking (node_state n) q)) (sym c.in-Split.is);
      rest = ap (λ ls. split (lots_from ls)) c.take-in-Split.ensures.rest ∙ split_rest c.in-Split.lots q
          ∙ ap (λ n. rest_of (node_state n) (taking (node_state n) q)) (sym c.in-Split.is);
    }
