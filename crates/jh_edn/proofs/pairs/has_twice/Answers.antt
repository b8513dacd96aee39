use Rattle.std.proofs.Common.{◌≡◌, true, false, [], ◌∷◌, ◌++◌, take, get_or, refl, sym, ap, ◌∙◌, arith, rules}
use Rattle.std.specs.Ordering.{is_eq}
use Rattle.std.proofs.lemmas.Grind.{common_steps}
use Rattle.jh_edn.specs.Key.{key_parts, keys_in, is_in}
use Rattle.jh_edn.proofs.KeyOrderLemmas.{held_cmp_is}
use Rattle.jh_edn.proofs.RepeatedKeyLemmas.{is_in-push, taken, is_old, is_new, cond_then}
use Rattle.jh_edn.proofs.pairs.has_twice.Goals as goal

pub loop-key-init : goal.loop-key-init
loop-key-init c = record { rest = refl; seen = λ q. search rules }

pub returns-then-not-branch : goal.returns-then-not-branch
returns-then-not-branch c =
    let l = c.loop-key in
    let ks = c.args.keys.now in
    let k = c.key-item.result in
    let found : is_in (key_parts c.as_slice.result.now) (keys_in (take l.key-index ks)) ≡ true = sym (l.invariant.seen c.as_slice.result) ∙ (let h = c.in_ok-insert.ensures.added in let f = c.if-not-branch.true in grind (arith, common_steps)) in
    let old : is_in (key_parts (get_or ks l.key-index k).items) (keys_in (take l.key-index ks)) ≡ true = rw (← c.key-item.is, ← c.as_slice.ensures.value) found in
    sym (is_old ks l.key-index k (omega arith) old) ∙ l.invariant.rest

pub loop-key-preserved : goal.loop-key-preserved
loop-key-preserved c =
    let l = c.loop-key in
    let ks = c.args.keys.now in
    let k = c.key-item.result in
    let found : is_in (key_parts c.as_slice.result.now) (keys_in (take l.key-index ks)) ≡ false = sym (l.invariant.seen c.as_slice.result) ∙ (let h = c.in_ok-insert.ensures.added in let f = c.if-not-branch.false in grind (arith, common_steps)) in
    let new : is_in (key_parts (get_or ks l.key-index k).items) (keys_in (take l.key-index ks)) ≡ false = rw (← c.key-item.is, ← c.as_slice.ensures.value) found in
    record {
      rest = sym (is_new ks l.key-index k (omega arith) new) ∙ l.invariant.rest;
      seen = λ q.
          c.in_ok-insert.ensures.updates.0 q
          ∙ cond_then _ _ _ _ (ap is_eq (held_cmp_is c.as_slice.result.now q.now)) (l.invariant.seen q)
          ∙ sym (is_in-push (key_parts q.now) (keys_in (take l.key-index ks)) (key_parts c.as_slice.result.now))
          ∙ ap (is_in (key_parts q.now)) (ap (λ w. keys_in (take l.key-index ks) ++ w ∷ []) (ap key_parts (c.as_slice.ensures.value ∙ ap (λ v. v.items) c.key-item.is)) ∙ sym (taken ks l.key-index k (omega arith)));
    }
