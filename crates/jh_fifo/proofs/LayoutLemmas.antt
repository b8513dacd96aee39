-- Operations laid end to end.
use Rattle.std.proofs.Common.{◌≡◌, ℕ, zero, suc, ◌+◌, ◌<◌, ◌≤◌, ◌++◌, ◌↔◌, Bool, IsTrue, true, false, Option, Some, None, List, [], ◌∷◌, length, eqb, refl, sym, ap, subst, ◌∙◌, inl, inr, arith}
use Rattle.std.specs.Prelude.{◌⊎◌, MatchOption}
use Rattle.std.specs.List.{All}
use Rattle.std.proofs.lemmas.Bool.{false≢true, or_right, cases_lt}
use Rattle.std.proofs.lemmas.List.Elements.{All-nil, All-cons}
use Rattle.jh_fifo.specs.declared.operations.FifoCall.TheVariants.{Empty}
use Rattle.jh_fifo.specs.declared.operations.FifoOp.{FifoOp}
use Rattle.jh_fifo.specs.declared.spans.Span.{Span}
use Rattle.jh_fifo.specs.Order.{fifo_op_at, no_fifo_op, has_place, QueueAllows, PlaceStandsBefore, IsKnownDone, IsOverBefore, PrecedesOp, LeadsQueue, IsFifoOrder}
use Rattle.jh_fifo.specs.Reasons.{call_at, Enqueues, Dequeues, EnqueuedOnce}
use Rattle.jh_fifo.specs.Times.{never, LastsTo}
use Rattle.jh_fifo.specs.Spans.{span_at}
use Rattle.jh_fifo.specs.Layout.{IsValuePlaced, IsPlaced, CanGoThrough, WaitInQueue, IsLaid}
use Rattle.jh_fifo.proofs.ListLemmas.{none_twice, has_cases, has_left, has_right, has_head, one_is, before_push, once_push, before_total}
use Rattle.jh_fifo.proofs.RunLemmas.{same_enqueue, same_dequeue, not_both_calls, not_enqueue, not_dequeue}
use Rattle.jh_fifo.proofs.LawLemmas.{ends_done}

pub under : (ended : Option ℕ) (at low : ℕ) → LastsTo ended at → low ≤ at → IsOverBefore ended low → ⊥
under None at low lasts le h = h
under (Some end) at low lasts le h = lasts (omega (arith, le, h))

pub some_same : (x y : ℕ) → ◌≡◌ {A = Option ℕ} (Some x) (Some y) → x ≡ y
some_same x y h = cc

pub none_some : (o : Option ℕ) (y : ℕ) → o ≡ None → o ≡ Some y → ⊥
none_some o y h k = cc

pub if_yes : (b : Bool) (P : Type 0) → IsTrue b ↔ P → b ≡ true → P
if_yes b P h e = h.0 e

pub if_no : (b : Bool) (P : Type 0) → IsTrue b ↔ P → b ≡ false → P → ⊥
if_no b P h e p = false≢true (sym e ∙ h.1 p)

pub not_some : (o : Option ℕ) → ((d : ℕ) → o ≡ Some d → ⊥) → o ≡ None
not_some None h = refl
not_some (Some d) h = absurd (h d refl)

pub none_gives : (o : Option ℕ) (P : Type 0) (Q : ℕ → Type 0) → MatchOption o P Q → o ≡ None → P
none_gives None P Q h is = h
none_gives (Some d) P Q h is = absurd (none_some (Some d) d is refl)

-- what is known of a dequeue's place, from what is known by cases
pub goes_with : (o : Option ℕ) (d : ℕ) (P : Type 0) (Q : ℕ → Type 0) → MatchOption o P Q → o ≡ Some d → Q d
goes_with None d P Q h is = absurd (none_some None d refl is)
goes_with (Some e) d P Q h is = subst Q (some_same e d is) h

past : (ops : List FifoOp) (p : ℕ) → length ops ≤ p → fifo_op_at ops p ≡ no_fifo_op
past [] p low = refl
past (op ∷ ops) zero low = absurd (omega (arith, low))
past (op ∷ ops) (suc p) low = past ops p (omega (arith, low))

pub inside_if : (ops : List FifoOp) (p : ℕ) → (fifo_op_at ops p ≡ no_fifo_op → ⊥) → p < length ops
inside_if ops p not = elim (cases_lt p (length ops)) as (λ _. p < length ops) [ inl lt ↦ lt | inr ge ↦ absurd (not (past ops p ge)) ]

pub all_if : (n : ℕ) (xs : List ℕ) → ((x : ℕ) → has_place xs x ≡ true → x < n) → All (λ x. x < n) xs
all_if n [] h = All-nil (λ x. x < n)
all_if n (x ∷ xs) h = All-cons (λ x. x < n) x xs (h x (has_head x xs)) (all_if n xs (λ y k. h y (or_right (eqb x y) _ k)))

module _ (ops : List FifoOp) where
  pub enqueue_inside : (v p : ℕ) → Enqueues ops v p → p < length ops
  enqueue_inside v p is = inside_if ops p (λ e. not_enqueue v (sym is ∙ ap (λ o. o.call) e))

  pub dequeue_inside : (v p : ℕ) → Dequeues ops v p → p < length ops
  dequeue_inside v p is = inside_if ops p (λ e. not_dequeue v (sym is ∙ ap (λ o. o.call) e))

  pub done_inside : (p : ℕ) → IsKnownDone ops p → p < length ops
  done_inside p done = inside_if ops p (λ e. done (ap (λ o. o.ended) e))

  legal_push : (order queue last next : List ℕ) (p : ℕ) → LeadsQueue ops queue order last → QueueAllows (call_at ops p) last next → LeadsQueue ops queue (order ++ p ∷ []) next
  legal_push [] queue last next p legal allows = (next, subst (λ q. QueueAllows (call_at ops p) q next) legal allows, refl)
  legal_push (x ∷ order) queue last next p legal allows = (legal.0, legal.1, legal_push order legal.0 last next p legal.2 allows)

  module _ (spans : List Span) where
    waits_push : (queue : List ℕ) (gone come v : ℕ) → WaitInQueue ops spans queue gone come → Enqueues ops v (span_at spans come).place → WaitInQueue ops spans (queue ++ v ∷ []) gone (come + 1)
    waits_push [] gone come v waits is =
        let is' : Enqueues ops v (span_at spans gone).place = subst (λ n. Enqueues ops v (span_at spans n).place) (sym waits) is in
        (omega (arith, waits), is', ap (λ n. n + 1) waits)
    waits_push (w ∷ queue) gone come v waits is = (omega (arith, waits.0), waits.1, waits_push queue (gone + 1) come v waits.2 is)

    pub waits_le : (queue : List ℕ) (gone come : ℕ) → WaitInQueue ops spans queue gone come → gone ≤ come
    waits_le [] gone come waits = omega (arith, waits)
    waits_le (w ∷ queue) gone come waits = omega (arith, waits.0)

    waits_none : (queue : List ℕ) (gone come : ℕ) → WaitInQueue ops spans queue gone come → gone ≡ come → queue ≡ []
    waits_none [] gone come waits same = refl
    waits_none (w ∷ queue) gone come waits same = absurd (omega (arith, waits.0, same))

    waits_first : (queue : List ℕ) (gone come : ℕ) → WaitInQueue ops spans queue gone come → gone < come → (v : ℕ) × (rest : List ℕ) × (queue ≡ v ∷ rest) × Enqueues ops v (span_at spans gone).place × WaitInQueue ops spans rest (gone + 1) come
    waits_first [] gone come waits low = absurd (omega (arith, waits, low))
    waits_first (v ∷ rest) gone come waits low = (v, rest, refl, waits.1, waits.2)

  -- one more operation at the end
  module _ (order : List ℕ) (p : ℕ) where
    times_push : ((a b : ℕ) → PlaceStandsBefore order a b → PrecedesOp ops b a → ⊥) → ((a : ℕ) → has_place order a ≡ true → PrecedesOp ops p a → ⊥) → (a b : ℕ) → PlaceStandsBefore (order ++ p ∷ []) a b → PrecedesOp ops b a → ⊥
    times_push times new a b h over = elim (before_push order p a b h) as (λ _. ⊥) [
      | inl old ↦ times a b old over
      | inr last ↦ new a last.0 (subst (λ z. PrecedesOp ops z a) (sym last.1) over)
    ]

    has_push : (q : ℕ) → has_place (order ++ p ∷ []) q ≡ true → (has_place order q ≡ true) ⊎ (p ≡ q)
    has_push q h = elim (has_cases order (p ∷ []) q h) as (λ _. (has_place order q ≡ true) ⊎ (p ≡ q)) [ inl old ↦ inl old | inr new ↦ inr (one_is p q new) ]

    push_has : has_place (order ++ p ∷ []) p ≡ true
    push_has = has_right order (p ∷ []) p (has_head p [])

module _ (ops : List FifoOp) (spans : List Span) (once : EnqueuedOnce ops) (turn : CanGoThrough ops spans) where
  abbrev span : ℕ → Span
  span i = span_at spans i

  abbrev At : ℕ → Type 0
  At i = i < length spans

  dequeue_of : (i d : ℕ) → At i → (span i).dequeue ≡ Some d → (v : ℕ) × Enqueues ops v (span i).place × Dequeues ops v d
  dequeue_of i d low is = elim (turn.each i low).kind as (λ _. (v : ℕ) × Enqueues ops v (span i).place × Dequeues ops v d) [
    | inl value ↦ (value.value, value.enqueues, (goes_with (span i).dequeue d _ (λ e. Dequeues ops value.value e × ((span i).leaving < never) × ((fifo_op_at ops e).invoked ≤ (span i).leaving) × LastsTo (fifo_op_at ops e).ended (span i).leaving) value.goes is).0)
    | inr empty ↦ absurd (none_some (span i).dequeue d empty.none is)
  ]

  -- a span's own place is no dequeue
  not_dequeued : (i v d : ℕ) → At i → Dequeues ops v d → (span i).place ≡ d → ⊥
  not_dequeued i v d low is same = elim (turn.each i low).kind as (λ _. ⊥) [
    | inl value ↦ not_both_calls value.value v (sym value.enqueues ∙ ap (call_at ops) same ∙ is)
    | inr empty ↦ not_dequeue v (sym is ∙ sym (ap (call_at ops) same) ∙ empty.empty)
  ]

  dequeue_apart : (i j d : ℕ) → At i → At j → (span i).dequeue ≡ Some d → (span j).dequeue ≡ Some d → i ≡ j
  dequeue_apart i j d low_i low_j is_i is_j =
      let a = dequeue_of i d low_i is_i in
      let b = dequeue_of j d low_j is_j in
      let same : a.0 ≡ b.0 = same_dequeue a.0 b.0 (sym a.2 ∙ b.2) in
      turn.apart i j low_i low_j (once b.0 (span i).place (span j).place (subst (λ v. Enqueues ops v (span i).place) same a.1) b.1)

  pub begin : IsLaid ops spans 0 0 []
  begin = record {
    queue = [];
    runs = refl;
    waits = refl;
    distinct = none_twice;
    each = λ p h. absurd (false≢true h);
    came = λ i low. absurd (omega (arith, low));
    went = λ i d low is. absurd (omega (arith, low));
    times = λ a b h over. h;
    before_come = λ p i h le low. absurd (false≢true h);
    before_gone = λ p i h le low. absurd (false≢true h);
  }

  module _ (gone come : ℕ) (order : List ℕ) (laid : IsLaid ops spans gone come order) where
    le : gone ≤ come
    le = waits_le ops spans laid.queue gone come laid.waits

    -- an operation that comes with the next span
    module _ (low : come < length spans) (early : gone < come → (span come).from < (span gone).leaving) where
      abbrev p : ℕ
      p = (span come).place

      placed : IsPlaced ops (span come)
      placed = turn.each come low

      come_new : has_place order p ≡ true → ⊥
      come_new h =
          let r = laid.each p h in
          elim r.1 as (λ _. ⊥) [
            | inl own ↦ let same : r.0 ≡ come = turn.apart r.0 come (omega (arith, low, own.0)) low own.1 in omega (arith, same, own.0)
            | inr other ↦
                let low' : At r.0 = omega (arith, low, other.0, le) in
                let d = dequeue_of r.0 p low' other.1 in
                not_dequeued come d.0 p low d.2 refl
          ]

      come_times : (a b : ℕ) → PlaceStandsBefore (order ++ p ∷ []) a b → PrecedesOp ops b a → ⊥
      come_times = times_push ops order p laid.times (λ a h. under (fifo_op_at ops p).ended (span come).from (fifo_op_at ops a).invoked placed.lasts (laid.before_come a come h (omega arith) low))

      come_before_come : (q i : ℕ) → has_place (order ++ p ∷ []) q ≡ true → come + 1 ≤ i → At i → (fifo_op_at ops q).invoked ≤ (span i).from
      come_before_come q i h above low_i = elim (has_push ops order p q h) as (λ _. (fifo_op_at ops q).invoked ≤ (span i).from) [
        | inl old ↦ laid.before_come q i old (omega (arith, above)) low_i
        | inr is ↦ subst (λ z. (fifo_op_at ops z).invoked ≤ (span i).from) is (
            let le1 = placed.begins in let le2 = turn.come_in_turn come i (omega (arith, above)) low_i in omega (arith, le1, le2))
      ]

      goes_after : (i : ℕ) → gone ≤ i → At i → (fifo_op_at ops p).invoked ≤ (span i).leaving
      goes_after i above low_i = elim (cases_lt gone come) as (λ _. (fifo_op_at ops p).invoked ≤ (span i).leaving) [
        | inl lt ↦ (let a = placed.begins in let b = early lt in let c = turn.go_in_turn gone i above low_i in omega (arith, a, b, c))
        | inr ge ↦ (let a = placed.begins in let b = placed.turn in let c = turn.go_in_turn come i (omega (arith, above, ge, le)) low_i in omega (arith, a, b, c))
      ]

      come_before_gone : (q i : ℕ) → has_place (order ++ p ∷ []) q ≡ true → gone ≤ i → At i → (fifo_op_at ops q).invoked ≤ (span i).leaving
      come_before_gone q i h above low_i = elim (has_push ops order p q h) as (λ _. (fifo_op_at ops q).invoked ≤ (span i).leaving) [
        | inl old ↦ laid.before_gone q i old above low_i
        | inr is ↦ subst (λ z. (fifo_op_at ops z).invoked ≤ (span i).leaving) is (goes_after i above low_i)
      ]

      come_came : (i : ℕ) → i < come + 1 → has_place (order ++ p ∷ []) (span i).place ≡ true
      come_came i low_i = elim (cases_lt i come) as (λ _. has_place (order ++ p ∷ []) (span i).place ≡ true) [
        | inl lt ↦ has_left order (p ∷ []) (span i).place (laid.came i lt)
        | inr ge ↦ (let same : come ≡ i = omega (arith, low_i, ge) in subst (λ n. has_place (order ++ p ∷ []) (span n).place ≡ true) same (push_has ops order p))
      ]

      come_each : (n q : ℕ) → gone ≤ n → has_place (order ++ p ∷ []) q ≡ true → (i : ℕ) × (((i < come + 1) × ((span i).place ≡ q)) ⊎ ((i < n) × ((span i).dequeue ≡ Some q)))
      come_each n q above h = elim (has_push ops order p q h) as (λ _. (i : ℕ) × (((i < come + 1) × ((span i).place ≡ q)) ⊎ ((i < n) × ((span i).dequeue ≡ Some q)))) [
        | inl old ↦ (let r = laid.each q old in (
          r.0,
          elim r.1 as (λ _. ((r.0 < come + 1) × ((span r.0).place ≡ q)) ⊎ ((r.0 < n) × ((span r.0).dequeue ≡ Some q))) [
            | inl own ↦ inl (omega (arith, own.0), own.1)
            | inr other ↦ inr (omega (arith, other.0, above), other.1)
          ],
        ))
        | inr is ↦ (come, inl (omega arith, is))
      ]

      pub come_value : (call_at ops p ≡ Empty → ⊥) → IsLaid ops spans gone (come + 1) (order ++ p ∷ [])
      come_value not = elim placed.kind as (λ _. IsLaid ops spans gone (come + 1) (order ++ p ∷ [])) [
        | inl value ↦ record {
          queue = laid.queue ++ value.value ∷ [];
          runs = legal_push ops order [] laid.queue (laid.queue ++ value.value ∷ []) p laid.runs (subst (λ c. QueueAllows c laid.queue (laid.queue ++ value.value ∷ [])) (sym value.enqueues) refl);
          waits = waits_push ops spans laid.queue gone come value.value laid.waits value.enqueues;
          distinct = once_push order p laid.distinct come_new;
          each = λ q h. come_each gone q (omega arith) h;
          came = come_came;
          went = λ i d low_i is. has_left order (p ∷ []) d (laid.went i d low_i is);
          times = come_times;
          before_come = come_before_come;
          before_gone = come_before_gone;
        }
        | inr empty ↦ absurd (not empty.empty)
      ]

      pub come_empty : call_at ops p ≡ Empty → IsLaid ops spans (come + 1) (come + 1) (order ++ p ∷ [])
      come_empty is = elim placed.kind as (λ _. IsLaid ops spans (come + 1) (come + 1) (order ++ p ∷ [])) [
        | inl value ↦ absurd (not_enqueue value.value (sym value.enqueues ∙ is))
        | inr empty ↦
            let all_gone : gone ≡ come = elim (cases_lt gone come) as (λ _. gone ≡ come) [
              | inl lt ↦ (let a = early lt in let b = turn.go_in_turn gone come le low in let c = empty.at_once in absurd (omega (arith, a, b, c)))
              | inr ge ↦ omega (arith, ge, le)
            ] in
            let nothing : laid.queue ≡ [] = waits_none ops spans laid.queue gone come laid.waits all_gone in
            record {
              queue = [];
              runs = legal_push ops order [] laid.queue [] p laid.runs (subst (λ c. QueueAllows c laid.queue []) (sym is) (nothing, refl));
              waits = refl;
              distinct = once_push order p laid.distinct come_new;
              each = λ q h. come_each (come + 1) q (omega (arith, le)) h;
              came = come_came;
              went = λ i d low_i is_d. elim (cases_lt i gone) as (λ _. has_place (order ++ p ∷ []) d ≡ true) [
                | inl lt ↦ has_left order (p ∷ []) d (laid.went i d lt is_d)
                | inr ge ↦ (let same : i ≡ come = omega (arith, low_i, ge, all_gone) in absurd (none_some (span come).dequeue d empty.none (subst (λ n. (span n).dequeue ≡ Some d) same is_d)))
              ];
              times = come_times;
              before_come = come_before_come;
              before_gone = λ q i h above low_i. come_before_gone q i h (omega (arith, above, le)) low_i;
            }
      ]

    -- the dequeue of the first value that waits
    module _ (until : ℕ) (bound : come ≤ length spans) (some_time : until < never) (later : (i : ℕ) → come ≤ i → At i → until ≤ (span i).from) (low : gone < come) (due : (span gone).leaving ≤ until) where
      there : At gone
      there = omega (arith, low, bound)

      first : (v : ℕ) × (rest : List ℕ) × (laid.queue ≡ v ∷ rest) × Enqueues ops v (span gone).place × WaitInQueue ops spans rest (gone + 1) come
      first = waits_first ops spans laid.queue gone come laid.waits low

      value_gone : IsValuePlaced ops (span gone)
      value_gone = elim (turn.each gone there).kind as (λ _. IsValuePlaced ops (span gone)) [
        | inl value ↦ value
        | inr empty ↦ absurd (not_enqueue first.0 (sym first.3 ∙ empty.empty))
      ]

      pub goes_some : (span gone).dequeue ≡ None → ⊥
      goes_some none = never_goes (span gone).dequeue none value_gone.goes where
        never_goes : (o : Option ℕ) → o ≡ None → MatchOption o (never ≤ (span gone).leaving) (λ d. Dequeues ops value_gone.value d × ((span gone).leaving < never) × ((fifo_op_at ops d).invoked ≤ (span gone).leaving) × LastsTo (fifo_op_at ops d).ended (span gone).leaving) → ⊥
        never_goes None is h = omega (arith, h, due, some_time)
        never_goes (Some d) is h = none_some (Some d) d is refl

      pub goes_next : (d : ℕ) → (span gone).dequeue ≡ Some d → IsLaid ops spans (gone + 1) come (order ++ d ∷ [])
      goes_next d is =
          let g : Dequeues ops value_gone.value d × ((span gone).leaving < never) × ((fifo_op_at ops d).invoked ≤ (span gone).leaving) × LastsTo (fifo_op_at ops d).ended (span gone).leaving = goes_with (span gone).dequeue d _ _ value_gone.goes is in
          let same : first.0 ≡ value_gone.value = same_enqueue first.0 value_gone.value (sym first.3 ∙ value_gone.enqueues) in
          let takes : Dequeues ops first.0 d = subst (λ v. Dequeues ops v d) (sym same) g.0 in
          record {
            queue = first.1;
            runs = legal_push ops order [] laid.queue first.1 d laid.runs (subst (λ c. QueueAllows c laid.queue first.1) (sym takes) first.2);
            waits = first.4;
            distinct = once_push order d laid.distinct (λ h. let r = laid.each d h in elim r.1 as (λ _. ⊥) [
              | inl own ↦ not_dequeued r.0 first.0 d (omega (arith, own.0, bound)) takes own.1
              | inr other ↦ (let e : r.0 ≡ gone = dequeue_apart r.0 gone d (omega (arith, other.0, low, bound)) there other.1 is in omega (arith, e, other.0))
            ]);
            each = λ q h. elim (has_push ops order d q h) as (λ _. (i : ℕ) × (((i < come) × ((span i).place ≡ q)) ⊎ ((i < gone + 1) × ((span i).dequeue ≡ Some q)))) [
              | inl old ↦ (let r = laid.each q old in (
                r.0,
                elim r.1 as (λ _. ((r.0 < come) × ((span r.0).place ≡ q)) ⊎ ((r.0 < gone + 1) × ((span r.0).dequeue ≡ Some q))) [
                  | inl own ↦ inl own
                  | inr other ↦ inr (omega (arith, other.0), other.1)
                ],
              ))
              | inr e ↦ (gone, inr (omega arith, is ∙ ap (λ z. Some z) e))
            ];
            came = λ i low_i. has_left order (d ∷ []) (span i).place (laid.came i low_i);
            went = λ i e low_i is_e. elim (cases_lt i gone) as (λ _. has_place (order ++ d ∷ []) e ≡ true) [
              | inl lt ↦ has_left order (d ∷ []) e (laid.went i e lt is_e)
              | inr ge ↦ (let here : i ≡ gone = omega (arith, low_i, ge) in
                  let e_is : d ≡ e = some_same d e (sym is ∙ subst (λ n. (span n).dequeue ≡ Some e) here is_e) in
                  subst (λ z. has_place (order ++ d ∷ []) z ≡ true) e_is (push_has ops order d))
            ];
            times = times_push ops order d laid.times (λ a h. under (fifo_op_at ops d).ended (span gone).leaving (fifo_op_at ops a).invoked g.3 (laid.before_gone a gone h (omega arith) there));
            before_come = λ q i h above low_i. elim (has_push ops order d q h) as (λ _. (fifo_op_at ops q).invoked ≤ (span i).from) [
              | inl old ↦ laid.before_come q i old above low_i
              | inr e ↦ subst (λ z. (fifo_op_at ops z).invoked ≤ (span i).from) e (let a = g.2 in let b = later i above low_i in omega (arith, a, due, b))
            ];
            before_gone = λ q i h above low_i. elim (has_push ops order d q h) as (λ _. (fifo_op_at ops q).invoked ≤ (span i).leaving) [
              | inl old ↦ laid.before_gone q i old (omega (arith, above)) low_i
              | inr e ↦ subst (λ z. (fifo_op_at ops z).invoked ≤ (span i).leaving) e (let a = g.2 in let b = turn.go_in_turn gone i (omega (arith, above)) low_i in omega (arith, a, b))
            ];
          }

  -- all is laid
  pub finish : (gone : ℕ) (order : List ℕ) → IsLaid ops spans gone (length spans) order → (gone < length spans → never ≤ (span gone).leaving) → IsFifoOrder ops order
  finish gone order laid stays =
      let n : ℕ = length spans in
      let le : gone ≤ n = waits_le ops spans laid.queue gone n laid.waits in
      let whole : (p : ℕ) → IsKnownDone ops p → has_place order p ≡ true = λ p done.
      let r = turn.whole p done in
      elim r.2 as (λ _. has_place order p ≡ true) [
        | inl own ↦ subst (λ z. has_place order z ≡ true) own (laid.came r.0 r.1)
        | inr other ↦ elim (cases_lt r.0 gone) as (λ _. has_place order p ≡ true) [
          | inl lt ↦ laid.went r.0 p lt other
          | inr ge ↦ absurd (late r.0 p r.1 ge other)
        ]
      ] in
      record {
        last = laid.queue;
        places = all_if (length ops) order (λ p h. let r = laid.each p h in elim r.1 as (λ _. p < length ops) [
          | inl own ↦ subst (λ z. z < length ops) own.1 (own_inside r.0 own.0)
          | inr other ↦ (let d = dequeue_of r.0 p (omega (arith, other.0, le)) other.1 in dequeue_inside ops d.0 p d.2)
        ]);
        distinct = laid.distinct;
        precedence = λ a b over there.
            let a_there : has_place order a ≡ true = whole a (ends_done (fifo_op_at ops a).ended (fifo_op_at ops b).invoked over) in
            elim (before_total order a b a_there there) as (λ _. PlaceStandsBefore order a b) [
              | inl e ↦ absurd (itself le b there (subst (λ z. PrecedesOp ops z b) e over))
              | inr either ↦ elim either as (λ _. PlaceStandsBefore order a b) [
                | inl before ↦ before
                | inr behind ↦ absurd (laid.times b a behind over)
              ]
            ];
        runs = laid.runs;
        whole = whole;
      } where
        late : (i p : ℕ) → At i → gone ≤ i → (span i).dequeue ≡ Some p → ⊥
        late i p low ge is = elim (turn.each i low).kind as (λ _. ⊥) [
          | inl value ↦
              let g = goes_with (span i).dequeue p _ (λ e. Dequeues ops value.value e × ((span i).leaving < never) × ((fifo_op_at ops e).invoked ≤ (span i).leaving) × LastsTo (fifo_op_at ops e).ended (span i).leaving) value.goes is in
              let a = stays (omega (arith, low, ge)) in
              let b = turn.go_in_turn gone i ge low in
              let c = g.1 in
              omega (arith, a, b, c)
          | inr empty ↦ none_some (span i).dequeue p empty.none is
        ]

        own_inside : (i : ℕ) → At i → (span i).place < length ops
        own_inside i low = elim (turn.each i low).kind as (λ _. (span i).place < length ops) [
          | inl value ↦ enqueue_inside ops value.value (span i).place value.enqueues
          | inr empty ↦ done_inside ops (span i).place empty.done
        ]

        itself : gone ≤ length spans → (p : ℕ) → has_place order p ≡ true → PrecedesOp ops p p → ⊥
        itself le p h over =
            let r = laid.each p h in
            elim r.1 as (λ _. ⊥) [
              | inl own ↦
                  let placed = turn.each r.0 own.0 in
                  under (fifo_op_at ops (span r.0).place).ended (span r.0).from (fifo_op_at ops (span r.0).place).invoked placed.lasts placed.begins (subst (λ z. PrecedesOp ops z z) (sym own.1) over)
              | inr other ↦
                  let low : At r.0 = omega (arith, other.0, le) in
                  elim (turn.each r.0 low).kind as (λ _. ⊥) [
                    | inl value ↦
                        let g = goes_with (span r.0).dequeue p _ (λ e. Dequeues ops value.value e × ((span r.0).leaving < never) × ((fifo_op_at ops e).invoked ≤ (span r.0).leaving) × LastsTo (fifo_op_at ops e).ended (span r.0).leaving) value.goes other.1 in
                        under (fifo_op_at ops p).ended (span r.0).leaving (fifo_op_at ops p).invoked g.3 g.2 over
                    | inr empty ↦ none_some (span r.0).dequeue p empty.none other.1
                  ]
            ]
