-- A plan has one run at most: each move leads to one place, for the journal is legal.
use Rattle.std.proofs.Common.{◌≡◌, ℕ, zero, suc, ◌<◌, List, [], ◌∷◌, ◌++◌, ap, sym, ◌∙◌, arith, subst, inl, inr}
use Rattle.std.proofs.lemmas.Bool.{cases_eq, cases_lt}
use Rattle.jh_nemesis.specs.declared.steps.Step.{Step}
use Rattle.jh_nemesis.specs.declared.steps.StepAnswer.{StepAnswer}
use Rattle.jh_simnode.specs.declared.replicas.Reply.{Reply}
use Rattle.jh_simnode.specs.declared.events.Event.{Event}
use Rattle.jh_simnode.specs.Events.{Setup, opening, moment_at, IsDue, IsLegal}
use Rattle.jh_simnode.specs.Histories.{journal_history}
use Rattle.jh_simnode.specs.Plans.{PlanValue}
use Rattle.jh_simnode.specs.Runs.{Turns, Move, Comes, Reaches, HasOneRun, call_event, move_of, setup_of}
use Rattle.jh_simnode.specs.Runs.Move.{Ticks, Applies, Waits, Calls, Ends, Rests}
use Rattle.jh_simnode.proofs.OverlayLemmas.{due_append}

-- an event that is the last of a legal journal is due, and the rest is legal
last_due : (u : Setup) (journal all : List Event) (e : Event) → all ≡ journal ++ e ∷ [] → IsLegal u all → IsLegal u journal × IsDue u (moment_at u journal) e
last_due u journal all e is legal = let h = due_append u (opening u) journal (e ∷ []) (subst (IsLegal u) is legal) in (h.0, h.1.0)

same_step : (u : Setup) (journal a b : List Event) (step : Step) (x y : StepAnswer) → a ≡ journal ++ Event.Step step x ∷ [] → b ≡ journal ++ Event.Step step y ∷ [] → IsLegal u a → IsLegal u b → a ≡ b
same_step u journal a b step x y p q la lb =
    let dx = (last_due u journal a (Event.Step step x) p la).1 in
    let dy = (last_due u journal b (Event.Step step y) q lb).1 in
    p ∙ ap (λ (z : StepAnswer). journal ++ Event.Step step z ∷ []) (dx.1 ∙ sym dy.1) ∙ sym q

same_call : (u : Setup) (p : PlanValue) (r : Turns) (journal a b : List Event) (request : _) (x y : Reply) → a ≡ journal ++ call_event p r journal request x ∷ []
    → b ≡ journal ++ call_event p r journal request y ∷ [] → IsLegal u a → IsLegal u b → a ≡ b
same_call u p r journal a b request x y e f la lb =
    let dx = (last_due u journal a (call_event p r journal request x) e la).1 in
    let dy = (last_due u journal b (call_event p r journal request y) f lb).1 in
    e ∙ ap (λ (z : Reply). journal ++ call_event p r journal request z ∷ []) (dx.1 ∙ sym dy.1) ∙ sym f

-- a move leads to one place alone
comes_once : (p : PlanValue) (u : Setup) (r a b : Turns) (journal ja jb : List Event) (m : Move) → Comes p r journal a ja m → Comes p r journal b jb m → IsLegal u ja → IsLegal u jb → (a ≡ b) × (ja ≡ jb)
comes_once p u r a b journal ja jb Ticks s t la lb = (s.0 ∙ sym t.0, s.1 ∙ sym t.1)
comes_once p u r a b journal ja jb (Applies e) s t la lb = (s.0 ∙ sym t.0, same_step u journal ja jb e.step s.1.0 t.1.0 s.1.1 t.1.1 la lb)
comes_once p u r a b journal ja jb Waits s t la lb = (s.0 ∙ sym t.0, s.1 ∙ sym t.1)
comes_once p u r a b journal ja jb (Calls path request) s t la lb = (s.0 ∙ sym t.0, same_call u p r journal ja jb request s.1.0 t.1.0 s.1.1 t.1.1 la lb)
comes_once p u r a b journal ja jb Ends s t la lb = (s.0 ∙ sym t.0, s.1 ∙ sym t.1)
comes_once p u r a b journal ja jb Rests s t la lb = absurd s

-- the journal before a move is legal if the one after it is
comes_legal : (p : PlanValue) (u : Setup) (r a : Turns) (journal ja : List Event) (m : Move) → Comes p r journal a ja m → IsLegal u ja → IsLegal u journal
comes_legal p u r a journal ja Ticks s l = (last_due u journal ja Event.Tick s.1 l).0
comes_legal p u r a journal ja (Applies e) s l = (last_due u journal ja (Event.Step e.step s.1.0) s.1.1 l).0
comes_legal p u r a journal ja Waits s l = subst (IsLegal u) s.1 l
comes_legal p u r a journal ja (Calls path request) s l = (last_due u journal ja (call_event p r journal request s.1.0) s.1.1 l).0
comes_legal p u r a journal ja Ends s l = subst (IsLegal u) s.1 l
comes_legal p u r a journal ja Rests s l = absurd s

-- so many moves lead to one place alone
reaches_once : (p : PlanValue) (u : Setup) (n : ℕ) (a b : Turns) (ja jb : List Event) → Reaches p n a ja → Reaches p n b jb → IsLegal u ja → IsLegal u jb → (a ≡ b) × (ja ≡ jb)
reaches_once p u zero a b ja jb s t la lb = (s.0 ∙ sym t.0, s.1 ∙ sym t.1)
reaches_once p u (suc n) a b ja jb s t la lb =
    let ra = s.0 in
    let rb = t.0 in
    let ka = s.1.0 in
    let kb = t.1.0 in
    let same = reaches_once p u n ra rb ka kb s.1.1.0 t.1.1.0 (comes_legal p u ra a ka ja (move_of p ra ka) s.1.1.1 la) (comes_legal p u rb b kb jb (move_of p rb kb) t.1.1.1 lb) in
    let From : Turns → List Event → Type 0 = λ r k. Comes p r k b jb (move_of p r k) in
    let there : From ra ka = subst (From ra) (sym same.1) (subst (λ (r : Turns). From r kb) (sym same.0) t.1.1.1) in
    comes_once p u ra a b ka ja jb (move_of p ra ka) s.1.1.1 there la lb

-- a run that is over goes no further
no_further : (p : PlanValue) (u : Setup) (n : ℕ) (a : Turns) (ja : List Event) → Reaches p n a ja → IsLegal u ja → move_of p a ja ≡ Rests
    → (m : ℕ) (b : Turns) (jb : List Event) → Reaches p m b jb → IsLegal u jb → n < m → ⊥
no_further p u n a ja s la over zero b jb t lb below = omega arith
no_further p u n a ja s la over (suc m) b jb t lb below =
    let r = t.0 in
    let k = t.1.0 in
    let lk = comes_legal p u r b k jb (move_of p r k) t.1.1.1 lb in
    elim (cases_eq n m) as (λ x. ⊥) [
      | inl same ↦
          (let first = reaches_once p u m a r ja k (subst (λ (i : ℕ). Reaches p i a ja) same s) t.1.1.0 la lk in
          let here : move_of p r ja ≡ Rests = ap (λ (x : Turns). move_of p x ja) (sym first.0) ∙ over in
          let rests : move_of p r k ≡ Rests = ap (move_of p r) (sym first.1) ∙ here in
          subst (Comes p r k b jb) rests t.1.1.1)
      | inr other ↦ no_further p u n a ja s la over m r k t.1.1.0 lk (omega (arith, other))
    ]

pub only_run : HasOneRun
only_run p ja jb ha hb s t =
    let u = setup_of p in
    let n = s.reached.run.0 in
    let m = t.reached.run.0 in
    elim (cases_lt n m) as (λ x. (ja ≡ jb) × (ha ≡ hb)) [
      | inl below ↦ absurd (no_further p u n s.turns ja s.reached.run.1 s.reached.legal s.over m t.turns jb t.reached.run.1 t.reached.legal below)
      | inr not_below ↦ elim (cases_eq n m) as (λ x. (ja ≡ jb) × (ha ≡ hb)) [
        | inl same ↦
            (let e = (reaches_once p u m s.turns t.turns ja jb (subst (λ (i : ℕ). Reaches p i s.turns ja) same s.reached.run.1) t.reached.run.1 s.reached.legal t.reached.legal).1 in
            (e, s.is_history ∙ ap journal_history e ∙ sym t.is_history))
        | inr other ↦ absurd (no_further p u m t.turns jb t.reached.run.1 t.reached.legal t.over n s.turns ja s.reached.run.1 s.reached.legal (omega (arith, other)))
      ]
    ]
