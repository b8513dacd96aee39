-- A search that goes on: by one move and a walk, then by all of them.
use Rattle.std.proofs.Common.{◌≡◌, ℕ, ◌+◌, ◌-◌, ◌<◌, ◌≤◌, true, false, Some, List, [], ◌∷◌, ◌++◌, length, get_or, slice_get, take, refl, sym, ap, subst, ◌∙◌, inl, inr, arith}
use Rattle.std.specs.Prelude.{Result, Ok, Err, IfOk, if◌then◌else◌}
use Rattle.std.proofs.lemmas.Bool.{cases_lt}
use Rattle.std.proofs.lemmas.List.{length-append}
use Rattle.std.proofs.lemmas.Option.{get_or_from_slice_get}
use Rattle.jh_linear.specs.declared.sorted_ops.Problem.{Problem}
use Rattle.jh_linear.specs.declared.config.Config.{Config}
use Rattle.jh_linear.specs.declared.moves.Move.{Move}
use Rattle.jh_linear.specs.declared.moves.Source.{Source}
use Rattle.jh_linear.specs.declared.moves.Source.TheVariants.{Happened, NextOfClass}
use Rattle.jh_linear.specs.declared.search.Added.TheVariants.{Known, New}
use Rattle.jh_linear.specs.declared.search.Furthest.{Furthest}
use Rattle.jh_linear.specs.declared.search.Search.{Search}
use Rattle.jh_linear.specs.declared.queue.RankedConfig.{RankedConfig}
use Rattle.jh_linear.specs.declared.verdict.Step.{Step}
use Rattle.jh_linear.specs.declared.judge.ExpansionEnd.{ExpansionEnd}
use Rattle.jh_linear.specs.declared.judge.ExpansionEnd.TheVariants.{More, Complete as Whole, Full as NoRoom}
use Rattle.jh_linear.specs.declared.walk.WalkEnd.TheVariants.{Several, Stuck, Complete}
use Rattle.jh_linear.specs.Order.{Allows, has, op_at}
use Rattle.jh_linear.specs.Reached.{order_at}
use Rattle.jh_linear.specs.SearchInside.{Adds, AreMoves, AreSame, AreTried, CanReach, EachIsMove, EndsAs, ComesOfEntering, Grows, GrowsTo, HasGone, IsSearchSoFar, IsFurthest, IsGoneOn, IsMadeBy, IsMove, IsMoved, IsProblem, CanBePlaced, IsWholeOrder, LeadsOn, Notes, LeadsTo, ComesOfExpansion, ComesOfMove, SearchLists, WasReached, WereTried, search_lists, source_call, class_at, end_at, invocation_at, next_at, source_number, stage_number, stages_in, unknown_number}
use Rattle.jh_linear.proofs.GrowthLemmas.{below, grows_far, grows_none, grows_order, grows_push, grows_trans, known_leads, leads_more, new_leads, stands_copy}
use Rattle.jh_linear.specs.WaitingInside.{IsWith, awaits, expansions_left}
use Rattle.jh_linear.proofs.LeadLemmas.{one_leads}
use Rattle.jh_linear.proofs.MoveLemmas.{get_taken}
use Rattle.jh_linear.proofs.WaitingLemmas.{awaits_is, awaits_only, only_at, some_expansion, expansions_is, expansions_only}
use Rattle.std.proofs.lemmas.Bool.{false≢true}

pub if_ok : {X E : Type 0} {P Q : X → Type 0} (r : Result X E) → ((x : X) → P x → Q x) → IfOk r P → IfOk r Q
if_ok (Ok x) f h = f x h
if_ok (Err e) f h = h

-- ---- copies

pub number_same : (problem : Problem) (a b : Config) → AreSame a b → (source : Source) → source_number problem a source ≡ source_number problem b source
number_same problem a b same (Happened i) = ap (λ xs. get_or xs i 0) same.1
number_same problem a b same (NextOfClass k) = ap (λ ns. unknown_number problem.sorted.unsure_changes.items (next_at ns k)) same.2

there_same : (problem : Problem) (a b : Config) → AreSame a b → (source : Source) → CanBePlaced problem a source → CanBePlaced problem b source
there_same problem a b same (Happened i) h = subst (λ xs. i < length xs) same.1 h
there_same problem a b same (NextOfClass k) h = (
  (h.0.0, subst (λ ns. next_at ns k < (class_at problem.sorted.classes.items k).upto) same.2 h.0.1),
  subst (λ s. invocation_at problem.ops.now (source_number problem b (NextOfClass k)) ≤ end_at problem.ops.now (stage_number problem s)) same.0
      (subst (λ p. invocation_at problem.ops.now p ≤ end_at problem.ops.now (stage_number problem a.stage)) (number_same problem a b same (NextOfClass k)) h.1),
)

pub move_same : (problem : Problem) (a b : Config) → AreSame a b → (move : Move) → IsMove problem a move → IsMove problem b move
move_same problem a b same move h = (
  there_same problem a b same move.source h.0,
  subst (λ v. Allows (source_call problem b move.source) v move.value) same.3
      (subst (λ p. Allows (op_at problem.ops.now p).call a.value move.value) (number_same problem a b same move.source) h.1),
)

-- ---- what is kept where lists are the same

lists_same : (a b : SearchLists) → a.configs ≡ b.configs → a.steps ≡ b.steps → a.waiting ≡ b.waiting → a.furthest ≡ b.furthest → a ≡ b
lists_same a b p q r s = ap (λ x. record a { configs = x }) p ∙ ap (λ x. record a { configs = b.configs; steps = x }) q ∙ ap (λ x. record b { waiting = x; furthest = a.furthest }) r ∙ ap (λ x. record b { furthest = x }) s

module _ (problem : Problem) where
  grows_is : (old new new' : SearchLists) → new'.configs ≡ new.configs → new'.steps ≡ new.steps → new'.waiting ≡ new.waiting → new'.furthest ≡ new.furthest → Grows problem old new → Grows problem old new'
  grows_is old new new' p q r s h = subst (Grows problem old) (sym (lists_same new' new p q r s)) h

  leads_is : (a a' : List Config) (b b' : List Step) (size n : ℕ) → a' ≡ a → b' ≡ b → LeadsOn problem a b size n → LeadsOn problem a' b' size n
  leads_is a a' b b' size n p q h = subst (λ x. LeadsOn problem x b' size n) (sym p) (subst (λ x. LeadsOn problem a x size n) (sym q) h)

longer_with : (a b : List ℕ) → 0 < length b → length a < length (a ++ b)
longer_with a b some = omega (arith, some, length-append a b)

-- ---- entering a configuration

module _ (problem : Problem) (stood : IsProblem problem) (old new : Search) (begun : IsSearchSoFar problem old) (at : ℕ) (low : at < length old.steps.items) (placed : List ℕ) (some : 0 < length placed)
    (config : Config) (stands : LeadsTo problem (order_at old.steps.items at ++ placed) config) where
  pub entered_known : Adds old new problem.budget at placed config Known → ComesOfEntering problem old new at placed config More
  entered_known e =
      let cs = old.configs.keys in
      let ss = old.steps.items in
      let order : List ℕ = order_at ss at in (
        grows_is problem (search_lists old) (search_lists old) (search_lists new) e.0 e.1 e.2 e.3 (grows_none problem stood (search_lists old) begun.known begun.far begun.few),
        e.3,
        λ n reach. leads_is problem cs new.configs.keys ss new.steps.items (length order) n e.0 e.1
            (known_leads problem stood cs ss begun.known config e.4.1 e.4.0 (length order) n (order ++ placed) stands e.4.2 e.4.3 (longer_with order placed some) reach),
      )

  pub entered_new : config.stage < stages_in problem → config.stage ≤ old.furthest.stage → Adds old new problem.budget at placed config New → ComesOfEntering problem old new at placed config More
  entered_new open'' near e =
      let cs = old.configs.keys in
      let ss = old.steps.items in
      let order : List ℕ = order_at ss at in
      let step : Step = record { parent = at; placed = placed } in (
        grows_is problem (search_lists old) (record { configs = cs ++ config ∷ []; steps = ss ++ step ∷ []; waiting = new.waiting; furthest = old.furthest }) (search_lists new) e.0 e.1 refl e.3
            (grows_push problem stood (search_lists old) new.waiting config step e.2.0 begun.known begun.far begun.few e.5 low stands open'' near e.4 e.2.1 (ap (λ b. if b then 1 else 2) e.2.2) e.2.3),
        e.3,
        λ n reach. leads_is problem (cs ++ config ∷ []) new.configs.keys (ss ++ step ∷ []) new.steps.items (length order) n e.0 e.1
            (new_leads problem stood cs ss begun.known config step (length order) n (longer_with order placed some) reach),
      )

-- ---- noting how far a configuration came

pub noted : (problem : Problem) (stood : IsProblem problem) (old new : Search) (at : ℕ) (placed : List ℕ) (config : Config) → IsSearchSoFar problem old → at < length old.steps.items → LeadsTo problem (order_at old.steps.items at ++ placed) config → config.stage < stages_in problem
    → Notes old new at placed config.stage → GrowsTo problem old new × (config.stage ≤ new.furthest.stage)
noted problem stood old new at placed config begun low stands open'' notes =
    elim notes.furthest as (λ _. GrowsTo problem old new × (config.stage ≤ new.furthest.stage)) [
      | inl same ↦ (
        grows_is problem (search_lists old) (search_lists old) (search_lists new) notes.configs notes.steps notes.waiting same.1 (grows_none problem stood (search_lists old) begun.known begun.far begun.few),
        subst (λ (f : Furthest). config.stage ≤ f.stage) (sym same.1) same.0,
      )
      | inr more ↦
          let here : Furthest = record { stage = config.stage; step = record { parent = at; placed = placed } } in
          let far : IsFurthest problem old.configs.keys old.steps.items here = record {
            named = low;
            open' = open'';
            value = config.value;
            follows = stands.follows;
            passed = stands.known.passed;
            most = λ i c is. omega (arith, begun.far.most i c is, more.0);
          } in (
            grows_is problem (search_lists old) (record (search_lists old) { furthest = here }) (search_lists new) notes.configs notes.steps notes.waiting more.1 (grows_far problem stood (search_lists old) here begun.known far begun.few (omega (arith, more.0))),
            subst (λ (f : Furthest). config.stage ≤ f.stage) (sym more.1) (omega arith),
          )
    ]

-- ---- one move, and a walk

module _ (problem : Problem) (stood : IsProblem problem) (old : Search) (begun : IsSearchSoFar problem old) (at : ℕ) (config : Config) (was : WasReached old at config)
    (copy : Config) (same : AreSame config copy) (next_move : Move) (made : Config) (first : List ℕ) (makes : IsMadeBy problem copy [] next_move made first) (next : Config) (placed : List ℕ) (gone : HasGone problem made first next placed) where
  abbrev order : List ℕ
  order = order_at old.steps.items at

  pub at_low : at < length old.steps.items
  at_low = below problem stood old.configs.keys old.steps.items begun.known at was.0 was.1

  pub stands_here : LeadsTo problem order copy
  stands_here = stands_copy problem order config copy same (stands_copy problem order was.0 config was.2 (begun.known.stands at was.0 was.1))

  place_is : source_number problem config next_move.source ≡ source_number problem copy next_move.source
  place_is = number_same problem config copy same next_move.source

  stands_made : LeadsTo problem (order ++ first) made
  stands_made = subst (λ o. LeadsTo problem (order ++ o) made) (sym makes.placed_is) (makes.after.stands order stands_here)

  pub stands_next : LeadsTo problem (order ++ placed) next
  stands_next = gone.stands order stands_made

  pub some_placed : 0 < length placed
  some_placed = omega (arith, gone.longer, ap length makes.placed_is)

  pub reach_next : (n : ℕ) → next.stage < n → n ≤ stages_in problem → CanReach problem n (order ++ source_number problem config next_move.source ∷ []) next_move.value → CanReach problem n (order ++ placed) next.value
  reach_next n past few reach =
      let here : CanReach problem n (order ++ first) next_move.value = subst (λ o. CanReach problem n (order ++ o) next_move.value) (sym makes.placed_is) (subst (λ p. CanReach problem n (order ++ p ∷ []) next_move.value) place_is reach) in
      gone.carries order stands_made n past few (subst (λ v. CanReach problem n (order ++ first) v) (sym makes.after.value_is) here)

  pub whole : EndsAs problem next placed Complete → IsWholeOrder problem (order ++ placed)
  whole end = (
    (next.value, stands_next.follows),
    λ q done. let r = stood.done.each_done q done in subst (λ p. has (order ++ placed) p ≡ true) r.2 (stands_next.known.passed r.0 (omega (arith, r.1, end))),
  )

  pub tried_stuck : (new : Search) → EndsAs problem next placed Stuck → Notes old new at placed next.stage → ComesOfMove problem old new at config next_move More
  tried_stuck new ends notes =
      let n = noted problem stood old new at placed next begun at_low stands_next ends.0 notes in
      (n.0, λ stages past few reach. absurd (ends.1 order stands_next stages (omega (arith, n.1, past)) few (reach_next stages (omega (arith, n.1, past)) few reach)))

  pub begun_mid : (mid : Search) → EndsAs problem next placed Several → Notes old mid at placed next.stage → IsSearchSoFar problem mid × (next.stage ≤ mid.furthest.stage)
  begun_mid mid ends notes =
      let n = noted problem stood old mid at placed next begun at_low stands_next ends notes in
      (record { known = n.0.known; far = n.0.far; few = n.0.few }, n.1)

  pub tried_several : (mid new : Search) → EndsAs problem next placed Several → Notes old mid at placed next.stage → ComesOfEntering problem mid new at placed next More → ComesOfMove problem old new at config next_move More
  tried_several mid new ends notes entered =
      let n = noted problem stood old mid at placed next begun at_low stands_next ends notes in (
        grows_trans problem stood (search_lists old) (search_lists mid) (search_lists new) n.0 entered.0,
        λ stages past few reach.
            let beyond : next.stage < stages = omega (arith, n.1, ap (λ (f : Furthest). f.stage) entered.1, past) in
            let there = reach_next stages beyond few reach in
            subst (λ (ss : List Step). LeadsOn problem new.configs.keys new.steps.items (length (order_at ss at)) stages) notes.steps
            (entered.2 stages (subst (λ (ss : List Step). CanReach problem stages (order_at ss at ++ placed) next.value) (sym notes.steps) there)),
      )

  pub tried_entered : (mid new : Search) → EndsAs problem next placed Several → Notes old mid at placed next.stage → (end : ExpansionEnd) → ComesOfEntering problem mid new at placed next end → ComesOfMove problem old new at config next_move end
  tried_entered mid new ends notes More entered = tried_several mid new ends notes entered
  tried_entered mid new ends notes (Whole numbers) entered = absurd entered
  tried_entered mid new ends notes NoRoom entered = entered

-- ---- all moves

-- what led on past the furthest stage still does
moved_more : (problem : Problem) (stood : IsProblem problem) (old mid new : Search) (at : ℕ) (config : Config) (move : Move) → IsSearchSoFar problem mid → GrowsTo problem mid new → IsMoved problem old mid at config move → IsMoved problem old new at config move
moved_more problem stood old mid new at config move begun on moved stages past few reach =
    leads_more problem stood (search_lists mid) (search_lists new) (length (order_at old.steps.items at)) stages begun.known on
    (moved stages (omega (arith, on.further, past)) few reach)

pub tried_more : (problem : Problem) (stood : IsProblem problem) (old mid new : Search) (at : ℕ) (config : Config) (moves : List Move) (count index : ℕ) (d : Move) → at < length old.steps.items → index ≡ length moves - 1 - count → count < length moves → IsSearchSoFar problem mid → GrowsTo problem old mid → GrowsTo problem mid new
    → IsMoved problem mid new at config (get_or moves index d) → AreTried problem old mid at config moves count → AreTried problem old new at config moves (count + 1)
tried_more problem stood old mid new at config moves count index d low is room begun before on one tried i move high there =
    elim (cases_lt i (length moves - count)) as (λ _. IsMoved problem old new at config move) [
      | inl new' ↦
          let here : i ≡ index = omega (arith, is, high, room, new') in
          let this : get_or moves index d ≡ move = ap (λ k. get_or moves k d) (sym here) ∙ get_or_from_slice_get moves i move d there in
          let moved : IsMoved problem mid new at config move = subst (IsMoved problem mid new at config) this one in
          subst (λ (o : List ℕ). (stages : ℕ) → new.furthest.stage < stages → stages ≤ stages_in problem → CanReach problem stages (o ++ source_number problem config move.source ∷ []) move.value → LeadsOn problem new.configs.keys new.steps.items (length o) stages)
          (before.orders at low) moved
      | inr old' ↦ moved_more problem stood old mid new at config move begun on (tried i move (omega (arith, old')) there)
    ]

-- a configuration is expanded when each of its moves was tried
pub gone_all : (problem : Problem) (stood : IsProblem problem) (old new : Search) (at : ℕ) (config : Config) (moves : List Move) → IsSearchSoFar problem old → WasReached old at config → GrowsTo problem old new → AreMoves problem config moves
    → ((i : ℕ) (move : Move) → slice_get moves i ≡ Some move → IsMoved problem old new at config move)
    → (other : Config) → slice_get old.configs.keys at ≡ Some other → IsGoneOn problem new.configs.keys new.steps.items new.furthest.stage (order_at old.steps.items at) other.value
gone_all problem stood old new at config moves begun was on are tried other is stages past few reach =
    let found : Config = was.0 in
    let here : slice_get old.configs.keys at ≡ Some found = was.1 in
    let one : found ≡ other = cc in
    let held : other.value ≡ config.value = ap (λ x. x.value) (sym one) ∙ was.2.3 in
    let order : List ℕ = order_at old.steps.items at in
    let stands = stands_copy problem order found config was.2 (begun.known.stands at found here) in
    let low : config.stage < stages = omega (arith, ap (λ (x : Config). x.stage) (sym one), was.2.0, begun.far.most at found here, on.further, past) in
    let led = one_leads problem stood stages few order config stands low moves are (subst (λ v. CanReach problem stages order v) held reach) in
    tried led.0 led.1 led.2 stages past few led.3

-- ---- an expansion

-- each of the first so many is a move, where each of all is
pub each_taken : (problem : Problem) (config : Config) (count : ℕ) (moves : List Move) → EachIsMove problem config moves → EachIsMove problem config (take count moves)
each_taken problem config count moves each i move there = each i move (get_taken count moves i move there)

module _ (problem : Problem) (stood : IsProblem problem) (old : Search) (ranked : RankedConfig) (config : Config) where
  -- all moves were tried
  pub taken_all : (new : Search) (moves : List Move) → IsSearchSoFar problem old → WasReached old ranked.at config → AreMoves problem config moves → (end : ExpansionEnd) → WereTried problem old new ranked.at config moves end → ComesOfExpansion problem old new ranked end
  taken_all new moves begun was are More tried = record {
    again = [];
    fewer = some_expansion ranked;
    own = λ i h. absurd (false≢true h);
    on = tried.0;
    gone = inr (gone_all problem stood old new ranked.at config moves begun was tried.0 are tried.1);
  }
  taken_all new moves begun was are (Whole placed) tried = tried
  taken_all new moves begun was are NoRoom tried = tried

  -- some moves were tried, and the configuration waits for its second expansion
  pub taken_first : (later : RankedConfig) (mid new : Search) (moves : List Move) → ranked.is_last ≡ false → later.at ≡ ranked.at → later.is_last ≡ true → IsWith later old.waiting mid.waiting
      → mid.configs ≡ old.configs → mid.steps ≡ old.steps → mid.furthest ≡ old.furthest → (end : ExpansionEnd) → WereTried problem mid new ranked.at config moves end → ComesOfExpansion problem old new ranked end
  taken_first later mid new moves first at last with' e f g More tried =
      let one : expansions_left later ≡ 1 = ap (λ b. if b then 1 else 2) last in
      let two : expansions_left ranked ≡ 2 = ap (λ b. if b then 1 else 2) first in
      let waits : SearchLists = record (search_lists old) { waiting = mid.waiting } in
      let same : search_lists mid ≡ waits = lists_same (search_lists mid) waits (ap (λ x. x.keys) e) (ap (λ x. x.items) f) refl g in
      record {
        again = later ∷ [];
        fewer = omega (arith, one, two, expansions_only later);
        own = λ i h. sym (only_at later i h) ∙ at;
        on = grows_order problem stood waits (search_lists new) (later ∷ old.waiting) (λ i. sym (awaits_is later old.waiting mid.waiting with' i)) (expansions_is later old.waiting mid.waiting with')
            (subst (λ x. Grows problem x (search_lists new)) same tried.0);
        gone = inl (subst (λ n. awaits (later ∷ []) n ≡ true) at (awaits_only later));
      }
  taken_first later mid new moves first at last with' e f g (Whole placed) tried = tried
  taken_first later mid new moves first at last with' e f g NoRoom tried = tried
