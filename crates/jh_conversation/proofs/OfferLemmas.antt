-- Calls are offers of the generator.
use Rattle.std.proofs.Common.{◌≡◌, ℕ, ◌+◌, ◌*◌, ◌%◌, ◌<◌, Bool, true, false, not, nat_le, List, [], ◌∷◌, ◌++◌, refl, sym, ap, ◌∙◌, subst, arith}
use Rattle.std.specs.Prelude.{Option, None, Some}
use Rattle.std.proofs.lemmas.Bool.{and_parts, cond_both, false≢true, not-true}
use Rattle.std.proofs.Math.Nat.{add-mul-mod_self_left, mod-eq_of_lt}
use Rattle.rand_pcg.specs.Pcg.{pcg64}
use Rattle.jh_gen.specs.DriverState.{Answers, AskedAnswers, DriverState, EndKeepsGenerator, IsDriverOf}
use Rattle.jh_gen.specs.DriverState.{all_threads, asked, driver_after_end, max_calls, question_by}
use Rattle.jh_gen.specs.Generator.{Generator, clients, limit}
use Rattle.jh_gen.specs.Offers.{offer}
use Rattle.jh_gen.specs.Trace.{Trace}
use Rattle.jh_gen.specs.declared.answers.Ended.{Ended}
use Rattle.jh_gen.specs.declared.answers.GenAnswer.{GenAnswer}
use Rattle.jh_gen.specs.declared.answers.GenAnswer.TheVariants.{Call, Done, Pending}
use Rattle.jh_gen.specs.declared.answers.Thread.{Thread}
use Rattle.jh_gen.specs.declared.answers.Thread.TheVariants as thread
use Rattle.jh_ops.specs.declared.call.Call.TheVariants as call
use Rattle.jh_ops.specs.declared.call.Request.{Request}
use Rattle.jh_conversation.specs.Laws.{Drivers, IsBeforeFinal, IsFinalDriver, run}
use Rattle.jh_conversation.specs.Lines.{ended_as}
use Rattle.jh_conversation.specs.Machine.{Machine, caller_of}
use Rattle.jh_conversation.specs.Offered.{AreAllOffers, AreCallsOf, AreFinalCalls, AreOffers, CallsAreOffers}
use Rattle.jh_conversation.specs.Offered.{MainCallsAreOffers, given_calls}
use Rattle.jh_conversation.specs.Turn.{driver_answer, may_call_in_phase, after_answer}
use Rattle.jh_conversation.specs.declared.phase.Phase.{Phase}
use Rattle.jh_conversation.specs.declared.phase.Phase.TheVariants.{Main, Heal, Rest, Final, Over}
use Rattle.jh_conversation.proofs.KeptLemmas.{IsKeptByLine, IsKeptInTurn, kept_run}
use Rattle.jh_test_parts.specs.Test.{TestValue}

-- the thread of a process of its own
pub thread_is : (n threads used_numbers : ℕ) → n < threads → (n + threads * used_numbers) % threads ≡ n
thread_is n threads used_numbers within = add-mul-mod_self_left n threads used_numbers ∙ mod-eq_of_lt within

no_final : (t : TestValue) (o : Option Generator) → AreFinalCalls t o []
no_final t None = refl
no_final t (Some g) = ([], tt)

module _ (asked_answers : AskedAnswers) (end_keeps : EndKeepsGenerator) (t : TestValue) where
  -- Calls are offers of a generator; while its driver has more to give, it stands behind them.
  record Source (spent : Bool) (d : DriverState) (g : Generator) (calls : List (ℕ × Request)) : Type 0 where
    trace : Trace
    offers : AreOffers g t.clients trace calls
    stands : spent ≡ false → IsDriverOf d g trace

  record FinalSource (spent : Bool) (d : DriverState) (calls : List (ℕ × Request)) : Type 0 where
    g : Generator
    is : t.final_calls ≡ Some g
    final : List (ℕ × Request)
    main : List (ℕ × Request)
    split : calls ≡ final ++ main
    of_main : AreCallsOf t t.generator main
    source : Source spent d (clients (limit t.ops g)) final

  abbrev MainPart : Bool → DriverState → Option DriverState → List (ℕ × Request) → Type 0
  MainPart spent d final_calls calls = Source spent d (clients (limit t.ops t.generator)) calls × IsFinalDriver t t.final_calls final_calls

  -- in each phase
  abbrev Part : Phase → Bool → DriverState → Option DriverState → List (ℕ × Request) → Type 0
  Part Main spent d final_calls calls = MainPart spent d final_calls calls
  Part Heal spent d final_calls calls = MainPart spent d final_calls calls
  Part Rest spent d final_calls calls = MainPart spent d final_calls calls
  Part Final spent d final_calls calls = FinalSource spent d calls
  Part Over spent d final_calls calls = AreAllOffers t calls

  abbrev Offered : Machine → Type 0
  Offered m = (m.driver.clients ≡ t.clients) × Part m.phase m.has_spent m.driver m.final_calls (given_calls t m.history)

  -- what an answer makes of it
  abbrev SourceAfter : Generator → List (ℕ × Request) → ℕ → GenAnswer → DriverState → Type 0
  SourceAfter g calls n Pending e = (e.clients ≡ t.clients) × Source false e g calls
  SourceAfter g calls n Done e = (e.clients ≡ t.clients) × Source true e g calls
  SourceAfter g calls n (Call p (call.Client request)) e = (e.clients ≡ t.clients) × Source false e g ((n, request) ∷ calls)
  SourceAfter g calls n (Call p (call.Step place)) e = (e.clients ≡ t.clients) × Source true e g calls

  spent_source : (b : Bool) (d e : DriverState) (g : Generator) (calls : List (ℕ × Request)) → Source b d g calls → Source true e g calls
  spent_source b d e g calls s = record { trace = s.trace; offers = s.offers; stands = λ no. absurd (false≢true (sym no)) }

  answered : (d : DriverState) (g : Generator) (calls : List (ℕ × Request)) (n w : ℕ) → d.clients ≡ t.clients → (s : Source false d g calls)
      → (answer : GenAnswer) (e : DriverState) → Answers g s.trace d (thread.Client n) w answer e → SourceAfter g calls n answer e
  answered d g calls n w is s Done e a = (ap (λ (x : DriverState). x.clients) a.1 ∙ is, spent_source false d e g calls s)
  answered d g calls n w is s Pending e a = (
    ap (λ (x : DriverState). x.clients) a.2 ∙ is,
    record { trace = s.trace; offers = s.offers; stands = λ no. subst (λ x. IsDriverOf x g s.trace) (sym a.2) (s.stands refl) },
  )
  answered d g calls n w is s (Call p (call.Client request)) e a =
      let path = a.2 in
      let offers = subst (λ k. offer g s.trace (all_threads k) (question_by d (thread.Client n) w) ≡ Some (path, call.Client request)) is a.3 in (
        a.4.clients ∙ is,
        record { trace = path ∷ s.trace; offers = (question_by d (thread.Client n) w, refl, offers, s.offers); stands = λ no. a.4.stands },
      )
  answered d g calls n w is s (Call p (call.Step place)) e a = (a.4.clients ∙ is, spent_source false d e g calls s)

  source_after : (d : DriverState) (g : Generator) (calls : List (ℕ × Request)) (n w : ℕ) → d.clients ≡ t.clients → n < t.clients → Source false d g calls
      → SourceAfter g calls n (driver_answer d n w).0 (driver_answer d n w).1
  source_after d g calls n w is within s =
      cond_both (nat_le max_calls d.given) (Done, d) (asked d (thread.Client n) w) (λ a. SourceAfter g calls n a.0 a.1)
      (λ _. (is, spent_source false d d g calls s))
      (λ _. answered d g calls n w is s (asked d (thread.Client n) w).0 (asked d (thread.Client n) w).1
      (asked_answers d (thread.Client n) w g s.trace (s.stands refl) (omega (arith, within, is))))

  abbrev PartAfter : Phase → Option DriverState → List (ℕ × Request) → ℕ → GenAnswer → DriverState → Type 0
  PartAfter phase final_calls calls n Pending e = (e.clients ≡ t.clients) × Part phase false e final_calls calls
  PartAfter phase final_calls calls n Done e = (e.clients ≡ t.clients) × Part phase true e final_calls calls
  PartAfter phase final_calls calls n (Call p (call.Client request)) e = (e.clients ≡ t.clients) × Part phase false e final_calls ((n, request) ∷ calls)
  PartAfter phase final_calls calls n (Call p (call.Step place)) e = (e.clients ≡ t.clients) × Part phase true e final_calls calls

  main_after : (final_calls : Option DriverState) (calls : List (ℕ × Request)) (n : ℕ) → IsFinalDriver t t.final_calls final_calls → (answer : GenAnswer) (e : DriverState)
      → SourceAfter (clients (limit t.ops t.generator)) calls n answer e → PartAfter Main final_calls calls n answer e
  main_after final_calls calls n is Pending e s = (s.0, (s.1, is))
  main_after final_calls calls n is Done e s = (s.0, (s.1, is))
  main_after final_calls calls n is (Call p (call.Client request)) e s = (s.0, (s.1, is))
  main_after final_calls calls n is (Call p (call.Step place)) e s = (s.0, (s.1, is))

  with_source : (b c : Bool) (d e : DriverState) (calls : List (ℕ × Request)) (f : FinalSource b d calls) → Source c e (clients (limit t.ops f.g)) f.final → FinalSource c e calls
  with_source b c d e calls f s = record { g = f.g; is = f.is; final = f.final; main = f.main; split = f.split; of_main = f.of_main; source = s }

  final_after : (d : DriverState) (final_calls : Option DriverState) (calls : List (ℕ × Request)) (n : ℕ) (f : FinalSource false d calls) (answer : GenAnswer) (e : DriverState)
      → SourceAfter (clients (limit t.ops f.g)) f.final n answer e → PartAfter Final final_calls calls n answer e
  final_after d final_calls calls n f Pending e s = (s.0, with_source false false d e calls f s.1)
  final_after d final_calls calls n f Done e s = (s.0, with_source false true d e calls f s.1)
  final_after d final_calls calls n f (Call p (call.Client request)) e s = (
    s.0,
    record { g = f.g; is = f.is; final = (n, request) ∷ f.final; main = f.main; split = ap (λ l. (n, request) ∷ l) f.split; of_main = f.of_main; source = s.1 },
  )
  final_after d final_calls calls n f (Call p (call.Step place)) e s = (s.0, with_source false true d e calls f s.1)

  part_after : (phase : Phase) (stops given now : ℕ) (d : DriverState) (final_calls : Option DriverState) (calls : List (ℕ × Request)) (n w : ℕ) → may_call_in_phase phase t stops given now ≡ true
      → d.clients ≡ t.clients → n < t.clients → Part phase false d final_calls calls → PartAfter phase final_calls calls n (driver_answer d n w).0 (driver_answer d n w).1
  part_after Main stops given now d final_calls calls n w may is within h =
      main_after final_calls calls n h.1 (driver_answer d n w).0 (driver_answer d n w).1 (source_after d (clients (limit t.ops t.generator)) calls n w is within h.0)
  part_after Heal stops given now d final_calls calls n w may is within h = absurd (false≢true may)
  part_after Rest stops given now d final_calls calls n w may is within h = absurd (false≢true may)
  part_after Final stops given now d final_calls calls n w may is within h =
      final_after d final_calls calls n h (driver_answer d n w).0 (driver_answer d n w).1 (source_after d (clients (limit t.ops h.g)) h.final n w is within h.source)
  part_after Over stops given now d final_calls calls n w may is within h = absurd (false≢true may)

  answer_offers : (m : Machine) (n : ℕ) → n < t.clients → m.has_spent ≡ false → (answer : GenAnswer) → PartAfter m.phase m.final_calls (given_calls t m.history) n answer m.driver → Offered (after_answer t n answer m)
  answer_offers m n within unspent Pending h = (h.0, subst (λ b. Part m.phase b m.driver m.final_calls (given_calls t m.history)) (sym unspent) h.1)
  answer_offers m n within unspent Done h = h
  answer_offers m n within unspent (Call p (call.Client request)) h =
      let calls = given_calls t m.history in
      let own : (n + t.clients * (caller_of m n).used_numbers) % t.clients ≡ n = thread_is n t.clients (caller_of m n).used_numbers within in (
        h.0,
        subst (λ k. Part m.phase m.has_spent m.driver m.final_calls ((k, request) ∷ calls)) (sym own)
            (subst (λ b. Part m.phase b m.driver m.final_calls ((n, request) ∷ calls)) (sym unspent) h.1),
      )
  answer_offers m n within unspent (Call p (call.Step place)) h = h

  source_ended : (spent : Bool) (d : DriverState) (x : Thread) (end : Ended) (g : Generator) (calls : List (ℕ × Request)) → Source spent d g calls → Source spent (driver_after_end d x end) g calls
  source_ended spent d x end g calls s = record { trace = s.trace; offers = s.offers; stands = λ more. end_keeps d x end g s.trace (s.stands more) }

  part_ended : (phase : Phase) (spent : Bool) (d : DriverState) (x : Thread) (end : Ended) (final_calls : Option DriverState) (calls : List (ℕ × Request)) → Part phase spent d final_calls calls
      → Part phase spent (driver_after_end d x end) final_calls calls
  part_ended Main spent d x end final_calls calls h = (source_ended spent d x end (clients (limit t.ops t.generator)) calls h.0, h.1)
  part_ended Heal spent d x end final_calls calls h = (source_ended spent d x end (clients (limit t.ops t.generator)) calls h.0, h.1)
  part_ended Rest spent d x end final_calls calls h = (source_ended spent d x end (clients (limit t.ops t.generator)) calls h.0, h.1)
  part_ended Final spent d x end final_calls calls h = with_source spent spent d (driver_after_end d x end) calls h (source_ended spent d x end (clients (limit t.ops h.g)) h.final h.source)
  part_ended Over spent d x end final_calls calls h = h

  all_of_main : (spent : Bool) (d : DriverState) (final_calls : Option DriverState) (calls : List (ℕ × Request)) → MainPart spent d final_calls calls → AreAllOffers t calls
  all_of_main spent d final_calls calls h = record { final = []; main = calls; split = refl; of_main = (h.0.trace, h.0.offers); of_final = no_final t t.final_calls }

  all_offers : (phase : Phase) (spent : Bool) (d : DriverState) (final_calls : Option DriverState) (calls : List (ℕ × Request)) → Part phase spent d final_calls calls → AreAllOffers t calls
  all_offers Main spent d final_calls calls h = all_of_main spent d final_calls calls h
  all_offers Heal spent d final_calls calls h = all_of_main spent d final_calls calls h
  all_offers Rest spent d final_calls calls h = all_of_main spent d final_calls calls h
  all_offers Final spent d final_calls calls h = record {
    final = h.final;
    main = h.main;
    split = h.split;
    of_main = h.of_main;
    of_final = subst (λ o. AreFinalCalls t o h.final) (sym h.is) (h.source.trace, h.source.offers);
  }
  all_offers Over spent d final_calls calls h = h

  main_offers : (phase : Phase) (spent : Bool) (d : DriverState) (final_calls : Option DriverState) (calls : List (ℕ × Request)) → IsBeforeFinal phase → Part phase spent d final_calls calls → AreCallsOf t t.generator calls
  main_offers Main spent d final_calls calls before h = (h.0.trace, h.0.offers)
  main_offers Heal spent d final_calls calls before h = (h.0.trace, h.0.offers)
  main_offers Rest spent d final_calls calls before h = (h.0.trace, h.0.offers)
  main_offers Final spent d final_calls calls before h = absurd before
  main_offers Over spent d final_calls calls before h = absurd before

  final_calls_stand : (o : Option Generator) (driver : DriverState) (calls : List (ℕ × Request)) → t.final_calls ≡ o → IsFinalDriver t o (Some driver) → AreCallsOf t t.generator calls
      → (driver.clients ≡ t.clients) × FinalSource false driver calls
  final_calls_stand None driver calls is h main = absurd h
  final_calls_stand (Some g) driver calls is h main = (
    h.1.clients_is,
    record { g = g; is = is; final = []; main = calls; split = refl; of_main = main; source = record { trace = []; offers = tt; stands = λ no. h.0 } },
  )

  offered_in_turn : IsKeptInTurn t Offered
  offered_in_turn = record {
    calls = record {
      visits = λ m n within idle may h.
          let drawn = pcg64 m.random_numbers in
          let answer = driver_answer m.driver n drawn.0 in
          let both = and_parts (not m.has_spent) (may_call_in_phase m.phase t m.stops m.given m.clock) may in
          let unspent : m.has_spent ≡ false = not-true m.has_spent both.0 in
          answer_offers (record m { driver = answer.1; random_numbers = drawn.1 }) n within unspent answer.0
          (part_after m.phase m.stops m.given m.clock m.driver m.final_calls (given_calls t m.history) n drawn.0 both.1 h.0 within
          (subst (λ b. Part m.phase b m.driver m.final_calls (given_calls t m.history)) unspent h.1));
    };
    begins = λ m due w d h. h;
    heals = λ m is e h. (h.0, subst (λ p. Part p m.has_spent m.driver m.final_calls (given_calls t m.history)) is h.1);
    rests = λ m is w q h. (h.0, subst (λ p. Part p m.has_spent m.driver m.final_calls (given_calls t m.history)) is h.1);
    ends_rest = λ m is h. (h.0, all_offers m.phase m.has_spent m.driver m.final_calls (given_calls t m.history) h.1);
    finals = λ m driver is f h.
        let main = subst (λ p. Part p m.has_spent m.driver m.final_calls (given_calls t m.history)) is h.1 in
        final_calls_stand t.final_calls driver (given_calls t m.history) refl (subst (IsFinalDriver t t.final_calls) f main.1) (main.0.trace, main.0.offers);
    ends_final = λ m is e h. (h.0, all_offers m.phase m.has_spent m.driver m.final_calls (given_calls t m.history) h.1);
  }

  offered_by_line : IsKeptByLine t Offered
  offered_by_line = record {
    counts_line = λ m h. h;
    clocks = λ m time h. h;
    stops = λ m h. h;
    refuses = λ m why h. h;
    step_ends = λ m w op e h. h;
    finishes = λ m n c op e no fits h. (h.0, part_ended m.phase m.has_spent m.driver (thread.Client n) (ended_as op.kind) m.final_calls (given_calls t m.history) h.1);
  }

  offered : (d : Drivers t) (lines : List (List ℕ)) → Offered (run t d lines)
  offered d lines =
      kept_run t d Offered offered_in_turn offered_by_line lines
      (d.is_first.1.clients_is, (record { trace = []; offers = tt; stands = λ no. d.is_first.0 }, d.is_final))

pub calls_offered : AskedAnswers → EndKeepsGenerator → CallsAreOffers
calls_offered asked_answers end_keeps t d lines =
    let m = run t d lines in
    all_offers asked_answers end_keeps t m.phase m.has_spent m.driver m.final_calls (given_calls t m.history) (offered asked_answers end_keeps t d lines).1

pub main_offered : AskedAnswers → EndKeepsGenerator → MainCallsAreOffers
main_offered asked_answers end_keeps t d lines before =
    let m = run t d lines in
    main_offers asked_answers end_keeps t m.phase m.has_spent m.driver m.final_calls (given_calls t m.history) before (offered asked_answers end_keeps t d lines).1
