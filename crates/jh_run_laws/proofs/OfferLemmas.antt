-- What a generator offers is a call that it has.
use Rattle.std.proofs.Common.{◌≡◌, ℕ, suc, zero, ◌+◌, ◌%◌, ℤ, pos, negsuc, ◌+ℤ◌, Bool, true, false, ◌&&◌, not, List, [], ◌∷◌, ◌++◌, length, take, drop, filter, Some, None, refl, ap, le-ltb, arith}
use Rattle.jh_edn.specs.Edn.{is_empty}
use Rattle.std.specs.Prelude.{if◌then◌else◌}
use Rattle.std.specs.Option.{option_or}
use Rattle.jh_ops.specs.declared.call.Call.{Call}
use Rattle.jh_ops.specs.declared.call.Workload.{Workload}
use Rattle.jh_ops.specs.declared.call.Workload.TheVariants.{Register, Counter, Set, Ids}
use Rattle.jh_gen.specs.Generator.{Generator, nothing, once, rising, forever, seq, limit, mix, phases, reserve, each_thread, clients, nemesis_only, Generators, no_generators, generator, ShareList, no_shares, share}
use Rattle.jh_gen.specs.Rises.{risen}
use Rattle.jh_gen.specs.declared.rise.Rise.{Rise}
use Rattle.jh_gen.specs.declared.rise.Rise.TheVariants.{Adds, Writes}
use Rattle.jh_gen.specs.Fits.{shares_sum}
use Rattle.jh_gen.specs.Trace.{Trace, trace_under}
use Rattle.jh_gen.specs.Scope.{Scope, Question, is_client_thread, is_share_thread, is_beyond, is_in_scope, has_busy_thread}
use Rattle.jh_gen.specs.Offers.{Offer, offer, open_offers, share_offer, member_offer, head_of, first_some, picked_value, offer_unless_exhausted, is_exhausted, shares_len}
use Rattle.jh_gen.specs.Suits.{has_only, all_have_only, shares_have_only, is_call_for}
use Rattle.jh_run_laws.specs.OwnHistory.{Passes, OffersSuit}

both : (a b : Bool) → (a && b) ≡ true → (a ≡ true) × (b ≡ true)
both true b h = (refl, h)
both false b h = absurd cc

module _ (passes : Call → Bool) (more : (r : Rise) (n : ℤ) (k : ℕ) → passes (risen r n) ≡ true → passes (risen r (n +ℤ pos k)) ≡ true) where
  -- each of these offers passes
  abbrev pub AllPass : List Offer → Type 0
  AllPass [] = Unit {0}
  AllPass (o ∷ os) = Passes passes o × AllPass os

  member_passes : (i : ℕ) (o : Offer) → Passes passes o → Passes passes (member_offer i o)
  member_passes i None h = tt
  member_passes i (Some (path, call)) h = h

  if_passes : (b : Bool) (o : Offer) → Passes passes o → Passes passes (if b then None else o)
  if_passes true o h = tt
  if_passes false o h = h

  unless_passes : (b : Bool) (scope : Scope) (q : Question) (o : Offer) → Passes passes o → Passes passes (offer_unless_exhausted b scope q o)
  unless_passes b scope q o h =
      elim (is_in_scope scope q.asker) as (λ c. Passes passes (if c then (if b then None else o) else None)) [
        | true ↦ if_passes b o h
        | false ↦ tt
      ]

  head_passes : (os : List Offer) → AllPass os → Passes passes (head_of os)
  head_passes [] a = tt
  head_passes (o ∷ os) a = a.0

  or_passes : (o p : Offer) → Passes passes o → Passes passes p → Passes passes (option_or o p)
  or_passes None p h k = k
  or_passes (Some x) p h k = h

  first_passes : (os : List Offer) → AllPass os → Passes passes (first_some os)
  first_passes [] a = tt
  first_passes (o ∷ os) a = or_passes o (first_some os) a.0 (first_passes os a.1)

  joined_pass : (os ps : List Offer) → AllPass os → AllPass ps → AllPass (os ++ ps)
  joined_pass [] ps a b = b
  joined_pass (o ∷ os) ps a b = (a.0, joined_pass os ps a.1 b)

  taken_pass : (n : ℕ) (os : List Offer) → AllPass os → AllPass (take n os)
  taken_pass zero os a = tt
  taken_pass (suc n) [] a = tt
  taken_pass (suc n) (o ∷ os) a = (a.0, taken_pass n os a.1)

  left_pass : (n : ℕ) (os : List Offer) → AllPass os → AllPass (drop n os)
  left_pass zero os a = a
  left_pass (suc n) [] a = tt
  left_pass (suc n) (o ∷ os) a = left_pass n os a.1

  picked_passes : (random_number : ℕ) (os : List Offer) → AllPass os → Passes passes (picked_value random_number os)
  picked_passes random_number os a =
      let n = random_number % length os in
      first_passes (drop n os ++ take n os) (joined_pass (drop n os) (take n os) (left_pass n os a) (taken_pass n os a))

  mutual
    pub offer_passes : (g : Generator) → has_only passes g ≡ true → (t : Trace) (scope : Scope) (q : Question) → Passes passes (offer g t scope q)
    offer_passes nothing h t scope q = tt
    offer_passes (once c) h t scope q = unless_passes _ scope q (Some ([], c)) h
    offer_passes (rising r n) h t scope q = unless_passes _ scope q (Some ([], risen r (n +ℤ pos (length t)))) (more r n (length t) h)
    offer_passes (forever c) h t scope q = unless_passes _ scope q (Some ([], c)) h
    offer_passes (seq gs) h t scope q = unless_passes _ scope q _ (head_passes _ (open_pass [] gs h 0 t scope q))
    offer_passes (limit n g) h t scope q = unless_passes _ scope q _ (member_passes 0 _ (offer_passes g h (trace_under 0 t) scope q))
    offer_passes (mix gs) h t scope q = unless_passes _ scope q _ (picked_passes q.random_number _ (open_pass [] gs h 0 t scope q))
    offer_passes (phases gs) h t scope q = unless_passes _ scope q _ (head_passes _ (open_pass scope gs h 0 t scope q))
    offer_passes (reserve ms g) h t scope q =
        let p = both (shares_have_only passes ms) (has_only passes g) h in
        unless_passes _ scope q _ (share_passes ms p.0 0 0 t scope q _
        (member_passes (shares_len ms) _ (offer_passes g p.1 (trace_under (shares_len ms) t) (filter (is_beyond (shares_sum ms)) scope) q)))
    offer_passes (each_thread g) h t scope q = unless_passes _ scope q _ (member_passes q.asker _ (offer_passes g h (trace_under q.asker t) (q.asker ∷ []) q))
    offer_passes (clients g) h t scope q = unless_passes _ scope q _ (member_passes 0 _ (offer_passes g h (trace_under 0 t) (filter is_client_thread scope) q))
    offer_passes (nemesis_only g) h t scope q = absurd cc

    open_pass : (awaited : Scope) (gs : Generators) → all_have_only passes gs ≡ true → (i : ℕ) (t : Trace) (scope : Scope) (q : Question) → AllPass (open_offers awaited gs i t scope q)
    open_pass awaited no_generators h i t scope q = tt
    open_pass awaited (generator g gs) h i t scope q =
        let p = both (has_only passes g) (all_have_only passes gs) h in
        let rest = open_pass awaited gs p.1 (suc i) t scope q in
        let first = if_passes (is_empty (trace_under i t) && has_busy_thread q.busy awaited) _ (member_passes i _ (offer_passes g p.0 (trace_under i t) scope q)) in
        elim (is_exhausted g (trace_under i t) scope) as (λ b. AllPass (if b then open_offers awaited gs (suc i) t scope q else (if is_empty (trace_under i t) && has_busy_thread q.busy awaited then None else member_offer i (offer g (trace_under i t) scope q)) ∷ open_offers awaited gs (suc i) t scope q)) [
          | true ↦ rest
          | false ↦ (first, rest)
        ]

    share_passes : (ms : ShareList) → shares_have_only passes ms ≡ true → (i first : ℕ) (t : Trace) (scope : Scope) (q : Question) (others : Offer) → Passes passes others → Passes passes (share_offer ms i first t scope q others)
    share_passes no_shares h i first t scope q others k = k
    share_passes (share n g ms) h i first t scope q others k =
        let p = both (has_only passes g) (shares_have_only passes ms) h in
        let own = member_passes i _ (offer_passes g p.0 (trace_under i t) (filter (is_share_thread first n) scope) q) in
        let rest = share_passes ms p.1 (suc i) (first + n) t scope q others k in
        elim (is_share_thread first n q.asker) as (λ b. Passes passes (if b then member_offer i (offer g (trace_under i t) (filter (is_share_thread first n) scope) q) else share_offer ms (suc i) (first + n) t scope q others)) [
          | true ↦ own
          | false ↦ rest
        ]

-- a greater number may be added or written where a number may
suited_more : (w : Workload) (r : Rise) (n : ℤ) (k : ℕ) → is_call_for w (risen r n) ≡ true → is_call_for w (risen r (n +ℤ pos k)) ≡ true
suited_more Register Adds n k h = absurd cc
suited_more Register Writes n k h = refl
suited_more Counter Adds (pos m) k h = ap not (le-ltb (m + k) 0 (omega arith))
suited_more Counter Adds (negsuc m) k h = absurd cc
suited_more Counter Writes n k h = absurd cc
suited_more Set Adds n k h = refl
suited_more Set Writes n k h = absurd cc
suited_more Ids Adds n k h = absurd cc
suited_more Ids Writes n k h = absurd cc

pub offers_suit : OffersSuit
offers_suit w g h = offer_passes (is_call_for w) (suited_more w) g h
