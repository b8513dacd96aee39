-- The latest fix of a link: among the entries, and among the faults.
use Rattle.std.proofs.Common.{◌≡◌, ℕ, ◌<◌, ◌≤◌, true, false, List, [], ◌∷◌, ◌++◌, length, get_or, refl, ap, ◌∙◌, sym, subst, arith, zero, suc, Option, Some, None, append-nil, append_assoc, inl, inr}
use Rattle.std.specs.Prelude.{if◌then◌else◌, ◌&&◌, fold, nat_lt}
use Rattle.std.specs.List.{Contains}
use Rattle.std.proofs.lemmas.Bool.{ltb-true, ltb-false, false≢true}
use Rattle.std.proofs.lemmas.Option.{none-some, same_Some}
use Rattle.std.proofs.lemmas.List.Elements.{Contains-push, Contains-push_cases, Contains-append_left}
use Rattle.jh_tables.specs.declared.counted.FixEntry.{FixEntry}
use Rattle.jh_tables.specs.declared.counted.FixedDelay.{FixedDelay}
use Rattle.jh_tables.specs.Faults.{FaultValue, names_link}
use Rattle.jh_tables.specs.Faults.FaultValue.{Cut, Slow, Loss, Fix, Pause, Kill, Bump}
use Rattle.jh_tables.specs.Overlay.{delay_after_fault}
use Rattle.jh_tables.specs.Tallies.{is_fixed_in, later_fix, latest_fix, delay_fixed}
use Rattle.jh_tables.specs.Standing.{AreEntries, AreInOrder, faults_of}

-- an entry with the stamp and the delay fixes the link
abbrev IsFixOf : ℕ → ℕ → List (Option FixEntry) → FixedDelay → Type 0
IsFixOf a b entries fix =
    (entry : FixEntry) × Contains entries (Some entry) × (is_fixed_in entry a b ≡ true) × (entry.stamp ≡ fix.stamp) × (entry.ms ≡ fix.ms)

-- no entry that fixes the link has a greater stamp
abbrev AreBefore : ℕ → ℕ → List (Option FixEntry) → ℕ → Type 0
AreBefore a b entries stamp = (entry : FixEntry) → Contains entries (Some entry) → is_fixed_in entry a b ≡ true → entry.stamp ≤ stamp

abbrev FixesNothing : ℕ → ℕ → List (Option FixEntry) → Type 0
FixesNothing a b entries = (entry : FixEntry) → Contains entries (Some entry) → is_fixed_in entry a b ≡ true → ⊥

abbrev IsLatest : ℕ → ℕ → List (Option FixEntry) → Option FixedDelay → Type 0
IsLatest a b entries None = FixesNothing a b entries
IsLatest a b entries (Some fix) = IsFixOf a b entries fix × AreBefore a b entries fix.stamp

module _ (a b : ℕ) (seen : List (Option FixEntry)) where
  kept_of : (next : Option FixEntry) (fix : FixedDelay) → IsFixOf a b seen fix → IsFixOf a b (seen ++ next ∷ []) fix
  kept_of next fix h = (h.0, Contains-append_left seen (next ∷ []) (Some h.0) h.1, h.2, h.3, h.4)

  new_of : (entry : FixEntry) → is_fixed_in entry a b ≡ true → IsFixOf a b (seen ++ Some entry ∷ []) (record { stamp = entry.stamp; ms = entry.ms })
  new_of entry flag = (entry, Contains-push seen (Some entry), flag, refl, refl)

  -- what holds of each that fixes the link so far, and of one more
  one_more : (P : FixEntry → Type 0) (next : Option FixEntry) → ((entry : FixEntry) → Contains seen (Some entry) → P entry) → ((entry : FixEntry) → next ≡ Some entry → P entry)
      → (entry : FixEntry) → Contains (seen ++ next ∷ []) (Some entry) → P entry
  one_more P next before here entry among = elim (Contains-push_cases seen next (Some entry) among) as (λ _. P entry) [
    | inl old ↦ before entry old
    | inr new ↦ here entry new
  ]

  latest_more : (best : Option FixedDelay) (next : Option FixEntry) → IsLatest a b seen best → IsLatest a b (seen ++ next ∷ []) (later_fix a b best next)
  latest_more None None h = one_more (λ e. is_fixed_in e a b ≡ true → ⊥) None h (λ e same. absurd (none-some e same))
  latest_more (Some fix) None h = (
    kept_of None fix h.0,
    one_more (λ e. is_fixed_in e a b ≡ true → e.stamp ≤ fix.stamp) None h.1 (λ e same. absurd (none-some e same)),
  )
  latest_more None (Some x) h =
      elim (is_fixed_in x a b) as (λ s. is_fixed_in x a b ≡ s → IsLatest a b (seen ++ Some x ∷ []) (if s && true then Some (record { stamp = x.stamp; ms = x.ms }) else None)) [
        | true ↦ λ s. (
          new_of x s,
          one_more (λ e. is_fixed_in e a b ≡ true → e.stamp ≤ x.stamp) (Some x) (λ e old flag. absurd (h e old flag))
              (λ e same flag. let k = ap (λ (y : FixEntry). y.stamp) (same_Some x e same) in omega (arith, k)),
        )
        | false ↦ λ s. one_more (λ e. is_fixed_in e a b ≡ true → ⊥) (Some x) h
            (λ e same flag. false≢true (sym s ∙ ap (λ y. is_fixed_in y a b) (same_Some x e same) ∙ flag))
      ] refl
  latest_more (Some fix) (Some x) h =
      elim (is_fixed_in x a b) as (λ s. is_fixed_in x a b ≡ s → IsLatest a b (seen ++ Some x ∷ []) (if s && nat_lt fix.stamp x.stamp then Some (record { stamp = x.stamp; ms = x.ms }) else Some fix)) [
        | true ↦ λ s. elim (nat_lt fix.stamp x.stamp) as (λ t. nat_lt fix.stamp x.stamp ≡ t → IsLatest a b (seen ++ Some x ∷ []) (if t then Some (record { stamp = x.stamp; ms = x.ms }) else Some fix)) [
          | true ↦ λ t. (
            new_of x s,
            one_more (λ e. is_fixed_in e a b ≡ true → e.stamp ≤ x.stamp) (Some x) (λ e old flag. omega (arith, h.1 e old flag, ltb-true fix.stamp x.stamp t))
                (λ e same flag. let k = ap (λ (y : FixEntry). y.stamp) (same_Some x e same) in omega (arith, k)),
          )
          | false ↦ λ t. (
            kept_of (Some x) fix h.0,
            one_more (λ e. is_fixed_in e a b ≡ true → e.stamp ≤ fix.stamp) (Some x) h.1
                (λ e same flag. let k = ap (λ (y : FixEntry). y.stamp) (same_Some x e same) in omega (arith, k, ltb-false fix.stamp x.stamp t)),
          )
        ] refl
        | false ↦ λ s. (
          kept_of (Some x) fix h.0,
          one_more (λ e. is_fixed_in e a b ≡ true → e.stamp ≤ fix.stamp) (Some x) h.1
              (λ e same flag. absurd (false≢true (sym s ∙ ap (λ y. is_fixed_in y a b) (same_Some x e same) ∙ flag))),
        )
      ] refl

latest_of : (a b : ℕ) (seen rest : List (Option FixEntry)) (best : Option FixedDelay) → IsLatest a b seen best → IsLatest a b (seen ++ rest) (fold (later_fix a b) best rest)
latest_of a b seen [] best h = rw (append-nil seen) h
latest_of a b seen (next ∷ rest) best h =
    subst (λ es. IsLatest a b es (fold (later_fix a b) (later_fix a b best next) rest)) (append_assoc seen (next ∷ []) rest)
    (latest_of a b (seen ++ next ∷ []) rest (later_fix a b best next) (latest_more a b seen best next h))

is_latest : (a b : ℕ) (entries : List (Option FixEntry)) → IsLatest a b entries (latest_fix a b entries)
is_latest a b entries = latest_of a b [] entries None (λ entry among flag. absurd (omega (arith, among.1)))

-- each fix among the faults
abbrev EachFix : (ℕ → ℕ → List (ℕ × ℕ) → Type 0) → List (ℕ × FaultValue) → Type 0
EachFix P stamped = (stamp ms : ℕ) (links : List (ℕ × ℕ)) → Contains stamped (stamp, Fix ms links) → P stamp ms links

each_tail : (P : ℕ → ℕ → List (ℕ × ℕ) → Type 0) (x : ℕ × FaultValue) (xs : List (ℕ × FaultValue)) → EachFix P (x ∷ xs) → EachFix P xs
each_tail P x xs h stamp ms links among = h stamp ms links (suc among.0, omega (arith, among.1), among.2)

in_order_tail : (x : ℕ × FaultValue) (xs : List (ℕ × FaultValue)) → AreInOrder (x ∷ xs) → AreInOrder xs
in_order_tail x xs h i j d p q = h (suc i) (suc j) d (omega (arith, p)) (omega (arith, q))

unfixed : (a b delay stamp : ℕ) (fault : FaultValue) (rest : List (ℕ × FaultValue))
    → EachFix (λ _ _ links. names_link links a b ≡ true → ⊥) ((stamp, fault) ∷ rest) → delay_after_fault a b delay fault ≡ delay
unfixed a b delay stamp (Fix ms links) rest none = elim (names_link links a b) as (λ s. names_link links a b ≡ s → (if s then ms else delay) ≡ delay) [
  | true ↦ λ s. absurd (none stamp ms links (0, omega arith, refl) s)
  | false ↦ λ s. refl
] refl
unfixed a b delay stamp (Cut links) rest none = refl
unfixed a b delay stamp (Slow ms links) rest none = refl
unfixed a b delay stamp (Loss level links) rest none = refl
unfixed a b delay stamp (Pause nodes) rest none = refl
unfixed a b delay stamp (Kill nodes) rest none = refl
unfixed a b delay stamp (Bump bumps) rest none = refl

-- where no fix names the link, its delay stays
delay_stays : (a b delay : ℕ) (stamped : List (ℕ × FaultValue)) → EachFix (λ _ _ links. names_link links a b ≡ true → ⊥) stamped
    → fold (delay_after_fault a b) delay (faults_of stamped) ≡ delay
delay_stays a b delay [] none = refl
delay_stays a b delay (x ∷ xs) none =
    let e : delay_after_fault a b delay x.1 ≡ delay = unfixed a b delay x.0 x.1 xs none in
    ap (λ d. fold (delay_after_fault a b) d (faults_of xs)) e ∙ (delay_stays a b delay xs (each_tail (λ _ _ links. names_link links a b ≡ true → ⊥) x xs none))

-- the last fix that names the link gives its delay
delay_last : (a b delay : ℕ) (stamped : List (ℕ × FaultValue)) → AreInOrder stamped → (stamp ms : ℕ) (links : List (ℕ × ℕ)) (k : ℕ)
    → k < length stamped → get_or stamped k (stamp, Fix ms links) ≡ (stamp, Fix ms links) → names_link links a b ≡ true
    → EachFix (λ s _ ls. names_link ls a b ≡ true → s ≤ stamp) stamped → fold (delay_after_fault a b) delay (faults_of stamped) ≡ ms
delay_last a b delay [] order stamp ms links k h at named all = absurd (omega (arith, h))
delay_last a b delay (x ∷ xs) order stamp ms links zero h at named all =
    let fixes : delay_after_fault a b delay x.1 ≡ ms = rw (ap (λ (y : ℕ × FaultValue). y.1) at, named) refl in
    let stamps : x.0 ≡ stamp = ap (λ (y : ℕ × FaultValue). y.0) at in
    let none : EachFix (λ _ _ ls. names_link ls a b ≡ true → ⊥) xs = λ s m ls among named'.
    let before = each_tail (λ s' _ ls'. names_link ls' a b ≡ true → s' ≤ stamp) x xs all s m ls among named' in
    let past = order 0 (suc among.0) (s, Fix m ls) (omega arith) (omega (arith, among.1)) in
    let here : get_or xs among.0 (s, Fix m ls) ≡ (s, Fix m ls) = among.2 in
    let rising : x.0 < s = subst (λ (y : ℕ × FaultValue). x.0 < y.0) here past in
    omega (arith, before, rising, stamps) in
    ap (λ d. fold (delay_after_fault a b) d (faults_of xs)) fixes ∙ delay_stays a b ms xs none
delay_last a b delay (x ∷ xs) order stamp ms links (suc k) h at named all =
    delay_last a b (delay_after_fault a b delay x.1) xs (in_order_tail x xs order) stamp ms links k (omega (arith, h)) at named
    (each_tail (λ s _ ls. names_link ls a b ≡ true → s ≤ stamp) x xs all)

-- the entries give the delay that the faults fix
pub delay_is_over : (n a b delay : ℕ) (entries : List (Option FixEntry)) (stamped : List (ℕ × FaultValue)) → a < n → b < n
    → AreEntries n entries stamped → AreInOrder stamped → delay_fixed (latest_fix a b entries) delay ≡ fold (delay_after_fault a b) delay (faults_of stamped)
delay_is_over n a b delay entries stamped ha hb are order =
    elim (latest_fix a b entries) as (λ o. IsLatest a b entries o → delay_fixed o delay ≡ fold (delay_after_fault a b) delay (faults_of stamped)) [
      | None ↦ λ latest. sym (delay_stays a b delay stamped (λ stamp ms links among named.
          let found = are.all stamp ms links among in
          latest found.0 found.1 (found.2.named a b ha hb ∙ named)))
      | Some fix ↦ λ latest.
          let entry = latest.0.0 in
          let found = are.only entry latest.0.1 in
          let is = found.3 in
          let flag : is_fixed_in entry a b ≡ true = latest.0.2 in
          let named : names_link found.1 a b ≡ true = sym (is.named a b ha hb) ∙ flag in
          let here = found.2 in
          let last = delay_last a b delay stamped order entry.stamp found.0 found.1 here.0 here.1 here.2 named
          (λ s m ls among named'.
          let other = are.all s m ls among in
          let before = latest.1 other.0 other.1 (other.2.named a b ha hb ∙ named') in
          omega (arith, before, latest.0.3, other.2.stamped)) in
          sym latest.0.4 ∙ is.delay ∙ sym last
    ] (is_latest a b entries)
