-- What a fault does to its links, given with an amount of its own type: it is that, or its amount is out of its range.
use Rattle.std.proofs.Common.{◌≡◌, ℕ, ◌≤◌, true, false, refl, arith, ◌∙◌, sym}
use Rattle.std.specs.Prelude.{◌&&◌, ℤ, nat_le, if◌then◌else◌, pos, IsSome, Option, Some, None, option_map}
use Rattle.std.proofs.lemmas.Bool.{and_from, and_parts, leb-true, le-leb, false≢true}
use Rattle.jh_tables.specs.declared.faults.LinkFault.{LinkFault}
use Rattle.jh_env.specs.Amounts.{IsLinkAmount, amount_within, link_fault_of}
use Rattle.jh_env.specs.Faults.{IsFixAmount, IsLossAmount, IsSlowAmount}
use Rattle.jh_env.specs.declared.amounts.GivenLinkFault.{GivenLinkFault}

-- it is this one and in its range, or this one is not
abbrev pub IsJudged : LinkFault → Option LinkFault → Type 0
IsJudged kind (Some judged) = (judged ≡ kind) × IsLinkAmount kind
IsJudged kind None = IsLinkAmount kind → ⊥

judged_within : (least most n : ℕ) (make : ℕ → LinkFault) → (((least ≤ n) × (n ≤ most)) → IsLinkAmount (make n)) → (IsLinkAmount (make n) → ((least ≤ n) × (n ≤ most)))
    → IsJudged (make n) (option_map make (amount_within least most (pos n)))
judged_within least most n make right within =
    elim (nat_le least n && nat_le n most) as (λ t. (nat_le least n && nat_le n most) ≡ t → IsJudged (make n) (option_map make (if t then Some n else None))) [
      | true ↦ λ is. let parts = and_parts (nat_le least n) (nat_le n most) is in (refl, right (leb-true least n parts.0, leb-true n most parts.1))
      | false ↦ λ is amount. let parts = within amount in
          false≢true (sym is ∙ and_from (nat_le least n) (nat_le n most) (le-leb least n parts.0) (le-leb n most parts.1))
    ] refl

pub judged_cut : IsJudged LinkFault.Cut (link_fault_of GivenLinkFault.Cut)
judged_cut = (refl, tt)

pub judged_slow : (ms : ℕ) (given : ℤ) → given ≡ pos ms → IsJudged (LinkFault.Slow ms) (link_fault_of (GivenLinkFault.Slow given))
judged_slow ms given is = rw is (judged_within 1 60000 ms LinkFault.Slow (λ h. (omega (arith, h.0), h.1)) (λ h. (omega (arith, h.0), h.1)))

pub judged_loss : (level : ℕ) (given : ℤ) → given ≡ pos level → IsJudged (LinkFault.Loss level) (link_fault_of (GivenLinkFault.Loss given))
judged_loss level given is = rw is (judged_within 1 20 level LinkFault.Loss (λ h. (omega (arith, h.0), h.1)) (λ h. (omega (arith, h.0), h.1)))

pub judged_fix : (ms : ℕ) (given : ℤ) → given ≡ pos ms → IsJudged (LinkFault.Fix ms) (link_fault_of (GivenLinkFault.Fix given))
judged_fix ms given is = rw is (judged_within 0 60000 ms LinkFault.Fix (λ h. h.1) (λ h. (omega arith, h)))

-- what an amount in its range is given as, stands for a fault
some_judged : (kind : LinkFault) (judged : Option LinkFault) → IsJudged kind judged → IsLinkAmount kind → IsSome judged
some_judged kind (Some judged) is right = refl
some_judged kind None wrong right = absurd (wrong right)

pub given_slow : (ms : ℕ) → IsSlowAmount ms → IsSome (link_fault_of (GivenLinkFault.Slow (pos ms)))
given_slow ms right = some_judged (LinkFault.Slow ms) (link_fault_of (GivenLinkFault.Slow (pos ms))) (judged_slow ms (pos ms) refl) right

pub given_loss : (level : ℕ) → IsLossAmount level → IsSome (link_fault_of (GivenLinkFault.Loss (pos level)))
given_loss level right = some_judged (LinkFault.Loss level) (link_fault_of (GivenLinkFault.Loss (pos level))) (judged_loss level (pos level) refl) right

pub given_fix : (ms : ℕ) → IsFixAmount ms → IsSome (link_fault_of (GivenLinkFault.Fix (pos ms)))
given_fix ms right = some_judged (LinkFault.Fix ms) (link_fault_of (GivenLinkFault.Fix (pos ms))) (judged_fix ms (pos ms) refl) right
