-- A reason excludes every order.
use Rattle.std.proofs.Common.{ℕ, ℤ, Option, List, inl, inr}
use Rattle.jh_unique.specs.declared.verdict.UniqueReason.{UniqueReason}
use Rattle.jh_unique.specs.declared.verdict.UniqueReason.TheVariants.{Nowhere, FromOne, Behind}
use Rattle.jh_unique.specs.declared.verdict.UniqueVerdict.{UniqueVerdict}
use Rattle.jh_unique.specs.declared.verdict.UniqueVerdict.TheVariants.{Valid, Invalid, Repeated, WritesInitial}
use Rattle.jh_linear.specs.declared.register.RegOp.{RegOp}
use Rattle.jh_linear.specs.Order.{IsOrder}
use Rattle.jh_unique.specs.Unique.{WriteOnce}
use Rattle.jh_unique.specs.Judged.{IsUniqueReason, IsUniqueVerdict}
use Rattle.jh_unique.specs.LayoutInside.{IsAnswerOfOnce}
use Rattle.jh_unique.proofs.LawLemmas.{from_nowhere, from_one, late, crossed}

pub excluded : (ops : List RegOp) (initial : Option ℤ) (reason : UniqueReason) (order : List ℕ) → WriteOnce ops initial → IsUniqueReason ops initial reason → IsOrder ops initial order → ⊥
excluded ops initial (Nowhere number) order once h orders = from_nowhere ops initial order once orders number h.0 h.1
excluded ops initial (FromOne first second) order once h orders = from_one ops initial order once orders first second h.0 h.1
excluded ops initial (Behind first second) order once h orders = elim h.1 as (λ _. ⊥) [
  | inl l ↦ late ops initial order once orders first l.0 second l.1 h.0
  | inr c ↦ crossed ops initial order once orders c.0 c.1 c.4
]

pub of_once : (ops : List RegOp) (initial : Option ℤ) (verdict : UniqueVerdict) → WriteOnce ops initial → IsAnswerOfOnce ops initial verdict → IsUniqueVerdict ops initial verdict
of_once ops initial (Valid order) once h = (once, h)
of_once ops initial (Invalid reason) once h = (once, h, (λ order orders. excluded ops initial reason order once h orders))
of_once ops initial (Repeated first second) once h = absurd h
of_once ops initial (WritesInitial number) once h = absurd h
