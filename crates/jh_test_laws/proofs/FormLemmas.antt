-- A history whose operations fit is well formed.
use Rattle.std.proofs.Common.{◌≡◌, ℕ, Bool, true, false, List, [], ◌∷◌, refl, sym, ap, subst, eqb-true}
use Rattle.std.specs.Prelude.{if◌then◌else◌}
use Rattle.jh_ops.specs.Operation.{Operation}
use Rattle.jh_ops.specs.Pairing.{Alternate, IsWellFormed, is_of_client, kinds_of}
use Rattle.jh_ops.specs.declared.operation.Kind.{Kind}
use Rattle.jh_ops.specs.declared.operation.Process.{Process}
use Rattle.jh_test_laws.specs.HistoryInside.{AllFit, Doing, FitsBehind, FitsDoing, doing, doing_after}

-- the kinds that a client goes on with
abbrev AlternateFrom : Doing → List Kind → Type 0
AlternateFrom Doing.Idle kinds = Alternate kinds
AlternateFrom (Doing.Busy op) kinds = Alternate (Kind.Invoke ∷ kinds)
AlternateFrom Doing.Gone kinds = kinds ≡ []

module _ (A : Operation → Type 0) (E : Operation → Operation → Type 0) where
  one_more : (d : Doing) (kind : Kind) (op : Operation) (kinds : List Kind) → FitsDoing A E d kind op → AlternateFrom (doing_after kind op) kinds → AlternateFrom d (kind ∷ kinds)
  one_more Doing.Idle Kind.Invoke op kinds fits rest = rest
  one_more Doing.Idle Kind.Ok op kinds fits rest = absurd fits
  one_more Doing.Idle Kind.Fail op kinds fits rest = absurd fits
  one_more Doing.Idle Kind.Info op kinds fits rest = absurd fits
  one_more (Doing.Busy call) Kind.Invoke op kinds fits rest = absurd fits
  one_more (Doing.Busy call) Kind.Ok op kinds fits rest = rest
  one_more (Doing.Busy call) Kind.Fail op kinds fits rest = rest
  one_more (Doing.Busy call) Kind.Info op kinds fits rest = rest
  one_more Doing.Gone Kind.Invoke op kinds fits rest = absurd fits
  one_more Doing.Gone Kind.Ok op kinds fits rest = absurd fits
  one_more Doing.Gone Kind.Fail op kinds fits rest = absurd fits
  one_more Doing.Gone Kind.Info op kinds fits rest = absurd fits

  none_more : (d : Doing) → AlternateFrom d []
  none_more Doing.Idle = tt
  none_more (Doing.Busy op) = tt
  none_more Doing.Gone = refl

  -- the client of an operation of its own
  own_fits : (client : ℕ) (past : List Operation) (op : Operation) (process : Process) → is_of_client client process ≡ true → FitsBehind A E past process op → FitsDoing A E (doing client past) op.kind op
  own_fits client past op Process.Nemesis own fits = absurd cc
  own_fits client past op (Process.Client number) own fits = subst (λ n. FitsDoing A E (doing n past) op.kind op) (sym (eqb-true client number own)) fits

  alternate_from : (client : ℕ) (past ops : List Operation) → AllFit A E past ops → AlternateFrom (doing client past) (kinds_of client ops)
  alternate_from client past [] h = none_more (doing client past)
  alternate_from client past (op ∷ ops) h = go (is_of_client client op.process) refl (alternate_from client (op ∷ past) ops h.1)
    where
      go : (own : Bool) → is_of_client client op.process ≡ own → AlternateFrom (doing client (op ∷ past)) (kinds_of client ops) → AlternateFrom (doing client past) (kinds_of client (op ∷ ops))
      go true e rest =
          let after : AlternateFrom (doing_after op.kind op) (kinds_of client ops) =
          subst (λ d. AlternateFrom d (kinds_of client ops)) (ap (λ b. if b then doing_after op.kind op else doing client past) e) rest in
          rw e (one_more (doing client past) op.kind op (kinds_of client ops) (own_fits client past op op.process e h.0) after)
      go false e rest =
          let after : AlternateFrom (doing client past) (kinds_of client ops) =
          subst (λ d. AlternateFrom d (kinds_of client ops)) (ap (λ b. if b then doing_after op.kind op else doing client past) e) rest in
          rw e after

  pub well_formed : (history : List Operation) → AllFit A E [] history → IsWellFormed history
  well_formed history h = λ client. alternate_from client [] history h
