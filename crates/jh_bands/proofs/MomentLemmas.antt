-- The changes of a history, record by record.
use Rattle.std.proofs.Common.{◌≡◌, ℕ, zero, suc, ◌+◌, ◌<◌, List, [], ◌∷◌, ◌++◌, length, drop, get_or, sym, ap, ◌∙◌, arith, subst, append_assoc}
use Rattle.jh_edn.specs.Edn.{Edn}
use Rattle.jh_ops.specs.Operation.{operation, operations}
use Rattle.jh_ops.specs.declared.operation.Op.{Op}
use Rattle.jh_bands.specs.Bands.{MomentValue, active_behind, active_lists, moment_behind}
use Rattle.jh_bands.specs.BandsInside.{AddChanges, AreFit, ChangeValue, PassesTo, HasOwnIds, changes_at, changes_from, view_changes, view_moment, view_replay}
use Rattle.jh_bands.specs.Replay.{ActiveList}
use Rattle.jh_bands.specs.declared.edit.Change.{Change}
use Rattle.jh_bands.specs.declared.moment.Moment.{Moment}
use Rattle.jh_bands.proofs.ReplayLemmas.{distinct_passed}

-- what is kept behind so many records: the changes so far, and those of the records that are left, are all
pub record Going (moment : Moment) (changes : List Change) (steps : List Edn) (history : List Op) (n : ℕ) : Type 0 where
  pub whole : view_changes changes ++ changes_from n (view_moment moment).replay.active (active_lists steps (view_moment moment) (drop n (operations history)))
      ≡ changes_from 0 [] (active_behind steps (operations history))
  pub fit : AreFit moment.replay
  pub distinct : HasOwnIds (view_replay moment.replay)

pub drop_one : (history : List Op) (i : ℕ) (op : Op) → i < length history → op ≡ get_or history i op
    → drop i (operations history) ≡ operation op ∷ drop (i + 1) (operations history)
drop_one [] i op below same = absurd (omega arith)
drop_one (x ∷ xs) zero op below same = ap (λ o. operation o ∷ operations xs) (sym same)
drop_one (x ∷ xs) (suc i) op below same =
    let next : suc (i + 1) ≡ suc i + 1 = omega arith in
    drop_one xs i op (omega arith) same ∙ ap (λ m. operation op ∷ drop m (operations (x ∷ xs))) next

pub going_on : (old new : Moment) (found all : List Change) (steps : List Edn) (history : List Op) (n : ℕ) (op : Op) → n < length history → op ≡ get_or history n op
    → PassesTo old new (moment_behind steps (view_moment old) (operation op)) → AddChanges n (view_replay old.replay).active (view_replay new.replay).active found all
    → Going old found steps history n → Going new all steps history (n + 1)
going_on old new found all steps history n op below same goes added going =
    let rest = drop (n + 1) (operations history) in
    let next : MomentValue = moment_behind steps (view_moment old) (operation op) in
    let before : ActiveList = (view_replay old.replay).active in
    let now : ActiveList = (view_replay new.replay).active in
    let behind : List ChangeValue = changes_from (n + 1) now (active_lists steps (view_moment new) rest) in
    let left : changes_from n before (active_lists steps (view_moment old) (drop n (operations history))) ≡ changes_at n before now ++ behind =
    ap (λ ops. changes_from n before (active_lists steps (view_moment old) ops)) (drop_one history n op below same)
    ∙ ap (λ (m : MomentValue). changes_at n before m.replay.active ++ changes_from (n + 1) m.replay.active (active_lists steps m rest)) (sym goes.moment) in
    record {
      whole =
          ap (λ cs. cs ++ behind) added ∙ append_assoc (view_changes found) (changes_at n before now) behind
          ∙ ap (λ cs. view_changes found ++ cs) (sym left) ∙ going.whole;
      fit = goes.fit;
      distinct = subst (λ (m : MomentValue). HasOwnIds m.replay) (sym goes.moment) (distinct_passed steps (view_moment old) (operation op) going.distinct);
    }
