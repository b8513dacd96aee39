-- What each step may write is what its own faults take.
use Rattle.std.proofs.Common.{◌≡◌, ℕ, true, false, [], ◌∷◌, ◌++◌, refl, ◌∙◌, arith, add_comm}
use Rattle.std.proofs.lemmas.List.{append-nil}
use Rattle.jh_env.specs.Faults.{FaultValue, fault_size}
use Rattle.jh_nemesis.specs.State.{State, Active, is_active}
use Rattle.jh_nemesis.specs.Steps.{answer_of, is_ok, state_after}
use Rattle.jh_nemesis.specs.Work.{faults_only_in, size_between, size_of_all, size_of_step}
use Rattle.jh_nemesis.specs.WorkLaws.{BeginWritesItsFault, RedoWritesItsUndo, RefusedWritesNothing, UndoWritesItsRedo, UndoWritesItsStep, WithdrawingAllWritesAll}
use Rattle.jh_nemesis.specs.declared.steps.Step.TheVariants.{Begin, Redo, Undo, Withdraw, WithdrawAll}
use Rattle.jh_nemesis.proofs.EffectLemmas.{all_alone}
use Rattle.jh_nemesis.proofs.LawLemmas.{accepted, fresh, withdrawal_leaves}
use Rattle.jh_nemesis.proofs.MomentLemmas.{active_there, none_alone, one_more}
use Rattle.jh_nemesis.proofs.StepLemmas.{redo_back, redo_undone, undo_back}

-- nothing lies between a moment and itself
same_moment : (now : Active) → size_between now now ≡ 0
same_moment now = rw (none_alone now now (λ f inside. active_there f now inside)) refl

-- as much is written back as forth
turned : (before after : Active) → size_between before after ≡ size_between after before
turned before after = add_comm (size_of_all (faults_only_in before after)) (size_of_all (faults_only_in after before))

-- one fault among others comes or goes
one_size : (before after : Active) (id : ℕ) (f : FaultValue) → is_active (before ++ after) id ≡ false
    → size_between (before ++ ((id, f) ∷ after)) (before ++ after) ≡ fault_size f
one_size before after id f new = let more = one_more before after id f new in rw (more.alone, more.none) (omega arith)

pub refused_writes : RefusedWritesNothing
refused_writes s step refused = rw refused (same_moment s.active)

pub begin_writes : BeginWritesItsFault
begin_writes s id f ok =
    let one : ℕ × FaultValue = (id, f) in
    let size : size_between (s.active ++ one ∷ []) (s.active ++ []) ≡ fault_size f = one_size s.active [] id f (fresh s id ok) in
    let last : size_between (s.active ++ one ∷ []) s.active ≡ fault_size f = rw (append-nil s.active) at size in
    rw (accepted s (Begin id f) ok) (turned s.active (s.active ++ one ∷ []) ∙ last)

-- no other fault has its id
pub withdrawal_writes : (s : State) (before after : Active) (id : ℕ) (f : FaultValue) → s.active ≡ before ++ ((id, f) ∷ after)
    → is_active (before ++ after) id ≡ false → is_ok (answer_of s (Withdraw id)) ≡ true → size_of_step s (Withdraw id) ≡ fault_size f
withdrawal_writes s before after id f now others ok =
    let size : size_between s.active (before ++ after) ≡ fault_size f = rw now (one_size before after id f others) in
    rw (withdrawal_leaves s before after id f now others ok) size

pub all_written : WithdrawingAllWritesAll
all_written s ok = rw (accepted s WithdrawAll ok, all_alone s.active) (omega arith)

pub undo_writes : UndoWritesItsStep
undo_writes s step change ok =
    rw (undo_back s step change ok).active (turned (state_after s step).active s.active)

pub redo_writes : RedoWritesItsUndo
redo_writes s ok = rw (redo_back s ok).1 (turned (state_after s Undo).active s.active)

pub undo_writes_redo : UndoWritesItsRedo
undo_writes_redo s ok = rw (redo_undone s ok).1 (turned (state_after s Redo).active s.active)
