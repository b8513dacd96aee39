-- What threads may share and send, by its fields: an operation, a finding, and the keys of a call.
use denote.Param.Send.{IsSend, IsSync, sendable, view_send, view_sync}
use denote.Param.SendFields.{declared_send, declared_sync, variants_send}
use denote.RattleType.{RattleType}
use denote.Ref.{NamedLft}
use Rattle.std.proofs.Crossing.{Vec-send}
use Rattle.jh_check.specs.contracts.counter.CounterResult as counter
use Rattle.jh_check.specs.contracts.ids.IdsResult as ids
use Rattle.jh_check.specs.contracts.set.SetResult as set
use Rattle.jh_checkers.specs.contracts.explanation.Explanation as explanation
use Rattle.jh_checkers.specs.contracts.finding.Finding as finding
use Rattle.jh_checkers.specs.contracts.finding.Judging as judging
use Rattle.jh_fifo_check.specs.contracts.finding.FifoFinding as fifo
use Rattle.jh_edn.specs.contracts.value.Pairs as pairs
use Rattle.jh_edn.specs.contracts.value.Value as value
use Rattle.jh_independent.specs.contracts.split.KeyPlaces as places
use Rattle.jh_independent.specs.contracts.threads.Keys as keys
use Rattle.jh_independent.specs.contracts.threads.Keys.TheInside as inside
use Rattle.jh_independent.specs.declared.threads.Asking.{Ghosts}
use Rattle.jh_linear.specs.contracts.verdict.LinVerdict as verdict
use Rattle.jh_ops.specs.contracts.operation.Op as op
use Rattle.jh_bank.specs.contracts.judge.BankErrors as bank_errors
use Rattle.jh_bank.specs.contracts.judge.BankResult as bank
use Rattle.jh_bank.specs.contracts.judge.ReadErrors as read_errors
use Rattle.jh_queue.specs.contracts.queue.QueueResult as queue
use Rattle.jh_set_full.specs.contracts.set_full.SetFullResult as set_full
use Rattle.jh_total_queue.specs.contracts.total_queue.TotalQueueResult as total_queue
use Rattle.jh_txn_findings.specs.contracts.finding.FoundStep as step
use Rattle.jh_txn_findings.specs.contracts.finding.FoundWhy as why
use Rattle.jh_txn_findings.specs.contracts.finding.TxnFinding as transactions

pub op_sync : IsSync value.the_row → IsSync pairs.the_row → IsSync op.the_row
op_sync v p = declared_sync op.the_type (search sendable depth 16, (v, (v, (search sendable depth 16, (search sendable depth 16, (search sendable depth 16, (p, tt)))))))

pub op_send : IsSend value.the_row → IsSend pairs.the_row → IsSend op.the_row
op_send v p = declared_send op.the_type (search sendable depth 16, (v, (v, (search sendable depth 16, (search sendable depth 16, (search sendable depth 16, (p, tt)))))))

-- a reason has a key and an element, or nothing
pub why_send : IsSend value.the_row → IsSend why.the_row
why_send v = variants_send why.enum ((v, (v, tt)), ((v, (v, tt)), ((v, (v, tt)), ((v, (v, tt)), (tt, tt)))))

pub step_send : IsSend why.the_row → IsSend step.the_row
step_send w = declared_send step.the_type (search sendable depth 16, (w, tt))

-- a queue has a number, or a place and an operation
pub queue_send : IsSend op.the_row → IsSend queue.the_row
queue_send o = variants_send queue.enum ((search sendable depth 16, tt), ((search sendable depth 16, (o, tt)), tt))

-- a bank has numbers, and operations with each error
read_errors_send : IsSend op.the_row → IsSend read_errors.the_row
read_errors_send o = declared_send read_errors.the_type (search sendable depth 16, (o, tt))

bank_errors_send : IsSend read_errors.the_row → IsSend bank_errors.the_row
bank_errors_send r = declared_send bank_errors.the_type (search sendable depth 16, (search sendable depth 16, (search sendable depth 16, (search sendable depth 16, tt))))

bank_send_by : IsSend op.the_row → IsSend bank_errors.the_row → IsSend bank.the_row
bank_send_by o e = declared_send bank.the_type (search sendable depth 16, (search sendable depth 16, (e, (search sendable depth 16, (Vec-send _ (search sendable), tt)))))

pub bank_send : IsSend op.the_row → IsSend bank.the_row
bank_send o = bank_send_by o (bank_errors_send (read_errors_send o))

-- a finding has what one of the checkers found, or what the judge of a register or a mutex answered with
-- what explains it
pub finding_send : IsSend set.the_row → IsSend counter.the_row → IsSend ids.the_row → IsSend verdict.the_row → IsSend explanation.the_row → IsSend transactions.the_row
    → IsSend total_queue.the_row → IsSend queue.the_row → IsSend bank.the_row → IsSend set_full.the_row → IsSend fifo.the_row → IsSend finding.the_row
finding_send s c i v e t q u b f o = variants_send finding.enum
    ((search sendable depth 16, tt), ((search sendable depth 16, tt), ((search sendable depth 16, tt), ((search sendable depth 16, (search sendable depth 16, tt)), ((search sendable depth 16, tt), ((search sendable depth 16, tt), ((search sendable depth 16, tt), ((search sendable depth 16, tt), ((search sendable depth 16, tt), ((search sendable depth 16, (search sendable depth 16, tt)), ((search sendable depth 16, tt), tt)))))))))))

-- what a history is judged by has a checker, numbers, a model and accounts
judging_sync : (ℓ : NamedLft) → IsSync value.the_row → IsSync (judging.the_row ℓ)
judging_sync ℓ v = declared_sync (judging.the_type ℓ)
    (search sendable depth 16, (search sendable depth 16, (search sendable depth 16, (search sendable depth 16, (search sendable depth 16, (search sendable depth 16, (search sendable depth 16, (search sendable depth 16, (search sendable depth 16, (search sendable depth 16, tt))))))))))

judging_send : (ℓ : NamedLft) → IsSync value.the_row → IsSend (judging.the_row ℓ)
judging_send ℓ v = declared_send (judging.the_type ℓ)
    (search sendable depth 16, (search sendable depth 16, (search sendable depth 16, (search sendable depth 16, (search sendable depth 16, (search sendable depth 16, (search sendable depth 16, (search sendable depth 16, (search sendable depth 16, (search sendable depth 16, tt))))))))))

-- the keys have that and a gate beside operations and places
keys_sync_by : (ℓ : NamedLft) (Q G : RattleType) (asking : Ghosts Q.Denot) → IsSync (judging.the_row ℓ) → IsSync op.the_row → IsSync places.the_row → IsSync Q → IsSync G
    → IsSync (keys.the_row ℓ Q G asking)
keys_sync_by ℓ Q G asking j o p q s = view_sync _ _ _ _ _ (declared_sync (inside.the_type ℓ Q G asking)
    (search sendable depth 16, (search sendable depth 16, (search sendable depth 16, (search sendable depth 16, (search sendable depth 16, (search sendable depth 16, tt)))))))

pub keys_sync : (ℓ : NamedLft) (Q G : RattleType) (asking : Ghosts Q.Denot) → IsSync value.the_row → IsSync op.the_row → IsSync places.the_row → IsSync Q → IsSync G → IsSync (keys.the_row ℓ Q G asking)
keys_sync ℓ Q G asking v o p q s = keys_sync_by ℓ Q G asking (judging_sync ℓ v) o p q s

keys_send_by : (ℓ : NamedLft) (Q G : RattleType) (asking : Ghosts Q.Denot) → IsSend (judging.the_row ℓ) → IsSync op.the_row → IsSync places.the_row → IsSend Q → IsSync G
    → IsSend (keys.the_row ℓ Q G asking)
keys_send_by ℓ Q G asking j o p q s = view_send _ _ _ _ _ (declared_send (inside.the_type ℓ Q G asking)
    (search sendable depth 16, (search sendable depth 16, (search sendable depth 16, (search sendable depth 16, (search sendable depth 16, (search sendable depth 16, tt)))))))

pub keys_send : (ℓ : NamedLft) (Q G : RattleType) (asking : Ghosts Q.Denot) → IsSync value.the_row → IsSync op.the_row → IsSync places.the_row → IsSend Q → IsSync G → IsSend (keys.the_row ℓ Q G asking)
keys_send ℓ Q G asking v o p q s = keys_send_by ℓ Q G asking (judging_send ℓ v) o p q s
