-- What a finding says of its history, and the names of bad reads (G1a and G1b: Adya, "Weak
-- consistency", 1999; `:internal`, `:duplicate-elements` and `:garbage-read` are Elle's words, from
-- Kingsbury and Alvaro, 2020; `:out-of-order` is this project's own).
use Rattle.std.specs.Prelude.{ℕ, List, codes}
use Rattle.jh_check.specs.declared.verdict.Verdict.{Verdict}
use Rattle.jh_check.specs.declared.verdict.Verdict.TheVariants.{True, Unknown, False}
use Rattle.jh_txn.specs.declared.anomaly.BadRead as wrong
use Rattle.jh_txn.specs.declared.anomaly.BadRead.TheVariants.{Internal, DuplicateElements}
use Rattle.jh_txn.specs.declared.anomaly.BadRead.TheVariants.{GarbageRead, AbortedRead}
use Rattle.jh_txn.specs.declared.anomaly.BadRead.TheVariants.{IntermediateRead, OutOfOrder}
use Rattle.jh_txn_findings.specs.declared.finding.TxnFinding.{TxnFinding}
use Rattle.jh_txn_findings.specs.declared.finding.TxnFinding.TheVariants as found

-- what is wrong with a read, as a keyword without its colon
abbrev pub anomaly_text : wrong.BadRead → List ℕ
anomaly_text Internal = codes "internal"
anomaly_text DuplicateElements = codes "duplicate-elements"
anomaly_text GarbageRead = codes "garbage-read"
anomaly_text AbortedRead = codes "G1a"
anomaly_text IntermediateRead = codes "G1b"
anomaly_text OutOfOrder = codes "out-of-order"

-- what a finding says of its history
abbrev pub txn_finding_verdict : TxnFinding → Verdict
txn_finding_verdict (found.Valid order) = True
txn_finding_verdict (found.BadRead place index kind operations) = False
txn_finding_verdict (found.Cycle steps operations) = False
txn_finding_verdict found.Unknown = Unknown
