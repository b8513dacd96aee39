-- The message of a line that is no reply (this project's own). A line is one line of text, so an error of
-- its text is printed without a line. The text of what is no operation is that of `jh_ops`, which no clause knows.
use Rattle.std.specs.Prelude.{ℕ, List, Option, None, Some, codes}
use Rattle.jh_edn.specs.declared.error.EdnError.{EdnError}
use Rattle.jh_edn.specs.declared.error.EdnError.TheVariants as edn
use Rattle.jh_test_parts.specs.declared.complaints.Complaint.{Complaint}
use Rattle.jh_test_parts.specs.declared.complaints.Complaint.TheVariants as complaint

abbrev pub edn_text : EdnError → List ℕ
edn_text (edn.UnexpectedEnd line) = codes "unexpected end"
edn_text (edn.BadToken line) = codes "bad token"
edn_text (edn.FloatUnsupported line) = codes "float unsupported"
edn_text (edn.IntegerRange line) = codes "integer out of range"
edn_text (edn.BadEscape line) = codes "bad escape"
edn_text (edn.OddMap line) = codes "odd map"
edn_text (edn.DuplicateKey line) = codes "duplicate key"
edn_text (edn.TooDeep line) = codes "too deep"
edn_text edn.Utf8 = codes "not UTF-8"
edn_text edn.TooLong = codes "input too long"
edn_text edn.Read = codes "read failed"
edn_text edn.Write = codes "write failed"
edn_text edn.OutOfMemory = codes "out of memory"

abbrev pub complaint_text : Complaint → Option (List ℕ)
complaint_text (complaint.Edn error) = Some (edn_text error)
complaint_text complaint.MoreThanOne = Some (codes "more than one element")
complaint_text (complaint.Op error) = None
complaint_text complaint.BadTime = Some (codes "bad time")
complaint_text complaint.NoStepOpen = Some (codes "no step is open")
complaint_text complaint.OtherStep = Some (codes "not the answer of the step that is open")
complaint_text complaint.NoCallOpen = Some (codes "no call of this process is open")
complaint_text complaint.OtherCall = Some (codes "not the answer of the call that is open")
complaint_text complaint.BadValue = Some (codes "bad value")
complaint_text complaint.NotReady = Some (codes "not :ready")
