-- Arguments that `clap` takes ask for one command at most.
use Rattle.std.proofs.Common.{◌≡◌, ◌∙◌, ◌||◌, ◌+◌, ◌*◌, ◌⊎◌, inl, inr, ℕ, ℤ, Bool, codes, true, false, refl, sym, ap, arith, List, [], ◌∷◌, Option, Some, None, true≢false}
use Rattle.std.specs.Str.{bytes_eq}
use Rattle.std.proofs.lemmas.Slice.Eq.{bytes_eq-Decides}
use Rattle.clap.specs.Words.{Row, Text, first_of, one_of}
use Rattle.clap.specs.declared.builder.value_parser.ValueParser.TheVariants as vp
use Rattle.jh_arguments.proofs.PassedTexts.{HasNoText, HasText}
use Rattle.jh_arguments.proofs.OptionLemmas.{number_one}
use Rattle.jh_checkers.specs.Checkers.{checker_name, checker_named}
use Rattle.jh_arguments.specs.Accounts.{Accounts}
use Rattle.jh_arguments.specs.Commands.{AsksCheck, SubcommandIs, AsksSearch, AsksTrials, AsksTimeline, IsFlag, IsGivenWithin, IsGivenNumber, IsGivenSigned, IsJudging, IsJudgingBy, IsNumberWithin, IsShow}
use Rattle.jh_arguments.specs.Limits.{max_candidates, max_spread_ms}
use Rattle.jh_checkers.specs.declared.checker.Checker.{Checker}
use Rattle.jh_checkers.specs.declared.checker.Checker.TheVariants.{Register, Set, Counter, Ids, ListAppend, TotalQueue, Queue, Bank, SetFull, Mutex, FifoQueue}
use Rattle.jh_checkers.specs.declared.finding.Judging.{Judging}
use Rattle.jh_cli.specs.declared.check_command.CheckQuestion.{CheckQuestion}
use Rattle.jh_cli.specs.declared.search_command.SearchQuestion.{SearchQuestion}
use Rattle.jh_cli.specs.declared.search_command.Show.{Show}
use Rattle.jh_cli.specs.declared.timeline_command.TimelineQuestion.{TimelineQuestion}
use Rattle.jh_arguments.specs.declared.commands.Command.{Command}
use Rattle.jh_arguments.specs.declared.commands.TrialQuestion.{TrialQuestion}
use Rattle.jh_arguments.specs.declared.commands.Command.TheVariants.{Env, Check, Run, Shrink, Search, Timeline, Plot}

-- ---- one text means one value

some_same : {X : Type 0} (a b : X) → Some a ≡ Some b → a ≡ b
some_same a b e = let both : Some a ≡ Some b = e in cc

checker_back : (c : Checker) → checker_named (checker_name c) ≡ Some c
checker_back Register = refl
checker_back Set = refl
checker_back Counter = refl
checker_back Ids = refl
checker_back ListAppend = refl
checker_back TotalQueue = refl
checker_back Queue = refl
checker_back Bank = refl
checker_back SetFull = refl
checker_back Mutex = refl
checker_back FifoQueue = refl

checker_once : (c d : Checker) → checker_name c ≡ checker_name d → c ≡ d
checker_once c d e = some_same c d (sym (checker_back c) ∙ (ap checker_named e ∙ checker_back d))

signed_once : (o : Option Text) (m n : Option ℤ) → IsGivenSigned o m → IsGivenSigned o n → m ≡ n
signed_once None m n a b = a ∙ sym b
signed_once (Some t) (Some m) (Some n) a b = ap Some (a.1 ∙ sym b.1)
signed_once (Some t) (Some m) None a b = absurd (b a.0)
signed_once (Some t) None (Some n) a b = absurd (a b.0)
signed_once (Some t) None None a b = refl

given_number_once : (o : Option Text) (m n : Option ℕ) → IsGivenNumber o m → IsGivenNumber o n → m ≡ n
given_number_once None m n a b = a ∙ sym b
given_number_once (Some t) (Some m) (Some n) a b = ap Some (a.1 ∙ sym b.1)
given_number_once (Some t) (Some m) None a b = absurd (b a.0)
given_number_once (Some t) None (Some n) a b = absurd (a b.0)
given_number_once (Some t) None None a b = refl

given_once : (least most : ℕ) (o : Option Text) (m n : Option ℕ) → IsGivenWithin least most o m → IsGivenWithin least most o n → m ≡ n
given_once least most None m n a b = a ∙ sym b
given_once least most (Some t) (Some m) (Some n) a b = ap Some (number_one (Some t) m n a.0 b.0)
given_once least most (Some t) (Some m) None a b = absurd (b m a)
given_once least most (Some t) None (Some n) a b = absurd (a n b)
given_once least most (Some t) None None a b = refl

show_once : (rows : List Row) (m n : Option Show) → IsShow rows m → IsShow rows n → m ≡ n
show_once rows None None a b = refl
show_once rows None (Some n) a b = absurd (unshown (one_of (codes "show") rows) n.number a b.0)
  where
    unshown : (o : Option Text) (k : ℕ) → IsGivenWithin 0 max_candidates o None → IsNumberWithin 0 max_candidates o k → ⊥
    unshown None k a b = b.0
    unshown (Some t) k a b = a k b
show_once rows (Some m) None a b = absurd (unshown (one_of (codes "show") rows) m.number b a.0)
  where
    unshown : (o : Option Text) (k : ℕ) → IsGivenWithin 0 max_candidates o None → IsNumberWithin 0 max_candidates o k → ⊥
    unshown None k a b = b.0
    unshown (Some t) k a b = a k b
show_once rows (Some m) (Some n) a b =
    let number = number_one (one_of (codes "show") rows) m.number n.number a.0.0 b.0.0 in
    let over = given_once 1 max_spread_ms (one_of (codes "ms") rows) m.milliseconds n.milliseconds a.1 b.1 in
    λ i. Some (record { number = number i; milliseconds = over i })

-- the flag is there or not, and not both
abbrev pub FlagOnce : List Row → Text → Type 0
FlagOnce rows id = (a b : Bool) → IsFlag (one_of id rows) a → IsFlag (one_of id rows) b → a ≡ b

-- so are those of a judgement
abbrev pub JudgingFlagsOnce : List Row → Type 0
JudgingFlagsOnce rows = FlagOnce rows (codes "negative-balances") × FlagOnce rows (codes "linearizable") × FlagOnce rows (codes "locked")

judging_once : (given : Accounts) (rows : List Row) → JudgingFlagsOnce rows → (m n : Judging) → IsJudgingBy given rows m → IsJudgingBy given rows n → m.explain ≡ n.explain → m ≡ n
judging_once given rows flags m n a b explain =
    let checker = checker_once m.checker n.checker (some_same _ _ (sym a.workload ∙ b.workload)) in
    let initial = signed_once (one_of (codes "initial") rows) m.initial n.initial a.initial b.initial in
    let budget = number_one (one_of (codes "budget") rows) m.budget n.budget a.budget b.budget in
    let model = a.model ∙ sym b.model in
    let accounts = a.accounts ∙ sym b.accounts in
    let total = signed_once (one_of (codes "total") rows) m.total n.total a.total b.total in
    let negative_balances = flags.0 m.negative_balances n.negative_balances a.negative_balances b.negative_balances in
    let linearizable = flags.1 m.linearizable n.linearizable a.linearizable b.linearizable in
    let locked = flags.2 m.locked n.locked a.locked b.locked in
    λ i. record {
      checker = checker i;
      initial = initial i;
      budget = budget i;
      explain = explain i;
      model = model i;
      accounts = accounts i;
      total = total i;
      negative_balances = negative_balances i;
      linearizable = linearizable i;
      locked = locked i;
    }

check_once : (given : Accounts) (rows : List Row) → JudgingFlagsOnce rows → FlagOnce rows (codes "explain") → FlagOnce rows (codes "independent") → FlagOnce rows (codes "skip-unread")
    → (m n : CheckQuestion) → AsksCheck given rows m → AsksCheck given rows n → m ≡ n
check_once given rows flags explained split skipped m n a b =
    let judging = judging_once given rows flags m.judging n.judging a.judging b.judging (explained m.judging.explain n.judging.explain a.explain b.explain) in
    let independent = split m.independent n.independent a.independent b.independent in
    let threads = number_one (one_of (codes "threads") rows) m.threads n.threads a.threads.0 b.threads.0 in
    let least = given_number_once (one_of (codes "at-least") rows) m.at_least n.at_least a.at_least b.at_least in
    let skips = skipped m.skips_unread n.skips_unread a.skips_unread b.skips_unread in
    λ i. record {
      judging = judging i;
      independent = independent i;
      threads = threads i;
      at_least = least i;
      skips_unread = skips i;
    }

search_once : (rows : List Row) (m n : SearchQuestion) → AsksSearch rows m → AsksSearch rows n → m ≡ n
search_once rows m n a b =
    let from = number_one (one_of (codes "from") rows) m.from n.from a.from.0 b.from.0 in
    let runs = number_one (one_of (codes "runs") rows) m.runs n.runs a.runs.0 b.runs.0 in
    let faults = number_one (one_of (codes "faults") rows) m.faults n.faults a.faults.0 b.faults.0 in
    let palette = a.palette ∙ sym b.palette in
    let threads = given_once 1 16 (one_of (codes "threads") rows) m.threads n.threads a.threads b.threads in
    let show = show_once rows m.show n.show a.show b.show in
    λ i. record { from = from i; runs = runs i; faults = faults i; palette = palette i; threads = threads i; show = show i }

pub trials_once : (rows : List Row) (m n : TrialQuestion) → AsksTrials rows m → AsksTrials rows n → m ≡ n
trials_once rows m n a b =
    let from = number_one (one_of (codes "from") rows) m.from n.from a.from.0 b.from.0 in
    let runs = number_one (one_of (codes "runs") rows) m.runs n.runs a.runs.0 b.runs.0 in
    let faults = number_one (one_of (codes "faults") rows) m.faults n.faults a.faults.0 b.faults.0 in
    let palette = a.palette ∙ sym b.palette in
    λ i. record { from = from i; runs = runs i; faults = faults i; palette = palette i }

page_once : (given : Accounts) (rows : List Row) → JudgingFlagsOnce rows → (m n : Option Judging) → IsJudging given rows m → IsJudging given rows n → m ≡ n
page_once given rows flags None None a b = refl
page_once given rows flags None (Some n) a b = let bad : Some (checker_name n.checker) ≡ None = sym b.0.workload ∙ a in cc
page_once given rows flags (Some m) None a b = let bad : Some (checker_name m.checker) ≡ None = sym a.0.workload ∙ b in cc
page_once given rows flags (Some m) (Some n) a b = ap Some (judging_once given rows flags m n a.0 b.0 (a.1 ∙ sym b.1))

timeline_once : (given : Accounts) (rows : List Row) → JudgingFlagsOnce rows → FlagOnce rows (codes "independent") → FlagOnce rows (codes "skip-unread")
    → (m n : TimelineQuestion) → AsksTimeline given rows m → AsksTimeline given rows n → m ≡ n
timeline_once given rows flags split skipped m n a b =
    let judging = page_once given rows flags m.judging n.judging a.judging b.judging in
    let independent = split m.independent n.independent a.independent b.independent in
    let from = given_number_once (one_of (codes "from") rows) m.choice.from n.choice.from a.from b.from in
    let to = given_number_once (one_of (codes "to") rows) m.choice.to n.choice.to a.to b.to in
    let skips = skipped m.skips_unread n.skips_unread a.skips_unread b.skips_unread in
    λ i. record { judging = judging i; independent = independent i; choice = record { from = from i; to = to i }; skips_unread = skips i }

-- ---- one subcommand with its options asks for one command

abbrev pub command_name : Command → Text
command_name Env = codes "env"
command_name (Check question) = codes "check"
command_name Run = codes "run"
command_name (Shrink runs) = codes "shrink"
command_name (Search question) = codes "search"
command_name (Timeline question) = codes "timeline"
command_name (Plot skips_unread) = codes "plot"

-- a number for each name
abbrev mark_of : Text → ℕ
mark_of [] = 0
mark_of (x ∷ xs) = x + 256 * mark_of xs

pub named : (given : Accounts) (found : Text × List Row) (c : Command) → SubcommandIs given (Some found) c → found.0 ≡ command_name c
named given found Env asks = asks
named given found (Check question) asks = asks.0
named given found Run asks = asks
named given found (Shrink runs) asks = asks.0
named given found (Search question) asks = asks.0
named given found (Timeline question) asks = asks.0
named given found (Plot skips_unread) asks = asks.0

-- none is called drive
pub no_drive : (c : Command) → command_name c ≡ codes "drive" → ⊥
no_drive c e = go c (ap mark_of e)
  where
    go : (c : Command) → mark_of (command_name c) ≡ mark_of (codes "drive") → ⊥
    go Env e = omega (arith, e)
    go (Check question) e = omega (arith, e)
    go Run e = omega (arith, e)
    go (Shrink runs) e = omega (arith, e)
    go (Search question) e = omega (arith, e)
    go (Timeline question) e = omega (arith, e)
    go (Plot skips_unread) e = omega (arith, e)

-- the one that is called search has no file of a test
pub searches : (given : Accounts) (found : Text × List Row) (c : Command) → SubcommandIs given (Some found) c → found.0 ≡ codes "search" → first_of (codes "drive") found.1 ≡ None
searches given found c asks name = go c asks (ap mark_of (sym (named given found c asks) ∙ name))
  where
    go : (c : Command) → SubcommandIs given (Some found) c → mark_of (command_name c) ≡ mark_of (codes "search") → first_of (codes "drive") found.1 ≡ None
    go (Search question) asks e = asks.1
    go Env asks e = absurd (omega (arith, e))
    go (Check question) asks e = absurd (omega (arith, e))
    go Run asks e = absurd (omega (arith, e))
    go (Shrink runs) asks e = absurd (omega (arith, e))
    go (Timeline question) asks e = absurd (omega (arith, e))
    go (Plot skips_unread) asks e = absurd (omega (arith, e))

-- nor has the one that is called shrink
pub shrinks : (given : Accounts) (found : Text × List Row) (c : Command) → SubcommandIs given (Some found) c → found.0 ≡ codes "shrink" → first_of (codes "drive") found.1 ≡ None
shrinks given found c asks name = go c asks (ap mark_of (sym (named given found c asks) ∙ name))
  where
    go : (c : Command) → SubcommandIs given (Some found) c → mark_of (command_name c) ≡ mark_of (codes "shrink") → first_of (codes "drive") found.1 ≡ None
    go (Shrink runs) asks e = asks.1
    go Env asks e = absurd (omega (arith, e))
    go (Check question) asks e = absurd (omega (arith, e))
    go Run asks e = absurd (omega (arith, e))
    go (Search question) asks e = absurd (omega (arith, e))
    go (Timeline question) asks e = absurd (omega (arith, e))
    go (Plot skips_unread) asks e = absurd (omega (arith, e))

abbrev pub Once : Option (Text × List Row) → Type 0
Once found = (given : Accounts) (c d : Command) → SubcommandIs given found c → SubcommandIs given found d → c ≡ d

pub asked_once : (found : Text × List Row)
    → (found.0 ≡ codes "check" → FlagOnce found.1 (codes "explain") × FlagOnce found.1 (codes "independent") × FlagOnce found.1 (codes "skip-unread") × JudgingFlagsOnce found.1)
    → (found.0 ≡ codes "timeline" → FlagOnce found.1 (codes "independent") × FlagOnce found.1 (codes "skip-unread") × JudgingFlagsOnce found.1)
    → (found.0 ≡ codes "plot" → FlagOnce found.1 (codes "skip-unread")) → Once (Some found)
asked_once found of_check of_timeline of_plot given c d asks also = go c d asks also (ap mark_of (sym (named given found c asks) ∙ named given found d also))
  where
    go : (c d : Command) → SubcommandIs given (Some found) c → SubcommandIs given (Some found) d → mark_of (command_name c) ≡ mark_of (command_name d) → c ≡ d
    go Env Env a b e = refl
    go Run Run a b e = refl
    go (Shrink m) (Shrink n) a b e = ap Shrink (number_one (one_of (codes "budget") found.1) m n a.2 b.2)
    go (Check m) (Check n) a b e = ap Check (check_once given found.1 (of_check a.0).3 (of_check a.0).0 (of_check a.0).1 (of_check a.0).2 m n a.1 b.1)
    go (Search m) (Search n) a b e = ap Search (search_once found.1 m n a.2 b.2)
    go (Timeline m) (Timeline n) a b e = ap Timeline (timeline_once given found.1 (of_timeline a.0).2 (of_timeline a.0).0 (of_timeline a.0).1 m n a.1 b.1)
    go (Plot m) (Plot n) a b e = ap Plot (of_plot a.0 m n a.1 b.1)
    go _ _ a b e = absurd (omega (arith, e))

-- ---- and so do arguments

pub flag_once : (rows : List Row) (id : Text) → ((true ≡ false) × HasNoText rows id) ⊎ HasText rows id false vp.Bool → FlagOnce rows id
flag_once rows id (inl none) a b x y = absurd (true≢false none.0)
flag_once rows id (inr t) a b x y = go (one_of id rows) t.one x y
  where
    either : (p q : Bool) → (p || q) ≡ true → (p ≡ true) ⊎ (q ≡ true)
    either true q e = inl refl
    either false q e = inr e

    go : (o : Option Text) → o ≡ Some t.text → IsFlag o a → IsFlag o b → a ≡ b
    go None e x y = let bad : None ≡ Some t.text = e in cc
    go (Some text) e x y =
        let same : text ≡ t.text = some_same text t.text e in
        elim (either (bytes_eq t.text (codes "true")) (bytes_eq t.text (codes "false")) t.accepted) [
          | inl given ↦ (let is = same ∙ (bytes_eq-Decides t.text (codes "true")).0 given in x.0 is ∙ sym (y.0 is))
          | inr left ↦ (let is = same ∙ (bytes_eq-Decides t.text (codes "false")).0 left in x.1 is ∙ sym (y.1 is))
        ]
