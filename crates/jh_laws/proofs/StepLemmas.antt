-- What is written of a step means that step, with its fault in order, and can be printed.
use Rattle.std.proofs.Common.{◌≡◌, ℕ, ◌<◌, ◌≤◌, ◌^◌, false, true, List, [], ◌∷◌, length, map, codes, Option, Some, None, Ok, refl, sym, ap, ◌∙◌, arith}
use Rattle.std.specs.Prelude.{ℤ, pos, negsuc, FitsSigned, Result}
use Rattle.std.specs.Int.{w64}
use Rattle.std.specs.List.{All, AllByRecursion, list_any}
use Rattle.std.proofs.lemmas.List.Elements.{All-map, All-weaker}
use Rattle.std.proofs.lemmas.Bool.{lt-ltb, or_parts, eq-eqb, true≢false}
use Rattle.std.proofs.lemmas.Int.{ints}
use Rattle.jh_edn.specs.Bytes.{is_first, is_symbol, is_digit}
use Rattle.jh_edn.specs.Edn.{Edn, str, items_of, members_of}
use Rattle.jh_edn.specs.Equality.{IsNew, KeysDiffer, keys_of}
use Rattle.jh_edn.specs.Order.{in_order}
use Rattle.jh_edn.specs.Printable.{IsPrintable, ArePrintable, ArePrintablePairs}
use Rattle.jh_edn.specs.Spelling.{depth_limit, is_name}
use Rattle.jh_env.specs.Faults.{FaultValue, IsBumpAmount, is_same_bumped}
use Rattle.jh_env.specs.Faults.{Cut, Slow, Loss, Fix, Pause, Kill, Bump}
use Rattle.jh_step_texts.specs.FaultWritten.{is_link_before, is_node_before, is_bump_before, edn_of_name, edn_of_link, edn_of_links, edn_of_bump, edn_of_fault}
use Rattle.jh_env.specs.Names.{AreNodeNames}
use Rattle.jh_env.specs.TextErrors.{place_of}
use Rattle.jh_step_texts.specs.StepText.{parsed_step}
use Rattle.jh_step_texts.specs.StepWritten.{edn_of_step}
use Rattle.jh_nemesis.specs.declared.steps.Step.{Step}
use Rattle.jh_step_texts.specs.declared.steps.StepTextError.{StepTextError}
use Rattle.jh_nemesis.specs.declared.steps.Step.TheVariants.{Begin, Withdraw, WithdrawAll, Undo, Redo}
use Rattle.jh_laws.specs.StepLines.{IsFaultOn, IsStepOver, step_in_order}
use Rattle.jh_laws.proofs.DepthLemmas.{deeper}
use Rattle.jh_laws.proofs.OrderLemmas.{Apart}
use Rattle.jh_laws.proofs.FaultLemmas.{LinksKept, NodesKept, fault_again, place_again, known_bumps, right_bumps, apart_bumps}

-- ---- what is parsed

pub step_again : LinksKept → NodesKept → (names : List (List ℕ)) → AreNodeNames names → (step : Step) → IsStepOver (length names) step
    → parsed_step names (edn_of_step names step) ≡ Ok (step_in_order step)
step_again links_kept nodes_kept names named (Begin id fault) h =
    let parsed = fault_again links_kept nodes_kept names named fault h.1 in
    rw (parsed.1, lt-ltb id (2 ^ 32) h.0, parsed.2) refl
step_again links_kept nodes_kept names named (Withdraw id) h = rw (lt-ltb id (2 ^ 32) h) refl
step_again links_kept nodes_kept names named WithdrawAll h = refl
step_again links_kept nodes_kept names named Undo h = refl
step_again links_kept nodes_kept names named Redo h = refl

-- ---- what can be printed of a fault

one : 0 < 1
one = omega arith

two : 0 < 2
two = omega arith

three : 0 < 3
three = omega arith

small : (n : ℕ) → n ≤ 2 ^ 32 → FitsSigned w64 (pos n)
small n h = record { sfits = omega (arith, h) }

links_printable : (names : List (List ℕ)) (links : List (ℕ × ℕ)) → ArePrintable 1 (items_of (map (edn_of_link names) links))
links_printable names [] = tt
links_printable names (l ∷ ls) = ((one, (tt, (tt, tt))), links_printable names ls)

nodes_printable : (names : List (List ℕ)) (nodes : List ℕ) → ArePrintable 1 (items_of (map (edn_of_name names) nodes))
nodes_printable names [] = tt
nodes_printable names (n ∷ ns) = (tt, nodes_printable names ns)

bump_fits : (z : ℤ) → IsBumpAmount z → FitsSigned w64 z
bump_fits (pos n) h = record { sfits = omega (arith, ints, h.2) }
bump_fits (negsuc n) h = record { sfits = omega (arith, ints, h.1) }

bumps_printable : (names : List (List ℕ)) (bumps : List (ℕ × ℤ)) → AllByRecursion (λ b. IsBumpAmount b.1) bumps
    → ArePrintablePairs 1 (members_of (map (edn_of_bump names) bumps))
bumps_printable names [] right = tt
bumps_printable names (b ∷ bs) right = (tt, bump_fits b.1 right.0, bumps_printable names bs right.1)

abbrev text_in : Edn → List ℕ
text_in (str text) = text
text_in _ = []

abbrev number_in : Option ℕ → ℕ
number_in None = 0
number_in (Some n) = n

-- different nodes have different names
same_place : (names : List (List ℕ)) → AreNodeNames names → (a b : ℕ) → a < length names → b < length names → edn_of_name names a ≡ edn_of_name names b → a ≡ b
same_place names named a b a_below b_below same =
    ap number_in (sym (place_again names named a a_below) ∙ ap (λ v. place_of names (text_in v)) same ∙ place_again names named b b_below)

bump_new : (names : List (List ℕ)) → AreNodeNames names → (b : ℕ × ℤ) (bumps : List (ℕ × ℤ)) → b.0 < length names → AllByRecursion (λ x. x.0 < length names) bumps
    → list_any (is_same_bumped b) bumps ≡ false → IsNew (edn_of_name names b.0) (keys_of (members_of (map (edn_of_bump names) bumps)))
bump_new names named b [] below known none = tt
bump_new names named b (x ∷ xs) below known none =
    let parts = or_parts (is_same_bumped b x) (list_any (is_same_bumped b) xs) none in (
      λ same. true≢false (sym (eq-eqb b.0 x.0 (same_place names named b.0 x.0 below known.0 (sym same))) ∙ parts.0),
      bump_new names named b xs below known.1 parts.1,
    )

bumps_differ : (names : List (List ℕ)) → AreNodeNames names → (bumps : List (ℕ × ℤ)) → AllByRecursion (λ b. b.0 < length names) bumps → Apart is_same_bumped bumps
    → KeysDiffer (members_of (map (edn_of_bump names) bumps))
bumps_differ names named [] known apart = tt
bumps_differ names named (b ∷ bs) known apart = (bump_new names named b bs known.0 known.1 apart.0, bumps_differ names named bs known.1 apart.1)

cut_is : is_name (codes "cut") ≡ true
unfolding is_name is_first is_symbol is_digit
cut_is = refl

slow_is : is_name (codes "slow") ≡ true
unfolding is_name is_first is_symbol is_digit
slow_is = refl

loss_is : is_name (codes "loss") ≡ true
unfolding is_name is_first is_symbol is_digit
loss_is = refl

fix_is : is_name (codes "fix") ≡ true
unfolding is_name is_first is_symbol is_digit
fix_is = refl

pause_is : is_name (codes "pause") ≡ true
unfolding is_name is_first is_symbol is_digit
pause_is = refl

kill_is : is_name (codes "kill") ≡ true
unfolding is_name is_first is_symbol is_digit
kill_is = refl

bump_is : is_name (codes "bump") ≡ true
unfolding is_name is_first is_symbol is_digit
bump_is = refl

begin_is : is_name (codes "begin") ≡ true
unfolding is_name is_first is_symbol is_digit
begin_is = refl

withdraw_is : is_name (codes "withdraw") ≡ true
unfolding is_name is_first is_symbol is_digit
withdraw_is = refl

withdraw_all_is : is_name (codes "withdraw-all") ≡ true
unfolding is_name is_first is_symbol is_digit
withdraw_all_is = refl

undo_is : is_name (codes "undo") ≡ true
unfolding is_name is_first is_symbol is_digit
undo_is = refl

redo_is : is_name (codes "redo") ≡ true
unfolding is_name is_first is_symbol is_digit
redo_is = refl

some_depth : 0 < depth_limit
some_depth = omega arith

module _ (names : List (List ℕ)) (named : AreNodeNames names) where
  links_there : (links : List (ℕ × ℕ)) → IsPrintable 2 (edn_of_links names links)
  links_there links = (two, links_printable names links)

  fault_printable : (fault : FaultValue) → IsFaultOn (length names) fault → IsPrintable 3 (edn_of_fault names fault)
  fault_printable (Cut links) h = (three, (cut_is, (links_there (in_order is_link_before links), tt)))
  fault_printable (Slow ms links) h = (three, (slow_is, (small ms (omega (arith, h.is_fault.0.1)), (links_there (in_order is_link_before links), tt))))
  fault_printable (Loss level links) h = (three, (loss_is, (small level (omega (arith, h.is_fault.0.1)), (links_there (in_order is_link_before links), tt))))
  fault_printable (Fix ms links) h = (three, (fix_is, (small ms (omega (arith, h.is_fault.0)), (links_there (in_order is_link_before links), tt))))
  fault_printable (Pause nodes) h = (three, (pause_is, ((two, nodes_printable names (in_order is_node_before nodes)), tt)))
  fault_printable (Kill nodes) h = (three, (kill_is, ((two, nodes_printable names (in_order is_node_before nodes)), tt)))
  fault_printable (Bump bumps) h =
      let bs = in_order is_bump_before bumps in
      let differ = bumps_differ names named bs (known_bumps (length names) bumps h.fits) (apart_bumps bumps h.is_fault.1) in
      (three, (bump_is, ((two, bumps_printable names bs (right_bumps bumps h.is_fault.0), differ), tt)))

  pub fault_prints : (fault : FaultValue) → IsFaultOn (length names) fault → IsPrintable depth_limit (edn_of_fault names fault)
  fault_prints fault h = deeper (edn_of_fault names fault) 3 depth_limit (omega arith) (fault_printable fault h)

  pub step_prints : (step : Step) → IsStepOver (length names) step → IsPrintable depth_limit (edn_of_step names step)
  step_prints (Begin id fault) h = (some_depth, (begin_is, (small id (omega (arith, h.0)), (deeper (edn_of_fault names fault) 3 63 (omega arith) (fault_printable fault h.1), tt))))
  step_prints (Withdraw id) h = (some_depth, (withdraw_is, (small id (omega (arith, h)), tt)))
  step_prints WithdrawAll h = (some_depth, (withdraw_all_is, tt))
  step_prints Undo h = (some_depth, (undo_is, tt))
  step_prints Redo h = (some_depth, (redo_is, tt))

-- ---- several steps

pub steps_again : LinksKept → NodesKept → (names : List (List ℕ)) → AreNodeNames names → (steps : List Step) → AllByRecursion (IsStepOver (length names)) steps
    → map (parsed_step names) (map (edn_of_step names) steps) ≡ map Ok (map step_in_order steps)
steps_again links_kept nodes_kept names named [] all = refl
steps_again links_kept nodes_kept names named (step ∷ steps) all =
    let here = step_again links_kept nodes_kept names named step all.0 in
    let behind = steps_again links_kept nodes_kept names named steps all.1 in
    λ i. here i ∷ behind i

pub steps_print : (names : List (List ℕ)) → AreNodeNames names → (steps : List Step) → All (IsStepOver (length names)) steps
    → All (IsPrintable depth_limit) (map (edn_of_step names) steps)
steps_print names named steps all =
    All-map (IsPrintable depth_limit) (edn_of_step names) steps
    (All-weaker (IsStepOver (length names)) (λ step. IsPrintable depth_limit (edn_of_step names step)) (λ step h. step_prints names named step h) steps all)

abbrev pub oks : List Step → List (Result Step StepTextError)
oks steps = map Ok steps

-- steps that are the same answers are the same
pub one_list : (steps others : List Step) → oks others ≡ oks steps → others ≡ steps
one_list [] [] same = refl
one_list [] (other ∷ others) same = absurd cc
one_list (step ∷ steps) [] same = absurd cc
one_list (step ∷ steps) (other ∷ others) same =
    let first : other ≡ step = cc in
    let behind : others ≡ steps = one_list steps others cc in
    λ i. first i ∷ behind i
