-- One candidate more that was tried and does not fail.
use Rattle.std.proofs.Common.{◌≡◌, ℕ, ◌+◌, ◌<◌, ◌≤◌, false, List, [], ◌∷◌, ◌++◌, length, get_or, refl, sym, ap, subst, ◌∙◌, inl, inr, arith}
use Rattle.std.specs.Prelude.{◌≢◌, IfOk, Option, Some, None, Result, Ok, slice_get, unwrap_or}
use Rattle.std.proofs.lemmas.Bool.{cases_eq, false≢true}
use Rattle.std.proofs.lemmas.List.{get_or_append_left, get_or_default, get_or_push, length_push}
use Rattle.std.proofs.lemmas.List.Elements.{All-push}
use Rattle.std.proofs.lemmas.List.Sums.{count_by-le-length}
use Rattle.std.proofs.lemmas.Option.{slice_get_read}
use Rattle.jh_tasks.specs.Answers.{AreDone, AreTaskAnswers, HasLastBefore}
use Rattle.jh_simnode.proofs.EventCountLemmas.{count_yes, count_no}
use Rattle.jh_simnode.specs.Plans.{PlanValue}
use Rattle.jh_search.specs.declared.options.Options.{Options}
use Rattle.jh_check.specs.declared.verdict.Verdict.{Verdict}
use Rattle.jh_check.specs.declared.verdict.Verdict.TheVariants.{False, True, Unknown}
use Rattle.jh_check.specs.Verdicts.{is_unknown}
use Rattle.jh_search.specs.Search.{ArePlanVerdicts, ComesOf, IsSearched}
use Rattle.jh_search.specs.SearchInside.{GoesOn, HasTried, ends_search}

-- the verdicts on the candidates, with that on the next
verdicts_more : (p : PlanValue) (options : Options) (from : ℕ) (verdicts : List Verdict) (o : Verdict) → ArePlanVerdicts p options from verdicts
    → ComesOf p options (from + length verdicts) o → ArePlanVerdicts p options from (verdicts ++ o ∷ [])
verdicts_more p options from verdicts o come next index d below =
    let longer = length_push verdicts o in
    elim (cases_eq index (length verdicts)) [
      | inl last ↦ subst (ComesOf p options (from + index)) (sym (get_or_push verdicts o d index (sym last)))
          (subst (λ n. ComesOf p options (from + n) o) (sym last) next)
      | inr other ↦ (let low : index < length verdicts = omega (arith, below, longer, other) in
          subst (ComesOf p options (from + index)) (sym (get_or_append_left verdicts (o ∷ []) d index low)) (come index d low))
    ]

pub passed_more : (p : PlanValue) (options : Options) (tried unknown : ℕ) → HasTried p options tried unknown
    → ComesOf p options (options.from + tried) True → HasTried p options (tried + 1) unknown
passed_more p options tried unknown (verdicts, are, long) comes = (
  verdicts ++ True ∷ [],
  record {
    come = verdicts_more p options options.from verdicts True are.come (subst (λ n. ComesOf p options (options.from + n) True) (sym long) comes);
    none_fails = All-push (λ verdict. verdict ≢ False) verdicts True are.none_fails (λ same. absurd cc);
    counted = are.counted ∙ sym (count_no is_unknown verdicts True refl);
  },
  length_push verdicts True ∙ (omega (arith, long)),
)

pub unknown_more : (p : PlanValue) (options : Options) (tried unknown : ℕ) → HasTried p options tried unknown
    → ComesOf p options (options.from + tried) Unknown → HasTried p options (tried + 1) (unknown + 1)
unknown_more p options tried unknown (verdicts, are, long) comes = (
  verdicts ++ Unknown ∷ [],
  record {
    come = verdicts_more p options options.from verdicts Unknown are.come (subst (λ n. ComesOf p options (options.from + n) Unknown) (sym long) comes);
    none_fails = All-push (λ verdict. verdict ≢ False) verdicts Unknown are.none_fails (λ same. absurd cc);
    counted = (let counted = are.counted in let one = count_yes is_unknown verdicts Unknown refl in omega (arith, counted, one));
  },
  length_push verdicts Unknown ∙ (omega (arith, long)),
)

-- no more are unknown than were tried
pub unknown_few : (p : PlanValue) (options : Options) (tried unknown : ℕ) → HasTried p options tried unknown → unknown ≤ tried
unknown_few p options tried unknown (verdicts, are, long) =
    let counted = are.counted in
    let few = count_by-le-length is_unknown verdicts in
    omega (arith, counted, few, long)

-- before the first
pub none_tried : (p : PlanValue) (options : Options) → HasTried p options 0 0
none_tried p options = (
  [],
  record {
    come = λ index d below. absurd (omega (arith, below));
    none_fails = λ index d below. absurd (omega (arith, below));
    counted = refl;
  },
  refl,
)

-- what an answer of a block says of its candidate
pub answer_comes : {E : Type 0} (p : PlanValue) (options : Options) (from : ℕ) (answers : List (Option (Result Verdict E))) (index : ℕ) (verdict : Verdict)
    → AreTaskAnswers (length answers) (λ i answer. IfOk answer (ComesOf p options (from + i))) answers → index < length answers
    → get_or answers index None ≡ Some (Ok verdict) → ComesOf p options (from + index) verdict
answer_comes p options from answers index verdict are below at =
    are.each index (Ok verdict) (slice_get_read answers _ index (Some (Ok verdict)) refl below (sym at ∙ get_or_default answers index None (Some (Ok verdict)) below))

-- the answer at a place, read there
there : {E : Type 0} (answers : List (Option (Result Verdict E))) (place : ℕ) (answer : Option (Result Verdict E)) → place < length answers
    → get_or answers place None ≡ answer → slice_get answers place ≡ Some answer
there answers place answer below at = slice_get_read answers _ place answer refl below (sym at ∙ get_or_default answers place None answer below)

goes_on_behind : (E : Type 0) (verdict : Verdict) → verdict ≢ False → ends_search {E = E} (Ok verdict) ≡ false
goes_on_behind E True other = refl
goes_on_behind E Unknown other = refl
goes_on_behind E False other = absurd (other refl)

pub goes_further : {E : Type 0} (answers : List (Option (Result Verdict E))) (place : ℕ) (verdict : Verdict) → GoesOn answers place → place < length answers
    → get_or answers place None ≡ Some (Ok verdict) → verdict ≢ False → GoesOn answers (place + 1)
goes_further {E} answers place verdict before below at other earlier answer less here =
    elim (cases_eq earlier place) [
      | inl last ↦ (let given : Option (Result Verdict E) = Some (Ok verdict) in let same : Some (Some answer) ≡ Some given = sym here ∙ ap (slice_get answers) last ∙ there answers place (Some (Ok verdict)) below at in
          ap (λ (o : Option (Option (Result Verdict E))). ends_search (unwrap_or (unwrap_or o (Some answer)) answer)) same ∙ goes_on_behind E verdict other)
      | inr apart ↦ before earlier answer (omega (arith, less, apart)) here
    ]

-- where all are done, no answer is missing before one that ends the search
pub none_missing : {E : Type 0} (answers : List (Option (Result Verdict E))) (place : ℕ) → AreDone ends_search answers → GoesOn answers place → place < length answers
    → get_or answers place None ≡ None → ⊥
none_missing {E} answers place done before below at = behind (done place (there answers place None below at))
  where
    behind : HasLastBefore ends_search answers place → ⊥
    behind (earlier, answer, less, here, last) = absurd (false≢true (sym (before earlier answer less here) ∙ last))

-- the first that fails ends the search
pub first_found : (p : PlanValue) (options : Options) (tried unknown : ℕ) → HasTried p options tried unknown → tried < options.runs
    → ComesOf p options (options.from + tried) False
    → IsSearched p options (record { failing = Some (options.from + tried); unknown = unknown })
first_found p options tried unknown (verdicts, are, long) left fails =
    (verdicts, are, (omega (arith, long), omega (arith, long, left), fails))
