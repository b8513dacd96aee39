use Rattle.std.proofs.Common.{◌≡◌, sym, subst, refl, rules}
use Rattle.jh_ops.specs.Operation.{operations}
use Rattle.jh_independent.specs.FoundInside.{IsFoundSoFar}
use Rattle.jh_independent.specs.Refusals.{RefusesKeys, keys_question}
use Rattle.jh_independent.proofs.FoundLemmas.{first_places, keys_refused, none_found, one_more}
use Rattle.jh_independent.proofs.serial.check_keys_serial.Goals as goal

pub loop-group-init : goal.loop-group-init
loop-group-init c =
    let asked = keys_question c.args.judging (operations c.args.history.now) in
    let groups = c.in_ok-groups.groups.items in
    let all : c.into_iter-group-iterator.result.rest.items ≡ groups = search rules in
    subst (λ rest. IsFoundSoFar asked c.in_ok-found.found.items rest) (sym all)
    (subst (λ found. IsFoundSoFar asked found groups) (sym c.in_ok-found.ensures.items) (none_found asked groups c.in_ok-groups.ensures.1))

pub check_key-requires : goal.check_key-requires
check_key-requires c =
    let asked = keys_question c.args.judging (operations c.args.history.now) in
    let rest = c.next.new.self.rest.items in
    first_places asked c.loop-group.found.items c.in-Some.group rest
    (subst (λ rest. IsFoundSoFar asked c.loop-group.found.items rest) c.in-Some.ensures.steps.0 c.loop-group.invariant)

pub returns-in_err-finding-clause-found : goal.returns-in_err-finding-clause-found
returns-in_err-finding-clause-found c =
    let asked = keys_question c.args.judging (operations c.args.history.now) in
    let rest = c.next.new.self.rest.items in
    let refused : RefusesKeys asked c.in_err-finding.field-0.0 =
    keys_refused asked c.loop-group.found.items c.in-Some.group rest c.in_err-finding.field-0.0 c.in_ok-groups.ensures.0
    (subst (λ rest. IsFoundSoFar asked c.loop-group.found.items rest) c.in-Some.ensures.steps.0 c.loop-group.invariant) c.in_err-finding.ensures.judged in
    search (rules, refused)

pub loop-group-preserved : goal.loop-group-preserved
loop-group-preserved c =
    let asked = keys_question c.args.judging (operations c.args.history.now) in
    let rest = c.next.new.self.rest.items in
    subst (λ found. IsFoundSoFar asked found rest) (sym c.in_ok-push.ensures.items)
    (one_more asked c.loop-group.found.items c.in-Some.group rest _
    (subst (λ rest. IsFoundSoFar asked c.loop-group.found.items rest) c.in-Some.ensures.steps.0 c.loop-group.invariant) refl c.in_ok-finding.ensures.judged)
