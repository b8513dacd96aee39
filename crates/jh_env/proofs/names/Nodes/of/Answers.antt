use Rattle.std.proofs.Common.{◌≡◌, ℕ, ◌<◌, ◌≤◌, ◌∙◌, List, ap, arith, get_or, length, map, rules, sym, take, below_more, []}
use Rattle.std.specs.String.{string_bytes}
use Rattle.std.proofs.lemmas.List.{append-nil, get_or-map, length-map, map_more, take-map, take_all}
use Rattle.jh_env.specs.Names.{AreFew, AreNodeNames, RefusesName}
use Rattle.jh_env.proofs.NameLemmas.{above_nought, node_names, refused_at}
use Rattle.jh_env.proofs.names.Nodes.of.Goals as goal

pub returns-in_err-add_name : goal.returns-in_err-add_name
returns-in_err-add_name c =
    let all : List (List ℕ) = map (λ s. s.now) c.args.names.now in
    let i = c.loop-name.name-index in
    let size : length all ≡ length c.args.names.now = length-map c.args.names.now (λ s. s.now) in
    let few : AreFew all = rw size (above_nought (length c.args.names.now) c.if-is_empty.ensures, c.if-names-gt-MAX_NODES.false) in
    let first : map string_bytes c.loop-name.set.keys ≡ take i all = c.loop-name.invariant.same ∙ sym (take-map (λ s. s.now) i c.args.names.now) in
    let refuses : RefusesName (take i all) (get_or all i []) c.in_err-add_name.field-0.0 =
    rw (← first, get_or-map (λ s. s.now) c.args.names.now i (record { ref_ptr = (0, 0); now = [] }) [] c.loop-name-test.true) c.in_err-add_name.ensures in
    let below : i < length all = rw size c.loop-name-test.true in
    let refused = refused_at all i c.in_err-add_name.field-0.0 few below c.loop-name.invariant.good refuses in
    search rules

pub loop-name-preserved : goal.loop-name-preserved
loop-name-preserved c =
    let all : List (List ℕ) = map (λ s. s.now) c.args.names.now in
    let i = c.loop-name.name-index in
    let first : map string_bytes c.loop-name.set.keys ≡ take i all = c.loop-name.invariant.same ∙ sym (take-map (λ s. s.now) i c.args.names.now) in
    record {
      same = c.in_ok-add_name.ensures.0 ∙ rw c.loop-name.invariant.same (sym (map_more (λ s. s.now) c.args.names.now i (record { ref_ptr = (0, 0); now = [] }) c.loop-name-test.true));
      good = below_more _ _ c.loop-name.invariant.good
          (rw (← first, get_or-map (λ s. s.now) c.args.names.now i (record { ref_ptr = (0, 0); now = [] }) [] c.loop-name-test.true) c.in_ok-add_name.ensures.1);
    }

pub returns : goal.returns
returns c =
    let all : List (List ℕ) = map (λ s. s.now) c.args.names.now in
    let i = c.loop-name.name-index in
    let size : length all ≡ length c.args.names.now = length-map c.args.names.now (λ s. s.now) in
    let few : AreFew all = rw size (above_nought (length c.args.names.now) c.if-is_empty.ensures, c.if-names-gt-MAX_NODES.false) in
    let done : length c.args.names.now ≤ i = omega (arith, c.loop-name-test.false) in
    let same : map string_bytes c.loop-name.set.keys ≡ all = c.loop-name.invariant.same ∙ ap (map (λ s. s.now)) (take_all i c.args.names.now done) in
    let good : AreNodeNames all = node_names all all [] i (sym (append-nil all)) (omega arith) c.loop-name.invariant.good in
    (same, rw same good, rw same few)

pub invariant_of-result : goal.invariant_of-result
invariant_of-result c =
    let all : List (List ℕ) = map (λ s. s.now) c.args.names.now in
    let i = c.loop-name.name-index in
    let size : length all ≡ length c.args.names.now = length-map c.args.names.now (λ s. s.now) in
    let done : length c.args.names.now ≤ i = omega (arith, c.loop-name-test.false) in
    let same : map string_bytes c.loop-name.set.keys ≡ all = c.loop-name.invariant.same ∙ ap (map (λ s. s.now)) (take_all i c.args.names.now done) in
    let good : AreNodeNames all = node_names all all [] i (sym (append-nil all)) (omega arith) c.loop-name.invariant.good in
    let count : length c.loop-name.set.keys ≡ length c.args.names.now = sym (length-map c.loop-name.set.keys string_bytes) ∙ (ap length same ∙ size) in
    (rw count (above_nought (length c.args.names.now) c.if-is_empty.ensures), rw count c.if-names-gt-MAX_NODES.false, rw same good)
