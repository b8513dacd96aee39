use Rattle.std.proofs.Common.{◌≡◌, true, false, None, Some, refl, rules}
use Rattle.std.specs.List.{list_all}
use Rattle.jh_edn.specs.Edn.{mapping, members_of, value_under}
use Rattle.jh_edn.specs.View.{view, view_pair, view_pairs}
use Rattle.jh_env.specs.Text.{has_known_key, nodes_keyword}
use Rattle.jh_env.proofs.TextLemmas.{text_keys-map}
use Rattle.jh_env.proofs.texts.reading.keys_of.Goals as goal

pub returns-then-not-have_known_keys : goal.returns-then-not-have_known_keys
returns-then-not-have_known_keys c =
    let is : view c.args.value.now ≡ mapping (members_of (view_pairs c.as_slice-pairs.result.now)) = search rules in
    let unknown : list_all (λ pair. has_known_key (view_pair pair)) c.as_slice-pairs.result.now ≡ false = search rules in
    rw (is, text_keys-map, unknown) refl

pub returns-in-Some : goal.returns-in-Some
returns-in-Some c =
    let is : view c.args.value.now ≡ mapping (members_of (view_pairs c.as_slice-pairs.result.now)) = search rules in
    let known : list_all (λ pair. has_known_key (view_pair pair)) c.as_slice-pairs.result.now ≡ true = search rules in
    let there : value_under nodes_keyword (view_pairs c.as_slice-pairs.result.now) ≡ Some (view c.in-Some.nodes.now) = search rules in
    rw (is, text_keys-map, known, there) refl

pub returns-in-None : goal.returns-in-None
returns-in-None c =
    let is : view c.args.value.now ≡ mapping (members_of (view_pairs c.as_slice-pairs.result.now)) = search rules in
    let known : list_all (λ pair. has_known_key (view_pair pair)) c.as_slice-pairs.result.now ≡ true = search rules in
    let missing : value_under nodes_keyword (view_pairs c.as_slice-pairs.result.now) ≡ None = search rules in
    rw (is, text_keys-map, known, missing) refl
