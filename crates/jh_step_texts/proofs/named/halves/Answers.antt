use Rattle.std.proofs.Common.{◌≡◌, ◌/◌, [], ◌∷◌, ◌++◌, length, ◌∙◌, ap}
use Rattle.std.specs.Prelude.{nat_lt}
use Rattle.std.proofs.lemmas.List.{append-nil}
use Rattle.jh_grudge.specs.Grudges.{CompleteDrops}
use Rattle.jh_grudge.specs.Lists.{first_half, second_half}
use Rattle.jh_env.specs.Names.{node_places}
use Rattle.jh_step_texts.specs.NamedFaults.{crosses_halves}
use Rattle.jh_step_texts.proofs.GrudgeLemmas.{places_apart, halves_exact, made_of, made_crossing}
use Rattle.jh_step_texts.proofs.named.halves.Goals as goal

pub complete_grudge-requires : goal.complete_grudge-requires
complete_grudge-requires c =
    let n = length c.args.nodes.now in
    let all : c.deref.result.now ≡ node_places n = c.deref.ensures.value ∙ c.in_ok-all.ensures in
    let whole : c.in_ok-first.first.items ++ (c.in_ok-second.second.items ++ []) ≡ node_places n =
    rw (append-nil c.in_ok-second.second.items, c.in_ok-first.ensures.items, c.in_ok-second.ensures.items) (c.bisect.ensures.whole ∙ all) in
    rw whole (places_apart n)

pub returns : goal.returns
returns c =
    let n = length c.args.nodes.now in
    let all : c.deref.result.now ≡ node_places n = c.deref.ensures.value ∙ c.in_ok-all.ensures in
    let first : c.in_ok-first.first.items ≡ first_half (node_places n) = c.in_ok-first.ensures.items ∙ c.bisect.ensures.first ∙ ap first_half all in
    let second : c.in_ok-second.second.items ≡ second_half (node_places n) = c.in_ok-second.ensures.items ∙ c.bisect.ensures.second ∙ ap second_half all in
    let made = made_of c.complete_grudge.result _ (CompleteDrops (c.in_ok-first.first.items ∷ c.in_ok-second.second.items ∷ [])) (crosses_halves n) n (rw (first, second) (halves_exact n))
    c.complete_grudge.ensures.links c.complete_grudge.ensures.ascending in record {
      links = made;
      among = made_crossing c.complete_grudge.result (λ a. nat_lt a (n / 2)) n made;
    }
