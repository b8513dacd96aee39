use Rattle.std.proofs.Common.{◌≡◌, ℕ, true, List, All, ap, subst, length, ◌∙◌, sym}
use Rattle.std.proofs.lemmas.Bool.{true≢false}
use Rattle.jh_env.specs.Names.{node_places}
use Rattle.jh_settings_texts.specs.StartInside.{MayStartLink, MayStartNode}
use Rattle.jh_settings_texts.proofs.StartingLemmas.{all_starting, links_starting, nodes_starting}
use Rattle.jh_settings_texts.proofs.start.may_start.Goals as goal

pub returns-then-all_links_may_start : goal.returns-then-all_links_may_start
returns-then-all_links_may_start c =
    let env = c.args.env.now in
    let names = ap (λ (names : List (List ℕ)). node_places (length names)) c.nodes.ensures.names in
    let same = c.as_slice.ensures.value ∙ c.all-nodes.ensures.all ∙ names in
    let again = c.as_slice-then-all_links_may_start.ensures.value ∙ c.all-nodes.ensures.all ∙ names in
    let links = subst (λ places. All (λ from. All (MayStartLink env from) places) places) same (c.all_links_may_start.ensures.0 c.if-all_links_may_start.true) in (
      λ is. all_starting env c.nodes.ensures.whole links (subst (All (MayStartNode env)) again (c.nodes_may_start.ensures.0 is)),
      λ starting. c.nodes_may_start.ensures.1 (nodes_starting env starting c.as_slice-then-all_links_may_start.result.now),
    )

pub returns-else-all_links_may_start : goal.returns-else-all_links_may_start
returns-else-all_links_may_start c =
    let env = c.args.env.now in
    let names = ap (λ (names : List (List ℕ)). node_places (length names)) c.nodes.ensures.names in
    let same = c.as_slice.ensures.value ∙ c.all-nodes.ensures.all ∙ names in
    let told : All (λ from. All (MayStartLink env from) c.as_slice.result.now) c.as_slice.result.now → c.all_links_may_start.result ≡ true = c.all_links_may_start.ensures.1 in (
      λ is. absurd (true≢false (sym is ∙ c.if-all_links_may_start.false)),
      λ starting. told (links_starting env starting c.as_slice.result.now),
    )
