-- The laws of the text of an environment.
use Rattle.std.proofs.Common.{◌≡◌, ℕ, ◌+◌, ◌*◌, ◌<◌, Bool, true, false, List, [], length, fold, flat_map, Some, None, Ok, Err, ap, refl, sym, ◌∙◌, arith, subst}
use Rattle.std.specs.Prelude.{if◌then◌else◌, ◌&&◌, ◌==◌, not, nat_lt, slice_index_or}
use Rattle.std.proofs.lemmas.Bool.{and_parts, ltb-true, lt-ltb}
use Rattle.std.proofs.lemmas.Option.{slice_get_within}
use Rattle.jh_edn.specs.Edn.{Edn}
use Rattle.jh_env.specs.Cells.{Table, calm_link, running_node}
use Rattle.jh_env.specs.Overlay.{EnvValue, cells_of, link_of, node_of}
use Rattle.jh_env.specs.declared.names.NodesError.{NodesError}
use Rattle.jh_env.specs.declared.texts.EnvTextError.{EnvTextError}
use Rattle.jh_env.specs.declared.texts.EnvTextError.TheVariants.{NotMap, UnknownKey, MissingNodes, BadEntry, NoNodes, TooManyNodes, BadName, DuplicateName, UnknownNode, SelfLink, BadAmount, RepeatedEntry, OutOfMemory}
use Rattle.jh_env.specs.Names.{AreNodeNames, AreFew, RefusesNames}
use Rattle.jh_env.specs.Text.{sections, Shape, shape_of, text_keys}
use Rattle.jh_env.specs.TextErrors.{AreSound, HasEntryError, HasShape, RefusesEntry, RefusesTextNames, RefusesSpelledEnv}
use Rattle.jh_env.specs.TextCells.{link_after, node_after, AreCellsOf, SpellsEnv}
use Rattle.jh_env.specs.TextLaws.{CanStart, AreSameCells}
use Rattle.jh_env.specs.TextWritten.{entries_written, edn_of_env}
use Rattle.jh_env.proofs.TextReadBackLemmas.{fold_written-link, fold_written-node}
use Rattle.jh_env.proofs.TextShapeLemmas.{text_shape, shape_written}
use Rattle.jh_env.proofs.TextSoundLemmas.{written_sound}
use Rattle.jh_env.proofs.TextWritingLemmas.{at_each_place}

-- whether there is a link from a to b among n nodes
is_pair : ℕ → ℕ → ℕ → Bool
is_pair n a b = nat_lt a n && (nat_lt b n && not (a == b))

parsed_link : (env : EnvValue) (a b : ℕ) → CanStart env
    → link_of env a b ≡ (if is_pair (length (cells_of env).nodes) a b then Some (fold (link_after env.names a b) calm_link (flat_map (entries_written env) sections)) else None)
unfolding is_pair
parsed_link env a b starts =
    let n = length (cells_of env).nodes in
    let here = slice_index_or (cells_of env).links (a * n + b) calm_link in
    elim (nat_lt a n && (nat_lt b n && not (a == b)))
    as (λ t. (nat_lt a n && (nat_lt b n && not (a == b))) ≡ t
    → (if t then Some here else None) ≡ (if t then Some (fold (link_after env.names a b) calm_link (flat_map (entries_written env) sections)) else None)) [
      | true ↦ λ is.
          let p = and_parts (nat_lt a n) (nat_lt b n && not (a == b)) is in
          let q = and_parts (nat_lt b n) (not (a == b)) p.1 in
          let a_below : a < length env.names = omega (arith, ltb-true a n p.0, starts.whole) in
          let b_below : b < length env.names = omega (arith, ltb-true b n q.0, starts.whole) in
          let there : link_of env a b ≡ Some here = ap (λ t. if t then Some here else None) is in
          ap Some (sym (fold_written-link env a b here starts.named a_below b_below there (starts.links a b here there)))
      | false ↦ λ is. refl
    ] refl

parsed_node : (env : EnvValue) (a : ℕ) → CanStart env
    → node_of env a ≡ (if nat_lt a (length (cells_of env).nodes) then Some (fold (node_after env.names a) running_node (flat_map (entries_written env) sections)) else None)
parsed_node env a starts =
    let n = length (cells_of env).nodes in
    elim (node_of env a)
    as (λ o. node_of env a ≡ o → o ≡ (if nat_lt a n then Some (fold (node_after env.names a) running_node (flat_map (entries_written env) sections)) else None)) [
      | Some cell ↦ λ there.
          let below : a < n = slice_get_within (cells_of env).nodes a cell there in
          let a_below : a < length env.names = omega (arith, starts.whole) in
          rw (lt-ltb a n below) (ap Some (sym (fold_written-node env a cell starts.named a_below there)))
      | None ↦ λ none.
          elim (nat_lt a n)
          as (λ t. nat_lt a n ≡ t → None ≡ (if t then Some (fold (node_after env.names a) running_node (flat_map (entries_written env) sections)) else None)) [
            | true ↦ λ is. absurd (at_each_place (cells_of env).nodes a (ltb-true a n is) none)
            | false ↦ λ is. refl
          ] refl
    ] refl

-- the text that is written of an environment that can start means its cells
pub text_reads_back : (env : EnvValue) → CanStart env → SpellsEnv (edn_of_env env) env.names (cells_of env)
unfolding is_pair
text_reads_back env starts =
    let parsed : AreCellsOf env.names (flat_map (entries_written env) sections) (cells_of env) = record {
      links = λ a b. parsed_link env a b starts
          ∙ ap (λ n. if nat_lt a n && (nat_lt b n && not (a == b)) then Some (fold (link_after env.names a b) calm_link (flat_map (entries_written env) sections)) else None) starts.whole;
      nodes = λ a. parsed_node env a starts
          ∙ ap (λ n. if nat_lt a n then Some (fold (node_after env.names a) running_node (flat_map (entries_written env) sections)) else None) starts.whole;
    } in
    (shape_written env, text_shape env, refl, starts.few, starts.named, written_sound env starts, parsed)

same_shape : (value : Edn) (s t : Shape) → HasShape value s → HasShape value t → s ≡ t
same_shape value s t first second =
    let keys : Ok first.0 ≡ Ok second.0 = sym first.1 ∙ second.1 in
    let same : first.0 ≡ second.0 = cc in
    let shapes : Some s ≡ Some t = sym first.2 ∙ ap shape_of same ∙ second.2 in
    cc

no_keys : (value : Edn) (shape : Shape) (e : EnvTextError) → HasShape value shape → text_keys value ≡ Err e → ⊥
no_keys value shape e has refused = let both : Ok has.0 ≡ Err e = sym has.1 ∙ refused in cc

no_error : (value : Edn) (shape : Shape) (e : EnvTextError) → HasShape value shape → AreSound shape.names shape.entries → RefusesEntry value e → ⊥
no_error value shape e has sound refused =
    let same = same_shape value refused.0 shape refused.1 has in
    let wrong : HasEntryError shape.names shape.entries e = subst (λ s. HasEntryError s.names s.entries e) same refused.4 in
    let both : Some e ≡ None = sym wrong.1 ∙ sound wrong.0 in
    cc

refused_names : (value : Edn) (shape : Shape) (e : NodesError) → HasShape value shape → RefusesTextNames value e → RefusesNames shape.names e
refused_names value shape e has refused = subst (λ s. RefusesNames s.names e) (same_shape value refused.0 shape refused.1 has) refused.2

-- a text of an environment is refused only as out of memory
pub text_accepted : (value : Edn) (names : List (List ℕ)) (cells : Table) (e : EnvTextError) → SpellsEnv value names cells → RefusesSpelledEnv value e → e ≡ OutOfMemory
text_accepted value names cells e text refused =
    by_error e (subst AreFew (sym text.2) text.3) (subst AreNodeNames (sym text.2) text.4) (subst (λ ns. AreSound ns text.0.entries) (sym text.2) text.5) refused
  where
    by_error : (f : EnvTextError) → AreFew text.0.names → AreNodeNames text.0.names → AreSound text.0.names text.0.entries → RefusesSpelledEnv value f → f ≡ OutOfMemory
    by_error NotMap few named sound r = absurd (no_keys value text.0 NotMap text.1 r)
    by_error UnknownKey few named sound r = absurd (no_keys value text.0 UnknownKey text.1 r)
    by_error MissingNodes few named sound r = absurd (no_keys value text.0 MissingNodes text.1 r)
    by_error BadEntry few named sound r =
        let keys : Ok r.0 ≡ Ok text.1.0 = sym r.1 ∙ text.1.1 in
        let same : r.0 ≡ text.1.0 = cc in
        let both : None ≡ Some text.0 = sym r.2 ∙ ap shape_of same ∙ text.1.2 in
        absurd cc
    by_error NoNodes few named sound r =
        let none : text.0.names ≡ [] = refused_names value text.0 NodesError.NoNodes text.1 r in
        absurd (omega (arith, few.0, ap length none))
    by_error TooManyNodes few named sound r = absurd (omega (arith, few.1, refused_names value text.0 NodesError.TooManyNodes text.1 r))
    by_error BadName few named sound r =
        let bad = (refused_names value text.0 NodesError.BadName text.1 r).1 in
        let both : true ≡ false = sym (named bad.0 bad.1 bad.2 bad.3).0 ∙ bad.5 in
        absurd cc
    by_error DuplicateName few named sound r =
        let bad = (refused_names value text.0 NodesError.DuplicateName text.1 r).1 in
        let both : false ≡ true = sym (named bad.0 bad.1 bad.2 bad.3).1 ∙ bad.5.1 in
        absurd cc
    by_error UnknownNode few named sound r = absurd (no_error value text.0 UnknownNode text.1 sound r)
    by_error SelfLink few named sound r = absurd (no_error value text.0 SelfLink text.1 sound r)
    by_error BadAmount few named sound r = absurd (no_error value text.0 BadAmount text.1 sound r)
    by_error RepeatedEntry few named sound r = absurd (no_error value text.0 RepeatedEntry text.1 sound r)
    by_error OutOfMemory few named sound r = refl

-- a text means the cells of one environment
pub text_means_one : (value : Edn) (names others : List (List ℕ)) (cells more : Table) → SpellsEnv value names cells → SpellsEnv value others more
    → (others ≡ names) × AreSameCells cells more
text_means_one value names others cells more first second =
    let same = same_shape value first.0 second.0 first.1 second.1 in
    let named : others ≡ names = sym second.2 ∙ sym (ap (λ s. s.names) same) ∙ first.2 in
    let parsed : AreCellsOf names first.0.entries more =
    subst (λ ns. AreCellsOf ns first.0.entries more) named (subst (λ es. AreCellsOf others es more) (sym (ap (λ s. s.entries) same)) second.6) in (
      named,
      record {
        links = λ a b. first.6.links a b ∙ sym (parsed.links a b);
        nodes = λ a. first.6.nodes a ∙ sym (parsed.nodes a);
      },
    )
