-- The text that is written has the shape of what is written.
use Rattle.std.proofs.Common.{◌≡◌, ℕ, List, [], ◌∷◌, map, flat_map, Option, Some, option_map, ap, refl, ◌∙◌}
use Rattle.std.specs.Prelude.{All}
use Rattle.std.proofs.lemmas.List.{map-id}
use Rattle.std.proofs.lemmas.List.Elements.{All-head, All-tail}
use Rattle.jh_edn.specs.Edn.{str, keyword, vector, items_of}
use Rattle.jh_tables.specs.declared.cells.Life.{Life}
use Rattle.jh_tables.specs.declared.cells.Life.TheVariants.{Running, Paused, Killed}
use Rattle.jh_tables.specs.declared.cells.Link.{Link}
use Rattle.jh_tables.specs.declared.cells.NodeCell.{NodeCell}
use Rattle.jh_env.specs.declared.texts.entries.Section.{Section}
use Rattle.jh_env.specs.declared.texts.entries.LinkChange.{LinkChange}
use Rattle.jh_env.specs.declared.texts.entries.NodeChange.{NodeChange}
use Rattle.jh_env.specs.Overlay.{EnvValue}
use Rattle.jh_env.specs.Text.{◌>>=◌, OfLink, OfNode, Keys, Shape, each_of, text_of_string, names_of, entry_in, entries_of, entries_under, all_entries, nodes_keyword, sections}
use Rattle.jh_env.specs.TextErrors.{HasShape}
use Rattle.jh_env.specs.TextWritten.{link_change, node_change, life_change, entries_written, edn_of_entry, section_pair, edn_of_env}
use Rattle.jh_edn.proofs.CitedLemmas.{list_of-items_of}
use Rattle.jh_env.proofs.TextLemmas.{each_of-map}
use Rattle.jh_env.proofs.TextSoundLemmas.{link_parts, node_parts, if_gives, unless_gives, all_written}

-- each means itself
each_of-itself : {A : Type 0} (f : A → Option A) (xs : List A) → All (λ x. f x ≡ Some x) xs → each_of f xs ≡ Some xs
each_of-itself f [] all = refl
each_of-itself f (x ∷ xs) all =
    ap (λ o. o >>= (λ y. each_of f xs >>= (λ ys. Some (y ∷ ys)))) (All-head (λ y. f y ≡ Some y) x xs all)
    ∙ ap (λ o. o >>= (λ ys. Some (x ∷ ys))) (each_of-itself f xs (All-tail (λ y. f y ≡ Some y) x xs all))

-- each means its image
each_of-images : {A B : Type 0} (f : A → Option B) (g : A → B) → ((x : A) → f x ≡ Some (g x)) → (xs : List A) → each_of f xs ≡ Some (map g xs)
each_of-images f g is [] = refl
each_of-images f g is (x ∷ xs) =
    ap (λ o. o >>= (λ y. each_of f xs >>= (λ ys. Some (y ∷ ys)))) (is x)
    ∙ ap (λ o. o >>= (λ ys. Some (g x ∷ ys))) (each_of-images f g is xs)

names_read : (names : List (List ℕ)) → names_of (vector (items_of (map str names))) ≡ Some names
names_read names =
    ap (each_of text_of_string) (list_of-items_of (map str names)) ∙ each_of-map text_of_string str names ∙ each_of-images (λ n. Some n) (λ n. n) (λ n. refl) names ∙ ap Some (map-id names)

link_change-read : (section : Section) (link : Link) (from to : List ℕ) (says : LinkChange) → link_change section link ≡ Some says
    → entry_in section (edn_of_entry (OfLink from to says)) ≡ Some (OfLink from to says)
link_change-read Section.Cut link from to says spelled = rw (if_gives link.cut LinkChange.Cut says spelled) refl
link_change-read Section.Slow link from to says spelled = rw (if_gives _ _ says spelled) refl
link_change-read Section.Loss link from to says spelled = rw (if_gives _ _ says spelled) refl
link_change-read Section.Down link from to says spelled = absurd cc
link_change-read Section.Clock link from to says spelled = absurd cc

life_change-read : (life : Life) (name : List ℕ) (says : NodeChange) → life_change life ≡ Some says → entry_in Section.Down (edn_of_entry (OfNode name says)) ≡ Some (OfNode name says)
life_change-read Running name says spelled = absurd cc
life_change-read Paused name says spelled = let e : says ≡ NodeChange.Pause = cc in rw e refl
life_change-read Killed name says spelled = let e : says ≡ NodeChange.Kill = cc in rw e refl

node_change-read : (section : Section) (cell : NodeCell) (name : List ℕ) (says : NodeChange) → node_change section cell ≡ Some says
    → entry_in section (edn_of_entry (OfNode name says)) ≡ Some (OfNode name says)
node_change-read Section.Down cell name says spelled = life_change-read cell.process name says spelled
node_change-read Section.Clock cell name says spelled = rw (unless_gives _ _ says spelled) refl
node_change-read Section.Cut cell name says spelled = absurd cc
node_change-read Section.Slow cell name says spelled = absurd cc
node_change-read Section.Loss cell name says spelled = absurd cc

-- an entry that is written is read as it is
entries_read : (env : EnvValue) (section : Section) → All (λ e. entry_in section (edn_of_entry e) ≡ Some e) (entries_written env section)
entries_read env section =
    all_written env (λ e. entry_in section (edn_of_entry e) ≡ Some e) section
    (λ a b e made. let p = link_parts env section a b e made in rw p.is (link_change-read section p.link p.from p.to p.says p.is_written))
    (λ a e made. let p = node_parts env section a e made in rw p.is (node_change-read section p.cell p.name p.says p.is_written))

section_read : (env : EnvValue) (section : Section) → entries_of section (vector (items_of (map edn_of_entry (entries_written env section)))) ≡ Some (entries_written env section)
section_read env section =
    ap (each_of (entry_in section)) (list_of-items_of (map edn_of_entry (entries_written env section)))
    ∙ each_of-map (entry_in section) edn_of_entry (entries_written env section)
    ∙ each_of-itself (λ e. entry_in section (edn_of_entry e)) (entries_written env section) (entries_read env section)

-- the keys of the text that is written
keys_written : EnvValue → Keys
keys_written env = record {
  nodes = vector (items_of (map str env.names));
  pairs = (keyword nodes_keyword, vector (items_of (map str env.names))) ∷ map (section_pair env) sections;
}

under_read : (env : EnvValue) (section : Section) → entries_under (keys_written env).pairs section ≡ Some (entries_written env section)
unfolding keys_written
under_read env Section.Cut = section_read env Section.Cut
under_read env Section.Slow = section_read env Section.Slow
under_read env Section.Loss = section_read env Section.Loss
under_read env Section.Down = section_read env Section.Down
under_read env Section.Clock = section_read env Section.Clock

-- the shape of the text that is written
abbrev pub shape_written : EnvValue → Shape
shape_written env = record { names = env.names; entries = flat_map (entries_written env) sections }

pub text_shape : (env : EnvValue) → HasShape (edn_of_env env) (shape_written env)
unfolding keys_written
text_shape env =
    let all : all_entries (keys_written env).pairs ≡ Some (flat_map (entries_written env) sections) =
    ap (option_map (flat_map (λ es. es))) (each_of-images (entries_under (keys_written env).pairs) (entries_written env) (under_read env) sections) in (
      keys_written env,
      refl,
      ap (λ o. o >>= (λ names. all_entries (keys_written env).pairs >>= (λ entries. Some (record { names = names; entries = entries })))) (names_read env.names)
          ∙ ap (λ o. o >>= (λ entries. Some (record { names = env.names; entries = entries }))) all,
    )
