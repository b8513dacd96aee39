-- Printed values, each on a line, spell these values.
use Rattle.std.proofs.Common.{◌≡◌, ℕ, true, false, List, [], ◌∷◌, ◌++◌, codes, refl, sym, ap, subst, append_assoc}
use Rattle.std.specs.List.{AllByRecursion}
use Rattle.jh_edn.specs.Bytes.{line_feed, is_space, is_delimiter, is_token_byte}
use Rattle.jh_edn.specs.Edn.{Edn, nil, Items, no_items, item, items_of}
use Rattle.jh_edn.specs.Print.{print}
use Rattle.jh_edn.specs.Printable.{IsPrintable}
use Rattle.jh_edn.specs.Spelling.{nothing, white, SpellsElements, depth_limit, whole, SpellsAll}
use Rattle.jh_edn.proofs.PrintedBackLemmas.{form_printed}
use Rattle.jh_laws.specs.Lines.{lines_of}

feed_is_space : is_space line_feed ≡ true
unfolding is_space
feed_is_space = refl

feed_no_run : is_token_byte line_feed ≡ false
unfolding is_token_byte is_space is_delimiter
feed_no_run = refl

-- the same is spelled behind one more line feed
behind_feed : (xs : Items) (text rest : List ℕ) → SpellsElements whole xs text rest → SpellsElements whole xs (line_feed ∷ text) rest
behind_feed no_items text rest h = white line_feed text refl feed_is_space h
behind_feed (item x xs) text rest h = (h.0, (h.1.0, white line_feed text refl feed_is_space h.1.1, h.1.2), h.2)

pub lines_spell : (values : List Edn) → AllByRecursion (IsPrintable depth_limit) values → SpellsAll values (lines_of values)
lines_spell [] all = nothing refl
lines_spell (x ∷ xs) all =
    let rest : List ℕ = line_feed ∷ lines_of xs in
    let form = form_printed depth_limit x rest all.0 feed_no_run in
    let behind = behind_feed (items_of xs) (lines_of xs) [] (lines_spell xs all.1) in
    subst (SpellsAll (x ∷ xs)) (sym (append_assoc (print x) (codes "\n") (lines_of xs))) (rest, (print x ++ rest, nothing refl, form), behind)

abbrev pub first_in : List Edn → Edn
first_in [] = nil
first_in (x ∷ xs) = x

-- lists of one value are the same if their values are
pub one_value : {x y : Edn} → x ∷ [] ≡ y ∷ [] → x ≡ y
one_value same = ap first_in same

abbrev pub rest_in : List Edn → List Edn
rest_in [] = []
rest_in (x ∷ xs) = xs
