-- Values in words, as labels have them (this project's own).
use Rattle.std.specs.Prelude.{ℕ, Bool, true, false, ◌&&◌, List, [], ◌++◌, codes, if◌then◌else◌}
use Rattle.jh_edn.specs.Edn.{Edn, nil, str, keyword, list, vector, Items, no_items, item}
use Rattle.jh_edn.specs.Print.{print}

-- the value is a list or a vector
abbrev pub is_sequence : Edn → Bool
is_sequence (list xs) = true
is_sequence (vector xs) = true
is_sequence _ = false

-- what stands between two elements: a space, with a comma before it where both are lists or vectors
abbrev pub gap_between : Edn → Edn → List ℕ
gap_between x y = if is_sequence x && is_sequence y then codes ", " else codes " "

abbrev mutual
  -- a value in words: a keyword is its name, a string its characters, and a list or a vector that is
  -- not empty its elements; any other value is its text
  pub in_words : Edn → List ℕ
  in_words (keyword name) = name
  in_words (str text) = text
  in_words (list no_items) = print (list no_items)
  in_words (list xs) = elements_in_words xs
  in_words (vector no_items) = print (vector no_items)
  in_words (vector xs) = elements_in_words xs
  in_words value = print value

  -- elements in words, with what stands between each two
  pub elements_in_words : Items → List ℕ
  elements_in_words no_items = []
  elements_in_words (item x no_items) = in_words x
  elements_in_words (item x (item y ys)) =
      in_words x ++ (gap_between x y ++ elements_in_words (item y ys))

-- the name of a function: that of a keyword without its colon
abbrev pub name_of : Edn → List ℕ
name_of (keyword name) = name
name_of f = print f

-- a function with what it answered, as `read nil`, `read []` or `cas [0 1]`
abbrev pub answered_text : Edn → Edn → List ℕ
answered_text f value = name_of f ++ (codes " " ++ print value)

-- a function with what it is asked with, as `cas [0 1]`; nil asks with nothing, as `read`
abbrev pub asked_text : Edn → Edn → List ℕ
asked_text f nil = name_of f
asked_text f value = answered_text f value
