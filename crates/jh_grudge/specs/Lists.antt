-- Lists of nodes, a node being the number of its place (Jepsen's page on jepsen.nemesis: bisect,
-- split-one).
use Rattle.std.specs.Prelude.{◌≢◌, ℕ, ◌/◌, ◌==◌, not, List, [], ◌∷◌, map, filter, length, take}
use Rattle.std.specs.Prelude.{drop, Vec}
use Rattle.std.specs.List.{AllPairs, Contains, flat_map}
use Rattle.std.specs.declared.alloc.Global.{Global}
use Rattle.jh_grudge.specs.declared.lists.SplitError.{SplitError}
use Rattle.jh_grudge.specs.declared.lists.SplitError.TheVariants.{UnknownNode, OutOfMemory}

-- no node stands twice
abbrev pub AreDistinct : List ℕ → Type 0
AreDistinct nodes = AllPairs (λ a b. a ≢ b) nodes

-- the components as lists of nodes
abbrev pub lists_of : List (Vec ℕ Global) → List (List ℕ)
lists_of components = map (λ component. component.items) components

-- the components end to end
abbrev pub nodes_end_to_end : List (Vec ℕ Global) → List ℕ
nodes_end_to_end components = flat_map (λ component. component.items) components

-- the first half of a list, which has one node fewer where the halves differ
abbrev pub first_half : List ℕ → List ℕ
first_half nodes = take (length nodes / 2) nodes

abbrev pub second_half : List ℕ → List ℕ
second_half nodes = drop (length nodes / 2) nodes

-- a list split into a loner and the rest, in order
abbrev pub split_of : ℕ → List ℕ → List (List ℕ)
split_of loner nodes = (loner ∷ []) ∷ filter (λ node. not (node == loner)) nodes ∷ []

-- why a list is not split
abbrev pub RefusesSplit : List ℕ → ℕ → SplitError → Type 0
RefusesSplit nodes loner UnknownNode = ¬ Contains nodes loner
RefusesSplit nodes loner OutOfMemory = Contains nodes loner
