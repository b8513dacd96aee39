-- The names of stores (this project's own).
use Rattle.std.specs.Prelude.{ℕ, List, [], ◌∷◌, codes, Option, find}
use Rattle.std.specs.Str.{bytes_eq}
use Rattle.jh_simnode.specs.declared.database.Store.{Store}

abbrev pub all_stores : List Store
all_stores = Store.Quorum ∷ Store.Lww ∷ Store.Local ∷ []

-- the name by which a store is chosen
abbrev pub store_name : Store → List ℕ
store_name Store.Quorum = codes "quorum"
store_name Store.Lww = codes "lww"
store_name Store.Local = codes "local"

-- the store of this name
abbrev pub store_named : List ℕ → Option Store
store_named name = find (λ store. bytes_eq name (store_name store)) all_stores
