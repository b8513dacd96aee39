-- Ranks of nodes, and the links that a rule makes of them (this project's own).
use Rattle.std.specs.Prelude.{◌≡◌, ℕ, ◌-◌, ◌/◌, ◌==◌, Bool, true, false, not, List, nat_lt}
use Rattle.std.specs.Prelude.{if◌then◌else◌, Option, Some, None, slice_index_or}
use Rattle.std.specs.List.{All, Contains}
use Rattle.jh_grudge.specs.Grudges.{IsBefore, IsAscending}
use Rattle.jh_grudge.specs.declared.ranks.Rule.{Rule}
use Rattle.jh_grudge.specs.declared.ranks.Rule.TheVariants.{Apart, Ring}

-- the rank of a node, if it has one
abbrev pub rank_of : List (Option ℕ) → ℕ → Option ℕ
rank_of ranks node = slice_index_or ranks node None

-- a node of one rank drops a node of another
abbrev pub drops_by : Rule → ℕ → ℕ → Bool
drops_by Apart dst src = not (dst == src)
drops_by (Ring n) dst src =
    if nat_lt src dst then nat_lt (dst - src) (n - n / 2) else nat_lt (n / 2) (src - dst)

abbrev pub is_of_both : (ℕ → ℕ → Bool) → Option ℕ → Option ℕ → Bool
is_of_both test (Some a) (Some b) = test a b
is_of_both test (Some a) None = false
is_of_both test None o = false

-- a node drops another, by their ranks
abbrev pub drops_in : Rule → List (Option ℕ) → ℕ → ℕ → Bool
drops_in rule ranks dst src = is_of_both (drops_by rule) (rank_of ranks dst) (rank_of ranks src)

abbrev pub DropsIn : Rule → List (Option ℕ) → ℕ → ℕ → Type 0
DropsIn rule ranks dst src = drops_in rule ranks dst src ≡ true

-- all links that come before one, and no others, in order
pub record AreLinksBefore (test : ℕ → ℕ → Bool) (links : List (ℕ × ℕ)) (end : ℕ × ℕ) : Type 0 where
  pub ascending : IsAscending links
  pub before : All (λ link. IsBefore link end) links
  pub sound : All (λ link. test link.1 link.0 ≡ true) links
  pub whole : (dst src : ℕ) → test dst src ≡ true → IsBefore (src, dst) end
      → Contains links (src, dst)
