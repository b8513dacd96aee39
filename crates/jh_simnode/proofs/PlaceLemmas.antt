-- The places of nodes, in order.
use Rattle.std.proofs.Common.{◌≡◌, ℕ, ◌<◌, length, arith}
use Rattle.std.specs.List.{All}
use Rattle.std.proofs.lemmas.List.FromFn.{length-range_with_len, get_or-range_with_len, length-map-range_with_len}
use Rattle.jh_env.specs.Names.{node_places}
use Rattle.jh_simnode.specs.Reach.{EnvCells, is_node_killed}
use Rattle.jh_simnode.specs.Stores.{killed_flags}

pub length-killed_flags : (env : EnvCells) (n : ℕ) → length (killed_flags env n) ≡ n
length-killed_flags env n = length-map-range_with_len (λ p. is_node_killed (env.node p)) 0 n

-- the places are below their number
pub places_below : (n : ℕ) → All (λ p. p < n) (node_places n)
places_below n k d l =
    let below : k < n = omega (arith, l, length-range_with_len 0 n) in
    let at = get_or-range_with_len 0 n k d below in
    omega (arith, below, at)
