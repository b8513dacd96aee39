-- What a request does to the contents of a replica: the objects that Jepsen's pages on checkers
-- name, a register, a counter, a set and ids.
use Rattle.std.specs.Prelude.{ℤ, pos, negsuc, ◌+ℤ◌, ◌^◌, Bool, List, [], ◌∷◌, Option, Some, None}
use Rattle.std.specs.Prelude.{nat_lt, int_lt, if◌then◌else◌}
use Rattle.std.specs.Ordering.{int_eq}
use Rattle.jh_ops.specs.declared.call.Request.{Request}
use Rattle.jh_ops.specs.declared.call.Request.TheVariants.{Read, Write, Cas, Add, Generate, Txn}
use Rattle.jh_simnode.specs.declared.replicas.Contents.{Contents}
use Rattle.jh_simnode.specs.declared.replicas.Contents.TheVariants.{One, Many}
use Rattle.jh_simnode.specs.declared.replicas.Got.{Got}
use Rattle.jh_simnode.specs.declared.effects.RequestEffect.{RequestEffect}
use Rattle.jh_simnode.specs.Replicas.{got_of}

-- a number of 64 bits with a sign
abbrev pub is_small : ℤ → Bool
is_small (pos n) = nat_lt n (2 ^ 63)
is_small (negsuc n) = nat_lt n (2 ^ 63)

-- the number at its place in an ascending list, once
abbrev pub numbers_with : ℤ → List ℤ → List ℤ
numbers_with v [] = v ∷ []
numbers_with v (x ∷ xs) =
    if int_lt v x then v ∷ x ∷ xs else (if int_eq v x then x ∷ xs else x ∷ numbers_with v xs)

-- these contents are held now, and nothing was got
abbrev pub written_change : Contents → Option RequestEffect
written_change c = Some (record { got = Got.Nothing; after = c })

-- what a compare-and-set of these two numbers makes of a register
abbrev pub cas_change : ℤ → ℤ → Option ℤ → Option RequestEffect
cas_change a b None = None
cas_change a b (Some x) = if int_eq x a then written_change (One (Some b)) else None

-- what an addition makes of a counter
abbrev pub add_change : ℤ → Option ℤ → Option RequestEffect
add_change v None = None
add_change v (Some x) = if is_small (x +ℤ v) then written_change (One (Some (x +ℤ v))) else None

-- a new id is the number that is held; the next is held after it
abbrev pub generate_change : Option ℤ → Option RequestEffect
generate_change None = None
generate_change (Some x) =
    if is_small (x +ℤ pos 1)
    then Some (record { got = Got.One (Some x); after = One (Some (x +ℤ pos 1)) }) else None

-- what a request makes of contents, where it doesn't fail; no store runs transactions
abbrev pub effect : Request → Contents → Option RequestEffect
effect Read c = Some (record { got = got_of c; after = c })
effect (Write v) c = written_change (One (Some v))
effect (Cas a b) (One x) = cas_change a b x
effect (Cas a b) (Many xs) = None
effect (Add v) (One x) = add_change v x
effect (Add v) (Many xs) = written_change (Many (numbers_with v xs))
effect Generate (One x) = generate_change x
effect Generate (Many xs) = None
effect Txn c = None
