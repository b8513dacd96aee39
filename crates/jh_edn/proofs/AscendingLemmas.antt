-- Going through elements that are to ascend.
use Rattle.std.proofs.Common.{◌≡◌, Bool, true, ◌&&◌, Option, Some, None, refl, ap}
use Rattle.jh_edn.specs.Edn.{Edn, Items, no_items, item}
use Rattle.jh_edn.specs.Normal.{is_above, ascends}
use Rattle.jh_edn.specs.Order.{is_below}

-- they ascend, from above the last one on
abbrev pub ascends_from : Option Edn → Items → Bool
ascends_from last no_items = true
ascends_from last (item x xs) = is_above x last && ascends_from (Some x) xs

behind : (x : Edn) (xs : Items) → ascends_from (Some x) xs ≡ ascends (item x xs)
behind x no_items = refl
behind x (item y ys) = ap (λ b. is_below x y && b) (behind y ys)

pub ascends_whole : (xs : Items) → ascends_from None xs ≡ ascends xs
ascends_whole no_items = refl
ascends_whole (item x xs) = behind x xs
