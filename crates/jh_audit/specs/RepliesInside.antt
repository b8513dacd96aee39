-- Which value a reply has, as the code compares them; `Audit` has the rule (this project's own).
use Rattle.std.specs.Prelude.{◌&&◌, Bool, true, false, ℤ, List, [], ◌∷◌, Some, None}
use Rattle.std.specs.Ordering.{int_eq}
use Rattle.jh_edn.specs.Edn.{Edn, int, vector, list_of, is_nil}
use Rattle.jh_ops.specs.declared.call.Request.{Request}
use Rattle.jh_ops.specs.declared.call.Request.TheVariants.{Read, Write, Cas, Add, Generate, Txn}
use Rattle.jh_simnode.specs.declared.replicas.Got.{Got}
use Rattle.jh_simnode.specs.declared.replicas.Reply.{Reply}
use Rattle.jh_simnode.specs.declared.replicas.Reply.TheVariants as reply

-- it is this integer
abbrev pub is_number : ℤ → Edn → Bool
is_number number (int z) = int_eq z number
is_number number _ = false

-- they are these integers
abbrev pub are_numbers : List ℤ → List Edn → Bool
are_numbers [] [] = true
are_numbers [] (v ∷ vs) = false
are_numbers (n ∷ ns) [] = false
are_numbers (n ∷ ns) (v ∷ vs) = is_number n v && are_numbers ns vs

-- it is a vector of these integers
abbrev pub is_numbers : List ℤ → Edn → Bool
is_numbers numbers (vector xs) = are_numbers numbers (list_of xs)
is_numbers numbers _ = false

-- it is the value that a request asks with
abbrev pub is_asked_value : Request → Edn → Bool
is_asked_value Read value = is_nil value
is_asked_value (Write v) value = is_number v value
is_asked_value (Cas a b) value = is_numbers (a ∷ b ∷ []) value
is_asked_value (Add v) value = is_number v value
is_asked_value Generate value = is_nil value
is_asked_value Txn value = is_nil value

-- it is the value in the completion of a request that was done
abbrev pub is_got : Request → Got → Edn → Bool
is_got request Got.Nothing value = is_asked_value request value
is_got request (Got.One None) value = is_nil value
is_got request (Got.One (Some v)) value = is_number v value
is_got request (Got.Many vs) value = is_numbers vs value

-- it is the value of a completion
abbrev pub is_replied : Request → Reply → Edn → Bool
is_replied request (reply.Ok got) value = is_got request got value
is_replied request reply.Fail value = is_asked_value request value
is_replied request reply.Info value = is_asked_value request value
