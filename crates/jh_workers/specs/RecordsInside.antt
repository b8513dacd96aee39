-- What a seat has seen once it published records (this project's own).
use Rattle.std.specs.Prelude.{◌≡◌, ℕ, ◌*◌, List, length}
use Rattle.std.specs.FinMap as map
use Rattle.jh_slots.specs.Seats.{Marks, Words, Knowledge, HoldsClaim, claim_at}
use Rattle.jh_ops.specs.Operation.{Operation}
use Rattle.jh_ops.specs.Words.{IsRecordedAs}
use Rattle.jh_ops.specs.declared.call.Request.{Request}
use Rattle.jh_ops.specs.declared.call.Request.TheVariants.{Cas}
use Rattle.jh_simnode.specs.declared.replicas.Got.TheVariants.{Many}
use Rattle.jh_simnode.specs.declared.replicas.Reply.{Reply}
use Rattle.jh_simnode.specs.declared.replicas.Reply.TheVariants.{Ok}

-- how many integers the completion of a request has at most, after the three words of each record
abbrev pub integers_written : Request → Reply → ℕ
integers_written request (Ok (Many numbers)) = length numbers
integers_written (Cas old new) reply = 2
integers_written request reply = 1

-- the seat holds a claim of these rows, with as many words
abbrev pub HoldsWords : Knowledge → ℕ → ℕ → Type 0
HoldsWords v first rows = HoldsClaim v first rows × (length (claim_at v first).words ≡ 5 * rows)

-- these words were published in some row
abbrev pub PublishesWords : Marks → List ℕ → Marks → Type 0
PublishesWords before words after = (row : ℕ) × (after ≡ map.insert before row (Words words))

-- the record of an operation was published
abbrev pub Publishes : Marks → Operation → Marks → Type 0
Publishes before op after =
    (words : List ℕ) × IsRecordedAs op words × PublishesWords before words after

-- the records of two operations were published, one after the other
abbrev pub PublishesBoth : Marks → Operation → Operation → Marks → Type 0
PublishesBoth before first second after =
    (between : Marks) × Publishes before first between × Publishes between second after
