-- How a view is stored as plain data, so that proofs can tell two apart (this project's own).
use Rattle.std.specs.Prelude.{◌≡◌, ℕ, List, Bool, Some, None, Option, refl}
use Rattle.std.specs.Coded.{Coded, code_by, coded×, coded_ℕ, coded_list, coded_bool, coded_option}
use Rattle.std.specs.FinMap as map
use Rattle.atomic_table.specs.Seated.{TableId, table_id_coded}
use Rattle.jh_slots.specs.Seats.{Mark, Words, Void, Claim, ClaimValue, Marks, Claims, Knowledge}
use Rattle.jh_slots.specs.Seats.{SeatValue, Log}
use Rattle.jh_slots.specs.Stored.{Note, View}

abbrev pub mark_words : Mark → Option (List ℕ)
mark_words (Words ws) = Some ws
mark_words Void = None

abbrev pub mark_of_words : Option (List ℕ) → Mark
mark_of_words (Some ws) = Words ws
mark_of_words None = Void

pub mark_of_words-mark_words : (m : Mark) → mark_of_words (mark_words m) ≡ m
mark_of_words-mark_words (Words ws) = refl
mark_of_words-mark_words Void = refl

abbrev pub mark_code : Coded Mark
mark_code =
    code_by (Option (List ℕ))
    (coded_option (coded_list coded_ℕ)) mark_words mark_of_words mark_of_words-mark_words

abbrev pub claim_code : Coded Claim
claim_code =
    code_by (ℕ × List ℕ) (coded× coded_ℕ (coded_list coded_ℕ)) (λ c. (c.rows, c.words))
    (λ p. record { rows = p.0; words = p.1 }) (λ _. refl)

abbrev pub knows_code : Coded Knowledge
knows_code =
    code_by (Marks × (ℕ × Claims))
    (coded× (map.code coded_ℕ mark_code) (coded× coded_ℕ (map.code coded_ℕ claim_code)))
    (λ v. (v.seen, (v.low, v.claims))) (λ p. record { seen = p.0; low = p.1.0; claims = p.1.1 })
    (λ _. refl)

abbrev pub note_code : Coded Note
note_code =
    code_by (ℕ × (ℕ × List ℕ)) (coded× coded_ℕ (coded× coded_ℕ (coded_list coded_ℕ)))
    (λ x. (x.row, (x.len, x.words))) (λ p. record { row = p.0; len = p.1.0; words = p.1.1 })
    (λ _. refl)

abbrev pub view_code : Coded View
view_code =
    code_by (Bool × (ℕ × (Knowledge × (Option Note × Option (Knowledge × Knowledge)))))
    (coded× coded_bool
    (coded× coded_ℕ
    (coded× knows_code
    (coded× (coded_option note_code) (coded_option (coded× knows_code knows_code))))))
    (λ v. (v.live, (v.cap, (v.knows, (v.note, v.before)))))
    (λ p. record { live = p.0; cap = p.1.0; knows = p.1.1.0; note = p.1.1.1.0; before = p.1.1.1.1 })
    (λ _. refl)

abbrev pub seated_code : Coded SeatValue
seated_code =
    code_by (TableId × Knowledge) (coded× table_id_coded knows_code) (λ s. (s.table, s.knows))
    (λ p. record { table = p.0; knows = p.1 }) (λ _. refl)

abbrev pub claimed_code : Coded ClaimValue
claimed_code =
    code_by (ℕ × ℕ) (coded× coded_ℕ coded_ℕ) (λ c. (c.first, c.rows))
    (λ p. record { first = p.0; rows = p.1 }) (λ _. refl)

abbrev pub log_code : Coded Log
log_code =
    code_by (TableId × ℕ) (coded× table_id_coded coded_ℕ) (λ s. (s.table, s.rows))
    (λ p. record { table = p.0; rows = p.1 }) (λ _. refl)
