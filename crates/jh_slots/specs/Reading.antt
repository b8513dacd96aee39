-- What a read of a row answers (this project's own).
use Rattle.std.specs.Prelude.{◌≡◌, ℕ, ◌<◌, ◌≤◌, List, length, take, drop, None, Some}
use Rattle.std.specs.FinMap as fin
use Rattle.jh_slots.specs.Seats.{Mark, Words as words, Void as void, Knowledge}
use Rattle.jh_slots.specs.Seats.{knowledge_after_read}
use Rattle.jh_slots.specs.declared.answers.Read.{Read}
use Rattle.jh_slots.specs.declared.answers.Read.TheVariants.{Absent, Void, Words, TooSmall}

-- the row was seen with this mark and no other
abbrev pub IsSeenAgain : Knowledge → ℕ → Mark → Type 0
IsSeenAgain v row m = (x : Mark) → fin.get v.seen row ≡ Some x → x ≡ m

-- the seat and the buffer before and after a read
abbrev pub ReadsRow : Knowledge → List ℕ → ℕ → Read → Knowledge → List ℕ → Type 0
ReadsRow v old row Absent w new = (fin.get v.seen row ≡ None) × (w ≡ v) × (new ≡ old)
ReadsRow v old row Void w new =
    (w ≡ knowledge_after_read row void v) × IsSeenAgain v row void × (new ≡ old)
ReadsRow v old row (Words len) w new =
    (1 ≤ len) × (len ≤ length old) × (w ≡ knowledge_after_read row (words (take len new)) v)
    × IsSeenAgain v row (words (take len new)) × (drop len new ≡ drop len old)
ReadsRow v old row (TooSmall len) w new =
    (length old < len) × (w ≡ v) × (new ≡ old)
    × ((x : Mark) → fin.get v.seen row ≡ Some x → (ws : List ℕ) × (x ≡ words ws)
    × (length ws ≡ len))
