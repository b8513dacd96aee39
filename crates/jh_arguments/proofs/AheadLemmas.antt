-- What a new buffered reader has left.
use Rattle.std.proofs.Common.{◌≡◌, ℕ, List, [], Option, Some, None, refl}
use Rattle.std.specs.Io.Buffered.{reader_buffer, reader_capacity, reader_inner, reader_remaining}
use Rattle.std.specs.Io.KnownBytes.{prepend_known}
use Rattle.std.specs.declared.io.buffered.BufReader.{BufReader}

none_ahead : (left : Option (List ℕ)) → prepend_known [] left ≡ left
none_ahead None = refl
none_ahead (Some bytes) = refl

pub new_left : {T A : Type 0} (remaining : T → Option (List ℕ)) (r : BufReader T A) (inner : T)
    → reader_inner r ≡ inner → reader_buffer r ≡ [] → reader_capacity r ≡ 8192 → reader_remaining remaining r ≡ remaining inner
new_left remaining r inner is empty room = rw (room, empty, is) (none_ahead (remaining inner))
