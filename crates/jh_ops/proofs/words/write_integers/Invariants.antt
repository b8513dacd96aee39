use Rattle.std.proofs.Common.{◌≡◌, ◌+◌, take, drop}
use Rattle.jh_edn.specs.View.{views}
use Rattle.jh_ops.specs.RecordParts.{AreWordsOfValues}
use Rattle.jh_ops.proofs.words.write_integers.Given as goal

-- the words of the integers so far stand there, and the others as they were
abbrev pub invariant-loop-place : goal.invariant-loop-place
invariant-loop-place l =
    (take 3 l.words ≡ take 3 l.fn.words) × AreWordsOfValues (take l.place (drop 3 l.words)) (views (take l.place l.items)) × (drop (3 + l.place) l.words ≡ drop (3 + l.place) l.fn.words)
