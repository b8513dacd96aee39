use Rattle.std.proofs.Common.{◌≡◌, ◌++◌, take}
use Rattle.jh_edn.specs.Edn.{items_of, size_list, size_of}
use Rattle.jh_edn.specs.View.{view, views}
use Rattle.jh_bands.specs.Words.{elements_in_words}
use Rattle.jh_bands.proofs.words.+words.Given as goal

abbrev pub decreases-write_words : goal.decreases-write_words
decreases-write_words l = size_of (view l.value.now)

abbrev pub decreases-write_elements : goal.decreases-write_elements
decreases-write_elements l = size_list (views l.elements.now)

abbrev pub invariant-write_elements-loop-place : goal.invariant-write_elements-loop-place
invariant-write_elements-loop-place l =
    l.text.items ≡ l.fn.text.items ++ elements_in_words (items_of (views (take l.place l.elements)))
