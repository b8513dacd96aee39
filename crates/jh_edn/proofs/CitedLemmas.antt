-- What the proofs of crates above may cite of these. Each is a fact in the words of `specs/`, whatever proves it here; what a
-- program can cite by a call stands in src/laws.rt.

-- the order of values, and of what is not above one another
pub use Rattle.jh_edn.proofs.OrderLemmas.{edn_total, below_order}
-- values that rank equal are equal, and equal values have one fingerprint
pub use Rattle.jh_edn.proofs.TiedLemmas.{tied_equal}
pub use Rattle.jh_edn.proofs.FingerprintLemmas.{same_fingerprint}
-- a stable sort gives the list in order, also by a key
pub use Rattle.jh_edn.proofs.SortLemmas.{sorted_is, map_in_order, in_order_ascends, in_order_is}
pub use Rattle.jh_edn.proofs.NormalListLemmas.{held_below, sorted_items}
-- the items of a list are its values, and the members of a map its pairs
pub use Rattle.jh_edn.proofs.SequenceLemmas.{list_of-items_of, pairs_in-members_of}
-- a text that is written after another, and one more text behind joined ones
pub use Rattle.jh_edn.proofs.PrintLemmas.{appends_then, joined_more}
-- one text has one next value, or a gap, and what spells a value reads as it
pub use Rattle.jh_edn.proofs.ReadAtLemmas.{made, no_gap, one_next}
-- elements read one by one are those of the whole text, and the first error behind them is the text's
pub use Rattle.jh_edn.proofs.JoinLemmas.{Before, Behind, before_none, before_more, before_all, behind_none, behind_more, spells_nothing, refuses, first_behind}
