-- Whose place the table of writers has.
use Rattle.std.proofs.Common.{◌≡◌, ℕ, ◌<◌, Option, Some, None, List, refl, ap, subst, ◌∙◌, cond, eqb, eq-eqb}
use Rattle.std.specs.Prelude.{option_and_then}
use Rattle.std.proofs.lemmas.Bool.{eqb-true}
use Rattle.std.proofs.lemmas.Option.{same_Some, none-some, cond_some}
use Rattle.jh_txn_seen.specs.Places.{AreWritersBelow, writer_place}
use Rattle.jh_txn_writers.specs.Writers.{writer_at}
use Rattle.jh_txn_writers.specs.declared.writer.Writer.{Writer}

pub some_is : (a b : ℕ) → a ≡ b → Some a ≡ Some b
some_is a b e = ap Some e

pub some_same : (a b : ℕ) → Some a ≡ Some b → a ≡ b
some_same a b e = same_Some a b e

-- Whose place the table has.
pub place_writer : (writers : List (Option Writer)) (key element place : ℕ) → writer_place writers key element ≡ Some place → (writer : Writer) × (writer_at writers element ≡ Some writer) × (writer.key ≡ key) × (writer.place ≡ place)
place_writer writers key element place is = by (writer_at writers element) refl is where
  by : (found : Option Writer) → writer_at writers element ≡ found → option_and_then (λ (w : Writer). cond (eqb w.key key) (Some w.place) None) found ≡ Some place → (writer : Writer) × (writer_at writers element ≡ Some writer) × (writer.key ≡ key) × (writer.place ≡ place)
  by None at h = absurd (none-some place h)
  by (Some w) at h = let r = cond_some (eqb w.key key) w.place place h in (w, at, eqb-true w.key key r.0, r.1)

pub writer_is_place : (writers : List (Option Writer)) (element : ℕ) (writer : Writer) → writer_at writers element ≡ Some writer → writer_place writers writer.key element ≡ Some writer.place
writer_is_place writers element w at = ap (option_and_then (λ (x : Writer). cond (eqb x.key w.key) (Some x.place) None)) at ∙ ap (λ b. cond b (Some w.place) None) (eq-eqb w.key w.key refl)

pub place_below : (writers : List (Option Writer)) (count key element place : ℕ) → AreWritersBelow count writers → writer_place writers key element ≡ Some place → place < count
place_below writers count key element place below is =
    let r = place_writer writers key element place is in
    subst (λ p. p < count) r.3 (below element r.0 r.1)
