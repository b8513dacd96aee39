-- The seed of a test that settings mean is within what settings can say.
use Rattle.std.proofs.Common.{◌≡◌, ◌<◌, ◌≤◌, ◌^◌, ℕ, ℤ, List, true, false, Option, Some, None, refl, sym, subst, arith}
use Rattle.std.specs.Prelude.{pos, nat_le, ◌&&◌, IfSome, if◌then◌else◌}
use Rattle.std.specs.Option.{option_map_or}
use Rattle.std.proofs.lemmas.Bool.{and_parts, leb-true}
use Rattle.toml.specs.Data.{Data, Members, integer}
use Rattle.jh_drive_settings.specs.Settings.{AreDriveSettings}
use Rattle.jh_settings.specs.Keys.{data_under}
use Rattle.jh_settings.specs.Kinds.{whole_number_in}
use Rattle.jh_settings.specs.Limits.{max_seed}
use Rattle.jh_settings.specs.Parsed.{parsed_seed}
use Rattle.jh_settings.specs.declared.keys.Key.{Key}
use Rattle.jh_test_parts.specs.Test.{TestValue}
use Rattle.jh_test_parts.specs.declared.parts.TestEntry.{TestEntry}
use Rattle.jh_txn.specs.declared.model.ConsistencyModel.{ConsistencyModel}
use Rattle.jh_drive_shrink.specs.DriveShrink.{test_of_part}

numbered : (least most : ℕ) (value : Data) → IfSome (whole_number_in least most value) (λ n. n ≤ most)
numbered least most (integer (pos n)) =
    elim (nat_le least n && nat_le n most)
    as (λ t. (nat_le least n && nat_le n most) ≡ t → IfSome (if t then Some n else None) (λ n. n ≤ most)) [
      | true ↦ λ is. leb-true n most ((and_parts (nat_le least n) (nat_le n most) is).1)
      | false ↦ λ is. tt
    ] refl
numbered least most value = tt

under : (o : Option Data) → IfSome (option_map_or (whole_number_in 0 max_seed) o (Some 0)) (λ n. n ≤ max_seed)
under None = omega arith
under (Some value) = numbered 0 max_seed value

seed_parsed : (document : Members) (seed : ℕ) → parsed_seed document ≡ Some seed → seed < 2 ^ 63
seed_parsed document seed parsed =
    let fits : seed ≤ 9223372036854775807 = subst (λ o. IfSome o (λ n. n ≤ max_seed)) parsed (under (data_under Key.Seed document)) in
    omega (arith, fits)

pub seed_fits : (table : Members) (t : TestValue) (part : List TestEntry) (made : TestValue) (held : Option ℤ) (model : ConsistencyModel) (budget : ℕ)
    → made ≡ test_of_part t part → AreDriveSettings table t held model budget → made.seed < 2 ^ 63
seed_fits table t part made held model budget is are = subst (λ test. test.seed < 2 ^ 63) (sym is) (seed_parsed table t.seed are.parsed.seed)
