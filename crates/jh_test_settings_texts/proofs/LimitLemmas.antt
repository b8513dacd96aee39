-- A time limit that is parsed is within what settings can say.
use Rattle.std.proofs.Common.{◌≡◌, ℕ, Bool, true, false, Option, Some, None, refl, subst}
use Rattle.std.specs.Prelude.{ℤ, pos, negsuc, nat_le, ◌≤◌, ◌&&◌, IfSome, option_map, if◌then◌else◌}
use Rattle.std.specs.Option.{option_map_or}
use Rattle.std.proofs.lemmas.Bool.{and_parts, leb-true}
use Rattle.toml.specs.Data.{Data, integer, Members}
use Rattle.jh_settings.specs.Keys.{data_under}
use Rattle.jh_settings.specs.Kinds.{whole_number_in}
use Rattle.jh_settings.specs.Limits.{max_time_ms}
use Rattle.jh_settings.specs.declared.keys.Key.{Key}
use Rattle.jh_drive_settings.specs.Parsed.{parsed_time_limit}

abbrev IsAtMost : ℕ → Option ℕ → Type 0
IsAtMost most limit = IfSome limit (λ n. n ≤ most)

numbered : (least most : ℕ) (value : Data) → IfSome (option_map Some (whole_number_in least most value)) (IsAtMost most)
numbered least most (integer (pos n)) =
    elim (nat_le least n && nat_le n most)
    as (λ t. (nat_le least n && nat_le n most) ≡ t → IfSome (option_map Some (if t then Some n else None)) (IsAtMost most)) [
      | true ↦ λ is. leb-true n most ((and_parts (nat_le least n) (nat_le n most) is).1)
      | false ↦ λ is. tt
    ] refl
numbered least most value = tt

under : (o : Option Data) → IfSome (option_map_or (λ value. option_map Some (whole_number_in 1 max_time_ms value)) o (Some None)) (IsAtMost max_time_ms)
under None = tt
under (Some value) = numbered 1 max_time_ms value

pub limit_fits : (document : Members) (limit : Option ℕ) → parsed_time_limit document ≡ Some limit → IfSome limit (λ ms. ms ≤ max_time_ms)
limit_fits document limit parsed = subst (λ o. IfSome o (IsAtMost max_time_ms)) parsed (under (data_under Key.TimeLimit document))
