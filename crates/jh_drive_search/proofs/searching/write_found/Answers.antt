use Rattle.std.proofs.Common.{string_bytes}
use Rattle.std.proofs.KnownBytes.{Appends-trans}
use Rattle.jh_drive_search.specs.DriveSearch.{found_heading}
use Rattle.jh_drive_search.proofs.searching.write_found.Goals as goal

pub returns : goal.returns
returns g c =
    let settings = string_bytes c.in_ok-settings.settings in
    (settings, Appends-trans _ _ _ found_heading settings c.in_ok-write_bytes.ensures.written (rw c.as_bytes.ensures.value at c.in_ok-write_bytes-2.ensures.written), c.in_ok-settings.ensures.read_back)
