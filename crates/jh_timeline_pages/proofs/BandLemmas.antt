-- The text of bands of which one more is written.
use Rattle.std.proofs.Common.{◌≡◌, ◌∙◌, ℕ, ◌+◌, ◌<◌, ◌≤◌, ◌==◌, Bool, true, false, cond, List, [], ◌∷◌, ◌++◌, length, take, get_or, ap, sym, refl, append_assoc, append-nil, arith}
use Rattle.std.proofs.lemmas.List.{take_more}
use Rattle.jh_bands.specs.declared.band.Band.{Band}
use Rattle.jh_timeline_pages.specs.Bands.{band_from, band_text, bands_before, bands_behind}
use Rattle.jh_timeline_pages.specs.declared.pixels.Frame.{Frame}

-- the row in which the last of these bands begins, with how many of them right before its end begin there,
-- where so many right before the first begin in a row
abbrev pub run_behind : Frame → (last count : ℕ) → List Band → ℕ × ℕ
run_behind frame last count [] = (last, count)
run_behind frame last count (band ∷ bands) =
    run_behind frame (band_from frame band) (bands_before (band_from frame band) last count + 1) bands

-- a band behind all these
bands_more : (frame : Frame) (last count : ℕ) (bands : List Band) (band : Band)
    → bands_behind frame last count (bands ++ band ∷ [])
    ≡ bands_behind frame last count bands ++ band_text frame (bands_before (band_from frame band) (run_behind frame last count bands).0 (run_behind frame last count bands).1) band
bands_more frame last count [] band = append-nil (band_text frame (bands_before (band_from frame band) last count) band)
bands_more frame last count (one ∷ bands) band =
    let row = band_from frame one in
    let before = bands_before row last count in
    let text = band_text frame before one in
    ap (λ w. text ++ w) (bands_more frame row (before + 1) bands band)
    ∙ sym (append_assoc text (bands_behind frame row (before + 1) bands) _)

run_more : (frame : Frame) (last count : ℕ) (bands : List Band) (band : Band)
    → run_behind frame last count (bands ++ band ∷ [])
    ≡ (band_from frame band, bands_before (band_from frame band) (run_behind frame last count bands).0 (run_behind frame last count bands).1 + 1)
run_more frame last count [] band = refl
run_more frame last count (one ∷ bands) band =
    run_more frame (band_from frame one) (bands_before (band_from frame one) last count + 1) bands band

-- the same of the next band of a list
taken_more : (bands : List Band) (i : ℕ) (band : Band) → i < length bands → band ≡ get_or bands i band
    → take (i + 1) bands ≡ take i bands ++ band ∷ []
taken_more bands i band below same =
    take_more bands i band below ∙ ap (λ one. take i bands ++ one ∷ []) (sym same)

pub bands_next : (frame : Frame) (bands : List Band) (i last count : ℕ) (band : Band) → i < length bands → band ≡ get_or bands i band
    → run_behind frame 0 0 (take i bands) ≡ (last, count)
    → bands_behind frame 0 0 (take i bands) ++ band_text frame (bands_before (band_from frame band) last count) band
    ≡ bands_behind frame 0 0 (take (i + 1) bands)
bands_next frame bands i last count band below same run =
    sym (ap (bands_behind frame 0 0) (taken_more bands i band below same) ∙ bands_more frame 0 0 (take i bands) band
    ∙ ap (λ (r : ℕ × ℕ). bands_behind frame 0 0 (take i bands) ++ band_text frame (bands_before (band_from frame band) r.0 r.1) band) run)

pub run_next : (frame : Frame) (bands : List Band) (i last count : ℕ) (band : Band) → i < length bands → band ≡ get_or bands i band
    → run_behind frame 0 0 (take i bands) ≡ (last, count)
    → run_behind frame 0 0 (take (i + 1) bands)
    ≡ (band_from frame band, bands_before (band_from frame band) last count + 1)
run_next frame bands i last count band below same run =
    ap (run_behind frame 0 0) (taken_more bands i band below same) ∙ run_more frame 0 0 (take i bands) band
    ∙ ap (λ (r : ℕ × ℕ). (band_from frame band, bands_before (band_from frame band) r.0 r.1 + 1)) run

-- no more bands begin in a row than were counted
pub before_le : (row last count : ℕ) → bands_before row last count ≤ count
before_le row last count = choose (row == last)
  where
    choose : (b : Bool) → cond b count 0 ≤ count
    choose true = omega arith
    choose false = omega arith
