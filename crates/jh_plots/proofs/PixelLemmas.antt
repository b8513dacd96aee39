-- Pixels stay on their axis.
use Rattle.std.proofs.Common.{ℕ, ◌*◌, ◌/◌, ◌^◌, ◌<◌, ◌≤◌, arith}
use Rattle.std.proofs.Math.Nat.{div-le_of_le-mul, mul-le-mul_right}

pub pixel_within : (last part whole : ℕ) → part ≤ whole → part * last / whole ≤ last
pixel_within last part whole h = div-le_of_le-mul whole (mul-le-mul_right last h)

pub product_fits : (last part : ℕ) → part < 2 ^ 112 → last < 2 ^ 16 → part * last < 2 ^ 128
product_fits last part p l =
    let most : part * last ≤ (2 ^ 112) * last = mul-le-mul_right last (omega arith) in
    omega arith
