-- The line of a position.
use Rattle.std.proofs.Common.{◌≡◌, ℕ, ◌+◌, ◌==◌, Bool, true, false, cond, List, [], ◌∷◌, refl, ◌∙◌, arith}
use Rattle.std.specs.List.{count_by}
use Rattle.std.proofs.lemmas.List.Sums.{sum_by-cons}
use Rattle.jh_lexemes.specs.declared.position.Position.{Position}
use Rattle.jh_lexemes.specs.Positions.{after_byte, goes_on, position_from, position_behind}

next_line : (feed on : Bool) (p : Position) → (cond {A = Position} feed (record { line = p.line + 1; column = 1 }) (cond {A = Position} on p (record { line = p.line; column = p.column + 1 }))).line ≡ p.line + cond feed 1 0
next_line true on p = refl
next_line false true p = omega arith
next_line false false p = omega arith

line_from : (p : Position) (s : List ℕ) → (position_from p s).line ≡ p.line + count_by (λ c. c == 10) s
line_from p [] = omega arith
line_from p (c ∷ s) =
    let more = line_from (after_byte p c) s in
    let here : (after_byte p c).line ≡ p.line + cond (c == 10) 1 0 = next_line (c == 10) (goes_on c) p in
    let count : count_by (λ b. b == 10) (c ∷ s) ≡ cond (c == 10) 1 0 + count_by (λ b. b == 10) s = sum_by-cons (λ (b : ℕ). cond (b == 10) 1 0) c s in
    let one : (position_from p (c ∷ s)).line ≡ (position_from (after_byte p c) s).line = refl in
    one ∙ more ∙ omega (arith, here, count)

pub line_behind : (s : List ℕ) → (position_behind s).line ≡ 1 + count_by (λ c. c == 10) s
line_behind s = line_from (record { line = 1; column = 1 }) s
