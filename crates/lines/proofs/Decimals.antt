-- A law of decimal text. Assumes nothing.
use Rattle.std.proofs.Common.{◌≡◌, ℕ, ◌^◌, min, List, [], ◌∷◌, fold, arith}
use Rattle.lines.specs.Decimal.{with_digit}

-- cut off at 2 ^ 32 before each digit, or only at the end
pub cut_between : (xs : List ℕ) (v n : ℕ) → min (2 ^ 32) v ≡ min (2 ^ 32) n
    → min (2 ^ 32) (fold (λ w b. with_digit (min (2 ^ 32) w) b) v xs) ≡ min (2 ^ 32) (fold with_digit n xs)
cut_between [] v n h = h
cut_between (x ∷ xs) v n h = cut_between xs (with_digit (min (2 ^ 32) v) x) (with_digit n x) (omega (arith, h))
