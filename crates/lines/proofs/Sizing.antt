-- What decoding says of pairs of digits. Assumes nothing.
use Rattle.std.proofs.Common.{◌≡◌, ℕ, Bool, true, false, cond, ◌&&◌, Some, None, Ok, Err, Result, refl, ap, arith}
use Rattle.lines.specs.declared.refusal.HexRefusal.{HexRefusal}
use Rattle.lines.specs.declared.refusal.HexRefusal.TheVariants.{Digit, Odd, Room}

-- the outcome of so many digits by its three tests
abbrev tested : Bool → Bool → Bool → ℕ → Result ℕ HexRefusal
tested digits even fits n = cond digits (cond even (cond fits (Ok n) (Err Room)) (Err Odd)) (Err Digit)

pub ok_tests : (digits even fits : Bool) (n k : ℕ) → Ok k ≡ tested digits even fits n → (Some k ≡ cond (digits && even) (Some n) None) × (k ≡ n) × (fits ≡ true)
ok_tests true true true n k e = let p : k ≡ n = cc in (ap Some p, p, refl)
ok_tests true true false n k e = let z : ◌≡◌ {A = ℕ} 0 1 = cc in absurd (omega arith)
ok_tests true false fits n k e = let z : ◌≡◌ {A = ℕ} 0 1 = cc in absurd (omega arith)
ok_tests false even fits n k e = let z : ◌≡◌ {A = ℕ} 0 1 = cc in absurd (omega arith)

pub room_tests : (digits even fits : Bool) (n : ℕ) → Err Room ≡ tested digits even fits n → (Some n ≡ cond (digits && even) (Some n) None) × (fits ≡ false)
room_tests true true false n e = (refl, refl)
room_tests true true true n e = let z : ◌≡◌ {A = ℕ} 0 1 = cc in absurd (omega arith)
room_tests true false fits n e = let z : ◌≡◌ {A = ℕ} 0 1 = cc in absurd (omega arith)
room_tests false even fits n e = let z : ◌≡◌ {A = ℕ} 0 1 = cc in absurd (omega arith)
