-- Hexadecimal text: two digits for a byte, the high one first. Assumes nothing.
use Rattle.std.specs.Prelude.{ℕ, ◌+◌, ◌-◌, ◌*◌, ◌/◌, ◌%◌, Bool, cond, ◌&&◌, ◌||◌, List, [], ◌∷◌, length, Ok, Err, Result, ◌==◌, nat_le}
use Rattle.std.specs.List.{list_all}
use Rattle.lines.specs.declared.refusal.HexRefusal.{HexRefusal}
use Rattle.lines.specs.declared.refusal.HexRefusal.TheVariants.{Digit, Odd, Room}

abbrev pub within : ℕ → ℕ → ℕ → Bool
within low high b = nat_le low b && nat_le b high

-- 0 to 9, A to F, a to f
abbrev pub is_digit : ℕ → Bool
is_digit b = within 0x30 0x39 b || (within 0x41 0x46 b || within 0x61 0x66 b)

-- what a digit is worth
abbrev pub worth : ℕ → ℕ
worth b = cond (nat_le b 0x39) (b - 0x30) (cond (nat_le b 0x46) (b - 0x41 + 10) (b - 0x61 + 10))

abbrev pub all_digits : List ℕ → Bool
all_digits text = list_all is_digit text

-- the bytes of pairs of digits
abbrev pub decoded : List ℕ → List ℕ
decoded [] = []
decoded (b ∷ []) = []
decoded (high ∷ low ∷ bs) = (16 * worth high + worth low) ∷ decoded bs

-- how many bytes a text decodes to in so much room, or the first of the reasons why it does not
abbrev pub outcome : List ℕ → ℕ → Result ℕ HexRefusal
outcome text room =
    cond (all_digits text)
    (cond (length text % 2 == 0) (cond (nat_le (length text / 2) room) (Ok (length text / 2)) (Err Room)) (Err Odd))
    (Err Digit)
