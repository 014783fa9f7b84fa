-- Decimal numbers: digits only, at least one, and no zero in front of another digit. Assumes nothing.
use Rattle.std.specs.Prelude.{ℕ, ◌+◌, ◌-◌, ◌*◌, ◌^◌, Bool, cond, not, ◌&&◌, List, length, Some, None, fold, Option, ◌==◌, nat_le, nat_lt, slice_index}
use Rattle.std.specs.List.{list_all}

-- 0 to 9
abbrev pub is_decimal : ℕ → Bool
is_decimal b = nat_le 0x30 b && nat_le b 0x39

abbrev pub all_decimal : List ℕ → Bool
all_decimal text = list_all is_decimal text

-- two digits or more, of which the first is 0
abbrev pub zero_first : List ℕ → Bool
zero_first text = nat_lt 1 (length text) && slice_index text 0 == 0x30

abbrev pub is_number : List ℕ → Bool
is_number text = nat_lt 0 (length text) && (all_decimal text && not (zero_first text))

-- one digit more
abbrev pub with_digit : ℕ → ℕ → ℕ
with_digit n b = 10 * n + (b - 0x30)

-- the value of the digits
abbrev pub number_of : List ℕ → ℕ
number_of text = fold with_digit 0 text

-- the number, where the text is one and it fits 32 bits
abbrev pub parsed : List ℕ → Option ℕ
parsed text = cond (is_number text && nat_lt (number_of text) (2 ^ 32)) (Some (number_of text)) None
