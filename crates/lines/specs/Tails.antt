-- What stands past the kept bytes of a line: only hexadecimal digits, digits and then one carriage return, or anything else. Assumes nothing.
use Rattle.std.specs.Prelude.{ℕ, ◌-◌, cond, List, Some, None, fold, Option, ◌==◌}
use Rattle.lines.specs.Hex.{is_digit}
use Rattle.lines.specs.declared.tail.Tail.{Tail}
use Rattle.lines.specs.declared.tail.Tail.TheVariants.{Digits, Returned, Other}

-- one byte more
abbrev pub tail_after : Tail → ℕ → Tail
tail_after Digits b = cond (is_digit b) Digits (cond (b == 0x0D) Returned Other)
tail_after Returned b = Other
tail_after Other b = Other

-- all the bytes
abbrev pub tail_of : List ℕ → Tail
tail_of past = fold tail_after Digits past

-- of so many bytes past the kept ones, how many are digits, where nothing else stands there
abbrev pub digits_past : Tail → ℕ → Option ℕ
digits_past Digits n = Some n
digits_past Returned n = Some (n - 1)
digits_past Other n = None
