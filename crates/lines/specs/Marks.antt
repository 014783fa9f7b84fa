-- Where a byte stands first. Assumes nothing.
use Rattle.std.specs.Prelude.{ℕ, Bool, not, List, ◌==◌}
use Rattle.std.specs.List.{prefix_len}

-- any byte but the mark
abbrev pub is_other : ℕ → ℕ → Bool
is_other mark b = not (b == mark)

-- how many bytes stand before the first mark; all of them where there is none
abbrev pub mark_at : ℕ → List ℕ → ℕ
mark_at mark text = prefix_len (is_other mark) text
