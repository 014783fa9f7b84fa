-- A refusal as C sees it. Assumes nothing.
use Rattle.std.specs.Prelude.{ℕ, Some, None, Option}

-- 0 where nothing is refused
abbrev pub number_of : Option ℕ → ℕ
number_of None = 0
number_of (Some n) = n
