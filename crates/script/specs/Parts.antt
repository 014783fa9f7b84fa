-- The parts of a line: what stands before and after a mark. Assumes nothing.
use Rattle.std.specs.Prelude.{ℕ, ◌+◌, Bool, List, length, take, drop, nat_lt}
use Rattle.lines.specs.Marks.{mark_at}

abbrev pub has_mark : ℕ → List ℕ → Bool
has_mark mark text = nat_lt (mark_at mark text) (length text)

abbrev pub before_mark : ℕ → List ℕ → List ℕ
before_mark mark text = take (mark_at mark text) text

-- nothing where there is no mark
abbrev pub after_mark : ℕ → List ℕ → List ℕ
after_mark mark text = drop (mark_at mark text + 1) text
