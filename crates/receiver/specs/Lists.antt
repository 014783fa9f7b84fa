-- Services that are on the list of the set. Assumes nothing.
use Rattle.std.specs.Prelude.{ℕ, ◌<◌, ◌≤◌}
use Rattle.sets.specs.Meaning.{count_of}
use Rattle.history.specs.Histories.{Start}

-- the number is that of a service, and there are 256 at most
abbrev pub OnList : Start → ℕ → Type 0
OnList s k = (k < count_of s.found) × (count_of s.found ≤ 256)
