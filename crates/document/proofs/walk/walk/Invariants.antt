use Rattle.std.proofs.Common.{◌≡◌, ℕ, ◌+◌, ◌-◌, ◌≤◌, List, length, drop}
use Rattle.document.specs.Descriptors.{Descriptor, walked_in, walked}
use Rattle.document.specs.Tables.{Tabled}
use Rattle.document.proofs.Walks.{before}
use Rattle.document.proofs.walk.walk.Given as goal

-- the rest is the end of the area; the descriptors so far stand before what the rest of the walk meets, and the gathering holds their fragments
abbrev pub invariant-loop-rest : goal.invariant-loop-rest
invariant-loop-rest l =
    (l.gathering.count + length l.rest ≤ length l.area)
    × (l.rest ≡ drop (length l.area - length l.rest) l.area)
    × ((ds : List Descriptor) × (Tabled l.area ds l.gathering
    × ((n : ℕ) × ((length l.rest ≤ n) × (walked l.area ≡ before ds (walked_in n l.rest))))))

abbrev pub decreases-loop-rest : goal.decreases-loop-rest
decreases-loop-rest l = length l.rest
