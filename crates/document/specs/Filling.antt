-- What a granted or refused filling answers and leaves. Assumes nothing.
use Rattle.std.specs.Prelude.{◌≡◌, ℕ, Bool, ◌&&◌, List, ◌++◌, length, take, drop, Some, None, Ok, Err, Option, Result, nat_le}
use Rattle.station.specs.Rules.{unless}
use Rattle.document.specs.Lengths.{gathered_length, filled_length}
use Rattle.document.specs.Placeholder.{IsFilled}
use Rattle.document.specs.Refusals.{fill_number}
use Rattle.document.specs.declared.moved.Gathered.{Gathered}
use Rattle.document.specs.declared.moved.Filled.{Filled}
use Rattle.document.specs.declared.moved.Unfilled.{Unfilled}

-- the number of the first rule that is broken: at most 1,024 bytes of words, and each buffer at least as long as its document
abbrev pub fill_refusal : List ℕ → Bool → Option ℕ
fill_refusal words room = unless (nat_le (length words) 1024) 25 (unless room 26 None)

-- the work buffer is at least as long as the gathered document, the output buffer at least as long as the filled one
abbrev pub long_enough : Gathered → List ℕ → List ℕ → List ℕ → Bool
long_enough g work filled out = nat_le (gathered_length g) (length work) && nat_le (length filled) (length out)

-- the front of the work buffer, filled, stands at the front of `out`; a refusal leaves `out` as it was and gives the gathered document back
abbrev pub Fills : Gathered → List ℕ → List ℕ → List ℕ → Result Filled Unfilled → List ℕ → Type 0
Fills g work words before (Ok f) after =
    (doc : List ℕ) × IsFilled (take (gathered_length g) work) words doc × (fill_refusal words (long_enough g work doc before) ≡ None)
    × (filled_length f ≡ length doc) × (after ≡ doc ++ drop (length doc) before)
Fills g work words before (Err e) after =
    (doc : List ℕ) × IsFilled (take (gathered_length g) work) words doc × (fill_refusal words (long_enough g work doc before) ≡ Some (fill_number e.refusal))
    × (e.gathered ≡ g) × (after ≡ before)
