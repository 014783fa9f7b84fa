-- What bytes in place hold, and what adding and replacing do to that. Assumes nothing.
use Rattle.std.specs.Prelude.{◌≡◌, ℕ, ◌+◌, ◌<◌, ◌≤◌, List, ◌++◌, length, take, Ok, Err, Result}
use Rattle.octets.specs.declared.fixed.Fixed.{Fixed}

abbrev pub held : {most : ℕ} → Fixed most → List ℕ
held f = take f.len f.bytes

-- a part that fits whole stands behind what was there; any other changes nothing
abbrev pub Adds : {U E : Type 0} → ℕ → List ℕ → List ℕ → Result U E → List ℕ → Type 0
Adds most before part (Ok u) after = (length before + length part ≤ most) × (after ≡ before ++ part)
Adds most before part (Err e) after = (most < length before + length part) × (after ≡ before)

-- the same in place of what was there
abbrev pub Replaces : {U E : Type 0} → ℕ → List ℕ → List ℕ → Result U E → List ℕ → Type 0
Replaces most before bytes (Ok u) after = (length bytes ≤ most) × (after ≡ bytes)
Replaces most before bytes (Err e) after = (most < length bytes) × (after ≡ before)
