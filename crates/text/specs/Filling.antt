-- A text of at most 1,024 bytes that characters are put on one by one. Assumes nothing.
use Rattle.std.specs.Prelude.{◌≡◌, ℕ, ◌-◌, Bool, true, false, ◌&&◌, List, [], ◌∷◌, ◌++◌, map, length, nat_le, Ok, Err, Result}
use Rattle.octets.specs.Held.{Adds}
use Rattle.text.specs.Structure.{Segment}
use Rattle.text.specs.Reading.{character, cut}

-- how many bytes the words leave
abbrev pub room : List ℕ → ℕ
room words = 1024 - length words

-- a part that fits whole stands behind the words; any other changes nothing
abbrev pub Puts : {U E : Type 0} → List ℕ → List ℕ → Result U E → List ℕ → Type 0
Puts words part r after = Adds 1024 words part r after

-- the words and those first characters that fit whole
abbrev pub filled : List ℕ → List (List ℕ) → List ℕ
filled words cs = words ++ cut (room words) cs

-- all of the characters fit after the words
abbrev pub all_fit : List ℕ → List (List ℕ) → Bool
all_fit words [] = true
all_fit words (c ∷ cs) = nat_le (length c) (room words) && all_fit (words ++ c) cs

-- the characters are put on one by one until one does not fit, and the result says whether all did
abbrev pub Fills : {U E : Type 0} → List ℕ → List (List ℕ) → Result U E → List ℕ → Type 0
Fills words cs (Ok u) after = (all_fit words cs ≡ true) × (after ≡ filled words cs)
Fills words cs (Err e) after = (all_fit words cs ≡ false) × (after ≡ filled words cs)

-- the characters of one segment
abbrev pub spelled : Segment → List (List ℕ)
spelled g = map (character g.mode) g.bytes
