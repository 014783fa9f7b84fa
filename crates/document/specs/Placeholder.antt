-- The first placeholder of a document, and the document with words put into it. Assumes nothing.
use Rattle.std.specs.Prelude.{◌≡◌, ℕ, ◌+◌, ◌<◌, ◌≤◌, List, ◌++◌, length, take, drop, Some, None, codes, Option}
use Rattle.document.specs.Escaping.{escape}

abbrev pub placeholder : List ℕ
placeholder = codes "<AlertText></AlertText>"

-- the 23 bytes stand at the place i
abbrev pub Stands : List ℕ → ℕ → Type 0
Stands doc i = take 23 (drop i doc) ≡ placeholder

-- the first place where they stand, or that there is none
abbrev pub First : List ℕ → Option ℕ → Type 0
First doc None = (k : ℕ) → k < length doc → Stands doc k → ⊥
First doc (Some i) = Stands doc i × ((k : ℕ) → k < i → Stands doc k → ⊥)

-- the words, escaped, between the two tags at that place
abbrev pub inserted : List ℕ → List ℕ → Option ℕ → List ℕ
inserted doc words None = doc
inserted doc words (Some i) = take (i + 11) doc ++ (escape words ++ drop (i + 11) doc)

-- filled is the document with the words in its first placeholder
abbrev pub IsFilled : List ℕ → List ℕ → List ℕ → Type 0
IsFilled doc words filled = (place : Option ℕ) × First doc place × (filled ≡ inserted doc words place)

-- the document so filled at the front of the buffer and the old bytes after it; a buffer that is too short stays as it was
abbrev pub Puts : List ℕ → List ℕ → List ℕ → Option ℕ → List ℕ → Type 0
Puts doc words before (Some n) after =
    (p : Option ℕ) × (First doc p × (n ≡ length (inserted doc words p)) × (n ≤ length before) × (after ≡ inserted doc words p ++ drop n before))
Puts doc words before None after =
    (p : Option ℕ) × (First doc p × (length before < length (inserted doc words p)) × (after ≡ before))
