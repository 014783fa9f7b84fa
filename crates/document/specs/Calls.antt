-- What each of the three calls answers for the document of a section. Assumes nothing.
use Rattle.std.specs.Prelude.{ℕ, List, length, codes, Ok, Err, Result}
use Rattle.std.specs.Borrow.{Bor}
use Rattle.document.specs.Delivering.{Holds, FilledOf, HoldsFilled, refusal_by, Delivers}
use Rattle.document.specs.Handing.{HandsOut}
use Rattle.document.specs.Refusals.{number, fill_number}
use Rattle.document.specs.declared.moved.Gathered.{Gathered}
use Rattle.document.specs.declared.moved.Filled.{Filled}
use Rattle.document.specs.declared.moved.Unfilled.{Unfilled}
use Rattle.document.specs.declared.refusal.DocumentRefusal.{DocumentRefusal}
use Rattle.document.specs.declared.withheld.HandOutRefusal.{HandOutRefusal}

-- gathered into a work buffer of m bytes: the document of s is held, or s is not delivered, by this number
abbrev pub GathersOf : List ℕ → ℕ → Result Gathered DocumentRefusal → List ℕ → Type 0
GathersOf s m (Ok g) after = Holds s g after
GathersOf s m (Err e) after = (words : List ℕ) (n : ℕ) → Delivers s words m n (refusal_by (codes "gather") (number e))

-- filled into an output buffer of n bytes: the document of s with the words is held, or s is not delivered, by this number, and still held as it was
abbrev pub FillsOf : List ℕ → List ℕ → List ℕ → ℕ → Result Filled Unfilled → List ℕ → Type 0
FillsOf s work words n (Ok f) after = HoldsFilled s words f after
FillsOf s work words n (Err e) after =
    Holds s e.gathered work × Delivers s words (length work) n (refusal_by (codes "fill") (fill_number e.refusal))

-- handed out: the document of s with the words, never a refusal
abbrev pub HandsOutOf : List ℕ → List ℕ → Result (Bor (List ℕ)) HandOutRefusal → Type 0
HandsOutOf s words (Ok part) = FilledOf s words part.now
HandsOutOf s words (Err e) = ⊥

-- whoever hands out over this buffer is given that document, as often as wanted
abbrev pub HandsOutWhenever : List ℕ → List ℕ → Filled → List ℕ → Type 0
HandsOutWhenever s words f out = (r : Result (Bor (List ℕ)) HandOutRefusal) → HandsOut f out r → HandsOutOf s words r
