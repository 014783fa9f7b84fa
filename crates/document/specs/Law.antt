-- The law of sections that differ only in the order of their whole descriptors and in the check word. Assumes nothing.
use Rattle.std.specs.Prelude.{◌≡◌, ℕ, List, Result}
use Rattle.document.specs.Delivering.{RefusingCall, Delivers}
use Rattle.document.specs.Rearranging.{Rearranged}

-- for such sections, the same words and buffers of the same lengths, the three calls hand out the same bytes, or the same call refuses by the same number
abbrev pub DescriptorOrderDoesNotMatter : Type 0
DescriptorOrderDoesNotMatter =
    (s t : List ℕ) → Rearranged s t → (words : List ℕ) (m n : ℕ) (r r' : Result (List ℕ) RefusingCall) →
    Delivers s words m n r → Delivers t words m n r' → r ≡ r'

-- each section that differs so from s has this answer, and no other
abbrev pub AnswersForEachOrder : List ℕ → List ℕ → ℕ → ℕ → Result (List ℕ) RefusingCall → Type 0
AnswersForEachOrder s words m n answer =
    (t : List ℕ) → Rearranged s t → Delivers t words m n answer × ((other : Result (List ℕ) RefusingCall) → Delivers t words m n other → other ≡ answer)
