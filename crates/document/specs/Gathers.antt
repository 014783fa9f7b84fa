-- What a granted or refused gathering answers and leaves. Assumes nothing.
use Rattle.std.specs.Prelude.{◌≡◌, ℕ, cond, List, ◌++◌, length, drop, Some, None, Ok, Err, Option, Result, nat_le}
use Rattle.section.specs.Places.{descriptors_of}
use Rattle.section.specs.Rules.{refusal}
use Rattle.document.specs.Document.{document_of}
use Rattle.document.specs.Lengths.{gathered_length}
use Rattle.document.specs.Refusals.{number}
use Rattle.document.specs.declared.moved.Gathered.{Gathered}
use Rattle.document.specs.declared.refusal.DocumentRefusal.{DocumentRefusal}

-- the section's own number comes first: 10 to 16, which no rule of gathering has, so that the number names the layer
abbrev pub unless_refused : Option ℕ → Result (List ℕ) ℕ → Result (List ℕ) ℕ
unless_refused None document = document
unless_refused (Some k) document = Err k

-- the document of a section, or the number of the refusal
abbrev pub section_document : List ℕ → Result (List ℕ) ℕ
section_document s = unless_refused (refusal s) (document_of (descriptors_of s))

-- it, where a buffer of m bytes has room for it, and else 26
abbrev pub document_within : ℕ → Result (List ℕ) ℕ → Result (List ℕ) ℕ
document_within m (Ok doc) = cond (nat_le (length doc) m) (Ok doc) (Err 26)
document_within m (Err k) = Err k

-- what stands in a buffer in the end: a document at the front and the old bytes after it, or what stood there before a refusal
abbrev pub buffer_after : {E : Type 0} → Result (List ℕ) E → List ℕ → List ℕ
buffer_after (Ok doc) before = doc ++ drop (length doc) before
buffer_after (Err e) before = before

-- the length of that document, or that number
abbrev pub AnswersGathering : Result (List ℕ) ℕ → Result Gathered DocumentRefusal → Type 0
AnswersGathering (Ok doc) (Ok g) = gathered_length g ≡ length doc
AnswersGathering (Err k) (Err e) = number e ≡ k
AnswersGathering _ _ = ⊥

-- the answer for such a document, or number, and the work buffer after it
abbrev pub Gathers : Result (List ℕ) ℕ → List ℕ → Result Gathered DocumentRefusal → List ℕ → Type 0
Gathers document before result after =
    AnswersGathering (document_within (length before) document) result × (after ≡ buffer_after (document_within (length before) document) before)
