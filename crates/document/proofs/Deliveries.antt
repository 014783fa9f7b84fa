-- What the three calls deliver: one answer for a document, whichever section carries it. Assumes nothing.
use Rattle.std.proofs.Common.{◌≡◌, ℕ, leb, List, length, Ok, Err, Result, refl, sym, ap, ◌∙◌, subst}
use Rattle.document.specs.Gathers.{section_document, document_within}
use Rattle.document.specs.Filling.{fill_refusal}
use Rattle.document.specs.Placeholder.{IsFilled, inserted}
use Rattle.document.specs.Delivering.{RefusingCall, filling_answer, DeliversOf, Delivers}
use Rattle.document.specs.Rearranging.{Rearranged}
use Rattle.document.specs.Law.{DescriptorOrderDoesNotMatter, AnswersForEachOrder}
use Rattle.document.proofs.Firsts.{first_one, first_of}
use Rattle.document.proofs.Rearrangements.{section_document_same}

pub filled_for : (doc words : List ℕ) → (filled : List ℕ) × IsFilled doc words filled
filled_for doc words = let p = first_of doc in (inserted doc words p.0, (p.0, p.1, refl))

filled_once : (doc words a b : List ℕ) → IsFilled doc words a → IsFilled doc words b → a ≡ b
filled_once doc words a b f g = f.2 ∙ (ap (inserted doc words) (first_one doc f.0 g.0 f.1 g.1) ∙ sym g.2)

one_answer : (x : Result (List ℕ) ℕ) (words : List ℕ) (n : ℕ) (r r' : Result (List ℕ) RefusingCall) → DeliversOf x words n r → DeliversOf x words n r' → r ≡ r'
one_answer (Ok doc) words n r r' a b =
    a.2 ∙ (ap (λ f. filling_answer (fill_refusal words (leb (length f) n)) f) (filled_once doc words a.0 b.0 a.1 b.1) ∙ sym b.2)
one_answer (Err k) words n r r' a b = a ∙ sym b

delivers_too : (s words : List ℕ) (m n : ℕ) (r : Result (List ℕ) RefusingCall) → Delivers s words m n r → (t : List ℕ) → Rearranged s t → Delivers t words m n r
delivers_too s words m n r d t h = subst (λ x. DeliversOf (document_within m x) words n r) (section_document_same s t h) d

pub answers_for_each_order : (s words : List ℕ) (m n : ℕ) (r : Result (List ℕ) RefusingCall) → Delivers s words m n r → AnswersForEachOrder s words m n r
answers_for_each_order s words m n r d = λ t h.
    let same = delivers_too s words m n r d t h in
    (same, λ other o. one_answer (document_within m (section_document t)) words n other r o same)

pub descriptor_order_does_not_matter : DescriptorOrderDoesNotMatter
descriptor_order_does_not_matter s t h words m n r r' a b =
    sym ((answers_for_each_order s words m n r a t h).1 r' b)
