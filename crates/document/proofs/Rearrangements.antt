-- Sections that differ only in the order of their whole descriptors and in the check word have the same document. Assumes nothing.
use Rattle.std.proofs.Common.{◌≡◌, ℕ, Bool, true, false, List, ◌++◌, Option, Result, refl, sym, ap, ◌∙◌}
use Rattle.section.specs.Places.{descriptors_of}
use Rattle.station.specs.Rules.{unless}
use Rattle.document.specs.Descriptors.{Descriptor, Walked, walked, ended}
use Rattle.document.specs.Fragments.{fragments_of}
use Rattle.document.specs.Document.{fault_of, bound, or_fault, document_of}
use Rattle.document.specs.Gathers.{unless_refused, section_document}
use Rattle.document.specs.Rearranging.{laid, Torn, Reordered, Rearranged}
use Rattle.document.proofs.Layings.{laid_met}
use Rattle.document.proofs.Orders.{order_same}

-- the document of what a walk meets
abbrev pub carried : Walked → Result (List ℕ) ℕ
carried w = or_fault (unless (ended w) 20 (fault_of w.whole)) (bound (fragments_of w.whole))

-- a walk that does not end is refused first
ended_first : (b : Bool) (o p : Option ℕ) (x y : List ℕ) → or_fault o x ≡ or_fault p y → or_fault (unless b 20 o) x ≡ or_fault (unless b 20 p) y
ended_first true o p x y h = h
ended_first false o p x y h = refl

pub of_laid : (area : List ℕ) (ds : List Descriptor) (rest : List ℕ) → area ≡ laid ds ++ rest → Torn rest → document_of area ≡ carried (record { whole = ds; torn = rest })
unfolding document_of
of_laid area ds rest e h = ap (λ a. carried (walked a)) e ∙ ap carried (laid_met ds rest h)

reordered_same : (rest : List ℕ) {ds es : List Descriptor} → Reordered ds es → carried (record { whole = ds; torn = rest }) ≡ carried (record { whole = es; torn = rest })
reordered_same rest {ds} {es} r =
    ended_first (ended (record { whole = ds; torn = rest })) (fault_of ds) (fault_of es) (bound (fragments_of ds)) (bound (fragments_of es)) (order_same r)

pub section_document_same : (s t : List ℕ) → Rearranged s t → section_document s ≡ section_document t
section_document_same s t r =
    ap (λ o. unless_refused o (document_of (descriptors_of s))) r.formed
    ∙ (of_laid (descriptors_of s) r.ds r.rest r.area r.torn
    ∙ (reordered_same r.rest r.reordered
    ∙ (sym (of_laid (descriptors_of t) r.es r.rest r.area_too r.torn)
    ∙ sym (ap (λ o. unless_refused o (document_of (descriptors_of t))) r.formed_too))))
