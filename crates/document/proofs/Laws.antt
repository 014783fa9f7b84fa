-- An area has a document just where the law says so. Assumes nothing.
use Rattle.std.proofs.Common.{◌≡◌, ℕ, zero, suc, ◌≤◌, Bool, true, false, not, eqb, List, [], length, Some, None, Ok, Option, sym, refl, ap, ◌∙◌, arith}
use Rattle.std.proofs.lemmas.Bool.{both_ways, ne_eqb, not-true}
use Rattle.std.proofs.lemmas.List.{append-nil}
use Rattle.std.proofs.lemmas.Option.{none-some}
use Rattle.station.specs.Rules.{unless}
use Rattle.document.specs.Carrying.{IsDocumentOf, DocumentIsItsFragments}
use Rattle.document.specs.Descriptors.{Descriptor, walked, ended}
use Rattle.document.specs.Document.{gap, fault_of, bound, or_fault, document_of}
use Rattle.document.specs.Fragments.{Fragment, any_breaks, fragments_of, repeats}
use Rattle.document.specs.Rearranging.{laid}
use Rattle.document.proofs.Carryings.{carry_of, carries_these}
use Rattle.document.proofs.Layings.{met_laid}
use Rattle.document.proofs.Orders.{length_same, repeats_same, gap_same, bound_same}
use Rattle.document.proofs.Rearrangements.{of_laid}
use Rattle.document.proofs.Risings.{never_twice, no_gap, bound_rising, risen}

granted_by : (o : Option ℕ) (x doc : List ℕ) → or_fault o x ≡ Ok doc → (o ≡ None) × (x ≡ doc)
granted_by None x doc h = (refl, cc)
granted_by (Some k) x doc h = let z : ◌≡◌ {A = ℕ} 0 1 = cc in absurd (omega (arith, z))

pub kept_by : (kept : Bool) (k : ℕ) (rest : Option ℕ) → unless kept k rest ≡ None → (kept ≡ true) × (rest ≡ None)
kept_by true k rest h = (refl, h)
kept_by false k rest h = absurd (none-some _ (sym h))

positive : (n : ℕ) → not (eqb n 0) ≡ true → 1 ≤ n
positive zero h = absurd (both_ways false refl h)
positive (suc n) h = omega arith

pub is_document_of : (area doc : List ℕ) → document_of area ≡ Ok doc → IsDocumentOf area doc
unfolding document_of
is_document_of area doc e =
    let ds : List Descriptor = (walked area).whole in
    let fs : List Fragment = fragments_of ds in
    let g = granted_by (unless (ended (walked area)) 20 (fault_of ds)) (bound fs) doc e in
    let whole = kept_by (ended (walked area)) 20 (fault_of ds) g.0 in
    let kept = kept_by (not (any_breaks ds)) 21 _ whole.1 in
    let some = kept_by (not (eqb (length fs) 0)) 22 _ kept.1 in
    let once = kept_by (not (repeats fs)) 23 _ some.1 in
    let each = kept_by (not (gap fs)) 24 None once.1 in
    let r = risen (length fs) fs refl (not-true (gap fs) each.0) in
    record {
      descriptors = ds;
      in_order_met = fs;
      rising = r.0;
      fill = met_laid area whole.0;
      carry = carry_of ds (not-true (any_breaks ds) kept.0);
      reordered = r.1;
      some = omega (arith, positive (length fs) some.0, length_same r.1);
      numbered = r.2;
      document = sym g.1 ∙ (bound_same r.1 (not-true (repeats fs) once.0) ∙ bound_rising r.0 r.2);
    }

pub has_document : (area doc : List ℕ) → IsDocumentOf area doc → document_of area ≡ Ok doc
has_document area doc i =
    let c = carries_these i.carry in
    let n : length i.in_order_met ≡ 0 → ⊥ = λ z. omega (arith, i.some, length_same i.reordered, z) in
    let twice : repeats i.in_order_met ≡ false = repeats_same i.reordered ∙ never_twice 1 i.rising i.numbered in
    let none : gap i.in_order_met ≡ false = gap_same i.reordered ∙ no_gap i.rising i.numbered in
    of_laid area i.descriptors [] (i.fill ∙ sym (append-nil (laid i.descriptors))) tt
    ∙ (rw (c.0, c.1, ne_eqb (length i.in_order_met) 0 n, twice, none) (ap Ok (bound_same i.reordered twice ∙ (bound_rising i.rising i.numbered ∙ sym i.document))))

pub document_is_its_fragments : DocumentIsItsFragments
document_is_its_fragments area doc = (is_document_of area doc, has_document area doc)
