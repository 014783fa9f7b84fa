-- The bound fragments of an area give its document and its refusals. Assumes nothing.
use Rattle.std.proofs.Common.{◌≡◌, ℕ, ◌<◌, ◌≤◌, Bool, true, false, List, ◌++◌, length, drop, Some, None, Ok, Err, Option, sym, refl, ap, ◌∙◌, subst, arith, length-take}
use Rattle.std.proofs.lemmas.Bool.{le-leb, lt-leb}
use Rattle.section.specs.Places.{descriptors_of, check_at}
use Rattle.station.specs.Rules.{unless}
use Rattle.document.specs.Descriptors.{walked, ended}
use Rattle.document.specs.Fragments.{fragments_of}
use Rattle.document.specs.Document.{fault_of, bound, or_fault, document_of}
use Rattle.document.specs.Gathers.{Gathers}
use Rattle.document.specs.Refusals.{number}
use Rattle.document.specs.declared.refusal.DocumentRefusal.{DocumentRefusal}
use Rattle.document.specs.declared.refusal.DocumentRefusal.TheVariants.{Unended, Short}

-- of an area that the walk ends, or does not
document_by : (area : List ℕ) {b : Bool} → ended (walked area) ≡ b → document_of area ≡ or_fault (unless b 20 (fault_of (walked area).whole)) (bound (fragments_of (walked area).whole))
unfolding document_of
document_by area e = ap (λ b. or_fault (unless b 20 (fault_of (walked area).whole)) (bound (fragments_of (walked area).whole))) e

pub unended : (area before : List ℕ) → ended (walked area) ≡ false → Gathers (document_of area) before (Err Unended) before
unended area before e = subst (λ d. Gathers d before (Err Unended) before) (sym (document_by area e)) (refl, refl)

-- the walk ended
module _ (area before : List ℕ) (whole : ended (walked area) ≡ true) where
  document_is : (o : Option ℕ) → fault_of (walked area).whole ≡ o → document_of area ≡ or_fault o (bound (fragments_of (walked area).whole))
  document_is o e = document_by area whole ∙ ap (λ x. or_fault x (bound (fragments_of (walked area).whole))) e

  pub faulty : (e : DocumentRefusal) → fault_of (walked area).whole ≡ Some (number e) → Gathers (document_of area) before (Err e) before
  faulty e h = subst (λ d. Gathers d before (Err e) before) (sym (document_is (Some (number e)) h)) (refl, refl)

  module _ (h : fault_of (walked area).whole ≡ None) (doc : List ℕ) (is : doc ≡ bound (fragments_of (walked area).whole)) (n : ℕ) (size : n ≡ length doc) where
    document_here : document_of area ≡ Ok doc
    document_here = document_is None h ∙ ap Ok (sym is)

    pub short : length before < n → Gathers (document_of area) before (Err Short) before
    short lt = subst (λ d. Gathers d before (Err Short) before) (sym document_here) (rw (lt-leb (length doc) (length before) (omega arith)) (refl, refl))

    pub granted : (after : List ℕ) → n ≤ length before → after ≡ doc ++ drop (length doc) before → Gathers (document_of area) before (Ok (record { size = n })) after
    granted after room put = subst (λ d. Gathers d before (Ok (record { size = n })) after) (sym document_here) (rw (le-leb (length doc) (length before) (omega arith)) (size, put))

-- a section states the length of its descriptors in ten bits
pub few : (s : List ℕ) → length (descriptors_of s) ≤ 1023
unfolding descriptors_of check_at
few s = simp length-take (omega arith)
