-- From what a call leaves in its buffers to the document of the section. Assumes nothing.
use Rattle.std.proofs.Common.{◌≡◌, ℕ, ◌≤◌, leb, List, ◌++◌, length, take, drop, Some, None, Ok, Err, Option, Result, codes, sym, refl, ap, ◌∙◌, subst, inl, inr, arith, length-append, length-take}
use Rattle.std.proofs.lemmas.List.{take_at}
use Rattle.std.proofs.lemmas.Bool.{cases_lt, le-leb, lt-leb, leb-true}
use Rattle.std.proofs.lemmas.Option.{none-some}
use Rattle.station.specs.Rules.{unless}
use Rattle.document.specs.Gathers.{section_document, document_within, buffer_after, AnswersGathering, Gathers}
use Rattle.document.specs.Filling.{fill_refusal, long_enough, Fills}
use Rattle.document.specs.Placeholder.{IsFilled}
use Rattle.document.specs.Refusals.{number, fill_number}
use Rattle.document.specs.Delivering.{Holds, FilledOf, HoldsFilled, refusal_by, filling_answer, DeliversOf, Delivers}
use Rattle.document.specs.Calls.{GathersOf, FillsOf, HandsOutWhenever}
use Rattle.document.specs.Rearranging.{Rearranged}
use Rattle.document.specs.declared.moved.Gathered.{Gathered}
use Rattle.document.specs.declared.moved.Filled.{Filled}
use Rattle.document.specs.declared.moved.Unfilled.{Unfilled}
use Rattle.document.specs.declared.refusal.DocumentRefusal.{DocumentRefusal}
use Rattle.document.specs.declared.withheld.HandOutRefusal.TheVariants.{Short as Cut}
use Rattle.document.proofs.Laws.{kept_by}
use Rattle.document.proofs.Rearrangements.{section_document_same}

-- a document at the front of a buffer
at_front : (doc tail after : List ℕ) (n : ℕ) → n ≡ length doc → after ≡ doc ++ tail → (n ≤ length after) × (take n after ≡ doc)
at_front doc tail after n e a =
    let l = ap length a ∙ length-append doc tail in
    (omega arith, ap (take n) a ∙ take_at doc tail n (sym e))

-- a document within a buffer is the document, and is not longer
within_ok : (m : ℕ) (x : Result (List ℕ) ℕ) (doc : List ℕ) → document_within m x ≡ Ok doc → x ≡ Ok doc
within_ok m (Ok d) doc h =
    elim (cases_lt m (length d)) [
      | inl lt ↦ let e : ◌≡◌ {A = Result (List ℕ) ℕ} (Err 26) (Ok doc) = rw (lt-leb (length d) m lt) at h in
          let z : ◌≡◌ {A = ℕ} 0 1 = cc in
          absurd (omega (arith, z))
      | inr ge ↦ rw (le-leb (length d) m ge) at h
    ]
within_ok m (Err k) doc h = h

gathers_as : (s before : List ℕ) (x : Result (List ℕ) ℕ) (r : Result Gathered DocumentRefusal) (after : List ℕ) → document_within (length before) (section_document s) ≡ x → AnswersGathering x r → after ≡ buffer_after x before → GathersOf s (length before) r after
gathers_as s before (Ok doc) (Ok g) after e h a =
    let f = at_front doc (drop (length doc) before) after g.size h a in
    record { within = f.0; held = within_ok (length before) (section_document s) doc e ∙ ap Ok (sym f.1) }
gathers_as s before (Ok doc) (Err x) after e h a = absurd h
gathers_as s before (Err k) (Ok g) after e h a = absurd h
gathers_as s before (Err k) (Err x) after e h a = λ words n.
    subst (λ y. DeliversOf y words n (refusal_by (codes "gather") (number x))) (sym e) (ap (refusal_by (codes "gather")) h)

pub gathers_of : (s before : List ℕ) (r : Result Gathered DocumentRefusal) (after : List ℕ) → Gathers (section_document s) before r after → GathersOf s (length before) r after
gathers_of s before r after h = gathers_as s before (document_within (length before) (section_document s)) r after refl h.0 h.1

pub gathers_too : (s before : List ℕ) (r : Result Gathered DocumentRefusal) (after : List ℕ) → Gathers (section_document s) before r after → (t : List ℕ) → Rearranged s t → Gathers (section_document t) before r after
gathers_too s before r after h t m = subst (λ x. Gathers x before r after) (section_document_same s t m) h

-- what a work buffer holds is within it
held_within : (s work : List ℕ) (g : Gathered) → Holds s g work → document_within (length work) (section_document s) ≡ Ok (take g.size work)
held_within s work g held =
    let d : List ℕ = take g.size work in
    let l : length d ≤ length work = simp length-take (omega arith) in
    ap (document_within (length work)) held.held ∙ (rw (le-leb (length d) (length work) l) refl)

module _ (s : List ℕ) (g : Gathered) (work words before after : List ℕ) (held : Holds s g work) where
  refused_of : (k : ℕ) (doc : List ℕ) → IsFilled (take g.size work) words doc → fill_refusal words (long_enough g work doc before) ≡ Some k
      → Delivers s words (length work) (length before) (refusal_by (codes "fill") k)
  refused_of k doc f h =
      let b : fill_refusal words (leb (length doc) (length before)) ≡ Some k = rw (le-leb g.size (length work) held.within) at h in
      subst (λ x. DeliversOf x words (length before) (refusal_by (codes "fill") k)) (sym (held_within s work g held))
      (doc, f, ap (λ o. filling_answer o doc) (sym b))

  pub fills_of : (r : Result Filled Unfilled) → Fills g work words before r after → FillsOf s work words (length before) r after
  fills_of (Ok f) h =
      let k = kept_by (leb (length words) 1024) 25 (unless (long_enough g work h.0 before) 26 None) h.2 in
      let a = at_front h.0 (drop (length h.0) before) after f.size h.3 h.4 in
      record {
        within = a.0;
        held = record { document = take g.size work; gathered = held.held; brief = leb-true (length words) 1024 k.0; filled = subst (IsFilled (take g.size work) words) (sym a.1) h.1 };
      }
  fills_of (Err e) h = (subst (λ x. Holds s x work) (sym h.3) held, refused_of (fill_number e.refusal) h.0 h.1 h.2)

-- what was held in a work buffer of m bytes and is handed out of an output buffer of n bytes was delivered
same_ok : (x : Result (List ℕ) ℕ) (a b : List ℕ) → x ≡ Ok a → x ≡ Ok b → a ≡ b
same_ok x a b h k = cc

pub delivered : (s words work out : List ℕ) (g : Gathered) (f : Filled) (m n : ℕ) → length work ≡ m → length out ≡ n → Holds s g work → HoldsFilled s words f out → Delivers s words m n (Ok (take f.size out))
delivered s words work out g f m n w o held filled =
    let d = filled.held in
    let a = same_ok (section_document s) d.document (take g.size work) d.gathered held.held in
    let l = length-take f.size out in
    let i : document_within m (section_document s) ≡ Ok (take g.size work) = subst (λ n. document_within n (section_document s) ≡ Ok (take g.size work)) w (held_within s work g held) in
    subst (λ x. DeliversOf x words n (Ok (take f.size out))) (sym i)
    (take f.size out, subst (λ x. IsFilled x words (take f.size out)) a d.filled, rw (le-leb (length words) 1024 d.brief, le-leb (length (take f.size out)) n (omega arith)))

-- a filled document that a buffer holds is handed out of it
pub hands_out_of : (s words out : List ℕ) (f : Filled) → HoldsFilled s words f out → HandsOutWhenever s words f out
hands_out_of s words out f held (Ok part) h = subst (FilledOf s words) (sym h.1) held.held
hands_out_of s words out f held (Err Cut) h =
    let n : ◌≡◌ {A = Option ℕ} None (Some 26) = rw (le-leb f.size (length out) held.within) at h in
    absurd (none-some _ n)
