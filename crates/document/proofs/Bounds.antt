-- The fragments of a table in rising number, and what they lack. Assumes nothing.
use Rattle.std.proofs.Common.{◌≡◌, ℕ, zero, suc, ◌+◌, ◌*◌, ◌<◌, ◌≤◌, Bool, true, false, not, ◌&&◌, ◌||◌, eqb, List, [], ◌∷◌, ◌++◌, length, get_or, take, drop, Some, None, Option, sym, refl, ap, ◌∙◌, add-one, inl, inr, subst, sum_by, arith, length-append, length-take, length-drop}
use Rattle.std.specs.Option.{is_some}
use Rattle.std.specs.List.{list_all}
use Rattle.std.proofs.lemmas.List.{get_or-drop, get_or-take, get_or_past}
use Rattle.std.proofs.lemmas.List.Folds.{list_all_more}
use Rattle.std.proofs.lemmas.List.Sums.{sum_by_more}
use Rattle.std.proofs.lemmas.Bool.{cases_lt, ne_eqb}
use Rattle.std.proofs.lemmas.Bool.Decides.{nat_tests}
use Rattle.station.specs.Rules.{unless}
use Rattle.document.specs.Descriptors.{Descriptor}
use Rattle.document.specs.Fragments.{Fragment, any_breaks, fragments_of, tally, repeats, lookup, missing, chained}
use Rattle.document.specs.Document.{fault, fault_of, gap, bound}
use Rattle.document.specs.Tables.{empty, Placed, Tabled, Inside, placed_bytes, placed_len, pieces}
use Rattle.document.specs.declared.slots.Place.{Place}
use Rattle.document.specs.declared.slots.Slot.{Slot}
use Rattle.document.specs.declared.slots.Gathering.{Gathering}
use Rattle.document.proofs.Bindings.{missing_at}
use Rattle.document.proofs.Escapes.{flat_map_on}

abbrev filled : Slot → Bool
filled s = is_some s.fragment

lookup_none : (k : ℕ) (fs : List Fragment) → tally k fs ≡ 0 → lookup k fs ≡ []
lookup_none k [] h = refl
lookup_none k (f ∷ fs) h = let i = lookup_none k fs in grind (arith, nat_tests)

placed_piece : (area : List ℕ) (fs : List Fragment) (k : ℕ) (o : Option Place) → Placed area fs k (record { fragment = o }) → placed_bytes area (record { fragment = o }) ≡ lookup k fs
placed_piece area fs k None h = sym (lookup_none k fs h)
placed_piece area fs k (Some b) h = h.1

placed_short : (area : List ℕ) (fs : List Fragment) (k : ℕ) (o : Option Place) → Placed area fs k (record { fragment = o }) → length (placed_bytes area (record { fragment = o })) ≤ 255
placed_short area fs k None h = omega arith
placed_short area fs k (Some p) h = omega (arith, h.3, length-take p.len (drop p.start area))

placed_size : (area : List ℕ) (fs : List Fragment) (k : ℕ) (o : Option Place) → Placed area fs k (record { fragment = o }) → placed_len (record { fragment = o }) ≡ length (placed_bytes area (record { fragment = o }))
placed_size area fs k None h = refl
placed_size area fs k (Some p) h = omega (arith, h.2, length-take p.len (drop p.start area), length-drop p.start area)

placed_inside : (area : List ℕ) (fs : List Fragment) (k : ℕ) (o : Option Place) → Placed area fs k (record { fragment = o }) → Inside area (record { fragment = o })
placed_inside area fs k None h = tt
placed_inside area fs k (Some p) h = h.2

placed_some : (area : List ℕ) (fs : List Fragment) (k : ℕ) (o : Option Place) → Placed area fs k (record { fragment = o }) → is_some o ≡ not (eqb (tally k fs) 0)
placed_some area fs k None h = grind (arith, nat_tests)
placed_some area fs k (Some b) h = ap not (sym (ne_eqb (tally k fs) 0 h.0))

placed_gone : (area : List ℕ) (fs : List Fragment) (k : ℕ) (o : Option Place) → Placed area fs k (record { fragment = o }) → o ≡ None → tally k fs ≡ 0
placed_gone area fs k None h e = h
placed_gone area fs k (Some b) h e = cc

both : (a b : Bool) → (not b && not a) ≡ not (a || b)
both true true = refl
both true false = refl
both false true = refl
both false false = refl

-- with nothing wrong before it, only a gap is left to refuse
fault_left : (b : Bool) (n : ℕ) (r g : Bool) → b ≡ false → (n ≡ 0 → ⊥) → r ≡ false → fault b n r g ≡ unless (not g) 24 None
fault_left b n r g p z q = rw (p, ne_eqb n 0 z, q)

module _ (area : List ℕ) (ds : List Descriptor) (g : Gathering) (h : Tabled area ds g) where
  abbrev fs : List Fragment
  fs = fragments_of ds

  abbrev rest : List Slot
  rest = drop 1 g.slots

  at_rest : (n : ℕ) → get_or rest n empty ≡ get_or g.slots (n + 1) empty
  at_rest n = let e : 1 + n ≡ n + 1 = omega arith in get_or-drop 1 g.slots n empty ∙ ap (λ k. get_or g.slots k empty) e

  inside : (n : ℕ) → n + 1 < 256 → n < length rest
  inside n lt = omega (arith, length-drop 1 g.slots, h.table)

  pieces_are : (n : ℕ) → n < 256 → pieces area (take n rest) ≡ chained (λ k. lookup k fs) n
  pieces_are zero lt = refl
  pieces_are (suc n) lt =
      let one = add-one n in
      ap (λ m. pieces area (take m rest)) (sym one) ∙ (flat_map_on (placed_bytes area) rest n empty (inside n (omega arith))
      ∙ (ap (λ r. r ++ placed_bytes area (get_or rest n empty)) (pieces_are n (omega arith))
      ∙ ap (λ r. chained (λ k. lookup k fs) n ++ r) (ap (placed_bytes area) (at_rest n) ∙ (placed_piece area fs (n + 1) (get_or g.slots (n + 1) empty).fragment (h.places (n + 1)) ∙ ap (λ m. lookup m fs) one))))

  pieces_short : (n : ℕ) → n < 256 → length (pieces area (take n rest)) ≤ 255 * n
  pieces_short zero lt = omega arith
  pieces_short (suc n) lt =
      let one = add-one n in
      let more = ap length (ap (λ m. pieces area (take m rest)) (sym one) ∙ flat_map_on (placed_bytes area) rest n empty (inside n (omega arith))) ∙ length-append (pieces area (take n rest)) (placed_bytes area (get_or rest n empty)) in
      let short = placed_short area fs (n + 1) (get_or g.slots (n + 1) empty).fragment (h.places (n + 1)) in
      let here = ap (λ s. length (placed_bytes area s)) (at_rest n) in
      let before = pieces_short n (omega arith) in
      omega arith

  sizes_are : (n : ℕ) → n < 256 → sum_by placed_len (take n rest) ≡ length (pieces area (take n rest))
  sizes_are zero lt = refl
  sizes_are (suc n) lt =
      let one = add-one n in
      let more = ap length (ap (λ m. pieces area (take m rest)) (sym one) ∙ flat_map_on (placed_bytes area) rest n empty (inside n (omega arith))) ∙ length-append (pieces area (take n rest)) (placed_bytes area (get_or rest n empty)) in
      let sum = ap (λ m. sum_by placed_len (take m rest)) (sym one) ∙ sum_by_more placed_len rest n empty (inside n (omega arith)) in
      let here = ap placed_len (at_rest n) ∙ (placed_size area fs (n + 1) (get_or g.slots (n + 1) empty).fragment (h.places (n + 1)) ∙ ap (λ s. length (placed_bytes area s)) (sym (at_rest n))) in
      let before = sizes_are n (omega arith) in
      omega arith

  all_inside : (n k : ℕ) → Inside area (get_or (take n rest) k empty)
  all_inside n k =
      elim (cases_lt k n) [
        | inl lt ↦ subst (Inside area) (sym (get_or-take n rest k empty lt ∙ at_rest k)) (placed_inside area fs (k + 1) (get_or g.slots (k + 1) empty).fragment (h.places (k + 1)))
        | inr past ↦ subst (Inside area) (sym (get_or_past (take n rest) k empty (omega (arith, length-take n rest)))) tt
      ]

  all_there : (n : ℕ) → n < 256 → list_all filled (take n rest) ≡ not (missing (λ k. tally k fs) n)
  all_there zero lt = refl
  all_there (suc n) lt =
      let one = add-one n in
      let some : filled (get_or rest n empty) ≡ not (eqb (tally (suc n) fs) 0) = ap filled (at_rest n) ∙ (placed_some area fs (n + 1) (get_or g.slots (n + 1) empty).fragment (h.places (n + 1)) ∙ ap (λ m. not (eqb (tally m fs) 0)) one) in
      ap (λ m. list_all filled (take m rest)) (sym one) ∙ (list_all_more filled rest n empty (inside n (omega arith))
      ∙ (ap (λ b. b && filled (get_or rest n empty)) (all_there n (omega arith))
      ∙ (ap (λ b. not (missing (λ k. tally k fs) n) && b) some ∙ both (eqb (tally (suc n) fs) 0) (missing (λ k. tally k fs) n))))

  module _ (broken : g.broken ≡ false) (some : g.count ≡ 0 → ⊥) (twice : g.twice ≡ false) where
    left : fault_of ds ≡ unless (not (missing (λ k. tally k fs) g.count)) 24 None
    left = fault_left (any_breaks ds) (length fs) (repeats fs) (gap fs) (sym h.broken ∙ broken) (λ z. some (h.count ∙ z)) (sym h.twice ∙ twice)
        ∙ ap (λ n. unless (not (missing (λ k. tally k fs) n)) 24 None) (sym h.count)

    -- none of the numbers is missing
    pub all_bound : (ps : List Slot) → ps ≡ take g.count rest → g.count < 256 → list_all filled ps ≡ true
        → (fault_of ds ≡ None) × (pieces area ps ≡ bound fs) × (length (pieces area ps) ≤ 65535)
        × (sum_by placed_len ps ≡ length (pieces area ps)) × ((k : ℕ) → Inside area (get_or ps k empty))
    all_bound ps e lt all =
        let b : not (missing (λ k. tally k fs) g.count) ≡ true = sym (all_there g.count lt) ∙ (sym (ap (list_all filled) e) ∙ all) in
        let m : missing (λ k. tally k fs) g.count ≡ false = grind (arith, b) in
        let short = pieces_short g.count lt in
        let l = ap (λ x. length (pieces area x)) e in (
          left ∙ ap (λ b. unless (not b) 24 None) m,
          ap (pieces area) e ∙ (pieces_are g.count lt ∙ ap (chained (λ k. lookup k fs)) h.count),
          omega arith,
          ap (sum_by placed_len) e ∙ (sizes_are g.count lt ∙ sym l),
          λ k. subst (λ x. Inside area (get_or x k empty)) (sym e) (all_inside g.count k),
        )

    -- a number of the table is missing
    pub one_missing : (ps : List Slot) → ps ≡ take g.count rest → g.count < 256 → list_all filled ps ≡ false → fault_of ds ≡ Some 24
    one_missing ps e lt all =
        let b : not (missing (λ k. tally k fs) g.count) ≡ false = sym (all_there g.count lt) ∙ (sym (ap (list_all filled) e) ∙ all) in
        let m : missing (λ k. tally k fs) g.count ≡ true = grind (arith, b) in
        left ∙ ap (λ b. unless (not b) 24 None) m

    -- more fragments than the table has numbers for: 256 is missing
    pub past_table : 256 ≤ g.count → fault_of ds ≡ Some 24
    past_table ge =
        let none : get_or g.slots 256 empty ≡ empty = get_or_past g.slots 256 empty (omega (arith, h.table)) in
        let zero-tally : tally 256 fs ≡ 0 = placed_gone area fs 256 (get_or g.slots 256 empty).fragment (h.places 256) (ap (λ (s : Slot). s.fragment) none) in
        left ∙ ap (λ b. unless (not b) 24 None) (missing_at (λ k. tally k fs) 255 g.count (omega arith) zero-tally)
