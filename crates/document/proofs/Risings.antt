-- Fragments whose numbers rise from 1, and those that can be put so. Assumes nothing.
use Rattle.std.proofs.Common.{◌≡◌, ℕ, zero, suc, ◌+◌, ◌<◌, ◌≤◌, false, eqb, List, [], ◌∷◌, ◌++◌, length, get_or, take, sym, refl, ap, ◌∙◌, subst, inl, inr, add-one, arith}
use Rattle.std.specs.List.{flat_map}
use Rattle.std.proofs.lemmas.Bool.{cases_eq, both_ways, eq-eqb, ne_eqb, or_parts}
use Rattle.std.proofs.Math.Seq.{take-length}
use Rattle.document.specs.Carrying.{RiseFrom}
use Rattle.document.specs.Document.{gap, bound}
use Rattle.document.specs.Fragments.{Fragment, tally, repeats, lookup, missing, chained}
use Rattle.document.specs.Rearranging.{Reordered, none, keep, swap, chain}
use Rattle.document.proofs.Bindings.{none_missing, missing_same}
use Rattle.document.proofs.Escapes.{flat_map_on}
use Rattle.document.proofs.Orders.{unmoved, length_same, tally_same}

-- what stands where, by number
lookup_at : (k : ℕ) (fs : List Fragment) (i : ℕ) (d : Fragment) → RiseFrom k fs → i < length fs → lookup (k + i) fs ≡ (get_or fs i d).bytes
lookup_at k [] i d h lt = absurd (omega arith)
lookup_at k (f ∷ fs) zero d h lt = let e : f.number ≡ k + 0 = omega (arith, h.0) in rw (eq-eqb f.number (k + 0) e)
lookup_at k (f ∷ fs) (suc i) d h lt =
    let e : suc k + i ≡ k + suc i = omega arith in
    rw (ne_eqb f.number (k + suc i) (λ q. omega (arith, h.0, q))) (subst (λ n. lookup n fs ≡ (get_or fs i d).bytes) e (lookup_at (suc k) fs i d h.1 (omega arith)))

none_before : (k j : ℕ) (fs : List Fragment) → RiseFrom k fs → j < k → tally j fs ≡ 0
none_before k j [] h lt = refl
none_before k j (f ∷ fs) h lt = rw (ne_eqb f.number j (λ q. omega (arith, h.0, q))) (none_before (suc k) j fs h.1 (omega arith))

one_at : (k : ℕ) (fs : List Fragment) (i : ℕ) → RiseFrom k fs → i < length fs → tally (k + i) fs ≡ 0 → ⊥
one_at k [] i h lt z = absurd (omega arith)
one_at k (f ∷ fs) zero h lt z =
    let e : f.number ≡ k + 0 = omega (arith, h.0) in
    let some : suc (tally (k + 0) fs) ≡ 0 = rw (eq-eqb f.number (k + 0) e) at z in
    omega (arith, some)
one_at k (f ∷ fs) (suc i) h lt z =
    let e : k + suc i ≡ suc k + i = omega arith in
    let rest : tally (k + suc i) fs ≡ 0 = rw (ne_eqb f.number (k + suc i) (λ q. omega (arith, h.0, q))) at z in
    one_at (suc k) fs i h.1 (omega arith) (subst (λ n. tally n fs ≡ 0) e rest)

pub never_twice : (k : ℕ) (fs : List Fragment) → RiseFrom k fs → repeats fs ≡ false
never_twice k [] h = refl
never_twice k (f ∷ fs) h =
    let z : tally f.number fs ≡ 0 = ap (λ n. tally n fs) h.0 ∙ none_before (suc k) k fs h.1 (omega arith) in
    rw (z, never_twice (suc k) fs h.1)

module _ (fs : List Fragment) (h : RiseFrom 1 fs) where
  pub no_gap : gap fs ≡ false
  no_gap = none_missing (λ k. tally k fs) (length fs) (λ i lt. one_at 1 fs i h lt)

  chained_front : (n : ℕ) → n ≤ length fs → chained (λ k. lookup k fs) n ≡ flat_map (λ f. f.bytes) (take n fs)
  chained_front zero le = refl
  chained_front (suc n) le =
      let d : Fragment = record { number = 0; bytes = [] } in
      let one : 1 + n ≡ suc n = omega arith in
      let here : lookup (suc n) fs ≡ (get_or fs n d).bytes = ap (λ k. lookup k fs) (sym one) ∙ lookup_at 1 fs n d h (omega arith) in
      ap (λ m. m ++ lookup (suc n) fs) (chained_front n (omega arith))
      ∙ (ap (λ m. flat_map (λ (f : Fragment). f.bytes) (take n fs) ++ m) here
      ∙ (sym (flat_map_on (λ (f : Fragment). f.bytes) fs n d (omega arith)) ∙ ap (λ m. flat_map (λ (f : Fragment). f.bytes) (take m fs)) (add-one n)))

  pub bound_rising : bound fs ≡ flat_map (λ f. f.bytes) fs
  bound_rising = chained_front (length fs) (omega arith) ∙ ap (flat_map (λ (f : Fragment). f.bytes)) (take-length fs)

-- the fragment with a number, taken out
taken : (k : ℕ) (fs : List Fragment) → (tally k fs ≡ 0 → ⊥) → (f : Fragment) × (gs : List Fragment) × (f.number ≡ k) × Reordered fs (f ∷ gs)
taken k [] h = absurd (h refl)
taken k (f ∷ fs) h =
    elim (cases_eq f.number k) [
      | inl e ↦ (f, fs, e, unmoved (f ∷ fs))
      | inr apart ↦ let t = taken k fs (λ z. h (rw (ne_eqb f.number k apart) z)) in (t.0, f ∷ t.1, t.2, chain (keep t.3) swap)
    ]

moved_last : (f : Fragment) (fs : List Fragment) → Reordered (f ∷ fs) (fs ++ f ∷ [])
moved_last f [] = unmoved (f ∷ [])
moved_last f (g ∷ gs) = chain swap (keep (moved_last f gs))

rise_more : (k : ℕ) (fs : List Fragment) (f : Fragment) → RiseFrom k fs → f.number ≡ k + length fs → RiseFrom k (fs ++ f ∷ [])
rise_more k [] f h e = (omega (arith, e), tt)
rise_more k (g ∷ gs) f h e = (h.0, rise_more (suc k) gs f h.1 (omega (arith, e)))

-- n fragments among which none of the numbers 1 to n is missing
pub risen : (n : ℕ) (fs : List Fragment) → length fs ≡ n → missing (λ k. tally k fs) n ≡ false → (rs : List Fragment) × Reordered fs rs × RiseFrom 1 rs
risen zero [] e m = ([], none, tt)
risen zero (f ∷ fs) e m = absurd (omega (arith, e))
risen (suc n) fs e m =
    let p = or_parts (eqb (tally (suc n) fs) 0) (missing (λ k. tally k fs) n) m in
    let t = taken (suc n) fs (λ z. both_ways (eqb (tally (suc n) fs) 0) p.0 (eq-eqb (tally (suc n) fs) 0 z)) in
    let gs : List Fragment = t.1 in
    let l : length gs ≡ n = omega (arith, e, length_same t.3) in
    let same : missing (λ k. tally k fs) n ≡ missing (λ k. tally k gs) n =
    missing_same (λ k. tally k fs) (λ k. tally k gs) n (λ k le. ap (λ m. eqb m 0) (tally_same k t.3 ∙ rw (ne_eqb t.0.number k (λ q. omega (arith, t.2, q))))) in
    let i = risen n gs l (sym same ∙ p.1) in
    let hs : List Fragment = i.0 in
    let rs : List Fragment = hs ++ t.0 ∷ [] in
    (rs, chain {ys = t.0 ∷ gs} {zs = rs} t.3 (chain {ys = t.0 ∷ hs} {zs = rs} (keep {ys = hs} i.1) (moved_last t.0 hs)), rise_more 1 hs t.0 i.2 (omega (arith, t.2, l, length_same {gs = hs} i.1)))
