-- Which fragments descriptors carry, where none breaks its rule. Assumes nothing.
use Rattle.std.proofs.Common.{◌≡◌, ℕ, ◌≤◌, Bool, true, false, cond, not, ◌&&◌, List, [], ◌∷◌, length, sym, refl, ap, subst, inl, inr, arith}
use Rattle.std.proofs.lemmas.Bool.{or_parts, cases_Bool, both_ways, ne_eqb, eq-eqb, eqb-true}
use Rattle.std.proofs.lemmas.Bool.Decides.{nat_tests}
use Rattle.document.specs.Carrying.{Carry, none, other, one}
use Rattle.document.specs.Descriptors.{Descriptor}
use Rattle.document.specs.Fragments.{Fragment, metadata, breaks, any_breaks, fragment_of, fragments_of}

-- a body that keeps the rule is a fragment's
module _ (a l : ℕ) (rest : List ℕ) where
  rule_of : breaks (a ∷ (l ∷ rest)) ≡ false → (1 ≤ a) × (l ≡ length rest) × (1 ≤ length rest)
  rule_of h = grind (arith, nat_tests, h)

  rule_kept : 1 ≤ a → l ≡ length rest → 1 ≤ length rest → breaks (a ∷ (l ∷ rest)) ≡ false
  rule_kept x y z = grind (arith, nat_tests)

front_kept : (tag : ℕ) (body : List ℕ) {ds : List Descriptor} {fs : List Fragment} → tag ≡ 3 → breaks body ≡ false → Carry ds fs → Carry (record { tag = tag; body = body } ∷ ds) (fragment_of body ∷ fs)
front_kept tag [] t h c = absurd (both_ways true h refl)
front_kept tag (a ∷ []) t h c = absurd (both_ways true h refl)
front_kept tag (a ∷ (l ∷ rest)) {ds} {fs} t h c =
    let r = rule_of a l rest h in
    subst (λ n. Carry (record { tag = n; body = a ∷ (l ∷ rest) } ∷ ds) (record { number = a; bytes = rest } ∷ fs)) (sym t)
    (subst (λ n. Carry (record { tag = 3; body = a ∷ (n ∷ rest) } ∷ ds) (record { number = a; bytes = rest } ∷ fs)) (sym r.1) (one {f = record { number = a; bytes = rest }} r.0 r.2 c))

-- descriptors of which none breaks its rule carry their fragments
pub carry_of : (ds : List Descriptor) → any_breaks ds ≡ false → Carry ds (fragments_of ds)
carry_of [] h = none
carry_of (d ∷ ds) h =
    let p = or_parts (metadata d && breaks d.body) (any_breaks ds) h in
    let c = carry_of ds p.1 in
    elim (cases_Bool (metadata d)) [
      | inl is ↦
          let b : breaks d.body ≡ false = rw is at p.0 in
          subst (λ (x : Bool). Carry (d ∷ ds) (cond (x && not (breaks d.body)) (fragment_of d.body ∷ fragments_of ds) (fragments_of ds))) (sym is)
          (subst (λ (x : Bool). Carry (d ∷ ds) (cond (not x) (fragment_of d.body ∷ fragments_of ds) (fragments_of ds))) (sym b) (front_kept d.tag d.body (eqb-true d.tag 3 is) b c))
      | inr isnt ↦
          subst (λ (x : Bool). Carry (d ∷ ds) (cond (x && not (breaks d.body)) (fragment_of d.body ∷ fragments_of ds) (fragments_of ds))) (sym isnt)
          (other (λ e. both_ways (metadata d) isnt (eq-eqb d.tag 3 e)) c)
    ]

-- and those that carry fragments break no rule, and these are their fragments
pub carries_these : {ds : List Descriptor} {fs : List Fragment} → Carry ds fs → (any_breaks ds ≡ false) × (fragments_of ds ≡ fs)
carries_these none = (refl, refl)
carries_these (other {d} {ds} {fs} t c) =
    let i = carries_these c in
    let off : metadata d ≡ false = ne_eqb d.tag 3 t in
    (rw (off, i.0), rw off i.1)
carries_these (one {f} {ds} {fs} n b c) =
    let i = carries_these c in
    let k = rule_kept f.number (length f.bytes) f.bytes n refl b in
    (rw (k, i.0), rw k (ap (λ x. f ∷ x) i.1))
