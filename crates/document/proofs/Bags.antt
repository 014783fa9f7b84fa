-- One descriptor or fragment more at the end of a list of them. Assumes nothing.
use Rattle.std.proofs.Common.{◌≡◌, ℕ, ◌+◌, Bool, true, false, cond, not, ◌&&◌, ◌||◌, eqb, ltb, List, [], ◌∷◌, ◌++◌, sym, refl, ap, ◌∙◌, arith}
use mathlib.Core.Bool.{or_assoc, or-false}
use Rattle.std.proofs.lemmas.Bool.Decides.{nat_tests}
use Rattle.document.specs.Descriptors.{Descriptor}
use Rattle.document.specs.Fragments.{Fragment, metadata, breaks, any_breaks, fragment_of, fragments_of, tally, repeats, lookup}

pub breaks_more : (ds : List Descriptor) (d : Descriptor) → any_breaks (ds ++ d ∷ []) ≡ (any_breaks ds || (metadata d && breaks d.body))
breaks_more [] d = or-false (metadata d && breaks d.body)
breaks_more (e ∷ ds) d =
    let b : Bool = metadata e && breaks e.body in
    ap (λ x. b || x) (breaks_more ds d) ∙ sym (or_assoc b (any_breaks ds) (metadata d && breaks d.body))

kept_first : (b : Bool) (f : Fragment) (xs ys : List Fragment) → cond b (f ∷ (xs ++ ys)) (xs ++ ys) ≡ cond b (f ∷ xs) xs ++ ys
kept_first true f xs ys = refl
kept_first false f xs ys = refl

pub fragments_more : (ds : List Descriptor) (d : Descriptor) → fragments_of (ds ++ d ∷ []) ≡ fragments_of ds ++ fragments_of (d ∷ [])
fragments_more [] d = refl
fragments_more (e ∷ ds) d =
    let b : Bool = metadata e && not (breaks e.body) in
    ap (λ x. cond b (fragment_of e.body ∷ x) x) (fragments_more ds d) ∙ kept_first b (fragment_of e.body) (fragments_of ds) (fragments_of (d ∷ []))

pub tally_more : (k : ℕ) (fs : List Fragment) (f : Fragment) → tally k (fs ++ f ∷ []) ≡ tally k fs + cond (eqb f.number k) 1 0
tally_more k [] f = grind (arith, nat_tests)
tally_more k (g ∷ fs) f = let i = tally_more k fs f in grind (arith, nat_tests)

pub repeats_more : (fs : List Fragment) (f : Fragment) → repeats (fs ++ f ∷ []) ≡ (repeats fs || ltb 0 (tally f.number fs))
repeats_more [] f = grind (arith, nat_tests)
repeats_more (g ∷ fs) f =
    let i = repeats_more fs f in
    let t = tally_more g.number fs f in
    grind (arith, nat_tests)

-- the first fragment with a number stays the first
pub lookup_held : (k : ℕ) (fs : List Fragment) (f : Fragment) → (tally k fs ≡ 0 → ⊥) → lookup k (fs ++ f ∷ []) ≡ lookup k fs
lookup_held k [] f h = absurd (h refl)
lookup_held k (g ∷ fs) f h = let i = lookup_held k fs f in grind (arith, nat_tests)

pub lookup_other : (k : ℕ) (fs : List Fragment) (f : Fragment) → (f.number ≡ k → ⊥) → lookup k (fs ++ f ∷ []) ≡ lookup k fs
lookup_other k [] f h = grind (arith, nat_tests)
lookup_other k (g ∷ fs) f h = ap (λ x. cond (eqb g.number k) g.bytes x) (lookup_other k fs f h)

pub lookup_new : (fs : List Fragment) (f : Fragment) → tally f.number fs ≡ 0 → lookup f.number (fs ++ f ∷ []) ≡ f.bytes
lookup_new [] f h = grind (arith, nat_tests)
lookup_new (g ∷ fs) f h = let i = lookup_new fs f in grind (arith, nat_tests)
