-- What descriptors carry does not depend on their order. Assumes nothing.
use Rattle.std.proofs.Common.{◌≡◌, ℕ, suc, Bool, true, false, cond, not, ◌&&◌, ◌||◌, eqb, ltb, List, [], ◌∷◌, length, sym, refl, ap, ◌∙◌, arith}
use Rattle.std.proofs.lemmas.Bool.{or_parts}
use Rattle.std.proofs.lemmas.Bool.Decides.{nat_tests}
use Rattle.document.specs.Descriptors.{Descriptor}
use Rattle.document.specs.Fragments.{Fragment, metadata, breaks, any_breaks, fragment_of, fragments_of, tally, repeats, lookup, missing, chained}
use Rattle.document.specs.Document.{fault, fault_of, gap, bound, or_fault}
use Rattle.document.specs.Rearranging.{Reordered, none, keep, swap, chain}
use Rattle.document.proofs.Bindings.{missing_same, chained_same}

pub unmoved : {A : Type 0} (xs : List A) → Reordered xs xs
unmoved [] = none
unmoved (x ∷ xs) = keep (unmoved xs)

or_swap : (a b c : Bool) → (a || (b || c)) ≡ (b || (a || c))
or_swap true true c = refl
or_swap true false c = refl
or_swap false true c = refl
or_swap false false c = refl

breaks_same : {ds es : List Descriptor} → Reordered ds es → any_breaks ds ≡ any_breaks es
breaks_same none = refl
breaks_same (keep {x = d} r) = ap (λ b. (metadata d && breaks d.body) || b) (breaks_same r)
breaks_same (swap {x = d} {y = e} {xs = ds}) = or_swap (metadata d && breaks d.body) (metadata e && breaks e.body) (any_breaks ds)
breaks_same (chain r q) = breaks_same r ∙ breaks_same q

-- a fragment in front, or none
kept : (b : Bool) (f : Fragment) {fs gs : List Fragment} → Reordered fs gs → Reordered (cond b (f ∷ fs) fs) (cond b (f ∷ gs) gs)
kept true f r = keep r
kept false f r = r

swapped : (b c : Bool) (f g : Fragment) (fs : List Fragment) → Reordered (cond b (f ∷ cond c (g ∷ fs) fs) (cond c (g ∷ fs) fs)) (cond c (g ∷ cond b (f ∷ fs) fs) (cond b (f ∷ fs) fs))
swapped true true f g fs = swap
swapped true false f g fs = unmoved (f ∷ fs)
swapped false true f g fs = unmoved (g ∷ fs)
swapped false false f g fs = unmoved fs

carries : Descriptor → Bool
carries d = metadata d && not (breaks d.body)

fragments_same : {ds es : List Descriptor} → Reordered ds es → Reordered (fragments_of ds) (fragments_of es)
unfolding carries
fragments_same none = none
fragments_same (keep {x = d} r) = kept (carries d) (fragment_of d.body) (fragments_same r)
fragments_same (swap {x = d} {y = e} {xs = ds}) = swapped (carries d) (carries e) (fragment_of d.body) (fragment_of e.body) (fragments_of ds)
fragments_same (chain r q) = chain (fragments_same r) (fragments_same q)

pub length_same : {fs gs : List Fragment} → Reordered fs gs → length fs ≡ length gs
length_same none = refl
length_same (keep r) = ap suc (length_same r)
length_same swap = refl
length_same (chain r q) = length_same r ∙ length_same q

pub tally_same : (k : ℕ) {fs gs : List Fragment} → Reordered fs gs → tally k fs ≡ tally k gs
tally_same k none = refl
tally_same k (keep {x = f} r) = ap (λ n. cond (eqb f.number k) (suc n) n) (tally_same k r)
tally_same k (swap {x = f} {y = g} {xs = fs}) = grind (arith, nat_tests)
tally_same k (chain r q) = tally_same k r ∙ tally_same k q

pub repeats_same : {fs gs : List Fragment} → Reordered fs gs → repeats fs ≡ repeats gs
repeats_same none = refl
repeats_same (keep {x = f} {xs = fs} {ys = gs} r) =
    ap (λ n. ltb 0 n || repeats fs) (tally_same f.number r) ∙ ap (λ b. ltb 0 (tally f.number gs) || b) (repeats_same r)
repeats_same (swap {x = f} {y = g} {xs = fs}) = grind (arith, nat_tests)
repeats_same (chain r q) = repeats_same r ∙ repeats_same q

lookup_swap : (k : ℕ) (f g : Fragment) (fs : List Fragment) → repeats (f ∷ (g ∷ fs)) ≡ false → lookup k (f ∷ (g ∷ fs)) ≡ lookup k (g ∷ (f ∷ fs))
lookup_swap k f g fs h = grind (arith, nat_tests)

-- where no number occurs twice, the first fragment with a number is the only one
lookup_same : (k : ℕ) {fs gs : List Fragment} → Reordered fs gs → repeats fs ≡ false → lookup k fs ≡ lookup k gs
lookup_same k none h = refl
lookup_same k (keep {x = f} {xs = fs} r) h =
    ap (λ b. cond (eqb f.number k) f.bytes b) (lookup_same k r (or_parts (ltb 0 (tally f.number fs)) (repeats fs) h).1)
lookup_same k (swap {x = f} {y = g} {xs = fs}) h = lookup_swap k f g fs h
lookup_same k (chain r q) h = lookup_same k r h ∙ lookup_same k q (sym (repeats_same r) ∙ h)

pub gap_same : {fs gs : List Fragment} → Reordered fs gs → gap fs ≡ gap gs
gap_same {fs} {gs} r =
    missing_same (λ k. tally k fs) (λ k. tally k gs) (length fs) (λ k le. ap (λ n. eqb n 0) (tally_same k r)) ∙ ap (missing (λ k. tally k gs)) (length_same r)

pub bound_same : {fs gs : List Fragment} → Reordered fs gs → repeats fs ≡ false → bound fs ≡ bound gs
bound_same {fs} {gs} r h =
    chained_same (λ k. lookup k fs) (λ k. lookup k gs) (λ k. lookup_same k r h) (length fs) ∙ ap (chained (λ k. lookup k gs)) (length_same r)

-- the faults come first: the documents matter only where nothing repeats
unless_twice : (b : Bool) (n : ℕ) (twice gap : Bool) (x y : List ℕ) → (twice ≡ false → x ≡ y) → or_fault (fault b n twice gap) x ≡ or_fault (fault b n twice gap) y
unless_twice true n twice gap x y h = refl
unless_twice false n true gap x y h = grind (arith, nat_tests)
unless_twice false n false gap x y h = ap (or_fault (fault false n false gap)) (h refl)

pub order_same : {ds es : List Descriptor} → Reordered ds es → or_fault (fault_of ds) (bound (fragments_of ds)) ≡ or_fault (fault_of es) (bound (fragments_of es))
order_same {ds} {es} r =
    let q = fragments_same r in
    let fs : List Fragment = fragments_of ds in
    let gs : List Fragment = fragments_of es in
    unless_twice (any_breaks ds) (length fs) (repeats fs) (gap fs) (bound fs) (bound gs) (bound_same q)
    ∙ (ap (λ b. or_fault (fault b (length fs) (repeats fs) (gap fs)) (bound gs)) (breaks_same r)
    ∙ (ap (λ n. or_fault (fault (any_breaks es) n (repeats fs) (gap fs)) (bound gs)) (length_same q)
    ∙ (ap (λ b. or_fault (fault (any_breaks es) (length gs) b (gap fs)) (bound gs)) (repeats_same q)
    ∙ ap (λ b. or_fault (fault (any_breaks es) (length gs) (repeats gs) b) (bound gs)) (gap_same q))))
