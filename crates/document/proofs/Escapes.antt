-- Escaped words piece by piece, and parts written one after another. Assumes nothing.
use Rattle.std.specs.List.{flat_map}
use Rattle.std.proofs.lemmas.Grind.{flat_map-append}
use Rattle.std.proofs.lemmas.List.Folds.{length-flat_map-take}
use Rattle.std.proofs.lemmas.Bool.Decides.{nat_tests}
use Rattle.std.proofs.Common.{◌≡◌, ℕ, ◌+◌, ◌*◌, ◌<◌, ◌≤◌, List, [], ◌∷◌, ◌++◌, length, get_or, take, drop, Some, sym, refl, ap, ◌∙◌, append_assoc, arith, length-append, length-take}
use Rattle.std.proofs.lemmas.List.{append-nil, take_more, take_at, length-drop}
use Rattle.std.proofs.lemmas.Slice.{drop-append-drop}
use Rattle.document.specs.Escaping.{escape, escaped}
use Rattle.document.specs.Placeholder.{Stands, inserted}

-- words are escaped byte by byte
pub escape_is : (xs : List ℕ) → escape xs ≡ flat_map escaped xs
escape_is [] = refl
escape_is (x ∷ xs) = ap (λ r. escaped x ++ r) (escape_is xs)

escaped_short : (b : ℕ) → length (escaped b) ≤ 5
escaped_short b = grind (arith, nat_tests)

pub escape_short : (xs : List ℕ) → length (escape xs) ≤ 5 * length xs
escape_short [] = omega arith
escape_short (x ∷ xs) = omega (arith, length-append (escaped x) (escape xs), escaped_short x, escape_short xs)

pub put_more : (f y e : List ℕ) (d : ℕ) → d ≡ length f → d ≤ length e → take d (f ++ drop d e) ++ (y ++ drop (d + length y) (f ++ drop d e)) ≡ (f ++ y) ++ drop (d + length y) e
put_more f y e d p h =
    rw (take_at f (drop d e) d (sym p), drop-append-drop d e f (d + length y) (omega arith) (sym p), append_assoc f y (drop (d + length y) e))

pub flat_map_on : {X : Type 0} (g : X → List ℕ) (xs : List X) (i : ℕ) (d : X) → i < length xs → flat_map g (take (i + 1) xs) ≡ flat_map g (take i xs) ++ g (get_or xs i d)
flat_map_on g xs i d h =
    ap (flat_map g) (take_more xs i d h) ∙ (flat_map-append g (take i xs) (get_or xs i d ∷ []) ∙ ap (λ r. flat_map g (take i xs) ++ r) (append-nil (g (get_or xs i d))))

-- one part more, put after what stands in front and the parts before it
pub put_on : {X : Type 0} (g : X → List ℕ) (xs : List X) (i : ℕ) (d : X) (front e w : List ℕ) (at : ℕ) → i < length xs → at ≡ length front + length (flat_map g (take i xs))
    → w ≡ (front ++ flat_map g (take i xs)) ++ drop at e → length front + length (flat_map g xs) ≤ length e
    → (at + length (g (get_or xs i d)) ≡ length front + length (flat_map g (take (i + 1) xs)))
    × (take at w ++ (g (get_or xs i d) ++ drop (at + length (g (get_or xs i d))) w) ≡ (front ++ flat_map g (take (i + 1) xs)) ++ drop (at + length (g (get_or xs i d))) e)
put_on g xs i d front e w at h p q room =
    let y : List ℕ = g (get_or xs i d) in
    let f : List ℕ = flat_map g (take i xs) in
    let more = flat_map_on g xs i d h in
    let reach = length-flat_map-take g xs i d h in
    let l : length (flat_map g (take (i + 1) xs)) ≡ length f + length y = ap length more ∙ length-append f y in
    let n : at ≡ length (front ++ f) = p ∙ sym (length-append front f) in
    let m = put_more (front ++ f) y e at n (omega arith) in
    (omega arith, ap (λ (x : List ℕ). take at x ++ (y ++ drop (at + length y) x)) q ∙ (m ∙ ap (λ x. x ++ drop (at + length y) e) (append_assoc front f y ∙ ap (λ x. front ++ x) (sym more))))

pub stands_within : (doc : List ℕ) (i : ℕ) → Stands doc i → i + 23 ≤ length doc
stands_within doc i h = let l : length (take 23 (drop i doc)) ≡ 23 = ap length h in omega (arith, simp (length-take, length-drop) at l)

pub three_parts : (a e b o o₁ o₂ o₃ : List ℕ) → length a + length e + length b ≤ length o → o₁ ≡ take 0 o ++ (a ++ drop (0 + length a) o) → o₂ ≡ take (length a) o₁ ++ (e ++ drop (length a + length e) o₁) → o₃ ≡ take (length a + length e) o₂ ++ (b ++ drop (length a + length e + length b) o₂) → o₃ ≡ (a ++ (e ++ b)) ++ drop (length a + length b + length e) o
three_parts a e b o o₁ o₂ o₃ h p q r =
    let z : 0 + length a ≡ length a = omega arith in
    let p' : o₁ ≡ a ++ drop (length a) o = p ∙ rw z in
    let q' : o₂ ≡ (a ++ e) ++ drop (length a + length e) o = q ∙ rw p' (put_more a e o (length a) refl (omega arith)) in
    let l : length a + length e ≡ length (a ++ e) = sym (length-append a e) in
    let r' : o₃ ≡ ((a ++ e) ++ b) ++ drop (length a + length e + length b) o = r ∙ rw q' (put_more (a ++ e) b o (length a + length e) l (omega arith)) in
    let s : length a + length e + length b ≡ length a + length b + length e = omega arith in
    r' ∙ rw (append_assoc a e b, s)

pub filled_parts : (a e b o o₁ o₂ o₃ : List ℕ) (here there : ℕ) → length a + length b + length e ≤ length o → here ≡ 0 + length a → o₁ ≡ take 0 o ++ (a ++ drop (0 + length a) o) → there ≡ here + length e → o₂ ≡ take here o₁ ++ (e ++ drop (here + length e) o₁) → o₃ ≡ take there o₂ ++ (b ++ drop (there + length b) o₂) → o₃ ≡ (a ++ (e ++ b)) ++ drop (length a + length b + length e) o
filled_parts a e b o o₁ o₂ o₃ here there room h p t q r =
    let h' : here ≡ length a = omega arith in
    let t' : there ≡ length a + length e = omega arith in
    three_parts a e b o o₁ o₂ o₃ (omega arith) p (q ∙ rw h') (r ∙ rw t')

-- a filled document is longer by the escaped words
pub inserted_length : (doc words : List ℕ) (i : ℕ) → i + 23 ≤ length doc → length (inserted doc words (Some i)) ≡ length doc + length (escape words)
inserted_length doc words i h = simp (length-append, length-take, length-drop) (omega arith)
