-- Laws of hexadecimal text: one digit more, and one pair more. Assumes nothing.
use Rattle.std.proofs.Common.{◌≡◌, ℕ, zero, suc, ◌+◌, ◌*◌, ◌/◌, ◌%◌, ◌<◌, true, cond, ◌&&◌, ltb, List, [], ◌∷◌, ◌++◌, length, get_or, take, drop, set, fold, sym, refl, ap, ◌∙◌, append_assoc, arith, take-add}
use mathlib.Core.Bool.{and_assoc, and-true}
use lib.Bits.{bit_or, or_lt, or_add_and, and_le_l, and_le_r}
use Rattle.std.proofs.lemmas.List.{drop-drop, drop_more, set_at, length-take-le}
use Rattle.std.specs.Simd.{first_chunks}
use Rattle.std.proofs.lemmas.Bool.{and_parts}
use Rattle.std.proofs.lemmas.Bool.Decides.{nat_tests}
use Rattle.lines.specs.Hex.{is_digit, worth, all_digits, decoded}

-- a number made by or is below 16 exactly where both are
pub or_small : (a b : ℕ) → ltb (bit_or a b) 16 ≡ (ltb a 16 && ltb b 16)
or_small a b =
    let s = or_add_and a b in
    let l = and_le_l a b in
    let r = and_le_r a b in
    let o : a < 16 → b < 16 → bit_or a b < 16 = or_lt 4 a b in
    grind (arith, nat_tests)

-- what a byte is worth, or 255
pub worth_small : (b : ℕ) → ltb (cond (is_digit b) (worth b) 255) 16 ≡ is_digit b
worth_small b = grind (arith, nat_tests)

-- what all bytes are worth, or-ed
pub seen_digits : (xs : List ℕ) (seen : ℕ) → ltb (fold (λ s b. bit_or s (cond (is_digit b) (worth b) 255)) seen xs) 16 ≡ (ltb seen 16 && all_digits xs)
seen_digits [] seen = sym (and-true (ltb seen 16))
seen_digits (x ∷ xs) seen =
    seen_digits xs (bit_or seen (cond (is_digit x) (worth x) 255))
    ∙ ap (λ t. t && all_digits xs) (or_small seen (cond (is_digit x) (worth x) 255) ∙ ap (λ t. ltb seen 16 && t) (worth_small x))
    ∙ and_assoc (ltb seen 16) (is_digit x) (all_digits xs)

pub digit_at : (xs : List ℕ) (i : ℕ) → i < length xs → all_digits xs ≡ true → is_digit (get_or xs i 0) ≡ true
digit_at [] i h e = absurd (omega arith)
digit_at (x ∷ xs) zero h e = (and_parts (is_digit x) (all_digits xs) e).0
digit_at (x ∷ xs) (suc i) h e = digit_at xs i (omega arith) (and_parts (is_digit x) (all_digits xs) e).1

length_decoded : (xs : List ℕ) → length (decoded xs) ≡ length xs / 2
length_decoded [] = refl
length_decoded (x ∷ []) = refl
length_decoded (x ∷ y ∷ xs) = omega (arith, length_decoded xs)

decoded_push : (xs : List ℕ) (h l : ℕ) → length xs % 2 ≡ 0 → decoded (xs ++ h ∷ l ∷ []) ≡ decoded xs ++ (16 * worth h + worth l) ∷ []
decoded_push [] h l e = refl
decoded_push (x ∷ []) h l e = absurd (omega arith)
decoded_push (x ∷ y ∷ xs) h l e = ap (λ t. (16 * worth x + worth y) ∷ t) (decoded_push xs h l (omega arith))

pair_more : (xs : List ℕ) (i : ℕ) → 2 * i + 1 < length xs → take (2 * (i + 1)) xs ≡ take (2 * i) xs ++ get_or xs (2 * i) 0 ∷ get_or xs (2 * i + 1) 0 ∷ []
pair_more xs i h =
    let two : 2 * (i + 1) ≡ 2 * i + 2 = omega arith in
    let next : 2 * i + 1 + 1 ≡ 2 * i + 2 = omega arith in
    ap (λ n. take n xs) two ∙ take-add (2 * i) 2 xs
    ∙ ap (λ t. take (2 * i) xs ++ take 2 t) (drop_more xs (2 * i) 0 (omega arith) ∙ ap (λ t. get_or xs (2 * i) 0 ∷ t) (drop_more xs (2 * i + 1) 0 h))

-- the digits of a pair
nth_pair : (k i : ℕ) (xs : List ℕ) → i < k → get_or (first_chunks 2 k xs) i [] ≡ take 2 (drop (2 * i) xs)
nth_pair zero i xs h = absurd (omega arith)
nth_pair (suc k) zero xs h = refl
nth_pair (suc k) (suc i) xs h =
    let next : 2 + 2 * i ≡ 2 * suc i = omega arith in
    nth_pair k i (drop 2 xs) (omega arith) ∙ ap (take 2) (drop-drop (2 * i) 2 xs ∙ ap (λ n. drop n xs) next)

pub pair_at : (xs : List ℕ) (i : ℕ) → i < length xs / 2 → get_or (first_chunks 2 (length xs / 2) xs) i [] ≡ get_or xs (2 * i) 0 ∷ get_or xs (2 * i + 1) 0 ∷ []
pair_at xs i h =
    nth_pair (length xs / 2) i xs h
    ∙ ap (take 2) (drop_more xs (2 * i) 0 (omega arith) ∙ ap (λ t. get_or xs (2 * i) 0 ∷ t) (drop_more xs (2 * i + 1) 0 (omega arith)))

-- one pair more is written
pub pairs_more : (xs old : List ℕ) (i : ℕ) → 2 * i + 1 < length xs → i < length old
    → set (decoded (take (2 * i) xs) ++ drop i old) i (16 * worth (get_or xs (2 * i) 0) + worth (get_or xs (2 * i + 1) 0)) ≡ decoded (take (2 * (i + 1)) xs) ++ drop (i + 1) old
pairs_more xs old i h k =
    let v = 16 * worth (get_or xs (2 * i) 0) + worth (get_or xs (2 * i + 1) 0) in
    let d = decoded (take (2 * i) xs) in
    let n = length-take-le (2 * i) xs (omega arith) in
    let l : length d ≡ i = length_decoded (take (2 * i) xs) ∙ omega arith in
    ap (λ t. set (d ++ t) i v) (drop_more old i 0 k) ∙ set_at d (get_or old i 0) (drop (i + 1) old) v i l
    ∙ sym (ap (λ t. t ++ drop (i + 1) old) (ap decoded (pair_more xs i h) ∙ decoded_push (take (2 * i) xs) _ _ (omega arith)) ∙ append_assoc d (v ∷ []) (drop (i + 1) old))
