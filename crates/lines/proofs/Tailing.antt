-- A line without its carriage return in two parts, and what its tail says of the second. Assumes nothing.
use Rattle.std.proofs.Common.{◌≡◌, ℕ, suc, ◌+◌, ◌-◌, ◌^◌, ◌<◌, ◌≤◌, Bool, true, false, cond, ◌&&◌, eqb, List, [], ◌∷◌, ◌++◌, length, get_or, take, drop, Some, None, fold, Option, sym, refl, ap, ◌∙◌, subst, arith, length-append, length-drop}
use mathlib.Core.Bool.{and_assoc}
use Rattle.std.specs.Str.{bytes_eq}
use Rattle.std.proofs.lemmas.List.{take-append-drop, take-append-le, drop-append-le, length-take-le}
use Rattle.std.proofs.lemmas.Bool.{true≢false}
use Rattle.std.proofs.lemmas.Bool.Decides.{nat_tests}
use Rattle.lines.specs.Ends.{unreturned, is_comment}
use Rattle.lines.specs.Held.{Holds}
use Rattle.lines.specs.Hex.{is_digit, all_digits}
use Rattle.lines.specs.Keys.{begins, paired, pairs}
use Rattle.lines.specs.Tails.{tail_after, tail_of, digits_past}
use Rattle.lines.specs.declared.buffer.LineBuffer.{LineBuffer}
use Rattle.lines.specs.declared.tail.Tail.{Tail}
use Rattle.lines.specs.declared.tail.Tail.TheVariants.{Digits, Returned, Other}

cond_cons : (t : Bool) (x : ℕ) (a b : List ℕ) → cond t (x ∷ a) (x ∷ b) ≡ x ∷ cond t a b
cond_cons true x a b = refl
cond_cons false x a b = refl

-- a byte before others
unreturned_cons : (x : ℕ) (zs : List ℕ) → 0 < length zs → unreturned (x ∷ zs) ≡ x ∷ unreturned zs
unreturned_cons x zs h =
    let e : suc (length zs) - 1 ≡ suc (length zs - 1) = omega arith in
    ap (λ n. cond (eqb (get_or (x ∷ zs) n 0) 0x0D) (take n (x ∷ zs)) (x ∷ zs)) e
    ∙ cond_cons (eqb (get_or zs (length zs - 1) 0) 0x0D) x (take (length zs - 1) zs) zs

unreturned_append : (xs ys : List ℕ) → 0 < length ys → unreturned (xs ++ ys) ≡ xs ++ unreturned ys
unreturned_append [] ys h = refl
unreturned_append (x ∷ xs) ys h =
    unreturned_cons x (xs ++ ys) (omega (arith, length-append xs ys)) ∙ ap (λ t. x ∷ t) (unreturned_append xs ys h)

in_two : (text : List ℕ) (most : ℕ) → most < length text → unreturned text ≡ take most text ++ unreturned (drop most text)
in_two text most h =
    ap unreturned (sym (take-append-drop most text)) ∙ unreturned_append (take most text) (drop most text) (omega (arith, length-drop most text))

-- from a place in the first part on, and up to it
parted : (text : List ℕ) (most n : ℕ) → most < length text → n ≤ most → drop n (unreturned text) ≡ drop n (take most text) ++ unreturned (drop most text)
parted text most n h k =
    ap (drop n) (in_two text most h) ∙ drop-append-le n (take most text) (unreturned (drop most text)) (omega (arith, length-take-le most text (omega arith)))

front_says : (xs ys : List ℕ) → 0 < length xs → is_comment xs ≡ is_comment (xs ++ ys)
front_says [] ys h = absurd (omega arith)
front_says (x ∷ xs) ys h = grind (arith, nat_tests)

pub comment_in_first : (text : List ℕ) (most : ℕ) → most < length text → 0 < most → is_comment (take most text) ≡ is_comment (unreturned text)
comment_in_first text most h k =
    front_says (take most text) (unreturned (drop most text)) (omega (arith, length-take-le most text (omega arith))) ∙ ap is_comment (sym (in_two text most h))

pub key_in_first : (text key : List ℕ) (most : ℕ) → most < length text → length key ≤ most → begins key (take most text) ≡ begins key (unreturned text)
key_in_first text key most h k =
    ap (λ t. bytes_eq t key)
    (sym (ap (take (length key)) (in_two text most h) ∙ take-append-le (length key) (take most text) (unreturned (drop most text)) (omega (arith, length-take-le most text (omega arith)))))

-- what a tail says of the bytes without their carriage return
abbrev TailSays : Tail → List ℕ → Type 0
TailSays Digits p = (all_digits (unreturned p) ≡ true) × (length (unreturned p) ≡ length p)
TailSays Returned p = (all_digits (unreturned p) ≡ true) × (length (unreturned p) ≡ length p - 1)
TailSays Other p = all_digits (unreturned p) ≡ false

pub other_stays : (p : List ℕ) → fold tail_after Other p ≡ Other
other_stays [] = refl
other_stays (b ∷ p) = other_stays p

-- one byte
one_says : (d r : Bool) (b : ℕ) → is_digit b ≡ d → eqb b 0x0D ≡ r → TailSays (cond d Digits (cond r Returned Other)) (b ∷ [])
one_says true true b e f = let z : ◌≡◌ {A = ℕ} 0 1 = grind (arith, nat_tests) in absurd (omega arith)
one_says true false b e f =
    (ap (λ t. all_digits (cond t [] (b ∷ []))) f ∙ ap (λ t. t && true) e, ap (λ t. length (cond t [] (b ∷ []))) f)
one_says false true b e f = (ap (λ t. all_digits (cond t [] (b ∷ []))) f, ap (λ t. length (cond t [] (b ∷ []))) f)
one_says false false b e f = ap (λ t. all_digits (cond t [] (b ∷ []))) f ∙ ap (λ t. t && true) e

-- a digit before others
digit_says : (t : Tail) (b c : ℕ) (p : List ℕ) → is_digit b ≡ true → TailSays t (c ∷ p) → TailSays t (b ∷ c ∷ p)
digit_says Digits b c p e says =
    let u = unreturned_cons b (c ∷ p) (omega arith) in
    (ap all_digits u ∙ ap (λ t. t && all_digits (unreturned (c ∷ p))) e ∙ says.0, ap length u ∙ ap suc says.1)
digit_says Returned b c p e says =
    let u = unreturned_cons b (c ∷ p) (omega arith) in
    (ap all_digits u ∙ ap (λ t. t && all_digits (unreturned (c ∷ p))) e ∙ says.0, omega (arith, ap length u, says.1))
digit_says Other b c p e says =
    let u = unreturned_cons b (c ∷ p) (omega arith) in
    ap all_digits u ∙ ap (λ t. t && all_digits (unreturned (c ∷ p))) e ∙ says

-- anything else before others
other_first : (t : Tail) (b c : ℕ) (p : List ℕ) → t ≡ Other → is_digit b ≡ false → TailSays t (b ∷ c ∷ p)
other_first t b c p o e =
    subst (λ k. TailSays k (b ∷ c ∷ p)) (sym o) (ap all_digits (unreturned_cons b (c ∷ p) (omega arith)) ∙ ap (λ d. d && all_digits (unreturned (c ∷ p))) e)

other_says : (r : Bool) (b c : ℕ) (p : List ℕ) → is_digit b ≡ false → TailSays (fold tail_after (cond r Returned Other) (c ∷ p)) (b ∷ c ∷ p)
other_says true b c p e = other_first (fold tail_after Other p) b c p (other_stays p) e
other_says false b c p e = other_first (fold tail_after Other p) b c p (other_stays p) e

says_step : (d : Bool) (b c : ℕ) (p : List ℕ) → is_digit b ≡ d → TailSays (tail_of (c ∷ p)) (c ∷ p)
    → TailSays (fold tail_after (cond d Digits (cond (eqb b 0x0D) Returned Other)) (c ∷ p)) (b ∷ c ∷ p)
says_step true b c p e says = digit_says (tail_of (c ∷ p)) b c p e says
says_step false b c p e says = other_says (eqb b 0x0D) b c p e

tail_says : (p : List ℕ) → TailSays (tail_of p) p
tail_says [] = (refl, refl)
tail_says (b ∷ []) = one_says (is_digit b) (eqb b 0x0D) b refl refl
tail_says (b ∷ c ∷ p) = says_step (is_digit b) b c p refl (tail_says (c ∷ p))

-- which tail it is, by one test of all the bytes
of_other : (t : Tail) (p : List ℕ) → TailSays t p → all_digits (unreturned p) ≡ false → t ≡ Other
of_other Digits p says h = absurd (true≢false (sym says.0 ∙ h))
of_other Returned p says h = absurd (true≢false (sym says.0 ∙ h))
of_other Other p says h = refl

of_returned : (t : Tail) (p : List ℕ) → TailSays t p → all_digits (unreturned p) ≡ true → length (unreturned p) < length p → t ≡ Returned
of_returned Digits p says h less = absurd (omega (arith, says.1, less))
of_returned Returned p says h less = refl
of_returned Other p says h less = absurd (true≢false (sym h ∙ says))

of_digits : (t : Tail) (p : List ℕ) → TailSays t p → all_digits (unreturned p) ≡ true → length p ≤ length (unreturned p) → 0 < length p → t ≡ Digits
of_digits Digits p says h all some = refl
of_digits Returned p says h all some = absurd (omega (arith, says.1, all, some))
of_digits Other p says h all some = absurd (true≢false (sym h ∙ says))

pub turned_other : (p : List ℕ) → all_digits (unreturned p) ≡ false → fold tail_after Digits p ≡ Other
turned_other p h = of_other (tail_of p) p (tail_says p) h

pub turned_returned : (p : List ℕ) → all_digits (unreturned p) ≡ true → length (unreturned p) < length p → fold tail_after Digits p ≡ Returned
turned_returned p h less = of_returned (tail_of p) p (tail_says p) h less

pub digits_stay : (p : List ℕ) → all_digits (unreturned p) ≡ true → length p ≤ length (unreturned p) → fold tail_after Digits p ≡ Digits
digits_stay [] h all = refl
digits_stay (b ∷ p) h all = of_digits (tail_of (b ∷ p)) (b ∷ p) (tail_says (b ∷ p)) h all (omega arith)

-- how many bytes the digits kept and those past them stand for
abbrev pub size_by : Bool → Option ℕ → ℕ → Option ℕ
size_by digits None n = None
size_by digits (Some past) n = paired digits (past + n)

both_digits : (xs ys : List ℕ) → all_digits (xs ++ ys) ≡ (all_digits xs && all_digits ys)
both_digits [] ys = refl
both_digits (x ∷ xs) ys = ap (λ t. is_digit x && t) (both_digits xs ys) ∙ sym (and_assoc (is_digit x) (all_digits xs) (all_digits ys))

with_true : (a b : Bool) → b ≡ true → (a && b) ≡ a
with_true true b e = e
with_true false b e = refl

with_false : (a b : Bool) → b ≡ false → (a && b) ≡ false
with_false true b e = e
with_false false b e = refl

by_tail : (t : Tail) (kept p : List ℕ) → TailSays t p → pairs (kept ++ unreturned p) ≡ size_by (all_digits kept) (digits_past t (length p)) (length kept)
by_tail Digits kept p says =
    let n : length (kept ++ unreturned p) ≡ length p + length kept = omega (arith, length-append kept (unreturned p), says.1) in
    ap (λ d. paired d (length (kept ++ unreturned p))) (both_digits kept (unreturned p) ∙ with_true (all_digits kept) (all_digits (unreturned p)) says.0)
    ∙ ap (paired (all_digits kept)) n
by_tail Returned kept p says =
    let n : length (kept ++ unreturned p) ≡ length p - 1 + length kept = omega (arith, length-append kept (unreturned p), says.1) in
    ap (λ d. paired d (length (kept ++ unreturned p))) (both_digits kept (unreturned p) ∙ with_true (all_digits kept) (all_digits (unreturned p)) says.0)
    ∙ ap (paired (all_digits kept)) n
by_tail Other kept p says =
    ap (λ d. paired d (length (kept ++ unreturned p))) (both_digits kept (unreturned p) ∙ with_false (all_digits kept) (all_digits (unreturned p)) says)

-- a line that is not kept whole, with its tail and what stands past the kept bytes
pub record Long (b : LineBuffer) (text kept : List ℕ) (n : ℕ) : Type 0 where
  pub holds : Holds b text
  pub long : b.most < length text
  pub small : length text < 2 ^ 64
  pub inside : n ≤ b.most
  pub part : kept ≡ drop n (take b.most text)

past_is : (b : LineBuffer) (text kept : List ℕ) (n : ℕ) → Long b text kept n → length (drop b.most text) ≡ b.past
past_is b text kept n l = omega (arith, l.holds.past, l.small, length-drop b.most text)

pub long_pairs : (b : LineBuffer) (text kept : List ℕ) (n : ℕ) (t : Tail) (m : ℕ) (o : Option ℕ) → Long b text kept n → t ≡ b.tail → m ≡ b.past → o ≡ digits_past t m
    → size_by (all_digits kept) o (length kept) ≡ pairs (drop n (unreturned text))
long_pairs b text kept n t m o l u v w =
    let p = drop b.most text in
    let x : m ≡ length p = v ∙ sym (past_is b text kept n l) in
    ap (λ o. size_by (all_digits kept) o (length kept)) (w ∙ ap (λ m. digits_past t m) x ∙ ap (λ t. digits_past t (length p)) (u ∙ l.holds.tail))
    ∙ sym (ap pairs (parted text b.most n l.long l.inside ∙ ap (λ t. t ++ unreturned p) (sym l.part)) ∙ by_tail (tail_of p) kept p (tail_says p))
