-- The first mark as a search finds it, and the first line feed in two parts of a list. Assumes nothing.
use Rattle.std.proofs.Common.{◌≡◌, ℕ, suc, ◌+◌, ◌≤◌, Bool, true, false, cond, ltb, List, [], ◌∷◌, ◌++◌, length, take, Some, None, Option, sym, refl, ap, ◌∙◌, one-add, arith, length-append, length-take}
use Rattle.std.specs.Prelude.{is_some}
use Rattle.std.specs.Option.{unwrap_or}
use Rattle.std.proofs.lemmas.List.{take_all}
use Rattle.std.proofs.lemmas.List.Sums.{prefix_len_is, prefix_len-le-length}
use Rattle.std.proofs.lemmas.Bool.{le-ltb, lt-ltb, ltb-false, not_from_true, not_from_false, false_from_ne_true}
use Rattle.memchr.specs.Find.{IsFirstByte, is_byte}
use Rattle.lines.specs.Ends.{in_line, feed_at, has_feed, before_feed, through_feed}
use Rattle.lines.specs.Marks.{is_other, mark_at}

-- the first place of a mark, or else the end
pub first_mark : (m : ℕ) (xs : List ℕ) (r : Option ℕ) → IsFirstByte (is_byte m) xs r → unwrap_or r (length xs) ≡ mark_at m xs
first_mark m xs None h =
    sym (prefix_len_is (is_other m) xs (length xs) 0 (omega arith) (λ k l. not_from_false _ (false_from_ne_true _ (h k (omega arith) l))) (λ l. absurd (omega arith)))
first_mark m xs (Some n) h =
    sym (prefix_len_is (is_other m) xs n 0 (omega (arith, h.0.high)) (λ k l. not_from_false _ (false_from_ne_true _ (h.0.before k (omega arith) l))) (λ l. not_from_true _ h.1))

-- whether a search for a mark finds one
pub mark_found : (m : ℕ) (xs : List ℕ) (r : Option ℕ) → IsFirstByte (is_byte m) xs r → is_some r ≡ ltb (mark_at m xs) (length xs)
mark_found m xs None h = sym (le-ltb (mark_at m xs) (length xs) (omega (arith, first_mark m xs None h)))
mark_found m xs (Some n) h = sym (lt-ltb (mark_at m xs) (length xs) (omega (arith, first_mark m xs (Some n) h, h.0.high)))

-- what is cut off at the line feed that a search finds, and where it finds none
pub cut_found : (xs : List ℕ) (n : ℕ) → IsFirstByte (is_byte 10) xs (Some n) → (n + 1 ≡ through_feed xs) × (true ≡ has_feed xs) × (take n xs ≡ before_feed xs)
cut_found xs n h =
    let at = first_mark 10 xs (Some n) h in
    let has = mark_found 10 xs (Some n) h in
    (ap (λ k. k + 1) at ∙ ap (λ t. cond t (feed_at xs + 1) (length xs)) has, has, ap (λ k. take k xs) at)

pub cut_nowhere : (xs : List ℕ) → IsFirstByte (is_byte 10) xs None → (length xs ≡ through_feed xs) × (false ≡ has_feed xs) × (xs ≡ before_feed xs)
cut_nowhere xs h =
    let has = mark_found 10 xs None h in
    (ap (λ t. cond t (feed_at xs + 1) (length xs)) has, has, sym (take_all (feed_at xs) xs (omega (arith, first_mark 10 xs None h))))

-- two parts: the second counts where the first has no line feed
all_step : (b : Bool) (n m l y : ℕ) → (n ≡ l → m ≡ l + y) → cond b (1 + n) 0 ≡ suc l → cond b (1 + m) 0 ≡ suc l + y
all_step true n m l y f h = omega (arith, f (omega arith))
all_step false n m l y f h = absurd (omega arith)

pub feed_in_second : (xs ys : List ℕ) → feed_at xs ≡ length xs → feed_at (xs ++ ys) ≡ length xs + feed_at ys
feed_in_second [] ys h = omega arith
feed_in_second (x ∷ xs) ys h = all_step (in_line x) (feed_at xs) (feed_at (xs ++ ys)) (length xs) (feed_at ys) (feed_in_second xs ys) h

pub feed_within : (xs : List ℕ) → feed_at xs ≤ length xs
feed_within xs = prefix_len-le-length in_line xs

-- no line feed before the first, and none in two parts that have none
before_step : (t : Bool) (x : ℕ) (xs : List ℕ) → in_line x ≡ t → feed_at (before_feed xs) ≡ feed_at xs → feed_at (take (cond t (1 + feed_at xs) 0) (x ∷ xs)) ≡ cond t (1 + feed_at xs) 0
before_step true x xs e h =
    ap (λ n. feed_at (take n (x ∷ xs))) (one-add (feed_at xs)) ∙ ap (λ t. cond t (1 + feed_at (before_feed xs)) 0) e ∙ ap (λ n. 1 + n) h
before_step false x xs e h = refl

at_before : (xs : List ℕ) → feed_at (before_feed xs) ≡ feed_at xs
at_before [] = refl
at_before (x ∷ xs) = before_step (in_line x) x xs refl (at_before xs)

pub none_before : (xs : List ℕ) → has_feed (before_feed xs) ≡ false
none_before xs = le-ltb (feed_at (before_feed xs)) (length (before_feed xs)) (omega (arith, at_before xs, feed_within xs, length-take (feed_at xs) xs))

pub none_in_both : (xs ys : List ℕ) → has_feed xs ≡ false → has_feed ys ≡ false → has_feed (xs ++ ys) ≡ false
none_in_both xs ys h k =
    let p = ltb-false (feed_at xs) (length xs) h in
    let q = ltb-false (feed_at ys) (length ys) k in
    le-ltb (feed_at (xs ++ ys)) (length (xs ++ ys)) (omega (arith, feed_in_second xs ys (omega (arith, feed_within xs)), length-append xs ys))
