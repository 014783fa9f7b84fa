-- The first mark of a text, and the marks of a service word by word. Assumes nothing.
use Rattle.std.proofs.Common.{◌≡◌, ℕ, suc, ◌+◌, ◌<◌, Bool, true, false, cond, not, eqb, ltb, List, [], ◌∷◌, ◌++◌, length, take, drop, Some, None, Option, sym, refl, ap, ◌∙◌, append_assoc, one-add, arith, length-drop}
use Rattle.std.proofs.lemmas.List.{append-nil}
use Rattle.std.proofs.lemmas.Bool.Decides.{nat_tests}
use Rattle.std.proofs.lemmas.Bool.{lt-ltb, ltb-true}
use Rattle.station.specs.declared.service.Service.{Service}
use Rattle.lines.specs.Marks.{mark_at}
use Rattle.script.specs.Parts.{has_mark, before_mark, after_mark}
use Rattle.script.specs.Services.{with_mark, then_more, marks_from}

-- what follows a mark is shorter
pub after_shorter : (m : ℕ) (xs : List ℕ) → has_mark m xs ≡ true → length (after_mark m xs) < length xs
after_shorter m xs h = omega (arith, ltb-true (mark_at m xs) (length xs) h, length-drop (mark_at m xs + 1) xs)

-- the marks of a text: those of its first word, and then those of the rest
abbrev by_place : Service → List ℕ → List ℕ → ℕ → Option Service
by_place m word text n =
    cond (ltb n (length text)) (then_more (with_mark m (word ++ take n text)) (λ more. marks_from more [] (drop (n + 1) text))) (with_mark m (word ++ text))

ltb_suc : (n k : ℕ) → ltb n k ≡ ltb (suc n) (suc k)
ltb_suc n k = grind (arith, nat_tests)

one_further : (m : Service) (word : List ℕ) (b : ℕ) (text : List ℕ) (n : ℕ) → by_place m (word ++ b ∷ []) text n ≡ by_place m word (b ∷ text) (1 + n)
one_further m word b text n =
    let e : suc (n + 1) ≡ suc n + 1 = omega arith in
    let has = ltb n (length text) in
    ap (λ w. cond has (then_more (with_mark m w) (λ more. marks_from more [] (drop (n + 1) text))) (with_mark m ((word ++ b ∷ []) ++ text))) (append_assoc word (b ∷ []) (take n text))
    ∙ ap (λ w. cond has (then_more (with_mark m (word ++ b ∷ take n text)) (λ more. marks_from more [] (drop (n + 1) text))) (with_mark m w)) (append_assoc word (b ∷ []) text)
    ∙ ap (λ k. cond has (then_more (with_mark m (word ++ b ∷ take n text)) (λ more. marks_from more [] (drop k (b ∷ text)))) (with_mark m (word ++ b ∷ text))) e
    ∙ ap (λ t. cond t (then_more (with_mark m (word ++ b ∷ take n text)) (λ more. marks_from more [] (drop (suc n + 1) (b ∷ text)))) (with_mark m (word ++ b ∷ text))) (ltb_suc n (length text))
    ∙ ap (by_place m word (b ∷ text)) (sym (one-add n))

word_step : (t : Bool) (m : Service) (word : List ℕ) (b : ℕ) (text : List ℕ) → eqb b 0x2C ≡ t
    → marks_from m (word ++ b ∷ []) text ≡ by_place m (word ++ b ∷ []) text (mark_at 0x2C text)
    → cond t (then_more (with_mark m word) (λ more. marks_from more [] text)) (marks_from m (word ++ b ∷ []) text) ≡ by_place m word (b ∷ text) (mark_at 0x2C (b ∷ text))
word_step true m word b text e h =
    ap (λ w. then_more (with_mark m w) (λ more. marks_from more [] text)) (sym (append-nil word))
    ∙ ap (λ t. cond t (then_more (with_mark m (word ++ [])) (λ more. marks_from more [] text)) (with_mark m (word ++ b ∷ text))) (sym (lt-ltb 0 (suc (length text)) (omega arith)))
    ∙ ap (λ t. by_place m word (b ∷ text) (cond (not t) (1 + mark_at 0x2C text) 0)) (sym e)
word_step false m word b text e h =
    h ∙ one_further m word b text (mark_at 0x2C text) ∙ ap (λ t. by_place m word (b ∷ text) (cond (not t) (1 + mark_at 0x2C text) 0)) (sym e)

by_word : (m : Service) (word text : List ℕ) → marks_from m word text ≡ by_place m word text (mark_at 0x2C text)
by_word m word [] = ap (with_mark m) (sym (append-nil word))
by_word m word (b ∷ text) = word_step (eqb b 0x2C) m word b text refl (by_word m (word ++ b ∷ []) text)

first_word : (m : Service) (rest : List ℕ) → has_mark 0x2C rest ≡ true
    → marks_from m [] rest ≡ then_more (with_mark m (before_mark 0x2C rest)) (λ more. marks_from more [] (after_mark 0x2C rest))
first_word m rest h =
    by_word m [] rest
    ∙ ap (λ t. cond t (then_more (with_mark m (before_mark 0x2C rest)) (λ more. marks_from more [] (after_mark 0x2C rest))) (with_mark m rest)) h

-- the first word is no mark; it is one, and the rest follows; there is no other word
pub word_refused : (m : Service) (rest word : List ℕ) → has_mark 0x2C rest ≡ true → word ≡ before_mark 0x2C rest → None ≡ with_mark m word → None ≡ marks_from m [] rest
word_refused m rest word h e r =
    ap (λ o. then_more o (λ more. marks_from more [] (after_mark 0x2C rest))) (r ∙ ap (with_mark m) e) ∙ sym (first_word m rest h)

pub word_taken : (m more : Service) (rest word left : List ℕ) → has_mark 0x2C rest ≡ true → word ≡ before_mark 0x2C rest → left ≡ after_mark 0x2C rest
    → Some more ≡ with_mark m word → marks_from more [] left ≡ marks_from m [] rest
word_taken m more rest word left h e f r =
    ap (marks_from more []) f ∙ ap (λ o. then_more o (λ more. marks_from more [] (after_mark 0x2C rest))) (r ∙ ap (with_mark m) e) ∙ sym (first_word m rest h)

pub last_word : (m : Service) (rest : List ℕ) → has_mark 0x2C rest ≡ false → with_mark m rest ≡ marks_from m [] rest
last_word m rest h =
    sym (by_word m [] rest
    ∙ ap (λ t. cond t (then_more (with_mark m (before_mark 0x2C rest)) (λ more. marks_from more [] (after_mark 0x2C rest))) (with_mark m rest)) h)
