-- Steps of putting characters on a text. Assumes nothing.
use Rattle.std.proofs.Common.{◌≡◌, ℕ, ◌-◌, true, false, cond, ◌&&◌, leb, List, [], ◌∷◌, ◌++◌, length, sym, ap, ◌∙◌, ⊎_elim, arith, length-append}
use Rattle.std.proofs.lemmas.List.{append-nil, append_assoc}
use Rattle.std.proofs.lemmas.Bool.{true≢false, and_parts, cases_Bool}
use Rattle.text.specs.Reading.{cut}
use Rattle.text.specs.Filling.{room, filled, all_fit}

less_room : (words c : List ℕ) → room (words ++ c) ≡ room words - length c
less_room words c = let e = length-append words c in omega arith

-- the character c fits after the words, or does not
module _ (words c : List ℕ) (cs : List (List ℕ)) where
  pub went : leb (length c) (room words) ≡ true → (all_fit (words ++ c) cs ≡ all_fit words (c ∷ cs)) × (filled (words ++ c) cs ≡ filled words (c ∷ cs))
  went fits = (
    ap (λ b. b && all_fit (words ++ c) cs) (sym fits),
    ap (λ n. (words ++ c) ++ cut n cs) (less_room words c) ∙ (append_assoc words c (cut (room words - length c) cs) ∙ ap (λ b. words ++ cond b (c ++ cut (room words - length c) cs) []) (sym fits)),
  )

  pub stopped : leb (length c) (room words) ≡ false → (all_fit words (c ∷ cs) ≡ false) × (words ≡ filled words (c ∷ cs))
  stopped wide = (
    ap (λ b. b && all_fit (words ++ c) cs) wide,
    sym (append-nil words) ∙ ap (λ b. words ++ cond b (c ++ cut (room words - length c) cs) []) (sym wide),
  )

-- many characters, of which all fit or not
fill_more : (words : List ℕ) (xs ys : List (List ℕ)) → all_fit words xs ≡ true → filled words (xs ++ ys) ≡ filled (filled words xs) ys
fill_more words [] ys e = ap (λ w. filled w ys) (sym (append-nil words))
fill_more words (c ∷ xs) ys e =
    let p = and_parts (leb (length c) (room words)) (all_fit (words ++ c) xs) e in
    let one = λ (cs : List (List ℕ)). (went words c cs p.0).1 in
    sym (one (xs ++ ys)) ∙ (fill_more (words ++ c) xs ys p.1 ∙ ap (λ w. filled w ys) (one xs))

fill_stop : (words : List ℕ) (xs ys : List (List ℕ)) → all_fit words xs ≡ false → filled words (xs ++ ys) ≡ filled words xs
fill_stop words [] ys e = absurd (true≢false e)
fill_stop words (c ∷ xs) ys e =
    ⊎_elim
    (λ p.
    let one = λ (cs : List (List ℕ)). (went words c cs p).1 in
    sym (one (xs ++ ys)) ∙ (fill_stop (words ++ c) xs ys (ap (λ b. b && all_fit (words ++ c) xs) (sym p) ∙ e) ∙ one xs))
    (λ p. sym (stopped words c (xs ++ ys) p).1 ∙ (stopped words c xs p).1)
    (cases_Bool (leb (length c) (room words)))

fit_more : (words : List ℕ) (xs ys : List (List ℕ)) → all_fit words xs ≡ true → all_fit words (xs ++ ys) ≡ all_fit (filled words xs) ys
fit_more words [] ys e = ap (λ w. all_fit w ys) (sym (append-nil words))
fit_more words (c ∷ xs) ys e =
    let p = and_parts (leb (length c) (room words)) (all_fit (words ++ c) xs) e in
    sym (went words c (xs ++ ys) p.0).0 ∙ (fit_more (words ++ c) xs ys p.1 ∙ ap (λ w. all_fit w ys) (went words c xs p.0).1)

fit_stop : (words : List ℕ) (xs ys : List (List ℕ)) → all_fit words xs ≡ false → all_fit words (xs ++ ys) ≡ false
fit_stop words [] ys e = absurd (true≢false e)
fit_stop words (c ∷ xs) ys e =
    ⊎_elim
    (λ p. sym (went words c (xs ++ ys) p).0 ∙ fit_stop (words ++ c) xs ys ((went words c xs p).0 ∙ e))
    (λ p. (stopped words c (xs ++ ys) p).0)
    (cases_Bool (leb (length c) (room words)))

-- some characters were put on the words, of which all fit or not, and others are to follow
pub more : (words mid : List ℕ) (xs ys : List (List ℕ)) → all_fit words xs ≡ true → mid ≡ filled words xs → (all_fit mid ys ≡ all_fit words (xs ++ ys)) × (filled mid ys ≡ filled words (xs ++ ys))
more words mid xs ys e m = (ap (λ w. all_fit w ys) m ∙ sym (fit_more words xs ys e), ap (λ w. filled w ys) m ∙ sym (fill_more words xs ys e))

pub stop : (words mid : List ℕ) (xs ys : List (List ℕ)) → all_fit words xs ≡ false → mid ≡ filled words xs → (all_fit words (xs ++ ys) ≡ false) × (mid ≡ filled words (xs ++ ys))
stop words mid xs ys e m = (fit_stop words xs ys e, m ∙ sym (fill_stop words xs ys e))
