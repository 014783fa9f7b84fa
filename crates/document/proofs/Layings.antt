-- A walk over descriptors laid out before a torn rest meets just these, and what a walk meets is laid out so. Assumes nothing.
use Rattle.std.proofs.Common.{◌≡◌, ℕ, zero, suc, ◌+◌, ◌≤◌, true, List, [], ◌∷◌, ◌++◌, length, take, drop, refl, sym, ap, ◌∙◌, inl, inr, append_assoc, arith, length-append, length-take-le}
use Rattle.std.proofs.lemmas.List.{append-nil, take_at, drop_at, take-append-drop, nil_from_length}
use Rattle.std.proofs.lemmas.Bool.{cases_lt, le-leb, lt-leb, eqb-true}
use Rattle.document.specs.Descriptors.{Descriptor, walked_in, walked, ended}
use Rattle.document.specs.Rearranging.{laid, Torn}

torn_stays : (n : ℕ) (rest : List ℕ) → Torn rest → walked_in n rest ≡ record { whole = []; torn = rest }
torn_stays zero rest h = refl
torn_stays (suc n) [] h = refl
torn_stays (suc n) (t ∷ []) h = refl
torn_stays (suc n) (t ∷ (l ∷ rest)) h = rw (lt-leb l (length rest) h)

met_in : (n : ℕ) (ds : List Descriptor) (rest : List ℕ) → Torn rest → length (laid ds ++ rest) ≤ n → walked_in n (laid ds ++ rest) ≡ record { whole = ds; torn = rest }
met_in n [] rest h k = torn_stays n rest h
met_in zero (d ∷ ds) rest h k = absurd (omega arith)
met_in (suc n) (d ∷ ds) rest h k =
    let body : List ℕ = d.body in
    let tail : List ℕ = laid ds ++ rest in
    let a : (d.body ++ laid ds) ++ rest ≡ body ++ tail = append_assoc d.body (laid ds) rest in
    let l : length ((d.body ++ laid ds) ++ rest) ≡ length body + length tail = ap length a ∙ length-append body tail in
    let fits : length d.body ≤ length ((d.body ++ laid ds) ++ rest) = omega arith in
    let t : take (length d.body) ((d.body ++ laid ds) ++ rest) ≡ d.body = ap (take (length d.body)) a ∙ take_at body tail (length d.body) refl in
    let p : drop (length d.body) ((d.body ++ laid ds) ++ rest) ≡ laid ds ++ rest = ap (drop (length d.body)) a ∙ drop_at body tail (length d.body) refl in
    rw (le-leb (length d.body) (length ((d.body ++ laid ds) ++ rest)) fits, t, p, met_in n ds rest h (omega arith))

pub laid_met : (ds : List Descriptor) (rest : List ℕ) → Torn rest → walked (laid ds ++ rest) ≡ record { whole = ds; torn = rest }
laid_met ds rest h = met_in (length (laid ds ++ rest)) ds rest h (omega arith)

-- what a walk met, laid out again before the bytes that are left, is the area
met_laid_in : (n : ℕ) (bs : List ℕ) → laid (walked_in n bs).whole ++ (walked_in n bs).torn ≡ bs
met_laid_in zero bs = refl
met_laid_in (suc n) [] = refl
met_laid_in (suc n) (t ∷ []) = refl
met_laid_in (suc n) (t ∷ (l ∷ rest)) =
    elim (cases_lt (length rest) l) [
      | inl lt ↦ rw (lt-leb l (length rest) lt)
      | inr ge ↦
          let size : length (take l rest) ≡ l = length-take-le l rest ge in
          let more : (take l rest ++ laid (walked_in n (drop l rest)).whole) ++ (walked_in n (drop l rest)).torn ≡ rest = append_assoc (take l rest) _ _ ∙ (ap (λ x. take l rest ++ x) (met_laid_in n (drop l rest)) ∙ take-append-drop l rest) in
          rw (le-leb l (length rest) ge, size, more)
    ]

pub met_laid : (area : List ℕ) → ended (walked area) ≡ true → area ≡ laid (walked area).whole
met_laid area e =
    let none : (walked area).torn ≡ [] = nil_from_length (walked area).torn (eqb-true (length (walked area).torn) 0 e) in
    sym (met_laid_in (length area) area) ∙ (ap (λ x. laid (walked area).whole ++ x) none ∙ append-nil (laid (walked area).whole))
