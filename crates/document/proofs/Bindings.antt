-- Numbers from 1 on: one that is missing, and what is equal for each of them. Assumes nothing.
use Rattle.std.proofs.Common.{◌≡◌, ℕ, zero, suc, ◌+◌, ◌<◌, ◌≤◌, true, false, ◌||◌, eqb, List, ◌++◌, sym, refl, ap, ◌∙◌, inl, inr, arith}
use Rattle.std.proofs.lemmas.Bool.{cases_lt, eq-eqb, ne_eqb, or_left, or_right}
use Rattle.document.specs.Fragments.{missing, chained}

pub missing_at : (f : ℕ → ℕ) (k n : ℕ) → k < n → f (k + 1) ≡ 0 → missing f n ≡ true
missing_at f k zero h z = absurd (omega arith)
missing_at f k (suc n) h z =
    elim (cases_lt k n) [
      | inl lt ↦ or_right (eqb (f (suc n)) 0) (missing f n) (missing_at f k n lt z)
      | inr ge ↦ let e : k + 1 ≡ suc n = omega arith in or_left (eqb (f (suc n)) 0) (missing f n) (eq-eqb (f (suc n)) 0 (sym (ap f e) ∙ z))
    ]

-- none is missing
pub none_missing : (f : ℕ → ℕ) (n : ℕ) → ((i : ℕ) → i < n → f (1 + i) ≡ 0 → ⊥) → missing f n ≡ false
none_missing f zero h = refl
none_missing f (suc n) h =
    let one : suc n ≡ 1 + n = omega arith in
    rw (ne_eqb (f (suc n)) 0 (λ z. h n (omega arith) (sym (ap f one) ∙ z)), none_missing f n (λ i lt. h i (omega arith)))

-- equal for each number, equal for all
pub missing_same : (f g : ℕ → ℕ) (n : ℕ) → ((k : ℕ) → k ≤ n → eqb (f k) 0 ≡ eqb (g k) 0) → missing f n ≡ missing g n
missing_same f g zero e = refl
missing_same f g (suc n) e =
    ap (λ b. b || missing f n) (e (suc n) (omega arith)) ∙ ap (λ b. eqb (g (suc n)) 0 || b) (missing_same f g n (λ k le. e k (omega arith)))

pub chained_same : (f g : ℕ → List ℕ) → ((k : ℕ) → f k ≡ g k) → (n : ℕ) → chained f n ≡ chained g n
chained_same f g e zero = refl
chained_same f g e (suc n) = ap (λ m. m ++ f (suc n)) (chained_same f g e n) ∙ ap (λ m. chained g n ++ m) (e (suc n))
