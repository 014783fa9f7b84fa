-- The first service that a test holds of. Assumes nothing.
use Rattle.std.proofs.Common.{◌≡◌, ℕ, zero, suc, ◌+◌, ◌<◌, ◌≤◌, Bool, true, false, List, [], ◌∷◌, length, position, Some, None, Option, sym, refl, ap, ◌∙◌, arith}
use Rattle.std.specs.List.{position_from}
use Rattle.std.specs.Option.{MatchOption, IsSomeAnd}
use Rattle.std.proofs.lemmas.Bool.{cond-true, cond-false}
use Rattle.std.proofs.lemmas.Iterator.Adapters.{position_from-zero}
use Rattle.station.specs.declared.service.Service.{Service}
use Rattle.sets.specs.Meaning.{service_at, holds}

none_from : (p : Service → Bool) (n : ℕ) (ss : List Service) → ((k : ℕ) → k < length ss → holds p (service_at ss k) ≡ false) → None ≡ position_from p n ss
none_from p n [] h = refl
none_from p n (s ∷ ss) h =
    none_from p (n + 1) ss (λ k lt. h (suc k) (omega arith)) ∙ sym (cond-false (p s) (Some n) (position_from p (n + 1) ss) (h zero (omega arith)))

some_from : (p : Service → Bool) (n : ℕ) (ss : List Service) (i : ℕ) → i < length ss → holds p (service_at ss i) ≡ true → ((k : ℕ) → k < i → holds p (service_at ss k) ≡ false) → Some (n + i) ≡ position_from p n ss
some_from p n [] i lt here h = absurd (omega arith)
some_from p n (s ∷ ss) zero lt here h =
    let e : n + 0 ≡ n = omega arith in
    ap Some e ∙ sym (cond-true (p s) (Some n) (position_from p (n + 1) ss) here)
some_from p n (s ∷ ss) (suc i) lt here h =
    let e : n + suc i ≡ n + 1 + i = omega arith in
    ap Some e ∙ (some_from p (n + 1) ss i (omega arith) here (λ k l. h (suc k) (omega arith))
    ∙ sym (cond-false (p s) (Some n) (position_from p (n + 1) ss) (h zero (omega arith))))

-- what holds of the number found, and of those before it, makes it the first
pub first_is : (p : Service → Bool) (ss : List Service) (a b : ℕ) (r : Option ℕ) → a ≡ 0 → b ≡ length ss
    → MatchOption r ((k : ℕ) → a ≤ k → k < b → holds p (service_at ss k) ≡ false) (λ i. (a ≤ i) × (i < b) × (holds p (service_at ss i) ≡ true) × ((k : ℕ) → a ≤ k → k < i → holds p (service_at ss k) ≡ false))
    → r ≡ position p ss
first_is p ss a b None x y h = none_from p 0 ss (λ k lt. h k (omega arith) (omega arith)) ∙ sym (position_from-zero p ss)
first_is p ss a b (Some i) x y h =
    let e : i ≡ 0 + i = omega arith in
    ap Some e ∙ (some_from p 0 ss i (omega (arith, h.1)) h.2 (λ k lt. h.3 k (omega arith) lt) ∙ sym (position_from-zero p ss))

-- what is found may be handed on as it is
pub kept : {X : Type 0} (o r : Option X) → MatchOption o (r ≡ None) (λ x. IsSomeAnd r (λ y. y ≡ x)) → o ≡ r
kept None None h = refl
kept None (Some y) h = sym h
kept (Some x) None h = absurd h
kept (Some x) (Some y) h = sym (ap Some h)
