-- Whether an alert applies, as a test and in words. Assumes nothing.
use Rattle.std.proofs.Common.{◌≡◌, ℕ, zero, suc, ◌+◌, ◌*◌, ◌<◌, ◌≤◌, Bool, true, false, not, ◌&&◌, leb, ◌⊎◌, List, length, Some, None, Option, sym, refl, subst, inl, inr, ⊎_elim, arith}
use Rattle.std.proofs.lemmas.Bool.{and_parts, and_from, leb-true, le-leb, both_ways, not-true, not_from_false, cases_Bool, cases_lt, cases_eq}
use Rattle.station.specs.declared.service.Path.{Path}
use Rattle.station.specs.declared.service.Service.{Service}
use Rattle.entries.specs.Exceptions.{names_tuned}
use Rattle.entries.specs.Finding.{entry_at, Whole, Tells}
use Rattle.section.specs.Places.{exceptions_of}
use Rattle.sets.specs.Meaning.{service_at}
use Rattle.decision.specs.Alerts.{Marked}
use Rattle.decision.specs.Pictures.{is_paid, is_controlled, between, applies}
use Rattle.history.specs.Histories.{Start}
use Rattle.history.specs.Sections.{priority}
use Rattle.history.specs.Screens.{Applies}

-- some entry of five bytes names the thing, or none does
module _ {A : Type 0} (named : List ℕ → A → Bool) (bytes : List ℕ) (thing : A) where
  within : (n : ℕ) → Tells 5 named bytes thing true ⊎ ((k : ℕ) → k < n → Whole 5 bytes k → named (entry_at 5 bytes k) thing ≡ false)
  within zero = inr (λ k l. absurd (omega arith))
  within (suc n) =
      ⊎_elim inl
      (λ none. ⊎_elim
      (λ e. ⊎_elim
      (λ l. inr (λ k below whole. ⊎_elim (λ same. absurd (omega arith)) (λ other. none k (omega arith) whole) (cases_eq k n)))
      (λ l. inl (n, l, e))
      (cases_lt (length bytes) ((n + 1) * 5)))
      (λ e. inr (λ k below whole. ⊎_elim (λ same. subst (λ (j : ℕ). named (entry_at 5 bytes j) thing ≡ false) (sym same) e) (λ other. none k (omega arith) whole) (cases_eq k n)))
      (cases_Bool (named (entry_at 5 bytes n) thing)))
      (within n)

  told : Tells 5 named bytes thing true ⊎ Tells 5 named bytes thing false
  told = ⊎_elim inl (λ none. inr (λ k whole. none k (omega arith) whole)) (within (length bytes))

-- a service is marked or it is not
module _ (bytes : List ℕ) (path : Path) where
  marked_one : (o : Option Service) (b : Bool) → Marked bytes path o b → Marked bytes path o false → b ≡ false
  marked_one o false x y = refl
  marked_one None true x y = x
  marked_one (Some service) true x y = absurd (both_ways _ (y x.0 x.1) x.2)

  marked : (o : Option Service) → Marked bytes path o true ⊎ Marked bytes path o false
  marked None = inr refl
  marked (Some service) = told names_tuned (exceptions_of bytes) (record { service = service; path = path })

-- of a test that failed and of its two parts
refuted : (x y : Bool) → not (x && y) ≡ true → x ≡ true → y ≡ true → ⊥
refuted x y e a b = both_ways (x && y) (not-true (x && y) e) (and_from x y a b)

refute : (x y : Bool) → (x ≡ true → y ≡ true → ⊥) → not (x && y) ≡ true
refute x y none = ⊎_elim (λ e. let p = and_parts x y e in absurd (none p.0 p.1)) (not_from_false (x && y)) (cases_Bool (x && y))

spread : (low high n : ℕ) → between low high n ≡ true → (low ≤ n) × (n ≤ high)
spread low high n e = let p = and_parts (leb low n) (leb n high) e in (leb-true low n p.0, leb-true n high p.1)

span : (low high n : ℕ) → low ≤ n → n ≤ high → between low high n ≡ true
span low high n a b = and_from (leb low n) (leb n high) (le-leb low n a) (le-leb n high b)

module _ (s : Start) (bytes : List ℕ) (home : ℕ) (b : Bool) (mark : Marked bytes s.path (service_at s.found.services home) b) where
  -- by the mark of the viewer's service, the test and the words say the same
  pub applies_so : applies b (priority bytes) (service_at s.found.services home) ≡ true → Applies s bytes home
  applies_so e =
      let o = service_at s.found.services home in
      let n = priority bytes in
      let p = and_parts (not b) (not (is_paid o && between 4 7 n) && not (is_controlled o && between 1 3 n)) e in
      let q = and_parts (not (is_paid o && between 4 7 n)) (not (is_controlled o && between 1 3 n)) p.1 in
      record {
        not_excepted = subst (Marked bytes s.path o) (not-true b p.0) mark;
        not_paid = λ paid low high. refuted (is_paid o) (between 4 7 n) q.0 paid (span 4 7 n low high);
        not_controlled = λ controlled low high. refuted (is_controlled o) (between 1 3 n) q.1 controlled (span 1 3 n low high);
      }

  pub applies_test : Applies s bytes home → applies b (priority bytes) (service_at s.found.services home) ≡ true
  applies_test a =
      let o = service_at s.found.services home in
      let n = priority bytes in
      and_from (not b) _ (not_from_false b (marked_one bytes s.path o b mark a.not_excepted))
      (and_from (not (is_paid o && between 4 7 n)) _
      (refute (is_paid o) (between 4 7 n) (λ x y. let p = spread 4 7 n y in a.not_paid x p.0 p.1))
      (refute (is_controlled o) (between 1 3 n) (λ x y. let p = spread 1 3 n y in a.not_controlled x p.0 p.1)))

-- it applies or it does not
pub applying : (s : Start) (bytes : List ℕ) (home : ℕ) → Applies s bytes home ⊎ (Applies s bytes home → ⊥)
applying s bytes home = ⊎_elim (by true) (by false) (marked bytes s.path (service_at s.found.services home))
  where
    by : (b : Bool) → Marked bytes s.path (service_at s.found.services home) b → Applies s bytes home ⊎ (Applies s bytes home → ⊥)
    by b mark =
        ⊎_elim (λ e. inl (applies_so s bytes home b mark e)) (λ e. inr (λ a. both_ways _ e (applies_test s bytes home b mark a)))
        (cases_Bool (applies b (priority bytes) (service_at s.found.services home)))
