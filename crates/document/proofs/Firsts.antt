-- A document has just one first placeholder, or none. Assumes nothing.
use Rattle.std.specs.Bool.{IsTrue, Decides}
use Rattle.std.specs.Fn.{Called}
use Rattle.std.specs.Iterator.Runs.{Run, IsWindowsRun, CallKeepsClosure, AllItemsGive, IsFirstToGive}
use Rattle.std.specs.List.{IsSubsliceAt}
use Rattle.std.specs.Option.{MatchOption, IfSome, IsSomeAnd, option_map}
use Rattle.std.proofs.lemmas.Option.{none-some}
use Rattle.std.proofs.Common.{◌≡◌, ℕ, zero, suc, ◌+◌, ◌<◌, ◌≤◌, ◌⊎◌, Bool, true, false, List, Bor, length, take, drop, Some, None, Option, refl, ap, subst, sym, ◌∙◌, inl, inr, arith}
use Rattle.std.proofs.lemmas.Slice.Eq.{bytes_eq-Decides}
use Rattle.std.proofs.lemmas.Bool.{cases_Bool, cases_lt, cases_order, both_ways}
use Rattle.std.specs.Str.{bytes_eq}
use Rattle.document.specs.Placeholder.{placeholder, Stands, First}
use Rattle.document.proofs.Escapes.{stands_within}
use denote.Param.Members.{Mut}

pub first_one : (doc : List ℕ) (p q : Option ℕ) → First doc p → First doc q → p ≡ q
first_one doc None None h k = refl
first_one doc None (Some j) h k = absurd (h j (omega (arith, stands_within doc j k.0)) k.0)
first_one doc (Some i) None h k = absurd (k i (omega (arith, stands_within doc i h.0)) h.0)
first_one doc (Some i) (Some j) h k =
    elim (cases_order i j) [
      | inl e ↦ ap Some e
      | inr o ↦ elim o [ inl lt ↦ absurd (k.1 i lt h.0) | inr gt ↦ absurd (h.1 j gt k.0) ]
    ]

-- none of the places below n
NoneBelow : List ℕ → ℕ → Type 0
NoneBelow doc n = (k : ℕ) → k < n → Stands doc k → ⊥

none_more : (doc : List ℕ) (n : ℕ) → NoneBelow doc n → (Stands doc n → ⊥) → NoneBelow doc (suc n)
unfolding NoneBelow
none_more doc n none not k h st =
    elim (cases_lt k n) [ inl lt ↦ none k lt st | inr ge ↦ let e : k ≡ n = omega arith in not (subst (Stands doc) e st) ]

seek : (doc : List ℕ) (n : ℕ) → NoneBelow doc n ⊎ ((i : ℕ) × First doc (Some i))
unfolding NoneBelow
seek doc zero = inl (λ k h st. omega arith)
seek doc (suc n) =
    elim (seek doc n) [
      | inr found ↦ inr found
      | inl none ↦ let same = bytes_eq-Decides (take 23 (drop n doc)) placeholder in
          elim (cases_Bool (bytes_eq (take 23 (drop n doc)) placeholder)) [
            | inl is ↦ inr (n, (same.0 is, none))
            | inr isnt ↦ inl (none_more doc n none (λ st. both_ways _ isnt (same.1 st)))
          ]
    ]

pub first_of : (doc : List ℕ) → (p : Option ℕ) × First doc p
unfolding NoneBelow
first_of doc = elim (seek doc (length doc)) [ inl none ↦ (None, none) | inr found ↦ (Some found.0, found.1) ]

there : {X : Type 0} {y : X} (P : X → Type 0) (o : Option X) → option_map (λ x. x) o ≡ Some y → IfSome o P → IsSomeAnd o P
there P (Some x) e h = h
there P None e h = absurd (none-some _ e)

-- the first window that equals the placeholder is at its first place
module _ {S F : Type 0} {steps : S → Option (Bor (List ℕ)) → S → Type 0} (p : Run steps) (g : Mut F (Bor (List ℕ) × Unit {0}) Bool) (f : F) (doc : List ℕ)
    (tells : (x : Bor (List ℕ)) (b : Bool) → Called g f (x, tt) b f → Decides b (x.now ≡ placeholder)) where
  -- what a run of windows says of the one at the place k
  abbrev Window : ℕ → Bor (List ℕ) → Type 0
  Window k x = (length x.now ≡ 23) × (k + 23 ≤ length doc) × IsSubsliceAt 23 doc k x.now

  hit : (k : ℕ) (o : Option (Bor (List ℕ))) → IsSomeAnd o (λ x. Called g f (x, tt) true f) → IfSome o (Window k) → Stands doc k
  hit k (Some x) h w = sym w.2.0 ∙ (tells x true h).0 refl
  hit k None h w = absurd h

  miss : (k : ℕ) (o : Option (Bor (List ℕ))) → IsSomeAnd o (λ x. Called g f (x, tt) false f) → IfSome o (Window k) → Stands doc k → ⊥
  miss k (Some x) h w st = let e = (tells x false h).1 (w.2.0 ∙ st) in cc
  miss k None h w st = absurd h

  pub first_window : IsWindowsRun p 23 doc → CallKeepsClosure g f → (o : Option ℕ)
      → MatchOption o (IsTrue p.whole × AllItemsGive p g f false) (λ i. (p.len ≡ i + 1) × IsFirstToGive p g f true false i) → First doc o
  first_window windows keeps (Some i) h =
      (hit i (p.at i) (h.1 keeps).0 (windows.2 i), λ k lt. miss k (p.at k) ((h.1 keeps).1 k lt) (windows.2 k))
  first_window windows keeps None h = λ k lt st.
      let within : k < p.len = omega (arith, windows.1 h.0, stands_within doc k st) in
      miss k (p.at k) (there _ (p.at k) (p.reads k (record { ref_ptr = (0, 0); now = doc }) within) (h.1 keeps k)) (windows.2 k) st

pub found_within : (doc : List ℕ) (r : Option ℕ) → First doc r → IfSome r (λ i. i + 23 ≤ length doc)
found_within doc None h = tt
found_within doc (Some i) h = stands_within doc i h.0
