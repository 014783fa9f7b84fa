-- The first of the whole chunks that passes a test. Assumes nothing.
use Rattle.std.proofs.Common.{◌≡◌, ℕ, ◌+◌, ◌<◌, Bool, true, false, List, length, Bor, Some, None, Option, refl, sym, ap, ◌∙◌, arith}
use Rattle.std.proofs.Math.Nat.{le-div_iff_mul-le}
use Rattle.std.proofs.lemmas.Option.{none-some}
use Rattle.std.specs.Bool.{IsTrue}
use Rattle.std.specs.Fn.{Called}
use Rattle.std.specs.Iterator.Runs.{Run, IsChunksExactRun, CallKeepsClosure, AllItemsGive, IsFirstToGive}
use Rattle.std.specs.Option.{MatchOption, IfSome, IsSomeAnd, option_map}
use Rattle.entries.specs.Finding.{Finds}
use denote.Param.Members.{Mut}

both : {X : Type 0} {P Q : X → Type 0} (o : Option X) → IsSomeAnd o P → IfSome o Q → (x : X) × P x × Q x
both (Some x) a b = (x, a, b)
both None a b = absurd a

there : {X Y : Type 0} {P Q : X → Type 0} (o : Option X) (f : X → Y) {y : Y} → option_map f o ≡ Some y → IfSome o P → IfSome o Q → (x : X) × P x × Q x
there (Some x) f e a b = (x, a, b)
there None f e a b = absurd (none-some _ e)

module _ {A S F : Type 0} {steps : S → Option (Bor (List ℕ)) → S → Type 0} (p : Run steps) (g : Mut F (Bor (List ℕ) × Unit {0}) Bool) (f : F) (w : ℕ) (named : List ℕ → A → Bool) (bytes : List ℕ) (thing : A) where
  pub finds : 0 < w → IsChunksExactRun p w bytes → CallKeepsClosure g f → ((x : Bor (List ℕ)) (b : Bool) → Called g f (x, tt) b f → b ≡ named x.now thing) → (o : Option ℕ)
      → MatchOption o (IsTrue p.whole × AllItemsGive p g f false) (λ i. (p.len ≡ i + 1) × IsFirstToGive p g f true false i)
      → Finds w named bytes thing o
  finds some chunks keeps tells (Some i) h =
      let x = both (p.at i) (h.1 keeps).0 (chunks.2 i) in (
        omega (arith, x.2.1),
        ap (λ e. named e thing) (sym x.2.2.0) ∙ sym (tells x.0 true x.1),
      )
  finds some chunks keeps tells None h = λ k whole.
      let within : k < p.len = omega (arith, chunks.1 h.0, (le-div_iff_mul-le {k = w} {x = k + 1} {y = length bytes} some).1 whole) in
      let x = there (p.at k) (λ y. y) (p.reads k (record { ref_ptr = (0, 0); now = bytes }) within) (h.1 keeps k) (chunks.2 k) in
      ap (λ e. named e thing) (sym x.2.2.0) ∙ sym (tells x.0 false x.1)

-- what is found may be handed on as it is
pub kept : {X : Type 0} (o r : Option X) → MatchOption o (r ≡ None) (λ x. IsSomeAnd r (λ y. y ≡ x)) → o ≡ r
kept None None h = refl
kept None (Some y) h = sym h
kept (Some x) None h = absurd h
kept (Some x) (Some y) h = sym (ap Some h)
