-- To a call one number is due, and one entry or none beside it but for the entry beside 4. Assumes nothing.
use Rattle.std.proofs.Common.{◌≡◌, ℕ, ◌<◌, ◌⊎◌, List, Some, None, sym, ap, ◌∙◌, inl, inr, ⊎_elim, arith}
use Rattle.section.specs.Rules.{refusal}
use Rattle.sets.specs.Meaning.{count_of}
use Rattle.calls.specs.Verdicts.{Verdict, alone}
use Rattle.history.specs.Histories.{Event, sent, told, chose, Start, IsGranted}
use Rattle.history.specs.Sections.{priority, Repeats, Names}
use Rattle.history.specs.Replies.{Due, breaks_a_rule, is_repeat, is_test, is_elsewhere, is_in_force, is_read, is_early, is_chosen, is_past_the_list}

-- they say the same, or both have an entry beside 4
abbrev pub Alike : Verdict → Verdict → Type 0
Alike v w = (v ≡ w) ⊎ ((v.number ≡ 4) × (w.number ≡ 4))

-- a case and the contrary one
abbrev Either : Type 0 → (Verdict → Type 0) → (Verdict → Type 0) → Verdict → Type 0
Either P A B v = (P × A v) ⊎ ((P → ⊥) × B v)

-- what leaves one verdict
abbrev One : (Verdict → Type 0) → Type 0
One A = (v w : Verdict) → A v → A w → Alike v w

either_one : (P : Type 0) (A B : Verdict → Type 0) → One A → One B → One (Either P A B)
either_one P A B one other v w (inl x) (inl y) = one v w x.1 y.1
either_one P A B one other v w (inl x) (inr y) = absurd (y.0 x.0)
either_one P A B one other v w (inr x) (inl y) = absurd (x.0 y.0)
either_one P A B one other v w (inr x) (inr y) = other v w x.1 y.1

same_one : (n : ℕ) → One (λ v. v ≡ alone n)
same_one n v w x y = inl (x ∙ sym y)

-- the rows for a section, by one question after another
module _ (s : Start) (h : List Event) (bytes : List ℕ) where
  abbrev Refused : Verdict → Type 0
  Refused v = (n : ℕ) × (refusal bytes ≡ Some n) × (v ≡ alone n)

  abbrev InForce : Verdict → Type 0
  InForce v = (k : ℕ) × (v ≡ record { number = 4; entry = Some k })

  abbrev Located : Verdict → Type 0
  Located = Either ((k : ℕ) × Names bytes s.place k) InForce (λ v. v ≡ alone 3)

  abbrev Fresh : Verdict → Type 0
  Fresh = Either (priority bytes ≡ 0) (λ v. v ≡ alone 2) Located

  abbrev Formed : Verdict → Type 0
  Formed = Either (Repeats h bytes) (λ v. v ≡ alone 1) Fresh

  abbrev Rows : Verdict → Type 0
  Rows = Either (refusal bytes ≡ None) Formed Refused

  refused_one : One Refused
  refused_one v w x y =
      let e : Some x.0 ≡ Some y.0 = sym x.1 ∙ y.1 in
      let same : x.0 ≡ y.0 = cc in
      inl (x.2 ∙ ap alone same ∙ sym y.2)

  in_force_one : One InForce
  in_force_one v w x y = inr (ap (λ (z : Verdict). z.number) x.1, ap (λ (z : Verdict). z.number) y.1)

  rows_one : One Rows
  rows_one =
      either_one _ Formed Refused
      (either_one _ (λ v. v ≡ alone 1) Fresh (same_one 1)
      (either_one _ (λ v. v ≡ alone 2) Located (same_one 2)
      (either_one _ InForce (λ v. v ≡ alone 3) in_force_one (same_one 3))))
      refused_one

  rows : (v : Verdict) → Due s h v (sent bytes) → Rows v
  rows v (breaks_a_rule b n r q) = inr ((λ none. let e : Some n ≡ None = sym r ∙ none in let z : ◌≡◌ {A = ℕ} 0 1 = cc in omega arith), (n, r, q))
  rows v (is_repeat b r again q) = inl (r, inl (again, q))
  rows v (is_test b r new zero q) = inl (r, inr (new, inl (zero, q)))
  rows v (is_elsewhere b r new high away q) = inl (r, inr (new, inr ((λ zero. omega arith), inr ((λ names. away names.0 names.1), q))))
  rows v (is_in_force b k r new high names q) = inl (r, inr (new, inr ((λ zero. omega arith), inl ((k, names), (k, q)))))

module _ (s : Start) (h : List Event) where
  read_rows : (n : ℕ) (v : Verdict) → Due s h v (told n) → Either (IsGranted s h n) (λ w. w ≡ alone 0) (λ w. w ≡ alone 31) v
  read_rows n v (is_read m l q) = inl (l, q)
  read_rows n v (is_early m l q) = inr ((λ g. omega arith), q)

  chosen_rows : (n : ℕ) (v : Verdict) → Due s h v (chose n) → Either (n < count_of s.found) (λ w. w ≡ alone 0) (λ w. w ≡ alone 32) v
  chosen_rows n v (is_chosen m l q) = inl (l, q)
  chosen_rows n v (is_past_the_list m l q) = inr ((λ g. omega arith), q)

  pub due_one : (e : Event) (v w : Verdict) → Due s h v e → Due s h w e → Alike v w
  due_one (sent bytes) v w x y = rows_one s h bytes v w (rows s h bytes v x) (rows s h bytes w y)
  due_one (told n) v w x y = either_one _ _ _ (same_one 0) (same_one 31) v w (read_rows n v x) (read_rows n w y)
  due_one (chose n) v w x y = either_one _ _ _ (same_one 0) (same_one 32) v w (chosen_rows n v x) (chosen_rows n w y)

  pub number_one : (e : Event) (v w : Verdict) → Due s h v e → Due s h w e → v.number ≡ w.number
  number_one e v w x y = ⊎_elim (λ same. ap (λ (z : Verdict). z.number) same) (λ both. both.0 ∙ sym both.1) (due_one e v w x y)

  pub verdict_one : (e : Event) (v w : Verdict) → Due s h v e → Due s h w e → (v ≡ w) ⊎ (v.number ≡ 4)
  verdict_one e v w x y = ⊎_elim inl (λ both. inr both.0) (due_one e v w x y)
