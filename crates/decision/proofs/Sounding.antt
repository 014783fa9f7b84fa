-- There is one service whose sound can be borrowed, or none. Assumes nothing.
use Rattle.std.proofs.Common.{◌≡◌, ℕ, ◌⊎◌, ⊎_elim, inl, inr, List, Some, None, Option, refl, ap, sym, subst, arith, true}
use Rattle.std.proofs.lemmas.Bool.{cases_Bool, both_ways}
use Rattle.station.specs.declared.service.Service.{Service}
use Rattle.station.specs.declared.service.Path.{Path}
use Rattle.station.specs.declared.service.Path.TheVariants.{InBand, OutOfBand}
use Rattle.section.specs.declared.fields.Fields.{Fields}
use Rattle.sets.specs.Meaning.{apart_at}
use Rattle.decision.specs.Lookups.{details_of, IsApart, IsAudio, IsSound, Sounds}

same : (o : Option ℕ) (j k : ℕ) → o ≡ Some j → o ≡ Some k → j ≡ k
same o j k p q = cc

one_number : (path : Path) (f : Fields) (ss : List Service) (details : Option ℕ) (j k : ℕ) → IsSound path f ss details j → IsSound path f ss details k → j ≡ k
one_number path f ss details j k h g =
    ⊎_elim
    (λ a. ⊎_elim (λ b. same _ j k a.1.0 b.1.0) (λ b. absurd (b.0 j a)) g)
    (λ a. ⊎_elim (λ b. absurd (a.0 k b)) (λ b. same details j k a.1.0 b.1.0) g)
    h

pub one_sound : (path : Path) (f : Fields) (ss : List Service) (a b : Option ℕ) → Sounds path f ss a → Sounds path f ss b → a ≡ b
one_sound path f ss None None h g = refl
one_sound path f ss None (Some k) h g = absurd (h k g)
one_sound path f ss (Some j) None h g = absurd (g j h)
one_sound path f ss (Some j) (Some k) h g = ap Some (one_number path f ss (details_of path f ss) j k h g)

-- one is found or there is none
module _ (ss : List Service) where
  apart_or_not : (o : Option ℕ) → ((k : ℕ) × IsApart ss o k) ⊎ ((k : ℕ) → IsApart ss o k → ⊥)
  apart_or_not None = inr (λ k a. let e = a.0 in let z : ◌≡◌ {A = ℕ} 0 1 = cc in omega arith)
  apart_or_not (Some j) =
      ⊎_elim (λ e. inl (j, (refl, e)))
      (λ e. inr (λ k a. both_ways _ e (subst (λ (i : ℕ). apart_at ss i ≡ true) (sym (same (Some j) j k refl a.0)) a.1)))
      (cases_Bool (apart_at ss j))

  audio_or_not : (path : Path) (f : Fields) → ((k : ℕ) × IsAudio path f ss k) ⊎ ((k : ℕ) → IsAudio path f ss k → ⊥)
  audio_or_not InBand f = inr (λ k a. let e = a.0 in let z : ◌≡◌ {A = ℕ} 0 1 = cc in omega arith)
  audio_or_not OutOfBand f = ⊎_elim (λ h. inl (h.0, (refl, h.1))) (λ none. inr (λ k a. none k a.1)) (apart_or_not _)

  pub some_sound : (path : Path) (f : Fields) → (o : Option ℕ) × Sounds path f ss o
  some_sound path f =
      ⊎_elim (λ h. (Some h.0, inl h.1))
      (λ none. ⊎_elim (λ h. (Some h.0, inr (none, h.1)))
      (λ no. (None, λ k s. ⊎_elim (λ a. none k a) (λ b. no k b.1) s))
      (apart_or_not (details_of path f ss)))
      (audio_or_not path f)
