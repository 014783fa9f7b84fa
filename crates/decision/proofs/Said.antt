-- The three sentences and the definition of the picture. Assumes nothing.
use Rattle.std.proofs.Common.{◌≡◌, ℕ, Bool, true, false, cond, leb, List, Some, None, Option, sym, refl, ap, ◌∙◌, subst, arith}
use Rattle.std.proofs.lemmas.Bool.{and_parts, and_from, leb-true, le-leb, both_ways}
use Rattle.station.specs.declared.service.Service.{Service}
use Rattle.text.specs.Said.{said}
use Rattle.sets.specs.declared.sound.Sound.TheVariants.{Own}
use Rattle.sets.specs.Meaning.{Meaning, plain}
use Rattle.decision.specs.declared.alert.Alert.{Alert}
use Rattle.sets.specs.Sounds.{sound_from}
use Rattle.decision.specs.Pictures.{applies_to, between, shown_by, service_for, alerted, pictured}
use Rattle.decision.specs.Sentences.{Takes, Sentences}

never : {A : Type 0} (a : Alert) → ◌≡◌ {A = Option Alert} None (Some a) → A
never a e = let z : ◌≡◌ {A = ℕ} 0 1 = cc in absurd (omega arith)

nothing : {A : Type 0} (k : ℕ) → ◌≡◌ {A = Option ℕ} None (Some k) → A
nothing k e = let z : ◌≡◌ {A = ℕ} 0 1 = cc in absurd (omega arith)

same : (a b : Alert) → Some a ≡ Some b → a ≡ b
same a b e = cc

-- without an alert, or with one that does not apply
quiet : (o : Option Alert) (ss : List Service) (home : ℕ) → ((a : Alert) → o ≡ Some a → applies_to a ss home ≡ true → ⊥) → Sentences o ss home (plain ss home)
quiet o ss home none =
    record {
      services = refl;
      details_shown = λ a k e t. absurd (none a e t.applies_here);
      viewers_shown = λ _. refl;
      sound_borrowed = λ a k e b q. absurd (none a e b);
      own_sound = λ _. refl;
      text_captioned = λ a e b. absurd (none a e b);
      no_caption = λ _. refl;
    }

-- the service under an alert that applies
takes_shown : (a : Alert) (ss : List Service) (home k : ℕ) → Takes a ss home k → service_for a home a.sound ≡ k
takes_shown a ss home k t =
    ap (service_for a home) t.silent ∙ ap (λ d. shown_by a.priority.0 d home) t.detail
    ∙ ap (λ b. cond b k home) (and_from _ _ (le-leb 12 a.priority.0 t.high) (le-leb a.priority.0 15 t.highest))

else_shown : (a : Alert) (ss : List Service) (home : ℕ) → applies_to a ss home ≡ true → ((k : ℕ) → Takes a ss home k → ⊥) → service_for a home a.sound ≡ home
else_shown a ss home b none = by_sound a.sound refl
  where
    by_level : (k : ℕ) (c : Bool) → a.sound ≡ None → a.details ≡ Some k → between 12 15 a.priority.0 ≡ c → cond c k home ≡ home
    by_level k false q d e = refl
    by_level k true q d e =
        let p = and_parts (leb 12 a.priority.0) (leb a.priority.0 15) e in
        absurd (none k (record { applies_here = b; high = leb-true 12 a.priority.0 p.0; highest = leb-true a.priority.0 15 p.1; silent = q; detail = d }))

    by_details : (d : Option ℕ) → a.sound ≡ None → a.details ≡ d → shown_by a.priority.0 d home ≡ home
    by_details None q e = refl
    by_details (Some k) q e = by_level k (between 12 15 a.priority.0) q e refl

    by_sound : (o : Option ℕ) → a.sound ≡ o → service_for a home o ≡ home
    by_sound (Some k) e = refl
    by_sound None e = by_details a.details e refl

own_from : (o : Option ℕ) → ((k : ℕ) → o ≡ Some k → ⊥) → sound_from o ≡ Own
own_from None h = refl
own_from (Some k) h = absurd (h k refl)

-- with an alert that applies
loud : (a : Alert) (ss : List Service) (home : ℕ) → applies_to a ss home ≡ true → Sentences (Some a) ss home (alerted a ss home)
loud a ss home b =
    record {
      services = refl;
      details_shown = λ c k e t. takes_shown a ss home k (subst (λ (x : Alert). Takes x ss home k) (sym (same a c e)) t);
      viewers_shown = λ none. else_shown a ss home b (λ k t. none a k refl t);
      sound_borrowed = λ c k e b' q. ap sound_from (ap (λ (x : Alert). x.sound) (same a c e) ∙ q);
      own_sound = λ none. own_from a.sound (λ k q. none a k refl b q);
      text_captioned = λ c e b'. ap (λ (x : Alert). said x.text) (same a c e);
      no_caption = λ none. absurd (none a refl b);
    }

pub says : (o : Option Alert) (ss : List Service) (home : ℕ) → Sentences o ss home (pictured o ss home)
unfolding pictured
says None ss home = quiet None ss home (λ a e b. never a e)
says (Some a) ss home = by (applies_to a ss home) refl
  where
    by : (b : Bool) → applies_to a ss home ≡ b → Sentences (Some a) ss home (cond b (alerted a ss home) (plain ss home))
    by true e = loud a ss home e
    by false e = quiet (Some a) ss home (λ c p q. both_ways (applies_to c ss home) (ap (λ (x : Alert). applies_to x ss home) (sym (same a c p)) ∙ e) q)

-- two meanings of which the sentences are said are one
pub joined : (m n : Meaning) → m.services ≡ n.services → m.shown ≡ n.shown → m.sound ≡ n.sound → m.caption ≡ n.caption → m ≡ n
joined m n a b c d = λ i. record { services = a i; shown = b i; sound = c i; caption = d i }

module _ (a : Alert) (ss : List Service) (home : ℕ) (m : Meaning) (w : Sentences (Some a) ss home m) where
  off : applies_to a ss home ≡ false → (c : Alert) → Some a ≡ Some c → applies_to c ss home ≡ true → ⊥
  off e c p q = both_ways (applies_to c ss home) (ap (λ (x : Alert). applies_to x ss home) (sym (same a c p)) ∙ e) q

  by_level : applies_to a ss home ≡ true → a.sound ≡ None → (k : ℕ) (c : Bool) → a.details ≡ Some k → between 12 15 a.priority.0 ≡ c → m.shown ≡ cond c k home
  by_level b e k true d l =
      let p = and_parts (leb 12 a.priority.0) (leb a.priority.0 15) l in
      w.details_shown a k refl (record { applies_here = b; high = leb-true 12 a.priority.0 p.0; highest = leb-true a.priority.0 15 p.1; silent = e; detail = d })
  by_level b e k false d l =
      w.viewers_shown (λ c j p t. both_ways (between 12 15 a.priority.0) l
      (ap (λ (x : Alert). between 12 15 x.priority.0) (same a c p) ∙ and_from _ _ (le-leb 12 c.priority.0 t.high) (le-leb c.priority.0 15 t.highest)))

  by_details : applies_to a ss home ≡ true → a.sound ≡ None → (d : Option ℕ) → a.details ≡ d → m.shown ≡ shown_by a.priority.0 d home
  by_details b e None d = w.viewers_shown (λ c j p t. nothing j (sym d ∙ ap (λ (x : Alert). x.details) (same a c p) ∙ t.detail))
  by_details b e (Some k) d = by_level b e k (between 12 15 a.priority.0) d refl

  by_shown : applies_to a ss home ≡ true → (o : Option ℕ) → a.sound ≡ o → m.shown ≡ service_for a home o
  by_shown b (Some k) e = w.viewers_shown (λ c j p t. nothing k (sym t.silent ∙ ap (λ (x : Alert). x.sound) (sym (same a c p)) ∙ e))
  by_shown b None e = by_details b e a.details refl

  by_sound : applies_to a ss home ≡ true → (o : Option ℕ) → a.sound ≡ o → m.sound ≡ sound_from o
  by_sound b None e = w.own_sound (λ c k p b' q. nothing k (sym e ∙ ap (λ (x : Alert). x.sound) (same a c p) ∙ q))
  by_sound b (Some k) e = w.sound_borrowed a k refl b e

  by : (b : Bool) → applies_to a ss home ≡ b → m ≡ cond b (alerted a ss home) (plain ss home)
  by false e =
      joined m (plain ss home) w.services (w.viewers_shown (λ c k p t. off e c p t.applies_here)) (w.own_sound (λ c k p b q. off e c p b)) (w.no_caption (off e))
  by true e =
      joined m (alerted a ss home) w.services (by_shown e a.sound refl) (by_sound e a.sound refl) (w.text_captioned a refl e)

pub only : (o : Option Alert) (ss : List Service) (home : ℕ) (m : Meaning) → Sentences o ss home m → m ≡ pictured o ss home
unfolding pictured
only None ss home m w =
    joined m (plain ss home) w.services (w.viewers_shown (λ a k e t. never a e)) (w.own_sound (λ a k e b q. never a e)) (w.no_caption (λ a e b. never a e))
only (Some a) ss home m w = by a ss home m w (applies_to a ss home) refl
