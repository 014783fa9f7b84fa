-- The sentences on a set under the alert of a section. Assumes nothing.
use Rattle.std.proofs.Common.{◌≡◌, ℕ, ◌<◌, Bool, true, false, ◌⊎◌, List, get_or, Some, None, Option, sym, refl, ap, ◌∙◌, subst, inl, inr, ⊎_elim, arith}
use Rattle.std.proofs.lemmas.Bool.{cases_lt}
use Rattle.section.specs.Texts.{alert_text}
use Rattle.section.specs.Values.{fields_of}
use Rattle.sets.specs.Meaning.{Meaning, service_at}
use Rattle.decision.specs.Alerts.{Keeps}
use Rattle.decision.specs.Lookups.{Sounds}
use Rattle.decision.specs.Pictures.{applies, applies_to}
use Rattle.decision.specs.Sentences.{Takes as KeptTakes, Sentences}
use Rattle.decision.specs.declared.alert.Alert.{Alert}
use Rattle.decision.proofs.Said.{joined}
use Rattle.decision.proofs.Sounding.{one_sound, some_sound}
use Rattle.history.specs.Histories.{Start}
use Rattle.history.specs.Sections.{priority}
use Rattle.history.specs.Screens.{details, CanBeBorrowed, Applies, Takes, Screen}
use Rattle.history.proofs.Applying.{applies_so, applies_test, applying}

never : {A : Type 0} (bytes : List ℕ) → ◌≡◌ {A = Option (List ℕ)} None (Some bytes) → A
never bytes e = let z : ◌≡◌ {A = ℕ} 0 1 = cc in absurd (omega arith)

nothing : {A : Type 0} (k : ℕ) → ◌≡◌ {A = Option ℕ} None (Some k) → A
nothing k e = let z : ◌≡◌ {A = ℕ} 0 1 = cc in absurd (omega arith)

same : (bytes more : List ℕ) → Some bytes ≡ Some more → more ≡ bytes
same bytes more e = cc

same_alert : (a b : Alert) → Some a ≡ Some b → b ≡ a
same_alert a b e = cc

-- the sentences on the alert kept are those on its section
module _ (s : Start) (bytes : List ℕ) (clock : ℕ) (a : Alert) (home : ℕ) (m : Meaning) (k : Keeps bytes s.found.services s.path clock a) (inside : home < 256) where
  tested : (b : Bool) → applies (get_or a.excepted.marks home false) (priority bytes) (service_at s.found.services home) ≡ b → applies_to a s.found.services home ≡ b
  tested b e = ap (λ p. applies (get_or a.excepted.marks home false) p.0 (service_at s.found.services home)) k.priority ∙ e

  kept_applies : Applies s bytes home → applies_to a s.found.services home ≡ true
  kept_applies x = tested true (applies_test s bytes home _ (k.marks home inside) x)

  section_applies : applies_to a s.found.services home ≡ true → Applies s bytes home
  section_applies e =
      applies_so s bytes home _ (k.marks home inside)
      (ap (λ p. applies (get_or a.excepted.marks home false) p.0 (service_at s.found.services home)) (sym k.priority) ∙ e)

  -- the sound kept is the one that can be borrowed
  heard : (j : ℕ) → CanBeBorrowed s bytes j → a.sound ≡ Some j
  heard j h = one_sound s.path (fields_of bytes) s.found.services a.sound (Some j) k.sound h

  unheard : ((j : ℕ) → CanBeBorrowed s bytes j → ⊥) → a.sound ≡ None
  unheard none = one_sound s.path (fields_of bytes) s.found.services a.sound None k.sound none

  kept_takes : (j : ℕ) → Takes s bytes home j → KeptTakes a s.found.services home j
  kept_takes j t =
      let p = ap (λ q. q.0) k.priority in
      let low = t.high in
      let high = t.highest in
      record {
        applies_here = kept_applies t.applies_here;
        high = omega arith;
        highest = omega arith;
        silent = unheard t.silent;
        detail = k.details ∙ t.detail;
      }

  section_takes : (j : ℕ) → KeptTakes a s.found.services home j → Takes s bytes home j
  section_takes j t =
      let p = ap (λ q. q.0) k.priority in
      let low = t.high in
      let high = t.highest in
      record {
        applies_here = section_applies t.applies_here;
        high = omega arith;
        highest = omega arith;
        silent = subst (Sounds s.path (fields_of bytes) s.found.services) t.silent k.sound;
        detail = sym k.details ∙ t.detail;
      }

  pub screen_of_kept : Sentences (Some a) s.found.services home m → Screen s (Some bytes) home m
  screen_of_kept w =
      record {
        services = w.services;
        details_shown = λ more j e t. w.details_shown a j refl (kept_takes j (subst (λ (x : List ℕ). Takes s x home j) (same bytes more e) t));
        viewers_shown = λ none. w.viewers_shown (λ c j e t. none bytes j refl (section_takes j (subst (λ (x : Alert). KeptTakes x s.found.services home j) (same_alert a c e) t)));
        sound_borrowed = λ more j e x q.
            w.sound_borrowed a j refl (kept_applies (subst (λ (y : List ℕ). Applies s y home) (same bytes more e) x)) (heard j (subst (λ (y : List ℕ). CanBeBorrowed s y j) (same bytes more e) q));
        own_sound = λ none.
            w.own_sound (λ c j e x q. none bytes j refl (section_applies (subst (λ (y : Alert). applies_to y s.found.services home ≡ true) (same_alert a c e) x)) (subst (Sounds s.path (fields_of bytes) s.found.services) (ap (λ (y : Alert). y.sound) (sym (same_alert a c e)) ∙ q) k.sound));
        text_captioned = λ more e x.
            subst (λ (y : List ℕ). m.caption ≡ alert_text y) (sym (same bytes more e)) (w.text_captioned a refl (kept_applies (subst (λ (y : List ℕ). Applies s y home) (same bytes more e) x)) ∙ k.words);
        no_caption = λ none. w.no_caption (λ c e x. none bytes refl (section_applies (subst (λ (y : Alert). applies_to y s.found.services home ≡ true) (same_alert a c e) x)));
      }

pub screen_of_none : (s : Start) (home : ℕ) (m : Meaning) → Sentences None s.found.services home m → Screen s None home m
screen_of_none s home m w =
    record {
      services = w.services;
      details_shown = λ bytes k e t. never bytes e;
      viewers_shown = λ _. w.viewers_shown (λ a k e t. unkept a e);
      sound_borrowed = λ bytes k e x q. never bytes e;
      own_sound = λ _. w.own_sound (λ a k e x q. unkept a e);
      text_captioned = λ bytes e x. never bytes e;
      no_caption = λ _. w.no_caption (λ a e x. unkept a e);
    }
  where
    unkept : (a : Alert) → ◌≡◌ {A = Option Alert} None (Some a) → ⊥
    unkept a e = let z : ◌≡◌ {A = ℕ} 0 1 = cc in omega arith

-- an alert that applies takes the picture or it does not
module _ (s : Start) (bytes : List ℕ) (home : ℕ) (x : Applies s bytes home) where
  by_level : (k : ℕ) → ((j : ℕ) → CanBeBorrowed s bytes j → ⊥) → details s bytes ≡ Some k → ((j : ℕ) × Takes s bytes home j) ⊎ ((j : ℕ) → Takes s bytes home j → ⊥)
  by_level k q d =
      ⊎_elim (λ l. inr (λ j t. let h = t.high in omega arith))
      (λ l. ⊎_elim (λ u. inr (λ j t. let h = t.highest in omega arith))
      (λ u. inl (k, record { applies_here = x; high = l; highest = u; silent = q; detail = d }))
      (cases_lt 15 (priority bytes)))
      (cases_lt (priority bytes) 12)

  by_details : (d : Option ℕ) → ((j : ℕ) → CanBeBorrowed s bytes j → ⊥) → details s bytes ≡ d → ((j : ℕ) × Takes s bytes home j) ⊎ ((j : ℕ) → Takes s bytes home j → ⊥)
  by_details None q e = inr (λ j t. nothing j (sym e ∙ t.detail))
  by_details (Some k) q e = by_level k q e

  by_sound : (o : Option ℕ) → Sounds s.path (fields_of bytes) s.found.services o → ((j : ℕ) × Takes s bytes home j) ⊎ ((j : ℕ) → Takes s bytes home j → ⊥)
  by_sound None e = by_details (details s bytes) e refl
  by_sound (Some k) e = inr (λ j t. t.silent k e)

  taking : ((j : ℕ) × Takes s bytes home j) ⊎ ((j : ℕ) → Takes s bytes home j → ⊥)
  taking = let found = some_sound s.found.services s.path (fields_of bytes) in by_sound found.0 found.1

-- the sentences leave one meaning
module _ (s : Start) (home : ℕ) (m n : Meaning) where
  screen_none : Screen s None home m → Screen s None home n → m ≡ n
  screen_none v w =
      joined m n (v.services ∙ sym w.services)
      (v.viewers_shown (λ bytes k e t. never bytes e) ∙ sym (w.viewers_shown (λ bytes k e t. never bytes e)))
      (v.own_sound (λ bytes k e x q. never bytes e) ∙ sym (w.own_sound (λ bytes k e x q. never bytes e)))
      (v.no_caption (λ bytes e x. never bytes e) ∙ sym (w.no_caption (λ bytes e x. never bytes e)))

  module _ (bytes : List ℕ) (v : Screen s (Some bytes) home m) (w : Screen s (Some bytes) home n) where
    screen_off : (Applies s bytes home → ⊥) → m ≡ n
    screen_off not =
        let off : (more : List ℕ) → Some bytes ≡ Some more → Applies s more home → ⊥ = λ more e x. not (subst (λ (y : List ℕ). Applies s y home) (same bytes more e) x) in
        joined m n (v.services ∙ sym w.services)
        (v.viewers_shown (λ more k e t. off more e t.applies_here) ∙ sym (w.viewers_shown (λ more k e t. off more e t.applies_here)))
        (v.own_sound (λ more k e x q. off more e x) ∙ sym (w.own_sound (λ more k e x q. off more e x)))
        (v.no_caption off ∙ sym (w.no_caption off))

    shown_on : Applies s bytes home → m.shown ≡ n.shown
    shown_on x =
        ⊎_elim (λ t. v.details_shown bytes t.0 refl t.1 ∙ sym (w.details_shown bytes t.0 refl t.1))
        (λ none.
        let off : (more : List ℕ) (k : ℕ) → Some bytes ≡ Some more → Takes s more home k → ⊥ = λ more k e t. none k (subst (λ (y : List ℕ). Takes s y home k) (same bytes more e) t) in
        v.viewers_shown off ∙ sym (w.viewers_shown off))
        (taking s bytes home x)

    sound_on : Applies s bytes home → (o : Option ℕ) → Sounds s.path (fields_of bytes) s.found.services o → m.sound ≡ n.sound
    sound_on x (Some k) e = v.sound_borrowed bytes k refl x e ∙ sym (w.sound_borrowed bytes k refl x e)
    sound_on x None e =
        let off : (more : List ℕ) (k : ℕ) → Some bytes ≡ Some more → Applies s more home → CanBeBorrowed s more k → ⊥ = λ more k p y q. e k (subst (λ (z : List ℕ). CanBeBorrowed s z k) (same bytes more p) q) in
        v.own_sound off ∙ sym (w.own_sound off)

    screen_some : m ≡ n
    screen_some =
        let found = some_sound s.found.services s.path (fields_of bytes) in
        ⊎_elim
        (λ x. joined m n (v.services ∙ sym w.services) (shown_on x) (sound_on x found.0 found.1) (v.text_captioned bytes refl x ∙ sym (w.text_captioned bytes refl x)))
        screen_off
        (applying s bytes home)

pub screen_one : (s : Start) (alert : Option (List ℕ)) (home : ℕ) (m n : Meaning) → Screen s alert home m → Screen s alert home n → m ≡ n
screen_one s None home m n v w = screen_none s home m n v w
screen_one s (Some bytes) home m n v w = screen_some s home m n bytes v w
