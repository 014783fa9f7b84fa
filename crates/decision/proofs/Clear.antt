-- Nothing stands against the picture of an alert that fits. Assumes nothing.
use Rattle.std.proofs.Common.{◌≡◌, ℕ, zero, suc, ◌<◌, ◌≤◌, Bool, true, false, cond, ◌&&◌, ltb, leb, ⊎_elim, List, [], ◌∷◌, length, position, Some, None, Ok, Err, Option, Result, sym, refl, ap, ◌∙◌, arith, length-take}
use Rattle.std.proofs.lemmas.Bool.{lt-ltb, le-leb, and_from}
use Rattle.std.proofs.lemmas.List.Quantifiers.{position-Some}
use Rattle.station.specs.declared.service.Service.{Service}
use Rattle.text.specs.Said.{said}
use Rattle.text.specs.declared.line.Text.{Text}
use Rattle.station.specs.Rules.{unless}
use Rattle.station.specs.Services.{unmarked}
use Rattle.sets.specs.Refusals.{refusal_number}
use Rattle.sets.specs.Meaning.{Meaning, plain, apart_at, lists_sound}
use Rattle.decision.specs.declared.alert.Alert.{Alert}
use Rattle.decision.specs.declared.picture.Picture.{Picture}
use Rattle.station.specs.declared.service.Path.{Path}
use Rattle.section.specs.declared.fields.Fields.{Fields}
use Rattle.section.specs.Values.{fields_of}
use Rattle.decision.specs.Alerts.{Keeps}
use Rattle.decision.specs.Lookups.{bears, details_name, details_of, Sounds}
use Rattle.sets.specs.Sounds.{sound_from}
use Rattle.decision.specs.Pictures.{applies_to, between, shown_by, service_for, alerted, pictured}
use Rattle.sets.specs.declared.refusal.SetRefusal.{SetRefusal}
use Rattle.decision.specs.Drives.{Pictures, sounds_apart, obstacle, Drives}
use Rattle.decision.proofs.Said.{says}
use Rattle.decision.specs.Fits.{Listed, Apart, Fits, AllFits, Presents}

nobody : Service
nobody = unmarked (record { 0 = 0 }) (record { major = 0; minor = 0 })

apart_listed : (ss : List Service) (k : ℕ) → apart_at ss k ≡ true → k < length ss
apart_listed [] k e = let z : ◌≡◌ {A = ℕ} 0 1 = cc in absurd (omega arith)
apart_listed (s ∷ ss) zero e = omega arith
apart_listed (s ∷ ss) (suc k) e = let l = apart_listed ss k e in omega arith

-- what a set can show: a service on the list, a sound that can be heard, a caption that is not too long
pub record Possible (ss : List Service) (m : Meaning) : Type 0 where
  pub inside : m.shown < length ss
  pub listed : lists_sound ss m.sound ≡ true
  pub heard : sounds_apart ss m.sound ≡ true
  pub short : length m.caption ≤ 1024

pub clear : (ss : List Service) (p : Picture) (m : Meaning) → Pictures p m → Possible ss m → obstacle ss p ≡ None
clear ss p m w h =
    (λ i. unless (ltb (w.service i) (length ss) && lists_sound ss (w.sound i)) 61 (unless (sounds_apart ss (w.sound i)) 62 (unless (leb (length (w.caption i)) 1024) 63 None)))
    ∙ ap (λ b. unless b 61 (unless (sounds_apart ss m.sound) 62 (unless (leb (length m.caption) 1024) 63 None))) (and_from _ _ (lt-ltb m.shown (length ss) h.inside) h.listed)
    ∙ ap (λ b. unless b 62 (unless (leb (length m.caption) 1024) 63 None)) h.heard
    ∙ ap (λ b. unless b 63 None) (le-leb (length m.caption) 1024 h.short)

said_short : (t : Text) → length (said t) ≤ 1024
said_short t = omega (arith, length-take t.bytes.len t.bytes.bytes, t.bytes.within)

listed_from : (ss : List Service) (o : Option ℕ) → Apart ss o → lists_sound ss (sound_from o) ≡ true
listed_from ss None h = refl
listed_from ss (Some k) h = lt-ltb k (length ss) (apart_listed ss k h)

heard_from : (ss : List Service) (o : Option ℕ) → Apart ss o → sounds_apart ss (sound_from o) ≡ true
heard_from ss None h = refl
heard_from ss (Some k) h = h

inside_for : (ss : List Service) (a : Alert) (home : ℕ) → home < length ss → Listed ss a.details → (o : Option ℕ) → service_for a home o < length ss
inside_for ss a home h d (Some k) = h
inside_for ss a home h d None = by a.details d
  where
    pick : (b : Bool) (k : ℕ) → k < length ss → cond b k home < length ss
    pick true k l = l
    pick false k l = h

    by : (o : Option ℕ) → Listed ss o → shown_by a.priority.0 o home < length ss
    by None l = h
    by (Some k) l = pick (between 12 15 a.priority.0) k l

pub possible : (ss : List Service) (o : Option Alert) (home : ℕ) → home < length ss → AllFits ss o → Possible ss (pictured o ss home)
unfolding pictured
possible ss None home h f = record { inside = h; listed = refl; heard = refl; short = omega arith }
possible ss (Some a) home h f = by (applies_to a ss home)
  where
    by : (b : Bool) → Possible ss (cond b (alerted a ss home) (plain ss home))
    by false = record { inside = h; listed = refl; heard = refl; short = omega arith }
    by true = record { inside = inside_for ss a home h f.details a.sound; listed = listed_from ss a.sound f.sound; heard = heard_from ss a.sound f.sound; short = said_short a.text }

-- what the lookups find fits
listed_first : (p : Service → Bool) (ss : List Service) (o : Option ℕ) → o ≡ position p ss → Listed ss o
listed_first p ss None e = tt
listed_first p ss (Some k) e = (position-Some p ss k nobody (sym e)).0

sound_apart : (path : Path) (f : Fields) (ss : List Service) (o : Option ℕ) → Sounds path f ss o → Apart ss o
sound_apart path f ss None h = tt
sound_apart path f ss (Some k) h = ⊎_elim (λ a. a.1.1) (λ d. d.1.1) h

pub presents : {U : Type 0} (m after : Meaning) (o : Option Alert) (home : ℕ) (p : Picture) (r : Result U SetRefusal) → Pictures p (pictured o m.services home) → Drives m p r after → Presents m o home r after
presents m after o home p (Ok u) w d =
    d.0.1 ∙ (λ i. record { services = sym (says o m.services home).services i; shown = w.service i; sound = w.sound i; caption = w.caption i })
presents m after o home p (Err e) w d = (
  d.1,
  λ h f. let none : obstacle m.services p ≡ None = clear m.services p (pictured o m.services home) w (possible m.services o home h f) in
      let both : ◌≡◌ {A = Option ℕ} None (Some (refusal_number e)) = sym none ∙ d.0 in
      let z : ◌≡◌ {A = ℕ} 0 1 = cc in omega arith,
)

-- what is kept of a section fits
pub keeps_fits : (s : List ℕ) (ss : List Service) (path : Path) (clock : ℕ) (a : Alert) → Keeps s ss path clock a → Fits ss a
unfolding details_of
keeps_fits s ss path clock a k =
    record { details = listed_first (bears (details_name path (fields_of s))) ss a.details k.details; sound = sound_apart path (fields_of s) ss a.sound k.sound }
