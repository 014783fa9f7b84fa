-- What a set shows under the alert of a section, in sentences on the service, the sound and the caption. Assumes nothing.
use Rattle.std.specs.Prelude.{◌≡◌, ℕ, ◌≤◌, true, false, List, [], Some, Option}
use Rattle.section.specs.Texts.{alert_text}
use Rattle.section.specs.Values.{fields_of}
use Rattle.sets.specs.declared.sound.Sound.TheVariants.{Own, Borrowed}
use Rattle.sets.specs.Meaning.{Meaning, service_at}
use Rattle.decision.specs.Alerts.{Marked}
use Rattle.decision.specs.Lookups.{details_of, IsSound}
use Rattle.decision.specs.Pictures.{is_paid, is_controlled}
use Rattle.history.specs.Histories.{Start}
use Rattle.history.specs.Sections.{priority}

-- the details service, if there is one
abbrev pub details : Start → List ℕ → Option ℕ
details s bytes = details_of s.path (fields_of bytes) s.found.services

-- the sound of the service k can be borrowed
abbrev pub CanBeBorrowed : Start → List ℕ → ℕ → Type 0
CanBeBorrowed s bytes k = IsSound s.path (fields_of bytes) s.found.services (details s bytes) k

-- the alert applies to a viewer of the service home: no exception entry names it, and it is neither paid at priorities 4 to 7 nor controlled at 1 to 3
pub record Applies (s : Start) (bytes : List ℕ) (home : ℕ) : Type 0 where
  pub not_excepted : Marked bytes s.path (service_at s.found.services home) false
  pub not_paid : is_paid (service_at s.found.services home) ≡ true → 4 ≤ priority bytes → priority bytes ≤ 7 → ⊥
  pub not_controlled : is_controlled (service_at s.found.services home) ≡ true → 1 ≤ priority bytes → priority bytes ≤ 3 → ⊥

-- it applies, has priority 12 to 15, no sound that can be borrowed, and k for its details service
pub record Takes (s : Start) (bytes : List ℕ) (home k : ℕ) : Type 0 where
  pub applies_here : Applies s bytes home
  pub high : 12 ≤ priority bytes
  pub highest : priority bytes ≤ 15
  pub silent : (j : ℕ) → CanBeBorrowed s bytes j → ⊥
  pub detail : details s bytes ≡ Some k

-- what the set means under the alert in force, if any, for a viewer of the service home
pub record Screen (s : Start) (alert : Option (List ℕ)) (home : ℕ) (m : Meaning) : Type 0 where
  pub services : m.services ≡ s.found.services
  -- an alert that takes the picture has its details service shown; otherwise it is the viewer's
  pub details_shown : (bytes : List ℕ) (k : ℕ) → alert ≡ Some bytes → Takes s bytes home k → m.shown ≡ k
  pub viewers_shown : ((bytes : List ℕ) (k : ℕ) → alert ≡ Some bytes → Takes s bytes home k → ⊥) → m.shown ≡ home
  -- an alert that applies and has a sound is heard by it; otherwise the picture has its own
  pub sound_borrowed : (bytes : List ℕ) (k : ℕ) → alert ≡ Some bytes → Applies s bytes home → CanBeBorrowed s bytes k → m.sound ≡ Borrowed k
  pub own_sound : ((bytes : List ℕ) (k : ℕ) → alert ≡ Some bytes → Applies s bytes home → CanBeBorrowed s bytes k → ⊥) → m.sound ≡ Own
  -- an alert that applies is captioned by its text; otherwise there is no caption
  pub text_captioned : (bytes : List ℕ) → alert ≡ Some bytes → Applies s bytes home → m.caption ≡ alert_text bytes
  pub no_caption : ((bytes : List ℕ) → alert ≡ Some bytes → Applies s bytes home → ⊥) → m.caption ≡ []
