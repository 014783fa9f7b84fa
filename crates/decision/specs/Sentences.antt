-- The picture in three sentences: on the service, on the sound, and on the caption. Assumes nothing.
use Rattle.std.specs.Prelude.{◌≡◌, ℕ, ◌≤◌, true, List, [], Some, None, Option, ◌≢◌}
use Rattle.station.specs.declared.service.Service.{Service}
use Rattle.text.specs.Said.{said}
use Rattle.sets.specs.declared.sound.Sound.TheVariants.{Own, Borrowed}
use Rattle.sets.specs.Meaning.{Meaning}
use Rattle.decision.specs.declared.alert.Alert.{Alert}
use Rattle.decision.specs.Pictures.{applies_to, pictured}

-- the alert applies, has priority 12 to 15, no sound that can be borrowed, and k for its details service
pub record Takes (a : Alert) (ss : List Service) (home k : ℕ) : Type 0 where
  pub applies_here : applies_to a ss home ≡ true
  pub high : 12 ≤ a.priority.0
  pub highest : a.priority.0 ≤ 15
  pub silent : a.sound ≡ None
  pub detail : a.details ≡ Some k

pub record Sentences (o : Option Alert) (ss : List Service) (home : ℕ) (m : Meaning) : Type 0 where
  pub services : m.services ≡ ss
  -- an alert that takes the picture has its details service shown; otherwise it is the viewer's
  pub details_shown : (a : Alert) (k : ℕ) → o ≡ Some a → Takes a ss home k → m.shown ≡ k
  pub viewers_shown : ((a : Alert) (k : ℕ) → o ≡ Some a → Takes a ss home k → ⊥) → m.shown ≡ home
  -- an alert that applies and has a sound is heard by it; otherwise the picture has its own
  pub sound_borrowed : (a : Alert) (k : ℕ) → o ≡ Some a → applies_to a ss home ≡ true → a.sound ≡ Some k → m.sound ≡ Borrowed k
  pub own_sound : ((a : Alert) (k : ℕ) → o ≡ Some a → applies_to a ss home ≡ true → a.sound ≢ Some k) → m.sound ≡ Own
  -- an alert that applies is captioned by its text; otherwise there is no caption
  pub text_captioned : (a : Alert) → o ≡ Some a → applies_to a ss home ≡ true → m.caption ≡ said a.text
  pub no_caption : ((a : Alert) → o ≡ Some a → applies_to a ss home ≢ true) → m.caption ≡ []

-- the three sentences and the definition say the same
abbrev pub TheSentencesSayThePicture : Type 0
TheSentencesSayThePicture =
    (o : Option Alert) (ss : List Service) (home : ℕ) (m : Meaning) → (m ≡ pictured o ss home → Sentences o ss home m) × (Sentences o ss home m → m ≡ pictured o ss home)
