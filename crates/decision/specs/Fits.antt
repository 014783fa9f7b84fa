-- When the picture of an alert can be shown, and what presenting it does. Assumes nothing.
use Rattle.std.specs.Prelude.{◌≡◌, ℕ, ◌<◌, ⊤, true, List, length, Some, None, Ok, Err, Option, Result}
use Rattle.station.specs.declared.service.Service.{Service}
use Rattle.sets.specs.declared.refusal.SetRefusal.{SetRefusal}
use Rattle.sets.specs.Meaning.{Meaning, apart_at}
use Rattle.decision.specs.declared.alert.Alert.{Alert}
use Rattle.decision.specs.declared.picture.Picture.{Picture}
use Rattle.decision.specs.Drives.{Pictures, Drives}
use Rattle.decision.specs.Pictures.{pictured}

abbrev pub Listed : List Service → Option ℕ → Type 0
Listed ss None = ⊤
Listed ss (Some k) = k < length ss

abbrev pub Apart : List Service → Option ℕ → Type 0
Apart ss None = ⊤
Apart ss (Some k) = apart_at ss k ≡ true

-- the alert's details service is on the list, and its sound is one that can be borrowed
pub record Fits (ss : List Service) (a : Alert) : Type 0 where
  pub details : Listed ss a.details
  pub sound : Apart ss a.sound

abbrev pub AllFits : List Service → Option Alert → Type 0
AllFits ss None = ⊤
AllFits ss (Some a) = Fits ss a

-- the set means the picture; refused, it is as it was, and that does not happen to an alert that fits a set which lists the viewer's service
abbrev pub Presents : {U : Type 0} → Meaning → Option Alert → ℕ → Result U SetRefusal → Meaning → Type 0
Presents before o home (Ok u) after = after ≡ pictured o before.services home
Presents before o home (Err e) after = (after ≡ before) × (home < length before.services → AllFits before.services o → ⊥)

-- the set was brought to a picture with the meaning that the alert asks for, or refused by what stands against that picture
abbrev pub BroughtTo : {U : Type 0} → Meaning → Option Alert → ℕ → Result U SetRefusal → Meaning → Type 0
BroughtTo before o home r after = (p : Picture) × Pictures p (pictured o before.services home) × Drives before p r after
