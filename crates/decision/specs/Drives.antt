-- A picture, and what a set does that is brought to it. Assumes nothing.
use Rattle.std.specs.Prelude.{◌≡◌, ℕ, Bool, true, ◌&&◌, List, length, None, Option, Result, nat_le, nat_lt}
use Rattle.station.specs.Rules.{unless}
use Rattle.station.specs.declared.service.Service.{Service}
use Rattle.sets.specs.declared.sound.Sound.{Sound}
use Rattle.sets.specs.declared.sound.Sound.TheVariants.{Borrowed}
use Rattle.sets.specs.declared.refusal.SetRefusal.{SetRefusal}
use Rattle.sets.specs.Meaning.{Meaning, apart_at, lists_sound, Makes}
use Rattle.decision.specs.declared.picture.Picture.{Picture}

-- the picture has the service, sound and caption of a meaning
pub record Pictures (p : Picture) (m : Meaning) : Type 0 where
  pub service : p.service ≡ m.shown
  pub sound : p.sound ≡ m.sound
  pub caption : p.caption.now ≡ m.caption

-- what a set means once it shows the picture
abbrev pub showing : Meaning → Picture → Meaning
showing m p = record m { shown = p.service; sound = p.sound; caption = p.caption.now }

-- where the sound of a service is borrowed, that service is apart
abbrev pub sounds_apart : List Service → Sound → Bool
sounds_apart ss (Borrowed k) = apart_at ss k
sounds_apart ss sound = true

-- why a set with these services cannot show the picture: the number of the first rule that it breaks
abbrev pub obstacle : List Service → Picture → Option ℕ
obstacle ss p =
    unless (nat_lt p.service (length ss) && lists_sound ss p.sound) 61
    (unless (sounds_apart ss p.sound) 62
    (unless (nat_le (length p.caption.now) 1024) 63 None))

-- brought to the picture from any meaning, or refused and left as it was
abbrev pub Drives : {U : Type 0} → Meaning → Picture → Result U SetRefusal → Meaning → Type 0
Drives before p result after = Makes (obstacle before.services p) before (showing before p) result after
