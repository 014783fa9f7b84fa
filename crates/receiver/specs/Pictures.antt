-- Two pictures compared. Assumes nothing.
use Rattle.std.specs.Prelude.{◌≡◌}
use Rattle.decision.specs.declared.picture.Picture.{Picture}

-- they have one service and one sound
abbrev pub SameLook : Picture → Picture → Type 0
SameLook a b = (a.service ≡ b.service) × (a.sound ≡ b.sound)

-- they have one caption
abbrev pub SameWords : Picture → Picture → Type 0
SameWords a b = a.caption.now ≡ b.caption.now
