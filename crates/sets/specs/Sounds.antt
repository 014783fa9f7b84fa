-- The sound of a service that is borrowed, or else the picture's own. Assumes nothing.
use Rattle.std.specs.Prelude.{ℕ, Some, None, Option}
use Rattle.sets.specs.declared.sound.Sound.{Sound}
use Rattle.sets.specs.declared.sound.Sound.TheVariants.{Own, Borrowed}

abbrev pub sound_from : Option ℕ → Sound
sound_from None = Own
sound_from (Some k) = Borrowed k
