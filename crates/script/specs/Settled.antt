-- What the set-up lines settle, each at most once. Assumes nothing.
use Rattle.std.specs.Prelude.{Some, None, Option}
use Rattle.script.specs.declared.asked.Setting.{Setting}
use Rattle.script.specs.declared.asked.Setting.TheVariants.{Set, Service, Start, Place, Path, Clock}
use Rattle.script.specs.declared.settings.Settings.{Settings}

abbrev pub unsettled : Settings
unsettled = record { kind = None; start = None; spot = None; path = None; clock = None }

-- only where nothing was given before
abbrev pub unless_given : {X : Type 0} → Option X → Settings → Option Settings
unless_given None s = Some s
unless_given (Some x) s = None

abbrev pub settled : Settings → Setting → Option Settings
settled s (Service v) = Some s
settled s (Set v) = unless_given s.kind (record s { kind = Some v })
settled s (Start v) = unless_given s.start (record s { start = Some v })
settled s (Place v) = unless_given s.spot (record s { spot = Some v })
settled s (Path v) = unless_given s.path (record s { path = Some v })
settled s (Clock v) = unless_given s.clock (record s { clock = Some v })
