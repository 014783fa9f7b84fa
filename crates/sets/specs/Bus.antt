-- The studio bus. Assumes nothing.
use Rattle.std.specs.Prelude.{ℕ, zero, suc, ◌+◌, List, [], ◌∷◌}
use Rattle.station.specs.Services.{unmarked}
use Rattle.station.specs.declared.service.Service.{Service}
use Rattle.sets.specs.declared.bus.StudioBus.{StudioBus}
use Rattle.sets.specs.declared.sound.Sound.TheVariants.{Own}
use Rattle.octets.specs.Held.{held}
use Rattle.sets.specs.Meaning.{Meaning}

-- input k has the pair (k + 1, 0), no source ID and no marks
abbrev pub input : ℕ → Service
input k = unmarked (record { 0 = 0 }) (record { major = k + 1; minor = 0 })

-- so many inputs, from a number on
abbrev pub inputs : ℕ → ℕ → List Service
inputs k zero = []
inputs k (suc n) = input k ∷ inputs (k + 1) n

abbrev pub bus_meaning : StudioBus → Meaning
bus_meaning b = record { services = inputs 0 16; shown = b.shown; sound = Own; caption = held b.caption }
