-- The channel map. Assumes nothing.
use Rattle.std.specs.Prelude.{ℕ, List, [], ◌∷◌, None, Option}
use Rattle.station.specs.Services.{unmarked}
use Rattle.station.specs.declared.service.Service.{Service}
use Rattle.sets.specs.declared.map.ChannelMap.{ChannelMap}
use Rattle.octets.specs.Held.{held}
use Rattle.sets.specs.Meaning.{Meaning, plain}
use Rattle.sets.specs.Tables.{table_refusal}

-- a service with no pair, ID or marks
abbrev pub bare : Service
bare = unmarked (record { 0 = 0 }) (record { major = 0; minor = 0 })

abbrev pub map_meaning : ChannelMap → Meaning
map_meaning m = record { services = m.table.now; shown = m.shown; sound = m.sound; caption = held m.caption }

-- over the table where no rule is broken, else over one bare service
abbrev pub made_over : Option ℕ → List Service → ℕ → Meaning
made_over None table start = plain table start
made_over broken table start = plain (bare ∷ []) 0

abbrev pub new_map : List Service → ℕ → Meaning
new_map table start = made_over (table_refusal table start) table start
