-- The services that an alert points to. Assumes nothing.
use Rattle.std.specs.Prelude.{◌≡◌, ℕ, ◌⊎◌, Bool, true, List, Some, None, Option, position}
use Rattle.station.specs.Names.{names_pair, names_id}
use Rattle.station.specs.declared.service.Service.{Service}
use Rattle.station.specs.declared.service.Path.{Path}
use Rattle.station.specs.declared.service.Path.TheVariants.{InBand, OutOfBand}
use Rattle.section.specs.declared.fields.Fields.{Fields}
use Rattle.sets.specs.Meaning.{apart_at}
use Rattle.decision.specs.declared.name.Name.{Name}
use Rattle.decision.specs.declared.name.Name.TheVariants.{Channel, Source}

-- a service has the channel pair, or the source ID
abbrev pub bears : Name → Service → Bool
bears (Channel pair) s = names_pair pair s.channel
bears (Source id) s = names_id id s.source

-- what names the details service
abbrev pub details_name : Path → Fields → Name
details_name InBand f = Channel f.details_channel
details_name OutOfBand f = Source f.details_source

-- the number of the first service with that name
unfoldable pub details_of : Path → Fields → List Service → Option ℕ
details_of path f ss = position (bears (details_name path f)) ss

-- k is this number, and its service is apart
abbrev pub IsApart : List Service → Option ℕ → ℕ → Type 0
IsApart ss number k = (number ≡ Some k) × (apart_at ss k ≡ true)

-- out-of-band, k is the first service with the audio source ID, and is apart
abbrev pub IsAudio : Path → Fields → List Service → ℕ → Type 0
IsAudio path f ss k = (path ≡ OutOfBand) × IsApart ss (position (bears (Source f.audio_source)) ss) k

-- k is that; or there is none such, and k is the details service and is apart
abbrev pub IsSound : Path → Fields → List Service → Option ℕ → ℕ → Type 0
IsSound path f ss details k = IsAudio path f ss k ⊎ (((j : ℕ) → IsAudio path f ss j → ⊥) × IsApart ss details k)

-- a number of which the fact holds, none where it holds of no number
abbrev pub Picks : (ℕ → Type 0) → Option ℕ → Type 0
Picks Is None = (k : ℕ) → Is k → ⊥
Picks Is (Some k) = Is k

-- the service whose sound can be borrowed for an alert, if there is one
abbrev pub Sounds : Path → Fields → List Service → Option ℕ → Type 0
Sounds path f ss o = Picks (IsSound path f ss (details_of path f ss)) o
