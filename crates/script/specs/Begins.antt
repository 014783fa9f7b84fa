-- What a receiver begins with, and what it is refused by first. Assumes nothing.
use Rattle.std.specs.Prelude.{◌≡◌, ℕ, List, Some, None, Option}
use Rattle.std.specs.Option.{option_or}
use Rattle.station.specs.Places.{place_refusal}
use Rattle.station.specs.Refusals.{number as placeNumber}
use Rattle.station.specs.declared.service.Path.TheVariants.{InBand}
use Rattle.station.specs.declared.service.Service.{Service}
use Rattle.sets.specs.Refusals.{table_number}
use Rattle.sets.specs.Tables.{table_refusal}
use Rattle.script.specs.declared.asked.SetKind.{SetKind}
use Rattle.script.specs.declared.asked.SetKind.TheVariants.{Bus, Map}
use Rattle.script.specs.declared.beginning.BeginRefusal.{BeginRefusal}
use Rattle.script.specs.declared.beginning.BeginRefusal.TheVariants.{Table, Place}
use Rattle.script.specs.declared.beginning.Beginning.{Beginning}
use Rattle.script.specs.declared.settings.Settings.{Settings}
use Rattle.script.specs.declared.spot.Spot.{Spot}

abbrev pub begin_number : BeginRefusal → ℕ
begin_number (Table e) = table_number e
begin_number (Place e) = placeNumber e

-- what was given, else a default
abbrev pub given : {X : Type 0} → X → Option X → X
given default None = default
given default (Some x) = x

abbrev pub kind_of : Settings → SetKind
kind_of s = given Bus s.kind

abbrev pub start_of : Settings → ℕ
start_of s = given 0 s.start

abbrev pub spot_of : Settings → Spot
spot_of s = given (record { state = 6; county = 37; part = 0 }) s.spot

abbrev pub spot_refusal : Spot → Option ℕ
spot_refusal p = place_refusal p.state p.county p.part

-- only a map has a table
abbrev pub table_of : SetKind → List Service → ℕ → Option ℕ
table_of Map services start = table_refusal services start
table_of kind services start = None

-- the number of the table's rule, and else that of the place
abbrev pub begin_refusal : Settings → List Service → Option ℕ
begin_refusal s services = option_or (table_of (kind_of s) services (start_of s)) (spot_refusal (spot_of s))

pub record BeginsWith (s : Settings) (b : Beginning) : Type 0 where
  pub kind : b.kind ≡ kind_of s
  pub start : b.start ≡ start_of s
  pub state : b.outset.place.state ≡ (spot_of s).state
  pub county : b.outset.place.county ≡ (spot_of s).county
  pub part : b.outset.place.part ≡ (spot_of s).part
  pub path : b.outset.path ≡ given InBand s.path
  pub clock : b.outset.clock ≡ given 0 s.clock
