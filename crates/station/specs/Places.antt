-- When three numbers make a place. Assumes nothing.
use Rattle.std.specs.Prelude.{◌≡◌, ℕ, None, Option, Result}
use Rattle.station.specs.Ranges.{ranged}
use Rattle.station.specs.Refusals.{number}
use Rattle.station.specs.Rules.{unless, Gives}
use Rattle.station.specs.declared.place.Place.{Place}
use Rattle.station.specs.declared.refusal.PlaceRefusal.{PlaceRefusal}

-- the number of the refusal, unless they are in their ranges
abbrev pub place_refusal : ℕ → ℕ → ℕ → Option ℕ
place_refusal state county part = unless (ranged state county part) 51 None

-- the place of a state, a county and a part, else that refusal
abbrev pub MakesPlace : ℕ → ℕ → ℕ → Result Place PlaceRefusal → Type 0
MakesPlace state county part = Gives number (place_refusal state county part) (λ p. (p.state ≡ state) × (p.county ≡ county) × (p.part ≡ part))
