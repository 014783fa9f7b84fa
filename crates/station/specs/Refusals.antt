-- The refusal of a place: its number and its words. Assumes nothing.
use Rattle.std.specs.Prelude.{ℕ, List, codes}
use Rattle.station.specs.declared.refusal.PlaceRefusal.{PlaceRefusal}
use Rattle.station.specs.declared.refusal.PlaceRefusal.TheVariants.{Range}

abbrev pub number : PlaceRefusal → ℕ
number Range = 51

abbrev pub words : PlaceRefusal → List ℕ
words Range = codes "place out of range"
