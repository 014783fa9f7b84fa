-- What a question about a section's entries answers. Assumes nothing.
use Rattle.std.specs.Prelude.{ℕ, Bool, List, Option, Result}
use Rattle.station.specs.Rules.{Gives}
use Rattle.station.specs.declared.place.Place.{Place}
use Rattle.entries.specs.Exceptions.{Excepts}
use Rattle.entries.specs.Locations.{NamingLocation}
use Rattle.entries.specs.declared.tuned.Tuned.{Tuned}
use Rattle.section.specs.Places.{locations_of, exceptions_of}
use Rattle.section.specs.Refusals.{number}
use Rattle.section.specs.Rules.{refusal}
use Rattle.section.specs.declared.refusal.SectionRefusal.{SectionRefusal}

-- of the section s: the number of a location entry that names the place, or none where none does, or the section's refusal
abbrev pub NamesPlace : List ℕ → Place → Result (Option ℕ) SectionRefusal → Type 0
NamesPlace s place r = Gives number (refusal s) (λ entry. NamingLocation (locations_of s) place entry) r

-- of the section s: whether an exception entry names the service on its path, or the section's refusal
abbrev pub ExceptsService : List ℕ → Tuned → Result Bool SectionRefusal → Type 0
ExceptsService s tuned r = Gives number (refusal s) (λ is_named. Excepts (exceptions_of s) tuned is_named) r
