-- The sections of a run: well formed, new, taken. Assumes nothing.
use Rattle.std.specs.Prelude.{◌≡◌, ℕ, ◌<◌, true, List, None}
use Rattle.station.specs.declared.place.Place.{Place}
use Rattle.entries.specs.Finding.{entry_at, Whole}
use Rattle.entries.specs.Locations.{names_place}
use Rattle.section.specs.Places.{locations_of}
use Rattle.section.specs.Rules.{refusal}
use Rattle.section.specs.Values.{fields_of}
use Rattle.history.specs.Histories.{Event, sent, event_at, Latest}

-- the numbers of a section that decide
abbrev pub sequence : List ℕ → ℕ
sequence bytes = (fields_of bytes).sequence.0

abbrev pub priority : List ℕ → ℕ
priority bytes = (fields_of bytes).priority.0

abbrev pub seconds : List ℕ → ℕ
seconds bytes = (fields_of bytes).seconds.0

-- a section that breaks no rule
abbrev pub WellFormed : List Event → Event → Type 0
WellFormed h (sent bytes) = refusal bytes ≡ None
WellFormed h e = ⊥

abbrev pub sequence_at : Event → ℕ
sequence_at (sent bytes) = sequence bytes
sequence_at e = 0

-- the latest well-formed section of h has the same sequence number
abbrev pub Repeats : List Event → List ℕ → Type 0
Repeats h bytes = (i : ℕ) × Latest WellFormed h i × (sequence_at (event_at h i) ≡ sequence bytes)

abbrev pub IsNew : List Event → List ℕ → Type 0
IsNew h bytes = Repeats h bytes → ⊥

-- the location entry number k names the place
abbrev pub Names : List ℕ → Place → ℕ → Type 0
Names bytes place k = Whole 3 (locations_of bytes) k × (names_place (entry_at 3 (locations_of bytes) k) place ≡ true)

-- a well-formed section with a new sequence number, a priority above 0 and a location entry that names the place
abbrev pub Taken : Place → List Event → Event → Type 0
Taken place h (sent bytes) = (refusal bytes ≡ None) × IsNew h bytes × (0 < priority bytes) × ((k : ℕ) × Names bytes place k)
Taken place h e = ⊥
