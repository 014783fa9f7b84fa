-- What is promised of a receiver after any list of calls. Assumes nothing.
use Rattle.std.specs.Prelude.{◌≡◌, List, [], ◌∷◌, ◌++◌}
use Rattle.station.specs.declared.outset.Outset.{Outset}
use Rattle.sets.specs.Meaning.{Meaning}
use Rattle.history.specs.Histories.{Event, Start}
use Rattle.history.specs.Law.{Law}
use Rattle.history.specs.Stands.{Stands}
use Rattle.receiver.specs.declared.receiver.Receiver.{Receiver}

-- what a receiver begins with: what it is given, and what its set means when it is found
abbrev pub began : Outset → Meaning → Start
began outset found = record { place = outset.place; path = outset.path; clock = outset.clock; found = found }

-- a receiver that began as s says and was then given the calls h
abbrev pub Stood : {S : Type 0} → (S → Meaning) → Start → List Event → Receiver S → Type 0
Stood mean s h r = Stands s h r.state (mean r.set)

-- what is said of whatever start and calls the receiver can have had
abbrev pub WhateverCame : {S : Type 0} → (S → Meaning) → Receiver S → (Start → List Event → Type 0) → Type 0
WhateverCame mean r says = (s : Start) (h : List Event) → Stood mean s h r → says s h

-- whatever it began with and was given before, it has then been given one call more
abbrev pub GoesOn : {S : Type 0} → (S → Meaning) → Event → Receiver S → Receiver S → Type 0
GoesOn mean e before after = WhateverCame mean before (λ s h. Stood mean s (h ++ e ∷ []) after)

-- and its set shows what these calls ask
abbrev pub Shows : {S : Type 0} → (S → Meaning) → Event → Receiver S → Receiver S → Type 0
Shows mean e before after = WhateverCame mean before (λ s h. Law s (h ++ e ∷ []) (mean after.set))

-- a set that already shows it is left as it is
abbrev pub Spares : {S : Type 0} → (S → Meaning) → Event → Receiver S → Receiver S → Type 0
Spares mean e before after =
    WhateverCame mean before (λ s h. Law s (h ++ e ∷ []) (mean before.set) → after.set ≡ before.set)
