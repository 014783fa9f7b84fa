-- The viewer's service after a run. Assumes nothing.
use Rattle.std.specs.Prelude.{◌≡◌, ℕ, ◌<◌, ◌⊎◌, List}
use Rattle.sets.specs.Meaning.{count_of}
use Rattle.history.specs.Histories.{Event, chose, Start, event_at, Never, Latest}

-- a choice of one of so many services
abbrev pub Chosen : ℕ → List Event → Event → Type 0
Chosen services h (chose n) = n < services
Chosen services h e = ⊥

-- k is the latest granted choice or, where there is none, the service that the set was found on
abbrev pub Home : Start → List Event → ℕ → Type 0
Home s h k =
    ((i : ℕ) × Latest (Chosen (count_of s.found)) h i × (event_at h i ≡ chose k))
    ⊎ (Never (Chosen (count_of s.found)) h × (k ≡ s.found.shown))
