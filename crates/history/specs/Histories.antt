-- A run of calls as a list, the newest last, and positions in it. Assumes nothing.
use Rattle.std.specs.Prelude.{ℕ, ◌<◌, ◌≤◌, max, List, length, take, Some, None, fold, Option, slice_index_or}
use Rattle.std.specs.List.{filter_map}
use Rattle.station.specs.declared.place.Place.{Place}
use Rattle.station.specs.declared.service.Path.{Path}
use Rattle.sets.specs.Meaning.{Meaning}

-- one call, by what it was given: the bytes of a section, a reading of the clock, or the number of a service
pub data Event : Type 0 where
  sent : List ℕ → Event
  told : ℕ → Event
  chose : ℕ → Event

-- how a receiver began: what it was given, and what its set meant when it was found
pub record Start : Type 0 where
  pub place : Place
  pub path : Path
  pub clock : ℕ
  pub found : Meaning

-- the call at a position of h
abbrev pub event_at : List Event → ℕ → Event
event_at h i = slice_index_or h i (chose 0)

-- the call at i has a property, which may look at the calls before it
abbrev pub At : (List Event → Event → Type 0) → List Event → ℕ → Type 0
At P h i = P (take i h) (event_at h i)

-- no call of h has it
abbrev pub Never : (List Event → Event → Type 0) → List Event → Type 0
Never P h = (j : ℕ) → j < length h → At P h j → ⊥

-- the latest call of h that has it stands at i
pub record Latest (P : List Event → Event → Type 0) (h : List Event) (i : ℕ) : Type 0 where
  pub within : i < length h
  pub has : At P h i
  pub none_later : (j : ℕ) → i < j → j < length h → At P h j → ⊥

-- what a call reads of the clock, if it is a reading
abbrev pub reading_of : Event → Option ℕ
reading_of (told n) = Some n
reading_of e = None

-- the clock after h: the greatest of what it was at the start and the readings of h
abbrev pub clock_after : ℕ → List Event → ℕ
clock_after clock h = fold max clock (filter_map reading_of h)

-- a reading that comes after h is granted: it is not below the clock
abbrev pub IsGranted : Start → List Event → ℕ → Type 0
IsGranted s h n = clock_after s.clock h ≤ n
