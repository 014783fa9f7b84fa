-- The alert in force after a run. Assumes nothing.
use Rattle.std.specs.Prelude.{◌≡◌, ℕ, ◌<◌, ◌≤◌, List, length, take, Some, None, Option}
use Rattle.section.specs.Values.{fields_of}
use Rattle.section.specs.declared.fields.EventId.{EventId}
use Rattle.decision.specs.Alerts.{end_of}
use Rattle.history.specs.Histories.{Event, sent, told, Start, event_at, Latest, clock_after, IsGranted}
use Rattle.history.specs.Sections.{seconds, Taken}

-- a reading is at or past an end; without an end none is
abbrev pub Past : Option ℕ → ℕ → Type 0
Past None n = ⊥
Past (Some end) n = end ≤ n

-- the end of a section that came at i: the clock there plus its seconds
abbrev pub end_at : Start → List Event → ℕ → List ℕ → Option ℕ
end_at s h i bytes = end_of (clock_after s.clock (take i h)) (seconds bytes)

-- after i a granted reading was at or past the end of the section that came at i
pub record Ended (s : Start) (h : List Event) (i : ℕ) (bytes : List ℕ) : Type 0 where
  pub at : ℕ
  pub reading : ℕ
  pub later : i < at
  pub within : at < length h
  pub read : event_at h at ≡ told reading
  pub granted : IsGranted s (take at h) reading
  pub past : Past (end_at s h i bytes) reading

-- the alert in force: the latest taken section, unless it has ended
abbrev pub AlertInForce : Start → List Event → Option (List ℕ) → Type 0
AlertInForce s h None = (i : ℕ) (bytes : List ℕ) → Latest (Taken s.place) h i → event_at h i ≡ sent bytes → Ended s h i bytes
AlertInForce s h (Some bytes) = (i : ℕ) × Latest (Taken s.place) h i × (event_at h i ≡ sent bytes) × (Ended s h i bytes → ⊥)

-- the event ID of the alert in force, and none where none is in force
abbrev pub EventInForce : Start → List Event → Option EventId → Type 0
EventInForce s h None = AlertInForce s h None
EventInForce s h (Some id) = (bytes : List ℕ) × AlertInForce s h (Some bytes) × (id ≡ (fields_of bytes).event_id)
