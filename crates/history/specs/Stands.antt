-- What a receiver keeps after a run, and what its set means then: the premise under which each call is promised. Begin gives it and every call hands it on, so nothing of it has to be believed. Assumes nothing.
use Rattle.std.specs.Prelude.{◌≡◌, ℕ, List, take, Some, None, Option}
use Rattle.section.specs.declared.fields.SequenceNumber.{SequenceNumber}
use Rattle.sets.specs.Meaning.{Meaning, Lawful}
use Rattle.decision.specs.Alerts.{Keeps}
use Rattle.decision.specs.Fits.{AllFits}
use Rattle.decision.specs.Pictures.{pictured}
use Rattle.decision.specs.declared.alert.Alert.{Alert}
use Rattle.history.specs.Histories.{Event, sent, Start, event_at, Never, Latest, clock_after}
use Rattle.history.specs.Sections.{WellFormed, sequence_at, Taken}
use Rattle.history.specs.Viewers.{Home}
use Rattle.history.specs.Forces.{Ended, AlertInForce}
use Rattle.history.specs.declared.state.State.{State}

-- the sequence number of the latest well-formed section, if there is one
abbrev pub Remembered : List Event → Option SequenceNumber → Type 0
Remembered h None = Never WellFormed h
Remembered h (Some q) = (i : ℕ) × Latest WellFormed h i × (sequence_at (event_at h i) ≡ q.0)

-- the alert kept is that of the section that came at i and has not ended
pub record HeldAt (s : Start) (h : List Event) (a : Alert) (i : ℕ) (bytes : List ℕ) : Type 0 where
  pub latest : Latest (Taken s.place) h i
  pub is : event_at h i ≡ sent bytes
  pub lasts : Ended s h i bytes → ⊥
  pub keeps : Keeps bytes s.found.services s.path (clock_after s.clock (take i h)) a

-- the alert kept is that of the section in force; none is kept where none is in force
abbrev pub Held : Start → List Event → Option Alert → Option (List ℕ) → Type 0
Held s h None None = AlertInForce s h None
Held s h None (Some bytes) = ⊥
Held s h (Some a) None = ⊥
Held s h (Some a) (Some bytes) = (i : ℕ) × HeldAt s h a i bytes

-- the receiver's state and its set after the calls h
pub record Stands (s : Start) (h : List Event) (st : State) (m : Meaning) : Type 0 where
  pub lawful : Lawful s.found
  pub place : st.place ≡ s.place
  pub path : st.path ≡ s.path
  pub clock : st.clock ≡ clock_after s.clock h
  pub home : Home s h st.home
  pub last : Remembered h st.last
  pub section : Option (List ℕ)
  pub held : Held s h st.alert section
  pub fits : AllFits s.found.services st.alert
  pub set : m ≡ pictured st.alert s.found.services st.home
