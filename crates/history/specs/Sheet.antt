-- What a call makes of the sheet that a receiver keeps, and which answer the sheet gives. No clause of a public call names anything of this page, and nothing of it has to be believed. Assumes nothing.
use Rattle.std.specs.Prelude.{◌≡◌, ℕ, ◌<◌, ◌≤◌, List, Some, None, Ok, Err, Option, Result, ◌≢◌}
use Rattle.section.specs.Refusals.{number}
use Rattle.section.specs.Rules.{refusal}
use Rattle.section.specs.Values.{fields_of}
use Rattle.section.specs.declared.fields.SequenceNumber.{SequenceNumber}
use Rattle.section.specs.declared.refusal.SectionRefusal.{SectionRefusal}
use Rattle.sets.specs.Meaning.{Meaning, count_of}
use Rattle.decision.specs.Fits.{AllFits}
use Rattle.decision.specs.Pictures.{pictured}
use Rattle.decision.specs.declared.alert.Alert.{Alert}
use Rattle.calls.specs.declared.answer.Answer.{Answer}
use Rattle.calls.specs.declared.answer.Answer.TheVariants.{Repeat, Test, Elsewhere, InForce}
use Rattle.calls.specs.declared.refusal.ChoiceRefusal.{ChoiceRefusal}
use Rattle.calls.specs.declared.refusal.ReadingRefusal.{ReadingRefusal}
use Rattle.history.specs.Sections.{priority, Names}
use Rattle.history.specs.Forces.{Past}
use Rattle.history.specs.declared.state.State.{State}

-- the sheet with another sequence number, with another alert, with another viewer's service, with another clock
abbrev pub noted : State → SequenceNumber → State
noted st q = record st { last = Some q }

abbrev pub alerted : State → Alert → State
alerted st a = record st { alert = Some a }

abbrev pub chosen : State → ℕ → State
chosen st n = record st { home = n }

abbrev pub timed : State → ℕ → State
timed st n = record st { clock = n }

-- and with no alert besides
abbrev pub cleared : State → ℕ → State
cleared st n = record (timed st n) { alert = None }

-- the alert kept has come to its end at the reading
abbrev pub Over : Option Alert → ℕ → Type 0
Over None n = ⊥
Over (Some a) n = Past a.end n

-- which answer the sheet gives to a section
abbrev pub Judges : State → List ℕ → Result Answer SectionRefusal → Type 0
Judges st bytes (Err e) = refusal bytes ≡ Some (number e)
Judges st bytes (Ok Repeat) = (refusal bytes ≡ None) × (st.last ≡ Some (fields_of bytes).sequence)
Judges st bytes (Ok Test) = (refusal bytes ≡ None) × (st.last ≢ Some (fields_of bytes).sequence) × (priority bytes ≡ 0)
Judges st bytes (Ok Elsewhere) =
    (refusal bytes ≡ None) × (st.last ≢ Some (fields_of bytes).sequence) × (0 < priority bytes) × ((k : ℕ) → Names bytes st.place k → ⊥)
Judges st bytes (Ok (InForce k)) =
    (refusal bytes ≡ None) × (st.last ≢ Some (fields_of bytes).sequence) × (0 < priority bytes) × Names bytes st.place k

-- the sheet after a section that has the answer: a repeat changes nothing, and any other enters its sequence number
abbrev pub entered : State → Answer → SequenceNumber → State
entered st Repeat q = st
entered st a q = noted st q

-- after a reading: it is refused if it is earlier than the clock; else it is the clock, and an alert that is over goes
abbrev pub Advances : State → ℕ → Result State ReadingRefusal → Type 0
Advances st n (Ok next) = (st.clock ≤ n) × (Over st.alert n → next ≡ cleared st n) × ((Over st.alert n → ⊥) → next ≡ timed st n)
Advances st n (Err e) = n < st.clock

-- after a choice among so many services: it is refused past the list
abbrev pub Selects : State → ℕ → ℕ → Result State ChoiceRefusal → Type 0
Selects st services n (Ok next) = (n < services) × (next ≡ chosen st n)
Selects st services n (Err e) = services ≤ n

-- a set that meant the picture of one sheet means that of the next, if the viewer's service is on its list and the alert fits it
abbrev pub Moves : Meaning → State → State → Meaning → Type 0
Moves before st next after =
    before ≡ pictured st.alert before.services st.home →
    next.home < count_of before →
    AllFits before.services next.alert →
    after ≡ pictured next.alert before.services next.home
