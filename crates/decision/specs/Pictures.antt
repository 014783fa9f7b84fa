-- The picture that an alert asks for. Assumes nothing.
use Rattle.std.specs.Prelude.{ℕ, Bool, false, cond, not, ◌&&◌, List, Some, None, Option, nat_le, slice_index_or}
use Rattle.station.specs.declared.service.Service.{Service}
use Rattle.text.specs.Said.{said}
use Rattle.sets.specs.Meaning.{Meaning, plain, service_at, holds}
use Rattle.sets.specs.Sounds.{sound_from}
use Rattle.decision.specs.declared.alert.Alert.{Alert}

abbrev pub is_paid : Option Service → Bool
is_paid service = holds (λ s. s.paid) service

abbrev pub is_controlled : Option Service → Bool
is_controlled service = holds (λ s. s.controlled) service

abbrev pub between : ℕ → ℕ → ℕ → Bool
between low high n = nat_le low n && nat_le n high

-- whether the alert applies to the viewer's service: it is not excepted, nor paid at priorities 4 to 7, nor controlled at 1 to 3
abbrev pub applies : Bool → ℕ → Option Service → Bool
applies excepted priority service =
    not excepted && (not (is_paid service && between 4 7 priority) && not (is_controlled service && between 1 3 priority))

abbrev pub applies_to : Alert → List Service → ℕ → Bool
applies_to a ss home = applies (slice_index_or a.excepted.marks home false) a.priority.0 (service_at ss home)

-- the service that an alert without a sound shows
abbrev pub shown_by : ℕ → Option ℕ → ℕ → ℕ
shown_by priority None home = home
shown_by priority (Some k) home = cond (between 12 15 priority) k home

abbrev pub service_for : Alert → ℕ → Option ℕ → ℕ
service_for a home None = shown_by a.priority.0 a.details home
service_for a home (Some k) = home

-- under an alert that applies
abbrev pub alerted : Alert → List Service → ℕ → Meaning
alerted a ss home = record (plain ss home) { shown = service_for a home a.sound; sound = sound_from a.sound; caption = said a.text }

-- what the set shall mean under the alert in force, if any, with the viewer's service home, which is shown alone where no alert applies
unfoldable pub pictured : Option Alert → List Service → ℕ → Meaning
pictured None ss home = plain ss home
pictured (Some a) ss home = cond (applies_to a ss home) (alerted a ss home) (plain ss home)
