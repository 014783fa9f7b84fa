-- What is kept of an alert that comes into force, from its section, the services, the path and the clock. Assumes nothing.
use Rattle.std.specs.Prelude.{◌≡◌, ℕ, ◌+◌, ◌<◌, Bool, false, cond, List, Some, None, Option, ◌==◌, slice_index_or}
use Rattle.station.specs.declared.service.Service.{Service}
use Rattle.station.specs.declared.service.Path.{Path}
use Rattle.entries.specs.Exceptions.{Excepts}
use Rattle.text.specs.Said.{said}
use Rattle.section.specs.Places.{exceptions_of}
use Rattle.section.specs.Values.{fields_of}
use Rattle.section.specs.Texts.{alert_text}
use Rattle.sets.specs.Meaning.{service_at}
use Rattle.decision.specs.Lookups.{details_of, Sounds}
use Rattle.decision.specs.declared.alert.Alert.{Alert}

-- the clock plus the seconds, not wrapped; 0 seconds mean no end
abbrev pub end_of : ℕ → ℕ → Option ℕ
end_of clock seconds = cond (seconds == 0) None (Some (clock + seconds))

-- a service that an exception entry names on the path is marked, and no other is
abbrev pub Marked : List ℕ → Path → Option Service → Bool → Type 0
Marked s path None mark = mark ≡ false
Marked s path (Some service) mark = Excepts (exceptions_of s) (record { service = service; path = path }) mark

-- what is kept of a well-formed section s, on the services ss and the path, at the clock's reading
pub record Keeps (s : List ℕ) (ss : List Service) (path : Path) (clock : ℕ) (a : Alert) : Type 0 where
  pub event : a.event_id ≡ (fields_of s).event_id
  pub priority : a.priority ≡ (fields_of s).priority
  pub end : a.end ≡ end_of clock (fields_of s).seconds.0
  pub details : a.details ≡ details_of path (fields_of s) ss
  pub sound : Sounds path (fields_of s) ss a.sound
  pub words : said a.text ≡ alert_text s
  pub marks : (k : ℕ) → k < 256 → Marked s path (service_at ss k) (slice_index_or a.excepted.marks k false)
