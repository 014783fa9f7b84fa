-- What a printer holds, at first and after it was told of a call or another line. Assumes nothing.
use Rattle.std.specs.Prelude.{◌≡◌, ℕ, List, [], ◌∷◌, ◌++◌, take, Ok, Err, OnOk, codes, Result}
use Rattle.calls.specs.Verdicts.{Verdict}
use Rattle.decision.specs.Drives.{showing}
use Rattle.document.specs.Delivering.{RefusingCall, Delivers}
use Rattle.history.specs.Forces.{EventInForce}
use Rattle.history.specs.Histories.{Event, sent, told, chose, Start}
use Rattle.history.specs.Law.{Law}
use Rattle.history.specs.Replies.{Due}
use Rattle.history.specs.Viewers.{Home}
use Rattle.script.specs.declared.asked.Asked.{Asked}
use Rattle.script.specs.declared.asked.Asked.TheVariants as asks
use Rattle.section.specs.Texts.{alert_text}
use Rattle.rehearse.specs.Printed.{begin_line, call_line, document_lines, numbered, undelivered}
use Rattle.rehearse.specs.declared.printer.Printer.{Printer}
use Rattle.rehearse.specs.declared.shown.Shown.{Shown}

abbrev pub name_of : Event → List ℕ
name_of (sent bytes) = codes "section"
name_of (told seconds) = codes "tick"
name_of (chose number) = codes "choose"

-- it holds nothing, and nothing was lost for want of memory
abbrev pub Empty : Printer → Type 0
Empty printer = (printer.record ≡ []) × (printer.outcome ≡ Ok tt)

-- where there was memory for all of it: for all before, and this is added to that
abbrev pub Tells : Printer → Printer → List ℕ → Type 0
Tells before after more = OnOk after.outcome ((before.outcome ≡ Ok tt) × (after.record ≡ before.record ++ more))

-- what is shown is what the law says after the calls h: the viewer's service, the event of the alert in force, and the set
pub record ShowsTheLaw (s : Start) (h : List Event) (shown : Shown) : Type 0 where
  pub home : Home s h shown.home
  pub alert : EventInForce s h shown.alert
  pub set : Law s h (showing s.found shown.picture)

-- it is told of a begin, and of the receiver as it then is
abbrev pub TellsBegin : Start → List Event → Printer → Printer → Type 0
TellsBegin s h before after = (shown : Shown) × ShowsTheLaw s h shown × Tells before after (begin_line shown)

-- it is told of a call by its name and its verdict, and of the receiver as it is after the calls h
abbrev pub TellsCall : Start → List Event → List ℕ → Verdict → Printer → Printer → Type 0
TellsCall s h name v before after = (shown : Shown) × ShowsTheLaw s h shown × Tells before after (call_line name v.number v.entry shown)

-- after the calls h it is told of one call more: of what is due to it, and of the receiver after it
abbrev pub TellsWhatIsDue : Start → List Event → Event → Printer → Printer → Type 0
TellsWhatIsDue s h e before after = (v : Verdict) × Due s h v e × TellsCall s (h ++ e ∷ []) (name_of e) v before after

-- a delivery, or what refused it
abbrev pub delivery_lines : Result (List ℕ) RefusingCall → List ℕ
delivery_lines (Ok doc) = document_lines doc
delivery_lines (Err r) = undelivered r.number r.call

-- it is told what delivers the section's document with its own text
abbrev pub TellsDocument : List ℕ → Printer → Printer → Type 0
TellsDocument section before after =
    (answer : Result (List ℕ) RefusingCall) × Delivers section (alert_text section) 1023 6143 answer × Tells before after (delivery_lines answer)

-- it is told that a line is not understood
abbrev pub TellsNotUnderstood : ℕ → Printer → Printer → Type 0
TellsNotUnderstood line before after = Tells before after (numbered (codes "call=none line=") line)

-- it is told what comes of a line: of a call what is told of it, of a document its delivery, of an empty line or a comment nothing, of any other its number
abbrev pub TellsAnswer : (Event → Printer → Printer → Type 0) → List ℕ → ℕ → Asked → Printer → Printer → Type 0
TellsAnswer ToldOf room line asks.Nothing before after = after ≡ before
TellsAnswer ToldOf room line (asks.Section size) before after = ToldOf (sent (take size room)) before after
TellsAnswer ToldOf room line (asks.Document size) before after = TellsDocument (take size room) before after
TellsAnswer ToldOf room line (asks.Tick seconds) before after = ToldOf (told seconds) before after
TellsAnswer ToldOf room line (asks.Choose number) before after = ToldOf (chose number) before after
TellsAnswer ToldOf room line asked before after = TellsNotUnderstood line before after
