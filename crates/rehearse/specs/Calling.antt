-- What a line asks of the receiver. Assumes nothing.
use Rattle.std.specs.Prelude.{ℕ, List, take, Some, None, Option}
use Rattle.history.specs.Histories.{Event, sent, told, chose}
use Rattle.script.specs.declared.asked.Asked.{Asked}
use Rattle.script.specs.declared.asked.Asked.TheVariants as asks

-- the call of it, if it is one; a section is the front of the room, or all of a shorter one
abbrev pub asked_call : List ℕ → Asked → Option Event
asked_call room (asks.Section size) = Some (sent (take size room))
asked_call room (asks.Tick seconds) = Some (told seconds)
asked_call room (asks.Choose number) = Some (chose number)
asked_call room asked = None
