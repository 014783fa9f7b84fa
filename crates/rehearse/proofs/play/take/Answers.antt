use Rattle.std.proofs.Common.{rules, ◌≡◌, ℕ, List, take, Some}
use Rattle.history.specs.Histories.{Event, sent, told, chose}
use Rattle.history.specs.Replies.{event}
use Rattle.receiver.specs.Stood.{WhateverCame}
use Rattle.script.specs.declared.asked.Asked.{Asked}
use Rattle.script.specs.declared.asked.Asked.TheVariants as asks
use Rattle.rehearse.specs.Calling.{asked_call}
use Rattle.rehearse.specs.Told.{TellsAnswer, TellsWhatIsDue}
use Rattle.rehearse.specs.declared.printer.Printer.{Printer}
use Rattle.rehearse.proofs.play.take.Goals as goal

-- of a line that is a call, its reply is the answer
of_call : (Call : Event → Printer → Printer → Type 0) (room : List ℕ) (line : ℕ) (asked : Asked) (before after : Printer) (e : Event)
    → asked_call room asked ≡ Some e → Call e before after → TellsAnswer Call room line asked before after
of_call Call room line asks.Nothing before after e is tells = cc
of_call Call room line (asks.Setting setting) before after e is tells = cc
of_call Call room line asks.Begin before after e is tells = cc
of_call Call room line (asks.Section size) before after e is tells = let same : e ≡ sent (take size room) = cc in rw same at tells
of_call Call room line (asks.Document size) before after e is tells = cc
of_call Call room line (asks.Tick seconds) before after e is tells = let same : e ≡ told seconds = cc in rw same at tells
of_call Call room line (asks.Choose number) before after e is tells = let same : e ≡ chose number = cc in rw same at tells
of_call Call room line asks.Unknown before after e is tells = cc

pub returns-in-Some-clause-the_answer_is_told : goal.returns-in-Some-clause-the_answer_is_told
returns-in-Some-clause-the_answer_is_told g c =
    let room = c.args.exchange.now.input.room in
    let call = event c.in-Some.call in
    let is : asked_call room c.args.asked ≡ Some call = search rules in
    of_call (λ e before after. WhateverCame g.S.Set.meaning c.args.receiver.now (λ s h. TellsWhatIsDue s h e before after)) room _ _ _ _ call is c.make.ensures.the_line_is_that_of_the_law
