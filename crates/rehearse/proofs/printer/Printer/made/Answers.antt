use Rattle.std.proofs.Common.{rules}
use Rattle.calls.specs.Numbers.{reply_number, reply_entry}
use Rattle.rehearse.specs.Printed.{call_line}
use Rattle.rehearse.specs.Told.{Tells}
use Rattle.rehearse.proofs.printer.Printer.made.Goals as goal

pub returns : goal.returns
returns g c =
    let shown = c.shown_by-shown.result in
    let told : Tells c.args.self.now c.called.new.self (call_line c.args.name.now (reply_number c.args.reply) (reply_entry c.args.reply) shown) = search rules in
    λ s h x. (shown, c.shown_by-shown.ensures s h x, told)
