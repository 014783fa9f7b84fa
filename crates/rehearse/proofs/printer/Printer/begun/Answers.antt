use Rattle.rehearse.proofs.printer.Printer.begun.Goals as goal

pub returns : goal.returns
returns g c = λ s h x. (c.shown_by.result, c.shown_by.ensures s h x, c.begins.ensures)
