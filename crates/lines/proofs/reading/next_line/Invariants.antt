use Rattle.lines.proofs.Holding.{Reads}
use Rattle.lines.proofs.reading.next_line.Given as goal

abbrev pub invariant-loop : goal.invariant-loop
invariant-loop g l = Reads l.initial.line.most l.line
