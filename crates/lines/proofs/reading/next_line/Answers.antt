use Rattle.std.proofs.Common.{sym, ◌∙◌, subst}
use Rattle.std.proofs.lemmas.Result.{MatchResult-from_err}
use Rattle.lines.proofs.Holding.{Reads, reads_on, next_there, next_unless_empty}
use Rattle.lines.proofs.reading.next_line.Goals as goal
use Rattle.lines.proofs.reading.next_line.Goals.{else-loop-test, then-loop-test+in_ok-take_held+in-End}

pub returns-in-Fed : goal.returns-in-Fed
returns-in-Fed g c =
    let on = reads_on c.clear.new.self.most c.loop.line c.take_held.new.line c.take_held.ensures.after c.take_held.ensures.same c.loop.invariant in
    record { cases = next_there c.take_held.new.line on.0; same = on.1 ∙ c.clear.ensures.same }

pub returns-in_err-take_held : goal.returns-in_err-take_held
returns-in_err-take_held g c =
    let on = reads_on c.clear.new.self.most c.loop.line c.take_held.new.line c.take_held.ensures.after c.take_held.ensures.same c.loop.invariant in
    record { cases = MatchResult-from_err _ _ _ c.from_residual.ensures.0 (λ e. on.0); same = on.1 ∙ c.clear.ensures.same }

pub loop-preserved : goal.loop-preserved
loop-preserved g c =
    reads_on c.clear.new.self.most c.loop.line c.take_held.new.line c.take_held.ensures.after c.take_held.ensures.same c.loop.invariant

pub returns : goal.returns
returns g c =
    let most = c.clear.new.self.most in
    let left : Reads most c.loop-test.line =
    elim c.loop-test.branch [
      | else-loop-test w ↦ subst (Reads most) (sym w.line-is) c.loop.invariant
      | then-loop-test+in_ok-take_held+in-End w ↦
          subst (Reads most) (sym w.line-is)
          (reads_on most c.loop.line w.take_held.new.line w.take_held.ensures.after w.take_held.ensures.same c.loop.invariant)
    ] in
    record {
      cases = next_unless_empty c.loop-test.line c.is_empty.result c.is_empty.ensures.held left.0;
      same = left.1 ∙ c.clear.ensures.same;
    }
