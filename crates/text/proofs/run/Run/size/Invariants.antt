use Rattle.std.proofs.Common.{◌≡◌, ◌-◌, ◌*◌, ◌≤◌}
use Rattle.std.specs.List.{sum_by}
use Rattle.text.specs.Structure.{parts}
use Rattle.text.proofs.Walks.{sizes}
use Rattle.text.proofs.run.Run.size.Given as goal

abbrev pub invariant-loop-done : goal.invariant-loop-done
invariant-loop-done g l =
    (sizes g.P.Parts.size l.size (l.self.left - l.done) l.rest ≡ sum_by g.P.Parts.size (parts g.P.Parts.size l.self.left l.self.rest.now))
    × (l.size ≤ l.done * g.P.Parts.most)
