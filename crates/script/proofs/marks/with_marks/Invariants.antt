use Rattle.std.proofs.Common.{◌≡◌, [], length}
use Rattle.script.specs.Services.{marks_from}
use Rattle.script.proofs.marks.with_marks.Given as goal

abbrev pub invariant-loop-word : goal.invariant-loop-word
invariant-loop-word l = marks_from l.service [] l.rest ≡ marks_from l.fn.service [] l.text

abbrev pub decreases-loop-word : goal.decreases-loop-word
decreases-loop-word l = length l.rest
