use Rattle.std.proofs.Common.{◌≡◌, length, fold}
use Rattle.checkword.specs.Register.{entered}
use Rattle.checkword.proofs.register.check_word.Given as goal

abbrev pub invariant-loop-eight : goal.invariant-loop-eight
invariant-loop-eight l = fold entered l.register l.rest ≡ fold entered 0xFFFFFFFF l.bytes

abbrev pub decreases-loop-eight : goal.decreases-loop-eight
decreases-loop-eight l = length l.rest
