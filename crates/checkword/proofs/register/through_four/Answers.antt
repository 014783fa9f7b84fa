use Rattle.std.proofs.Common.{◌∙◌, arith}
use Rattle.checkword.specs.Register.{moves, moved}
use Rattle.checkword.proofs.Split.{gone, four_reads}
use Rattle.checkword.proofs.register.through_four.Goals as goal

pub returns : goal.returns
unfolding gone moves moved
returns c = c.through.ensures ∙ four_reads c.args.x (omega arith)
