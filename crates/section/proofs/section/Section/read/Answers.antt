use Rattle.std.proofs.Common.{rules}
use Rattle.section.specs.Rules.{refusal}
use Rattle.section.proofs.section.Section.read.Goals as goal

pub invariant_of-result : goal.invariant_of-result
unfolding refusal
invariant_of-result c = search rules
