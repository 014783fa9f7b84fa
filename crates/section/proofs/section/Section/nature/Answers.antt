use Rattle.section.specs.Places.{nature_of}
use Rattle.section.proofs.Parts.{hands}
use Rattle.section.proofs.section.Section.nature.Goals as goal

pub returns : goal.returns
unfolding nature_of
returns c = let laid = c.in_ok-laid.laid in hands c.args.self.now.bytes.now laid.bytes.now (λ l. l.nature) c.in_ok-laid.ensures laid.places c.part_at.ensures.at c.part_at.ensures.value
