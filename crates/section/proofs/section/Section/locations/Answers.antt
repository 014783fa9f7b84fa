use Rattle.section.specs.Places.{locations_of}
use Rattle.section.proofs.Parts.{hands}
use Rattle.section.proofs.section.Section.locations.Goals as goal

pub returns : goal.returns
unfolding locations_of
returns c = let laid = c.in_ok-laid.laid in hands c.args.self.now.bytes.now laid.bytes.now (λ l. l.locations) c.in_ok-laid.ensures laid.places c.part_at.ensures.at c.part_at.ensures.value
