use Rattle.section.specs.Places.{alert_of}
use Rattle.section.proofs.Parts.{hands}
use Rattle.section.proofs.section.Section.alert_text.Goals as goal

pub returns : goal.returns
unfolding alert_of
returns c = let laid = c.in_ok-laid.laid in hands c.args.self.now.bytes.now laid.bytes.now (λ l. l.alert) c.in_ok-laid.ensures laid.places c.part_at.ensures.at c.part_at.ensures.value
