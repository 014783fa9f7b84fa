use Rattle.std.proofs.Common.{◌≡◌, true, ap, ◌∙◌, rules}
use Rattle.text.specs.Structure.{structured}
use Rattle.section.proofs.Outcomes.{texts_of}
use Rattle.section.proofs.section.Section.text.Goals as goal

pub returns : goal.returns
returns c =
    let part = c.in_ok-part.ensures in
    let keeps : structured c.in_ok-part.part.bytes.now ≡ true = ap structured part.1.1 ∙ (texts_of c.args.self.now.bytes.now part.0).1 in
    search rules
