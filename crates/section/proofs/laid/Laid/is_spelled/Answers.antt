use Rattle.std.proofs.Common.{◌&&◌, ap, ◌∙◌}
use Rattle.text.specs.Structure.{structured}
use Rattle.section.specs.Places.{nature_of, alert_of}
use Rattle.section.proofs.Parts.{spans}
use Rattle.section.proofs.laid.Laid.is_spelled.Goals as goal

pub returns-then-nature : goal.returns-then-nature
unfolding nature_of alert_of
returns-then-nature c =
    let s = c.args.self.now.bytes.now in
    let places = c.args.self.now.places in
    let nature = c.if-nature.ensures.value ∙ ap structured (spans s (λ l. l.nature) places c.part_of.ensures.value) in
    let alert = c.is_structured-alert.ensures.value ∙ ap structured (spans s (λ l. l.alert) places c.part_of-2.ensures.value) in
    record { value = alert ∙ ap (λ b. b && structured (alert_of s)) nature }

pub returns-else-nature : goal.returns-else-nature
unfolding nature_of
returns-else-nature c =
    let s = c.args.self.now.bytes.now in
    let nature = c.if-nature.ensures.value ∙ ap structured (spans s (λ l. l.nature) c.args.self.now.places c.part_of.ensures.value) in
    record { value = c.if-nature.false ∙ ap (λ b. b && structured (alert_of s)) nature }
