use Rattle.std.proofs.Common.{◌∙◌}
use Rattle.text.proofs.Found.{text_found}
use Rattle.text.proofs.reading.text_of.Goals as goal

pub returns-in-Some : goal.returns-in-Some
returns-in-Some c = record { value = c.text_of_string.ensures.value ∙ text_found c.args.field.now c.strings_of.ensures.left c.strings_of.ensures.rest c.in-Some.ensures.value }

pub returns-in-None : goal.returns-in-None
returns-in-None c = record { value = c.empty.ensures.value ∙ text_found c.args.field.now c.strings_of.ensures.left c.strings_of.ensures.rest c.in-None.ensures.value }
