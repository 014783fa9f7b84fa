use Rattle.document.proofs.Tables.{tabled_none}
use Rattle.document.proofs.slots.Gathering.new.Goals as goal

pub returns : goal.returns
returns c = record { holds = tabled_none }
