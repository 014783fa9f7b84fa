use Rattle.history.proofs.Edging.{edge_cases}
use Rattle.history.proofs.law.edge_cases_stand.Goals as goal

pub returns : goal.returns
returns c = edge_cases
