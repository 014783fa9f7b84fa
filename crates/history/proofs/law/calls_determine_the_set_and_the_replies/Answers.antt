use Rattle.history.proofs.Determining.{determined}
use Rattle.history.proofs.law.calls_determine_the_set_and_the_replies.Goals as goal

pub returns : goal.returns
returns c = determined
