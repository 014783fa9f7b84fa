use Rattle.receiver.proofs.Looking.{home_listed}
use Rattle.receiver.proofs.receiver.Receiver.home.Goals as goal

pub returns-clause-on_the_list : goal.returns-clause-on_the_list
returns-clause-on_the_list g c = home_listed g.S.Set.meaning c.args.self.now
