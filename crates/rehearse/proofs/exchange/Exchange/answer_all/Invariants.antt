use denote.Param.Always.{always_mut}
use Rattle.rehearse.specs.Exchanges.{NothingWaits}
use Rattle.rehearse.proofs.exchange.Exchange.answer_all.Given as goal

abbrev pub invariant-loop : goal.invariant-loop
invariant-loop g l = record {
  callable : always_mut g.F.FnMut l.initial.answer → always_mut g.F.FnMut l.answer;
  written : NothingWaits l.fn.self → NothingWaits l.self;
}
