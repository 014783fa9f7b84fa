use Rattle.std.proofs.Common.{rules, of_calls, OnOk, refl}
use Rattle.std.specs.Fn.{CalledWithState}
use Rattle.rehearse.specs.Exchanges.{NothingWaits}
use Rattle.rehearse.proofs.exchange.Exchange.answer_all.Goals as goal

pub loop-init : goal.loop-init
loop-init g c = record {
  callable = λ k. k;
  written = λ h.
      let call : CalledWithState g.F.FnMut c.args.answer c.args.self.now c.args.first c.answer.result c.answer.new.self c.answer.new.arg2 =
      record { shown = _; shows = refl; left = _; called = c.answer.ensures; leaves = refl } in
      let kept : OnOk c.answer.result (NothingWaits c.answer.new.arg2) = c.requires.written _ _ _ _ _ _ call h in
      rw c.in_ok-answer.was at kept;
}

pub loop-preserved : goal.loop-preserved
loop-preserved g c = record {
  callable = search of_calls;
  written = λ h.
      let before : NothingWaits c.next.new.self = search rules in
      let call : CalledWithState g.F.FnMut c.loop.answer c.next.new.self c.in-Some.asked c.answer-in-loop.result c.answer-in-loop.new.self c.answer-in-loop.new.arg2 =
      record { shown = _; shows = refl; left = _; called = c.answer-in-loop.ensures; leaves = refl } in
      let kept : OnOk c.answer-in-loop.result (NothingWaits c.answer-in-loop.new.arg2) = c.requires.written _ _ _ _ _ _ call before in
      rw c.in_ok-answer-2.was at kept;
}
