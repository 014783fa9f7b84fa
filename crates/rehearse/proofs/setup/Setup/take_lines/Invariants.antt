use Rattle.std.proofs.Common.{◌≤◌, length}
use Rattle.rehearse.specs.Exchanges.{NothingWaits}
use Rattle.rehearse.proofs.setup.Setup.take_lines.Given as goal

abbrev pub invariant-loop : goal.invariant-loop
invariant-loop l = record {
  bound : length l.fn.self.table.items ≤ 257 → length l.self.table.items ≤ 257;
  written : NothingWaits l.fn.exchange → NothingWaits l.exchange;
}
