use Rattle.std.proofs.Common.{◌≡◌, ◌-◌}
use Rattle.text.proofs.Found.{found}
use Rattle.text.proofs.reading.first_english.Given as goal

abbrev pub invariant-loop : goal.invariant-loop
invariant-loop l = found (l.strings.left - l.counter) l.rest ≡ found l.strings.left l.strings.rest.now
