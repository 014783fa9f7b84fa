use Rattle.std.proofs.Common.{◌≡◌, ◌+◌, ◌++◌, length, take, drop}
use Rattle.document.specs.Escaping.{escape}
use Rattle.document.proofs.escape.put_escaped.Given as goal

abbrev pub invariant-loop-byte : goal.invariant-loop-byte
invariant-loop-byte l =
    (l.at ≡ l.initial.at + length (escape (take l.byte-index l.words)))
    × (l.out ≡ (take l.initial.at l.initial.out ++ escape (take l.byte-index l.words)) ++ drop l.at l.initial.out)
