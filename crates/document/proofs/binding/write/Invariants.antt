use Rattle.std.proofs.Common.{◌≡◌, ◌++◌, length, take, drop}
use Rattle.document.specs.Tables.{pieces}
use Rattle.document.proofs.binding.write.Given as goal

abbrev pub invariant-loop-slot : goal.invariant-loop-slot
invariant-loop-slot l =
    (l.done ≡ length (pieces l.area (take l.slot-index l.slots)))
    × (l.work ≡ pieces l.area (take l.slot-index l.slots) ++ drop l.done l.initial.work)
