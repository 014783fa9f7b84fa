use Rattle.std.proofs.Common.{◌≡◌, ◌++◌, map, length, take, drop}
use Rattle.history.specs.Replies.{event}
use Rattle.history.proofs.Running.{Upto, RefusedUpto, AskedUpto}
use Rattle.receiver.specs.Stood.{Stood, WhateverCame}
use Rattle.receiver.proofs.runs.carry_on.Given as goal

-- where the receiver has come to, the replies written, the rest of their buffer, and what stays as it was
abbrev pub invariant-loop-i : goal.invariant-loop-i
invariant-loop-i g l =
    WhateverCame g.S.Set.meaning l.initial.receiver (λ s h. Stood g.S.Set.meaning s (h ++ take l.i (map event l.calls)) l.receiver)
    × WhateverCame g.S.Set.meaning l.initial.receiver (λ s h. Upto s h (map event l.calls) l.replies l.i)
    × (drop (length l.calls) l.replies ≡ drop (length l.calls) l.initial.replies)
    × WhateverCame g.S.Set.meaning l.initial.receiver (λ s h. RefusedUpto s h (map event l.calls) l.i → l.receiver ≡ l.initial.receiver)
    × WhateverCame g.S.Set.meaning l.initial.receiver (λ s h. AskedUpto s h (map event l.calls) l.i (g.S.Set.meaning l.initial.receiver.set) → l.receiver.set ≡ l.initial.receiver.set)
