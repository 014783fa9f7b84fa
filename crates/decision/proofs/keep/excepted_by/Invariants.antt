use Rattle.std.proofs.Common.{◌≡◌, ℕ, ◌<◌, false, None, length, get_or}
use Rattle.section.specs.Origins.{bytes_of}
use Rattle.section.specs.Rules.{refusal}
use Rattle.sets.specs.Meaning.{service_at}
use Rattle.decision.specs.Alerts.{Marked}
use Rattle.decision.proofs.keep.excepted_by.Given as goal

abbrev pub invariant-loop-k : goal.invariant-loop-k
invariant-loop-k g l =
    (length l.mark-items ≡ 256)
    × (0 < l.k → refusal (bytes_of l.section) ≡ None)
    × ((j : ℕ) → j < l.k → Marked (bytes_of l.section) l.path (service_at (g.S.Set.meaning l.set).services j) (get_or l.mark-items j false))
