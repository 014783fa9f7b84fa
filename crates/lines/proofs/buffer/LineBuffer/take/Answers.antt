use Rattle.std.proofs.Common.{ap, ◌∙◌, subst, ◌++◌}
use Rattle.lines.specs.Held.{Holds}
use Rattle.lines.proofs.Feeds.{cut_found, cut_nowhere}
use Rattle.lines.proofs.buffer.LineBuffer.take.Goals as goal
use Rattle.lines.proofs.buffer.LineBuffer.take.Goals.{in-Some, in-None}

pub returns-clause-cases : goal.returns-clause-cases
returns-clause-cases c =
    let held = c.args.held.now in
    elim c.match-memchr.branch [
      | in-Some w ↦
          let cut = cut_found held w.in-Some.end w.in-Some.ensures in (
            ap (λ t. t.1) w.count-is ∙ cut.0,
            ap (λ t. t.2) w.count-is ∙ cut.1,
            λ line holds. subst (λ piece. Holds c.keep.new.self (line ++ piece)) (ap (λ t. t.0.now) w.count-is ∙ cut.2) (c.in_ok-keep.ensures.cases line holds),
          )
      | in-None w ↦
          let cut = cut_nowhere held w.in-None.ensures in (
            ap (λ t. t.1) w.count-is ∙ cut.0,
            ap (λ t. t.2) w.count-is ∙ cut.1,
            λ line holds. subst (λ piece. Holds c.keep.new.self (line ++ piece)) (ap (λ t. t.0.now) w.count-is ∙ cut.2) (c.in_ok-keep.ensures.cases line holds),
          )
    ]
