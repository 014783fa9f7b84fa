use Rattle.lines.specs.Ends.{before_feed}
use Rattle.lines.proofs.Feeds.{none_before}
use Rattle.lines.proofs.reading.take_held.Goals as goal

pub returns-clause-after : goal.returns-clause-after
returns-clause-after g c =
    λ line holds. (before_feed c.in-Ok.held.now, none_before c.in-Ok.held.now, c.in_ok-taken.ensures.cases.2 line holds)
