use Rattle.std.proofs.Common.{◌∙◌}
use Rattle.lines.proofs.Feeds.{mark_found}
use Rattle.lines.proofs.ends.has_feed.Goals as goal

pub returns : goal.returns
returns c = record { value = c.is_some.ensures ∙ mark_found 10 c.args.bytes.now c.memchr.result c.memchr.ensures }
