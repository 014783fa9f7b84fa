use Rattle.std.proofs.Common.{rules}
use Rattle.script.proofs.Made.{else_made}
use Rattle.script.proofs.words.read_path.Goals as goal

pub returns : goal.returns
returns c = record { value = else_made _ _ _ _ c.or_else.ensures (λ p. search rules) c.read_word.ensures.value }
