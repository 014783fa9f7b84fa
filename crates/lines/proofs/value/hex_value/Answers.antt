use Rattle.std.proofs.Common.{◌<◌, cond, length, drop, None, sym, ap, ◌∙◌}
use Rattle.std.proofs.lemmas.Bool.{leb-false}
use Rattle.lines.specs.Ends.{unreturned}
use Rattle.lines.specs.Keys.{begins, pairs}
use Rattle.lines.proofs.Tailing.{key_in_first}
use Rattle.lines.proofs.value.hex_value.Goals as goal

pub returns-in_ok-value_after-2-clause-value : goal.returns-in_ok-value_after-2-clause-value
returns-in_ok-value_after-2-clause-value c =
    let most = c.args.line.now.most in
    let key = c.args.key.now in
    λ text holds small k.
    let long : most < length text = leb-false (length text) most (sym (c.if-is_whole.ensures.held text holds)) in
    let bytes = c.bytes-else-is_whole.ensures.held text holds in
    let there = c.in_ok-value_after-2.ensures.cases in
    c.long_size.ensures.value text holds small (length key) long k (there.1 ∙ ap (drop (length key)) bytes)
    ∙ ap (λ t. cond t (pairs (drop (length key) (unreturned text))) None) (sym there.0 ∙ ap (begins key) bytes ∙ key_in_first text key most long k)
