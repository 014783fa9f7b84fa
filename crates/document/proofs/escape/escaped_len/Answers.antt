use Rattle.std.proofs.Common.{◌≡◌, sum_by, length, rules, ◌∙◌, sym, ap, arith}
use Rattle.std.proofs.lemmas.List.Concat.{length-flat_map}
use Rattle.document.specs.Escaping.{escaped}
use Rattle.document.proofs.Escapes.{escape_is, escape_short}
use Rattle.document.proofs.escape.escaped_len.Goals as goal

pub returns-clause-value : goal.returns-clause-value
returns-clause-value c =
    let e : c.sum.result ≡ sum_by (λ b. length (escaped b)) c.args.words.now = search rules in
    e ∙ sym (ap length (escape_is c.args.words.now) ∙ length-flat_map escaped c.args.words.now)

pub returns-clause-bound : goal.returns-clause-bound
returns-clause-bound c =
    let e : c.sum.result ≡ sum_by (λ b. length (escaped b)) c.args.words.now = search rules in
    omega (arith, escape_short c.args.words.now, ap length (escape_is c.args.words.now) ∙ length-flat_map escaped c.args.words.now)
