use Rattle.std.proofs.Common.{◌≡◌, cond, ltb, fold, bit_or, ap, ◌∙◌, rules}
use Rattle.std.proofs.iter.runs.Made.{chains}
use Rattle.lines.specs.Hex.{is_digit, worth}
use Rattle.lines.proofs.Digits.{seen_digits}
use Rattle.lines.proofs.hex.all_digits.Goals as goal

pub returns : goal.returns
returns c =
    let seen : c.fold.result ≡ fold (λ s b. bit_or s (cond (is_digit b) (worth b) 255)) 0 c.args.text.now = search (rules, chains) in
    record { value = ap (λ n. ltb n 16) seen ∙ seen_digits c.args.text.now 0 }
