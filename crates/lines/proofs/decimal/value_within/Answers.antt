use Rattle.std.proofs.Common.{◌≡◌, ◌^◌, min, fold, refl, arith, rules}
use Rattle.std.proofs.iter.runs.Made.{chains}
use Rattle.lines.specs.Decimal.{with_digit}
use Rattle.lines.proofs.Decimals.{cut_between}
use Rattle.lines.proofs.decimal.value_within.Goals as goal

pub returns : goal.returns
returns c =
    let value : c.fold.result ≡ fold (λ v b. with_digit (min (2 ^ 32) v) b) 0 c.args.text.now = search (rules, chains) in
    record { value = omega (arith, c.min.ensures, value, cut_between c.args.text.now 0 0 refl) }
