use Rattle.std.proofs.Common.{ap, ◌∙◌, arith}
use Rattle.lines.specs.Hex.{all_digits}
use Rattle.lines.specs.Keys.{paired}
use Rattle.lines.proofs.Tailing.{long_pairs}
use Rattle.lines.proofs.value.long_size.Goals as goal

pub returns-in_err-past : goal.returns-in_err-past
returns-in_err-past c =
    record {
      value = λ text holds small n long inside part.
          c.from_residual.ensures
          ∙ long_pairs c.args.line.now text c.args.kept.now n c.tail.result c.past.result _ (record { holds = holds; long = long; small = small; inside = inside; part = part }) c.tail.ensures.value c.past.ensures.value c.in_err-past.ensures.value;
    }

pub returns : goal.returns
returns c =
    record {
      value = λ text holds small n long inside part.
          c.pair_up.ensures.value ∙ ap (λ d. paired d c.in_ok-digits.digits) c.all_digits.ensures.value ∙ ap (paired (all_digits c.args.kept.now)) (omega (arith, c.in_ok-digits.ensures))
          ∙ long_pairs c.args.line.now text c.args.kept.now n c.tail.result c.past.result _ (record { holds = holds; long = long; small = small; inside = inside; part = part }) c.tail.ensures.value c.past.ensures.value c.in_ok-past.ensures.value;
    }
