use Rattle.std.proofs.Common.{◌≡◌, false, sym, subst, ◌∙◌}
use Rattle.script.specs.Parts.{has_mark, after_mark}
use Rattle.script.proofs.Lacking.{no_comma}
use Rattle.script.proofs.service.read_service.Goals as goal

pub returns-in_err-minor : goal.returns-in_err-minor
returns-in_err-minor c =
    let rest : c.in_ok-major.rest.now ≡ after_mark 0x2D c.args.text.now = c.in_ok-major.ensures.cases.2 in
    record {
      value = c.from_residual-in_err-minor.ensures
          ∙ sym (no_comma _ _ (after_mark 0x2D c.args.text.now) (after_mark 0x2C (after_mark 0x2D c.args.text.now)) (subst (λ r. has_mark 0x2C r ≡ false) rest c.in_err-minor.ensures.cases));
    }
