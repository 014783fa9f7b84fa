use Rattle.std.proofs.Common.{◌+◌, ◌-◌, Some, None, length, take, drop, sym, ap, ◌∙◌, arith, length-drop}
use Rattle.std.proofs.lemmas.List.{take_all}
use Rattle.lines.proofs.Feeds.{first_mark, mark_found}
use Rattle.script.proofs.parts.split_once.Goals as goal

pub returns-in_err-at : goal.returns-in_err-at
returns-in_err-at c = record { cases = rw (c.from_residual.ensures) (sym (mark_found c.args.mark c.args.text.now None c.in_err-at.ensures)) }

pub returns : goal.returns
returns c =
    let text = c.args.text.now in
    let at = c.in_ok-at.at in
    let first = first_mark c.args.mark text (Some at) c.in_ok-at.ensures in
    record {
      cases = (
        sym (mark_found c.args.mark text (Some at) c.in_ok-at.ensures),
        ap (λ n. take n text) first,
        take_all (length text - (at + 1)) (drop (at + 1) text) (omega (arith, length-drop (at + 1) text)) ∙ ap (λ n. drop (n + 1) text) first,
      );
    }
