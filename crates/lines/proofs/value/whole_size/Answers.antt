use Rattle.std.proofs.Common.{◌/◌, ◌%◌, cond, eqb, leb, ◌++◌, length, drop, Err, sym, ap, ◌∙◌}
use Rattle.lines.specs.Hex.{all_digits, decoded}
use Rattle.lines.proofs.Sizing.{ok_tests, room_tests}
use Rattle.lines.proofs.value.whole_size.Goals as goal

pub returns-in-Ok-clause-after : goal.returns-in-Ok-clause-after
returns-in-Ok-clause-after c =
    let text = c.args.digits.now in
    let room = c.args.room.now in
    let n = c.in-Ok.n in
    let tests = ok_tests (all_digits text) (eqb (length text % 2) 0) (leb (length text / 2) (length room)) (length text / 2) n c.in-Ok.ensures.value in
    c.in-Ok.ensures.after ∙ ap (λ t. cond t (decoded text ++ drop n room) room) (sym (ap (λ k. leb k (length room)) tests.1 ∙ tests.2))

pub returns-in-Err-Room-clause-after : goal.returns-in-Err-Room-clause-after
returns-in-Err-Room-clause-after c =
    let text = c.args.digits.now in
    let room = c.args.room.now in
    let n = length text / 2 in
    let tests = room_tests (all_digits text) (eqb (length text % 2) 0) (leb n (length room)) n (ap Err (sym c.in-Err-Room.field-0-is) ∙ c.in-Err-Room.ensures.value) in
    c.in-Err-Room.ensures.after ∙ ap (λ t. cond t (decoded text ++ drop n room) room) (sym tests.1)
