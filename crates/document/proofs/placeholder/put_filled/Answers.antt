use Rattle.std.proofs.Common.{◌≡◌, ◌+◌, length, arith, ◌∙◌}
use Rattle.document.specs.Escaping.{escape}
use Rattle.document.proofs.Escapes.{filled_parts}
use Rattle.document.proofs.placeholder.put_filled.Goals as goal

pub returns : goal.returns
returns c =
    let s = c.split_at.ensures in
    let f = filled_parts c.split_at.result.0.now (escape c.args.words.now) c.split_at.result.1.now c.args.out.now c.put-here.new.out
    c.put_escaped-there.new.out c.put.new.out c.put-here.result c.put_escaped-there.result
    (omega (arith, c.requires.room, s.front_len, s.back_len)) c.put-here.ensures.value c.put-here.ensures.after c.put_escaped-there.ensures.value
    c.put_escaped-there.ensures.after c.put.ensures.after in
    let l : length c.split_at.result.0.now + length c.split_at.result.1.now ≡ length c.args.document.now = omega (arith, s.front_len, s.back_len) in
    record { after = f ∙ rw (l, s.front, s.back) }
