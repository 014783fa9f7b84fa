use Rattle.std.proofs.Common.{cond, leb, length, drop, Some, sym, refl, ap, ◌∙◌, arith}
use Rattle.lines.specs.Ends.{unreturned}
use Rattle.lines.specs.Keys.{put_into}
use Rattle.script.specs.Lines.{room_for}
use Rattle.script.proofs.Lining.{asked_by, whole_asks, whole_leaves, either_way}
use Rattle.script.proofs.reading.read_line.Goals as goal

pub returns-in-Some-hex_value : goal.returns-in-Some-hex_value
returns-in-Some-hex_value c =
    let most = c.args.line.now.most in
    let room = c.args.room.now in
    record {
      value = λ text holds small k.
          asked_by most text _ _ _ _ _ refl (c.if-is_comment.ensures.value text holds (omega arith))
          (c.in_default.ensures.value text holds small (omega arith)) (c.in-Some-hex_value.ensures.value text holds small (omega arith)) refl;
      after = λ text holds.
          c.in-Some-hex_value.ensures.after text holds
          ∙ ap (λ r. cond (leb (length text) most) (put_into r (drop 9 (unreturned text)) (Some c.in-Some-hex_value.size)) r)
          (c.in_default.ensures.after text holds ∙ either_way (leb (length text) most) room room refl);
    }

pub returns : goal.returns
returns c =
    let most = c.args.line.now.most in
    let room = c.args.room.now in
    record {
      value = λ text holds small k.
          whole_asks c.whole_text.result c.args.line.now text c.map_or.result holds c.whole_text.ensures.cases c.map_or.ensures
          ∙ asked_by most text _ _ (leb (length text) most) _ _ refl (c.if-is_comment.ensures.value text holds (omega arith))
          (c.in_default.ensures.value text holds small (omega arith)) (c.in_default-hex_value.ensures.value text holds small (omega arith)) refl;
      after = λ text holds.
          c.in_default-hex_value.ensures.after text holds ∙ either_way (leb (length text) most) c.hex_value.new.room c.hex_value.new.room refl
          ∙ c.in_default.ensures.after text holds ∙ either_way (leb (length text) most) room room refl
          ∙ sym (either_way (leb (length text) most) (room_for room (unreturned text) c.map_or.result) room
          (whole_leaves c.whole_text.result room (unreturned text) c.map_or.result c.map_or.ensures));
    }
