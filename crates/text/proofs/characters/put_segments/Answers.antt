use Rattle.std.proofs.Common.{◌≡◌, false, sym, ap, ◌∙◌, rules}
use Rattle.std.proofs.lemmas.Bool.{and_parts}
use Rattle.text.specs.Structure.{segments}
use Rattle.text.specs.Reading.{all_readable, characters, readable}
use Rattle.text.specs.Said.{said}
use Rattle.text.specs.Seen.{seen_segment}
use Rattle.text.specs.Filling.{filled, all_fit, spelled}
use Rattle.text.proofs.Fills.{more, stop}
use Rattle.text.proofs.characters.put_segments.Goals as goal

pub loop-segment-preserved : goal.loop-segment-preserved
loop-segment-preserved c =
    let words = said c.loop-segment.text in
    let next = segments c.next.new.self.left c.next.new.self.rest.now in
    let e = c.in-Some.ensures.steps in
    let inv = c.loop-segment.invariant in
    let m = more words (said c.put_segment.new.text) (spelled (seen_segment c.in-Some.segment)) (characters next) c.in_ok-put_segment.ensures.cases.0 c.in_ok-put_segment.ensures.cases.1 in (
      m.0 ∙ (sym (ap (λ l. all_fit words (characters l)) e) ∙ inv.0),
      m.1 ∙ (sym (ap (λ l. filled words (characters l)) e) ∙ inv.1),
      (and_parts (readable (seen_segment c.in-Some.segment)) (all_readable next) (sym (ap all_readable e) ∙ inv.2)).1,
    )

pub returns-in_err-put_segment : goal.returns-in_err-put_segment
returns-in_err-put_segment c =
    let words = said c.loop-segment.text in
    let next = segments c.next.new.self.left c.next.new.self.rest.now in
    let all = characters (segments c.args.segments.left c.args.segments.rest.now) in
    let e = c.in-Some.ensures.steps in
    let inv = c.loop-segment.invariant in
    let s = stop words (said c.put_segment.new.text) (spelled (seen_segment c.in-Some.segment)) (characters next) c.in_err-put_segment.ensures.cases.0 c.in_err-put_segment.ensures.cases.1 in
    let short : all_fit (said c.args.text.now) all ≡ false = sym inv.0 ∙ (ap (λ l. all_fit words (characters l)) e ∙ s.0) in
    let after : said c.put_segment.new.text ≡ filled (said c.args.text.now) all = s.1 ∙ (sym (ap (λ l. filled words (characters l)) e) ∙ inv.1) in
    search rules
