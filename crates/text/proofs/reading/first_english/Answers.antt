use Rattle.std.proofs.Common.{◌≡◌, ◌+◌, ◌-◌, false, true, Some, drop, sym, ap, ◌∙◌, arith}
use Rattle.text.specs.Structure.{string_at}
use Rattle.text.specs.Reading.{english}
use Rattle.text.proofs.Found.{found, here, further}
use Rattle.text.proofs.reading.first_english.Goals as goal

pub loop-preserved : goal.loop-preserved
loop-preserved c =
    let s = c.loop.rest.now in
    let left = c.args.strings.left - (c.loop.counter + 1) in
    let other : english (string_at s).language ≡ false = ap (λ t. english t.language) (sym c.read-string.ensures.value) ∙ sym c.if-is_english.ensures.value in
    ap (found left) c.after-rest.ensures.value ∙ ap (λ n. found left (drop n s)) c.size_of.ensures.value
    ∙ further c.args.strings.left c.loop.counter s c.loop-test.true other c.loop.invariant

pub returns-then-is_english : goal.returns-then-is_english
returns-then-is_english c =
    let s = c.loop.rest.now in
    let this : english (string_at s).language ≡ true = ap (λ t. english t.language) (sym c.read-string.ensures.value) ∙ sym c.if-is_english.ensures.value in
    record { value = ap Some c.read-string.ensures.value ∙ here c.args.strings.left c.loop.counter s c.loop-test.true this c.loop.invariant }

pub returns : goal.returns
returns c =
    let none : c.args.strings.left - c.loop.counter ≡ 0 = omega (arith, c.loop-test.false) in
    record { value = sym (ap (λ n. found n c.loop.rest.now) none) ∙ c.loop.invariant }
