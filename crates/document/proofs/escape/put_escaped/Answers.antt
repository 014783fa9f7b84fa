use Rattle.std.proofs.Common.{◌≡◌, ◌+◌, ◌++◌, length, take, drop, ap, arith, ◌∙◌, length-take-le}
use Rattle.std.proofs.lemmas.List.Folds.{length-flat_map-take}
use Rattle.document.specs.Escaping.{escaped}
use Rattle.document.proofs.Escapes.{put_on, escape_is}
use Rattle.document.proofs.escape.put_escaped.Goals as goal

pub put-at-requires : goal.put-at-requires
put-at-requires c =
    let r = length-flat_map-take escaped c.args.words.now c.loop-byte.byte-index 0 (omega arith) in
    let so_far = ap length (escape_is (take c.loop-byte.byte-index c.args.words.now)) in
    let whole = ap length (escape_is c.args.words.now) in
    omega (arith, ap length c.escaped.ensures.value)

pub loop-byte-preserved : goal.loop-byte-preserved
loop-byte-preserved c =
    let words = c.args.words.now in
    let i = c.loop-byte.byte-index in
    let front = take c.args.at c.args.out.now in
    let size : length front ≡ c.args.at = length-take-le c.args.at c.args.out.now (omega arith) in
    let so_far = escape_is (take i words) in
    let more = escape_is (take (i + 1) words) in
    let n = ap length so_far in
    let whole = ap length (escape_is words) in
    let s = put_on escaped words i 0 front c.args.out.now c.loop-byte.out c.loop-byte.at (omega arith) (omega arith) (c.loop-byte.invariant.1 ∙ ap (λ e. (front ++ e) ++ drop c.loop-byte.at c.args.out.now) so_far) (omega arith) in
    let y = c.escaped.ensures.value in
    let l = ap length y in
    let m = ap length more in
    (omega arith, cc)
