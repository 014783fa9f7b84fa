use Rattle.std.proofs.Common.{◌+◌, ◌*◌, [], ◌++◌, get_or, take, drop, set, ap, ◌∙◌, arith}
use Rattle.lines.specs.Hex.{is_digit, worth, decoded}
use Rattle.lines.proofs.Digits.{digit_at, pair_at, pairs_more}
use Rattle.lines.proofs.hex.put_pairs.Goals as goal

pub pair-requires : goal.pair-requires
pair-requires c =
    let text = c.args.text.now in
    let i = c.loop-i.i in
    let pair = ap (λ t. get_or t i []) c.as_chunks.ensures.front ∙ pair_at text i (omega (arith, c.as_chunks.ensures.front_len)) in
    record {
      high = ap (λ t. is_digit (get_or t 0 0)) pair ∙ digit_at text (2 * i) (omega (arith, c.as_chunks.ensures.front_len)) c.requires.digits;
      low = ap (λ t. is_digit (get_or t 1 0)) pair ∙ digit_at text (2 * i + 1) (omega (arith, c.as_chunks.ensures.front_len)) c.requires.digits;
    }

pub loop-i-preserved : goal.loop-i-preserved
loop-i-preserved c =
    let text = c.args.text.now in
    let i = c.loop-i.i in
    let fits = c.requires.fits in
    let pair = ap (λ t. get_or t i []) c.as_chunks.ensures.front ∙ pair_at text i (omega (arith, c.as_chunks.ensures.front_len)) in
    ap (λ t. set t i c.pair.result) c.loop-i.invariant
    ∙ ap (set (decoded (take (2 * i) text) ++ drop i c.args.room.now) i) (c.pair.ensures.value ∙ ap (λ t. 16 * worth (get_or t 0 0) + worth (get_or t 1 0)) pair)
    ∙ pairs_more text c.args.room.now i (omega (arith, c.as_chunks.ensures.front_len)) (omega (arith, c.as_chunks.ensures.front_len))
