use Rattle.std.proofs.Common.{◌≡◌, ℕ, ◌+◌, ◌*◌, ◌^◌, ◌<◌, get_or, ◌∙◌, arith}
use lib.Bits.{bit_xor}
use Rattle.checkword.specs.Register.{moves}
use Rattle.checkword.proofs.Split.{by_words, eight}
use Rattle.checkword.proofs.register.enter_eight.Goals as goal

pub returns : goal.returns
returns c =
    let bs = c.args.bytes.now in
    let r = c.args.register in
    let b = λ (k : ℕ). get_or bs k 0 in
    let fit : (k : ℕ) → b k < 2 ^ 8 = c.fits-bytes in
    let high : c.from_be_bytes-high.result ≡ b 0 * 2 ^ 24 + (b 1 * 2 ^ 16 + (b 2 * 2 ^ 8 + b 3)) = omega (arith, c.from_be_bytes-high.ensures) in
    let low : c.from_be_bytes-low.result ≡ b 4 * 2 ^ 24 + (b 5 * 2 ^ 16 + (b 6 * 2 ^ 8 + b 7)) = omega (arith, c.from_be_bytes-low.ensures) in
    (λ i. bit_xor ((c.through_eight.ensures ∙ (λ j. moves 64 (bit_xor r (high j)))) i) ((c.through_four.ensures ∙ (λ j. moves 32 (low j))) i))
    ∙ by_words r (b 0) (b 1) (b 2) (b 3) (b 4) (b 5) (b 6) (b 7) c.ranges.register.fits (fit 0) (fit 1) (fit 2) (fit 3) (fit 4) (fit 5) (fit 6) (fit 7)
    ∙ eight r bs c.told-bytes
