use Rattle.std.proofs.Common.{◌≡◌, ◌*◌, ◌/◌, ◌%◌, ◌^◌, get_or, ap, ◌∙◌, arith}
use lib.Bits.{bit_xor}
use Rattle.checkword.specs.Register.{moves, moved}
use Rattle.checkword.proofs.Steps.{entry, table, by_table}
use Rattle.checkword.proofs.register.enter.Goals as goal

pub returns : goal.returns
unfolding entry moves moved
returns c =
    let r = c.args.register in
    let b = c.args.byte in
    let first : get_or c.to_be_bytes.result 0 0 ≡ r / 2 ^ 24 % 256 = ap (λ l. get_or l 0 0) c.to_be_bytes.ensures in
    let top : get_or c.to_be_bytes.result 0 0 ≡ r / 2 ^ 24 = omega (arith, first) in
    let index : c.from.result ≡ bit_xor (r / 2 ^ 24) b = c.from.ensures ∙ ap (λ t. bit_xor t b) top in
    (λ i. bit_xor (r * 256 % 2 ^ 32) (get_or table (index i) 0)) ∙ by_table r b (omega arith) (omega arith)
