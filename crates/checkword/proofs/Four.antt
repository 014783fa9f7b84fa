-- Four bytes at once. Assumes nothing.
use Rattle.std.proofs.Common.{◌≡◌, ℕ, zero, suc, ◌+◌, ◌*◌, ◌^◌, ◌<◌, sym, refl, ap, ◌∙◌, suc-add, zero-add, arith}
use lib.Bits.{bit_xor, xor_lt}
use Rattle.checkword.specs.Register.{moved, moves, entered}
use Rattle.checkword.proofs.Steps.{moves_xor, moves_low}

pub moves_add : (m n x : ℕ) → moves m (moves n x) ≡ moves (m + n) x
unfolding moves
moves_add zero n x = ap (λ k. moves k x) (sym (zero-add n))
moves_add (suc m) n x = ap moved (moves_add m n x) ∙ ap (λ k. moves k x) (sym (suc-add m n))

-- a byte that is entered after n bits goes in n bits lower
later : (n x b y : ℕ) → x < 2 ^ 32 → y < 2 ^ 32 → y * 2 ^ n ≡ b * 2 ^ 24 → b < 2 ^ 8 → entered (moves n x) b ≡ moves (8 + n) (bit_xor x y)
unfolding entered
later n x b y g h e k =
    ap (λ t. moves 8 (bit_xor (moves n x) t)) (sym e ∙ sym (moves_low n y (omega arith)))
    ∙ ap (moves 8) (sym (moves_xor n x y g h)) ∙ moves_add 8 n (bit_xor x y)

pub four : (r a b c d : ℕ) → r < 2 ^ 32 → a < 2 ^ 8 → b < 2 ^ 8 → c < 2 ^ 8 → d < 2 ^ 8
    → entered (entered (entered (entered r a) b) c) d ≡ moves 32 (bit_xor (bit_xor (bit_xor (bit_xor r (a * 2 ^ 24)) (b * 2 ^ 16)) (c * 2 ^ 8)) d)
unfolding entered
four r a b c d g ha hb hc hd =
    let x1 = bit_xor r (a * 2 ^ 24) in
    let x2 = bit_xor x1 (b * 2 ^ 16) in
    let x3 = bit_xor x2 (c * 2 ^ 8) in
    let h1 : x1 < 2 ^ 32 = xor_lt 32 r (a * 2 ^ 24) g (omega arith) in
    let h2 : x2 < 2 ^ 32 = xor_lt 32 x1 (b * 2 ^ 16) h1 (omega arith) in
    let h3 : x3 < 2 ^ 32 = xor_lt 32 x2 (c * 2 ^ 8) h2 (omega arith) in
    ap (λ t. entered (entered t c) d) (later 8 x1 b (b * 2 ^ 16) h1 (omega arith) (omega arith) hb)
    ∙ ap (λ t. entered t d) (later 16 x2 c (c * 2 ^ 8) h2 (omega arith) (omega arith) hc)
    ∙ later 24 x3 d d h3 (omega arith) refl hd
