-- Laws of the check register. Assumes nothing.
use Rattle.std.proofs.Common.{◌≡◌, ℕ, zero, suc, ◌+◌, ◌*◌, ◌/◌, ◌%◌, ◌^◌, ◌<◌, List, map, get_or, sym, refl, ap, ◌∙◌, add-zero, mul_assoc, pow-suc, mul-one, arith}
use lib.Bits.{bit_xor, xor_zero_r, xor_shr, xor_mod, xor_block, xor_assoc, xor_comm, xor_lt, xor_shifted}
use Rattle.std.specs.List.{range_with_len}
use Rattle.std.proofs.lemmas.List.FromFn.{get_or-map-range_with_len}
use Rattle.checkword.specs.Register.{moved, moves, entered}

-- nothing leaves
pub moved_low : (r : ℕ) → r < 2 ^ 31 → moved r ≡ r * 2
unfolding moved
moved_low r h =
    let m : r % 2 ^ 31 ≡ r = omega arith in
    let d : r / 2 ^ 31 ≡ 0 = omega arith in
    ap (λ x. bit_xor (x * 2) (r / 2 ^ 31 * 0x04C11DB7)) m ∙ ap (λ x. bit_xor (r * 2) (x * 0x04C11DB7)) d ∙ xor_zero_r (r * 2)

pub moved_lt : (r : ℕ) → r < 2 ^ 32 → moved r < 2 ^ 32
unfolding moved
moved_lt r h =
    let d : r / 2 ^ 31 < 2 = omega arith in
    xor_lt 32 (r % 2 ^ 31 * 2) (r / 2 ^ 31 * 0x04C11DB7) (omega arith) (omega arith)

pub moves_lt : (n r : ℕ) → r < 2 ^ 32 → moves n r < 2 ^ 32
unfolding moves
moves_lt zero r h = h
moves_lt (suc n) r h = moved_lt (moves n r) (moves_lt n r h)

-- at bits, the product with the polynomial goes over the sum
times : (u v : ℕ) → u < 2 → v < 2 → bit_xor u v * 0x04C11DB7 ≡ bit_xor (u * 0x04C11DB7) (v * 0x04C11DB7)
times zero zero g h = refl
times zero (suc zero) g h = refl
times (suc zero) zero g h = refl
times (suc zero) (suc zero) g h = refl
times zero (suc (suc v)) g h = absurd (omega arith)
times (suc zero) (suc (suc v)) g h = absurd (omega arith)
times (suc (suc u)) v g h = absurd (omega arith)

regroup : (a b c d : ℕ) → bit_xor (bit_xor a b) (bit_xor c d) ≡ bit_xor (bit_xor a c) (bit_xor b d)
regroup a b c d =
    xor_assoc a b (bit_xor c d) ∙ ap (bit_xor a) (sym (xor_assoc b c d) ∙ ap (λ x. bit_xor x d) (xor_comm b c) ∙ xor_assoc c b d)
    ∙ sym (xor_assoc a c (bit_xor b d))

double_xor : (a b : ℕ) → bit_xor a b * 2 ≡ bit_xor (a * 2) (b * 2)
double_xor a b =
    sym (add-zero (bit_xor a b * 2)) ∙ sym (xor_block 1 a b 0 0 (omega arith) (omega arith))
    ∙ (λ i. bit_xor (add-zero (a * 2) i) (add-zero (b * 2) i))

pub moved_xor : (a b : ℕ) → a < 2 ^ 32 → b < 2 ^ 32 → moved (bit_xor a b) ≡ bit_xor (moved a) (moved b)
unfolding moved
moved_xor a b g h =
    let u : a / 2 ^ 31 < 2 = omega arith in
    let v : b / 2 ^ 31 < 2 = omega arith in
    let low : bit_xor a b % 2 ^ 31 * 2 ≡ bit_xor (a % 2 ^ 31 * 2) (b % 2 ^ 31 * 2) =
    ap (λ x. x * 2) (xor_mod a b 31) ∙ double_xor (a % 2 ^ 31) (b % 2 ^ 31) in
    let high : bit_xor a b / 2 ^ 31 * 0x04C11DB7 ≡ bit_xor (a / 2 ^ 31 * 0x04C11DB7) (b / 2 ^ 31 * 0x04C11DB7) =
    ap (λ x. x * 0x04C11DB7) (xor_shr a b 31) ∙ times _ _ u v in
    (λ i. bit_xor (low i) (high i)) ∙ regroup (a % 2 ^ 31 * 2) (b % 2 ^ 31 * 2) (a / 2 ^ 31 * 0x04C11DB7) (b / 2 ^ 31 * 0x04C11DB7)

pub moves_xor : (n a b : ℕ) → a < 2 ^ 32 → b < 2 ^ 32 → moves n (bit_xor a b) ≡ bit_xor (moves n a) (moves n b)
unfolding moves
moves_xor zero a b g h = refl
moves_xor (suc n) a b g h =
    ap moved (moves_xor n a b g h) ∙ moved_xor (moves n a) (moves n b) (moves_lt n a g) (moves_lt n b h)

-- as long as nothing leaves
pub moves_low : (n x : ℕ) → x * 2 ^ n < 2 ^ 32 → moves n x ≡ x * 2 ^ n
unfolding moves
moves_low zero x h = sym (mul-one x)
moves_low (suc n) x h =
    let e : x * 2 ^ suc n ≡ x * 2 ^ n * 2 = ap (λ p. x * p) (pow-suc 2 n) ∙ sym (mul_assoc x (2 ^ n) 2) in
    ap moved (moves_low n x (omega arith)) ∙ moved_low (x * 2 ^ n) (omega arith) ∙ sym e

-- a byte at a time
pub entered_at_once : (r b : ℕ) → r < 2 ^ 32 → b < 2 ^ 8 → entered r b ≡ bit_xor (r * 2 ^ 8 % 2 ^ 32) (moves 8 (bit_xor (r / 2 ^ 24) b * 2 ^ 24))
unfolding entered
entered_at_once r b g h =
    let hi = bit_xor (r / 2 ^ 24) b in
    let lo = r % 2 ^ 24 in
    let small : hi < 2 ^ 8 = xor_lt 8 (r / 2 ^ 24) b (omega arith) h in
    let parts : r ≡ r / 2 ^ 24 * 2 ^ 24 + r % 2 ^ 24 = omega arith in
    let zeros : b * 2 ^ 24 ≡ b * 2 ^ 24 + 0 = omega arith in
    let split : bit_xor r (b * 2 ^ 24) ≡ bit_xor (hi * 2 ^ 24) lo =
    (λ i. bit_xor (parts i) (zeros i)) ∙ xor_block 24 (r / 2 ^ 24) b lo 0 (omega arith) (omega arith)
    ∙ ap (λ x. hi * 2 ^ 24 + x) (xor_zero_r lo) ∙ sym (xor_shifted hi 24 lo (omega arith)) in
    let moved : moves 8 lo ≡ r * 2 ^ 8 % 2 ^ 32 = moves_low 8 lo (omega arith) ∙ omega arith in
    ap (moves 8) split ∙ moves_xor 8 (hi * 2 ^ 24) lo (omega arith) (omega arith) ∙ ap (bit_xor (moves 8 (hi * 2 ^ 24))) moved
    ∙ xor_comm (moves 8 (hi * 2 ^ 24)) (r * 2 ^ 8 % 2 ^ 32)

-- what each value at the top becomes
unfoldable pub entry : ℕ → ℕ
entry k = moves 8 (k * 2 ^ 24)

abbrev pub table : List ℕ
table = map entry (range_with_len 0 256)

pub by_table : (r b : ℕ) → r < 2 ^ 32 → b < 2 ^ 8
    → bit_xor (r * 2 ^ 8 % 2 ^ 32) (get_or table (bit_xor (r / 2 ^ 24) b) 0) ≡ entered r b
unfolding entry
by_table r b g h =
    let k = bit_xor (r / 2 ^ 24) b in
    let small : k < 2 ^ 8 = xor_lt 8 (r / 2 ^ 24) b (omega arith) h in
    ap (bit_xor (r * 2 ^ 8 % 2 ^ 32)) (get_or-map-range_with_len entry 0 256 k k 0 small (omega arith)) ∙ sym (entered_at_once r b g h)
