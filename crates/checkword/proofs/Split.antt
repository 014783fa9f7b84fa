-- A register as its four bytes, and each through a table of its own. Assumes nothing.
use Rattle.std.proofs.Common.{◌≡◌, ℕ, ◌+◌, ◌*◌, ◌/◌, ◌%◌, ◌^◌, ◌<◌, ◌≤◌, List, map, length, get_or, take, take_all, drop, fold, sym, refl, ap, ◌∙◌, arith}
use lib.Bits.{bit_xor, xor_assoc, xor_lt, xor_shifted}
use Rattle.std.specs.List.{range_with_len}
use Rattle.std.proofs.lemmas.List.FromFn.{get_or-map-range_with_len}
use Rattle.std.proofs.lemmas.List.{take-append-drop}
use Rattle.std.proofs.lemmas.List.Sums.{fold_more, fold-append}
use Rattle.checkword.specs.Register.{moves, entered}
use Rattle.checkword.proofs.Steps.{moves_xor, moves_low, moves_lt}
use Rattle.checkword.proofs.Four.{moves_add, four}

-- what a byte at the top becomes after n bits
unfoldable pub gone : ℕ → ℕ → ℕ
gone n k = moves n (k * 2 ^ 24)

abbrev pub gones : ℕ → List ℕ
gones n = map (gone n) (range_with_len 0 256)

-- a byte that stands m bits lower comes to the top first
lower : (t n m k y : ℕ) → t ≡ n + m → y * 2 ^ m ≡ k * 2 ^ 24 → k < 2 ^ 8 → moves t y ≡ gone n k
unfolding gone
lower t n m k y w e h = ap (λ i. moves i y) w ∙ sym (moves_add n m y) ∙ ap (moves n) (moves_low m y (omega arith) ∙ e)

bytes_of : (x : ℕ) → x < 2 ^ 32
    → x ≡ bit_xor (x / 2 ^ 24 * 2 ^ 24) (bit_xor (x / 2 ^ 16 % 256 * 2 ^ 16) (bit_xor (x / 2 ^ 8 % 256 * 2 ^ 8) (x % 256)))
bytes_of x h =
    let p = x / 2 ^ 24 in
    let q = x / 2 ^ 16 % 256 in
    let r = x / 2 ^ 8 % 256 in
    let s = x % 256 in
    let rs : bit_xor (r * 2 ^ 8) s ≡ r * 2 ^ 8 + s = xor_shifted r 8 s (omega arith) in
    let qs : bit_xor (q * 2 ^ 16) (r * 2 ^ 8 + s) ≡ q * 2 ^ 16 + (r * 2 ^ 8 + s) = xor_shifted q 16 (r * 2 ^ 8 + s) (omega arith) in
    let ps : bit_xor (p * 2 ^ 24) (q * 2 ^ 16 + (r * 2 ^ 8 + s)) ≡ p * 2 ^ 24 + (q * 2 ^ 16 + (r * 2 ^ 8 + s)) =
    xor_shifted p 24 (q * 2 ^ 16 + (r * 2 ^ 8 + s)) (omega arith) in
    let all : x ≡ p * 2 ^ 24 + (q * 2 ^ 16 + (r * 2 ^ 8 + s)) = omega arith in
    all ∙ sym (ap (λ t. bit_xor (p * 2 ^ 24) (bit_xor (q * 2 ^ 16) t)) rs ∙ ap (bit_xor (p * 2 ^ 24)) qs ∙ ps)

pub split : (n x : ℕ) → x < 2 ^ 32
    → moves (n + 24) x ≡ bit_xor (gone (n + 24) (x / 2 ^ 24)) (bit_xor (gone (n + 16) (x / 2 ^ 16 % 256)) (bit_xor (gone (n + 8) (x / 2 ^ 8 % 256)) (gone n (x % 256))))
unfolding gone
split n x h =
    let p = x / 2 ^ 24 in
    let q = x / 2 ^ 16 % 256 in
    let r = x / 2 ^ 8 % 256 in
    let s = x % 256 in
    let lr : bit_xor (r * 2 ^ 8) s < 2 ^ 32 = xor_lt 32 (r * 2 ^ 8) s (omega arith) (omega arith) in
    let lq : bit_xor (q * 2 ^ 16) (bit_xor (r * 2 ^ 8) s) < 2 ^ 32 = xor_lt 32 (q * 2 ^ 16) (bit_xor (r * 2 ^ 8) s) (omega arith) lr in
    let eq : moves (n + 24) (q * 2 ^ 16) ≡ gone (n + 16) q = lower (n + 24) (n + 16) 8 q (q * 2 ^ 16) (omega arith) (omega arith) (omega arith) in
    let er : moves (n + 24) (r * 2 ^ 8) ≡ gone (n + 8) r = lower (n + 24) (n + 8) 16 r (r * 2 ^ 8) (omega arith) (omega arith) (omega arith) in
    let es : moves (n + 24) s ≡ gone n s = lower (n + 24) n 24 s s refl refl (omega arith) in
    ap (moves (n + 24)) (bytes_of x h)
    ∙ moves_xor (n + 24) (p * 2 ^ 24) (bit_xor (q * 2 ^ 16) (bit_xor (r * 2 ^ 8) s)) (omega arith) lq
    ∙ ap (bit_xor (moves (n + 24) (p * 2 ^ 24)))
    (moves_xor (n + 24) (q * 2 ^ 16) (bit_xor (r * 2 ^ 8) s) (omega arith) lr
    ∙ (λ i. bit_xor (eq i) ((moves_xor (n + 24) (r * 2 ^ 8) s (omega arith) (omega arith) ∙ (λ j. bit_xor (er j) (es j))) i)))

-- four bytes go in as one number
pub as_word : (r a b c d : ℕ) → a < 2 ^ 8 → b < 2 ^ 8 → c < 2 ^ 8 → d < 2 ^ 8
    → bit_xor (bit_xor (bit_xor (bit_xor r (a * 2 ^ 24)) (b * 2 ^ 16)) (c * 2 ^ 8)) d ≡ bit_xor r (a * 2 ^ 24 + (b * 2 ^ 16 + (c * 2 ^ 8 + d)))
as_word r a b c d ha hb hc hd =
    let x = bit_xor r (a * 2 ^ 24) in
    let cd : bit_xor (c * 2 ^ 8) d ≡ c * 2 ^ 8 + d = xor_shifted c 8 d hd in
    let bd : bit_xor (b * 2 ^ 16) (c * 2 ^ 8 + d) ≡ b * 2 ^ 16 + (c * 2 ^ 8 + d) = xor_shifted b 16 (c * 2 ^ 8 + d) (omega arith) in
    let ad : bit_xor (a * 2 ^ 24) (b * 2 ^ 16 + (c * 2 ^ 8 + d)) ≡ a * 2 ^ 24 + (b * 2 ^ 16 + (c * 2 ^ 8 + d)) =
    xor_shifted a 24 (b * 2 ^ 16 + (c * 2 ^ 8 + d)) (omega arith) in
    xor_assoc (bit_xor x (b * 2 ^ 16)) (c * 2 ^ 8) d ∙ ap (bit_xor (bit_xor x (b * 2 ^ 16))) cd
    ∙ xor_assoc x (b * 2 ^ 16) (c * 2 ^ 8 + d) ∙ ap (bit_xor x) bd
    ∙ xor_assoc r (a * 2 ^ 24) (b * 2 ^ 16 + (c * 2 ^ 8 + d)) ∙ ap (bit_xor r) ad

pub by_word : (r a b c d : ℕ) → r < 2 ^ 32 → a < 2 ^ 8 → b < 2 ^ 8 → c < 2 ^ 8 → d < 2 ^ 8
    → moves 32 (bit_xor r (a * 2 ^ 24 + (b * 2 ^ 16 + (c * 2 ^ 8 + d)))) ≡ entered (entered (entered (entered r a) b) c) d
by_word r a b c d g ha hb hc hd = sym (four r a b c d g ha hb hc hd ∙ ap (moves 32) (as_word r a b c d ha hb hc hd))

-- a table's entry
pub read : (n k : ℕ) → k < 256 → get_or (gones n) k 0 ≡ gone n k
read n k h = get_or-map-range_with_len (gone n) 0 256 k k 0 h (omega arith)

-- the tables that take 32, 24, 16 and 8 bits
pub four_reads : (x : ℕ) → x < 2 ^ 32
    → bit_xor (get_or (gones 32) (x / 2 ^ 24) 0) (bit_xor (get_or (gones 24) (x / 2 ^ 16 % 256) 0) (bit_xor (get_or (gones 16) (x / 2 ^ 8 % 256) 0) (get_or (gones 8) (x % 256) 0))) ≡ moves 32 x
four_reads x h =
    (λ i. bit_xor (read 32 (x / 2 ^ 24) (omega arith) i) (bit_xor (read 24 (x / 2 ^ 16 % 256) (omega arith) i) (bit_xor (read 16 (x / 2 ^ 8 % 256) (omega arith) i) (read 8 (x % 256) (omega arith) i))))
    ∙ sym (split 8 x h)

pub eight_reads : (x : ℕ) → x < 2 ^ 32
    → bit_xor (get_or (gones 64) (x / 2 ^ 24) 0) (bit_xor (get_or (gones 56) (x / 2 ^ 16 % 256) 0) (bit_xor (get_or (gones 48) (x / 2 ^ 8 % 256) 0) (get_or (gones 40) (x % 256) 0))) ≡ moves 64 x
eight_reads x h =
    (λ i. bit_xor (read 64 (x / 2 ^ 24) (omega arith) i) (bit_xor (read 56 (x / 2 ^ 16 % 256) (omega arith) i) (bit_xor (read 48 (x / 2 ^ 8 % 256) (omega arith) i) (read 40 (x % 256) (omega arith) i))))
    ∙ sym (split 40 x h)

-- two words, the first of them in the register
pub by_words : (r a b c d e f g h : ℕ) → r < 2 ^ 32 → a < 2 ^ 8 → b < 2 ^ 8 → c < 2 ^ 8 → d < 2 ^ 8 → e < 2 ^ 8 → f < 2 ^ 8 → g < 2 ^ 8 → h < 2 ^ 8
    → bit_xor (moves 64 (bit_xor r (a * 2 ^ 24 + (b * 2 ^ 16 + (c * 2 ^ 8 + d))))) (moves 32 (e * 2 ^ 24 + (f * 2 ^ 16 + (g * 2 ^ 8 + h))))
    ≡ entered (entered (entered (entered (entered (entered (entered (entered r a) b) c) d) e) f) g) h
by_words r a b c d e f g h l ha hb hc hd he hf hg hh =
    let w = a * 2 ^ 24 + (b * 2 ^ 16 + (c * 2 ^ 8 + d)) in
    let v = e * 2 ^ 24 + (f * 2 ^ 16 + (g * 2 ^ 8 + h)) in
    let x = bit_xor r w in
    let hx : x < 2 ^ 32 = xor_lt 32 r w l (omega arith) in
    let m : moves 32 x < 2 ^ 32 = moves_lt 32 x hx in
    ap (λ t. bit_xor t (moves 32 v)) (sym (moves_add 32 32 x))
    ∙ sym (moves_xor 32 (moves 32 x) v m (omega arith))
    ∙ by_word (moves 32 x) e f g h m he hf hg hh
    ∙ ap (λ t. entered (entered (entered (entered t e) f) g) h) (by_word r a b c d l ha hb hc hd)

-- the register r after the first i bytes
abbrev pub upto : ℕ → List ℕ → ℕ → ℕ
upto r bs i = fold entered r (take i bs)

one_more : (r : ℕ) (bs : List ℕ) (i j : ℕ) → i < length bs → j ≡ i + 1 → upto r bs j ≡ entered (upto r bs i) (get_or bs i 0)
one_more r bs i j h e = ap (upto r bs) e ∙ fold_more entered r bs i 0 h

four_more : (r : ℕ) (bs : List ℕ) (i j : ℕ) → i + 4 ≤ length bs → j ≡ i + 4
    → upto r bs j ≡ entered (entered (entered (entered (upto r bs i) (get_or bs i 0)) (get_or bs (i + 1) 0)) (get_or bs (i + 2) 0)) (get_or bs (i + 3) 0)
four_more r bs i j h e =
    let b = λ (k : ℕ). get_or bs k 0 in
    one_more r bs (i + 3) j (omega arith) (omega arith)
    ∙ ap (λ t. entered t (b (i + 3)))
    (one_more r bs (i + 2) (i + 3) (omega arith) (omega arith)
    ∙ ap (λ t. entered t (b (i + 2)))
    (one_more r bs (i + 1) (i + 2) (omega arith) (omega arith) ∙ ap (λ t. entered t (b (i + 1))) (one_more r bs i (i + 1) (omega arith) (omega arith))))

-- eight bytes one by one
pub eight : (r : ℕ) (bs : List ℕ) → length bs ≡ 8
    → entered (entered (entered (entered (entered (entered (entered (entered r (get_or bs 0 0)) (get_or bs 1 0)) (get_or bs 2 0)) (get_or bs 3 0)) (get_or bs 4 0)) (get_or bs 5 0)) (get_or bs 6 0)) (get_or bs 7 0)
    ≡ fold entered r bs
eight r bs h =
    let b = λ (k : ℕ). get_or bs k 0 in
    sym (four_more r bs 4 8 (omega arith) (omega arith)
    ∙ ap (λ t. entered (entered (entered (entered t (b 4)) (b 5)) (b 6)) (b 7)) (four_more r bs 0 4 (omega arith) (omega arith)))
    ∙ ap (fold entered r) (take_all 8 bs (omega arith))

-- those at the front, and then the others
pub on : (r : ℕ) (bs front back : List ℕ) → front ≡ take 8 bs → back ≡ drop 8 bs → fold entered (fold entered r front) back ≡ fold entered r bs
on r bs front back f b = (λ i. fold entered (fold entered r (f i)) (b i)) ∙ sym (fold-append entered r (take 8 bs) (drop 8 bs)) ∙ ap (fold entered r) (take-append-drop 8 bs)
