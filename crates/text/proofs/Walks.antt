-- Steps of a walk over a text field, of which i of k turns are done. Assumes nothing.
use Rattle.std.proofs.Common.{◌≡◌, ℕ, zero, suc, ◌+◌, ◌-◌, ◌*◌, ◌<◌, ◌≤◌, List, [], drop, fold, sym, ap, ◌∙◌, arith}
use Rattle.std.proofs.Math.Nat.{add-mul}
use Rattle.std.proofs.Math.Seq.{drop-nil}
use Rattle.std.proofs.lemmas.Nat.{mul-le}
use Rattle.text.specs.Structure.{parts}

-- the sizes so far, and those of the parts from here on
abbrev pub sizes : (List ℕ → ℕ) → ℕ → ℕ → List ℕ → ℕ
sizes size sum n s = fold (λ a x. a + size x) sum (parts size n s)

pub turned : (size : List ℕ → ℕ) (k i sum : ℕ) (s : List ℕ) {r : ℕ} → i < k → sizes size sum (k - i) s ≡ r → sizes size (sum + size s) (k - (i + 1)) (drop (size s) s) ≡ r
turned size k i sum s h inv = let n : k - i ≡ suc (k - (i + 1)) = omega arith in sym (ap (λ m. sizes size sum m s) n) ∙ inv

-- past the end each part states what one of no bytes does
pub of_none : (size : List ℕ → ℕ) (n sum : ℕ) → sizes size sum n [] ≡ sum + n * size []
of_none size zero sum = omega arith
of_none size (suc n) sum = ap (λ s. sizes size (sum + size []) n s) (drop-nil (size [])) ∙ of_none size n (sum + size []) ∙ omega arith

-- those that are left state at most so much together with those that were seen
pub rest_of : (left done sum many each most : ℕ) → done ≤ left → left ≤ 255 → many ≡ left - done → sum ≤ done * most → each ≤ most → sum + many * each ≤ 255 * most
rest_of left done sum many each most on few m s e =
    let rest : many * each ≤ many * most = mul-le many each many most (omega arith) e in
    let all : (done + many) * most ≤ 255 * most = mul-le (done + many) most 255 most (omega (arith, m, on, few)) (omega arith) in
    let both : (done + many) * most ≡ done * most + many * most = add-mul done many most in
    omega (arith, rest, all, both, s)
