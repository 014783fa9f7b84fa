-- What a search over entries of one size answers. It may find any entry that names the thing, not only the first. Assumes nothing.
use Rattle.std.specs.Prelude.{◌≡◌, ℕ, ◌+◌, ◌*◌, ◌≤◌, Bool, true, false, List, length, take, drop, Some, None, Option}

-- the entry number k, counted from 0, where each has w bytes
abbrev pub entry_at : ℕ → List ℕ → ℕ → List ℕ
entry_at w bytes k = take w (drop (k * w) bytes)

-- all w bytes of the entry number k are there
abbrev pub Whole : ℕ → List ℕ → ℕ → Type 0
Whole w bytes k = (k + 1) * w ≤ length bytes

-- the number of a whole entry that names the thing, or none where no whole entry does
abbrev pub Finds : {A : Type 0} → ℕ → (List ℕ → A → Bool) → List ℕ → A → Option ℕ → Type 0
Finds w named bytes thing (Some k) = Whole w bytes k × (named (entry_at w bytes k) thing ≡ true)
Finds w named bytes thing None = (k : ℕ) → Whole w bytes k → named (entry_at w bytes k) thing ≡ false

-- true exactly when some whole entry names the thing
abbrev pub Tells : {A : Type 0} → ℕ → (List ℕ → A → Bool) → List ℕ → A → Bool → Type 0
Tells w named bytes thing true = (k : ℕ) × Whole w bytes k × (named (entry_at w bytes k) thing ≡ true)
Tells w named bytes thing false = (k : ℕ) → Whole w bytes k → named (entry_at w bytes k) thing ≡ false
