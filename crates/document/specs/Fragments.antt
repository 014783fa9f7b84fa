-- The fragments of metadata descriptors, as a bag in which each is found by its number. Assumes nothing.
use Rattle.std.specs.Prelude.{ℕ, zero, suc, ◌-◌, Bool, false, cond, not, ◌&&◌, ◌||◌, List, [], ◌∷◌, ◌++◌, length, drop, ◌==◌, nat_lt, slice_index}
use Rattle.document.specs.Descriptors.{Descriptor}

-- a fragment: its number and its bytes
pub record Fragment : Type 0 where
  pub number : ℕ
  pub bytes : List ℕ

-- the descriptors that carry fragments
abbrev pub metadata : Descriptor → Bool
metadata d = d.tag == 3

-- the bytes of a metadata descriptor break its rule: under 3 of them, number 0, or a stated length that is not that of the rest
abbrev pub breaks : List ℕ → Bool
breaks body = nat_lt (length body) 3 || (slice_index body 0 == 0 || not (slice_index body 1 == length body - 2))

abbrev pub any_breaks : List Descriptor → Bool
any_breaks [] = false
any_breaks (d ∷ ds) = (metadata d && breaks d.body) || any_breaks ds

abbrev pub fragment_of : List ℕ → Fragment
fragment_of body = record { number = slice_index body 0; bytes = drop 2 body }

-- the fragments of those metadata descriptors that keep the rule
abbrev pub fragments_of : List Descriptor → List Fragment
fragments_of [] = []
fragments_of (d ∷ ds) = cond (metadata d && not (breaks d.body)) (fragment_of d.body ∷ fragments_of ds) (fragments_of ds)

-- how often a number occurs
abbrev pub tally : ℕ → List Fragment → ℕ
tally k [] = 0
tally k (f ∷ fs) = cond (f.number == k) (suc (tally k fs)) (tally k fs)

-- some number occurs twice
abbrev pub repeats : List Fragment → Bool
repeats [] = false
repeats (f ∷ fs) = nat_lt 0 (tally f.number fs) || repeats fs

-- the bytes of the first fragment with a number
abbrev pub lookup : ℕ → List Fragment → List ℕ
lookup k [] = []
lookup k (f ∷ fs) = cond (f.number == k) f.bytes (lookup k fs)

-- one of the numbers from 1 on counts 0
abbrev pub missing : (ℕ → ℕ) → ℕ → Bool
missing f zero = false
missing f (suc n) = f (suc n) == 0 || missing f n

-- what the numbers from 1 on have, one after another
abbrev pub chained : (ℕ → List ℕ) → ℕ → List ℕ
chained f zero = []
chained f (suc n) = chained f n ++ f (suc n)
