-- The descriptors that stand one after another in an area of bytes. Assumes nothing.
use Rattle.std.specs.Prelude.{ℕ, zero, suc, Bool, cond, List, [], ◌∷◌, length, take, drop, ◌==◌, nat_le}

-- a descriptor: its tag and its bytes
pub record Descriptor : Type 0 where
  pub tag : ℕ
  pub body : List ℕ

-- what a walk meets: the whole descriptors, and the bytes in which no whole one begins
pub record Walked : Type 0 where
  pub whole : List Descriptor
  pub torn : List ℕ

abbrev pub first : Descriptor → Walked → Walked
first d w = record w { whole = d ∷ w.whole }

-- a tag, a length and that many bytes, again and again, in at most so many steps
abbrev pub walked_in : ℕ → List ℕ → Walked
walked_in zero bs = record { whole = []; torn = bs }
walked_in (suc n) [] = record { whole = []; torn = [] }
walked_in (suc n) (t ∷ []) = record { whole = []; torn = t ∷ [] }
walked_in (suc n) (t ∷ (l ∷ rest)) =
    cond (nat_le l (length rest)) (first (record { tag = t; body = take l rest }) (walked_in n (drop l rest)))
    (record { whole = []; torn = t ∷ (l ∷ rest) })

abbrev pub walked : List ℕ → Walked
walked bs = walked_in (length bs) bs

-- the last descriptor ends where the area does
abbrev pub ended : Walked → Bool
ended w = length w.torn == 0
