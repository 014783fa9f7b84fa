-- What is written onto the end of a record. Assumes nothing.
use Rattle.std.specs.Prelude.{◌≡◌, ℕ, ◌+◌, ◌/◌, ◌%◌, ◌⊎◌, cond, List, [], ◌∷◌, ◌++◌, Ok, Err, Result, nat_lt}
use Rattle.std.specs.declared.alloc.AllocError.{AllocError}

-- a hexadecimal digit, in capitals
abbrev pub digit : ℕ → ℕ
digit d = cond (nat_lt d 10) (48 + d) (55 + d)

-- the two digits of a byte
abbrev pub in_hex : ℕ → List ℕ
in_hex b = digit (b / 16) ∷ digit (b % 16) ∷ []

-- the bytes at the end; where there is no memory, as it was
abbrev pub Adds : List ℕ → List ℕ → Result (Unit {0}) AllocError → List ℕ → Type 0
Adds before more (Ok u) after = after ≡ before ++ more
Adds before more (Err e) after = after ≡ before

-- a key and a text at the end; where there is no memory, the key or nothing
abbrev pub AddsKeyed : List ℕ → List ℕ → List ℕ → Result (Unit {0}) AllocError → List ℕ → Type 0
AddsKeyed before key text (Ok u) after = after ≡ before ++ (key ++ text)
AddsKeyed before key text (Err e) after = (after ≡ before) ⊎ (after ≡ before ++ key)
