-- Rules that are tested in their order, and what is answered by them. Assumes nothing.
use Rattle.std.specs.Prelude.{◌≡◌, ℕ, Bool, cond, Some, None, Ok, Err, Option, Result}

-- the number of the first rule that is broken: of this one unless it is kept, else what the rest says
abbrev pub unless : Bool → ℕ → Option ℕ → Option ℕ
unless kept number rest = cond kept rest (Some number)

-- where no rule is broken a value that is right, else a refusal with the number of the first rule that is
abbrev pub Gives : {A E : Type 0} → (E → ℕ) → Option ℕ → (A → Type 0) → Result A E → Type 0
Gives number_of broken right (Ok a) = (broken ≡ None) × right a
Gives number_of broken right (Err e) = broken ≡ Some (number_of e)
