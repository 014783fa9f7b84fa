-- What a search found tells whether there is an entry. Assumes nothing.
use Rattle.std.proofs.Common.{◌≡◌, ℕ, Bool, List, is_some, Some, None, Option, sym, subst}
use Rattle.entries.specs.Finding.{Finds, Tells}

told : {A : Type 0} (w : ℕ) (named : List ℕ → A → Bool) (bytes : List ℕ) (thing : A) (o : Option ℕ) → Finds w named bytes thing o → Tells w named bytes thing (is_some o)
told w named bytes thing (Some k) h = (k, h.0, h.1)
told w named bytes thing None h = h

pub tells : {A : Type 0} (w : ℕ) (named : List ℕ → A → Bool) (bytes : List ℕ) (thing : A) (o : Option ℕ) (b : Bool) → b ≡ is_some o → Finds w named bytes thing o → Tells w named bytes thing b
tells w named bytes thing o b e h = subst (Tells w named bytes thing) (sym e) (told w named bytes thing o h)
