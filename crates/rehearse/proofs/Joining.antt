-- One part printed after another. Assumes nothing.
use Rattle.std.proofs.Common.{◌≡◌, ℕ, List, ◌++◌, Ok, Err, Result, ap, ◌∙◌, append_assoc}
use Rattle.std.specs.declared.alloc.AllocError.{AllocError}
use Rattle.records.specs.Written.{Adds}
use Rattle.rehearse.specs.Printed.{Prints}

pub joined : (part more before between : List ℕ) (r : Result (Unit {0}) AllocError) (end : List ℕ) → between ≡ before ++ part → Prints between more r end → Prints before (part ++ more) r end
joined part more before between (Ok u) end e h = h ∙ ap (λ t. t ++ more) e ∙ append_assoc before part more
joined part more before between (Err x) end e h = tt

-- the last part, which is added whole or not at all
pub ended : (part more before between : List ℕ) (r : Result (Unit {0}) AllocError) (end : List ℕ) → between ≡ before ++ part → Adds between more r end → Prints before (part ++ more) r end
ended part more before between (Ok u) end e h = joined part more before between (Ok u) end e h
ended part more before between (Err x) end e h = tt
