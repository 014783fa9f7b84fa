-- What a granted or refused handing out answers. Assumes nothing.
use Rattle.std.specs.Prelude.{◌≡◌, ℕ, List, length, take, None, Result, nat_le}
use Rattle.std.specs.Borrow.{Bor}
use Rattle.station.specs.Rules.{unless, Gives}
use Rattle.document.specs.Lengths.{filled_length}
use Rattle.document.specs.Refusals.{hand_out_number}
use Rattle.document.specs.declared.moved.Filled.{Filled}
use Rattle.document.specs.declared.withheld.HandOutRefusal.{HandOutRefusal}

-- the filled length of the buffer, or 26 where the buffer is shorter
abbrev pub HandsOut : Filled → List ℕ → Result (Bor (List ℕ)) HandOutRefusal → Type 0
HandsOut f out result =
    Gives hand_out_number (unless (nat_le (filled_length f) (length out)) 26 None) (λ part. part.now ≡ take (filled_length f) out) result
