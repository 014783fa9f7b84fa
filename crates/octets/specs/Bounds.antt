-- That no more bytes are held than there is room for: a proof that the laws of sets cite, which can name nothing outside specs. Assumes nothing.
use Rattle.std.proofs.Common.{arith, length-take}
use Rattle.std.specs.Prelude.{ℕ, ◌≤◌, length}
use Rattle.octets.specs.declared.fixed.Fixed.{Fixed}
use Rattle.octets.specs.Held.{held}

pub held_short : {most : ℕ} (f : Fixed most) → length (held f) ≤ most
held_short f = omega (arith, length-take f.len f.bytes, f.within)
