-- No kind of entry is without bytes. Assumes nothing.
use Rattle.std.specs.Prelude.{◌<◌}
use Rattle.std.proofs.Common.{arith}

pub three_bytes : 0 < 3
three_bytes = omega arith

pub five_bytes : 0 < 5
five_bytes = omega arith
