-- How long a part can be: proofs that kinds of parts cite, which can name nothing outside specs. Assumes nothing.
use Rattle.std.specs.Prelude.{◌*◌, ◌^◌, ◌<◌}
use Rattle.std.proofs.Common.{arith}

-- 255 segments of at most 3 + 255 bytes
pub segments_small : 255 * 258 < 2 ^ 32
segments_small = omega arith

-- and 255 strings of at most 4 + 255 * 258
pub strings_small : 255 * 65794 < 2 ^ 32
strings_small = omega arith
