-- The check register of a section: 32 bits, polynomial 0x04C11DB7, highest bit first, started at 0xFFFFFFFF. Assumes nothing.
use Rattle.std.specs.Prelude.{ℕ, zero, suc, ◌*◌, ◌/◌, ◌%◌, ◌^◌, List, fold, bit_xor}

-- the register moves up by one bit; where a 1 leaves at the top, the polynomial goes in
unfoldable pub moved : ℕ → ℕ
moved r = bit_xor (r % 2 ^ 31 * 2) (r / 2 ^ 31 * 0x04C11DB7)

unfoldable pub moves : ℕ → ℕ → ℕ
moves zero r = r
moves (suc n) r = moved (moves n r)

-- a byte goes in at the top, and its eight bits leave
unfoldable pub entered : ℕ → ℕ → ℕ
entered r b = moves 8 (bit_xor r (b * 2 ^ 24))

-- the register after the bytes
abbrev pub check_register : List ℕ → ℕ
check_register bs = fold entered 0xFFFFFFFF bs
