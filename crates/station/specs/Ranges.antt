-- The ranges of a place: state 1 to 99, county 1 to 999, part 0 to 9. Assumes nothing.
use Rattle.std.specs.Prelude.{ℕ, Bool, ◌&&◌, nat_le}

abbrev pub ranged : ℕ → ℕ → ℕ → Bool
ranged state county part = nat_le 1 state && (nat_le state 99 && (nat_le 1 county && (nat_le county 999 && nat_le part 9)))
