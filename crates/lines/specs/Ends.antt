-- Where a line ends: at a line feed, before which one carriage return may stand. Assumes nothing.
use Rattle.std.specs.Prelude.{ℕ, ◌+◌, ◌-◌, Bool, cond, not, ◌||◌, List, length, take, ◌==◌, nat_lt, slice_index}
use Rattle.std.specs.List.{prefix_len}

-- any byte but the line feed
abbrev pub in_line : ℕ → Bool
in_line b = not (b == 0x0A)

-- how many bytes stand before the first line feed; all of them where there is none
abbrev pub feed_at : List ℕ → ℕ
feed_at bytes = prefix_len in_line bytes

abbrev pub has_feed : List ℕ → Bool
has_feed bytes = nat_lt (feed_at bytes) (length bytes)

abbrev pub before_feed : List ℕ → List ℕ
before_feed bytes = take (feed_at bytes) bytes

-- how many bytes stand up to and with the first line feed; all of them where there is none
abbrev pub through_feed : List ℕ → ℕ
through_feed bytes = cond (has_feed bytes) (feed_at bytes + 1) (length bytes)

-- without one carriage return at the end
abbrev pub unreturned : List ℕ → List ℕ
unreturned line = cond (slice_index line (length line - 1) == 0x0D) (take (length line - 1) line) line

-- a line that says nothing: an empty one, or a hash and anything after it
abbrev pub is_comment : List ℕ → Bool
is_comment text = length text == 0 || slice_index text 0 == 0x23
