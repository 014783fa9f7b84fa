-- What a line of input asks for. Assumes nothing.
use Rattle.std.specs.Prelude.{ℕ, cond, List, length, drop, Some, None, codes, Option, nat_le}
use Rattle.lines.specs.Ends.{unreturned, is_comment}
use Rattle.lines.specs.Keys.{after, pairs, put_into}
use Rattle.sectiondump.specs.declared.input.Asked.{Asked}
use Rattle.sectiondump.specs.declared.input.Asked.TheVariants.{Nothing, Section, Unknown}

-- a section of so many bytes, if there is one
abbrev pub section_of : Option ℕ → Asked
section_of (Some n) = Section n
section_of None = Unknown

-- a text without its carriage return
abbrev pub line_asks : List ℕ → Asked
line_asks text = cond (is_comment text) Nothing (section_of (after (codes "section=") pairs text))

-- the room after a line that asks for this: the bytes of a section are in it, if they fit
abbrev pub room_for : List ℕ → List ℕ → Asked → List ℕ
room_for room text (Section n) = put_into room (drop 8 text) (Some n)
room_for room text Nothing = room
room_for room text Unknown = room

-- only of a line of which all bytes are kept
abbrev pub room_after : ℕ → List ℕ → List ℕ → Asked → List ℕ
room_after most room line asked = cond (nat_le (length line) most) (room_for room (unreturned line) asked) room
