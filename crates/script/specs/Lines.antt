-- What a line asks for. Assumes nothing.
use Rattle.std.specs.Prelude.{ℕ, Bool, cond, List, length, drop, Some, codes, nat_le}
use Rattle.std.specs.Option.{option_map_or}
use Rattle.lines.specs.Ends.{unreturned, is_comment}
use Rattle.lines.specs.Keys.{after, pairs, put_into}
use Rattle.script.specs.declared.asked.Asked.{Asked}
use Rattle.script.specs.declared.asked.Asked.TheVariants.{Nothing, Section, Document, Unknown}
use Rattle.script.specs.Words.{words_ask}

-- a text that is no comment, and that may be words or not
abbrev pub text_asks : Bool → List ℕ → Asked
text_asks words text =
    option_map_or Section (after (codes "section=") pairs text) (option_map_or Document (after (codes "document=") pairs text) (cond words (words_ask text) Unknown))

-- a line, of which so many bytes are kept at most: a longer one is a comment, digits or unknown
abbrev pub line_asks : ℕ → List ℕ → Asked
line_asks most line = cond (is_comment (unreturned line)) Nothing (text_asks (nat_le (length line) most) (unreturned line))

-- the room after a line that asks for this: the bytes of a section are in it if they fit
abbrev pub room_for : List ℕ → List ℕ → Asked → List ℕ
room_for room text (Section n) = put_into room (drop 8 text) (Some n)
room_for room text (Document n) = put_into room (drop 9 text) (Some n)
room_for room text asked = room
