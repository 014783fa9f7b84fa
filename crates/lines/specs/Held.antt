-- What a buffer holds of a line: its first bytes, and of those past them their number and their kind. Assumes nothing.
use Rattle.std.specs.Prelude.{◌≡◌, ℕ, ◌-◌, ◌^◌, ◌<◌, min, Bool, false, List, [], ◌++◌, length, take, drop, Ok, Err, vec_items, Result}
use Rattle.std.specs.declared.alloc.AllocError.{AllocError}
use Rattle.lines.specs.declared.buffer.LineBuffer.{LineBuffer}
use Rattle.lines.specs.declared.buffer.Taken.{Taken}
use Rattle.lines.specs.Ends.{has_feed, before_feed, through_feed}
use Rattle.lines.specs.Tails.{tail_of}

pub record Holds (buffer : LineBuffer) (line : List ℕ) : Type 0 where
  pub kept : vec_items buffer.kept ≡ take buffer.most line
  pub past : buffer.past ≡ min (2 ^ 64 - 1) (length line - buffer.most)
  pub tail : buffer.tail ≡ tail_of (drop buffer.most line)

-- what is said of whatever line the buffer holds
abbrev pub OfLine : LineBuffer → (List ℕ → Type 0) → Type 0
OfLine buffer says = (line : List ℕ) → Holds buffer line → says line

-- the same of a line whose bytes a number of 64 bits can count
abbrev pub OfCountedLine : LineBuffer → (List ℕ → Type 0) → Type 0
OfCountedLine buffer says = OfLine buffer (λ line. length line < 2 ^ 64 → says line)

-- of the bytes held by a reader, those before the first line feed go on with whatever line the buffer held; without memory it holds the same line still
abbrev pub Takes : LineBuffer → LineBuffer → List ℕ → Result Taken AllocError → Type 0
Takes before after held (Ok t) =
    (t.count ≡ through_feed held) × (t.ended ≡ has_feed held)
    × OfLine before (λ line. Holds after (line ++ before_feed held))
Takes before after held (Err e) = OfLine before (λ line. Holds after line)

-- whatever line the buffer held goes on by some bytes, none of them a line feed
abbrev pub GoesOn : LineBuffer → LineBuffer → Type 0
GoesOn before after = OfLine before (λ line. (piece : List ℕ) × (has_feed piece ≡ false) × Holds after (line ++ piece))

-- the buffer holds some line, in which there is no line feed
abbrev pub HoldsLine : LineBuffer → Type 0
HoldsLine buffer = (line : List ℕ) × (has_feed line ≡ false) × Holds buffer line

-- the same, and where there is no line the buffer holds nothing
abbrev pub HoldsNext : LineBuffer → Bool → Type 0
HoldsNext buffer there = (line : List ℕ) × (has_feed line ≡ false) × Holds buffer line × (there ≡ false → line ≡ [])
