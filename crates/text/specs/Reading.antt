-- What a text field says in English. Assumes nothing.
use Rattle.std.specs.Prelude.{ℕ, ◌+◌, ◌-◌, ◌*◌, Bool, cond, ◌&&◌, ◌||◌, List, [], ◌∷◌, ◌++◌, map, length, Some, None, Option, ◌==◌, nat_le, slice_index}
use Rattle.std.specs.List.{find, list_all}
use Rattle.std.proofs.Math.Utf8.{encode}
use Rattle.text.specs.Structure.{Segment, Spoken, strings_of}

-- a segment can be read if it is not compressed and its mode is 0 to 6
abbrev pub readable : Segment → Bool
readable g = g.compression == 0 && nat_le g.mode 6

-- a string can be read if each of its segments can
abbrev pub all_readable : List Segment → Bool
all_readable gs = list_all readable gs

-- control code points are shown as a space
abbrev pub control : ℕ → Bool
control c = nat_le c 0x1F || (nat_le 0x7F c && nat_le c 0x9F)

abbrev pub shown : ℕ → ℕ
shown c = cond (control c) 0x20 c

-- the character of a byte b in mode m, as UTF-8
abbrev pub character : ℕ → ℕ → List ℕ
character m b = encode (shown (256 * m + b))

abbrev pub characters : List Segment → List (List ℕ)
characters [] = []
characters (g ∷ gs) = map (character g.mode) g.bytes ++ characters gs

-- the longest run of whole first characters within so many bytes
abbrev pub cut : ℕ → List (List ℕ) → List ℕ
cut room [] = []
cut room (c ∷ cs) = cond (nat_le (length c) room) (c ++ cut (room - length c) cs) []

-- the language is that of English, the bytes of "eng"
abbrev pub english : List ℕ → Bool
english l = slice_index l 0 == 0x65 && slice_index l 1 == 0x6E && slice_index l 2 == 0x67

-- the segments of a string, none where there is no string or it cannot be read
abbrev pub read_of : Option Spoken → List Segment
read_of None = []
read_of (Some t) = cond (all_readable t.segments) t.segments []

-- the segments of the first English string
abbrev pub spoken : List Spoken → List Segment
spoken ts = read_of (find (λ t. english t.language) ts)

-- the text of a field
unfoldable pub text_of : List ℕ → List ℕ
text_of s = cut 1024 (characters (spoken (strings_of s)))
