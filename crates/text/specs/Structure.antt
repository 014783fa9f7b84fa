-- The multiple string structure of a text field: a count of strings; a string is a language of three bytes, a count of segments and the segments; a segment is a compression type, a mode, a length n and n bytes. Assumes nothing.
use Rattle.std.specs.Prelude.{ℕ, zero, suc, ◌+◌, Bool, List, [], ◌∷◌, map, length, take, drop, ◌==◌, slice_index}
use Rattle.std.specs.List.{sum_by}

pub record Segment : Type 0 where
  pub compression : ℕ
  pub mode : ℕ
  pub bytes : List ℕ

pub record Spoken : Type 0 where
  pub language : List ℕ
  pub segments : List Segment

-- where so many parts begin, each with all that follows: the first at the front, another where the one before it ends
abbrev pub parts : (List ℕ → ℕ) → ℕ → List ℕ → List (List ℕ)
parts size zero s = []
parts size (suc n) s = s ∷ parts size n (drop (size s) s)

-- how many bytes the segment at the front states that it has, and what stands in it
abbrev pub segment_size : List ℕ → ℕ
segment_size s = 3 + slice_index s 2

abbrev pub segment_at : List ℕ → Segment
segment_at s = record { compression = slice_index s 0; mode = slice_index s 1; bytes = take (slice_index s 2) (drop 3 s) }

-- so many segments from the front on
abbrev pub segments : ℕ → List ℕ → List Segment
segments n s = map segment_at (parts segment_size n s)

-- the same of a string
abbrev pub string_size : List ℕ → ℕ
string_size s = 4 + sum_by segment_size (parts segment_size (slice_index s 3) (drop 4 s))

abbrev pub string_at : List ℕ → Spoken
string_at s = record { language = take 3 s; segments = segments (slice_index s 3) (drop 4 s) }

abbrev pub strings : ℕ → List ℕ → List Spoken
strings n s = map string_at (parts string_size n s)

-- the strings of a field; a field of no bytes counts none
abbrev pub strings_of : List ℕ → List Spoken
strings_of s = strings (slice_index s 0) (drop 1 s)

-- a field keeps the structure: its strings state as many bytes as stand after their count
abbrev pub structured : List ℕ → Bool
structured s = sum_by string_size (parts string_size (slice_index s 0) (drop 1 s)) == length (drop 1 s)
