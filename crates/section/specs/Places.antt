-- Where the parts of a section stand, by its stated lengths. Past its end a section counts as 0. Assumes nothing.
use Rattle.std.specs.Prelude.{ℕ, ◌+◌, ◌*◌, ◌%◌, List, slice_index, slice_range}
use Rattle.section.specs.declared.layout.Layout.{Layout}
use Rattle.section.specs.declared.layout.Span.{Span}

-- two bytes as a number, the first highest
abbrev pub word : List ℕ → ℕ → ℕ
word s at = slice_index s at * 256 + slice_index s (at + 1)

-- the place after a count and that many entries of u bytes
abbrev pub after : ℕ → List ℕ → ℕ → ℕ
after u s at = at + 1 + u * slice_index s at

-- the count of bytes of the nature text
unfoldable pub nature_at : List ℕ → ℕ
nature_at s = after 1 s 14

-- the first of the nineteen bytes with seconds, start, duration, priority, details, audio and the text's length
unfoldable pub times_at : List ℕ → ℕ
times_at s = after 1 s (nature_at s)

unfoldable pub text_at : List ℕ → ℕ
text_at s = times_at s + 19

-- the count of location entries
unfoldable pub locations_at : List ℕ → ℕ
locations_at s = text_at s + word s (times_at s + 17)

-- the count of exception entries
unfoldable pub exceptions_at : List ℕ → ℕ
exceptions_at s = after 3 s (locations_at s)

-- the length of the descriptors, the low 10 bits of two bytes
unfoldable pub descriptors_at : List ℕ → ℕ
descriptors_at s = after 5 s (exceptions_at s)

-- the check word
unfoldable pub check_at : List ℕ → ℕ
check_at s = descriptors_at s + 2 + word s (descriptors_at s) % 1024

abbrev pub span : ℕ → ℕ → Span
span i j = record { start = i; end = j }

abbrev pub layout_of : List ℕ → Layout
layout_of s =
    record {
      event_code = span 15 (nature_at s);
      nature = span (nature_at s + 1) (times_at s);
      times = times_at s;
      alert = span (text_at s) (locations_at s);
      location_count = slice_index s (locations_at s);
      locations = span (locations_at s + 1) (exceptions_at s);
      exceptions = span (exceptions_at s + 1) (descriptors_at s);
      descriptors = span (descriptors_at s + 2) (check_at s);
    }

-- the bytes from a place to another
abbrev pub part : ℕ → ℕ → List ℕ → List ℕ
part i j s = slice_range s i j

-- the parts
unfoldable pub event_code_of : List ℕ → List ℕ
event_code_of s = part 15 (nature_at s) s

unfoldable pub nature_of : List ℕ → List ℕ
nature_of s = part (nature_at s + 1) (times_at s) s

unfoldable pub alert_of : List ℕ → List ℕ
alert_of s = part (text_at s) (locations_at s) s

unfoldable pub locations_of : List ℕ → List ℕ
locations_of s = part (locations_at s + 1) (exceptions_at s) s

unfoldable pub exceptions_of : List ℕ → List ℕ
exceptions_of s = part (exceptions_at s + 1) (descriptors_at s) s

unfoldable pub descriptors_of : List ℕ → List ℕ
descriptors_of s = part (descriptors_at s + 2) (check_at s) s
