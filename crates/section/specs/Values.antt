-- The numbers that a section states. Reserved bits are disregarded. Assumes nothing.
use Rattle.std.specs.Prelude.{ℕ, ◌+◌, ◌*◌, ◌/◌, ◌%◌, List, [], ◌∷◌, slice_index}
use Rattle.section.specs.Places.{word, times_at}
use Rattle.section.specs.declared.fields.Fields.{Fields}

-- five bits of byte 5
abbrev pub sequence_of : List ℕ → ℕ
sequence_of s = slice_index s 5 / 2 % 32

abbrev pub event_id_of : List ℕ → ℕ
event_id_of s = word s 9

abbrev pub originator_of : List ℕ → List ℕ
originator_of s = slice_index s 11 ∷ slice_index s 12 ∷ slice_index s 13 ∷ []

abbrev pub seconds_of : List ℕ → ℕ
seconds_of s = slice_index s (times_at s)

abbrev pub start_of : List ℕ → ℕ
start_of s = word s (times_at s + 1) * 65536 + word s (times_at s + 3)

abbrev pub duration_of : List ℕ → ℕ
duration_of s = word s (times_at s + 5)

-- the low four bits of two bytes
abbrev pub priority_of : List ℕ → ℕ
priority_of s = word s (times_at s + 7) % 16

abbrev pub details_source_of : List ℕ → ℕ
details_source_of s = word s (times_at s + 9)

-- channel numbers have ten bits
abbrev pub details_major_of : List ℕ → ℕ
details_major_of s = word s (times_at s + 11) % 1024

abbrev pub details_minor_of : List ℕ → ℕ
details_minor_of s = word s (times_at s + 13) % 1024

abbrev pub audio_source_of : List ℕ → ℕ
audio_source_of s = word s (times_at s + 15)

unfoldable pub fields_of : List ℕ → Fields
fields_of s =
    record {
      sequence = record { 0 = sequence_of s };
      event_id = record { 0 = event_id_of s };
      originator = originator_of s;
      seconds = record { 0 = seconds_of s };
      start = record { 0 = start_of s };
      duration = record { 0 = duration_of s };
      priority = record { 0 = priority_of s };
      details_source = record { 0 = details_source_of s };
      details_channel = record { major = details_major_of s; minor = details_minor_of s };
      audio_source = record { 0 = audio_source_of s };
    }
