-- The rules of a section, and which of them it breaks first. Assumes nothing.
use Rattle.std.specs.Prelude.{ℕ, ◌+◌, ◌/◌, ◌%◌, Bool, ◌&&◌, List, length, None, Option, ◌==◌, nat_le, slice_index}
use Rattle.std.specs.List.{list_all, range_with_len}
use Rattle.checkword.specs.Register.{check_register}
use Rattle.entries.specs.Finding.{entry_at}
use Rattle.entries.specs.Locations.{state_of, part_of, county_of}
use Rattle.station.specs.Rules.{unless}
use Rattle.text.specs.Structure.{structured}
use Rattle.section.specs.Places.{word, locations_at, check_at, nature_of, alert_of, locations_of}
use Rattle.section.specs.Values.{seconds_of}

-- 46 to 4,096 bytes, as many as the head states
abbrev pub sized : List ℕ → Bool
sized s = nat_le 46 (length s) && (nat_le (length s) 4096 && word s 1 % 4096 + 3 == length s)

-- the fixed values of bytes 0 to 7: the table ID, the two bits above the length, the extension, the current bit and the section numbers
abbrev pub headed : List ℕ → Bool
headed s =
    (slice_index s 0 == 0xD8)
    && (slice_index s 1 / 64 == 2
    && (word s 3 == 0
    && (slice_index s 5 % 2 == 1
    && (slice_index s 6 == 0
    && slice_index s 7 == 0))))

-- the register is 0 after the whole section
abbrev pub checks : List ℕ → Bool
checks s = check_register s == 0

abbrev pub versioned : List ℕ → Bool
versioned s = slice_index s 8 == 0

-- the stated lengths add up to the section
abbrev pub adds : List ℕ → Bool
adds s = check_at s + 4 == length s

-- a location entry: state to 99, subdivision to 9, county to 999
abbrev pub located : List ℕ → Bool
located e = nat_le (state_of e) 99 && (nat_le (part_of e) 9 && nat_le (county_of e) 999)

-- each of so many location entries, by its number
abbrev pub all_located : ℕ → List ℕ → Bool
all_located count entries = list_all (λ k. located (entry_at 3 entries k)) (range_with_len 0 count)

-- at most 120 seconds, and 1 to 31 location entries
abbrev pub bounded : ℕ → ℕ → Bool
bounded seconds count = nat_le seconds 120 && (nat_le 1 count && nat_le count 31)

-- and each entry in its ranges
abbrev pub ranged : List ℕ → Bool
ranged s = bounded (seconds_of s) (slice_index s (locations_at s)) && all_located (slice_index s (locations_at s)) (locations_of s)

-- both text fields keep their structure
abbrev pub spelled : List ℕ → Bool
spelled s = structured (nature_of s) && structured (alert_of s)

-- the number of the first rule that is broken, if any is
abbrev pub broken : List ℕ → Option ℕ
broken s =
    unless (sized s) 10
    (unless (headed s) 11
    (unless (checks s) 12
    (unless (versioned s) 13
    (unless (adds s) 14
    (unless (ranged s) 15
    (unless (spelled s) 16 None))))))

unfoldable pub refusal : List ℕ → Option ℕ
refusal s = broken s
