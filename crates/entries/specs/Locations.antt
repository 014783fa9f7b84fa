-- A location entry, three bytes: a state, four bits of part, two reserved bits and a county of ten bits. Assumes nothing.
use Rattle.std.specs.Prelude.{ℕ, ◌+◌, ◌*◌, ◌/◌, ◌%◌, Bool, ◌&&◌, ◌||◌, List, Option, ◌==◌, slice_index}
use Rattle.station.specs.declared.place.Place.{Place}
use Rattle.entries.specs.Finding.{Finds}
use Rattle.entries.specs.declared.locations.Location.{Location}

abbrev pub state_of : List ℕ → ℕ
state_of e = slice_index e 0

abbrev pub part_of : List ℕ → ℕ
part_of e = slice_index e 1 / 16

abbrev pub county_of : List ℕ → ℕ
county_of e = slice_index e 1 % 4 * 256 + slice_index e 2

abbrev pub location_of : List ℕ → Location
location_of e = record { state = state_of e; part = part_of e; county = county_of e }

-- parts agree where they are equal or where either is 0
abbrev pub agree : ℕ → ℕ → Bool
agree a b = a == 0 || (b == 0 || a == b)

-- state 0 covers every place, county 0 every place of the state
abbrev pub covers : Location → Place → Bool
covers l p =
    (l.state == 0)
    || (l.state == p.state
    && (l.county == 0
    || (l.county == p.county
    && agree l.part p.part)))

abbrev pub names_place : List ℕ → Place → Bool
names_place e p = covers (location_of e) p

-- the number of a location entry that names the place
abbrev pub NamingLocation : List ℕ → Place → Option ℕ → Type 0
NamingLocation bytes place r = Finds 3 names_place bytes place r
