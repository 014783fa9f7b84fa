-- An exception entry, five bytes: a flag bit and seven reserved bits, then with flag 1 a major and a minor channel number of ten bits each, with flag 0 two reserved bytes and a source ID. Assumes nothing.
use Rattle.std.specs.Prelude.{ℕ, ◌+◌, ◌*◌, ◌%◌, Bool, false, cond, List, nat_le, slice_index}
use Rattle.station.specs.Names.{names_pair, names_id}
use Rattle.station.specs.declared.service.Path.{Path}
use Rattle.station.specs.declared.service.Path.TheVariants.{InBand, OutOfBand}
use Rattle.station.specs.declared.service.Service.{Service}
use Rattle.entries.specs.Finding.{Tells}
use Rattle.entries.specs.declared.exceptions.Exception.{Exception}
use Rattle.entries.specs.declared.exceptions.Exception.TheVariants.{Channel, Source}
use Rattle.entries.specs.declared.tuned.Tuned.{Tuned}

abbrev pub flagged : List ℕ → Bool
flagged e = nat_le 128 (slice_index e 0)

abbrev pub major_of : List ℕ → ℕ
major_of e = slice_index e 1 % 4 * 256 + slice_index e 2

abbrev pub minor_of : List ℕ → ℕ
minor_of e = slice_index e 3 % 4 * 256 + slice_index e 4

abbrev pub source_of : List ℕ → ℕ
source_of e = slice_index e 3 * 256 + slice_index e 4

-- what the entry states
abbrev pub exception_of : List ℕ → Exception
exception_of e = cond (flagged e) (Channel (record { major = major_of e; minor = minor_of e })) (Source (record { 0 = source_of e }))

-- on the in-band path channel pairs count, on the out-of-band path source IDs
abbrev pub names_on : Path → Exception → Service → Bool
names_on InBand (Channel pair) service = names_pair pair service.channel
names_on OutOfBand (Source id) service = names_id id service.source
names_on path exception service = false

abbrev pub names_tuned : List ℕ → Tuned → Bool
names_tuned e tuned = names_on tuned.path (exception_of e) tuned.service

-- whether an exception entry names the service on its path
abbrev pub Excepts : List ℕ → Tuned → Bool → Type 0
Excepts bytes tuned r = Tells 5 names_tuned bytes tuned r
