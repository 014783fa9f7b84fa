-- Cases at the edges of the rules, from the definitions that the contracts rest on. Bytes are hexadecimal. Assumes nothing.
use Rattle.std.specs.Prelude.{◌≡◌, ℕ, true, false, List, [], ◌∷◌, ◌++◌, Some, None, Ok, Decides}
use Rattle.station.specs.declared.place.Place.{Place}
use Rattle.station.specs.declared.service.Path.TheVariants.{InBand, OutOfBand}
use Rattle.station.specs.declared.service.Service.{Service}
use Rattle.entries.specs.Exceptions.{names_tuned}
use Rattle.entries.specs.Locations.{names_place}
use Rattle.text.specs.Reading.{character, text_of}
use Rattle.text.specs.Structure.{structured}
use Rattle.document.specs.Descriptors.{walked}
use Rattle.document.specs.Document.{document_of}
use Rattle.document.specs.Fragments.{fragments_of}
use Rattle.history.specs.Histories.{Event, sent, told, Start, clock_after}
use Rattle.history.specs.Sections.{seconds, Taken}
use Rattle.history.specs.Forces.{AlertInForce}

pub record EdgeCases : Type 0 where
  -- the location 06 0C 25 names state 6, county 37, any part, and no other place
  pub a_county : (p : Place) → Decides (names_place (0x06 ∷ 0x0C ∷ 0x25 ∷ []) p) ((p.state ≡ 6) × (p.county ≡ 37))
  -- 06 5C 25 names part 5 of it and the unknown part, not part 4
  pub part_5 : (p : Place) → p.state ≡ 6 → p.county ≡ 37 → p.part ≡ 5 → names_place (0x06 ∷ 0x5C ∷ 0x25 ∷ []) p ≡ true
  pub part_unknown : (p : Place) → p.state ≡ 6 → p.county ≡ 37 → p.part ≡ 0 → names_place (0x06 ∷ 0x5C ∷ 0x25 ∷ []) p ≡ true
  pub part_4 : (p : Place) → p.state ≡ 6 → p.county ≡ 37 → p.part ≡ 4 → names_place (0x06 ∷ 0x5C ∷ 0x25 ∷ []) p ≡ false
  -- 00 0C 00 names every place
  pub everywhere : (p : Place) → names_place (0x00 ∷ 0x0C ∷ 0x00 ∷ []) p ≡ true
  -- the exception FF FC 0C FC 01 names channel 12-1 in-band, no other service, and none out-of-band
  pub a_channel : (s : Service) → Decides (names_tuned (0xFF ∷ 0xFC ∷ 0x0C ∷ 0xFC ∷ 0x01 ∷ []) (record { service = s; path = InBand })) ((s.channel.major ≡ 12) × (s.channel.minor ≡ 1))
  pub no_channel_out_of_band : (s : Service) → names_tuned (0xFF ∷ 0xFC ∷ 0x0C ∷ 0xFC ∷ 0x01 ∷ []) (record { service = s; path = OutOfBand }) ≡ false
  -- 7F FF FF 01 00 names source ID 256 out-of-band, no other service, and none in-band
  pub a_source : (s : Service) → Decides (names_tuned (0x7F ∷ 0xFF ∷ 0xFF ∷ 0x01 ∷ 0x00 ∷ []) (record { service = s; path = OutOfBand })) (s.source.0 ≡ 256)
  pub no_source_in_band : (s : Service) → names_tuned (0x7F ∷ 0xFF ∷ 0xFF ∷ 0x01 ∷ 0x00 ∷ []) (record { service = s; path = InBand }) ≡ false
  -- the field 01 65 6E 67 01 00 00 02 4F 4B keeps the structure, and its text is OK
  pub a_field : structured (0x01 ∷ 0x65 ∷ 0x6E ∷ 0x67 ∷ 0x01 ∷ 0x00 ∷ 0x00 ∷ 0x02 ∷ 0x4F ∷ 0x4B ∷ []) ≡ true
  pub a_text : text_of (0x01 ∷ 0x65 ∷ 0x6E ∷ 0x67 ∷ 0x01 ∷ 0x00 ∷ 0x00 ∷ 0x02 ∷ 0x4F ∷ 0x4B ∷ []) ≡ 0x4F ∷ 0x4B ∷ []
  -- byte 10 in mode 4 is D0 90
  pub a_mode : character 4 0x10 ≡ 0xD0 ∷ 0x90 ∷ []
  -- the descriptor 03 04 01 02 3C 61 is fragment 1, bytes 3C 61, and an area with it alone gives those bytes for its document
  pub a_fragment : fragments_of (walked (0x03 ∷ 0x04 ∷ 0x01 ∷ 0x02 ∷ 0x3C ∷ 0x61 ∷ [])).whole ≡ record { number = 1; bytes = 0x3C ∷ 0x61 ∷ [] } ∷ []
  pub a_document : document_of (0x03 ∷ 0x04 ∷ 0x01 ∷ 0x02 ∷ 0x3C ∷ 0x61 ∷ []) ≡ Ok (0x3C ∷ 0x61 ∷ [])
  -- an alert taken at clock 100 with 20 seconds is kept by the reading 119 and removed by 120
  pub kept_before_its_end : (s : Start) (h : List Event) (bytes : List ℕ) → Taken s.place h (sent bytes) → clock_after s.clock h ≡ 100 → seconds bytes ≡ 20 → AlertInForce s (h ++ sent bytes ∷ told 119 ∷ []) (Some bytes)
  pub removed_at_its_end : (s : Start) (h : List Event) (bytes : List ℕ) → Taken s.place h (sent bytes) → clock_after s.clock h ≡ 100 → seconds bytes ≡ 20 → AlertInForce s (h ++ sent bytes ∷ told 120 ∷ []) None
