-- What a line asks for by its words: every line but those of hexadecimal digits. Assumes nothing.
use Rattle.std.specs.Prelude.{ℕ, cond, List, Some, None, codes, Option}
use Rattle.std.specs.Str.{bytes_eq}
use Rattle.station.specs.declared.service.Path.{Path}
use Rattle.station.specs.declared.service.Path.TheVariants.{InBand, OutOfBand}
use Rattle.lines.specs.Decimal.{parsed}
use Rattle.lines.specs.Keys.{after}
use Rattle.script.specs.declared.asked.Asked.{Asked}
use Rattle.script.specs.declared.asked.Asked.TheVariants as asked
use Rattle.script.specs.declared.asked.SetKind.{SetKind}
use Rattle.script.specs.declared.asked.SetKind.TheVariants.{Bus, Map}
use Rattle.script.specs.declared.asked.Setting.{Setting}
use Rattle.script.specs.declared.asked.Setting.TheVariants as settings
use Rattle.script.specs.declared.spot.Spot.{Spot}
use Rattle.script.specs.Parts.{before_mark, after_mark}
use Rattle.std.specs.Option.{option_map, option_or, unwrap_or}
use Rattle.script.specs.Services.{service_of}

abbrev pub number_after : List ℕ → List ℕ → Option ℕ
number_after key text = after key parsed text

-- what a text means if it is the word
abbrev pub word_of : {X : Type 0} → List ℕ → X → List ℕ → Option X
word_of word meaning text = cond (bytes_eq text word) (Some meaning) None

abbrev pub set_of : List ℕ → Option SetKind
set_of text = option_or (word_of (codes "set=bus") Bus text) (word_of (codes "set=map") Map text)

abbrev pub path_of : List ℕ → Option Path
path_of text = option_or (word_of (codes "path=in-band") InBand text) (word_of (codes "path=out-of-band") OutOfBand text)

-- three numbers with commas between them
abbrev pub spot_by : Option ℕ → Option ℕ → Option ℕ → Option Spot
spot_by (Some state) (Some county) (Some part) = Some (record { state = state; county = county; part = part })
spot_by state county part = None

abbrev pub spot_of : List ℕ → Option Spot
spot_of text = spot_by (parsed (before_mark 0x2C text)) (parsed (before_mark 0x2C (after_mark 0x2C text))) (parsed (after_mark 0x2C (after_mark 0x2C text)))

-- the first of these that there is
abbrev pub setting_of : List ℕ → Option Setting
setting_of text =
    option_or (option_or (option_or (option_or (option_or (option_map settings.Service (after (codes "service=") service_of text))
    (option_map settings.Set (set_of text)))
    (option_map settings.Start (number_after (codes "start=") text)))
    (option_map settings.Place (after (codes "place=") spot_of text)))
    (option_map settings.Path (path_of text)))
    (option_map settings.Clock (number_after (codes "clock=") text))

-- the first of these that there is, and else it is not understood
abbrev pub words_ask : List ℕ → Asked
words_ask text =
    unwrap_or (option_or (option_or (option_or (option_map asked.Tick (number_after (codes "tick=") text))
    (option_map asked.Choose (number_after (codes "choose=") text)))
    (option_map asked.Setting (setting_of text)))
    (word_of (codes "begin") asked.Begin text))
    asked.Unknown
