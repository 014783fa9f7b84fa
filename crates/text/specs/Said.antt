-- What a text says, and what is answered for a field. Assumes nothing.
use Rattle.std.specs.Prelude.{◌≡◌, ℕ, List, None, Option, Result}
use Rattle.octets.specs.Held.{held}
use Rattle.station.specs.Rules.{unless, Gives}
use Rattle.text.specs.declared.line.Text.{Text}
use Rattle.text.specs.declared.refusal.TextRefusal.{TextRefusal}
use Rattle.text.specs.Refusals.{number}
use Rattle.text.specs.Structure.{structured}
use Rattle.text.specs.Reading.{text_of}

-- the bytes of a text
abbrev pub said : Text → List ℕ
said t = held t.bytes

-- a field keeps its structure
abbrev pub unless_broken : List ℕ → Option ℕ → Option ℕ
unless_broken field rest = unless (structured field) 16 rest

-- the text of a field, if it keeps the structure
abbrev pub English : List ℕ → Result Text TextRefusal → Type 0
English field r = Gives number (unless_broken field None) (λ t. said t ≡ text_of field) r
