-- What a question about a part answers. Assumes nothing.
use Rattle.std.specs.Prelude.{◌≡◌, ℕ, List, Result}
use Rattle.station.specs.Rules.{Gives}
use Rattle.section.specs.Refusals.{number}
use Rattle.section.specs.Rules.{refusal}
use Rattle.section.specs.declared.part.Part.{Part}
use Rattle.section.specs.declared.refusal.SectionRefusal.{SectionRefusal}

-- of the section s: the part at a place with these bytes, or the section's refusal
abbrev pub Hands : List ℕ → ℕ → List ℕ → Result Part SectionRefusal → Type 0
Hands s at bytes r = Gives number (refusal s) (λ p. (p.at ≡ at) × (p.bytes.now ≡ bytes)) r
