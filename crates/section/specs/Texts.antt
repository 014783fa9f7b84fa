-- What a question about a text answers, and what it leaves in a buffer. Assumes nothing.
use Rattle.std.specs.Prelude.{◌≡◌, ℕ, List, Result}
use Rattle.std.specs.Option.{option_or}
use Rattle.station.specs.Rules.{Gives}
use Rattle.text.specs.Reading.{text_of}
use Rattle.text.specs.Said.{said}
use Rattle.text.specs.Writing.{unless_short, WritesUnless}
use Rattle.text.specs.declared.line.Text.{Text}
use Rattle.section.specs.Places.{nature_of, alert_of}
use Rattle.section.specs.Refusals.{number, question_number}
use Rattle.section.specs.Rules.{refusal}
use Rattle.section.specs.declared.refusal.SectionRefusal.{SectionRefusal}
use Rattle.section.specs.declared.refusal.QuestionRefusal.{QuestionRefusal}

-- the alert's text, and the nature text in the same reading
abbrev pub alert_text : List ℕ → List ℕ
alert_text s = text_of (alert_of s)

abbrev pub nature_text : List ℕ → List ℕ
nature_text s = text_of (nature_of s)

-- of the section s: a text with these words, or the section's refusal
abbrev pub Says : List ℕ → List ℕ → Result Text SectionRefusal → Type 0
Says s words r = Gives number (refusal s) (λ t. said t ≡ words) r

-- the words at the front of the buffer, unless the section s breaks a rule or the buffer is shorter; then the buffer is as it was
abbrev pub Writes : List ℕ → List ℕ → List ℕ → Result ℕ QuestionRefusal → List ℕ → Type 0
Writes s words before r after = WritesUnless question_number (option_or (refusal s) (unless_short words before)) words before r after
