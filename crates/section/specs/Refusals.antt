-- The refusals of a section and of a question about its text. Assumes nothing.
use Rattle.std.specs.Prelude.{ℕ, List, codes}
use Rattle.section.specs.declared.refusal.SectionRefusal.{SectionRefusal}
use Rattle.section.specs.declared.refusal.SectionRefusal.TheVariants.{Length, Head, CheckWord, Version, Layout, Range, Text}
use Rattle.section.specs.declared.refusal.QuestionRefusal.{QuestionRefusal}
use Rattle.section.specs.declared.refusal.QuestionRefusal.TheVariants.{Section, Short}

-- the number of each
abbrev pub number : SectionRefusal → ℕ
number Length = 10
number Head = 11
number CheckWord = 12
number Version = 13
number Layout = 14
number Range = 15
number Text = 16

-- its cause in a few words
abbrev pub words : SectionRefusal → List ℕ
words Length = codes "wrong length"
words Head = codes "fixed value of the head differs"
words CheckWord = codes "wrong check word"
words Version = codes "unknown protocol version"
words Layout = codes "stated lengths do not add up"
words Range = codes "number out of range"
words Text = codes "broken text field"

abbrev pub question_number : QuestionRefusal → ℕ
question_number (Section e) = number e
question_number Short = 26

abbrev pub question_words : QuestionRefusal → List ℕ
question_words (Section e) = words e
question_words Short = codes "buffer too short"
