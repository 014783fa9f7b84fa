-- The refusals of gathering, filling, handing out and delivering a document: their numbers and their words. Assumes nothing.
use Rattle.std.specs.Prelude.{ℕ, List, codes}
use Rattle.section.specs.Refusals.{number as sectionNumber, words as sectionWords}
use Rattle.document.specs.declared.refusal.DocumentRefusal.{DocumentRefusal}
use Rattle.document.specs.declared.refusal.DocumentRefusal.TheVariants.{Section, Unended, Broken, Missing, Twice, Gap, Short}
use Rattle.document.specs.declared.unfilled.FillRefusal.{FillRefusal}
use Rattle.document.specs.declared.unfilled.FillRefusal.TheVariants.{Words, Short as Room}
use Rattle.document.specs.declared.withheld.HandOutRefusal.{HandOutRefusal}
use Rattle.document.specs.declared.withheld.HandOutRefusal.TheVariants.{Short as Cut}
use Rattle.document.specs.declared.undelivered.Undelivered.{Undelivered}
use Rattle.document.specs.declared.undelivered.Undelivered.TheVariants.{Gather, Fill, HandOut}

-- the number of each
abbrev pub number : DocumentRefusal → ℕ
number (Section e) = sectionNumber e
number Unended = 20
number Broken = 21
number Missing = 22
number Twice = 23
number Gap = 24
number Short = 26

-- its cause in a few words
abbrev pub words : DocumentRefusal → List ℕ
words (Section e) = sectionWords e
words Unended = codes "bytes run out inside a descriptor"
words Broken = codes "broken metadata descriptor"
words Missing = codes "no metadata descriptor"
words Twice = codes "fragment number twice"
words Gap = codes "fragment number missing"
words Short = codes "work buffer too short"

abbrev pub fill_number : FillRefusal → ℕ
fill_number Words = 25
fill_number Room = 26

abbrev pub fill_words : FillRefusal → List ℕ
fill_words Words = codes "words too long"
fill_words Room = codes "buffer too short"

abbrev pub hand_out_number : HandOutRefusal → ℕ
hand_out_number Cut = 26

abbrev pub hand_out_words : HandOutRefusal → List ℕ
hand_out_words Cut = codes "buffer too short"

-- a delivery is refused as the call that refused it
abbrev pub delivery_number : Undelivered → ℕ
delivery_number (Gather e) = number e
delivery_number (Fill e) = fill_number e.refusal
delivery_number (HandOut e) = hand_out_number e

abbrev pub delivery_words : Undelivered → List ℕ
delivery_words (Gather e) = words e
delivery_words (Fill e) = fill_words e.refusal
delivery_words (HandOut e) = hand_out_words e

-- the call that refused, by name
abbrev pub call_of : Undelivered → List ℕ
call_of (Gather e) = codes "gather"
call_of (Fill e) = codes "fill"
call_of (HandOut e) = codes "hand out"
