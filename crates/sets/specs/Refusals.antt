-- The refusals of a set and of a table: their numbers and their words. Assumes nothing.
use Rattle.std.specs.Prelude.{ℕ, List, codes}
use Rattle.sets.specs.declared.refusal.SetRefusal.{SetRefusal}
use Rattle.sets.specs.declared.refusal.SetRefusal.TheVariants.{PastTheList, NotApart, CaptionTooLong}
use Rattle.sets.specs.declared.refusal.TableRefusal.{TableRefusal}
use Rattle.sets.specs.declared.refusal.TableRefusal.TheVariants.{Size, ChannelNumber, Start}

-- the number of each
abbrev pub refusal_number : SetRefusal → ℕ
refusal_number PastTheList = 61
refusal_number NotApart = 62
refusal_number CaptionTooLong = 63

-- its cause in a few words
abbrev pub refusal_words : SetRefusal → List ℕ
refusal_words PastTheList = codes "number past the list"
refusal_words NotApart = codes "sound not apart"
refusal_words CaptionTooLong = codes "caption too long"

-- and the same of a table
abbrev pub table_number : TableRefusal → ℕ
table_number Size = 41
table_number ChannelNumber = 42
table_number Start = 43

abbrev pub table_words : TableRefusal → List ℕ
table_words Size = codes "no service or too many"
table_words ChannelNumber = codes "channel number too large"
table_words Start = codes "start not in the table"
