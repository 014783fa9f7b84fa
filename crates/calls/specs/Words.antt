-- The causes of the refusals in a few words. Assumes nothing.
use Rattle.std.specs.Prelude.{ℕ, List, codes}
use Rattle.section.specs.Refusals.{words}
use Rattle.calls.specs.declared.refusal.ReadingRefusal.{ReadingRefusal}
use Rattle.calls.specs.declared.refusal.ReadingRefusal.TheVariants.{Earlier}
use Rattle.calls.specs.declared.refusal.ChoiceRefusal.{ChoiceRefusal}
use Rattle.calls.specs.declared.refusal.ChoiceRefusal.TheVariants.{PastTheList}
use Rattle.calls.specs.declared.refusal.CallRefusal.{CallRefusal}
use Rattle.calls.specs.declared.refusal.CallRefusal.TheVariants.{Section, Reading, Choice}

abbrev pub reading_words : ReadingRefusal → List ℕ
reading_words Earlier = codes "clock earlier than before"

abbrev pub choice_words : ChoiceRefusal → List ℕ
choice_words PastTheList = codes "choice past the list"

abbrev pub refusal_words : CallRefusal → List ℕ
refusal_words (Section e) = words e
refusal_words (Reading e) = reading_words e
refusal_words (Choice e) = choice_words e
