-- The number of each answer and of each refusal, and the entry beside an answer. Assumes nothing.
use Rattle.std.specs.Prelude.{ℕ, Some, None, Option}
use Rattle.section.specs.Refusals.{number}
use Rattle.calls.specs.declared.answer.Answer.{Answer}
use Rattle.calls.specs.declared.answer.Answer.TheVariants.{Repeat, Test, Elsewhere, InForce}
use Rattle.calls.specs.declared.refusal.ReadingRefusal.{ReadingRefusal}
use Rattle.calls.specs.declared.refusal.ReadingRefusal.TheVariants.{Earlier}
use Rattle.calls.specs.declared.refusal.ChoiceRefusal.{ChoiceRefusal}
use Rattle.calls.specs.declared.refusal.ChoiceRefusal.TheVariants.{PastTheList}
use Rattle.calls.specs.declared.refusal.CallRefusal.{CallRefusal}
use Rattle.calls.specs.declared.refusal.CallRefusal.TheVariants.{Section, Reading, Choice}
use Rattle.calls.specs.declared.reply.Reply.{Reply}
use Rattle.calls.specs.declared.reply.Reply.TheVariants.{Answered, Granted, Refused}

-- the answers to a section
abbrev pub answer_number : Answer → ℕ
answer_number Repeat = 1
answer_number Test = 2
answer_number Elsewhere = 3
answer_number (InForce k) = 4

-- the location entry beside 4
abbrev pub answer_entry : Answer → Option ℕ
answer_entry (InForce k) = Some k
answer_entry a = None

-- the refusals of a reading and of a choice
abbrev pub reading_number : ReadingRefusal → ℕ
reading_number Earlier = 31

abbrev pub choice_number : ChoiceRefusal → ℕ
choice_number PastTheList = 32

-- the refusal of any call
abbrev pub refusal_number : CallRefusal → ℕ
refusal_number (Section e) = number e
refusal_number (Reading e) = reading_number e
refusal_number (Choice e) = choice_number e

-- the reply to any call: a granted reading or choice has 0
abbrev pub reply_number : Reply → ℕ
reply_number (Answered a) = answer_number a
reply_number Granted = 0
reply_number (Refused e) = refusal_number e

abbrev pub reply_entry : Reply → Option ℕ
reply_entry (Answered a) = answer_entry a
reply_entry r = None
