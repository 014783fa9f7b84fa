-- What a call gives, as a reply. Assumes nothing.
use Rattle.std.specs.Prelude.{◌≡◌, Ok, Err, Result}
use Rattle.section.specs.declared.refusal.SectionRefusal.{SectionRefusal}
use Rattle.calls.specs.declared.answer.Answer.{Answer}
use Rattle.calls.specs.declared.refusal.CallRefusal.{CallRefusal}
use Rattle.calls.specs.declared.refusal.CallRefusal.TheVariants.{Section}
use Rattle.calls.specs.declared.reply.Reply.{Reply}
use Rattle.calls.specs.declared.reply.Reply.TheVariants.{Answered, Granted, Refused}

-- to a section: its answer, or its refusal
abbrev pub of_section : Result Answer SectionRefusal → Reply
of_section (Ok answer) = Answered answer
of_section (Err e) = Refused (Section e)

-- to a reading or a choice: granted, or its refusal, made one of any call's
abbrev pub of_grant : {U E : Type 0} → (E → CallRefusal) → Result U E → Reply
of_grant as_call (Ok done) = Granted
of_grant as_call (Err e) = Refused (as_call e)

-- the same of any refusal that converts to one of a call's
abbrev pub IsReplyTo : {E : Type 0} → (E → CallRefusal → Type 0) → Result (Unit {0}) E → Reply → Type 0
IsReplyTo converts (Ok done) reply = reply ≡ Granted
IsReplyTo converts (Err e) reply = (r : CallRefusal) × converts e r × (reply ≡ Refused r)
