-- What is said to a call: a number and, beside 4 alone, the location entry. Assumes nothing.
use Rattle.std.specs.Prelude.{ℕ, ◌<◌, None, Option}
use Rattle.calls.specs.Numbers.{reply_number, reply_entry}
use Rattle.calls.specs.declared.reply.Reply.{Reply}

pub record Verdict : Type 0 where
  pub number : ℕ
  pub entry : Option ℕ

-- a number with nothing beside it
abbrev pub alone : ℕ → Verdict
alone n = record { number = n; entry = None }

-- every number above 4 refuses
abbrev pub IsRefusal : Verdict → Type 0
IsRefusal v = 4 < v.number

-- what a reply to any call says
abbrev pub verdict_of : Reply → Verdict
verdict_of r = record { number = reply_number r; entry = reply_entry r }
