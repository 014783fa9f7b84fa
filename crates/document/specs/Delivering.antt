-- The document of a section through the three calls: gathered, filled and handed out. Assumes nothing.
use Rattle.std.specs.Prelude.{◌≡◌, ⊤, ℕ, ◌≤◌, List, length, take, codes, Some, None, Ok, Err, Option, Result, nat_le}
use Rattle.document.specs.Filling.{fill_refusal}
use Rattle.document.specs.Gathers.{section_document, document_within}
use Rattle.document.specs.Lengths.{gathered_length, filled_length}
use Rattle.document.specs.Placeholder.{IsFilled}
use Rattle.document.specs.Refusals.{delivery_number, call_of}
use Rattle.document.specs.declared.moved.Gathered.{Gathered}
use Rattle.document.specs.declared.moved.Filled.{Filled}
use Rattle.document.specs.declared.undelivered.Undelivered.{Undelivered}
use Rattle.document.specs.declared.undelivered.Undelivered.TheVariants.{Fill}

-- the gathered document and the front of the work buffer are the document of the section s
pub record Holds (s : List ℕ) (g : Gathered) (work : List ℕ) : Type 0 where
  pub within : gathered_length g ≤ length work
  pub held : section_document s ≡ Ok (take (gathered_length g) work)

-- doc is the document of the section s with the words, at most 1,024 bytes, in its first placeholder
pub record FilledOf (s words doc : List ℕ) : Type 0 where
  pub document : List ℕ
  pub gathered : section_document s ≡ Ok document
  pub brief : length words ≤ 1024
  pub filled : IsFilled document words doc

-- the filled document and the front of the output buffer are that document
pub record HoldsFilled (s words : List ℕ) (f : Filled) (out : List ℕ) : Type 0 where
  pub within : filled_length f ≤ length out
  pub held : FilledOf s words (take (filled_length f) out)

-- a call that refuses, by its name, and the number that it gives
pub record RefusingCall : Type 0 where
  pub call : List ℕ
  pub number : ℕ

abbrev pub refusal_by : List ℕ → ℕ → Result (List ℕ) RefusingCall
refusal_by call number = Err (record { call = call; number = number })

-- what filling answers for a document that was gathered: the filled one, or its own refusal
abbrev pub filling_answer : Option ℕ → List ℕ → Result (List ℕ) RefusingCall
filling_answer None filled = Ok filled
filling_answer (Some k) filled = refusal_by (codes "fill") k

-- what is answered for a document that was gathered, or the number of its refusal, with the words and an output buffer of n bytes
abbrev pub DeliversOf : Result (List ℕ) ℕ → List ℕ → ℕ → Result (List ℕ) RefusingCall → Type 0
DeliversOf (Ok doc) words n answer =
    (filled : List ℕ) × IsFilled doc words filled × (answer ≡ filling_answer (fill_refusal words (nat_le (length filled) n)) filled)
DeliversOf (Err k) words n answer = answer ≡ refusal_by (codes "gather") k

-- what the three calls answer for the section s and the words, with a work buffer of m bytes and an output buffer of n: handing out is never refused
abbrev pub Delivers : List ℕ → List ℕ → ℕ → ℕ → Result (List ℕ) RefusingCall → Type 0
Delivers s words m n answer = DeliversOf (document_within m (section_document s)) words n answer

-- what an answer says: the bytes at the front of the output buffer that are the filled document, or the call that refused and its number
abbrev pub delivery_answer : Result Filled Undelivered → List ℕ → Result (List ℕ) RefusingCall
delivery_answer (Ok f) out = Ok (take (filled_length f) out)
delivery_answer (Err e) out = refusal_by (call_of e) (delivery_number e)

-- a refused filling gives the gathered document back, and the work buffer holds it
abbrev pub GivesBack : List ℕ → Result Filled Undelivered → List ℕ → Type 0
GivesBack s (Err (Fill e)) work = Holds s e.gathered work
GivesBack s _ work = ⊤
