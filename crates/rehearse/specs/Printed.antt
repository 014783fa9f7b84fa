-- The lines that are printed. Assumes nothing.
use Rattle.std.specs.Prelude.{◌≡◌, ⊤, ℕ, List, [], ◌++◌, length, Some, None, Ok, Err, codes, decimal, Option, Result}
use Rattle.std.specs.declared.alloc.AllocError.{AllocError}
use Rattle.section.specs.declared.fields.EventId.{EventId}
use Rattle.sets.specs.declared.sound.Sound.{Sound}
use Rattle.sets.specs.declared.sound.Sound.TheVariants.{Own, Borrowed}
use Rattle.rehearse.specs.declared.shown.Shown.{Shown}

-- the bytes at the end of what was printed before; where there is no memory, some of them
abbrev pub Prints : {U : Type 0} → List ℕ → List ℕ → Result U AllocError → List ℕ → Type 0
Prints before more (Ok u) after = after ≡ before ++ more
Prints before more (Err e) after = ⊤

abbrev pub field : List ℕ → ℕ → List ℕ
field key n = key ++ decimal n

abbrev pub numbered : List ℕ → ℕ → List ℕ
numbered key n = field key n ++ codes "\n"

abbrev pub sound_of : Sound → List ℕ
sound_of Own = codes " sound=own"
sound_of (Borrowed n) = field (codes " sound=") n

abbrev pub alert_of : Option EventId → List ℕ
alert_of None = codes " alert=none"
alert_of (Some e) = field (codes " alert=") e.0

abbrev pub entry_of : Option ℕ → List ℕ
entry_of None = []
entry_of (Some n) = field (codes " entry=") n

abbrev pub caption_of : List ℕ → List ℕ
caption_of bytes = codes " caption=" ++ (bytes ++ codes "\n")

-- what a receiver is at, and what its set shows
abbrev pub state_of : Shown → List ℕ
state_of s = field (codes " home=") s.home ++ (field (codes " screen=") s.picture.service ++ (sound_of s.picture.sound ++ (alert_of s.alert ++ caption_of s.picture.caption.now)))

abbrev pub answer_of : List ℕ → ℕ → Option ℕ → List ℕ
answer_of name n entry = codes "call=" ++ (name ++ (field (codes " answer=") n ++ entry_of entry))

abbrev pub call_line : List ℕ → ℕ → Option ℕ → Shown → List ℕ
call_line name n entry s = answer_of name n entry ++ state_of s

abbrev pub begin_line : Shown → List ℕ
begin_line s = codes "call=begin" ++ state_of s

-- the document, after a line that says how many bytes it has
abbrev pub document_lines : List ℕ → List ℕ
document_lines bytes = numbered (codes "call=document bytes=") (length bytes) ++ (bytes ++ codes "\n")

abbrev pub undelivered : ℕ → List ℕ → List ℕ
undelivered n call = field (codes "call=document refused=") n ++ (codes " by=" ++ (call ++ codes "\n"))
