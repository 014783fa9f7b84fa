-- The refusals of a text question: their numbers and their words. Assumes nothing.
use Rattle.std.specs.Prelude.{ℕ, List, codes}
use Rattle.text.specs.declared.refusal.TextRefusal.{TextRefusal}
use Rattle.text.specs.declared.refusal.TextRefusal.TheVariants.{Broken, Short}

-- the number of each
abbrev pub number : TextRefusal → ℕ
number Broken = 16
number Short = 26

-- the cause of each, in a few words
abbrev pub words : TextRefusal → List ℕ
words Broken = codes "the text field breaks its structure"
words Short = codes "the buffer is shorter than the text"
