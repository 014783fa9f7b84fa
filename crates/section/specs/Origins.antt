-- The bytes that a section was read from. Assumes nothing.
use Rattle.std.specs.Borrow.{Bor}
use Rattle.std.specs.Prelude.{ℕ, List}
use Rattle.section.specs.declared.section.Section.{Section}

-- where they lie in the caller's memory
abbrev pub memory_of : Section → Bor (List ℕ)
memory_of section = section.bytes

-- and what they are
abbrev pub bytes_of : Section → List ℕ
bytes_of section = (memory_of section).now
