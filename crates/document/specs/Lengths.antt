-- How many bytes of its buffer a gathered and a filled document have. Assumes nothing.
use Rattle.std.specs.Prelude.{ℕ}
use Rattle.document.specs.declared.moved.Gathered.{Gathered}
use Rattle.document.specs.declared.moved.Filled.{Filled}

abbrev pub gathered_length : Gathered → ℕ
gathered_length gathered = gathered.size

abbrev pub filled_length : Filled → ℕ
filled_length filled = filled.size
