use Rattle.std.proofs.Common.{◌≡◌, map, drop}
use Rattle.text.specs.Reading.{character}
use Rattle.text.specs.Said.{said}
use Rattle.text.specs.Filling.{filled, all_fit}
use Rattle.text.proofs.characters.Mode.put_letters.Given as goal

abbrev pub invariant-loop-byte : goal.invariant-loop-byte
invariant-loop-byte l =
    let spell = character l.self.number in
    (all_fit (said l.text) (map spell (drop l.byte-index l.letters)) ≡ all_fit (said l.initial.text) (map spell l.letters))
    × (filled (said l.text) (map spell (drop l.byte-index l.letters)) ≡ filled (said l.initial.text) (map spell l.letters))
