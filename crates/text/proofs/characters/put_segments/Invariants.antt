use Rattle.std.proofs.Common.{◌≡◌, true}
use Rattle.text.specs.Structure.{segments}
use Rattle.text.specs.Reading.{all_readable, characters}
use Rattle.text.specs.Said.{said}
use Rattle.text.specs.Filling.{filled, all_fit}
use Rattle.text.proofs.characters.put_segments.Given as goal

abbrev pub invariant-loop-segment : goal.invariant-loop-segment
invariant-loop-segment l =
    let left = segments l.segment-iterator.left l.segment-iterator.rest.now in
    let all = segments l.fn.segments.left l.fn.segments.rest.now in
    (all_fit (said l.text) (characters left) ≡ all_fit (said l.fn.text) (characters all))
    × (filled (said l.text) (characters left) ≡ filled (said l.fn.text) (characters all))
    × (all_readable left ≡ true)
