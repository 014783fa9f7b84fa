use Rattle.std.proofs.Common.{[], length, ap, arith}
use Rattle.std.proofs.lemmas.List.Folds.{length-flat_map-take}
use Rattle.document.specs.Tables.{empty, placed_bytes}
use Rattle.document.proofs.Escapes.{put_on}
use Rattle.document.proofs.binding.write.Goals as goal

pub put-done-requires : goal.put-done-requires
put-done-requires c =
    let r = length-flat_map-take (placed_bytes c.args.area.now) c.args.slots.now c.loop-slot.slot-index empty (omega arith) in
    omega (arith, ap length c.bytes.ensures.value)

pub loop-slot-preserved : goal.loop-slot-preserved
loop-slot-preserved c =
    let s = put_on (placed_bytes c.args.area.now) c.args.slots.now c.loop-slot.slot-index empty [] c.args.work.now c.loop-slot.work c.loop-slot.done (omega arith) (omega arith) c.loop-slot.invariant.1 (omega arith) in
    let y = c.bytes.ensures.value in
    let l = ap length y in
    (omega arith, cc)

pub bytes-requires : goal.bytes-requires
bytes-requires c = c.requires.inside c.loop-slot.slot-index
