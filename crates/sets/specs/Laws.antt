-- That the sets of this crate are lawful: proofs that the ghost members hold, which can cite nothing outside specs. Assumes nothing.
use Rattle.std.proofs.Common.{refl, arith}
use Rattle.sets.specs.declared.bus.StudioBus.{StudioBus}
use Rattle.sets.specs.declared.map.ChannelMap.{ChannelMap}
use Rattle.sets.specs.Bus.{bus_meaning}
use Rattle.octets.specs.Bounds.{held_short}
use Rattle.sets.specs.Maps.{map_meaning}
use Rattle.sets.specs.Meaning.{Lawful}

pub bus_lawful : (b : StudioBus) → Lawful (bus_meaning b)
bus_lawful b =
    record {
      some = omega arith;
      few = omega arith;
      inside = b.inside;
      listed = refl;
      short = held_short b.caption;
    }

pub map_lawful : (m : ChannelMap) → Lawful (map_meaning m)
map_lawful m =
    record {
      some = omega (arith, m.inside);
      few = m.few;
      inside = m.inside;
      listed = m.listed;
      short = held_short m.caption;
    }
