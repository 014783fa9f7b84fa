-- A service as it stands without its marks. Assumes nothing.
use Rattle.std.specs.Prelude.{false}
use Rattle.station.specs.declared.service.ChannelPair.{ChannelPair}
use Rattle.station.specs.declared.service.Service.{Service}
use Rattle.station.specs.declared.service.SourceId.{SourceId}

abbrev pub unmarked : SourceId → ChannelPair → Service
unmarked source channel = record { source = source; channel = channel; controlled = false; paid = false; apart = false }
