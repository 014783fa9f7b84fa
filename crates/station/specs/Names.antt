-- What names a service: a channel pair but for the pair of zeros, a source ID but for 0. Assumes nothing.
use Rattle.std.specs.Prelude.{Bool, not, ◌&&◌, ◌==◌}
use Rattle.station.specs.declared.service.ChannelPair.{ChannelPair}
use Rattle.station.specs.declared.service.SourceId.{SourceId}

-- the first is a pair, and the second is the same
abbrev pub names_pair : ChannelPair → ChannelPair → Bool
names_pair a b = not (a.major == 0 && a.minor == 0) && (a.major == b.major && a.minor == b.minor)

-- the first is an ID, and the second is the same
abbrev pub names_id : SourceId → SourceId → Bool
names_id a b = not (a.0 == 0) && a.0 == b.0
