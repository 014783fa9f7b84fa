-- The rules of a table of services with its start, and which of them is broken first. Assumes nothing.
use Rattle.std.specs.Prelude.{ℕ, Bool, ◌&&◌, List, length, None, Option, nat_le, nat_lt}
use Rattle.std.specs.List.{list_all}
use Rattle.station.specs.Rules.{unless}
use Rattle.station.specs.declared.service.Service.{Service}

-- 1 to 256 services
abbrev pub sized : List Service → Bool
sized table = nat_le 1 (length table) && nat_le (length table) 256

-- both channel numbers at most 1,023
abbrev pub numbered : Service → Bool
numbered s = nat_le s.channel.major 1023 && nat_le s.channel.minor 1023

abbrev pub all_numbered : List Service → Bool
all_numbered table = list_all numbered table

-- the start is one of them
abbrev pub starts_in : List Service → ℕ → Bool
starts_in table start = nat_lt start (length table)

-- the number of the first rule that is broken, if any is
abbrev pub table_refusal : List Service → ℕ → Option ℕ
table_refusal table start =
    unless (sized table) 41
    (unless (all_numbered table) 42
    (unless (starts_in table start) 43 None))
