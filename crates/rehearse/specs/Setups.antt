-- The table of services as the set-up lines make it. Assumes nothing.
use Rattle.std.specs.Prelude.{cond, List, [], ◌∷◌, ◌++◌, length, nat_lt}
use Rattle.station.specs.declared.service.Service.{Service}
use Rattle.script.specs.declared.asked.Setting.{Setting}
use Rattle.script.specs.declared.asked.Setting.TheVariants as settings

-- one service more, as long as there are no more than a map may have
abbrev pub table_after : List Service → Setting → List Service
table_after table (settings.Service v) = cond (nat_lt (length table) 257) (table ++ v ∷ []) table
table_after table setting = table
