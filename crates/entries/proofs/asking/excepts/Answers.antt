use Rattle.entries.specs.Exceptions.{names_tuned}
use Rattle.entries.proofs.Telling.{tells}
use Rattle.entries.proofs.asking.excepts.Goals as goal

pub returns : goal.returns
returns c =
    record { cases = tells 5 names_tuned c.args.entries.now c.args.tuned.now _ _ c.is_some.ensures c.search.ensures.cases }
