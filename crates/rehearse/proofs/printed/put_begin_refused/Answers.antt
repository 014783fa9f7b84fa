use Rattle.rehearse.proofs.printed.put_begin_refused.Goals as goal

pub returns : goal.returns
returns c = rw c.number.ensures.value at c.put_numbered.ensures
