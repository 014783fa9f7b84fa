use Rattle.std.proofs.Common.{◌++◌, codes}
use Rattle.rehearse.specs.Printed.{field}
use Rattle.rehearse.proofs.Joining.{joined, ended}
use Rattle.rehearse.proofs.printed.put_undelivered.Goals as goal

pub returns : goal.returns
returns c =
    let call = c.args.call.now in
    joined (field (codes "call=document refused=") c.args.number) (codes " by=" ++ (call ++ codes "\n")) _ _ _ _ c.in_ok-field.ensures
    (joined (codes " by=") (call ++ codes "\n") _ _ _ _ c.in_ok-text.ensures
    (ended call (codes "\n") _ _ _ _ (rw c.as_bytes.ensures.value at c.in_ok-text-2.ensures) c.text-3.ensures))
