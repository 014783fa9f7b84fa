use Rattle.std.proofs.Common.{◌++◌, length, codes}
use Rattle.rehearse.specs.Printed.{numbered}
use Rattle.rehearse.proofs.Joining.{joined, ended}
use Rattle.rehearse.proofs.printed.put_document.Goals as goal

pub returns : goal.returns
returns c =
    let bytes = c.args.bytes.now in
    joined (numbered (codes "call=document bytes=") (length bytes)) (bytes ++ codes "\n") _ _ _ _ c.in_ok-put_numbered.ensures
    (ended bytes (codes "\n") _ _ _ _ c.in_ok-text.ensures c.text-2.ensures)
