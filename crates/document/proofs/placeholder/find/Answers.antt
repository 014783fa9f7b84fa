use Rattle.std.proofs.Common.{rules, tests}
use Rattle.document.proofs.Firsts.{first_window, found_within}
use Rattle.document.proofs.placeholder.find.Goals as goal

pub returns : goal.returns
returns c =
    let doc = c.args.document.now in
    let run = c.position.ensures.runs in
    let f = first_window run.0 _ _ doc (λ x b k. search (rules, tests)) (search rules) (λ a r q k. search (rules, tests)) c.position.result run.2 in
    record { value = f; bound = found_within doc c.position.result f }
