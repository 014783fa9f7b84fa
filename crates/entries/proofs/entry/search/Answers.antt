use Rattle.std.proofs.Common.{rules, subst}
use Rattle.entries.specs.Finding.{Finds}
use Rattle.entries.proofs.Chunks.{finds, kept}
use Rattle.entries.proofs.entry.search.Goals as goal
use borrow.Author.Tests.{tests}

pub returns : goal.returns
returns g c =
    let e = g.E.Entry in
    let run = c.position.ensures.runs in
    record {
      cases = subst (λ r. Finds e.width e.named c.args.entries.now c.args.thing.now r) (search (rules, kept)) (finds run.0 _ _ e.width e.named c.args.entries.now c.args.thing.now g.met.E.Entry.some (search rules) (λ a r q k. search (rules, tests)) (λ x b k. search (rules, tests)) c.position.result run.2);
    }
