use Rattle.std.proofs.Common.{rules, refl}
use Rattle.std.proofs.lemmas.Iterator.Consumers.{YieldsList-from_first}
use Rattle.std.proofs.lemmas.Iterator.Search.{all_from_yields_List}
use Rattle.text.specs.Structure.{segments}
use Rattle.text.specs.Reading.{readable}
use Rattle.text.specs.Seen.{seen_segment}
use Rattle.text.proofs.reading.all_readable.Goals as goal
use borrow.Author.Tests.{tests}

pub returns : goal.returns
returns c =
    let all = segments c.args.segments.left c.args.segments.rest.now in
    record {
      value = all_from_yields_List {s = c.args.segments} {all = all} readable c.all.new.self c.all.new.f _ c.all.ensures.ran
          (YieldsList-from_first seen_segment (λ r. segments r.left r.rest.now) {s = c.args.segments} all refl) (λ x b q k. search (rules, tests));
    }
