use Rattle.std.proofs.Common.{rules, ℕ, refl, ap, ◌∙◌, arith}
use Rattle.std.proofs.lemmas.Iterator.{YieldsList-from_range}
use Rattle.std.proofs.lemmas.Iterator.Search.{all_from_yields_List}
use Rattle.std.specs.List.{range_with_len}
use Rattle.entries.specs.Finding.{entry_at}
use Rattle.section.specs.Rules.{located, all_located}
use borrow.Author.Tests.{tests}
use Rattle.section.proofs.ranges.all_located.Goals as goal

pub returns : goal.returns
returns c =
    let s = c.args.entries.now in
    let test = λ (k : ℕ). located (entry_at 3 s k) in
    let all = range_with_len 0 c.from.result in
    record {
      value = all_from_yields_List {s = record { start = 0; end = c.from.result }} {all = all} test _ _ _ c.all.ensures.ran (YieldsList-from_range 0 c.from.result _ refl (omega arith)) (λ x b q k. search (rules, tests))
          ∙ ap (λ n. all_located n s) c.from.ensures;
    }
