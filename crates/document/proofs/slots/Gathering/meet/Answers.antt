use Rattle.std.proofs.Common.{◌≡◌, true, false, get_or, rules, arith}
use Rattle.std.specs.Option.{is_some}
use Rattle.document.specs.Fragments.{breaks}
use Rattle.document.specs.Tables.{empty}
use Rattle.document.proofs.Tables.{met_broken, met_again, met_new}
use Rattle.document.proofs.slots.Gathering.meet.Goals as goal

pub returns-then-is_broken-clause-holds : goal.returns-then-is_broken-clause-holds
returns-then-is_broken-clause-holds c = λ area ds part h. let b : breaks c.args.body.now ≡ true = search rules in met_broken area ds c.args.body.now c.args.self.now h b

pub returns-then-is_none-clause-holds : goal.returns-then-is_none-clause-holds
returns-then-is_none-clause-holds c = λ area ds part h.
    let body = c.args.body.now in
    let b : breaks body ≡ false = search rules in
    let free : is_some (get_or c.args.self.now.slots (get_or body 0 0) empty).fragment ≡ false = search rules in
    met_new area ds body c.args.self.now h b c.args.at c.from.ensures part c.requires.brief (omega (arith, c.type_inv.body 0)) free

pub returns-else-is_none-clause-holds : goal.returns-else-is_none-clause-holds
returns-else-is_none-clause-holds c = λ area ds part h.
    let body = c.args.body.now in
    let b : breaks body ≡ false = search rules in
    let full : is_some (get_or c.args.self.now.slots (get_or body 0 0) empty).fragment ≡ true = search rules in
    met_again area ds body c.args.self.now h b _ full
