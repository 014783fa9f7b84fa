use Rattle.std.proofs.Common.{◌≡◌, true, false, refl, subst, rules, tests}
use Rattle.std.specs.Prelude.{position}
use Rattle.std.proofs.lemmas.Iterator.{first_from_Range}
use Rattle.sets.specs.Meaning.{service_at, holds}
use Rattle.decision.specs.Lookups.{bears}
use Rattle.decision.proofs.Firsts.{first_is, kept}
use Rattle.decision.proofs.lookup.first_named.Goals as goal

pub returns : goal.returns
returns g c =
    let ss = (g.S.Set.meaning c.args.set.now).services in
    let p = bears c.args.name in
    subst (λ r. r ≡ position p ss) (search (rules, kept))
    (first_is p ss _ _ c.find.result refl c.count.ensures.value
    (first_from_Range _ _ _ c.find.result (λ k. holds p (service_at ss k) ≡ true) (λ k. holds p (service_at ss k) ≡ false) c.find.ensures.ran (λ x q k. search (rules, tests)) (λ x q k. search (rules, tests))))
