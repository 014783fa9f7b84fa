use Rattle.std.proofs.Common.{sym, ap, ◌∙◌}
use Rattle.decision.specs.Lookups.{details_of}
use Rattle.decision.proofs.lookup.details_service.Goals as goal

pub returns-in-InBand : goal.returns-in-InBand
unfolding details_of
returns-in-InBand g c = c.first_named.ensures ∙ ap (λ p. details_of p c.args.fields.now (g.S.Set.meaning c.args.set.now).services) (sym c.in-InBand.is)

pub returns-in-OutOfBand : goal.returns-in-OutOfBand
unfolding details_of
returns-in-OutOfBand g c = c.first_named-in-OutOfBand.ensures ∙ ap (λ p. details_of p c.args.fields.now (g.S.Set.meaning c.args.set.now).services) (sym c.in-OutOfBand.is)
