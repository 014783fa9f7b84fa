use Rattle.std.proofs.Common.{refl, ap, ◌∙◌}
use Rattle.sets.specs.Meaning.{Meaning}
use Rattle.history.proofs.Turns.{begun, lawful_run}
use Rattle.receiver.specs.Stood.{began}
use Rattle.receiver.proofs.receiver.Receiver.begin.Goals as goal

pub returns : goal.returns
returns g c =
    let found = g.S.Set.meaning c.args.set in
    let plainly = c.quiet.ensures.after in
    let stands = begun (began c.args.outset found) _ _ (g.S.Set.lawful c.args.set) refl refl refl (c.shown.ensures.value ∙ ap (λ (m : Meaning). m.shown) plainly) refl refl plainly in
    record { stands = stands; the_set_shows_what_the_calls_ask = lawful_run _ _ _ _ stands }
