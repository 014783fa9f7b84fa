use Rattle.std.proofs.Common.{◌≡◌, sym, subst, rules}
use Rattle.std.specs.Option.{option_map}
use Rattle.history.specs.Forces.{EventInForce}
use Rattle.receiver.proofs.Made.{event_held}
use Rattle.receiver.proofs.receiver.Receiver.event_in_force.Goals as goal

pub returns : goal.returns
returns g c =
    let e : c.map.result ≡ option_map (λ a. a.event_id) c.args.self.now.state.alert = search rules in
    record { of_the_alert_in_force = λ s h x. subst (EventInForce s h) (sym e) (event_held s h c.args.self.now.state.alert x.section x.held) }
