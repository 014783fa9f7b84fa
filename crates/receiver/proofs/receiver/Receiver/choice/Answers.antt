use Rattle.std.proofs.Common.{◌≡◌, ℕ, List, Ok, Err, Result, OnErr, refl, sym, subst, rules}
use Rattle.calls.specs.declared.refusal.ChoiceRefusal.{ChoiceRefusal}
use Rattle.calls.specs.Replying.{of_grant}
use Rattle.calls.specs.Verdicts.{verdict_of}
use Rattle.calls.specs.declared.refusal.CallRefusal.TheVariants.{Choice}
use Rattle.history.specs.Histories.{Event, chose, Start}
use Rattle.history.specs.Replies.{Due}
use Rattle.history.specs.Stands.{Stands}
use Rattle.history.specs.Sheet.{Selects}
use Rattle.history.proofs.Turns.{refused_choice, granted_choice}
use Rattle.receiver.proofs.Made.{past}
use Rattle.receiver.proofs.Turned.{goes_on, shows, spares}
use Rattle.receiver.proofs.receiver.Receiver.choice.Goals as goal

pub returns-in_err-next : goal.returns-in_err-next
returns-in_err-next g c =
    let mean = g.S.Set.meaning in
    let before = c.args.self.now in
    let n = c.args.number in
    let e : Result (Unit {0}) ChoiceRefusal = Err c.in_err-next.field-0.0 in
    let given : c.from_residual.result ≡ e = search rules in
    let far = subst (λ (k : ℕ). Selects before.state k n (Err c.in_err-next.field-0.0)) c.count.ensures.value c.in_err-next.ensures.cases in
    let on = λ (s : Start) (h : List Event) (x : Stands s h before.state (mean before.set)). refused_choice s h before.state (mean before.set) x n far in
    record {
      stands = λ s h x. (on s h x).0;
      the_set_shows_what_the_calls_ask = shows mean (chose n) before before before.state refl (λ s h x. (on s h x).0);
      the_calls_before_determine_the_reply = λ s h x. subst (λ (r : Result (Unit {0}) ChoiceRefusal). Due s h (verdict_of (of_grant Choice r)) (chose n)) (sym given) (past s h (chose n) c.in_err-next.field-0.0 (on s h x).1);
      a_refusal_changes_nothing = subst (λ (r : Result (Unit {0}) ChoiceRefusal). OnErr r (before ≡ before)) (sym given) refl;
      a_set_that_shows_it_is_spared = λ s h x law. refl;
    }

pub returns : goal.returns
returns g c =
    let mean = g.S.Set.meaning in
    let before = c.args.self.now in
    let after = c.turn_to.new.self in
    let n = c.args.number in
    let next = c.in_ok-next.next in
    let inside = subst (λ (k : ℕ). Selects before.state k n (Ok next)) c.count.ensures.value c.in_ok-next.ensures.cases in
    let on = λ (s : Start) (h : List Event) (x : Stands s h before.state (mean before.set)). granted_choice s h before.state (mean before.set) x n next (mean after.set) inside c.turn_to.ensures.after in
    record {
      stands = goes_on mean (chose n) before after next c.turn_to.ensures.state (λ s h x. (on s h x).0);
      the_set_shows_what_the_calls_ask = shows mean (chose n) before after next c.turn_to.ensures.state (λ s h x. (on s h x).0);
      the_calls_before_determine_the_reply = λ s h x. (on s h x).1;
      a_refusal_changes_nothing = tt;
      a_set_that_shows_it_is_spared = spares mean (chose n) before after next c.turn_to.ensures.state (λ s h x. (on s h x).0) c.turn_to.ensures.same;
    }
