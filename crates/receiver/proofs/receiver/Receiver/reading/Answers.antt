use Rattle.std.proofs.Common.{◌≡◌, List, Err, Result, sym, refl, subst, rules}
use Rattle.calls.specs.Replying.{of_grant}
use Rattle.calls.specs.Verdicts.{verdict_of}
use Rattle.calls.specs.declared.refusal.CallRefusal.TheVariants.{Reading}
use Rattle.calls.specs.declared.refusal.ReadingRefusal.{ReadingRefusal}
use Rattle.history.specs.Histories.{Event, told, Start}
use Rattle.history.specs.Replies.{Due}
use Rattle.history.specs.Stands.{Stands}
use Rattle.history.proofs.Turns.{refused_reading, granted_reading}
use Rattle.receiver.proofs.Made.{early}
use Rattle.receiver.proofs.Turned.{goes_on, shows, spares}
use Rattle.receiver.proofs.receiver.Receiver.reading.Goals as goal

pub returns-in_err-next-clause-stands : goal.returns-in_err-next-clause-stands
returns-in_err-next-clause-stands g c =
    let before = c.args.self.now in
    λ s h x. (refused_reading s h before.state (g.S.Set.meaning before.set) x c.args.seconds c.in_err-next.ensures.cases).0

pub returns-in_err-next-clause-the_set_shows_what_the_calls_ask : goal.returns-in_err-next-clause-the_set_shows_what_the_calls_ask
returns-in_err-next-clause-the_set_shows_what_the_calls_ask g c =
    let before = c.args.self.now in
    shows g.S.Set.meaning (told c.args.seconds) before before before.state refl
    (λ s h x. (refused_reading s h before.state (g.S.Set.meaning before.set) x c.args.seconds c.in_err-next.ensures.cases).0)

pub returns-in_err-next-clause-the_calls_before_determine_the_reply : goal.returns-in_err-next-clause-the_calls_before_determine_the_reply
returns-in_err-next-clause-the_calls_before_determine_the_reply g c =
    let before = c.args.self.now in
    let n = c.args.seconds in
    let e = c.in_err-next.field-0.0 in
    let gave : ◌≡◌ {A = Result (Unit {0}) ReadingRefusal} c.from_residual.result (Err e) = search rules in
    λ s h x. subst (λ (r : Result (Unit {0}) ReadingRefusal). Due s h (verdict_of (of_grant Reading r)) (told n)) (sym gave)
    (early s h (told n) e (refused_reading s h before.state (g.S.Set.meaning before.set) x n c.in_err-next.ensures.cases).1)

pub returns : goal.returns
returns g c =
    let mean = g.S.Set.meaning in
    let before = c.args.self.now in
    let after = c.turn_to.new.self in
    let n = c.args.seconds in
    let next = c.in_ok-next.next in
    let on = λ (s : Start) (h : List Event) (x : Stands s h before.state (mean before.set)). granted_reading s h before.state (mean before.set) x n next (mean after.set) c.in_ok-next.ensures.cases c.turn_to.ensures.after in
    record {
      stands = goes_on mean (told n) before after next c.turn_to.ensures.state (λ s h x. (on s h x).0);
      the_set_shows_what_the_calls_ask = shows mean (told n) before after next c.turn_to.ensures.state (λ s h x. (on s h x).0);
      the_calls_before_determine_the_reply = λ s h x. (on s h x).1;
      a_refusal_changes_nothing = tt;
      a_set_that_shows_it_is_spared = spares mean (told n) before after next c.turn_to.ensures.state (λ s h x. (on s h x).0) c.turn_to.ensures.same;
    }
