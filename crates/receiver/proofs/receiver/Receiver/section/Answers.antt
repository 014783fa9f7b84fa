use Rattle.std.proofs.Common.{◌≡◌, ℕ, List, Ok, Err, Result, sym, refl, ap, ◌∙◌, subst, rules}
use Rattle.section.specs.Values.{fields_of}
use Rattle.section.specs.declared.refusal.SectionRefusal.{SectionRefusal}
use Rattle.decision.specs.Alerts.{Keeps}
use Rattle.decision.specs.Pictures.{pictured}
use Rattle.calls.specs.Replying.{of_section}
use Rattle.calls.specs.Verdicts.{verdict_of}
use Rattle.calls.specs.declared.answer.Answer.{Answer}
use Rattle.history.specs.Histories.{Event, sent, Start}
use Rattle.history.specs.Replies.{Due}
use Rattle.history.specs.Stands.{Stands}
use Rattle.history.specs.Sheet.{alerted, entered, Judges, Moves}
use Rattle.history.specs.declared.state.State.{State}
use Rattle.history.proofs.Sectioning.{on_refused, on_passed, on_taken}
use Rattle.receiver.specs.declared.receiver.Receiver.{Receiver}
use Rattle.receiver.proofs.Turned.{goes_on, shows, spares}
use Rattle.receiver.proofs.receiver.Receiver.section.Goals as goal

pub returns-in_err-judged-clause-stands : goal.returns-in_err-judged-clause-stands
returns-in_err-judged-clause-stands g c =
    let before = c.args.self.now in
    let bytes = c.args.bytes.now in
    let e = c.in_err-judged.field-0.0 in
    let j = subst (λ (b : List ℕ). Judges before.state b (Err e)) c.read-section.ensures.bytes c.in_err-judged.ensures.cases in
    λ s h x. (on_refused s h before.state (g.S.Set.meaning before.set) x bytes e j).0

pub returns-in_err-judged-clause-the_set_shows_what_the_calls_ask : goal.returns-in_err-judged-clause-the_set_shows_what_the_calls_ask
returns-in_err-judged-clause-the_set_shows_what_the_calls_ask g c =
    let before = c.args.self.now in
    let bytes = c.args.bytes.now in
    let e = c.in_err-judged.field-0.0 in
    let j = subst (λ (b : List ℕ). Judges before.state b (Err e)) c.read-section.ensures.bytes c.in_err-judged.ensures.cases in
    shows g.S.Set.meaning (sent bytes) before before before.state refl (λ s h x. (on_refused s h before.state (g.S.Set.meaning before.set) x bytes e j).0)

pub returns-in_err-judged-clause-the_calls_before_determine_the_reply : goal.returns-in_err-judged-clause-the_calls_before_determine_the_reply
returns-in_err-judged-clause-the_calls_before_determine_the_reply g c =
    let before = c.args.self.now in
    let bytes = c.args.bytes.now in
    let e = c.in_err-judged.field-0.0 in
    let j = subst (λ (b : List ℕ). Judges before.state b (Err e)) c.read-section.ensures.bytes c.in_err-judged.ensures.cases in
    let gave : ◌≡◌ {A = Result Answer SectionRefusal} c.from_residual.result (Err e) = search rules in
    λ s h x. subst (λ (r : Result Answer SectionRefusal). Due s h (verdict_of (of_section r)) (sent bytes)) (sym gave) (on_refused s h before.state (g.S.Set.meaning before.set) x bytes e j).1

pub returns-in_default : goal.returns-in_default
returns-in_default g c =
    let mean = g.S.Set.meaning in
    let before = c.args.self.now in
    let bytes = c.args.bytes.now in
    let judged = c.in_ok-judged.judged in
    let same = c.read-section.ensures.bytes in
    let j = subst (λ (b : List ℕ). Judges before.state b (Ok judged.answer)) same c.in_ok-judged.ensures.cases.0 in
    let q = c.in_ok-judged.ensures.cases.1 ∙ ap (λ (b : List ℕ). (fields_of b).sequence) same in
    let next = entered before.state judged.answer judged.sequence in
    let after : Receiver g.row.S.Denot = record { state = c.after_answer-noted.result; set = before.set } in
    let on = λ (s : Start) (h : List Event) (x : Stands s h before.state (mean before.set)). on_passed s h before.state (mean before.set) x bytes judged.answer judged.sequence c.in_default.not-InForce q j in
    record {
      stands = goes_on mean (sent bytes) before after next c.after_answer-noted.ensures.value (λ s h x. (on s h x).0);
      the_set_shows_what_the_calls_ask = shows mean (sent bytes) before after next c.after_answer-noted.ensures.value (λ s h x. (on s h x).0);
      the_calls_before_determine_the_reply = λ s h x. (on s h x).1;
      a_refusal_changes_nothing = tt;
      a_set_that_shows_it_is_spared = λ s h x law. refl;
    }

pub returns-in_ok-alert : goal.returns-in_ok-alert
returns-in_ok-alert g c =
    let mean = g.S.Set.meaning in
    let before = c.args.self.now in
    let after = c.turn_to.new.self in
    let bytes = c.args.bytes.now in
    let judged = c.in_ok-judged.judged in
    let alert = c.in_ok-alert.alert in
    let same = c.read-section.ensures.bytes in
    let j = subst (λ (b : List ℕ). Judges before.state b (Ok judged.answer)) same c.in_ok-judged.ensures.cases.0 in
    let q = c.in_ok-judged.ensures.cases.1 ∙ ap (λ (b : List ℕ). (fields_of b).sequence) same in
    let keeps = subst (λ (b : List ℕ). Keeps b (mean before.set).services before.state.path before.state.clock alert) same c.in_ok-alert.ensures.cases.1 in
    let next = alerted (entered before.state judged.answer judged.sequence) alert in
    let to : c.with_alert.result ≡ next = c.with_alert.ensures.value ∙ ap (λ (y : State). alerted y alert) c.after_answer-noted.ensures.value in
    let moves = subst (λ (y : State). Moves (mean before.set) before.state y (mean after.set)) to c.turn_to.ensures.after in
    let spared = subst (λ (y : State). pictured before.state.alert (mean before.set).services before.state.home ≡ pictured y.alert (mean before.set).services y.home → after.set ≡ before.set) to c.turn_to.ensures.same in
    let on = λ (s : Start) (h : List Event) (x : Stands s h before.state (mean before.set)). on_taken s h before.state (mean before.set) x bytes judged.answer c.in-InForce.field-0 judged.sequence alert (mean after.set) c.in-InForce.is q j keeps c.in_ok-alert.ensures.fits moves in
    record {
      stands = goes_on mean (sent bytes) before after next (c.turn_to.ensures.state ∙ to) (λ s h x. (on s h x).0);
      the_set_shows_what_the_calls_ask = shows mean (sent bytes) before after next (c.turn_to.ensures.state ∙ to) (λ s h x. (on s h x).0);
      the_calls_before_determine_the_reply = λ s h x. (on s h x).1;
      a_refusal_changes_nothing = tt;
      a_set_that_shows_it_is_spared = spares mean (sent bytes) before after next (c.turn_to.ensures.state ∙ to) (λ s h x. (on s h x).0) spared;
    }
