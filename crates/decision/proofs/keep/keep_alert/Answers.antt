use Rattle.std.proofs.Common.{◌≡◌, ap, ◌∙◌, subst}
use Rattle.section.specs.Origins.{bytes_of}
use Rattle.section.specs.Values.{fields_of}
use Rattle.section.specs.declared.fields.Fields.{Fields}
use Rattle.decision.specs.Alerts.{end_of, Keeps}
use Rattle.decision.specs.Lookups.{details_of, IsSound, Picks, Sounds}
use Rattle.decision.proofs.Clear.{keeps_fits}
use Rattle.decision.proofs.keep.keep_alert.Goals as goal

pub returns : goal.returns
returns g c =
    let s = bytes_of c.args.section.now in
    let ss = (g.S.Set.meaning c.args.set.now).services in
    let path = c.args.path in
    let n = c.in_ok-text.ensures.0 in
    let f = c.in_ok-fields.ensures.1 in
    let d : c.details_service-details.result ≡ details_of path (fields_of s) ss = c.details_service-details.ensures ∙ ap (λ x. details_of path x ss) f in
    let sound : Sounds path (fields_of s) ss c.borrowable_sound.result =
    subst (λ (x : Fields). Picks (IsSound path x ss (details_of path (fields_of s) ss)) c.borrowable_sound.result) f
    (subst (λ o. Picks (IsSound path c.in_ok-fields.fields ss o) c.borrowable_sound.result) d c.borrowable_sound.ensures) in
    let kept : Keeps s ss path c.args.clock _ =
    record {
      event = ap (λ x. x.event_id) f;
      priority = ap (λ x. x.priority) f;
      end = c.end_of.ensures ∙ ap (λ x. end_of c.args.clock x.seconds.0) f;
      details = d;
      sound = sound;
      words = c.in_ok-text.ensures.1;
      marks = c.in_ok-excepted.ensures.1;
    } in
    record { cases = (n, kept); fits = keeps_fits s ss path c.args.clock _ kept }
