use Rattle.std.proofs.Common.{◌+◌, List, ◌++◌, map, length, take, drop, sym, ap, ◌∙◌, subst, arith}
use lib.ListN.{length-map}
use Rattle.std.proofs.lemmas.List.{drop-set-lt}
use Rattle.calls.specs.Verdicts.{verdict_of}
use Rattle.calls.specs.declared.reply.Reply.{Reply}
use Rattle.history.specs.Histories.{Event}
use Rattle.history.specs.Replies.{event, Due}
use Rattle.history.proofs.Running.{event_of, one_more, asked_here, all_made, DueAt, Upto, upto_set, upto_past}
use Rattle.history.proofs.Turns.{lawful_run}
use Rattle.receiver.specs.Stood.{Stood, WhateverCame}
use Rattle.receiver.proofs.runs.carry_on.Goals as goal
use Rattle.receiver.proofs.runs.carry_on.Goals.{then-i-replies, else-i-replies}

pub loop-i-preserved : goal.loop-i-preserved
loop-i-preserved g c =
    let mean = g.S.Set.meaning in
    let i = c.loop-i.i in
    let calls = c.args.calls.now in
    let events = map event calls in
    let l = c.loop-i-test.true in
    let r = c.call-reply.result in
    let old = c.loop-i.invariant in
    let made = c.call-reply.ensures in
    let new : WhateverCame mean c.args.receiver.now (λ s h. DueAt s h events i r) =
    λ s h x. subst (Due s (h ++ take i events) (verdict_of r)) (sym (event_of i calls _ l)) (made.the_calls_before_determine_the_reply s (h ++ take i events) (old.0 s h x)) in (
      λ s h x. subst (λ (z : List Event). Stood mean s z c.call-reply.new.self) (one_more h i calls _ l) (made.stands s (h ++ take i events) (old.0 s h x)),
      λ s h x. elim c.if-i-replies.branch [
        | then-i-replies w ↦ subst (λ (z : List Reply). Upto s h events z (i + 1)) (sym w.replies-is) (upto_set s h events c.loop-i.replies i r w.if-i-replies.true (old.1 s h x) (new s h x))
        | else-i-replies w ↦ subst (λ (z : List Reply). Upto s h events z (i + 1)) (sym w.replies-is) (upto_past s h events c.loop-i.replies i w.if-i-replies.false (old.1 s h x))
      ],
      elim c.if-i-replies.branch [
        | then-i-replies w ↦ ap (drop (length calls)) w.replies-is ∙ drop-set-lt (length calls) c.loop-i.replies i r l ∙ old.2
        | else-i-replies w ↦ ap (drop (length calls)) w.replies-is ∙ old.2
      ],
      λ s h x all. made.a_refusal_changes_nothing (all i (verdict_of r) (omega arith) (new s h x)) ∙ old.3 s h x (λ j v b. all j v (omega arith)),
      λ s h x all.
          let same = old.4 s h x (λ j b. all j (omega arith)) in
          made.a_set_that_shows_it_is_spared s (h ++ take i events) (old.0 s h x)
          (asked_here s h i calls _ (mean c.args.receiver.now.set) (mean c.loop-i.receiver.set) l (ap mean same) (all i (omega arith)))
          ∙ same,
    )

pub returns : goal.returns
returns g c =
    let mean = g.S.Set.meaning in
    let i = c.loop-i.i in
    let calls = c.args.calls.now in
    let events = map event calls in
    let left = c.loop-i-test.false in
    let few = c.loop-i.auto.i-end in
    let many = length-map calls event in
    let end = c.loop-i.invariant in
    let on : WhateverCame mean c.args.receiver.now (λ s h. Stood mean s (h ++ events) c.loop-i.receiver) =
    λ s h x. subst (λ (z : List Event). Stood mean s z c.loop-i.receiver) (all_made h i calls left) (end.0 s h x) in
    record {
      stands = on;
      the_set_shows_what_the_calls_ask = λ s h x. lawful_run s (h ++ events) c.loop-i.receiver.state (mean c.loop-i.receiver.set) (on s h x);
      the_calls_before_determine_each_reply = λ s h x j a b. end.1 s h x j (omega arith) b;
      refusals_change_nothing = λ s h x all. end.3 s h x (λ j v b. all j v (omega arith));
      a_set_that_always_shows_it_is_spared = λ s h x all. end.4 s h x (λ j b. all j (omega arith));
      rest = end.2;
    }
