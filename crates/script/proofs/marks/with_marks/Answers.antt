use Rattle.std.proofs.Common.{◌∙◌}
use Rattle.script.proofs.Marking.{word_refused, word_taken, last_word}
use Rattle.script.proofs.marks.with_marks.Goals as goal

pub returns-in_err-service : goal.returns-in_err-service
returns-in_err-service c =
    let cut = c.in-Some.ensures.cases in
    record {
      value = c.from_residual.ensures
          ∙ word_refused c.loop-word.service c.loop-word.rest.now c.in-Some.word.now cut.0 cut.1 c.in_err-service.ensures.value ∙ c.loop-word.invariant;
    }

pub loop-word-preserved : goal.loop-word-preserved
loop-word-preserved c =
    let cut = c.in-Some.ensures.cases in
    word_taken c.loop-word.service c.in_ok-service.service c.loop-word.rest.now c.in-Some.word.now c.in-Some.more.now cut.0 cut.1 cut.2 c.in_ok-service.ensures.value ∙ c.loop-word.invariant

pub returns : goal.returns
returns c = record { value = c.with_mark-2.ensures.value ∙ last_word c.loop-word.service c.loop-word.rest.now c.in_default.ensures.cases ∙ c.loop-word.invariant }
