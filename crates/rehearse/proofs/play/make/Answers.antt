use Rattle.std.proofs.Common.{List, ℕ, [], ◌∷◌, ◌++◌, subst}
use Rattle.calls.specs.Verdicts.{verdict_of}
use Rattle.history.specs.Replies.{event}
use Rattle.rehearse.specs.Told.{TellsCall}
use Rattle.rehearse.proofs.play.make.Goals as goal

pub returns-clause-the_line_is_that_of_the_law : goal.returns-clause-the_line_is_that_of_the_law
returns-clause-the_line_is_that_of_the_law g c =
    let e = event c.args.call in
    let v = verdict_of c.call-reply.result in
    λ s h x. (
      v,
      c.call-reply.ensures.the_calls_before_determine_the_reply s h x,
      subst (λ (name : List ℕ). TellsCall s (h ++ e ∷ []) name v c.args.printer.now c.made.new.self) c.name_of-name.ensures
          (c.made.ensures s (h ++ e ∷ []) (c.call-reply.ensures.stands s h x)),
    )
