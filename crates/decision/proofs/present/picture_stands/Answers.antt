use Rattle.std.proofs.Common.{refl, sym, subst}
use Rattle.sets.specs.Meaning.{Meaning}
use Rattle.decision.specs.Sentences.{Sentences}
use Rattle.decision.proofs.Said.{says, only}
use Rattle.decision.proofs.present.picture_stands.Goals as goal

pub returns : goal.returns
returns c = record { stands = λ o ss home m. (λ e. subst (λ (x : Meaning). Sentences o ss home x) (sym e) (says o ss home), only o ss home m); value = refl }
