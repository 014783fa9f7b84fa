-- What a receiver promises once its sheet is turned. Assumes nothing.
use Rattle.std.proofs.Common.{◌≡◌, [], ◌∷◌, ◌++◌, sym, subst}
use Rattle.sets.specs.Meaning.{Meaning}
use Rattle.decision.specs.Pictures.{pictured}
use Rattle.history.specs.Histories.{Event}
use Rattle.history.specs.Stands.{Stands}
use Rattle.history.specs.declared.state.State.{State}
use Rattle.history.proofs.Sparing.{one_picture}
use Rattle.history.proofs.Turns.{lawful_run}
use Rattle.receiver.specs.Stood.{WhateverCame, GoesOn, Shows, Spares}
use Rattle.receiver.specs.declared.receiver.Receiver.{Receiver}

module _ {S : Type 0} (mean : S → Meaning) (e : Event) (before after : Receiver S) (next : State) (is : after.state ≡ next) (on : WhateverCame mean before (λ s h. Stands s (h ++ e ∷ []) next (mean after.set))) where
  pub goes_on : GoesOn mean e before after
  goes_on s h x = subst (λ (y : State). Stands s (h ++ e ∷ []) y (mean after.set)) (sym is) (on s h x)

  pub shows : Shows mean e before after
  shows s h x = lawful_run s (h ++ e ∷ []) next (mean after.set) (on s h x)

  pub spares : (pictured before.state.alert (mean before.set).services before.state.home ≡ pictured next.alert (mean before.set).services next.home → after.set ≡ before.set) → Spares mean e before after
  spares same s h x law =
      same (one_picture s h before.state (mean before.set) x (h ++ e ∷ []) next (mean after.set) (on s h x) law)
