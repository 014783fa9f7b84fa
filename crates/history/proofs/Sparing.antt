-- A set that already shows what the next sheet asks. Assumes nothing.
use Rattle.std.proofs.Common.{◌≡◌, List, sym, ◌∙◌, subst}
use Rattle.station.specs.declared.service.Service.{Service}
use Rattle.sets.specs.Meaning.{Meaning}
use Rattle.decision.specs.Pictures.{pictured}
use Rattle.history.specs.Histories.{Event, Start}
use Rattle.history.specs.Law.{Law}
use Rattle.history.specs.Stands.{Stands}
use Rattle.history.specs.declared.state.State.{State}
use Rattle.history.proofs.Determining.{meaning_one}
use Rattle.history.proofs.Turns.{same_services, lawful_run}

pub one_picture : (s : Start) (h : List Event) (st : State) (m : Meaning) → Stands s h st m → (h' : List Event) (next : State) (after : Meaning) → Stands s h' next after → Law s h' m → pictured st.alert m.services st.home ≡ pictured next.alert m.services next.home
one_picture s h st m x h' next after y law =
    subst (λ (ss : List Service). pictured st.alert ss st.home ≡ pictured next.alert ss next.home) (sym (same_services s h st m x))
    (sym x.set ∙ meaning_one s h' m after law (lawful_run s h' next after y) ∙ y.set)
