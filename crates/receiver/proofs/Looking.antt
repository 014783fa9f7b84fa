-- What a receiver tells of its set. Assumes nothing.
use Rattle.std.proofs.Common.{◌≡◌, ℕ, ◌<◌, true, List, length, sym, ap, ◌∙◌, subst}
use Rattle.station.specs.declared.service.Service.{Service}
use Rattle.sets.specs.Meaning.{Meaning, Lawful, lists_sound}
use Rattle.decision.specs.Drives.{Pictures, showing}
use Rattle.decision.specs.Pictures.{pictured}
use Rattle.decision.specs.declared.picture.Picture.{Picture}
use Rattle.decision.proofs.Said.{joined}
use Rattle.history.specs.Law.{Law}
use Rattle.history.proofs.Steps.{home_inside}
use Rattle.history.proofs.Turns.{same_services, lawful_run}
use Rattle.receiver.specs.Lists.{OnList}
use Rattle.receiver.specs.Stood.{WhateverCame}
use Rattle.receiver.specs.declared.receiver.Receiver.{Receiver}

module _ {S : Type 0} (mean : S → Meaning) (r : Receiver S) where
  pub home_listed : WhateverCame mean r (λ s h. OnList s r.state.home)
  home_listed s h x = (home_inside s h r.state.home x.lawful x.home, x.lawful.few)

  module _ (lawful : Lawful (mean r.set)) (p : Picture) (is : Pictures p (pictured r.state.alert (mean r.set).services r.state.home)) where
    pub means : WhateverCame mean r (λ s h. Pictures p (mean r.set))
    means s h x =
        let same = x.set ∙ ap (λ (ss : List Service). pictured r.state.alert ss r.state.home) (sym (same_services s h r.state (mean r.set) x)) in
        subst (Pictures p) (sym same) is

    pub asks : WhateverCame mean r (λ s h. Law s h (showing s.found p))
    asks s h x =
        let m = means s h x in
        let same = joined (showing s.found p) (mean r.set) (sym (same_services s h r.state (mean r.set) x)) m.service m.sound m.caption in
        subst (Law s h) (sym same) (lawful_run s h r.state (mean r.set) x)

    pub listed : WhateverCame mean r (λ s h. OnList s p.service)
    listed s h x =
        let inside = subst (λ (k : ℕ). k < length (mean r.set).services) (sym (means s h x).service) lawful.inside in
        (subst (λ (ss : List Service). p.service < length ss) (same_services s h r.state (mean r.set) x) inside, x.lawful.few)

    pub sound_listed : WhateverCame mean r (λ s h. lists_sound s.found.services p.sound ≡ true)
    sound_listed s h x =
        ap (lists_sound s.found.services) (means s h x).sound ∙ ap (λ (ss : List Service). lists_sound ss (mean r.set).sound) (sym (same_services s h r.state (mean r.set) x))
        ∙ lawful.listed
