-- From the picture of one sheet to that of the next. Assumes nothing.
use Rattle.std.proofs.Common.{◌≡◌, ℕ, length, Some, None, Ok, Err, Option, Result, sym, refl, ap, ◌∙◌, arith}
use Rattle.std.proofs.lemmas.Bool.{le-leb}
use Rattle.station.specs.Rules.{unless}
use Rattle.sets.specs.declared.refusal.SetRefusal.{SetRefusal}
use Rattle.sets.specs.Meaning.{Meaning, Captions, caption_refusal}
use Rattle.sets.specs.Refusals.{refusal_number}
use Rattle.decision.specs.Drives.{Pictures, Drives}
use Rattle.decision.specs.Fits.{Presents}
use Rattle.decision.specs.Pictures.{pictured}
use Rattle.decision.specs.declared.picture.Picture.{Picture}
use Rattle.decision.proofs.Clear.{presents, possible}
use Rattle.decision.proofs.Said.{says, joined}
use Rattle.history.specs.Sheet.{Moves}
use Rattle.history.specs.declared.state.State.{State}
use Rattle.receiver.specs.Pictures.{SameLook, SameWords}

module _ (m : Meaning) (from to : State) (p q : Picture) (P : Pictures p (pictured from.alert m.services from.home)) (Q : Pictures q (pictured to.alert m.services to.home)) where
  -- one picture looks and reads as itself
  pub look : pictured from.alert m.services from.home ≡ pictured to.alert m.services to.home → SameLook p q
  look e = (P.service ∙ ap (λ (x : Meaning). x.shown) e ∙ sym Q.service, P.sound ∙ ap (λ (x : Meaning). x.sound) e ∙ sym Q.sound)

  pub words : pictured from.alert m.services from.home ≡ pictured to.alert m.services to.home → SameWords p q
  words e = P.caption ∙ ap (λ (x : Meaning). x.caption) e ∙ sym Q.caption

  -- driven to the next picture
  pub driven : {U : Type 0} (r : Result U SetRefusal) (after : Meaning) → Drives m q r after → Moves m from to after
  driven r after d is inside fits = by r (presents m after to.alert to.home q r Q d)
    where
      by : {U : Type 0} (r : Result U SetRefusal) → Presents m to.alert to.home r after → after ≡ pictured to.alert m.services to.home
      by (Ok u) x = x
      by (Err e) x = absurd (x.1 inside fits)

  -- a set that looks as it should and has the next caption
  reached : (after : Meaning) → SameLook p q → m ≡ pictured from.alert m.services from.home → after.services ≡ m.services → after.shown ≡ m.shown → after.sound ≡ m.sound → after.caption ≡ q.caption.now → after ≡ pictured to.alert m.services to.home
  reached after same is services shown sound caption =
      joined after (pictured to.alert m.services to.home)
      (services ∙ sym (says to.alert m.services to.home).services)
      (shown ∙ ap (λ (x : Meaning). x.shown) is ∙ sym P.service ∙ same.0 ∙ Q.service)
      (sound ∙ ap (λ (x : Meaning). x.sound) is ∙ sym P.sound ∙ same.1 ∙ Q.sound)
      (caption ∙ Q.caption)

  -- with its caption alone replaced
  pub recaptioned : {U : Type 0} (r : Result U SetRefusal) (after : Meaning) → SameLook p q → Captions m q.caption.now r after → Moves m from to after
  recaptioned (Ok u) after same c is inside fits =
      reached after same is (ap (λ (x : Meaning). x.services) c.0.1) (ap (λ (x : Meaning). x.shown) c.0.1) (ap (λ (x : Meaning). x.sound) c.0.1) (ap (λ (x : Meaning). x.caption) c.0.1)
  recaptioned (Err e) after same c is inside fits =
      let short = (possible m.services to.alert to.home inside fits).short in
      let w = ap length Q.caption in
      let none : caption_refusal q.caption.now ≡ None = ap (λ b. unless b 63 None) (le-leb (length q.caption.now) 1024 (omega arith)) in
      let both : ◌≡◌ {A = Option ℕ} None (Some (refusal_number e)) = sym none ∙ c.0 in
      let z : ◌≡◌ {A = ℕ} 0 1 = cc in absurd (omega arith)

  -- left as it is
  pub left : SameLook p q → SameWords p q → Moves m from to m
  left same read is inside fits = reached m same is refl refl refl (ap (λ (x : Meaning). x.caption) is ∙ sym P.caption ∙ read)
