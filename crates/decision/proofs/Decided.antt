-- The picture by cases of the alert. Assumes nothing.
use Rattle.std.proofs.Common.{◌≡◌, ℕ, Bool, true, false, cond, List, [], Some, None, Option, sym, subst}
use Rattle.station.specs.declared.service.Service.{Service}
use Rattle.sets.specs.declared.sound.Sound.TheVariants.{Own}
use Rattle.sets.specs.Meaning.{plain}
use Rattle.decision.specs.declared.alert.Alert.{Alert}
use Rattle.decision.specs.declared.picture.Picture.{Picture}
use Rattle.decision.specs.Pictures.{applies_to, alerted, pictured}
use Rattle.decision.specs.Drives.{Pictures}

pub plainly : (p : Picture) (ss : List Service) (home : ℕ) → (p.service ≡ home) × (p.sound ≡ Own) × (p.caption.now ≡ []) → Pictures p (plain ss home)
plainly p ss home h = record { service = h.0; sound = h.1; caption = h.2 }

pub without : (p : Picture) (o : Option Alert) (ss : List Service) (home : ℕ) → o ≡ None → Pictures p (plain ss home) → Pictures p (pictured o ss home)
unfolding pictured
without p o ss home e h = subst (λ (x : Option Alert). Pictures p (pictured x ss home)) (sym e) h

by_test : (p : Picture) (a : Alert) (ss : List Service) (home : ℕ) (b : Bool) → b ≡ applies_to a ss home → Pictures p (cond b (alerted a ss home) (plain ss home)) → Pictures p (pictured (Some a) ss home)
unfolding pictured
by_test p a ss home b e h = subst (λ (x : Bool). Pictures p (cond x (alerted a ss home) (plain ss home))) e h

pub refrained : (p : Picture) (o : Option Alert) (a : Alert) (ss : List Service) (home : ℕ) → o ≡ Some a → false ≡ applies_to a ss home → Pictures p (plain ss home) → Pictures p (pictured o ss home)
refrained p o a ss home e b h = subst (λ (x : Option Alert). Pictures p (pictured x ss home)) (sym e) (by_test p a ss home false b h)

pub applied : (p : Picture) (o : Option Alert) (a : Alert) (ss : List Service) (home : ℕ) → o ≡ Some a → true ≡ applies_to a ss home → Pictures p (alerted a [] home) → Pictures p (pictured o ss home)
applied p o a ss home e b h =
    subst (λ (x : Option Alert). Pictures p (pictured x ss home)) (sym e)
    (by_test p a ss home true b (record { service = h.service; sound = h.sound; caption = h.caption }))
