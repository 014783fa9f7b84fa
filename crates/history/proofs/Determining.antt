-- A start and calls have one viewer's service, one alert in force or none, and one meaning of the set. Assumes nothing.
use Rattle.std.proofs.Common.{◌≡◌, ℕ, List, Some, None, Option, sym, refl, ap, ◌∙◌, subst, inl, inr}
use Rattle.sets.specs.Meaning.{Meaning, count_of}
use Rattle.history.specs.Histories.{Event, sent, chose, Start, event_at}
use Rattle.history.specs.Sections.{Taken}
use Rattle.history.specs.Viewers.{Chosen, Home}
use Rattle.history.specs.Forces.{AlertInForce}
use Rattle.history.specs.Screens.{Screen}
use Rattle.history.specs.Law.{Law, Determined}
use Rattle.history.proofs.Positions.{latest_one}
use Rattle.history.proofs.Deciding.{number_one, verdict_one}
use Rattle.history.proofs.Screening.{screen_one}

pub home_one : (s : Start) (h : List Event) (j k : ℕ) → Home s h j → Home s h k → j ≡ k
home_one s h j k (inl x) (inl y) =
    let one = latest_one (Chosen (count_of s.found)) h x.0 y.0 x.1 y.1 in
    let same : chose j ≡ chose k = sym x.2 ∙ ap (event_at h) one ∙ y.2 in
    cc
home_one s h j k (inl x) (inr y) = absurd (y.0 x.0 x.1.within x.1.has)
home_one s h j k (inr x) (inl y) = absurd (x.0 y.0 y.1.within y.1.has)
home_one s h j k (inr x) (inr y) = x.1 ∙ sym y.1

pub alert_one : (s : Start) (h : List Event) (a b : Option (List ℕ)) → AlertInForce s h a → AlertInForce s h b → a ≡ b
alert_one s h None None x y = refl
alert_one s h None (Some more) x y = absurd (y.3 (x y.0 more y.1 y.2))
alert_one s h (Some bytes) None x y = absurd (x.3 (y x.0 bytes x.1 x.2))
alert_one s h (Some bytes) (Some more) x y =
    let one = latest_one (Taken s.place) h x.0 y.0 x.1 y.1 in
    let same : sent bytes ≡ sent more = sym x.2 ∙ ap (event_at h) one ∙ y.2 in
    cc

pub meaning_one : (s : Start) (h : List Event) (m n : Meaning) → Law s h m → Law s h n → m ≡ n
meaning_one s h m n v w =
    let a = alert_one s h w.alert v.alert w.in_force v.in_force in
    let k = home_one s h w.home v.home w.chosen v.chosen in
    screen_one s v.alert v.home m n v.screen
    (subst (λ (j : ℕ). Screen s v.alert j n) k (subst (λ (o : Option (List ℕ)). Screen s o w.home n) a w.screen))

pub determined : Determined
determined =
    record {
      one_home = home_one;
      one_alert = alert_one;
      one_meaning = meaning_one;
      one_number = number_one;
      one_verdict = verdict_one;
    }
