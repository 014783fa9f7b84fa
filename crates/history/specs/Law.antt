-- The law of whole runs, by what begin and the calls were given. Assumes nothing.
use Rattle.std.specs.Prelude.{◌≡◌, ℕ, ◌⊎◌, List, Option}
use Rattle.sets.specs.Meaning.{Meaning}
use Rattle.calls.specs.Verdicts.{Verdict}
use Rattle.history.specs.Histories.{Event, Start}
use Rattle.history.specs.Viewers.{Home}
use Rattle.history.specs.Forces.{AlertInForce}
use Rattle.history.specs.Replies.{Due}
use Rattle.history.specs.Screens.{Screen}

-- after the calls h of a receiver that began as s says, its set means m: there are a viewer's service and an alert in force or none, and the set shows what they ask
pub record Law (s : Start) (h : List Event) (m : Meaning) : Type 0 where
  pub home : ℕ
  pub alert : Option (List ℕ)
  pub chosen : Home s h home
  pub in_force : AlertInForce s h alert
  pub screen : Screen s alert home m

-- a start and calls have one viewer's service, one alert in force or none, and one meaning of the set; to a call one number is due, and one entry or none beside it but for the entry beside 4, which is left open
pub record Determined : Type 0 where
  pub one_home : (s : Start) (h : List Event) (j k : ℕ) → Home s h j → Home s h k → j ≡ k
  pub one_alert : (s : Start) (h : List Event) (a b : Option (List ℕ)) → AlertInForce s h a → AlertInForce s h b → a ≡ b
  pub one_meaning : (s : Start) (h : List Event) (m n : Meaning) → Law s h m → Law s h n → m ≡ n
  pub one_number : (s : Start) (h : List Event) (e : Event) (v w : Verdict) → Due s h v e → Due s h w e → v.number ≡ w.number
  pub one_verdict : (s : Start) (h : List Event) (e : Event) (v w : Verdict) → Due s h v e → Due s h w e → (v ≡ w) ⊎ (v.number ≡ 4)
