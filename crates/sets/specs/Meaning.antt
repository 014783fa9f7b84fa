-- What a set means, and what each of its calls does to that. Assumes nothing.
use Rattle.std.specs.Prelude.{◌≡◌, ℕ, ◌<◌, ◌≤◌, Bool, true, false, List, [], length, Some, None, Option, Result, IfErr, nat_le, nat_lt, slice_get}
use Rattle.station.specs.Rules.{unless, Gives}
use Rattle.station.specs.declared.service.Service.{Service}
use Rattle.sets.specs.declared.refusal.SetRefusal.{SetRefusal}
use Rattle.sets.specs.declared.sound.Sound.{Sound}
use Rattle.sets.specs.declared.sound.Sound.TheVariants.{Own, Borrowed}
use Rattle.sets.specs.Refusals.{refusal_number}

-- the list of services, the number of the one shown, whose sound is heard, and the caption's bytes
pub record Meaning : Type 0 where
  pub services : List Service
  pub shown : ℕ
  pub sound : Sound
  pub caption : List ℕ

-- this service with its own sound and no caption
abbrev pub plain : List Service → ℕ → Meaning
plain services shown = record { services = services; shown = shown; sound = Own; caption = [] }

abbrev pub count_of : Meaning → ℕ
count_of m = length m.services

-- the service of a number, none past the list
abbrev pub service_at : List Service → ℕ → Option Service
service_at ss n = slice_get ss n

-- there is a service, and a test holds of it
abbrev pub holds : (Service → Bool) → Option Service → Bool
holds p None = false
holds p (Some s) = p s

-- there is a service of the number, and its sound can be heard apart from its picture
abbrev pub apart_at : List Service → ℕ → Bool
apart_at ss n = holds (λ s. s.apart) (service_at ss n)

-- where the sound of a service is borrowed, that service is on the list; a borrow asks besides that it be apart, which a set need not be found to keep
abbrev pub lists_sound : List Service → Sound → Bool
lists_sound ss (Borrowed k) = nat_lt k (length ss)
lists_sound ss sound = true

-- where the sound of a service is borrowed, that service is apart: kept by a set that only its own calls change, as the channel map, and asked of no other
abbrev pub hearable : List Service → Sound → Bool
hearable ss (Borrowed k) = apart_at ss k
hearable ss sound = true

-- what holds of every set at all times
pub record Lawful (m : Meaning) : Type 0 where
  pub some : 1 ≤ count_of m
  pub few : count_of m ≤ 256
  pub inside : m.shown < count_of m
  pub listed : lists_sound m.services m.sound ≡ true
  pub short : length m.caption ≤ 1024

-- what the calls make of a meaning; none changes the services
abbrev pub tuned : Meaning → ℕ → Meaning
tuned m n = record m { shown = n; sound = Own }

abbrev pub borrowing : Meaning → ℕ → Meaning
borrowing m n = record m { sound = Borrowed n }

abbrev pub owning : Meaning → Meaning
owning m = record m { sound = Own }

abbrev pub captioned : Meaning → List ℕ → Meaning
captioned m bytes = record m { caption = bytes }

-- granted where no rule is broken, with this made of the meaning; else refused by the number of the first that is, and the meaning is as it was
abbrev pub Makes : {U : Type 0} → Option ℕ → Meaning → Meaning → Result U SetRefusal → Meaning → Type 0
Makes broken before made result after = Gives refusal_number broken (λ _. after ≡ made) result × IfErr result (λ _. after ≡ before)

-- why a service cannot be shown: it is past the list
abbrev pub tune_refusal : List Service → ℕ → Option ℕ
tune_refusal ss n = unless (nat_lt n (length ss)) 61 None

-- why the sound of a service cannot be borrowed: it is past the list, or else is not apart
abbrev pub borrow_refusal : List Service → ℕ → Option ℕ
borrow_refusal ss n = unless (nat_lt n (length ss)) 61 (unless (apart_at ss n) 62 None)

-- why these bytes cannot be the caption: there are too many
abbrev pub caption_refusal : List ℕ → Option ℕ
caption_refusal bytes = unless (nat_le (length bytes) 1024) 63 None

-- each result says of the meaning before and the argument that they lead to it, and what the set means then
abbrev pub Tunes : {U : Type 0} → Meaning → ℕ → Result U SetRefusal → Meaning → Type 0
Tunes before n result after = Makes (tune_refusal before.services n) before (tuned before n) result after

abbrev pub Borrows : {U : Type 0} → Meaning → ℕ → Result U SetRefusal → Meaning → Type 0
Borrows before n result after = Makes (borrow_refusal before.services n) before (borrowing before n) result after

abbrev pub Captions : {U : Type 0} → Meaning → List ℕ → Result U SetRefusal → Meaning → Type 0
Captions before bytes result after = Makes (caption_refusal bytes) before (captioned before bytes) result after
