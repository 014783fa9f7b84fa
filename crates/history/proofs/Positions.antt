-- Positions of a history that is one call longer. Assumes nothing.
use Rattle.std.proofs.Common.{◌≡◌, ℕ, ◌+◌, ◌<◌, ◌≤◌, max, ◌⊎◌, List, [], ◌∷◌, ◌++◌, length, take, fold, sym, refl, ap, ◌∙◌, subst, inl, inr, ⊎_elim, arith}
use lib.Seq.{take-append-le, take-append_seam, get_or-append_seam}
use Rattle.std.proofs.lemmas.List.{length_push, get_or_append_left}
use Rattle.std.proofs.lemmas.List.Elements.{filter_map-append}
use Rattle.std.proofs.lemmas.List.Sums.{fold-append}
use Rattle.std.proofs.lemmas.Bool.{cases_lt}
use Rattle.std.specs.List.{filter_map}
use Rattle.history.specs.Histories.{Event, sent, told, chose, event_at, At, Never, Latest, reading_of, clock_after}

pub long : (h : List Event) (e : Event) → length (h ++ e ∷ []) ≡ length h + 1
long h e = length_push h e

pub take_old : (h : List Event) (e : Event) (j : ℕ) → j ≤ length h → take j (h ++ e ∷ []) ≡ take j h
take_old h e j l = take-append-le j h (e ∷ []) l

pub take_new : (h : List Event) (e : Event) → take (length h) (h ++ e ∷ []) ≡ h
take_new h e = take-append_seam h (e ∷ [])

pub event_old : (h : List Event) (e : Event) (j : ℕ) → j < length h → event_at (h ++ e ∷ []) j ≡ event_at h j
event_old h e j l = get_or_append_left h (e ∷ []) (chose 0) j l

pub event_new : (h : List Event) (e : Event) → event_at (h ++ e ∷ []) (length h) ≡ e
event_new h e = get_or-append_seam h e [] (chose 0)

-- a position of the longer history is an old one or the new one
pub placed : (h : List Event) (e : Event) (j : ℕ) → j < length (h ++ e ∷ []) → (j < length h) ⊎ (j ≡ length h)
placed h e j l = let n = long h e in ⊎_elim (λ x. inl x) (λ x. inr (omega arith)) (cases_lt j (length h))

module _ (P : List Event → Event → Type 0) (h : List Event) (e : Event) where
  back_at : (j : ℕ) → j < length h → At P (h ++ e ∷ []) j → At P h j
  back_at j l a =
      subst (λ (y : Event). P (take j h) y) (event_old h e j l)
      (subst (λ (x : List Event). P x (event_at (h ++ e ∷ []) j)) (take_old h e j (omega arith)) a)

  on_at : (j : ℕ) → j < length h → At P h j → At P (h ++ e ∷ []) j
  on_at j l a =
      subst (λ (x : List Event). P x (event_at (h ++ e ∷ []) j)) (sym (take_old h e j (omega arith)))
      (subst (λ (y : Event). P (take j h) y) (sym (event_old h e j l)) a)

  new_at : P h e → At P (h ++ e ∷ []) (length h)
  new_at p =
      subst (λ (x : List Event). P x (event_at (h ++ e ∷ []) (length h))) (sym (take_new h e))
      (subst (λ (y : Event). P h y) (sym (event_new h e)) p)

  at_new : (j : ℕ) → j ≡ length h → At P (h ++ e ∷ []) j → P h e
  at_new j q a =
      subst (λ (y : Event). P h y) (event_new h e)
      (subst (λ (x : List Event). P x (event_at (h ++ e ∷ []) (length h))) (take_new h e)
      (subst (λ (i : ℕ). At P (h ++ e ∷ []) i) q a))

  -- the new call is the latest if it has the property; else the latest is what it was
  pub latest_new : P h e → Latest P (h ++ e ∷ []) (length h)
  latest_new p =
      record {
        within = let n = long h e in omega arith;
        has = new_at p;
        none_later = λ j l m a. let n = long h e in absurd (omega arith);
      }

  pub latest_keep : (P h e → ⊥) → (i : ℕ) → Latest P h i → Latest P (h ++ e ∷ []) i
  latest_keep not i l =
      record {
        within = let n = long h e in let w = l.within in omega arith;
        has = on_at i l.within l.has;
        none_later = λ j after m a. ⊎_elim (λ o. l.none_later j after o (back_at j o a)) (λ q. not (at_new j q a)) (placed h e j m);
      }

  pub latest_back : (P h e → ⊥) → (i : ℕ) → Latest P (h ++ e ∷ []) i → Latest P h i
  latest_back not i l =
      ⊎_elim
      (λ o. record {
        within = o;
        has = back_at i o l.has;
        none_later = λ j after m a. let n = long h e in l.none_later j after (omega arith) (on_at j m a);
      })
      (λ q. absurd (not (at_new i q l.has)))
      (placed h e i l.within)

  pub never_keep : (P h e → ⊥) → Never P h → Never P (h ++ e ∷ [])
  never_keep not never j m a = ⊎_elim (λ o. never j o (back_at j o a)) (λ q. not (at_new j q a)) (placed h e j m)

-- there is one latest position
pub latest_one : (P : List Event → Event → Type 0) (h : List Event) (i j : ℕ) → Latest P h i → Latest P h j → i ≡ j
latest_one P h i j a b =
    ⊎_elim (λ l. absurd (a.none_later j l b.within b.has))
    (λ l. ⊎_elim (λ m. absurd (b.none_later i m a.within a.has)) (λ m. omega arith) (cases_lt j i))
    (cases_lt i j)

-- the clock after one call more
more_read : (t : ℕ) (h : List Event) (e : Event) → clock_after t (h ++ e ∷ []) ≡ fold max (clock_after t h) (filter_map reading_of (e ∷ []))
more_read t h e =
    ap (fold max t) (filter_map-append reading_of h (e ∷ [])) ∙ fold-append max t (filter_map reading_of h) (filter_map reading_of (e ∷ []))

-- a reading can move the clock, and no other call does
pub clock_told : (t : ℕ) (h : List Event) (n : ℕ) → clock_after t (h ++ told n ∷ []) ≡ max (clock_after t h) n
clock_told t h n = more_read t h (told n)

-- a call that is no reading
abbrev pub Timeless : Event → Type 0
Timeless e = (n : ℕ) → e ≡ told n → ⊥

pub clock_stays : (t : ℕ) (h : List Event) (e : Event) → Timeless e → clock_after t (h ++ e ∷ []) ≡ clock_after t h
clock_stays t h (sent bytes) still = more_read t h (sent bytes)
clock_stays t h (told n) still = absurd (still n refl)
clock_stays t h (chose n) still = more_read t h (chose n)

pub timeless_sent : (bytes : List ℕ) → Timeless (sent bytes)
timeless_sent bytes n e = let z : ◌≡◌ {A = ℕ} 0 1 = cc in omega arith

pub timeless_chose : (k : ℕ) → Timeless (chose k)
timeless_chose k n e = let z : ◌≡◌ {A = ℕ} 0 1 = cc in omega arith
