-- Many calls, one after another. Assumes nothing.
use Rattle.std.proofs.Common.{◌≡◌, ℕ, zero, suc, ◌+◌, ◌<◌, ◌≤◌, ◌≢◌, List, [], ◌∷◌, ◌++◌, map, length, get_or, take, set, sym, refl, ap, ◌∙◌, subst, ⊎_elim, append_assoc, arith, length-set, take_all, get_or-set_other, get_or-set_same}
use lib.ListN.{length-map}
use Rattle.std.proofs.lemmas.List.{take_more}
use Rattle.std.proofs.lemmas.Bool.{cases_lt}
use Rattle.calls.specs.declared.call.Call.{Call}
use Rattle.calls.specs.declared.reply.Reply.{Reply}
use Rattle.calls.specs.declared.reply.Reply.TheVariants.{Granted}
use Rattle.sets.specs.Meaning.{Meaning}
use Rattle.history.specs.Law.{Law}
use Rattle.history.specs.Histories.{Event, chose, Start, event_at}
use Rattle.calls.specs.Verdicts.{Verdict, IsRefusal, verdict_of}
use Rattle.history.specs.Replies.{event, Due}

pub event_of : (i : ℕ) (calls : List Call) (d : Call) → i < length calls → event_at (map event calls) i ≡ event (get_or calls i d)
event_of i [] d l = absurd (omega arith)
event_of zero (c ∷ calls) d l = refl
event_of (suc i) (c ∷ calls) d l = event_of i calls d (omega arith)

pub take_one_more : (i : ℕ) (calls : List Call) (d : Call) → i < length calls → take i (map event calls) ++ event (get_or calls i d) ∷ [] ≡ take (i + 1) (map event calls)
take_one_more i calls d l =
    ap (λ (e : Event). take i (map event calls) ++ e ∷ []) (sym (event_of i calls d l))
    ∙ sym (take_more (map event calls) i (chose 0) (let k = length-map calls event in omega arith))

-- the first calls and one more are the first calls, one further
pub one_more : (h : List Event) (i : ℕ) (calls : List Call) (d : Call) → i < length calls → (h ++ take i (map event calls)) ++ event (get_or calls i d) ∷ [] ≡ h ++ take (i + 1) (map event calls)
one_more h i calls d l =
    append_assoc h (take i (map event calls)) (event (get_or calls i d) ∷ []) ∙ ap (λ (z : List Event). h ++ z) (take_one_more i calls d l)

-- what is asked after one call more, of a set that means the same
pub asked_here : (s : Start) (h : List Event) (i : ℕ) (calls : List Call) (d : Call) (m n : Meaning) → i < length calls → n ≡ m → Law s (h ++ take (i + 1) (map event calls)) m → Law s ((h ++ take i (map event calls)) ++ event (get_or calls i d) ∷ []) n
asked_here s h i calls d m n l same law =
    subst (Law s ((h ++ take i (map event calls)) ++ event (get_or calls i d) ∷ [])) (sym same)
    (subst (λ (z : List Event). Law s z m) (sym (one_more h i calls d l)) law)

pub all_made : (h : List Event) (i : ℕ) (calls : List Call) → length calls ≤ i → h ++ take i (map event calls) ≡ h ++ map event calls
all_made h i calls l = ap (λ (z : List Event). h ++ z) (take_all i (map event calls) (let k = length-map calls event in omega arith))

-- what is due to the call at j is said by a reply
abbrev pub DueAt : Start → List Event → List Event → ℕ → Reply → Type 0
DueAt s h more j r = Due s (h ++ take j more) (verdict_of r) (event_at more j)

-- the replies to the first n calls
abbrev pub Upto : Start → List Event → List Event → List Reply → ℕ → Type 0
Upto s h more replies n = (j : ℕ) → j < n → j < length replies → DueAt s h more j (get_or replies j Granted)

-- whatever is due to each of the first n calls is a refusal
abbrev pub RefusedUpto : Start → List Event → List Event → ℕ → Type 0
RefusedUpto s h more n = (j : ℕ) (v : Verdict) → j < n → Due s (h ++ take j more) v (event_at more j) → IsRefusal v

-- the first n calls ask for what m is
abbrev pub AskedUpto : Start → List Event → List Event → ℕ → Meaning → Type 0
AskedUpto s h more n m = (j : ℕ) → j < n → Law s (h ++ take (j + 1) more) m

module _ (s : Start) (h more : List Event) (replies : List Reply) (i : ℕ) where
  pub upto_set : (r : Reply) → i < length replies → Upto s h more replies i → DueAt s h more i r → Upto s h more (set replies i r) (i + 1)
  upto_set r l up new j a b =
      ⊎_elim
      (λ o. let ne : j ≢ i = omega arith in subst (DueAt s h more j) (sym (get_or-set_other replies i j r Granted ne)) (up j o (let k = length-set replies i r in omega arith)))
      (λ o. let q : i ≡ j = omega arith in
      subst (λ (k : ℕ). DueAt s h more k (get_or (set replies i r) k Granted)) q
      (subst (DueAt s h more i) (sym (get_or-set_same replies i r Granted l)) new))
      (cases_lt j i)

  pub upto_past : length replies ≤ i → Upto s h more replies i → Upto s h more replies (i + 1)
  upto_past l up j a b = up j (omega arith) b
