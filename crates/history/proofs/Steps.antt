-- What one call more does to each part of the sheet. Assumes nothing.
use Rattle.std.proofs.Common.{◌≡◌, ℕ, ◌<◌, ◌≤◌, List, [], ◌∷◌, ◌++◌, length, take, Some, None, Option, sym, refl, ap, ◌∙◌, subst, inl, inr, ⊎_elim, arith}
use Rattle.section.specs.Rules.{refusal}
use Rattle.section.specs.Values.{fields_of}
use Rattle.section.specs.declared.fields.SequenceNumber.{SequenceNumber}
use Rattle.sets.specs.Meaning.{Lawful, count_of}
use Rattle.decision.specs.Alerts.{Keeps}
use Rattle.decision.specs.declared.alert.Alert.{Alert}
use Rattle.history.specs.Histories.{Event, sent, told, chose, Start, event_at, clock_after}
use Rattle.history.specs.Sections.{WellFormed, sequence_at, Repeats, IsNew, Taken}
use Rattle.history.specs.Viewers.{Chosen, Home}
use Rattle.history.specs.Forces.{Past, end_at, AlertInForce}
use Rattle.history.specs.Stands.{Remembered, Held}
use Rattle.history.specs.Sheet.{Over}
use Rattle.history.proofs.Positions.{long, take_old, take_new, event_old, event_new, latest_new, latest_keep, latest_back, never_keep, latest_one}
use Rattle.history.proofs.Endings.{ended_keep, ended_back, ended_now}

-- the viewer's service
pub home_keep : (s : Start) (h : List Event) (e : Event) (k : ℕ) → (Chosen (count_of s.found) h e → ⊥) → Home s h k → Home s (h ++ e ∷ []) k
home_keep s h e k not (inl x) =
    inl (x.0, latest_keep (Chosen (count_of s.found)) h e not x.0 x.1, event_old h e x.0 x.1.within ∙ x.2)
home_keep s h e k not (inr x) = inr (never_keep (Chosen (count_of s.found)) h e not x.0, x.1)

pub home_new : (s : Start) (h : List Event) (n : ℕ) → n < count_of s.found → Home s (h ++ chose n ∷ []) n
home_new s h n l = inl (length h, latest_new (Chosen (count_of s.found)) h (chose n) l, event_new h (chose n))

pub home_inside : (s : Start) (h : List Event) (k : ℕ) → Lawful s.found → Home s h k → k < count_of s.found
home_inside s h k ok (inl x) = subst (λ (e : Event). Chosen (count_of s.found) (take x.0 h) e) x.2 x.1.has
home_inside s h k ok (inr x) = subst (λ (j : ℕ). j < count_of s.found) (sym x.1) ok.inside

-- the sequence number
pub last_keep : (h : List Event) (e : Event) (o : Option SequenceNumber) → (WellFormed h e → ⊥) → Remembered h o → Remembered (h ++ e ∷ []) o
last_keep h e None not r = never_keep WellFormed h e not r
last_keep h e (Some q) not r =
    (r.0, latest_keep WellFormed h e not r.0 r.1, ap sequence_at (event_old h e r.0 r.1.within) ∙ r.2)

pub last_new : (h : List Event) (bytes : List ℕ) → refusal bytes ≡ None → Remembered (h ++ sent bytes ∷ []) (Some (fields_of bytes).sequence)
last_new h bytes ok = (length h, latest_new WellFormed h (sent bytes) ok, ap sequence_at (event_new h (sent bytes)))

same_number : (p q : SequenceNumber) → p.0 ≡ q.0 → p ≡ q
same_number p q e = λ i. record { 0 = e i }

-- a section is new exactly if its sequence number is not the one remembered
pub fresh : (h : List Event) (bytes : List ℕ) (o : Option SequenceNumber) → Remembered h o → (o ≡ Some (fields_of bytes).sequence → ⊥) → IsNew h bytes
fresh h bytes None r not again = r again.0 again.1.within again.1.has
fresh h bytes (Some q) r not again =
    let one = latest_one WellFormed h again.0 r.0 again.1 r.1 in
    not (ap Some (same_number q (fields_of bytes).sequence (sym r.2 ∙ ap (λ (j : ℕ). sequence_at (event_at h j)) (sym one) ∙ again.2)))

pub stale : (h : List Event) (bytes : List ℕ) (o : Option SequenceNumber) → Remembered h o → o ≡ Some (fields_of bytes).sequence → Repeats h bytes
stale h bytes o r e = subst (Remembered h) e r

-- the alert in force
pub force_keep : (s : Start) (h : List Event) (e : Event) → (Taken s.place h e → ⊥) → AlertInForce s h None → AlertInForce s (h ++ e ∷ []) None
force_keep s h e not f i bytes l is =
    let b = latest_back (Taken s.place) h e not i l in
    ended_keep s h e i bytes b.within (f i bytes b (sym (event_old h e i b.within) ∙ is))

-- no reading among the call brings it to its end
abbrev pub Lasts : Start → List Event → Event → Option Alert → Type 0
Lasts s h e o = (n : ℕ) → e ≡ told n → clock_after s.clock h ≤ n → Over o n → ⊥

pub held_keep : (s : Start) (h : List Event) (e : Event) (o : Option Alert) (section : Option (List ℕ)) → (Taken s.place h e → ⊥) → Lasts s h e o → Held s h o section → Held s (h ++ e ∷ []) o section
held_keep s h e None None not still x = force_keep s h e not x
held_keep s h e None (Some bytes) not still x = x
held_keep s h e (Some a) None not still x = x
held_keep s h e (Some a) (Some bytes) not still x =
    let i = x.0 in
    let k = x.1 in
    let w = k.latest.within in (
      i,
      record {
        latest = latest_keep (Taken s.place) h e not i k.latest;
        is = event_old h e i w ∙ k.is;
        lasts = λ d. ⊎_elim k.lasts (λ n. still n.reading n.read n.granted (subst (λ (z : Option ℕ). Past z n.reading) (sym k.keeps.end) n.past)) (ended_back s h e i bytes w d);
        keeps = subst (λ (z : List Event). Keeps bytes s.found.services s.path (clock_after s.clock z) a) (sym (take_old h e i (omega arith))) k.keeps;
      },
    )

pub held_over : (s : Start) (h : List Event) (n : ℕ) (o : Option Alert) (section : Option (List ℕ)) → clock_after s.clock h ≤ n → Over o n → Held s h o section → AlertInForce s (h ++ told n ∷ []) None
held_over s h n None section granted over x i more l is = absurd over
held_over s h n (Some a) None granted over x i more l is = absurd x
held_over s h n (Some a) (Some bytes) granted over x i more l is =
    let k = x.1 in
    let b = latest_back (Taken s.place) h (told n) (λ z. z) i l in
    let one = latest_one (Taken s.place) h i x.0 b k.latest in
    let same : sent more ≡ sent bytes = sym is ∙ event_old h (told n) i b.within ∙ ap (event_at h) one ∙ k.is in
    let eq : more ≡ bytes = cc in
    ended_now s h (told n) i more b.within
    (record {
      reading = n;
      read = refl;
      granted = granted;
      past = subst (λ (z : List ℕ). Past (end_at s h i z) n) (sym eq) (subst (λ (j : ℕ). Past (end_at s h j bytes) n) (sym one) (subst (λ (z : Option ℕ). Past z n) k.keeps.end over));
    })

pub held_new : (s : Start) (h : List Event) (bytes : List ℕ) (a : Alert) → Taken s.place h (sent bytes) → Keeps bytes s.found.services s.path (clock_after s.clock h) a → Held s (h ++ sent bytes ∷ []) (Some a) (Some bytes)
held_new s h bytes a t k = (
  length h,
  record {
    latest = latest_new (Taken s.place) h (sent bytes) t;
    is = event_new h (sent bytes);
    lasts = λ d. let n = long h (sent bytes) in let l = d.later in let w = d.within in omega arith;
    keeps = subst (λ (z : List Event). Keeps bytes s.found.services s.path (clock_after s.clock z) a) (sym (take_new h (sent bytes))) k;
  },
)

-- what is kept is in force
pub forced : (s : Start) (h : List Event) (o : Option Alert) (section : Option (List ℕ)) → Held s h o section → AlertInForce s h section
forced s h None None x = x
forced s h None (Some bytes) x = absurd x
forced s h (Some a) None x = absurd x
forced s h (Some a) (Some bytes) x = (x.0, x.1.latest, x.1.is, x.1.lasts)
