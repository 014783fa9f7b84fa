-- Whether an alert has ended, one call later. Assumes nothing.
use Rattle.std.proofs.Common.{◌≡◌, ℕ, ◌<◌, ◌≤◌, ◌⊎◌, List, [], ◌∷◌, ◌++◌, length, take, Option, sym, ap, ◌∙◌, subst, inl, inr, ⊎_elim, arith}
use Rattle.decision.specs.Alerts.{end_of}
use Rattle.history.specs.Histories.{Event, told, Start, event_at, clock_after}
use Rattle.history.specs.Sections.{seconds}
use Rattle.history.specs.Forces.{Past, end_at, Ended}
use Rattle.history.proofs.Positions.{long, take_old, take_new, event_old, event_new, placed}

-- the last call ends the alert of the section that came at i
pub record Ends (s : Start) (h : List Event) (e : Event) (i : ℕ) (bytes : List ℕ) : Type 0 where
  pub reading : ℕ
  pub read : e ≡ told reading
  pub granted : clock_after s.clock h ≤ reading
  pub past : Past (end_at s h i bytes) reading

module _ (s : Start) (h : List Event) (e : Event) (i : ℕ) (bytes : List ℕ) (w : i < length h) where
  -- the end does not depend on the later call
  end_same : end_at s (h ++ e ∷ []) i bytes ≡ end_at s h i bytes
  end_same = ap (λ (x : List Event). end_of (clock_after s.clock x) (seconds bytes)) (take_old h e i (omega arith))

  granted_at : (n : ℕ) (x y : List Event) → x ≡ y → clock_after s.clock x ≤ n → clock_after s.clock y ≤ n
  granted_at n x y q = subst (λ (z : List Event). clock_after s.clock z ≤ n) q

  past_at : (n : ℕ) (x y : Option ℕ) → x ≡ y → Past x n → Past y n
  past_at n x y q = subst (λ (z : Option ℕ). Past z n) q

  -- an end that came stays
  pub ended_keep : Ended s h i bytes → Ended s (h ++ e ∷ []) i bytes
  ended_keep d =
      let l = d.within in
      record {
        at = d.at;
        reading = d.reading;
        later = d.later;
        within = let n = long h e in omega arith;
        read = event_old h e d.at l ∙ d.read;
        granted = granted_at d.reading _ _ (sym (take_old h e d.at (omega arith))) d.granted;
        past = past_at d.reading _ _ (sym end_same) d.past;
      }

  -- it came before, or the last call brought it
  pub ended_back : Ended s (h ++ e ∷ []) i bytes → Ended s h i bytes ⊎ Ends s h e i bytes
  ended_back d =
      let past = past_at d.reading _ _ end_same d.past in
      ⊎_elim
      (λ o. inl (record {
        at = d.at;
        reading = d.reading;
        later = d.later;
        within = o;
        read = sym (event_old h e d.at o) ∙ d.read;
        granted = granted_at d.reading _ _ (take_old h e d.at (omega arith)) d.granted;
        past = past;
      }))
      (λ q. inr (record {
        reading = d.reading;
        read = sym (event_new h e) ∙ ap (event_at (h ++ e ∷ [])) (sym q) ∙ d.read;
        granted = granted_at d.reading _ _ (ap (λ (k : ℕ). take k (h ++ e ∷ [])) q ∙ take_new h e) d.granted;
        past = past;
      }))
      (placed h e d.at d.within)

  pub ended_now : Ends s h e i bytes → Ended s (h ++ e ∷ []) i bytes
  ended_now d =
      record {
        at = length h;
        reading = d.reading;
        later = w;
        within = let n = long h e in omega arith;
        read = event_new h e ∙ d.read;
        granted = granted_at d.reading _ _ (sym (take_new h e)) d.granted;
        past = past_at d.reading _ _ (sym end_same) d.past;
      }
