-- The answer that the sheet gives is the one that is due. Assumes nothing.
use Rattle.std.proofs.Common.{◌≡◌, ℕ, List, Ok, Err, Result, sym, refl, subst, arith}
use Rattle.station.specs.declared.place.Place.{Place}
use Rattle.section.specs.Refusals.{number}
use Rattle.section.specs.declared.refusal.SectionRefusal.{SectionRefusal}
use Rattle.sets.specs.Meaning.{Meaning}
use Rattle.calls.specs.Replying.{of_section}
use Rattle.calls.specs.Verdicts.{verdict_of}
use Rattle.calls.specs.declared.answer.Answer.{Answer}
use Rattle.calls.specs.declared.answer.Answer.TheVariants.{Repeat, Test, Elsewhere, InForce}
use Rattle.history.specs.Histories.{Event, sent, Start}
use Rattle.history.specs.Sections.{Names, Taken}
use Rattle.history.specs.Replies.{Due, breaks_a_rule, is_repeat, is_test, is_elsewhere, is_in_force}
use Rattle.history.specs.Stands.{Stands}
use Rattle.history.specs.Sheet.{Judges}
use Rattle.history.specs.declared.state.State.{State}
use Rattle.history.proofs.Steps.{fresh, stale}

module _ (s : Start) (h : List Event) (st : State) (m : Meaning) (x : Stands s h st m) (bytes : List ℕ) where
  here : (k : ℕ) → Names bytes st.place k → Names bytes s.place k
  here k = subst (λ (p : Place). Names bytes p k) x.place

  there : (k : ℕ) → Names bytes s.place k → Names bytes st.place k
  there k = subst (λ (p : Place). Names bytes p k) (sym x.place)

  pub answered : (r : Result Answer SectionRefusal) → Judges st bytes r → Due s h (verdict_of (of_section r)) (sent bytes)
  answered (Err e) j = breaks_a_rule bytes (number e) j refl
  answered (Ok Repeat) j = is_repeat bytes j.0 (stale h bytes st.last x.last j.1) refl
  answered (Ok Test) j = is_test bytes j.0 (fresh h bytes st.last x.last j.1) j.2 refl
  answered (Ok Elsewhere) j = is_elsewhere bytes j.0 (fresh h bytes st.last x.last j.1) j.2 (λ k names. j.3 k (there k names)) refl
  answered (Ok (InForce k)) j = is_in_force bytes k j.0 (fresh h bytes st.last x.last j.1) j.2 (here k j.3) refl

  -- of the answers only 'in force' takes a section
  pub untaken : (a : Answer) → Judges st bytes (Ok a) → ((k : ℕ) → a ≡ InForce k → ⊥) → Taken s.place h (sent bytes) → ⊥
  untaken Repeat j not t = t.1 (stale h bytes st.last x.last j.1)
  untaken Test j not t = let z = j.2 in let p = t.2 in omega arith
  untaken Elsewhere j not t = j.3 t.3.0 (there t.3.0 t.3.1)
  untaken (InForce k) j not t = not k refl

  pub taking : (k : ℕ) → Judges st bytes (Ok (InForce k)) → Taken s.place h (sent bytes)
  taking k j = (j.0, fresh h bytes st.last x.last j.1, j.2, (k, here k j.3))
