-- What a section does to a receiver, by the answer that the sheet gives. Assumes nothing.
use Rattle.std.proofs.Common.{◌≡◌, ℕ, List, [], ◌∷◌, ◌++◌, Some, Ok, Err, sym, ap, ◌∙◌, subst}
use Rattle.section.specs.Refusals.{number}
use Rattle.section.specs.Values.{fields_of}
use Rattle.section.specs.declared.fields.SequenceNumber.{SequenceNumber}
use Rattle.section.specs.declared.refusal.SectionRefusal.{SectionRefusal}
use Rattle.sets.specs.Meaning.{Meaning}
use Rattle.decision.specs.Alerts.{Keeps}
use Rattle.decision.specs.Fits.{Fits}
use Rattle.decision.specs.declared.alert.Alert.{Alert}
use Rattle.calls.specs.Replying.{of_section}
use Rattle.calls.specs.Verdicts.{verdict_of}
use Rattle.calls.specs.declared.answer.Answer.{Answer}
use Rattle.calls.specs.declared.answer.Answer.TheVariants.{Repeat, Test, Elsewhere, InForce}
use Rattle.history.specs.Histories.{Event, sent, Start}
use Rattle.history.specs.Sections.{Taken}
use Rattle.history.specs.Replies.{Due}
use Rattle.history.specs.Stands.{Stands}
use Rattle.history.specs.Sheet.{noted, alerted, entered, Judges, Moves}
use Rattle.history.specs.declared.state.State.{State}
use Rattle.history.proofs.Answering.{answered, untaken, taking}
use Rattle.history.proofs.Turns.{refused_section, passed, taken}

module _ (s : Start) (h : List Event) (st : State) (m : Meaning) (x : Stands s h st m) (bytes : List ℕ) where
  pub on_refused : (e : SectionRefusal) → Judges st bytes (Err e) → Stands s (h ++ sent bytes ∷ []) st m × Due s h (verdict_of (of_section (Err e))) (sent bytes)
  on_refused e j = (refused_section s h st m x bytes (number e) j, answered s h st m x bytes (Err e) j)

  pub on_passed : (a : Answer) (q : SequenceNumber) → ((k : ℕ) → a ≡ InForce k → ⊥) → q ≡ (fields_of bytes).sequence → Judges st bytes (Ok a) → Stands s (h ++ sent bytes ∷ []) (entered st a q) m × Due s h (verdict_of (of_section (Ok a))) (sent bytes)
  on_passed a q not is j =
      (by a j (untaken s h st m x bytes a j not), answered s h st m x bytes (Ok a) j)
    where
      by : (b : Answer) → Judges st bytes (Ok b) → (Taken s.place h (sent bytes) → ⊥) → Stands s (h ++ sent bytes ∷ []) (entered st b q) m
      by Repeat k none = passed s h st m x bytes st.last k.0 none k.1
      by Test k none = passed s h st m x bytes (Some q) k.0 none (ap Some is)
      by Elsewhere k none = passed s h st m x bytes (Some q) k.0 none (ap Some is)
      by (InForce n) k none = passed s h st m x bytes (Some q) k.0 none (ap Some is)

  pub on_taken : (a : Answer) (k : ℕ) (q : SequenceNumber) (alert : Alert) (after : Meaning) → a ≡ InForce k → q ≡ (fields_of bytes).sequence → Judges st bytes (Ok a) → Keeps bytes m.services st.path st.clock alert → Fits m.services alert → Moves m st (alerted (entered st a q) alert) after → Stands s (h ++ sent bytes ∷ []) (alerted (entered st a q) alert) after × Due s h (verdict_of (of_section (Ok a))) (sent bytes)
  on_taken a k q alert after is number j keeps fits moves =
      let t = taking s h st m x bytes k (subst (λ (b : Answer). Judges st bytes (Ok b)) is j) in
      let same : entered st a q ≡ noted st (fields_of bytes).sequence = ap (λ (b : Answer). entered st b q) is ∙ ap (noted st) number in (
        subst (λ (y : State). Stands s (h ++ sent bytes ∷ []) (alerted y alert) after) (sym same)
            (taken s h st m x bytes alert after t keeps fits (subst (λ (y : State). Moves m st (alerted y alert) after) same moves)),
        answered s h st m x bytes (Ok a) j,
      )
