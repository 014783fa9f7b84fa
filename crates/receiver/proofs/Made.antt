-- A call as it stands in a history, and what its reply and the state say there. Assumes nothing.
use Rattle.std.proofs.Common.{◌≡◌, ℕ, List, Some, None, Option, sym, subst}
use Rattle.std.specs.Option.{option_map}
use Rattle.decision.specs.declared.alert.Alert.{Alert}
use Rattle.sets.specs.Meaning.{Meaning}
use Rattle.calls.specs.Numbers.{reading_number, choice_number}
use Rattle.calls.specs.Verdicts.{alone, verdict_of}
use Rattle.calls.specs.declared.refusal.ReadingRefusal.{ReadingRefusal}
use Rattle.calls.specs.declared.refusal.ReadingRefusal.TheVariants.{Earlier}
use Rattle.calls.specs.declared.refusal.ChoiceRefusal.{ChoiceRefusal}
use Rattle.calls.specs.declared.refusal.ChoiceRefusal.TheVariants.{PastTheList}
use Rattle.calls.specs.declared.call.Call.{Call}
use Rattle.calls.specs.declared.reply.Reply.{Reply}
use Rattle.history.specs.Forces.{EventInForce}
use Rattle.history.specs.Histories.{Event, Start}
use Rattle.history.specs.Replies.{event, Due}
use Rattle.history.specs.Stands.{Held}
use Rattle.receiver.specs.Stood.{WhateverCame, Spares}
use Rattle.receiver.specs.declared.receiver.Receiver.{Receiver}

module _ {S : Type 0} (mean : S → Meaning) (call : Call) (e : Event) (is : event call ≡ e) (before after : Receiver S) where
  pub replied : (r q : Reply) → q ≡ r → WhateverCame mean before (λ s h. Due s h (verdict_of r) e) → WhateverCame mean before (λ s h. Due s h (verdict_of q) (event call))
  replied r q same due s h x = subst (Due s h (verdict_of q)) (sym is) (subst (λ (z : Reply). Due s h (verdict_of z) e) (sym same) (due s h x))

  pub spared : Spares mean e before after → Spares mean (event call) before after
  spared = subst (λ (y : Event). Spares mean y before after) (sym is)

-- a refused reading or choice is said by its one number
pub early : (s : Start) (h : List Event) (call : Event) (e : ReadingRefusal) → Due s h (alone 31) call → Due s h (alone (reading_number e)) call
early s h call Earlier d = d

pub past : (s : Start) (h : List Event) (call : Event) (e : ChoiceRefusal) → Due s h (alone 32) call → Due s h (alone (choice_number e)) call
past s h call PastTheList d = d

-- the event ID of the alert kept is that of the alert in force
pub event_held : (s : Start) (h : List Event) (a : Option Alert) (b : Option (List ℕ)) → Held s h a b → EventInForce s h (option_map (λ x. x.event_id) a)
event_held s h None None k = k
event_held s h None (Some bytes) k = absurd k
event_held s h (Some a) None k = absurd k
event_held s h (Some a) (Some bytes) k = (bytes, (k.0, k.1.latest, k.1.is, k.1.lasts), k.1.keeps.event)
