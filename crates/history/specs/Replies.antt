-- What is due to a call, by the calls before it. Assumes nothing.
use Rattle.std.specs.Prelude.{◌≡◌, ℕ, ◌<◌, ◌≤◌, List, ◌++◌, length, take, Some, None, slice_index_or}
use Rattle.section.specs.Rules.{refusal}
use Rattle.sets.specs.Meaning.{count_of}
use Rattle.calls.specs.Verdicts.{Verdict, alone, verdict_of}
use Rattle.calls.specs.declared.call.Call.{Call}
use Rattle.calls.specs.declared.call.Call.TheVariants.{Section, Reading, Choice}
use Rattle.calls.specs.declared.reply.Reply.{Reply}
use Rattle.calls.specs.declared.reply.Reply.TheVariants.{Granted}
use Rattle.history.specs.Histories.{Event, sent, told, chose, Start, event_at, clock_after, IsGranted}
use Rattle.history.specs.Sections.{priority, Repeats, IsNew, Names}

-- after the calls h of a receiver that began as s says, v is due to a call: a row for each case
pub data Due (s : Start) (h : List Event) (v : Verdict) : Event → Type 0 where
  -- to a section: the number of the first rule that it breaks
  breaks_a_rule : (bytes : List ℕ) (n : ℕ) → refusal bytes ≡ Some n → v ≡ alone n → Due s h v (sent bytes)
  -- else 1 if it is not new
  is_repeat : (bytes : List ℕ) → refusal bytes ≡ None → Repeats h bytes → v ≡ alone 1 → Due s h v (sent bytes)
  -- else 2 at priority 0
  is_test : (bytes : List ℕ) → refusal bytes ≡ None → IsNew h bytes → priority bytes ≡ 0 → v ≡ alone 2 → Due s h v (sent bytes)
  -- else 3 if no location entry names the place
  is_elsewhere : (bytes : List ℕ) → refusal bytes ≡ None → IsNew h bytes → 0 < priority bytes → ((k : ℕ) → Names bytes s.place k → ⊥) → v ≡ alone 3 → Due s h v (sent bytes)
  -- else 4 with the number of a location entry that names it
  is_in_force : (bytes : List ℕ) (k : ℕ) → refusal bytes ≡ None → IsNew h bytes → 0 < priority bytes → Names bytes s.place k → v ≡ record { number = 4; entry = Some k } → Due s h v (sent bytes)
  -- to a reading: 0 if it is not below the clock, else 31
  is_read : (n : ℕ) → IsGranted s h n → v ≡ alone 0 → Due s h v (told n)
  is_early : (n : ℕ) → n < clock_after s.clock h → v ≡ alone 31 → Due s h v (told n)
  -- to a choice: 0 on the list, else 32
  is_chosen : (n : ℕ) → n < count_of s.found → v ≡ alone 0 → Due s h v (chose n)
  is_past_the_list : (n : ℕ) → count_of s.found ≤ n → v ≡ alone 32 → Due s h v (chose n)

-- a call as it stands in a history
abbrev pub event : Call → Event
event (Section bytes) = sent bytes.now
event (Reading n) = told n
event (Choice n) = chose n

-- after h came the calls more: each reply for which there is room says what is due to the call at its place
abbrev pub Replied : Start → List Event → List Event → List Reply → Type 0
Replied s h more replies =
    (i : ℕ) → i < length more → i < length replies → Due s (h ++ take i more) (verdict_of (slice_index_or replies i Granted)) (event_at more i)
