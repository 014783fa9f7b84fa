-- Runs of calls that leave a receiver or its set as it was. Assumes nothing.
use Rattle.std.specs.Prelude.{ℕ, ◌+◌, ◌<◌, List, ◌++◌, length, take}
use Rattle.calls.specs.Verdicts.{Verdict, IsRefusal}
use Rattle.sets.specs.Meaning.{Meaning}
use Rattle.history.specs.Histories.{Event, Start, event_at}
use Rattle.history.specs.Law.{Law}
use Rattle.history.specs.Replies.{Due}

-- after h, whatever is due to each of the calls more is a refusal
abbrev pub RefusesAll : Start → List Event → List Event → Type 0
RefusesAll s h more = (i : ℕ) (v : Verdict) → i < length more → Due s (h ++ take i more) v (event_at more i) → IsRefusal v

-- after h, each of the calls more asks for what m is
abbrev pub AlwaysAsks : Start → List Event → List Event → Meaning → Type 0
AlwaysAsks s h more m = (i : ℕ) → i < length more → Law s (h ++ take (i + 1) more) m
