-- The table of a gathering, in which each fragment is found by its number. Assumes nothing.
use Rattle.std.specs.Prelude.{◌≡◌, ℕ, ◌+◌, ◌<◌, ◌≤◌, ◌≢◌, List, [], length, take, drop, Some, None, Ok, Err, Result, IfSome, MatchOption, slice_index_or, sum_by}
use Rattle.std.specs.List.{flat_map}
use Rattle.std.specs.Option.{option_map_or}
use Rattle.std.specs.Borrow.{Bor}
use Rattle.document.specs.Descriptors.{Descriptor}
use Rattle.document.specs.Fragments.{Fragment, any_breaks, fragments_of, tally, repeats, lookup}
use Rattle.document.specs.Document.{fault_of, bound}
use Rattle.document.specs.Refusals.{number}
use Rattle.document.specs.declared.slots.Place.{Place}
use Rattle.document.specs.declared.slots.Slot.{Slot}
use Rattle.document.specs.declared.slots.Gathering.{Gathering}
use Rattle.document.specs.declared.refusal.DocumentRefusal.{DocumentRefusal}

-- a slot without a fragment
abbrev pub empty : Slot
empty = record { fragment = None }

-- the bytes of the area at a place
abbrev pub bytes_at : List ℕ → Place → List ℕ
bytes_at area p = take p.len (drop p.start area)

-- a slot has the place of the first fragment with its number, within the area and of under 256 bytes, or nothing if there is none
abbrev pub Placed : List ℕ → List Fragment → ℕ → Slot → Type 0
Placed area fs k s = MatchOption s.fragment (tally k fs ≡ 0) (λ p. (tally k fs ≢ 0) × (bytes_at area p ≡ lookup k fs) × (p.start + p.len ≤ length area) × (p.len < 256))

-- the gathering after these descriptors of the area
pub record Tabled (area : List ℕ) (ds : List Descriptor) (g : Gathering) : Type 0 where
  pub broken : g.broken ≡ any_breaks ds
  pub count : g.count ≡ length (fragments_of ds)
  pub twice : g.twice ≡ repeats (fragments_of ds)
  pub table : length g.slots ≡ 256
  pub places : (k : ℕ) → Placed area (fragments_of ds) k (slice_index_or g.slots k empty)

-- the bytes of a slot, none where there is no fragment, and those of some slots one after another
abbrev pub placed_bytes : List ℕ → Slot → List ℕ
placed_bytes area s = option_map_or (bytes_at area) s.fragment []

abbrev pub pieces : List ℕ → List Slot → List ℕ
pieces area slots = flat_map (placed_bytes area) slots

-- how many they are, and that the area has them
abbrev pub placed_len : Slot → ℕ
placed_len s = option_map_or (λ p. p.len) s.fragment 0

abbrev pub Inside : List ℕ → Slot → Type 0
Inside area s = IfSome s.fragment (λ p. p.start + p.len ≤ length area)

-- the fragments of the descriptors in rising number, or the first rule that they break
abbrev pub Binds : List ℕ → List Descriptor → Result (Bor (List Slot)) DocumentRefusal → Type 0
Binds area ds (Ok slots) =
    (fault_of ds ≡ None) × (pieces area slots.now ≡ bound (fragments_of ds)) × (length (pieces area slots.now) ≤ 65535)
    × (sum_by placed_len slots.now ≡ length (pieces area slots.now)) × ((k : ℕ) → Inside area (slice_index_or slots.now k empty))
Binds area ds (Err e) = fault_of ds ≡ Some (number e)
