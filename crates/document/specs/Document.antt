-- The document of an area of descriptors, or the number of its refusal. Assumes nothing.
use Rattle.std.specs.Prelude.{ℕ, Bool, not, List, length, Some, None, Ok, Err, Option, Result, ◌==◌}
use Rattle.station.specs.Rules.{unless}
use Rattle.document.specs.Descriptors.{Descriptor, walked, ended}
use Rattle.document.specs.Fragments.{Fragment, any_breaks, fragments_of, tally, repeats, lookup, missing, chained}

-- the numbers are not 1 to their count
abbrev pub gap : List Fragment → Bool
gap fs = missing (λ k. tally k fs) (length fs)

-- the number of the first rule that is broken, each tested over the whole area
abbrev pub fault : Bool → ℕ → Bool → Bool → Option ℕ
fault breaks n repeats gap =
    unless (not breaks) 21 (unless (not (n == 0)) 22 (unless (not repeats) 23 (unless (not gap) 24 None)))

-- what these descriptors break, if anything
abbrev pub fault_of : List Descriptor → Option ℕ
fault_of ds = fault (any_breaks ds) (length (fragments_of ds)) (repeats (fragments_of ds)) (gap (fragments_of ds))

-- the fragments in rising number
abbrev pub bound : List Fragment → List ℕ
bound fs = chained (λ k. lookup k fs) (length fs)

abbrev pub or_fault : Option ℕ → List ℕ → Result (List ℕ) ℕ
or_fault None doc = Ok doc
or_fault (Some k) doc = Err k

-- the document that the descriptor bytes carry, or the number of the first rule that they break
unfoldable pub document_of : List ℕ → Result (List ℕ) ℕ
document_of area =
    or_fault (unless (ended (walked area)) 20 (fault_of (walked area).whole)) (bound (fragments_of (walked area).whole))
