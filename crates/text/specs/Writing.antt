-- What a buffer holds after a text was to be written to its front. Assumes nothing.
use Rattle.std.specs.Prelude.{◌≡◌, ℕ, List, ◌++◌, length, drop, nat_le, None, Option, Result}
use Rattle.std.specs.Result.{IfErr}
use Rattle.station.specs.Rules.{unless, Gives}
use Rattle.text.specs.declared.refusal.TextRefusal.{TextRefusal}
use Rattle.text.specs.Refusals.{number}
use Rattle.text.specs.Said.{unless_broken}
use Rattle.text.specs.Reading.{text_of}

-- words need a buffer that is not shorter
abbrev pub unless_short : List ℕ → List ℕ → Option ℕ
unless_short words before = unless (nat_le (length words) (length before)) 26 None

-- where no rule is broken the words stand at the front of what was there, else nothing is changed
abbrev pub WritesUnless : {E : Type 0} → (E → ℕ) → Option ℕ → List ℕ → List ℕ → Result ℕ E → List ℕ → Type 0
WritesUnless number_of broken words before r after =
    Gives number_of broken (λ n. (n ≡ length words) × (after ≡ words ++ drop n before)) r
    × IfErr r (λ e. after ≡ before)

-- words, if they fit
abbrev pub Written : List ℕ → List ℕ → Result ℕ TextRefusal → List ℕ → Type 0
Written words before r after = WritesUnless number (unless_short words before) words before r after

-- the text of a field, if it keeps the structure and the text fits
abbrev pub WrittenEnglish : List ℕ → List ℕ → Result ℕ TextRefusal → List ℕ → Type 0
WrittenEnglish field before r after = WritesUnless number (unless_broken field (unless_short (text_of field) before)) (text_of field) before r after
