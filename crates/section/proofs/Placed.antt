-- Each place by the one before it, and the last by the end of a section that keeps its rules. Assumes nothing.
use Rattle.std.proofs.Common.{◌≡◌, ℕ, ◌+◌, ◌%◌, true, List, length, refl, arith, eqb-true}
use Rattle.section.specs.Places.{word, after, nature_at, times_at, text_at, locations_at, exceptions_at, descriptors_at, check_at}
use Rattle.section.specs.Rules.{adds}

pub record Placed (s : List ℕ) : Type 0 where
  pub nature : nature_at s ≡ after 1 s 14
  pub times : times_at s ≡ after 1 s (nature_at s)
  pub text : text_at s ≡ times_at s + 19
  pub locations : locations_at s ≡ text_at s + word s (times_at s + 17)
  pub exceptions : exceptions_at s ≡ after 3 s (locations_at s)
  pub descriptors : descriptors_at s ≡ after 5 s (exceptions_at s)
  pub check : check_at s ≡ descriptors_at s + 2 + word s (descriptors_at s) % 1024

pub placed : (s : List ℕ) → Placed s
unfolding nature_at times_at text_at locations_at exceptions_at descriptors_at check_at
placed s =
    record {
      nature = refl;
      times = refl;
      text = refl;
      locations = refl;
      exceptions = refl;
      descriptors = refl;
      check = refl;
    }

pub fills : (s : List ℕ) → adds s ≡ true → check_at s + 4 ≡ length s
fills s h = omega (arith, eqb-true)
