-- What follows for a section that is refused, and for one that is not. Assumes nothing.
use Rattle.std.proofs.Common.{◌≡◌, ℕ, Bool, true, false, List, None, Option, refl, arith}
use Rattle.std.proofs.lemmas.Bool.{and_parts}
use Rattle.station.specs.Rules.{unless}
use Rattle.text.specs.Structure.{structured}
use Rattle.section.specs.Places.{nature_of, alert_of}
use Rattle.section.specs.Rules.{sized, headed, checks, versioned, adds, ranged, spelled, refusal}

-- a section that is not refused keeps every rule
pub record Keeps (s : List ℕ) : Type 0 where
  pub sizes : sized s ≡ true
  pub heads : headed s ≡ true
  pub checked : checks s ≡ true
  pub version : versioned s ≡ true
  pub lengths : adds s ≡ true
  pub ranges : ranged s ≡ true
  pub texts : spelled s ≡ true

kept : (b : Bool) (e : ℕ) (rest : Option ℕ) → unless b e rest ≡ None → (b ≡ true) × (rest ≡ None)
kept true e rest h = (refl, h)
kept false e rest h = let z : ◌≡◌ {A = ℕ} 0 1 = cc in absurd (omega arith)

pub keeps : (s : List ℕ) → refusal s ≡ None → Keeps s
unfolding refusal
keeps s h =
    let a = kept (sized s) 10 _ h in
    let b = kept (headed s) 11 _ a.1 in
    let c = kept (checks s) 12 _ b.1 in
    let d = kept (versioned s) 13 _ c.1 in
    let e = kept (adds s) 14 _ d.1 in
    let f = kept (ranged s) 15 _ e.1 in
    let g = kept (spelled s) 16 None f.1 in
    record { sizes = a.0; heads = b.0; checked = c.0; version = d.0; lengths = e.0; ranges = f.0; texts = g.0 }

-- the text fields of a section that is not refused keep their structure
pub texts_of : (s : List ℕ) → refusal s ≡ None → (structured (nature_of s) ≡ true) × (structured (alert_of s) ≡ true)
texts_of s h = and_parts (structured (nature_of s)) (structured (alert_of s)) (keeps s h).texts
