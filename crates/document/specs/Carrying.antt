-- The document that descriptor bytes carry, as a law. Assumes nothing.
use Rattle.std.specs.Prelude.{◌≡◌, ◌≢◌, ⊤, ℕ, suc, ◌≤◌, List, [], ◌∷◌, length, Ok}
use Rattle.std.specs.List.{flat_map}
use Rattle.document.specs.Descriptors.{Descriptor}
use Rattle.document.specs.Document.{document_of}
use Rattle.document.specs.Fragments.{Fragment}
use Rattle.document.specs.Rearranging.{laid, Reordered}

-- the metadata descriptor of a fragment: its number, its length and its bytes
abbrev pub descriptor_of : Fragment → Descriptor
descriptor_of f = record { tag = 3; body = f.number ∷ (length f.bytes ∷ f.bytes) }

-- the metadata ones among the descriptors keep their rule, and are those of these fragments
pub data Carry : List Descriptor → List Fragment → Type 0 where
  none : Carry [] []
  other : {d : Descriptor} {ds : List Descriptor} {fs : List Fragment} → d.tag ≢ 3 → Carry ds fs → Carry (d ∷ ds) fs
  one : {f : Fragment} {ds : List Descriptor} {fs : List Fragment} → 1 ≤ f.number → 1 ≤ length f.bytes → Carry ds fs → Carry (descriptor_of f ∷ ds) (f ∷ fs)

-- their numbers are k, k + 1 and so on
abbrev pub RiseFrom : ℕ → List Fragment → Type 0
RiseFrom k [] = ⊤
RiseFrom k (f ∷ fs) = (f.number ≡ k) × RiseFrom (suc k) fs

-- whole descriptors fill the area, the metadata ones keep their rule, their fragments are in some order 1 to their count, which is at least 1, and in that order are the document
pub record IsDocumentOf (area doc : List ℕ) : Type 0 where
  pub descriptors : List Descriptor
  pub in_order_met : List Fragment
  pub rising : List Fragment
  pub fill : area ≡ laid descriptors
  pub carry : Carry descriptors in_order_met
  pub reordered : Reordered in_order_met rising
  pub some : 1 ≤ length rising
  pub numbered : RiseFrom 1 rising
  pub document : doc ≡ flat_map (λ f. f.bytes) rising

-- an area has a document just where that is so
abbrev pub DocumentIsItsFragments : Type 0
DocumentIsItsFragments =
    (area doc : List ℕ) → (document_of area ≡ Ok doc → IsDocumentOf area doc) × (IsDocumentOf area doc → document_of area ≡ Ok doc)
