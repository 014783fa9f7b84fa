-- Sections that differ only in the order of their whole descriptors and in the check word. Assumes nothing.
use Rattle.std.specs.Prelude.{◌≡◌, ⊤, ℕ, ◌+◌, ◌<◌, List, [], ◌∷◌, ◌++◌, length, take, None}
use Rattle.section.specs.Places.{descriptors_at, descriptors_of}
use Rattle.section.specs.Rules.{refusal}
use Rattle.document.specs.Descriptors.{Descriptor}

-- the bytes of descriptors: of each its tag, its length and its bytes
abbrev pub laid : List Descriptor → List ℕ
laid [] = []
laid (d ∷ ds) = d.tag ∷ (length d.body ∷ (d.body ++ laid ds))

-- bytes in which no whole descriptor begins
abbrev pub Torn : List ℕ → Type 0
Torn [] = ⊤
Torn (t ∷ []) = ⊤
Torn (t ∷ (l ∷ rest)) = length rest < l

-- the same things in another order, by exchanges of neighbours
pub data Reordered {A : Type 0} : List A → List A → Type 0 where
  none : Reordered [] []
  keep : {x : A} {xs ys : List A} → Reordered xs ys → Reordered (x ∷ xs) (x ∷ ys)
  swap : {x y : A} {xs : List A} → Reordered (x ∷ (y ∷ xs)) (y ∷ (x ∷ xs))
  chain : {xs ys zs : List A} → Reordered xs ys → Reordered ys zs → Reordered xs zs

-- well formed, the same up to the descriptors, whose length they state alike; there ds in the one is es in the other, before the same torn rest
pub record Rearranged (s t : List ℕ) : Type 0 where
  pub formed : refusal s ≡ None
  pub formed_too : refusal t ≡ None
  pub front : take (descriptors_at s + 2) s ≡ take (descriptors_at s + 2) t
  pub ds : List Descriptor
  pub es : List Descriptor
  pub rest : List ℕ
  pub area : descriptors_of s ≡ laid ds ++ rest
  pub area_too : descriptors_of t ≡ laid es ++ rest
  pub torn : Torn rest
  pub reordered : Reordered ds es
