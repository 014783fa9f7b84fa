-- Words as they stand in a document: the three signs of its markup are spelled out. Assumes nothing.
use Rattle.std.specs.Prelude.{ℕ, cond, List, [], ◌∷◌, ◌++◌, codes, ◌==◌}

-- what a byte becomes: the signs & < and > are 38, 60 and 62
abbrev pub escaped : ℕ → List ℕ
escaped b =
    cond (b == 38) (codes "&amp;") (cond (b == 60) (codes "&lt;") (cond (b == 62) (codes "&gt;") (b ∷ [])))

abbrev pub escape : List ℕ → List ℕ
escape [] = []
escape (b ∷ bs) = escaped b ++ escape bs
