-- What reading a line keeps of its buffer. Assumes nothing.
use Rattle.std.proofs.Common.{◌≡◌, ℕ, Bool, true, not, eqb, ◌++◌, length, sym, ◌∙◌}
use Rattle.std.proofs.lemmas.List.{nil_from_length}
use Rattle.std.proofs.lemmas.Bool.{eqb-true, not-false, true≢false}
use Rattle.lines.proofs.Feeds.{none_in_both}
use Rattle.lines.specs.declared.buffer.LineBuffer.{LineBuffer}
use Rattle.lines.specs.Held.{OfLine, GoesOn, HoldsLine, HoldsNext}

-- what a loop over the pieces of a line keeps: some line without a line feed, and as many kept bytes
abbrev pub Reads : ℕ → LineBuffer → Type 0
Reads most b = HoldsLine b × (b.most ≡ most)

pub reads_on : (most : ℕ) (before after : LineBuffer) → GoesOn before after → after.most ≡ before.most → Reads most before → Reads most after
reads_on most before after goes same (h, m) =
    let more = goes h.0 h.2 in
    ((h.0 ++ more.0, none_in_both h.0 more.0 h.1 more.1, more.2), same ∙ m)

pub next_there : (b : LineBuffer) → HoldsLine b → HoldsNext b true
next_there b h = (h.0, h.1, h.2, λ e. absurd (true≢false e))

pub next_unless_empty : (b : LineBuffer) (empty : Bool) → OfLine b (λ line. empty ≡ eqb (length line) 0) → HoldsLine b → HoldsNext b (not empty)
next_unless_empty b empty f h =
    (h.0, h.1, h.2, λ e. nil_from_length h.0 (eqb-true (length h.0) 0 (sym (f h.0 h.2) ∙ not-false empty e)))
