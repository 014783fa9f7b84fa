-- A part of a section by its span in the layout. Assumes nothing.
use Rattle.std.proofs.Common.{◌≡◌, ℕ, List, None, ap, ◌∙◌}
use Rattle.section.specs.Places.{layout_of, part}
use Rattle.section.specs.Rules.{refusal}
use Rattle.section.specs.declared.layout.Layout.{Layout}
use Rattle.section.specs.declared.layout.Span.{Span}

pub spans : (s : List ℕ) {l : Layout} (f : Layout → Span) {bs : List ℕ} → l ≡ layout_of s → bs ≡ part (f l).start (f l).end s → bs ≡ part (f (layout_of s)).start (f (layout_of s)).end s
spans s f p e = e ∙ ap (λ l. part (f l).start (f l).end s) p

-- and with its place, of a section b that was laid out and is s
pub hands : (s b : List ℕ) {l : Layout} (f : Layout → Span) {at : ℕ} {bs : List ℕ}
    → (refusal s ≡ None) × (b ≡ s) → l ≡ layout_of b → at ≡ (f l).start → bs ≡ part (f l).start (f l).end b
    → (refusal s ≡ None) × ((at ≡ (f (layout_of s)).start) × (bs ≡ part (f (layout_of s)).start (f (layout_of s)).end s))
hands s b f h p a e = (
  h.0,
  (a ∙ ap (λ x. (f x).start) p ∙ ap (λ t. (f (layout_of t)).start) h.1, spans b f p e ∙ ap (λ t. part (f (layout_of t)).start (f (layout_of t)).end t) h.1),
)
