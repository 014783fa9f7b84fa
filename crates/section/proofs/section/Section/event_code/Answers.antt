use Rattle.std.proofs.Common.{◌≡◌, ℕ, ◌≤◌, List, length, None, refl, ap, ◌∙◌, arith}
use Rattle.section.specs.Places.{layout_of, nature_at, event_code_of, part}
use Rattle.section.specs.Rules.{refusal}
use Rattle.section.specs.declared.layout.Layout.{Layout}
use Rattle.section.proofs.Outcomes.{keeps}
use Rattle.section.proofs.Placed.{placed, fills}
use Rattle.section.proofs.section.Section.event_code.Goals as goal

ends : (s b : List ℕ) {l : Layout} → (refusal s ≡ None) × (b ≡ s) → l ≡ layout_of b → l.event_code.end ≡ nature_at s
ends s b h p = ap (λ x. x.event_code.end) p ∙ ap nature_at h.1

inside : (s b : List ℕ) (l : Layout) → (refusal s ≡ None) × (b ≡ s) → l ≡ layout_of b → (15 ≤ l.event_code.end) × (l.event_code.end ≤ length s)
inside s b l h p =
    let q = placed s in
    let all = fills s (keeps s h.0).lengths in
    let e : l.event_code.end ≡ nature_at s = ends s b h p in
    (omega (arith, q.nature), omega (arith, q.nature, q.times, q.text, q.locations, q.exceptions, q.descriptors, q.check))

pub slice_bounds-result-count : goal.slice_bounds-result-count
slice_bounds-result-count c = let laid = c.in_ok-laid.laid in (inside c.args.self.now.bytes.now laid.bytes.now laid.layout c.in_ok-laid.ensures laid.places).0

pub slice_bounds-result-start : goal.slice_bounds-result-start
slice_bounds-result-start c = let laid = c.in_ok-laid.laid in (inside c.args.self.now.bytes.now laid.bytes.now laid.layout c.in_ok-laid.ensures laid.places).0

pub slice_bounds-result-end : goal.slice_bounds-result-end
slice_bounds-result-end c = let laid = c.in_ok-laid.laid in (inside c.args.self.now.bytes.now laid.bytes.now laid.layout c.in_ok-laid.ensures laid.places).1

pub returns-clause-value : goal.returns-clause-value
unfolding event_code_of
returns-clause-value c =
    let laid = c.in_ok-laid.laid in
    let s = c.args.self.now.bytes.now in
    (c.in_ok-laid.ensures.0, (refl, ap (λ e. part 15 e s) (ends s laid.bytes.now c.in_ok-laid.ensures laid.places)))
