use Rattle.std.proofs.Common.{◌≡◌, true, ◌&&◌, get_or, ap, ◌∙◌}
use Rattle.section.specs.Places.{locations_at, locations_of}
use Rattle.section.specs.Values.{seconds_of}
use Rattle.section.specs.Rules.{all_located, bounded}
use Rattle.section.proofs.Parts.{spans}
use Rattle.section.proofs.laid.Laid.is_ranged.Goals as goal

pub returns-then-is_bounded : goal.returns-then-is_bounded
unfolding locations_of
returns-then-is_bounded c =
    let s = c.args.self.now.bytes.now in
    let places = c.args.self.now.places in
    let n : c.args.self.now.layout.location_count ≡ get_or s (locations_at s) 0 = ap (λ l. l.location_count) places in
    let t : c.byte_at.result ≡ seconds_of s = c.byte_at.ensures.value ∙ ap (λ l. get_or s l.times 0) places in
    let ok : true ≡ bounded (seconds_of s) (get_or s (locations_at s) 0) = c.if-is_bounded.ensures.value ∙ (λ i. bounded (t i) (n i)) in
    record {
      value = c.all_located.ensures.value ∙ ap (all_located c.args.self.now.layout.location_count) (spans s (λ l. l.locations) places c.part_of.ensures.value)
          ∙ ap (λ k. all_located k (locations_of s)) n ∙ ap (λ b. b && all_located (get_or s (locations_at s) 0) (locations_of s)) ok;
    }
