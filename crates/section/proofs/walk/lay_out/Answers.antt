use Rattle.std.proofs.Common.{◌≡◌, ◌+◌, ◌%◌, get_or, ap, ◌∙◌, arith}
use Rattle.section.specs.Places.{span, after, word, nature_at, times_at, text_at, locations_at, exceptions_at, descriptors_at, check_at}
use Rattle.section.proofs.walk.lay_out.Goals as goal

pub invariant_of-result : goal.invariant_of-result
unfolding nature_at times_at text_at locations_at exceptions_at descriptors_at check_at
invariant_of-result c =
    let s = c.args.head.now.bytes.now in
    let n : c.after_counted-nature.result ≡ nature_at s = c.after_counted-nature.ensures.value in
    let t : c.after_counted-times.result ≡ times_at s = c.after_counted-times.ensures.value ∙ ap (after 1 s) n in
    let w : c.from.result ≡ word s (times_at s + 17) = c.from.ensures ∙ c.body_word.ensures.value ∙ ap (λ k. word s (k + 17)) t in
    let l : c.after_counted-times.result + 19 + c.from.result ≡ locations_at s = λ i. t i + 19 + w i in
    let e : c.after_counted-exceptions.result ≡ exceptions_at s = c.after_counted-exceptions.ensures.value ∙ ap (after 3 s) l in
    let d : c.after_counted-descriptors.result ≡ descriptors_at s = c.after_counted-descriptors.ensures.value ∙ ap (after 5 s) e in
    let m : c.from-2.result ≡ word s (descriptors_at s) % 1024 = c.from-2.ensures ∙ ap (λ k. k % 1024) (c.body_word-2.ensures.value ∙ ap (word s) d) in
    let k : c.body_byte.result ≡ get_or s (locations_at s) 0 = c.body_byte.ensures.value ∙ ap (λ j. get_or s j 0) l in
    record {
      places = λ i.
          record {
            event_code = span 15 (n i);
            nature = span (n i + 1) (t i);
            times = t i;
            alert = span (t i + 19) (l i);
            location_count = k i;
            locations = span (l i + 1) (e i);
            exceptions = span (e i + 1) (d i);
            descriptors = span (d i + 2) (d i + 2 + m i);
          };
      near = omega (arith, c.after_counted-nature.ensures.bound, c.after_counted-times.ensures.bound);
    }
