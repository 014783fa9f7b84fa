use Rattle.std.proofs.Common.{◌≡◌, ℕ, ◌+◌, ◌/◌, ◌%◌, [], ◌∷◌, get_or, ap, ◌∙◌, arith}
use Rattle.section.specs.Places.{word, times_at}
use Rattle.section.specs.Values.{fields_of}
use Rattle.section.proofs.laid.Laid.decode.Goals as goal

pub returns : goal.returns
unfolding fields_of
returns c =
    let s = c.args.self.now.bytes.now in
    let at : c.args.self.now.layout.times ≡ times_at s = ap (λ l. l.times) c.args.self.now.places in
    let w : (k : ℕ) → word s (c.args.self.now.layout.times + k) ≡ word s (times_at s + k) = λ k. ap (λ t. word s (t + k)) at in
    let next : times_at s + 8 ≡ times_at s + 7 + 1 = omega arith in
    let byte : c.byte_at-6.result ≡ get_or s (times_at s + 7 + 1) 0 = c.byte_at-6.ensures.value ∙ ap (λ t. get_or s (t + 8) 0) at ∙ ap (λ k. get_or s k 0) next in
    let low : c.byte_at-6.result % 16 ≡ word s (times_at s + 7) % 16 = omega (arith, byte) in
    record {
      value = λ i.
          record {
            sequence = record { 0 = c.byte_at.ensures.value i / 2 % 32 };
            event_id = record { 0 = c.word_at.ensures.value i };
            originator = c.byte_at-2.ensures.value i ∷ c.byte_at-3.ensures.value i ∷ c.byte_at-4.ensures.value i ∷ [];
            seconds = record { 0 = (c.byte_at-5.ensures.value ∙ ap (λ t. get_or s t 0) at) i };
            start = c.start_time.ensures.value i;
            duration = record { 0 = (c.timed.ensures.value ∙ w 5) i };
            priority = record { 0 = low i };
            details_source = record { 0 = (c.timed-2.ensures.value ∙ w 9) i };
            details_channel = record { major = (c.timed-3.ensures.value ∙ w 11) i % 1024; minor = (c.timed-4.ensures.value ∙ w 13) i % 1024 };
            audio_source = record { 0 = (c.timed-5.ensures.value ∙ w 15) i };
          };
    }
