-- A section is its pieces in their order. Assumes nothing.
use Rattle.std.proofs.Common.{◌≡◌, ℕ, ◌+◌, ◌-◌, ◌*◌, ◌/◌, ◌%◌, ◌<◌, ◌≤◌, suc, List, ◌∷◌, ◌++◌, length, take, drop, None, get_or, refl, sym, ap, ◌∙◌, arith}
use Rattle.std.proofs.Math.Nat.{mul-div_cancel_left, mul-mod_right}
use Rattle.std.proofs.Math.Seq.{drop-cons}
use Rattle.std.proofs.lemmas.List.{append-nil, take-append-drop, drop-drop, length-drop, length-take, get_or-drop, get_or-take}
use Rattle.section.specs.Places.{word, after, part, nature_at, times_at, text_at, locations_at, exceptions_at, descriptors_at, check_at, event_code_of, nature_of, alert_of, locations_of, exceptions_of, descriptors_of}
use Rattle.section.specs.Rules.{refusal}
use Rattle.section.specs.Whole.{IsWhole, counted, event_of, times_of, descriptor_length_of, check_word_of}
use Rattle.section.proofs.Outcomes.{keeps}
use Rattle.section.proofs.Placed.{placed, fills}

-- a piece, and what follows it
follows : {x y z : List ℕ} (a : List ℕ) → x ≡ a ++ y → y ≡ z → x ≡ a ++ z
follows a p q = p ∙ ap (λ t. a ++ t) q

module _ (s : List ℕ) where
  cut : (i j : ℕ) → i ≤ j → drop i s ≡ part i j s ++ drop j s
  cut i j h =
      let e : i + (j - i) ≡ j = omega arith in
      sym (take-append-drop (j - i) (drop i s)) ∙ ap (λ t. part i j s ++ t) (drop-drop (j - i) i s ∙ ap (λ n. drop n s) e)

  long : (i j : ℕ) → i ≤ j → j ≤ length s → length (part i j s) ≡ j - i
  long i j h k = omega (arith, length-take (j - i) (drop i s), length-drop i s)

  -- a byte at i that counts entries of w bytes, which end at j
  sizes : (w i j : ℕ) → j ≡ after w s i → j ≤ length s → length (part (i + 1) j s) ≡ w * get_or s i 0
  sizes w i j e k = omega (arith, e, long (i + 1) j (omega (arith, e)) k)

  counts : (w i j : ℕ) → 0 < w → j ≡ after w s i → j ≤ length s → drop i s ≡ counted w (part (i + 1) j s) ++ drop j s
  counts w i j some e k =
      let n : get_or s i 0 ≡ length (part (i + 1) j s) / w = sym (ap (λ m. m / w) (sizes w i j e k) ∙ mul-div_cancel_left (get_or s i 0) some) in
      let rest = cut (i + 1) j (omega (arith, e)) in
      let next : suc i ≡ i + 1 = omega arith in
      drop-cons s i 0 (omega (arith, e)) ∙ (λ t. n t ∷ (ap (λ m. drop m s) next ∙ rest) t)

  entries : (w i j : ℕ) → j ≡ after w s i → j ≤ length s → length (part (i + 1) j s) % w ≡ 0
  entries w i j e k = ap (λ m. m % w) (sizes w i j e k) ∙ mul-mod_right w (get_or s i 0)

  -- two bytes of a piece
  stated : (i j k : ℕ) → k + 1 < j - i → word (part i j s) k ≡ word s (i + k)
  stated i j k h =
      let at : (m : ℕ) → m < j - i → get_or (part i j s) m 0 ≡ get_or s (i + m) 0 = λ m lt. get_or-take (j - i) (drop i s) m 0 lt ∙ get_or-drop i s m 0 in
      let next : i + (k + 1) ≡ i + k + 1 = omega arith in
      let high = at k (omega arith) in
      let low = at (k + 1) h ∙ ap (λ m. get_or s m 0) next in
      λ t. high t * 256 + low t

  pub whole : refusal s ≡ None → IsWhole s
  unfolding event_code_of nature_of alert_of locations_of exceptions_of descriptors_of event_of times_of descriptor_length_of check_word_of
  whole h =
      let p = placed s in
      let all = fills s (keeps s h).lengths in
      let d : descriptors_at s + 2 ≤ length s = omega (arith, all, p.check) in
      let e : exceptions_at s ≤ length s = omega (arith, d, p.descriptors) in
      let l : locations_at s ≤ length s = omega (arith, e, p.exceptions) in
      let t : text_at s ≤ length s = omega (arith, l, p.locations) in
      let n : nature_at s ≤ length s = omega (arith, t, p.text, p.times) in
      let rest : check_at s - (descriptors_at s + 2) ≡ word s (descriptors_at s) % 1024 = omega (arith, p.check) in
      let none : descriptors_at s + 0 ≡ descriptors_at s = omega arith in
      let check = follows (check_word_of s) (sym (append-nil (check_word_of s))) refl in
      let descriptors = follows (descriptors_of s) (cut (descriptors_at s + 2) (check_at s) (omega (arith, p.check))) check in
      let descriptor_length = follows (descriptor_length_of s) (cut (descriptors_at s) (descriptors_at s + 2) (omega arith)) descriptors in
      let exceptions = follows (counted 5 (exceptions_of s)) (counts 5 (exceptions_at s) (descriptors_at s) (omega arith) p.descriptors (omega (arith, d))) descriptor_length in
      let locations = follows (counted 3 (locations_of s)) (counts 3 (locations_at s) (exceptions_at s) (omega arith) p.exceptions e) exceptions in
      let alert = follows (alert_of s) (cut (text_at s) (locations_at s) (omega (arith, p.locations))) locations in
      let times = follows (times_of s) (cut (times_at s) (text_at s) (omega (arith, p.text))) alert in
      let nature = follows (counted 1 (nature_of s)) (counts 1 (nature_at s) (times_at s) (omega arith) p.times (omega (arith, t, p.text))) times in
      let event_code = follows (counted 1 (event_code_of s)) (counts 1 14 (nature_at s) (omega arith) p.nature n) nature in
      let event = follows (event_of s) (cut 9 14 (omega arith)) event_code in
      record {
        joined = sym (follows (take 9 s) (sym (take-append-drop 9 s)) event);
        head = omega (arith, length-take 9 s, n, p.nature);
        event = long 9 14 (omega arith) (omega (arith, n, p.nature));
        times = omega (arith, long (times_at s) (text_at s) (omega (arith, p.text)) t, p.text);
        alert = omega (arith, long (text_at s) (locations_at s) (omega (arith, p.locations)) l, p.locations, stated (times_at s) (text_at s) 17 (omega (arith, p.text)));
        locations = entries 3 (locations_at s) (exceptions_at s) p.exceptions e;
        exceptions = entries 5 (exceptions_at s) (descriptors_at s) p.descriptors (omega (arith, d));
        descriptor_length = omega (arith, long (descriptors_at s) (descriptors_at s + 2) (omega arith) d);
        descriptors = long (descriptors_at s + 2) (check_at s) (omega (arith, p.check)) (omega (arith, all)) ∙ (rest ∙ sym (ap (λ m. m % 1024) (stated (descriptors_at s) (descriptors_at s + 2) 0 (omega arith) ∙ ap (word s) none)));
        check_word = omega (arith, length-drop (check_at s) s, all);
      }
