-- The first English string step by step, and the text by the string that was found. Assumes nothing.
use Rattle.std.proofs.Common.{◌≡◌, ℕ, suc, ◌+◌, ◌-◌, ◌<◌, true, false, cond, List, Some, Option, get_or, drop, sym, ap, ◌∙◌, arith}
use Rattle.std.specs.List.{find}
use Rattle.text.specs.Structure.{Spoken, string_at, string_size, strings}
use Rattle.text.specs.Reading.{characters, cut, english, read_of, text_of}

pub text_found : (s : List ℕ) {n : ℕ} {rest : List ℕ} {o : Option Spoken} → n ≡ get_or s 0 0 → rest ≡ drop 1 s → o ≡ find (λ t. english t.language) (strings n rest) → cut 1024 (characters (read_of o)) ≡ text_of s
unfolding text_of
text_found s p q e = ap (λ o. cut 1024 (characters (read_of o))) (e ∙ (λ i. find (λ t. english t.language) (strings (p i) (q i))))

abbrev pub found : ℕ → List ℕ → Option Spoken
found n s = find (λ t. english t.language) (strings n s)

-- i of k strings were looked at, and the next stands at the front
module _ (k i : ℕ) (s : List ℕ) (h : i < k) where
  next : found (k - i) s ≡ cond (english (string_at s).language) (Some (string_at s)) (found (k - (i + 1)) (drop (string_size s) s))
  next = let n : k - i ≡ suc (k - (i + 1)) = omega arith in ap (λ m. found m s) n

  pub here : {r : Option Spoken} → english (string_at s).language ≡ true → found (k - i) s ≡ r → Some (string_at s) ≡ r
  here e inv = sym (ap (λ b. cond b (Some (string_at s)) (found (k - (i + 1)) (drop (string_size s) s))) e) ∙ sym next ∙ inv

  pub further : {r : Option Spoken} → english (string_at s).language ≡ false → found (k - i) s ≡ r → found (k - (i + 1)) (drop (string_size s) s) ≡ r
  further e inv = sym (ap (λ b. cond b (Some (string_at s)) (found (k - (i + 1)) (drop (string_size s) s))) e) ∙ sym next ∙ inv
