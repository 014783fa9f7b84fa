-- One descriptor more in a walk, and where a walk stops. Assumes nothing.
use Rattle.std.proofs.Common.{◌≡◌, ℕ, zero, suc, ◌+◌, ◌-◌, ◌<◌, ◌≤◌, leb, true, false, List, [], ◌∷◌, ◌++◌, ◌==◌, length, get_or, take, drop, MatchOption, IfSome, refl, sym, ap, subst, ◌∙◌, arith, length-take, length-drop}
use Rattle.std.proofs.lemmas.List.{append-nil, append_assoc, take_rest, drop-drop}
use Rattle.std.proofs.lemmas.Bool.{le-leb, lt-leb, ne_eqb}
use Rattle.std.specs.Bool.{then_some}
use Rattle.document.specs.Descriptors.{Descriptor, Walked, first, walked_in, ended}

-- descriptors in front of what a walk meets
abbrev pub before : List Descriptor → Walked → Walked
before ds w = record { whole = ds ++ w.whole; torn = w.torn }

-- the descriptor in front of some bytes, and the bytes after it
abbrev pub front : List ℕ → Descriptor
front bs = record { tag = get_or bs 0 0; body = take (get_or bs 1 0) (drop 2 bs) }

abbrev pub after : List ℕ → List ℕ
after bs = drop (get_or bs 1 0) (drop 2 bs)

-- where a walk goes on, with those that it met
met_more : (ds : List Descriptor) (d : Descriptor) (w : Walked) → before ds (first d w) ≡ before (ds ++ d ∷ []) w
met_more ds d w = ap (λ l. record { whole = l; torn = w.torn }) (sym (append_assoc ds (d ∷ []) w.whole))

step : (n : ℕ) (bs : List ℕ) → 2 ≤ length bs → length bs ≤ n → get_or bs 1 0 ≤ length (drop 2 bs) → (m : ℕ) × (length (after bs) ≤ m) × (walked_in n bs ≡ first (front bs) (walked_in m (after bs)))
step zero bs two k e = absurd (omega arith)
step (suc n) [] two k e = absurd (omega arith)
step (suc n) (t ∷ []) two k e = absurd (omega arith)
step (suc n) (t ∷ (l ∷ rest)) two k e = (n, omega (arith, length-drop l rest), rw (le-leb l (length rest) e))

-- the walk goes on in the bytes after a descriptor that are split off
pub walk_on : (ds : List Descriptor) (n : ℕ) (w : Walked) (bs next : List ℕ) → 2 ≤ length bs → length bs ≤ n → w ≡ before ds (walked_in n bs)
    → get_or bs 1 0 ≤ length (take (length bs - 2) (drop 2 bs)) → next ≡ drop (get_or bs 1 0) (take (length bs - 2) (drop 2 bs))
    → (m : ℕ) × (length next ≤ m) × (w ≡ before (ds ++ front bs ∷ []) (walked_in m next)) × (length next + 2 ≤ length bs)
walk_on ds n w bs next two k h within is =
    let all = take_rest bs 2 in
    let e : next ≡ after bs = is ∙ ap (drop (get_or bs 1 0)) all in
    let m = step n bs two k (omega (arith, ap length all)) in (
      m.0,
      omega (arith, ap length e, m.1),
      h ∙ (ap (before ds) m.2 ∙ (met_more ds (front bs) (walked_in m.0 (after bs)) ∙ ap (λ b. before (ds ++ front bs ∷ []) (walked_in m.0 b)) (sym e))),
      omega (arith, ap length e, length-drop (get_or bs 1 0) (drop 2 bs), length-drop 2 bs),
    )

-- a walk that has no bytes left met all that there is
pub walk_done : (ds : List Descriptor) (n : ℕ) (w : Walked) (bs : List ℕ) → length bs ≡ 0 → w ≡ before ds (walked_in n bs) → w ≡ record { whole = ds; torn = [] }
walk_done ds zero w [] z h = h ∙ rw (append-nil ds)
walk_done ds (suc n) w [] z h = h ∙ rw (append-nil ds)
walk_done ds n w (b ∷ bs) z h = absurd (omega arith)

-- a walk that stops before one byte or none gives what it met if none is left
pub walk_ends : (T : List Descriptor → Type 0) (ds : List Descriptor) (n : ℕ) (w : Walked) (bs : List ℕ) → length bs ≤ 1 → length bs ≤ n → w ≡ before ds (walked_in n bs) → T ds
    → MatchOption (then_some (length bs == 0) (tt {0})) (ended w ≡ false) (λ _. ended w ≡ true) × IfSome (then_some (length bs == 0) (tt {0})) (λ _. T w.whole)
walk_ends T ds n w [] k m h t =
    let e = walk_done ds n w [] refl h in
    (ap ended e, subst (λ (x : Walked). T x.whole) (sym e) t)
walk_ends T ds zero w (b ∷ []) k m h t = absurd (omega arith)
walk_ends T ds (suc n) w (b ∷ []) k m h t = (ap ended h, tt)
walk_ends T ds n w (b ∷ (a ∷ bs)) k m h t = absurd (omega arith)

-- a walk that comes to a descriptor longer than the bytes left
pub walk_torn : (ds : List Descriptor) (n : ℕ) (w : Walked) (bs : List ℕ) → 2 ≤ length bs → length bs ≤ n → w ≡ before ds (walked_in n bs)
    → length (take (length bs - 2) (drop 2 bs)) < get_or bs 1 0 → ended w ≡ false
walk_torn ds n w [] two k h past = absurd (omega arith)
walk_torn ds n w (t ∷ []) two k h past = absurd (omega arith)
walk_torn ds zero w (t ∷ (l ∷ rest)) two k h past = absurd (omega arith)
walk_torn ds (suc n) w (t ∷ (l ∷ rest)) two k h past =
    let all = ap length (take_rest (t ∷ (l ∷ rest)) 2) in
    let cut : leb l (length rest) ≡ false = lt-leb l (length rest) (omega (arith, all)) in
    ap ended h ∙ rw cut (ne_eqb (suc (suc (length rest))) 0 (λ z. omega (arith, z)))

-- the bytes left are the end of the area, and so are those after a descriptor, whose body stands in the area
module _ (area bs : List ℕ) (end : bs ≡ drop (length area - length bs) area) (two : 2 ≤ length bs) (low : length bs ≤ length area) (l : ℕ) (within : l ≤ length (take (length bs - 2) (drop 2 bs))) where
  abbrev past : List ℕ
  past = take (length bs - 2) (drop 2 bs)

  past_end : past ≡ drop (length area - length bs + 2) area
  past_end = take_rest bs 2 ∙ (ap (drop 2) end ∙ drop-drop 2 (length area - length bs) area)

  pub end_still : (next : List ℕ) → next ≡ drop l past → next ≡ drop (length area - length next) area
  end_still next is =
      let n : length area - length bs + 2 + l ≡ length area - length next = omega (arith, ap length is, length-drop l past, ap length (take_rest bs 2), length-drop 2 bs) in
      is ∙ (ap (drop l) past_end ∙ (drop-drop l (length area - length bs + 2) area ∙ ap (λ m. drop m area) n))

  pub body_stands : (body : List ℕ) → body ≡ take l past → body ≡ take (length body) (drop (length area - length past) area)
  body_stands body is =
      let n : length area - length bs + 2 ≡ length area - length past = omega (arith, ap length (take_rest bs 2), length-drop 2 bs) in
      let m : l ≡ length body = omega (arith, ap length is, length-take l past) in
      is ∙ (ap (take l) (past_end ∙ ap (λ k. drop k area) n) ∙ ap (λ k. take k (drop (length area - length past) area)) m)
