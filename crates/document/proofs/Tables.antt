-- The table of a gathering holds the bag of fragments that were met. Assumes nothing.
use Rattle.std.proofs.Common.{◌≡◌, ℕ, ◌+◌, ◌-◌, ◌<◌, ◌≤◌, true, false, cond, not, ◌&&◌, ◌||◌, ltb, List, [], ◌∷◌, ◌++◌, length, get_or, take, drop, set, replicate, Some, None, Option, sym, refl, ap, ◌∙◌, subst, inl, inr, arith, length-take, length-drop}
use Rattle.std.specs.Option.{is_some}
use Rattle.std.proofs.lemmas.List.{append-nil, length_push, length-set, get_or-set_same, get_or-set_other, set-get_or, get_or-replicate, get_or_past, take_rest, drop-take, drop-drop}
use Rattle.std.proofs.lemmas.Bool.{cases_eq, cases_lt, ltb-false, or_parts}
use Rattle.std.proofs.lemmas.Bool.Decides.{nat_tests}
use mathlib.Core.Bool.{or-false, or-true}
use Rattle.document.specs.Descriptors.{Descriptor}
use Rattle.document.specs.Fragments.{Fragment, metadata, breaks, any_breaks, fragment_of, fragments_of, tally, repeats}
use Rattle.document.specs.Tables.{empty, bytes_at, Placed, Tabled}
use Rattle.document.specs.declared.slots.Place.{Place}
use Rattle.document.specs.declared.slots.Slot.{Slot}
use Rattle.document.specs.declared.slots.Gathering.{Gathering}
use Rattle.document.proofs.Walks.{front}
use Rattle.document.proofs.Bags.{breaks_more, fragments_more, tally_more, repeats_more, lookup_held, lookup_other, lookup_new}

blank : (k : ℕ) → get_or (replicate 256 empty) k empty ≡ empty
blank k =
    elim (cases_lt k 256) [
      | inl lt ↦ get_or-replicate 256 k empty empty lt
      | inr past ↦ get_or_past (replicate 256 empty) k empty past
    ]

pub tabled_none : (area : List ℕ) → Tabled area [] (record { slots = replicate 256 empty; count = 0; broken = false; twice = false })
tabled_none area = record { broken = refl; count = refl; twice = refl; table = refl; places = λ k. subst (Placed area [] k) (sym (blank k)) refl }

-- the same places, after a descriptor without a fragment
kept : (area : List ℕ) (fs gs : List Fragment) (k : ℕ) (s : Slot) → gs ≡ fs → Placed area fs k s → Placed area gs k s
kept area fs gs k s e h = subst (λ l. Placed area l k s) (sym e) h

pub tabled_other : (area : List ℕ) (ds : List Descriptor) (d : Descriptor) (g : Gathering) → metadata d ≡ false → Tabled area ds g → Tabled area (ds ++ d ∷ []) g
tabled_other area ds d g off h =
    let fs : fragments_of (ds ++ d ∷ []) ≡ fragments_of ds = fragments_more ds d ∙ (ap (λ b. fragments_of ds ++ cond (b && not (breaks d.body)) (fragment_of d.body ∷ []) []) off ∙ append-nil (fragments_of ds)) in
    let bs : any_breaks (ds ++ d ∷ []) ≡ any_breaks ds = breaks_more ds d ∙ (ap (λ b. any_breaks ds || (b && breaks d.body)) off ∙ or-false (any_breaks ds)) in
    record {
      broken = h.broken ∙ sym bs;
      count = h.count ∙ sym (ap length fs);
      twice = h.twice ∙ sym (ap repeats fs);
      table = h.table;
      places = λ k. kept area (fragments_of ds) (fragments_of (ds ++ d ∷ [])) k (get_or g.slots k empty) fs (h.places k);
    }

-- a fragment more: what stands at its place, and at the others
placed_new : (area : List ℕ) (fs : List Fragment) (f : Fragment) (p : Place) → bytes_at area p ≡ f.bytes → p.start + p.len ≤ length area → p.len < 256 → tally f.number fs ≡ 0 → Placed area (fs ++ f ∷ []) f.number (record { fragment = Some p })
placed_new area fs f p e inside short free =
    let t = tally_more f.number fs f in
    (grind (arith, nat_tests), e ∙ sym (lookup_new fs f free), inside, short)

placed_held : (area : List ℕ) (fs : List Fragment) (f : Fragment) (k : ℕ) (o : Option Place) → (tally k fs ≡ 0 → ⊥) → Placed area fs k (record { fragment = o }) → Placed area (fs ++ f ∷ []) k (record { fragment = o })
placed_held area fs f k None met h = absurd (met h)
placed_held area fs f k (Some p) met h =
    let t = tally_more k fs f in
    (grind (arith, nat_tests), h.1 ∙ sym (lookup_held k fs f met), h.2, h.3)

placed_other : (area : List ℕ) (fs : List Fragment) (f : Fragment) (k : ℕ) (o : Option Place) → (f.number ≡ k → ⊥) → Placed area fs k (record { fragment = o }) → Placed area (fs ++ f ∷ []) k (record { fragment = o })
placed_other area fs f k None apart h = let t = tally_more k fs f in grind (arith, nat_tests)
placed_other area fs f k (Some p) apart h =
    let t = tally_more k fs f in
    (grind (arith, nat_tests), h.1 ∙ sym (lookup_other k fs f apart), h.2, h.3)

placed_free : (area : List ℕ) (fs : List Fragment) (k : ℕ) (o : Option Place) → is_some o ≡ false → Placed area fs k (record { fragment = o }) → tally k fs ≡ 0
placed_free area fs k None e h = h
placed_free area fs k (Some p) e h = cc

placed_full : (area : List ℕ) (fs : List Fragment) (k : ℕ) (o : Option Place) → is_some o ≡ true → Placed area fs k (record { fragment = o }) → tally k fs ≡ 0 → ⊥
placed_full area fs k None e h z = let w : ◌≡◌ {A = ℕ} 0 1 = cc in omega arith
placed_full area fs k (Some p) e h z = h.0 z

-- a body that stands in the area: its end there, and its bytes after the number and the stated length
module _ (area body : List ℕ) (at : ℕ) (part : body ≡ take (length body) (drop at area)) (long : 3 ≤ length body) where
  body_within : at + 2 + (length body - 2) ≤ length area
  body_within = omega (arith, ap length part, length-take (length body) (drop at area), length-drop at area)

  body_bytes : take (length body - 2) (drop (at + 2) area) ≡ drop 2 body
  body_bytes =
      let n : ℕ = length body in
      let two : 2 + (n - 2) ≡ n = omega arith in
      ap (take (n - 2)) (sym (drop-drop 2 at area)) ∙ (sym (drop-take 2 (n - 2) (drop at area)) ∙ (ap (λ m. drop 2 (take m (drop at area))) two ∙ ap (drop 2) (sym part)))

-- a gathering takes in a metadata descriptor
module _ (area : List ℕ) (ds : List Descriptor) (body : List ℕ) (g : Gathering) (h : Tabled area ds g) where
  abbrev d : Descriptor
  d = record { tag = 3; body = body }

  abbrev f : Fragment
  f = fragment_of body

  abbrev fs : List Fragment
  fs = fragments_of ds

  pub met_broken : breaks body ≡ true → Tabled area (ds ++ d ∷ []) (record g { broken = true })
  met_broken b =
      let e : fragments_of (ds ++ d ∷ []) ≡ fs = fragments_more ds d ∙ (ap (λ x. fs ++ cond (not x) (f ∷ []) []) b ∙ append-nil fs) in
      let bs : any_breaks (ds ++ d ∷ []) ≡ true = breaks_more ds d ∙ (ap (λ x. any_breaks ds || x) b ∙ or-true (any_breaks ds)) in
      record {
        broken = sym bs;
        count = h.count ∙ sym (ap length e);
        twice = h.twice ∙ sym (ap repeats e);
        table = h.table;
        places = λ k. kept area fs (fragments_of (ds ++ d ∷ [])) k (get_or g.slots k empty) e (h.places k);
      }

  module _ (b : breaks body ≡ false) where
    pushed : fragments_of (ds ++ d ∷ []) ≡ fs ++ f ∷ []
    pushed = fragments_more ds d ∙ ap (λ x. fs ++ cond (not x) (f ∷ []) []) b

    unbroken : any_breaks (ds ++ d ∷ []) ≡ any_breaks ds
    unbroken = breaks_more ds d ∙ (ap (λ x. any_breaks ds || x) b ∙ or-false (any_breaks ds))

    counted : g.count + 1 ≡ length (fragments_of (ds ++ d ∷ []))
    counted = ap (λ n. n + 1) h.count ∙ sym (ap length pushed ∙ length_push fs f)

    -- the number is held already: its slot stays as it was
    pub met_again : (number : ℕ) → is_some (get_or g.slots (get_or body 0 0) empty).fragment ≡ true
        → Tabled area (ds ++ d ∷ []) (record g { slots = set g.slots number (get_or g.slots number empty); count = g.count + 1; twice = true })
    met_again number full =
        let held : (tally f.number fs ≡ 0 → ⊥) = placed_full area fs f.number (get_or g.slots f.number empty).fragment full (h.places f.number) in
        let r : repeats (fs ++ f ∷ []) ≡ true = repeats_more fs f ∙ grind (arith, nat_tests) in
        let each : (k : ℕ) → Placed area (fs ++ f ∷ []) k (get_or g.slots k empty) = λ k. elim (cases_eq f.number k) [
          | inl q ↦ placed_held area fs f k (get_or g.slots k empty).fragment (subst (λ n. tally n fs ≡ 0 → ⊥) q held) (h.places k)
          | inr apart ↦ placed_other area fs f k (get_or g.slots k empty).fragment apart (h.places k)
        ] in
        let made : Tabled area (ds ++ d ∷ []) (record g { count = g.count + 1; twice = true }) = record {
          broken = h.broken ∙ sym unbroken;
          count = counted;
          twice = sym (ap repeats pushed ∙ r);
          table = h.table;
          places = λ k. kept area (fs ++ f ∷ []) (fragments_of (ds ++ d ∷ [])) k (get_or g.slots k empty) pushed (each k);
        } in
        subst (λ t. Tabled area (ds ++ d ∷ []) (record g { slots = t; count = g.count + 1; twice = true })) (sym (set-get_or g.slots number empty)) made

    -- the number is new: its slot takes the place of the fragment
    pub met_new : (at : ℕ) {number : ℕ} → number ≡ get_or body 0 0 → body ≡ take (length body) (drop at area) → length body < 256 → get_or body 0 0 < 256 → is_some (get_or g.slots (get_or body 0 0) empty).fragment ≡ false
        → Tabled area (ds ++ d ∷ []) (record g { slots = set g.slots number (record { fragment = Some (record { start = at + 2; len = length body - 2 }) }); count = g.count + 1 })
    met_new at is part short byte free =
        let p : Place = record { start = at + 2; len = length body - 2 } in
        let s : Slot = record { fragment = Some p } in
        let long : 3 ≤ length body = ltb-false (length body) 3 (or_parts (ltb (length body) 3) _ b).0 in
        let e : bytes_at area p ≡ drop 2 body = body_bytes area body at part long in
        let zero-tally : tally f.number fs ≡ 0 = placed_free area fs f.number (get_or g.slots f.number empty).fragment free (h.places f.number) in
        let r : repeats (fs ++ f ∷ []) ≡ repeats fs = repeats_more fs f ∙ (ap (λ n. repeats fs || ltb 0 n) zero-tally ∙ or-false (repeats fs)) in
        let small : length body - 2 < 256 = omega arith in
        let new : Placed area (fs ++ f ∷ []) f.number s = placed_new area fs f p e (body_within area body at part long) small zero-tally in
        let inside : f.number < length g.slots = omega (arith, h.table) in
        let each : (k : ℕ) → Placed area (fs ++ f ∷ []) k (get_or (set g.slots f.number s) k empty) = λ k. elim (cases_eq k f.number) [
          | inl q ↦ subst (λ n. Placed area (fs ++ f ∷ []) n (get_or (set g.slots f.number s) n empty)) (sym q) (subst (Placed area (fs ++ f ∷ []) f.number) (sym (get_or-set_same g.slots f.number s empty inside)) new)
          | inr apart ↦ subst (Placed area (fs ++ f ∷ []) k) (sym (get_or-set_other g.slots f.number k s empty apart)) (placed_other area fs f k (get_or g.slots k empty).fragment (λ q. apart (sym q)) (h.places k))
        ] in
        let made : Tabled area (ds ++ d ∷ []) (record g { slots = set g.slots f.number s; count = g.count + 1 }) = record {
          broken = h.broken ∙ sym unbroken;
          count = counted;
          twice = h.twice ∙ sym (ap repeats pushed ∙ r);
          table = length-set g.slots f.number s ∙ h.table;
          places = λ k. kept area (fs ++ f ∷ []) (fragments_of (ds ++ d ∷ [])) k (get_or (set g.slots f.number s) k empty) pushed (each k);
        } in
        subst (λ n. Tabled area (ds ++ d ∷ []) (record g { slots = set g.slots n s; count = g.count + 1 })) (sym is) made

-- the descriptor in front of some bytes is the one whose body was split off
pub tabled_front : (area : List ℕ) (ds : List Descriptor) (g : Gathering) (bs body : List ℕ) → get_or bs 0 0 ≡ 3 → body ≡ take (get_or bs 1 0) (take (length bs - 2) (drop 2 bs)) → Tabled area (ds ++ record { tag = 3; body = body } ∷ []) g → Tabled area (ds ++ front bs ∷ []) g
tabled_front area ds g bs body t b h =
    let e : body ≡ take (get_or bs 1 0) (drop 2 bs) = b ∙ ap (take (get_or bs 1 0)) (take_rest bs 2) in
    subst (λ n. Tabled area (ds ++ record { tag = n; body = take (get_or bs 1 0) (drop 2 bs) } ∷ []) g) (sym t) (subst (λ x. Tabled area (ds ++ record { tag = 3; body = x } ∷ []) g) e h)
