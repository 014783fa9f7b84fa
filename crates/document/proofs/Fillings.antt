-- A document put into the output buffer, or not, answers a filling. Assumes nothing.
use Rattle.std.proofs.Common.{◌≡◌, ℕ, ◌<◌, ◌≤◌, List, length, take, Some, None, Ok, Err, Result, refl, arith}
use Rattle.std.proofs.lemmas.Bool.{le-leb, lt-leb}
use Rattle.document.specs.Filling.{Fills}
use Rattle.document.specs.Placeholder.{Puts, inserted}
use Rattle.document.specs.declared.moved.Gathered.{Gathered}
use Rattle.document.specs.declared.moved.Filled.{Filled}
use Rattle.document.specs.declared.moved.Unfilled.{Unfilled}
use Rattle.document.specs.declared.unfilled.FillRefusal.TheVariants.{Words, Short}
use Rattle.document.proofs.Deliveries.{filled_for}

module _ (g : Gathered) (work words before : List ℕ) where
  pub wordy : 1024 < length words → Fills g work words before (Err (record { refusal = Words; gathered = g })) before
  wordy h =
      let f = filled_for (take g.size work) words in
      (f.0, f.1, rw (lt-leb (length words) 1024 h), refl, refl)

  module _ (brief : length words ≤ 1024) where
    pub cut : length work < g.size → Fills g work words before (Err (record { refusal = Short; gathered = g })) before
    cut h =
        let f = filled_for (take g.size work) words in
        (f.0, f.1, rw (le-leb (length words) 1024 brief, lt-leb g.size (length work) h), refl, refl)

    -- what is answered of a document that was put, or of one that did not fit
    abbrev pub PutSo : Result Filled Unfilled → List ℕ → Type 0
    PutSo (Ok f) after = Puts (take g.size work) words before (Some f.size) after
    PutSo (Err e) after = (e.gathered ≡ g) × (e.refusal ≡ Short) × Puts (take g.size work) words before None after

    pub put : g.size ≤ length work → (r : Result Filled Unfilled) (after : List ℕ) → PutSo r after → Fills g work words before r after
    put h (Ok f) after p =
        let doc : List ℕ = inserted (take g.size work) words p.0 in
        (doc, (p.0, p.1.0, refl), rw (le-leb (length words) 1024 brief, le-leb g.size (length work) h, le-leb (length doc) (length before) (omega (arith, p.1.1, p.1.2))), p.1.1, cc)
    put h (Err e) after p =
        let doc : List ℕ = inserted (take g.size work) words p.2.0 in
        (doc, (p.2.0, p.2.1.0, refl), rw (le-leb (length words) 1024 brief, le-leb g.size (length work) h, lt-leb (length doc) (length before) p.2.1.1, p.1), p.0, p.2.1.2)
