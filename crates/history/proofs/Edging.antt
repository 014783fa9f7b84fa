-- The cases at the edges. Assumes nothing.
use Rattle.std.proofs.Common.{◌≡◌, ℕ, ◌<◌, ◌≤◌, true, ◌&&◌, eqb, List, [], ◌∷◌, ◌++◌, length, Some, None, Ok, Decides, Option, sym, refl, ap, ◌∙◌, subst, ⊎_elim, append_assoc, arith}
use lib.Utf8.{encode}
use Rattle.std.proofs.lemmas.Bool.{and_parts, and_from, eqb-true, eq-eqb}
use Rattle.station.specs.declared.place.Place.{Place}
use Rattle.station.specs.declared.service.Path.TheVariants.{InBand, OutOfBand}
use Rattle.station.specs.declared.service.Service.{Service}
use Rattle.entries.specs.Exceptions.{names_tuned}
use Rattle.entries.specs.Locations.{agree, names_place}
use Rattle.text.specs.Reading.{character, text_of}
use Rattle.decision.specs.Alerts.{end_of}
use Rattle.document.specs.Document.{document_of}
use Rattle.history.specs.Histories.{Event, sent, told, Start, event_at, clock_after}
use Rattle.history.specs.Sections.{seconds, Taken}
use Rattle.history.specs.Forces.{Past, end_at, AlertInForce}
use Rattle.history.specs.Edges.{EdgeCases}
use Rattle.history.proofs.Positions.{long, take_new, event_old, event_new, latest_new, latest_keep, latest_back, latest_one, clock_stays, timeless_sent}
use Rattle.history.proofs.Endings.{ended_back, ended_now}

county : (p : Place) → Decides (names_place (0x06 ∷ 0x0C ∷ 0x25 ∷ []) p) ((p.state ≡ 6) × (p.county ≡ 37))
county p = (
  λ e. let q = and_parts (eqb 6 p.state) (eqb 37 p.county && true) e in
      let r = and_parts (eqb 37 p.county) true q.1 in
      (sym (eqb-true 6 p.state q.0), sym (eqb-true 37 p.county r.0)),
  λ e. and_from (eqb 6 p.state) (eqb 37 p.county && true) (eq-eqb 6 p.state (sym e.0)) (and_from (eqb 37 p.county) true (eq-eqb 37 p.county (sym e.1)) refl),
)

part : (p : Place) (n : ℕ) → p.state ≡ 6 → p.county ≡ 37 → p.part ≡ n → names_place (0x06 ∷ 0x5C ∷ 0x25 ∷ []) p ≡ agree 5 n
part p n a b c = λ i. eqb 6 (a i) && (eqb 37 (b i) && agree 5 (c i))

channel : (s : Service) → Decides (names_tuned (0xFF ∷ 0xFC ∷ 0x0C ∷ 0xFC ∷ 0x01 ∷ []) (record { service = s; path = InBand })) ((s.channel.major ≡ 12) × (s.channel.minor ≡ 1))
channel s = (
  λ e. let q = and_parts (eqb 12 s.channel.major) (eqb 1 s.channel.minor) e in (sym (eqb-true 12 s.channel.major q.0), sym (eqb-true 1 s.channel.minor q.1)),
  λ e. and_from (eqb 12 s.channel.major) (eqb 1 s.channel.minor) (eq-eqb 12 s.channel.major (sym e.0)) (eq-eqb 1 s.channel.minor (sym e.1)),
)

source : (s : Service) → Decides (names_tuned (0x7F ∷ 0xFF ∷ 0xFF ∷ 0x01 ∷ 0x00 ∷ []) (record { service = s; path = OutOfBand })) (s.source.0 ≡ 256)
source s = (λ e. sym (eqb-true 256 s.source.0 e), λ e. eq-eqb 256 s.source.0 (sym e))

text : text_of (0x01 ∷ 0x65 ∷ 0x6E ∷ 0x67 ∷ 0x01 ∷ 0x00 ∷ 0x00 ∷ 0x02 ∷ 0x4F ∷ 0x4B ∷ []) ≡ 0x4F ∷ 0x4B ∷ []
unfolding text_of encode
text = refl

document : document_of (0x03 ∷ 0x04 ∷ 0x01 ∷ 0x02 ∷ 0x3C ∷ 0x61 ∷ []) ≡ Ok (0x3C ∷ 0x61 ∷ [])
unfolding document_of
document = refl

mode : character 4 0x10 ≡ 0xD0 ∷ 0x90 ∷ []
unfolding encode
mode = refl

-- a section that was just taken, and a granted reading after it
module _ (s : Start) (h : List Event) (bytes : List ℕ) (t : Taken s.place h (sent bytes)) (n : ℕ) where
  end_here : (clock wait : ℕ) → clock_after s.clock h ≡ clock → seconds bytes ≡ wait → end_at s (h ++ sent bytes ∷ []) (length h) bytes ≡ end_of clock wait
  end_here clock wait c w =
      ap (λ (x : List Event). end_of (clock_after s.clock x) (seconds bytes)) (take_new h (sent bytes)) ∙ (λ i. end_of (c i) (w i))

  inside : length h < length (h ++ sent bytes ∷ [])
  inside = let k = long h (sent bytes) in omega arith

  joined : (o : Option (List ℕ)) → AlertInForce s ((h ++ sent bytes ∷ []) ++ told n ∷ []) o → AlertInForce s (h ++ sent bytes ∷ told n ∷ []) o
  joined o = subst (λ (z : List Event). AlertInForce s z o) (append_assoc h (sent bytes ∷ []) (told n ∷ []))

  kept : (Past (end_at s (h ++ sent bytes ∷ []) (length h) bytes) n → ⊥) → AlertInForce s (h ++ sent bytes ∷ told n ∷ []) (Some bytes)
  kept lasts =
      joined (Some bytes) (
        length h,
        latest_keep (Taken s.place) (h ++ sent bytes ∷ []) (told n) (λ z. z) (length h) (latest_new (Taken s.place) h (sent bytes) t),
        event_old (h ++ sent bytes ∷ []) (told n) (length h) inside ∙ event_new h (sent bytes),
        λ d. ⊎_elim
            (λ e. let k = long h (sent bytes) in let l = e.later in let w = e.within in omega arith)
            (λ e. let same : told n ≡ told e.reading = e.read in let q : e.reading ≡ n = cc in lasts (subst (λ (j : ℕ). Past (end_at s (h ++ sent bytes ∷ []) (length h) bytes) j) q e.past))
            (ended_back s (h ++ sent bytes ∷ []) (told n) (length h) bytes inside d),
      )

  removed : clock_after s.clock (h ++ sent bytes ∷ []) ≤ n → Past (end_at s (h ++ sent bytes ∷ []) (length h) bytes) n → AlertInForce s (h ++ sent bytes ∷ told n ∷ []) None
  removed granted past =
      joined None (λ i more l is.
      let b = latest_back (Taken s.place) (h ++ sent bytes ∷ []) (told n) (λ z. z) i l in
      let one = latest_one (Taken s.place) (h ++ sent bytes ∷ []) i (length h) b (latest_new (Taken s.place) h (sent bytes) t) in
      let same : sent more ≡ sent bytes = sym is ∙ event_old (h ++ sent bytes ∷ []) (told n) i b.within ∙ ap (event_at (h ++ sent bytes ∷ [])) one ∙ event_new h (sent bytes) in
      let eq : more ≡ bytes = cc in
      ended_now s (h ++ sent bytes ∷ []) (told n) i more b.within
      (record {
        reading = n;
        read = refl;
        granted = granted;
        past = subst (λ (z : List ℕ). Past (end_at s (h ++ sent bytes ∷ []) i z) n) (sym eq) (subst (λ (j : ℕ). Past (end_at s (h ++ sent bytes ∷ []) j bytes) n) (sym one) past);
      }))

pub edge_cases : EdgeCases
edge_cases =
    record {
      a_county = county;
      part_5 = λ p a b c. part p 5 a b c;
      part_unknown = λ p a b c. part p 0 a b c;
      part_4 = λ p a b c. part p 4 a b c;
      everywhere = λ p. refl;
      a_channel = channel;
      no_channel_out_of_band = λ s. refl;
      a_source = source;
      no_source_in_band = λ s. refl;
      a_field = refl;
      a_text = text;
      a_mode = mode;
      a_fragment = refl;
      a_document = document;
      kept_before_its_end = λ s h bytes t c w. kept s h bytes t 119 (λ past. let z : Past (Some 120) 119 = subst (λ (o : Option ℕ). Past o 119) (end_here s h bytes t 119 100 20 c w) past in omega arith);
      removed_at_its_end = λ s h bytes t c w.
          removed s h bytes t 120 (let k = clock_stays s.clock h (sent bytes) (timeless_sent bytes) in omega arith)
          (subst (λ (o : Option ℕ). Past o 120) (sym (end_here s h bytes t 120 100 20 c w)) (omega arith));
    }
