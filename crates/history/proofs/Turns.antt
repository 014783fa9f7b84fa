-- What one call more does to a receiver and its set. Assumes nothing.
use Rattle.std.proofs.Common.{◌≡◌, ℕ, ◌<◌, ◌≤◌, ◌⊎◌, List, [], ◌∷◌, ◌++◌, length, Some, None, Ok, Option, sym, refl, ap, ◌∙◌, subst, inl, inr, ⊎_elim, arith}
use Rattle.std.proofs.lemmas.Bool.{cases_lt}
use Rattle.station.specs.declared.service.Path.{Path}
use Rattle.station.specs.declared.service.Service.{Service}
use Rattle.section.specs.Rules.{refusal}
use Rattle.section.specs.Values.{fields_of}
use Rattle.section.specs.declared.fields.SequenceNumber.{SequenceNumber}
use Rattle.sets.specs.Meaning.{Meaning, Lawful, plain, count_of}
use Rattle.decision.specs.Alerts.{Keeps}
use Rattle.decision.specs.Fits.{Fits, AllFits}
use Rattle.decision.specs.Pictures.{pictured}
use Rattle.decision.specs.Sentences.{Sentences}
use Rattle.decision.specs.declared.alert.Alert.{Alert}
use Rattle.decision.proofs.Said.{says}
use Rattle.calls.specs.Verdicts.{alone}
use Rattle.history.specs.Histories.{Event, sent, told, chose, Start, clock_after}
use Rattle.history.specs.Sections.{WellFormed, Taken}
use Rattle.history.specs.Viewers.{Chosen}
use Rattle.history.specs.Forces.{Past}
use Rattle.history.specs.Screens.{Screen}
use Rattle.history.specs.Law.{Law}
use Rattle.history.specs.Replies.{Due, is_read, is_early, is_chosen, is_past_the_list}
use Rattle.history.specs.Stands.{Remembered, Held, Stands}
use Rattle.history.specs.Sheet.{noted, alerted, chosen, timed, cleared, Over, Advances, Selects, Moves}
use Rattle.history.specs.declared.state.State.{State}
use Rattle.history.proofs.Positions.{clock_told, clock_stays, timeless_sent, timeless_chose}
use Rattle.history.proofs.Screening.{screen_of_kept, screen_of_none}
use Rattle.history.proofs.Steps.{home_keep, home_new, home_inside, last_keep, last_new, Lasts, held_keep, held_over, held_new, forced}

ill : (bytes : List ℕ) (e : ℕ) → refusal bytes ≡ Some e → refusal bytes ≡ None → ⊥
ill bytes e p q = let r : Some e ≡ None = sym p ∙ q in let z : ◌≡◌ {A = ℕ} 0 1 = cc in omega arith

over_or_not : (o : Option Alert) (n : ℕ) → Over o n ⊎ (Over o n → ⊥)
over_or_not None n = inr (λ z. z)
over_or_not (Some a) n = by a.end
  where
    by : (end : Option ℕ) → Past end n ⊎ (Past end n → ⊥)
    by None = inr (λ z. z)
    by (Some end) = ⊎_elim (λ l. inr (λ z. omega arith)) inl (cases_lt n end)

-- a receiver that began
pub begun : (s : Start) (st : State) (m : Meaning) → Lawful s.found → st.place ≡ s.place → st.path ≡ s.path → st.clock ≡ s.clock → st.home ≡ s.found.shown → st.last ≡ None → st.alert ≡ None → m ≡ plain s.found.services s.found.shown → Stands s [] st m
unfolding pictured
begun s st m ok place path clock home last alert set =
    record {
      lawful = ok;
      place = place;
      path = path;
      clock = clock;
      home = inr ((λ j l. absurd (omega arith)), home);
      last = subst (Remembered []) (sym last) (λ j l. absurd (omega arith));
      section = None;
      held = subst (λ (o : Option Alert). Held s [] o None) (sym alert) (λ i bytes l. absurd (let w = l.within in omega arith));
      fits = subst (AllFits s.found.services) (sym alert) tt;
      set = set ∙ ap (λ (k : ℕ). plain s.found.services k) (sym home) ∙ ap (λ (o : Option Alert). pictured o s.found.services st.home) (sym alert);
    }

module _ (s : Start) (h : List Event) (st : State) (m : Meaning) (x : Stands s h st m) where
  pub same_services : m.services ≡ s.found.services
  same_services = ap (λ (y : Meaning). y.services) x.set ∙ (says st.alert s.found.services st.home).services

  -- the set after it was moved to the next sheet
  moved : (next : State) (after : Meaning) → next.home < count_of s.found → AllFits s.found.services next.alert → Moves m st next after → after ≡ pictured next.alert s.found.services next.home
  moved next after inside fits moves =
      subst (λ (ss : List Service). m ≡ pictured st.alert ss st.home → next.home < length ss → AllFits ss next.alert → after ≡ pictured next.alert ss next.home) same_services moves
      x.set inside fits

  -- a call that changes nothing
  quiet : (e : Event) → (WellFormed h e → ⊥) → (Taken s.place h e → ⊥) → (Chosen (count_of s.found) h e → ⊥) → clock_after s.clock (h ++ e ∷ []) ≡ clock_after s.clock h → Lasts s h e st.alert → Stands s (h ++ e ∷ []) st m
  quiet e no-section no-alert no-choice clock lasts =
      record {
        lawful = x.lawful;
        place = x.place;
        path = x.path;
        clock = x.clock ∙ sym clock;
        home = home_keep s h e st.home no-choice x.home;
        last = last_keep h e st.last no-section x.last;
        section = x.section;
        held = held_keep s h e st.alert x.section no-alert lasts x.held;
        fits = x.fits;
        set = x.set;
      }

  pub refused_reading : (n : ℕ) → n < st.clock → Stands s (h ++ told n ∷ []) st m × Due s h (alone 31) (told n)
  refused_reading n l =
      let c = x.clock in
      let k = clock_told s.clock h n in
      (quiet (told n) (λ z. z) (λ z. z) (λ z. z) (omega arith) (λ j is granted over. let q : n ≡ j = cc in omega arith), is_early n (omega arith) refl)

  pub refused_choice : (n : ℕ) → count_of m ≤ n → Stands s (h ++ chose n ∷ []) st m × Due s h (alone 32) (chose n)
  refused_choice n l =
      let past : count_of s.found ≤ n = subst (λ (ss : List Service). length ss ≤ n) same_services l in
      (quiet (chose n) (λ z. z) (λ z. z) (λ granted. omega arith) (clock_stays s.clock h (chose n) (timeless_chose n)) (λ j is granted over. timeless_chose n j is), is_past_the_list n past refl)

  pub refused_section : (bytes : List ℕ) (e : ℕ) → refusal bytes ≡ Some e → Stands s (h ++ sent bytes ∷ []) st m
  refused_section bytes e is =
      quiet (sent bytes) (ill bytes e is) (λ t. ill bytes e is t.0) (λ z. z) (clock_stays s.clock h (sent bytes) (timeless_sent bytes)) (λ j q granted over. timeless_sent bytes j q)

  -- a well-formed section that is not taken, with its sequence number for the last one
  pub passed : (bytes : List ℕ) (last : Option SequenceNumber) → refusal bytes ≡ None → (Taken s.place h (sent bytes) → ⊥) → last ≡ Some (fields_of bytes).sequence → Stands s (h ++ sent bytes ∷ []) (record { place = st.place; path = st.path; clock = st.clock; home = st.home; last = last; alert = st.alert }) m
  passed bytes last ok no-alert q =
      let e = sent bytes in
      record {
        lawful = x.lawful;
        place = x.place;
        path = x.path;
        clock = x.clock ∙ sym (clock_stays s.clock h e (timeless_sent bytes));
        home = home_keep s h e st.home (λ z. z) x.home;
        last = subst (Remembered (h ++ e ∷ [])) (sym q) (last_new h bytes ok);
        section = x.section;
        held = held_keep s h e st.alert x.section no-alert (λ j is granted over. timeless_sent bytes j is) x.held;
        fits = x.fits;
        set = x.set;
      }

  -- a section that comes into force
  pub taken : (bytes : List ℕ) (a : Alert) (after : Meaning) → Taken s.place h (sent bytes) → Keeps bytes m.services st.path st.clock a → Fits m.services a → Moves m st (alerted (noted st (fields_of bytes).sequence) a) after → Stands s (h ++ sent bytes ∷ []) (alerted (noted st (fields_of bytes).sequence) a) after
  taken bytes a after t keeps fits moves =
      let e = sent bytes in
      let inside = home_inside s h st.home x.lawful x.home in
      let kept : Keeps bytes s.found.services s.path (clock_after s.clock h) a =
      subst (λ (ss : List Service). Keeps bytes ss s.path (clock_after s.clock h) a) same_services
      (subst (λ (p : Path). Keeps bytes m.services p (clock_after s.clock h) a) x.path (subst (λ (c : ℕ). Keeps bytes m.services st.path c a) x.clock keeps)) in
      let fit : Fits s.found.services a = subst (λ (ss : List Service). Fits ss a) same_services fits in
      record {
        lawful = x.lawful;
        place = x.place;
        path = x.path;
        clock = x.clock ∙ sym (clock_stays s.clock h e (timeless_sent bytes));
        home = home_keep s h e st.home (λ z. z) x.home;
        last = last_new h bytes t.0;
        section = Some bytes;
        held = held_new s h bytes a t kept;
        fits = fit;
        set = moved (alerted (noted st (fields_of bytes).sequence) a) after inside fit moves;
      }

  choosing : (n : ℕ) (after : Meaning) → n < count_of m → Moves m st (chosen st n) after → Stands s (h ++ chose n ∷ []) (chosen st n) after × Due s h (alone 0) (chose n)
  choosing n after l moves =
      let e = chose n in
      let inside : n < count_of s.found = subst (λ (ss : List Service). n < length ss) same_services l in (
        record {
          lawful = x.lawful;
          place = x.place;
          path = x.path;
          clock = x.clock ∙ sym (clock_stays s.clock h e (timeless_chose n));
          home = home_new s h n inside;
          last = last_keep h e st.last (λ z. z) x.last;
          section = x.section;
          held = held_keep s h e st.alert x.section (λ z. z) (λ j is granted over. timeless_chose n j is) x.held;
          fits = x.fits;
          set = moved (chosen st n) after inside x.fits moves;
        },
        is_chosen n inside refl,
      )

  pub granted_choice : (n : ℕ) (next : State) (after : Meaning) → Selects st (count_of m) n (Ok next) → Moves m st next after → Stands s (h ++ chose n ∷ []) next after × Due s h (alone 0) (chose n)
  granted_choice n next after a moves =
      subst (λ (y : State). Stands s (h ++ chose n ∷ []) y after × Due s h (alone 0) (chose n)) (sym a.1) (choosing n after a.0 (subst (λ (y : State). Moves m st y after) a.1 moves))

  -- a granted reading before the end of the alert kept, and at or past it
  lasting_reading : (n : ℕ) (after : Meaning) → st.clock ≤ n → (Over st.alert n → ⊥) → Moves m st (timed st n) after → Stands s (h ++ told n ∷ []) (timed st n) after × Due s h (alone 0) (told n)
  lasting_reading n after l lasts moves =
      let e = told n in
      let c = x.clock in
      let k = clock_told s.clock h n in
      let inside = home_inside s h st.home x.lawful x.home in (
        record {
          lawful = x.lawful;
          place = x.place;
          path = x.path;
          clock = omega arith;
          home = home_keep s h e st.home (λ z. z) x.home;
          last = last_keep h e st.last (λ z. z) x.last;
          section = x.section;
          held = held_keep s h e st.alert x.section (λ z. z) (λ j is granted over. let q : j ≡ n = cc in lasts (subst (Over st.alert) q over)) x.held;
          fits = x.fits;
          set = moved (timed st n) after inside x.fits moves;
        },
        is_read n (omega arith) refl,
      )

  ending_reading : (n : ℕ) (after : Meaning) → st.clock ≤ n → Over st.alert n → Moves m st (cleared st n) after → Stands s (h ++ told n ∷ []) (cleared st n) after × Due s h (alone 0) (told n)
  ending_reading n after l over moves =
      let e = told n in
      let c = x.clock in
      let k = clock_told s.clock h n in
      let granted : clock_after s.clock h ≤ n = omega arith in
      let inside = home_inside s h st.home x.lawful x.home in (
        record {
          lawful = x.lawful;
          place = x.place;
          path = x.path;
          clock = omega arith;
          home = home_keep s h e st.home (λ z. z) x.home;
          last = last_keep h e st.last (λ z. z) x.last;
          section = None;
          held = held_over s h n st.alert x.section granted over x.held;
          fits = tt;
          set = moved (cleared st n) after inside tt moves;
        },
        is_read n granted refl,
      )

  pub granted_reading : (n : ℕ) (next : State) (after : Meaning) → Advances st n (Ok next) → Moves m st next after → Stands s (h ++ told n ∷ []) next after × Due s h (alone 0) (told n)
  granted_reading n next after a moves =
      ⊎_elim
      (λ over. let is = a.1 over in
      subst (λ (y : State). Stands s (h ++ told n ∷ []) y after × Due s h (alone 0) (told n)) (sym is) (ending_reading n after a.0 over (subst (λ (y : State). Moves m st y after) is moves)))
      (λ lasts. let is = a.2 lasts in
      subst (λ (y : State). Stands s (h ++ told n ∷ []) y after × Due s h (alone 0) (told n)) (sym is) (lasting_reading n after a.0 lasts (subst (λ (y : State). Moves m st y after) is moves)))
      (over_or_not st.alert n)

  -- the law of the run
  screened : (o : Option Alert) (section : Option (List ℕ)) → Held s h o section → Sentences o s.found.services st.home m → Screen s section st.home m
  screened None None held w = screen_of_none s st.home m w
  screened None (Some bytes) held w = absurd held
  screened (Some a) None held w = absurd held
  screened (Some a) (Some bytes) held w =
      let l = home_inside s h st.home x.lawful x.home in
      let few = x.lawful.few in
      screen_of_kept s bytes _ a st.home m held.1.keeps (omega arith) w

  pub lawful_run : Law s h m
  lawful_run =
      record {
        home = st.home;
        alert = x.section;
        chosen = x.home;
        in_force = forced s h st.alert x.section x.held;
        screen = screened st.alert x.section x.held (subst (λ (y : Meaning). Sentences st.alert s.found.services st.home y) (sym x.set) (says st.alert s.found.services st.home));
      }
