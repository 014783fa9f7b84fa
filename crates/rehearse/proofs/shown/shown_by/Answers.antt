use Rattle.rehearse.proofs.shown.shown_by.Goals as goal

pub returns : goal.returns
returns g c =
    λ s h x. record {
      home = c.home.ensures.the_viewers_service s h x;
      alert = c.event_in_force.ensures.of_the_alert_in_force s h x;
      set = c.picture.ensures.what_the_calls_ask s h x;
    }
