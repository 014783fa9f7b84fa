use Rattle.document.proofs.Deliveries.{descriptor_order_does_not_matter}
use Rattle.history.proofs.Determining.{determined}
use Rattle.receiver.proofs.runs.rehearse.Goals as goal

pub returns : goal.returns
returns g c =
    let begun = c.begin-receiver.ensures.stands in
    let on = c.carry_on.ensures in
    record {
      stands = on.stands _ _ begun;
      the_set_shows_what_the_calls_ask = on.the_set_shows_what_the_calls_ask _ _ begun;
      the_calls_before_determine_each_reply = on.the_calls_before_determine_each_reply _ _ begun;
      the_calls_determine_the_set_and_the_replies = determined;
      the_order_of_descriptors_does_not_matter = descriptor_order_does_not_matter;
      rest = on.rest;
    }
