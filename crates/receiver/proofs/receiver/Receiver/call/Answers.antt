use Rattle.std.proofs.Common.{ap}
use Rattle.calls.specs.declared.refusal.CallRefusal.TheVariants.{Reading, Choice}
use Rattle.calls.proofs.Grants.{one_reply}
use Rattle.history.specs.Histories.{sent, told, chose}
use Rattle.history.specs.Replies.{event}
use Rattle.receiver.proofs.Made.{replied, spared}
use Rattle.receiver.proofs.receiver.Receiver.call.Goals as goal

pub returns-in-Section-clause-a_set_that_shows_it_is_spared : goal.returns-in-Section-clause-a_set_that_shows_it_is_spared
returns-in-Section-clause-a_set_that_shows_it_is_spared g c =
    spared g.S.Set.meaning c.args.call (sent c.in-Section.bytes.now) (ap event c.in-Section.is) c.args.self.now c.section.new.self c.section.ensures.a_set_that_shows_it_is_spared

pub returns-in-Reading-clause-the_calls_before_determine_the_reply : goal.returns-in-Reading-clause-the_calls_before_determine_the_reply
returns-in-Reading-clause-the_calls_before_determine_the_reply g c =
    replied g.S.Set.meaning c.args.call (told c.in-Reading.seconds) (ap event c.in-Reading.is) c.args.self.now c.reading.new.self _ _ (one_reply Reading c.reading.result c.from-in-Reading.result c.from-in-Reading.ensures) c.reading.ensures.the_calls_before_determine_the_reply

pub returns-in-Reading-clause-a_set_that_shows_it_is_spared : goal.returns-in-Reading-clause-a_set_that_shows_it_is_spared
returns-in-Reading-clause-a_set_that_shows_it_is_spared g c =
    spared g.S.Set.meaning c.args.call (told c.in-Reading.seconds) (ap event c.in-Reading.is) c.args.self.now c.reading.new.self c.reading.ensures.a_set_that_shows_it_is_spared

pub returns-in-Choice-clause-the_calls_before_determine_the_reply : goal.returns-in-Choice-clause-the_calls_before_determine_the_reply
returns-in-Choice-clause-the_calls_before_determine_the_reply g c =
    replied g.S.Set.meaning c.args.call (chose c.in-Choice.number) (ap event c.in-Choice.is) c.args.self.now c.choice.new.self _ _ (one_reply Choice c.choice.result c.from-in-Choice.result c.from-in-Choice.ensures) c.choice.ensures.the_calls_before_determine_the_reply

pub returns-in-Choice-clause-a_set_that_shows_it_is_spared : goal.returns-in-Choice-clause-a_set_that_shows_it_is_spared
returns-in-Choice-clause-a_set_that_shows_it_is_spared g c =
    spared g.S.Set.meaning c.args.call (chose c.in-Choice.number) (ap event c.in-Choice.is) c.args.self.now c.choice.new.self c.choice.ensures.a_set_that_shows_it_is_spared
