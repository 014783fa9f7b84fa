use Rattle.receiver.proofs.Looking.{means, asks, listed, sound_listed}
use Rattle.receiver.proofs.receiver.Receiver.picture.Goals as goal

pub returns : goal.returns
returns g c =
    let mean = g.S.Set.meaning in
    let r = c.args.self.now in
    let lawful = g.S.Set.lawful r.set in
    let p = c.decide_picture.result in
    let is = c.decide_picture.ensures in
    record {
      what_the_set_means = means mean r lawful p is;
      what_the_calls_ask = asks mean r lawful p is;
      on_the_list = listed mean r lawful p is;
      sound_on_the_list = sound_listed mean r lawful p is;
    }
