use Rattle.decision.proofs.Clear.{presents}
use Rattle.decision.proofs.present.present_alert.Goals as goal

pub returns : goal.returns
returns g c =
    record {
      cases =
          presents (g.S.Set.meaning c.args.set.now) (g.S.Set.meaning c.drive_set.new.set) c.args.alert.now c.args.home c.decide_picture-picture.result c.drive_set.result
          c.decide_picture-picture.ensures c.drive_set.ensures.cases;
      refused_leaves_the_set = c.drive_set.ensures.refused_leaves_the_set;
      refused_as_its_picture = (c.decide_picture-picture.result, c.decide_picture-picture.ensures, c.drive_set.ensures.cases);
    }
