use Rattle.decision.proofs.Decided.{plainly, without, refrained, applied}
use Rattle.decision.proofs.decide.decide_picture.Goals as goal
use Rattle.decision.proofs.decide.decide_picture.Goals.{in_default-via-in-Some+else-applies_to, in_default-via-in_default}

pub returns-in-Some : goal.returns-in-Some
returns-in-Some g c =
    let ss = (g.S.Set.meaning c.args.set.now).services in
    applied c.alerted.result c.args.alert.now _ ss c.args.home c.in-Some.is c.if-applies_to.ensures c.alerted.ensures

pub returns-in_default : goal.returns-in_default
returns-in_default g c =
    let ss = (g.S.Set.meaning c.args.set.now).services in
    let shown = plainly c.plain.result ss c.args.home c.plain.ensures in
    elim c.in_default.branch [
      | in_default-via-in-Some+else-applies_to w ↦ refrained c.plain.result c.args.alert.now _ ss c.args.home w.in-Some.is w.if-applies_to.ensures shown
      | in_default-via-in_default w ↦ without c.plain.result c.args.alert.now ss c.args.home w.in_default.is shown
    ]
