use Rattle.std.proofs.Common.{refl}
use Rattle.std.proofs.lemmas.Bool.{both_ways}
use Rattle.receiver.proofs.Shifts.{look, words, driven, recaptioned, left}
use Rattle.receiver.proofs.moving.move_set.Goals as goal

pub returns-then-not-looks_same : goal.returns-then-not-looks_same
returns-then-not-looks_same g c =
    let m = g.S.Set.meaning c.args.set.now in
    let P = c.decide_picture-old.ensures in
    let Q = c.decide_picture-new.ensures in
    record {
      after = driven m c.args.from.now c.args.to.now _ _ P Q c.drive_set.result _ c.drive_set.ensures.cases;
      same = λ e. absurd (both_ways _ c.if-not-looks_same.true (c.looks_same.ensures.value.1 (look m c.args.from.now c.args.to.now _ _ P Q e)));
    }

pub returns-then-not-reads_same : goal.returns-then-not-reads_same
returns-then-not-reads_same g c =
    let m = g.S.Set.meaning c.args.set.now in
    let P = c.decide_picture-old.ensures in
    let Q = c.decide_picture-new.ensures in
    record {
      after = recaptioned m c.args.from.now c.args.to.now _ _ P Q c.caption.result _ (c.looks_same.ensures.value.0 c.if-not-looks_same.false) c.caption.ensures.cases;
      same = λ e. absurd (both_ways _ c.if-not-reads_same.true (c.reads_same.ensures.value.1 (words m c.args.from.now c.args.to.now _ _ P Q e)));
    }

pub returns-else-not-reads_same : goal.returns-else-not-reads_same
returns-else-not-reads_same g c =
    let m = g.S.Set.meaning c.args.set.now in
    let P = c.decide_picture-old.ensures in
    let Q = c.decide_picture-new.ensures in
    record {
      after = left m c.args.from.now c.args.to.now _ _ P Q (c.looks_same.ensures.value.0 c.if-not-looks_same.false) (c.reads_same.ensures.value.0 c.if-not-reads_same.false);
      same = λ _. refl;
    }
