use Rattle.std.proofs.Common.{◌≡◌, true, false, Err, subst, sym, ◌∙◌, rules, arith}
use Rattle.document.specs.Descriptors.{walked, ended}
use Rattle.document.specs.Document.{document_of}
use Rattle.document.specs.Gathers.{Gathers}
use Rattle.document.specs.Tables.{Tabled, pieces}
use Rattle.document.specs.declared.refusal.DocumentRefusal.TheVariants.{Unended}
use Rattle.document.proofs.Documents.{unended, faulty, short, granted}
use Rattle.document.proofs.moved.gathering.gather_part.Goals as goal

pub walk-requires-clause-fresh : goal.walk-requires-clause-fresh
walk-requires-clause-fresh c = c.new-gathering.ensures.holds c.args.area.now

pub returns-in_err-ok_or : goal.returns-in_err-ok_or
returns-in_err-ok_or c =
    let area = c.args.area.now in
    let work = c.args.work.now in
    let e : ended (walked area) ≡ false = search rules in
    let r : c.from_residual.result ≡ Err Unended = search rules in
    record { cases = subst (λ r. Gathers (document_of area) work r work) (sym r) (unended area work e) }

pub returns-in_err-slots : goal.returns-in_err-slots
returns-in_err-slots c =
    let area = c.args.area.now in
    let work = c.args.work.now in
    let some = c.in_ok-ok_or.ensures.ok_part in
    let whole : ended (walked area) ≡ true = rw some at c.walk.ensures.cases in
    let held : Tabled area (walked area).whole c.walk.new.gathering = rw some at c.walk.ensures.holds in
    let h = c.in_err-slots.ensures.binds area (walked area).whole held in
    let r : c.from_residual-in_err-slots.result ≡ Err c.in_err-slots.field-0.0 = search rules in
    record { cases = subst (λ r. Gathers (document_of area) work r work) (sym r) (faulty area work whole c.in_err-slots.field-0.0 h) }

pub total-size-requires : goal.total-size-requires
total-size-requires c =
    let some = c.in_ok-ok_or.ensures.ok_part in
    let held : Tabled c.args.area.now (walked c.args.area.now).whole c.walk.new.gathering = rw some at c.walk.ensures.holds in
    let h = c.in_ok-slots.ensures.binds c.args.area.now (walked c.args.area.now).whole held in
    omega (arith, h.2, h.3)

pub returns-then-work-size : goal.returns-then-work-size
returns-then-work-size c =
    let some = c.in_ok-ok_or.ensures.ok_part in
    let whole : ended (walked c.args.area.now) ≡ true = rw some at c.walk.ensures.cases in
    let held : Tabled c.args.area.now (walked c.args.area.now).whole c.walk.new.gathering = rw some at c.walk.ensures.holds in
    let h = c.in_ok-slots.ensures.binds c.args.area.now (walked c.args.area.now).whole held in
    record { cases = short c.args.area.now c.args.work.now whole h.0 (pieces c.args.area.now c.in_ok-slots.slots.now) h.1 c.total-size.result (c.total-size.ensures.value ∙ h.3) c.if-work-size.true }

pub returns : goal.returns
returns c =
    let some = c.in_ok-ok_or.ensures.ok_part in
    let whole : ended (walked c.args.area.now) ≡ true = rw some at c.walk.ensures.cases in
    let held : Tabled c.args.area.now (walked c.args.area.now).whole c.walk.new.gathering = rw some at c.walk.ensures.holds in
    let h = c.in_ok-slots.ensures.binds c.args.area.now (walked c.args.area.now).whole held in
    record { cases = granted c.args.area.now c.args.work.now whole h.0 (pieces c.args.area.now c.in_ok-slots.slots.now) h.1 c.total-size.result (c.total-size.ensures.value ∙ h.3) c.write.new.work c.if-work-size.false c.write.ensures.after }

pub write-requires-clause-inside : goal.write-requires-clause-inside
write-requires-clause-inside c =
    let some = c.in_ok-ok_or.ensures.ok_part in
    let held : Tabled c.args.area.now (walked c.args.area.now).whole c.walk.new.gathering = rw some at c.walk.ensures.holds in
    let h = c.in_ok-slots.ensures.binds c.args.area.now (walked c.args.area.now).whole held in
    h.4

pub write-requires-clause-room : goal.write-requires-clause-room
write-requires-clause-room c =
    let some = c.in_ok-ok_or.ensures.ok_part in
    let held : Tabled c.args.area.now (walked c.args.area.now).whole c.walk.new.gathering = rw some at c.walk.ensures.holds in
    let h = c.in_ok-slots.ensures.binds c.args.area.now (walked c.args.area.now).whole held in
    omega (arith, h.3, c.total-size.ensures.value, c.if-work-size.false)
