use Rattle.std.proofs.Common.{length, Ok, rules}
use Rattle.section.specs.Origins.{bytes_of}
use Rattle.document.specs.Delivering.{Delivers, delivery_answer}
use Rattle.document.proofs.Deliveries.{answers_for_each_order}
use Rattle.document.proofs.Holdings.{delivered, hands_out_of}
use Rattle.document.proofs.delivery.deliver.Goals as goal

pub returns-in_err-gathered-clause-order_of_descriptors_does_not_matter : goal.returns-in_err-gathered-clause-order_of_descriptors_does_not_matter
returns-in_err-gathered-clause-order_of_descriptors_does_not_matter c =
    let s = bytes_of c.args.section.now in
    let answer = delivery_answer c.from_residual.result c.args.out.now in
    let d : Delivers s c.args.words.now (length c.args.work.now) (length c.args.out.now) answer = search rules in
    answers_for_each_order s c.args.words.now (length c.args.work.now) (length c.args.out.now) answer d

pub returns-clause-order_of_descriptors_does_not_matter : goal.returns-clause-order_of_descriptors_does_not_matter
returns-clause-order_of_descriptors_does_not_matter c =
    let s = bytes_of c.args.section.now in
    let words = c.args.words.now in
    let f = c.in_ok-filled.filled in
    let held = c.in_ok-gathered.ensures.document_of_the_section in
    let d = delivered s words c.gather.new.work c.fill.new.out c.in_ok-gathered.gathered f (length c.args.work.now) (length c.args.out.now) c.gather.auto.work c.fill.auto.out held (c.in_ok-filled.ensures.document_of_the_section s held) in
    answers_for_each_order s words (length c.args.work.now) (length c.args.out.now) (delivery_answer (Ok f) c.fill.new.out) d

pub returns-clause-handed_out : goal.returns-clause-handed_out
returns-clause-handed_out c =
    let s = bytes_of c.args.section.now in
    let f = c.in_ok-filled.filled in
    let held = c.in_ok-gathered.ensures.document_of_the_section in
    hands_out_of s c.args.words.now c.fill.new.out f (c.in_ok-filled.ensures.document_of_the_section s held)
