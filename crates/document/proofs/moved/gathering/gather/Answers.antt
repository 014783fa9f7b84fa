use Rattle.std.proofs.Common.{length, ap, arith, rules}
use Rattle.section.specs.Origins.{bytes_of}
use Rattle.document.specs.Gathers.{section_document, Gathers}
use Rattle.document.proofs.Documents.{few}
use Rattle.document.proofs.Laws.{document_is_its_fragments}
use Rattle.document.proofs.Holdings.{gathers_of, gathers_too}
use Rattle.document.proofs.moved.gathering.gather.Goals as goal

pub gather_part-requires : goal.gather_part-requires
gather_part-requires c = omega (arith, few (bytes_of c.args.section.now), ap length c.in_ok-part.ensures.1.1)

pub returns : goal.returns
returns c =
    let s = bytes_of c.args.section.now in
    let before = c.args.work.now in
    let r = c.gather_part.result in
    let after = c.gather_part.new.work in
    let h : Gathers (section_document s) before r after = search rules in
    record { cases = h; document_of_the_section = gathers_of s before r after h; document_is_its_fragments = document_is_its_fragments; order_of_descriptors_does_not_matter = gathers_too s before r after h }

pub returns-in_err-part-clause-document_is_its_fragments : goal.returns-in_err-part-clause-document_is_its_fragments
returns-in_err-part-clause-document_is_its_fragments c = document_is_its_fragments
