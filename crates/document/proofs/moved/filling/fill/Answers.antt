use Rattle.std.proofs.Common.{Err, rules}
use Rattle.document.specs.declared.unfilled.FillRefusal.TheVariants.{Words, Short}
use Rattle.document.proofs.Fillings.{PutSo, wordy, cut, put}
use Rattle.document.proofs.Holdings.{fills_of}
use Rattle.document.proofs.moved.filling.fill.Goals as goal

pub returns-then-words-gt-LONGEST : goal.returns-then-words-gt-LONGEST
returns-then-words-gt-LONGEST c =
    let g = c.args.gathered in
    let out = c.args.out.now in
    let h = wordy g c.args.work.now c.args.words.now out (search rules) in
    record { cases = h; document_of_the_section = λ s held. fills_of s g c.args.work.now c.args.words.now out out held (Err (record { refusal = Words; gathered = g })) h }

pub returns-then-work-size : goal.returns-then-work-size
returns-then-work-size c =
    let g = c.args.gathered in
    let out = c.args.out.now in
    let h = cut g c.args.work.now c.args.words.now out (search rules) c.if-work-size.true in
    record { cases = h; document_of_the_section = λ s held. fills_of s g c.args.work.now c.args.words.now out out held (Err (record { refusal = Short; gathered = g })) h }

pub returns : goal.returns
returns c =
    let g = c.args.gathered in
    let work = c.args.work.now in
    let words = c.args.words.now in
    let out = c.args.out.now in
    let after = c.put_document.new.out in
    let p : PutSo g work words out (search rules) c.ok_or.result after = search rules in
    let h = put g work words out (search rules) c.if-work-size.false c.ok_or.result after p in
    record { cases = h; document_of_the_section = λ s held. fills_of s g work words out after held c.ok_or.result h }
