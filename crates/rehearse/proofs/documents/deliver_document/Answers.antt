use Rattle.std.proofs.Common.{rules, ◌≡◌, ℕ, List, Some, Ok, Err, Result, sym, ap, subst}
use Rattle.std.specs.Result.{MatchResult}
use Rattle.section.specs.Places.{descriptors_of}
use Rattle.section.specs.Refusals.{number}
use Rattle.section.specs.Rules.{refusal}
use Rattle.section.specs.Texts.{alert_text}
use Rattle.section.specs.declared.refusal.SectionRefusal.{SectionRefusal}
use Rattle.document.specs.Delivering.{RefusingCall, refusal_by, DeliversOf, Delivers}
use Rattle.document.specs.Document.{document_of}
use Rattle.document.specs.Gathers.{unless_refused, section_document, document_within}
use Rattle.document.specs.Refusals.{delivery_number, call_of}
use Rattle.rehearse.proofs.documents.deliver_document.Goals as goal

-- the words are the section's own text, or it is refused, and then no words were looked at
own_words : {T : Type 0} (s words : List ℕ) (m n : ℕ) (t : Result T SectionRefusal) (r : Result (List ℕ) RefusingCall)
    → MatchResult t (λ _. words ≡ alert_text s) (λ e. refusal s ≡ Some (number e)) → Delivers s words m n r → Delivers s (alert_text s) m n r
own_words s words m n (Ok t) r w d = subst (λ x. Delivers s x m n r) w d
own_words s words m n (Err e) r w d =
    let is : section_document s ≡ Err (number e) = ap (λ o. unless_refused o (document_of (descriptors_of s))) w in
    subst (λ x. DeliversOf (document_within m x) (alert_text s) n r) (sym is) (subst (λ x. DeliversOf (document_within m x) words n r) is d)

pub returns-in-Err : goal.returns-in-Err
returns-in-Err c =
    let bytes = c.args.bytes.now in
    let words = c.map_or-words.result.now in
    let e = c.in-Err.refusal in
    let r : Result (List ℕ) RefusingCall = refusal_by (call_of e) (delivery_number e) in
    let own : MatchResult c.text.result (λ _. words ≡ alert_text bytes) (λ e. refusal bytes ≡ Some (number e)) = search rules in
    let answer : Delivers bytes words 1023 6143 r = search rules in
    (r, own_words bytes words 1023 6143 c.text.result r own answer, c.undelivered.ensures)
