-- A service that lacks a part. Assumes nothing.
use Rattle.std.proofs.Common.{◌≡◌, ℕ, ◌+◌, false, List, [], length, Some, None, Option, refl, ap, ◌∙◌, arith}
use Rattle.std.proofs.lemmas.Bool.{ltb-false}
use Rattle.std.proofs.lemmas.List.{drop_all}
use Rattle.lines.specs.Decimal.{parsed}
use Rattle.lines.specs.Marks.{mark_at}
use Rattle.script.specs.Parts.{has_mark, before_mark, after_mark}
use Rattle.script.specs.Services.{short, then_more, marks_after, service_by}

-- nothing follows a mark that is not there
pub none_after : (mark : ℕ) (text : List ℕ) → has_mark mark text ≡ false → after_mark mark text ≡ []
none_after mark text h = drop_all (mark_at mark text + 1) text (omega (arith, ltb-false (mark_at mark text) (length text) h))

no_source : (major minor : Option ℕ) → service_by major minor None ≡ None
no_source (Some a) (Some b) = refl
no_source (Some a) None = refl
no_source None b = refl

pub no_comma : (major minor : Option ℕ) (rest more : List ℕ) → has_mark 0x2C rest ≡ false
    → then_more (service_by major minor (short (parsed (before_mark 0x2C (after_mark 0x2C rest))))) (marks_after more) ≡ None
no_comma major minor rest more h =
    ap (λ t. then_more (service_by major minor (short (parsed (before_mark 0x2C t)))) (marks_after more)) (none_after 0x2C rest h)
    ∙ ap (λ o. then_more o (marks_after more)) (no_source major minor)
