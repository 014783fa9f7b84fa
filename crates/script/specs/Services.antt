-- A service as a line gives it: MAJOR-MINOR,SOURCE and then its marks, each after a comma. Assumes nothing.
use Rattle.std.specs.Prelude.{ℕ, true, cond, not, ◌&&◌, List, [], ◌∷◌, ◌++◌, Some, None, codes, Option, ◌==◌, nat_lt}
use Rattle.std.specs.Str.{bytes_eq}
use Rattle.station.specs.Services.{unmarked}
use Rattle.station.specs.declared.service.Service.{Service}
use Rattle.lines.specs.Decimal.{parsed}
use Rattle.script.specs.Parts.{has_mark, before_mark, after_mark}

-- a number below 65,536
abbrev pub short : Option ℕ → Option ℕ
short None = None
short (Some n) = cond (nat_lt n 65536) (Some n) None

-- one mark more, which was not there yet
abbrev pub with_mark : Service → List ℕ → Option Service
with_mark s word =
    cond (bytes_eq word (codes "controlled") && not s.controlled) (Some (record s { controlled = true }))
    (cond (bytes_eq word (codes "paid") && not s.paid) (Some (record s { paid = true }))
    (cond (bytes_eq word (codes "apart") && not s.apart) (Some (record s { apart = true })) None))

-- what is made of a service, if there is one
abbrev pub then_more : Option Service → (Service → Option Service) → Option Service
then_more None next = None
then_more (Some s) next = next s

-- with the marks of words with commas between them, and the bytes of the first word that were read so far
abbrev pub marks_from : Service → List ℕ → List ℕ → Option Service
marks_from s word [] = with_mark s word
marks_from s word (b ∷ text) = cond (b == 0x2C) (then_more (with_mark s word) (λ more. marks_from more [] text)) (marks_from s (word ++ b ∷ []) text)

-- with the marks that follow the source ID
abbrev pub marks_after : List ℕ → Service → Option Service
marks_after rest s = cond (has_mark 0x2C rest) (marks_from s [] (after_mark 0x2C rest)) (Some s)

-- without marks, where there are all three
abbrev pub service_by : Option ℕ → Option ℕ → Option ℕ → Option Service
service_by (Some major) (Some minor) (Some source) = Some (unmarked (record { 0 = source }) (record { major = major; minor = minor }))
service_by major minor source = None

-- what follows the first hyphen, and the first comma after it
abbrev pub minor_on : List ℕ → List ℕ
minor_on text = after_mark 0x2D text

abbrev pub source_on : List ℕ → List ℕ
source_on text = after_mark 0x2C (minor_on text)

abbrev pub service_of : List ℕ → Option Service
service_of text =
    then_more (service_by (short (parsed (before_mark 0x2D text))) (short (parsed (before_mark 0x2C (minor_on text)))) (short (parsed (before_mark 0x2C (source_on text)))))
    (marks_after (source_on text))
