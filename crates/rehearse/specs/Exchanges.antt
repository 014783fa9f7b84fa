-- What is kept while the lines of a script are answered. Assumes nothing.
use Rattle.std.specs.Prelude.{◌≡◌, ⊤, [], OnOk, Result}
use Rattle.std.specs.Fn.{Mut, CalledWithState}
use Rattle.std.specs.Borrow.{MutBor}
use Rattle.std.specs.declared.io.Error.{Error}
use Rattle.script.specs.declared.asked.Asked.{Asked}
use Rattle.script.specs.declared.asked.Asked.TheVariants as asks
use Rattle.rehearse.specs.declared.exchange.Exchange.{Exchange}

-- nothing that was printed waits in the printer
abbrev pub NothingWaits : Exchange → Type 0
NothingWaits x = x.output.printer.record ≡ []

-- where nothing waited before, nothing waits after an answer that succeeds
abbrev pub WritesAll : {F : Type 0} → Mut F (MutBor Exchange × (Asked × Unit {0})) (Result (Unit {0}) Error × (MutBor Exchange × Unit {0})) → Type 0
WritesAll {F} g = (f : F) (x : Exchange) (asked : Asked) (r : Result (Unit {0}) Error) (f' : F) (x' : Exchange)
    → CalledWithState g f x asked r f' x' → NothingWaits x → OnOk r (NothingWaits x')

-- what a line that ends the set-up may ask for besides
abbrev pub EndsSetup : Asked → Type 0
EndsSetup (asks.Setting setting) = ⊥
EndsSetup asks.Begin = ⊥
EndsSetup asks.Unknown = ⊥
EndsSetup asked = ⊤
