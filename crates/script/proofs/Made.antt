-- A value that something was made of. Assumes nothing.
use Rattle.std.proofs.Common.{◌≡◌, Some, None, Option, ap, ◌∙◌}
use Rattle.std.specs.Option.{MatchOption, IsSomeAnd, option_map, option_or}

some_of : {X Y : Type 0} (make : X → Y) (x : X) (r : Option Y) → IsSomeAnd r (λ y. y ≡ make x) → r ≡ Some (make x)
some_of make x (Some y) h = ap Some h
some_of make x None h = absurd h

each : {X Y : Type 0} (make : X → Y) (o : Option X) (r : Option Y) → MatchOption o (r ≡ None) (λ x. IsSomeAnd r (λ y. y ≡ make x)) → r ≡ option_map make o
each make None r h = h
each make (Some x) r h = some_of make x r h

-- by `map`, of a value that is known
pub made : {X Y : Type 0} (make : X → Y) (o known : Option X) (r : Option Y) → MatchOption o (r ≡ None) (λ x. IsSomeAnd r (λ y. y ≡ make x)) → o ≡ known → r ≡ option_map make known
made make o known r h e = each make o r h ∙ ap (option_map make) e

-- the same of what a closure answers
pub answer_made : {X Y : Type 0} (make : X → Y) (o known : Option X) (answer r : Option Y) → answer ≡ r → o ≡ known → MatchOption o (r ≡ None) (λ x. IsSomeAnd r (λ y. y ≡ make x)) → answer ≡ option_map make known
answer_made make o known answer r same e h = same ∙ made make o known r h e

or_asked : {X P : Type 0} (o other r : Option X) → MatchOption o P (λ x. r ≡ Some x) → (P → r ≡ other) → r ≡ option_or o other
or_asked None other r h asked = asked h
or_asked (Some x) other r h asked = h

-- by `or_else`, of a value that is known, where what is asked in its place is known too
pub else_made : {X P : Type 0} (o known other r : Option X) → MatchOption o P (λ x. r ≡ Some x) → (P → r ≡ other) → o ≡ known → r ≡ option_or known other
else_made o known other r h asked e = or_asked o other r h asked ∙ ap (λ x. option_or x other) e
