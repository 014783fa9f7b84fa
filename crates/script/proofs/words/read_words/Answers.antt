use Rattle.std.proofs.Common.{ap, rules, ◌∙◌}
use Rattle.std.specs.Option.{unwrap_or}
use Rattle.script.specs.declared.asked.Asked.TheVariants as asked
use Rattle.script.proofs.Made.{made, answer_made, else_made}
use Rattle.script.proofs.words.read_words.Goals as goal

pub returns : goal.returns
returns c =
    let tick = made asked.Tick _ _ _ c.map.ensures.cases c.read_number.ensures.value in
    record {
      value = c.unwrap_or.ensures ∙ ap (λ o. unwrap_or o asked.Unknown)
          (else_made _ _ _ _ c.or_else-3.ensures (λ p. search rules)
          (else_made _ _ _ _ c.or_else-2.ensures (λ p. search answer_made)
          (else_made _ _ _ _ c.or_else.ensures (λ p. search answer_made) tick)));
    }
