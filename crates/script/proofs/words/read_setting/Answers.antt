use Rattle.script.specs.declared.asked.Setting.TheVariants as settings
use Rattle.script.proofs.Made.{made, answer_made, else_made}
use Rattle.script.proofs.words.read_setting.Goals as goal

pub returns : goal.returns
returns c =
    let service = made settings.Service _ _ _ c.map.ensures.cases c.read_map_service.ensures.value in
    record {
      value = else_made _ _ _ _ c.or_else-5.ensures (λ p. search answer_made)
          (else_made _ _ _ _ c.or_else-4.ensures (λ p. search answer_made)
          (else_made _ _ _ _ c.or_else-3.ensures (λ p. search answer_made)
          (else_made _ _ _ _ c.or_else-2.ensures (λ p. search answer_made)
          (else_made _ _ _ _ c.or_else.ensures (λ p. search answer_made) service))));
    }
