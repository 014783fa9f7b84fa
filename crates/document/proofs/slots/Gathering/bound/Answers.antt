use Rattle.std.proofs.Common.{◌≡◌, ◌<◌, ◌≤◌, Err, take, drop, rules, sym, subst, ◌∙◌}
use Rattle.document.specs.Tables.{Binds}
use Rattle.document.specs.declared.refusal.DocumentRefusal.TheVariants.{Gap}
use Rattle.document.proofs.Bounds.{all_bound, one_missing, past_table}
use Rattle.document.proofs.slots.Gathering.bound.Goals as goal

pub returns-in_err-slots : goal.returns-in_err-slots
returns-in_err-slots c =
    let h : 256 ≤ c.args.self.now.count = search rules in
    let r : c.from_residual.result ≡ Err Gap = search rules in
    record { binds = λ area ds t. subst (Binds area ds) (sym r) (past_table area ds c.args.self.now t c.if-self.false c.if-self-eq0.false c.if-self-2.false h) }

pub returns-then-is_full : goal.returns-then-is_full
returns-then-is_full c =
    let e : c.in_ok-slots.slots.now ≡ take c.args.self.now.count (drop 1 c.args.self.now.slots) = search rules in
    let h : c.args.self.now.count < 256 = search rules in
    record { binds = λ area ds t. all_bound area ds c.args.self.now t c.if-self.false c.if-self-eq0.false c.if-self-2.false c.in_ok-slots.slots.now e h (sym c.is_full.ensures.value ∙ c.if-is_full.true) }

pub returns-else-is_full : goal.returns-else-is_full
returns-else-is_full c =
    let e : c.in_ok-slots.slots.now ≡ take c.args.self.now.count (drop 1 c.args.self.now.slots) = search rules in
    let h : c.args.self.now.count < 256 = search rules in
    record { binds = λ area ds t. one_missing area ds c.args.self.now t c.if-self.false c.if-self-eq0.false c.if-self-2.false c.in_ok-slots.slots.now e h (sym c.is_full.ensures.value ∙ c.if-is_full.false) }
