use Rattle.std.proofs.Common.{rules, ◌≡◌, [], ◌+◌, ◌-◌, ◌*◌, ◌<◌, ◌≤◌, length, length-drop, drop, ap, sym, ◌∙◌, arith}
use Rattle.std.proofs.lemmas.List.{drop_all, take_all}
use Rattle.text.proofs.Walks.{sizes, turned, of_none, rest_of}
use Rattle.text.proofs.run.Run.size.Goals as goal

pub loop-done-preserved : goal.loop-done-preserved
loop-done-preserved g c =
    let size = g.P.Parts.size in
    let part = c.size_of-part.ensures in
    let left = c.args.self.left - (c.loop-done.done + 1) in
    let behind = drop c.size_of-part.result c.loop-done.rest.now in
    let rest : c.in-Some.next.now ≡ behind = c.in-Some.ensures.lookup.0.2 ∙ take_all (length c.loop-done.rest.now - c.size_of-part.result) behind (omega (arith, length-drop c.size_of-part.result c.loop-done.rest.now)) in
    let next : sizes size (c.loop-done.size + c.size_of-part.result) left c.in-Some.next.now ≡ sizes size (c.loop-done.size + size c.loop-done.rest.now) left (drop (size c.loop-done.rest.now) c.loop-done.rest.now)
    = (λ i. sizes size (c.loop-done.size + part.value i) left (rest i)) ∙ ap (λ n. sizes size (c.loop-done.size + size c.loop-done.rest.now) left (drop n c.loop-done.rest.now)) part.value in (
      next ∙ turned size c.args.self.left c.loop-done.done c.loop-done.size c.loop-done.rest.now c.loop-done-test.true c.loop-done.invariant.0,
      omega (arith, c.loop-done.invariant.1, part.bound),
    )

pub returns-in_default-clause-value : goal.returns-in_default-clause-value
returns-in_default-clause-value g c =
    let size = g.P.Parts.size in
    let part = c.size_of-part.ensures.value in
    let sum = c.loop-done.size + size c.loop-done.rest.now in
    let left = c.args.self.left - (c.loop-done.done + 1) in
    let past : length c.loop-done.rest.now < c.size_of-part.result = search rules in
    let none : drop (size c.loop-done.rest.now) c.loop-done.rest.now ≡ [] = drop_all (size c.loop-done.rest.now) c.loop-done.rest.now (omega (arith, past, part)) in
    let many : c.from.result ≡ left = c.from.ensures ∙ omega arith in
    (λ i. c.loop-done.size + part i + many i * c.size_of.ensures.value i) ∙ sym (of_none size left sum) ∙ sym (ap (λ s. sizes size sum left s) none)
    ∙ turned size c.args.self.left c.loop-done.done c.loop-done.size c.loop-done.rest.now c.loop-done-test.true c.loop-done.invariant.0

pub returns-in_default-clause-bound : goal.returns-in_default-clause-bound
returns-in_default-clause-bound g c =
    let part = c.size_of-part.ensures.bound in
    let few : c.args.self.left ≤ 255 = search rules in
    let on : c.loop-done.done + 1 ≤ c.args.self.left = omega (arith, c.loop-done-test.true) in
    rest_of c.args.self.left (c.loop-done.done + 1) (c.loop-done.size + c.size_of-part.result) c.from.result c.size_of.result g.P.Parts.most on few (c.from.ensures ∙ omega arith) (omega (arith, c.loop-done.invariant.1, part)) c.size_of.ensures.bound
