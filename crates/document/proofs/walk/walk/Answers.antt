use Rattle.std.proofs.Common.{◌≡◌, [], ◌∷◌, ◌++◌, ◌-◌, ◌≤◌, length, get_or, take, drop, ◌∙◌, refl, ap, sym, subst, true, false, IfSome, MatchOption, arith}
use Rattle.std.proofs.lemmas.Bool.{ne_eqb}
use Rattle.std.specs.Bool.{then_some}
use Rattle.document.specs.Descriptors.{walked, ended}
use Rattle.document.specs.Tables.{Tabled}
use Rattle.document.proofs.Walks.{front, walk_on, walk_torn, walk_ends, end_still, body_stands}
use Rattle.document.proofs.Tables.{tabled_other, tabled_front}
use Rattle.document.proofs.walk.walk.Goals as goal

pub loop-rest-init : goal.loop-rest-init
loop-rest-init c =
    let e = c.requires.fresh in
    let z : length c.args.area.now - length c.args.area.now ≡ 0 = omega arith in
    (omega (arith, e.count), sym (ap (λ n. drop n c.args.area.now) z), ([], (e, (length c.args.area.now, (omega arith, refl)))))

pub loop-rest-preserved : goal.loop-rest-preserved
loop-rest-preserved c =
    let area = c.args.area.now in
    let bs = c.loop-rest.rest.now in
    let end = c.loop-rest.invariant.1 in
    let i = c.loop-rest.invariant.2 in
    let s = c.in_ok-body.ensures.cases in
    let e : c.from.result ≡ get_or bs 1 0 = c.from.ensures in
    let within : get_or bs 1 0 ≤ length (take (length bs - 2) (drop 2 bs)) = omega (arith, s.0, e) in
    let split = s.2 ∙ ap (λ m. drop m (take (length bs - 2) (drop 2 bs))) e in
    let n = walk_on i.0 i.1.1.0 (walked area) bs c.in_ok-body.next.now c.in-len2-up.len_at_least i.1.1.1.0 i.1.1.1.1 within split in
    let still = end_still area bs end c.in-len2-up.len_at_least (omega arith) (get_or bs 1 0) within c.in_ok-body.next.now split in
    (omega (arith, n.3), still, (i.0 ++ front bs ∷ [], (tabled_other area i.0 (front bs) c.loop-rest.gathering (ne_eqb (get_or bs 0 0) 3 c.if-tag-eq-METADATA.false) i.1.0, (n.0, (n.1, n.2)))))

pub loop-rest-preserved-then-tag-eq-METADATA : goal.loop-rest-preserved-then-tag-eq-METADATA
loop-rest-preserved-then-tag-eq-METADATA c =
    let area = c.args.area.now in
    let bs = c.loop-rest.rest.now in
    let end = c.loop-rest.invariant.1 in
    let i = c.loop-rest.invariant.2 in
    let s = c.in_ok-body.ensures.cases in
    let e : c.from.result ≡ get_or bs 1 0 = c.from.ensures in
    let within : get_or bs 1 0 ≤ length (take (length bs - 2) (drop 2 bs)) = omega (arith, s.0, e) in
    let split = s.2 ∙ ap (λ m. drop m (take (length bs - 2) (drop 2 bs))) e in
    let n = walk_on i.0 i.1.1.0 (walked area) bs c.in_ok-body.next.now c.in-len2-up.len_at_least i.1.1.1.0 i.1.1.1.1 within split in
    let still = end_still area bs end c.in-len2-up.len_at_least (omega arith) (get_or bs 1 0) within c.in_ok-body.next.now split in
    let taken = s.1 ∙ ap (λ m. take m (take (length bs - 2) (drop 2 bs))) e in
    let stands = body_stands area bs end c.in-len2-up.len_at_least (omega arith) (get_or bs 1 0) within c.in_ok-body.body.now taken in
    let t = tabled_front area i.0 c.meet.new.self bs c.in_ok-body.body.now c.if-tag-eq-METADATA.true taken (c.meet.ensures.holds area i.0 stands i.1.0) in
    (omega (arith, n.3, c.meet.ensures.count), still, (i.0 ++ front bs ∷ [], (t, (n.0, (n.1, n.2)))))

pub returns-in_err-body-clause-cases : goal.returns-in_err-body-clause-cases
returns-in_err-body-clause-cases c =
    let i = c.loop-rest.invariant.2 in
    let w = walked c.args.area.now in
    subst (λ o. MatchOption o (ended w ≡ false) (λ _. ended w ≡ true)) (sym c.from_residual.ensures) (walk_torn i.0 i.1.1.0 w c.loop-rest.rest.now c.in-len2-up.len_at_least i.1.1.1.0 i.1.1.1.1 (omega (arith, c.in_err-body.ensures.cases, c.from.ensures)))

pub returns : goal.returns
returns c =
    let i = c.loop-rest.invariant.2 in
    let said = c.then_some.ensures ∙ ap (λ b. then_some b (tt {0})) c.is_empty.ensures in
    let w = walked c.args.area.now in
    let e = walk_ends (λ ds. Tabled c.args.area.now ds c.loop-rest.gathering) i.0 i.1.1.0 w c.loop-rest.rest.now (omega (arith, c.in_default.len_below)) i.1.1.1.0 i.1.1.1.1 i.1.0 in
    record {
      cases = subst (λ o. MatchOption o (ended w ≡ false) (λ _. ended w ≡ true)) (sym said) e.0;
      holds = subst (λ o. IfSome o (λ _. Tabled c.args.area.now w.whole c.loop-rest.gathering)) (sym said) e.1;
    }
