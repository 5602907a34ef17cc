use Rattle.std.proofs.Common.{◌≡◌, ℕ, false, true, length, sym, ap, ◌∙◌, arith, length-drop}
use Rattle.std.specs.Prelude.{◌==◌}
use Rattle.jc_lexer.specs.Symbols.{code_at}
use Rattle.jc_lexer.proofs.Bodies.{unit_on, pair_on, body_breaks, body_closes}
use Rattle.jc_lexer.proofs.literal.string_body.Goals as goal

pub returns-in-Flawed-clause-value : goal.returns-in-Flawed-clause-value
returns-in-Flawed-clause-value c =
    let rest = c.loop-rest.rest.now in
    let q : (code_at rest 0 == 34) ≡ false = sym (ap (λ (k : ℕ). k == 34) c.code_at.ensures) ∙ sym c.is.ensures ∙ c.loop-rest-test.true in
    body_breaks c.args.text.now c.loop-rest.units c.loop-rest.len rest rest c.loop-rest.invariant.read q c.in-Flawed.flaw c.in-Flawed.ensures.value

pub loop-rest-preserved-in-Unit : goal.loop-rest-preserved-in-Unit
loop-rest-preserved-in-Unit c =
    let rest = c.loop-rest.rest.now in
    let i = c.loop-rest.invariant in
    let e = c.in-Unit.ensures in
    let q : (code_at rest 0 == 34) ≡ false = sym (ap (λ (k : ℕ). k == 34) c.code_at.ensures) ∙ sym c.is.ensures ∙ c.loop-rest-test.true in
    record {
      room = omega (arith, i.room, e.fits.0, e.fits.1, ap length c.behind-rest.ensures, length-drop c.in-Unit.taken rest);
      read = unit_on c.args.text.now c.loop-rest.units c.loop-rest.len rest c.behind-rest.result.now i.read q c.in-Unit.unit c.in-Unit.taken c.push.new.self e.value e.fits.0 e.fits.1 c.behind-rest.ensures c.in_ok-push-in-Unit.ensures.ok;
    }

pub loop-rest-preserved : goal.loop-rest-preserved
loop-rest-preserved c =
    let rest = c.loop-rest.rest.now in
    let i = c.loop-rest.invariant in
    let e = c.in-Pair.ensures in
    let q : (code_at rest 0 == 34) ≡ false = sym (ap (λ (k : ℕ). k == 34) c.code_at.ensures) ∙ sym c.is.ensures ∙ c.loop-rest-test.true in
    record {
      room = omega (arith, i.room, e.fits, ap length c.behind-rest-in-Pair.ensures, length-drop 1 rest);
      read = pair_on c.args.text.now c.loop-rest.units c.loop-rest.len rest c.behind-rest-in-Pair.result.now i.read q c.in-Pair.high c.in-Pair.low c.push-in-Pair.new.self c.push-in-Pair-2.new.self e.value e.fits c.behind-rest-in-Pair.ensures c.in_ok-push-in-Pair.ensures.ok c.in_ok-push-in-Pair-2.ensures.ok;
    }

pub returns-clause-value : goal.returns-clause-value
returns-clause-value c =
    let q : (code_at c.loop-rest.rest.now 0 == 34) ≡ true = sym (ap (λ (k : ℕ). k == 34) c.code_at.ensures) ∙ sym c.is.ensures ∙ c.loop-rest-test.false in
    body_closes c.args.text.now c.loop-rest.units c.loop-rest.len c.loop-rest.rest.now c.loop-rest.invariant.read q
