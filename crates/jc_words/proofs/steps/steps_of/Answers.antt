use Rattle.std.proofs.Common.{◌≡◌, arith, ◌∙◌, sym, ap, List, ℕ, false, rules}
use Rattle.std.specs.Str.{bytes_eq}
use Rattle.std.specs.Fmt.{decimal}
use Rattle.std.proofs.lemmas.Fmt.{parse-decimal}
use Rattle.std.proofs.lemmas.Slice.Eq.{bytes_eq-Decides}
use Rattle.jc_words.proofs.steps.steps_of.Goals as goal

pub returns-in_default : goal.returns-in_default
returns-in_default c = λ n a. let e = parse-decimal 64 n c.args.text.now c.parse.result (omega arith) (omega arith) a.0 c.parse.ensures.value.0 in cc

pub returns-then-steps-gt-MOST : goal.returns-then-steps-gt-MOST
returns-then-steps-gt-MOST c = λ n a. let e = parse-decimal 64 n c.args.text.now c.parse.result (omega arith) (omega arith) a.0 c.parse.ensures.value.0 in let same : c.in-Ok.steps ≡ n = cc in omega arith

differ : (a b : List ℕ) → false ≡ bytes_eq a b → a ≡ b → ⊥
differ a b unlike e = let yes = (bytes_eq-Decides a b).1 e in cc

pub returns : goal.returns
returns c = λ n a.
    let e = parse-decimal 64 n c.args.text.now c.parse.result (omega arith) (omega arith) a.0 c.parse.ensures.value.0 in
    let same : c.in-Ok.steps ≡ n = cc in
    let spelled : c.as_str.result.now ≡ decimal c.in-Ok.steps = search rules in
    differ c.as_str.result.now c.args.text.now c.if-eq.ensures (spelled ∙ ap decimal same ∙ sym a.0)
