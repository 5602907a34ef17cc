use Rattle.std.proofs.Common.{sym, ◌∙◌, ◌≡◌, false, true, Some, None, refl, ltb}
use Rattle.std.proofs.lemmas.Bool.{lt-ltb, le-ltb}
use Rattle.jc_class_out.proofs.Pools.{number_is}
use Rattle.jc_class_out.proofs.pool.number.Goals as goal

pub returns-in-Some : goal.returns-in-Some
returns-in-Some c =
    let n = number_is c.args.pool.now.keys c.args.wanted (Some c.in-Some.place) c.in-Some.ensures.index in
    let t : ltb c.in-Some.place 65535 ≡ true = lt-ltb _ _ c.if-place-lt65535.true in
    sym (n ∙ rw t refl)

pub returns-in_default : goal.returns-in_default
returns-in_default c =
    let n = number_is c.args.pool.now.keys c.args.wanted (Some c.in-Some.place) c.in-Some.ensures.index in
    let t : ltb c.in-Some.place 65535 ≡ false = le-ltb _ _ c.if-place-lt65535.false in
    sym (n ∙ rw t refl)

pub returns-in_default-2 : goal.returns-in_default-2
returns-in_default-2 c = sym (number_is c.args.pool.now.keys c.args.wanted None c.in_default.ensures.index)
