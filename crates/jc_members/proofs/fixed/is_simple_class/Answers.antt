use Rattle.std.proofs.Common.{◌≡◌, ◌<◌, true, List, [], ◌∷◌, length, arith, rules, refl}
use Rattle.jc_types.specs.declared.form.Arg.{Arg}
use Rattle.jc_types.specs.Accessors.{vars_of}
use Rattle.jc_members.specs.Fixed.{has_none}
use Rattle.jc_members.proofs.Unchanged.{own_class_of}
use Rattle.jc_members.proofs.fixed.is_simple_class.Goals as goal

nothing : (xs : List Arg) → length xs < 1 → xs ≡ []
nothing [] lt = refl
nothing (x ∷ xs) lt = absurd (omega arith)

pub returns-in-empty : goal.returns-in-empty
returns-in-empty c =
    let held : has_none (vars_of c.args.table.now c.args.id) ≡ true = search rules in
    λ _. own_class_of c.args.table.now c.args.id c.args.args.now (nothing c.args.args.now (omega arith)) held
