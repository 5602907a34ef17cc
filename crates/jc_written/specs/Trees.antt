-- The broken rules of a class type, told of its tree.
use Rattle.std.specs.Prelude.{ℕ, Bool, cond, List, [], ◌∷◌, ◌++◌, map, Option}
use Rattle.jc_tree.specs.declared.types.ClassTree.{ClassTree, out-ClassTree}
use Rattle.jc_tree.specs.declared.types.TypeArg.{TypeArg}
use Rattle.jc_tree.specs.declared.types.TypePart.{TypePart, out-TypePart}
use Rattle.jc_types.specs.declared.form.Arg.{Arg}
use Rattle.jc_types.specs.declared.form.Ty.{Ty}
use Rattle.jc_types.specs.declared.form.Ty.TheVariants.{Class, Variable}
use Rattle.jc_declares.specs.declared.heads.Heads.{Heads}
use Rattle.jc_declares.specs.declared.heads.Path.{Path}
use Rattle.jc_declares.specs.Heads.{owner_of, path_of_class}
use Rattle.jc_declares.specs.Looking.{Knowledge, look_up, all_accessible, is_own}
use Rattle.jc_declares.specs.Knowing.{passed_all}
use Rattle.jc_declares.specs.Writing.{Reading, Broken, is_empty, class_type, variable_broken, meaning_broken, if_accessible, wrote_arg}
use Rattle.jc_looking.specs.declared.scene.Sight.{Sight}
use Rattle.jc_looking.specs.declared.scene.Sight.TheVariants as sight

-- the type arguments of a part; none where it writes none
abbrev pub args_in_part : TypePart → List TypeArg
args_in_part p = (out-TypePart p).args

-- the arguments of the last part
abbrev pub last_in : TypePart → List TypePart → List TypeArg
last_in p [] = args_in_part p
last_in p (q ∷ qs) = last_in q qs

-- arguments before the last part
abbrev pub early_in : TypePart → List TypePart → List Broken
early_in p [] = []
early_in p (q ∷ qs) = cond (is_empty (args_in_part p)) [] (record { rule = 302; at = (out-TypePart p).name.at } ∷ []) ++ early_in q qs

-- the rules that the names in these arguments break, and those in the arguments of all parts
abbrev pub args_rules : Heads → Knowledge → Reading → List TypeArg → List Broken
args_rules H K r [] = []
args_rules H K r (a ∷ args) = (wrote_arg H K r a).broken ++ args_rules H K r args

abbrev pub parts_rules : Heads → Knowledge → Reading → List TypePart → List Broken
parts_rules H K r [] = []
parts_rules H K r (p ∷ ps) = args_rules H K r (args_in_part p) ++ parts_rules H K r ps

-- what a name breaks, with arguments behind it or without
abbrev pub name_rules : Heads → Knowledge → Reading → Path → Bool → ℕ → List Broken
name_rules H K r path without_args at =
    if_accessible (all_accessible H r.asker (passed_all H K path.first path.more (r.find path.first)))
    (meaning_broken H r (look_up H K r.find path.first path.more) without_args at)
    at

-- what a class type breaks: its name, then arguments before its last part (302), then the names in its arguments
abbrev pub class_rules : Heads → Knowledge → Reading → ClassTree → List Broken
class_rules H K r t =
    let node = out-ClassTree t in
    name_rules H K r (path_of_class t) (is_empty (last_in node.first node.more)) (out-TypePart node.first).name.at ++ early_in node.first node.more
    ++ parts_rules H K r (node.first ∷ node.more)

-- what the meaning of a name breaks
abbrev pub sight_rules : Heads → Option ℕ → Sight → Bool → ℕ → List Broken
sight_rules H own sight.Asks without_args at = []
sight_rules H own sight.Nothing without_args at = record { rule = 302; at = at } ∷ []
sight_rules H own (sight.Class c) without_args at = []
sight_rules H own (sight.Variable v) without_args at = variable_broken (is_own (owner_of H v) own) without_args at
sight_rules H own sight.Several without_args at = record { rule = 303; at = at } ∷ []

-- the arguments themselves, and the offsets of the class types inside them
abbrev pub args_meant : Heads → Knowledge → Reading → List TypeArg → List Arg
args_meant H K r args = map (λ a. (wrote_arg H K r a).arg) args

abbrev pub args_placed : Heads → Knowledge → Reading → List TypeArg → List ℕ
args_placed H K r [] = []
args_placed H K r (a ∷ args) = (wrote_arg H K r a).places ++ args_placed H K r args

-- the type that the meaning of a name is, and the places of the class types in it
abbrev pub sight_type : Heads → Sight → List Arg → Ty
sight_type H (sight.Class c) args = class_type H c args
sight_type H (sight.Variable v) args = Variable (record { 0 = v })
sight_type H _ args = Class (record { 0 = 0 }) []

abbrev pub sight_places : Sight → ℕ → List ℕ → List ℕ
sight_places (sight.Variable v) at places = []
sight_places _ at places = at ∷ places
