-- Only type variables that may be named there occur in a written type whose names break no rule.
use Rattle.std.proofs.Common.{◌≡◌, ◌+◌, ℕ, zero, suc, Bool, true, false, Some, None, List, [], ◌∷◌, map, refl, sym, ap, subst, ◌∙◌}
use Rattle.std.specs.Prelude.{cond}
use Rattle.jc_tree.specs.declared.types.BaseTree.{BaseTree, BaseTree-F, fold-roll-BaseTree, map-BaseTree, roll-BaseTree}
use Rattle.jc_tree.specs.declared.types.ClassTree.{ClassTree, ClassTree-F, fold-roll-ClassTree, map-ClassTree, roll-ClassTree, ind-ClassTree}
use Rattle.jc_tree.specs.declared.types.TypeArg.{TypeArg, TypeArg-F, fold-roll-TypeArg, map-TypeArg, roll-TypeArg}
use Rattle.jc_tree.specs.declared.types.TypePart.{TypePart, TypePart-F, fold-roll-TypePart, map-TypePart, roll-TypePart}
use Rattle.jc_tree.specs.declared.types.TypeTree.{TypeTree, TypeTree-F, fold-roll-TypeTree, map-TypeTree, roll-TypeTree}
use Rattle.jc_types.specs.declared.form.Arg.{Arg}
use Rattle.jc_types.specs.declared.form.Arg.TheVariants as anArg
use Rattle.jc_types.specs.declared.form.Ty.{Ty, Ty-F, out-Ty}
use Rattle.jc_types.specs.declared.form.Ty.TheVariants as aTy
use Rattle.jc_types.specs.declared.ids.VarId.{VarId}
use Rattle.jc_types.specs.Arrays.{array_over, array_over_at}
use Rattle.jc_header_rules.specs.Checked.{IsOver, over_primitive, over_class, over_raw, over_array, over_variable, over_meet, over_null, AreArgsOver, no_args, exact, any, extends, super}
use Rattle.jc_declares.specs.declared.heads.Heads.{Heads}
use Rattle.jc_declares.specs.Heads.{class_variables, owner_of}
use Rattle.jc_declares.specs.Knowing.{passed_all}
use Rattle.jc_declares.specs.Looking.{Knowledge, Look, AClass, AVariable, all_accessible, is_own, look_up}
use Rattle.jc_declares.specs.Writing.{Reading, Wrote, WroteArg, WrotePart, is_empty, name_of_part, args_in, last_args, class_type, meant_type, arg_broken, part_broken, early_args, variable_broken, meaning_broken, if_accessible, name_broken, with_dims, primitive_of, base_wrote, arg_wrote, class_tree_wrote, class_wrote, part_wrote, type_wrote, wrote_base, wrote_arg, wrote_class, wrote_part, wrote_type}
use Rattle.jc_table_laws.proofs.PlacesZip.{left_empty, right_empty, not_empty, last_unbroken, accessible_unbroken}
use Rattle.jc_table_laws.proofs.Variables.{OfSomeClass, LookOwned, look_up_owned}

-- a variable that is named breaks no rule where it may be named there, and has no arguments
pub unbroken_own : (b without : Bool) (at : ℕ) → variable_broken b without at ≡ [] → b ≡ true
unbroken_own true without at e = refl
unbroken_own false without at e = not_empty _ [] e

module _ (V : VarId → Type 0) where
  -- ---- dimensions

  element : (t u : Ty) (n : ℕ) → out-Ty t ≡ Ty-F.Array u n → IsOver V t → IsOver V u
  element t u n e (over_array {u = w} {n = m} f o) = subst (IsOver V) (let g : w ≡ u = cc in g) o
  element t u n e (over_primitive f) = absurd (let z : ⊥ = cc in z)
  element t u n e (over_class f o) = absurd (let z : ⊥ = cc in z)
  element t u n e (over_raw f) = absurd (let z : ⊥ = cc in z)
  element t u n e (over_variable f o) = absurd (let z : ⊥ = cc in z)
  element t u n e (over_meet f o) = absurd (let z : ⊥ = cc in z)
  element t u n e (over_null f) = absurd (let z : ⊥ = cc in z)

  over_layer : (n : ℕ) (t : Ty) (l : Ty-F Arg Ty) → out-Ty t ≡ l → IsOver V t → IsOver V (array_over_at n t l)
  over_layer n t (Ty-F.Array u m) e o = over_array (aTy.outs-Array u (m + n + 1)) (element t u m e o)
  over_layer n t (Ty-F.Prim p) e o = over_array (aTy.outs-Array t n) o
  over_layer n t (Ty-F.Class i xs) e o = over_array (aTy.outs-Array t n) o
  over_layer n t (Ty-F.Raw i) e o = over_array (aTy.outs-Array t n) o
  over_layer n t (Ty-F.Variable v) e o = over_array (aTy.outs-Array t n) o
  over_layer n t (Ty-F.Captured v) e o = over_array (aTy.outs-Array t n) o
  over_layer n t (Ty-F.Meet ts) e o = over_array (aTy.outs-Array t n) o
  over_layer n t Ty-F.NullTy e o = over_array (aTy.outs-Array t n) o

  over_more : (n : ℕ) (t : Ty) → IsOver V t → IsOver V (array_over n t)
  unfolding array_over
  over_more n t o = over_layer n t (out-Ty t) refl o

  over_dims : (n : ℕ) (t : Ty) → IsOver V t → IsOver V (with_dims n t)
  over_dims zero t o = o
  over_dims (suc n) t o = over_more n t o

  -- ---- class types

  bare_over : (b : Bool) (c : ℕ) → IsOver V (cond b (aTy.Class (record { 0 = c }) []) (aTy.Raw (record { 0 = c })))
  bare_over true c = over_class (aTy.outs-Class (record { 0 = c }) []) no_args
  bare_over false c = over_raw (aTy.outs-Raw (record { 0 = c }))

  typed_over : (H : Heads) (c : ℕ) (args : List Arg) → AreArgsOver V args → IsOver V (class_type H c args)
  typed_over H c [] o = bare_over (is_empty (class_variables H c)) c
  typed_over H c (a ∷ args) o = over_class (aTy.outs-Class (record { 0 = c }) (a ∷ args)) o

  pub object_over : IsOver V (aTy.Class (record { 0 = 0 }) [])
  object_over = over_class (aTy.outs-Class (record { 0 = 0 }) []) no_args

  -- ---- where the variables of V may be named

  module _ (H : Heads) (K : Knowledge) (r : Reading) (finds : (n : List ℕ) → LookOwned H (r.find n)) (own : (v : ℕ) → OfSomeClass H v → is_own (owner_of H v) r.own ≡ true → V (record { 0 = v })) where
    meant_over : (look : Look) (without : Bool) (at : ℕ) (args : List Arg) → LookOwned H look → meaning_broken H r look without at ≡ [] → AreArgsOver V args → IsOver V (meant_type H look args)
    meant_over None without at args l e o = object_over
    meant_over (Some []) without at args l e o = object_over
    meant_over (Some (AClass c ∷ [])) without at args l e o = typed_over H c args o
    meant_over (Some (AVariable v ∷ [])) without at args l e o =
        over_variable (aTy.outs-Variable (record { 0 = v })) (own v l.0 (unbroken_own (is_own (owner_of H v) r.own) without at e))
    meant_over (Some (AClass c ∷ n ∷ ms)) without at args l e o = object_over
    meant_over (Some (AVariable v ∷ n ∷ ms)) without at args l e o = object_over

    abbrev pub Scoped : Wrote → Type 0
    Scoped w = w.broken ≡ [] → IsOver V w.ty

    -- an argument in front of others
    abbrev ArgScoped : WroteArg → Type 0
    ArgScoped a = a.broken ≡ [] → (rest : List Arg) → AreArgsOver V rest → AreArgsOver V (a.arg ∷ rest)

    abbrev ArgsScoped : List WroteArg → Type 0
    ArgsScoped [] = Unit {0}
    ArgsScoped (a ∷ args) = ArgScoped a × ArgsScoped args

    abbrev PartsScoped : List WrotePart → Type 0
    PartsScoped [] = Unit {0}
    PartsScoped (p ∷ ps) = ArgsScoped p.args × PartsScoped ps

    args_over : (args : List WroteArg) → ArgsScoped args → arg_broken args ≡ [] → AreArgsOver V (args_in args)
    args_over [] s e = no_args
    args_over (a ∷ args) s e =
        s.0 (left_empty a.broken (arg_broken args) e) (args_in args) (args_over args s.1 (right_empty a.broken (arg_broken args) e))

    last_scoped : (p : WrotePart) (ps : List WrotePart) → ArgsScoped p.args → PartsScoped ps → ArgsScoped (last_args p ps)
    last_scoped p [] h g = h
    last_scoped p (q ∷ qs) h g = last_scoped q qs g.0 g.1

    class_over : (p : WrotePart) (ps : List WrotePart) → ArgsScoped p.args → PartsScoped ps → Scoped (class_wrote H K r p ps)
    class_over p ps h g e =
        let look : Look = look_up H K r.find (name_of_part p) (map name_of_part ps) in
        let without : Bool = is_empty (last_args p ps) in
        let accessible : Bool = all_accessible H r.asker (passed_all H K (name_of_part p) (map name_of_part ps) (r.find (name_of_part p))) in
        let named_unbroken : name_broken H K r p ps ≡ [] = left_empty (name_broken H K r p ps) (part_broken (p ∷ ps)) e in
        let args_unbroken : arg_broken (last_args p ps) ≡ [] = last_unbroken p ps (right_empty (name_broken H K r p ps) (part_broken (p ∷ ps)) e) in
        let asked : if_accessible accessible (meaning_broken H r look without p.name.at) p.name.at ≡ [] =
        left_empty (if_accessible accessible (meaning_broken H r look without p.name.at) p.name.at) (early_args p ps) named_unbroken in
        meant_over look without p.name.at (args_in (last_args p ps)) (look_up_owned H K r.find finds (name_of_part p) (map name_of_part ps))
        (accessible_unbroken accessible (meaning_broken H r look without p.name.at) p.name.at asked)
        (args_over (last_args p ps) (last_scoped p ps h g) args_unbroken)

    -- ---- written types

    abbrev BaseScoped : BaseTree → Type 0
    BaseScoped x = Scoped (wrote_base H K r x)

    abbrev TreeArgScoped : TypeArg → Type 0
    TreeArgScoped x = ArgScoped (wrote_arg H K r x)

    abbrev ClassScoped : ClassTree → Type 0
    ClassScoped x = Scoped (wrote_class H K r x)

    abbrev PartScoped : TypePart → Type 0
    PartScoped x = ArgsScoped (wrote_part H K r x).args

    abbrev TreeScoped : TypeTree → Type 0
    TreeScoped x = Scoped (wrote_type H K r x)

    abbrev SomeBase : Type 0
    SomeBase = (x : BaseTree) × BaseScoped x

    abbrev SomeArg : Type 0
    SomeArg = (x : TypeArg) × TreeArgScoped x

    abbrev SomeClass : Type 0
    SomeClass = (x : ClassTree) × ClassScoped x

    abbrev SomePart : Type 0
    SomePart = (x : TypePart) × PartScoped x

    abbrev SomeTree : Type 0
    SomeTree = (x : TypeTree) × TreeScoped x

    scoped_along : (v w : Wrote) → v ≡ w → Scoped w → Scoped v
    scoped_along v w e s b = subst (λ (u : Wrote). IsOver V u.ty) (sym e) (s (ap (λ (u : Wrote). u.broken) (sym e) ∙ b))

    arg_along : (v w : WroteArg) → v ≡ w → ArgScoped w → ArgScoped v
    arg_along v w e s b rest o = subst (λ (u : WroteArg). AreArgsOver V (u.arg ∷ rest)) (sym e) (s (ap (λ (u : WroteArg). u.broken) (sym e) ∙ b) rest o)

    part_along : (v w : WrotePart) → v ≡ w → ArgsScoped w.args → ArgsScoped v.args
    part_along v w e s = subst (λ (u : WrotePart). ArgsScoped u.args) (sym e) s

    abbrev plain_base : BaseTree-F SomeBase SomeArg SomeClass SomePart SomeTree → BaseTree-F BaseTree TypeArg ClassTree TypePart TypeTree
    plain_base y = map-BaseTree SomeBase SomeArg SomeClass SomePart SomeTree BaseTree TypeArg ClassTree TypePart TypeTree (λ z. z.0) (λ z. z.0) (λ z. z.0) (λ z. z.0) (λ z. z.0) y

    abbrev plain_arg : TypeArg-F SomeBase SomeArg SomeClass SomePart SomeTree → TypeArg-F BaseTree TypeArg ClassTree TypePart TypeTree
    plain_arg y = map-TypeArg SomeBase SomeArg SomeClass SomePart SomeTree BaseTree TypeArg ClassTree TypePart TypeTree (λ z. z.0) (λ z. z.0) (λ z. z.0) (λ z. z.0) (λ z. z.0) y

    abbrev plain_class : ClassTree-F SomeBase SomeArg SomeClass SomePart SomeTree → ClassTree-F BaseTree TypeArg ClassTree TypePart TypeTree
    plain_class y = map-ClassTree SomeBase SomeArg SomeClass SomePart SomeTree BaseTree TypeArg ClassTree TypePart TypeTree (λ z. z.0) (λ z. z.0) (λ z. z.0) (λ z. z.0) (λ z. z.0) y

    abbrev plain_part : TypePart-F SomeBase SomeArg SomeClass SomePart SomeTree → TypePart-F BaseTree TypeArg ClassTree TypePart TypeTree
    plain_part y = map-TypePart SomeBase SomeArg SomeClass SomePart SomeTree BaseTree TypeArg ClassTree TypePart TypeTree (λ z. z.0) (λ z. z.0) (λ z. z.0) (λ z. z.0) (λ z. z.0) y

    abbrev plain_tree : TypeTree-F SomeBase SomeArg SomeClass SomePart SomeTree → TypeTree-F BaseTree TypeArg ClassTree TypePart TypeTree
    plain_tree y = map-TypeTree SomeBase SomeArg SomeClass SomePart SomeTree BaseTree TypeArg ClassTree TypePart TypeTree (λ z. z.0) (λ z. z.0) (λ z. z.0) (λ z. z.0) (λ z. z.0) y

    base_layer : (y : BaseTree-F SomeBase SomeArg SomeClass SomePart SomeTree)
        → Scoped (base_wrote (map-BaseTree BaseTree TypeArg ClassTree TypePart TypeTree Wrote WroteArg Wrote WrotePart Wrote (wrote_base H K r) (wrote_arg H K r) (wrote_class H K r) (wrote_part H K r) (wrote_type H K r) (plain_base y)))
    base_layer (BaseTree-F.Primitive at w) = λ e. over_primitive (aTy.outs-Prim (primitive_of w))
    base_layer (BaseTree-F.Class c) = c.1

    base_rolled : (y : BaseTree-F SomeBase SomeArg SomeClass SomePart SomeTree) → BaseScoped (roll-BaseTree (plain_base y))
    unfolding wrote_base wrote_arg wrote_class wrote_part wrote_type
    base_rolled y = scoped_along _ _ (fold-roll-BaseTree Wrote WroteArg Wrote WrotePart Wrote base_wrote arg_wrote (class_tree_wrote H K r) part_wrote type_wrote (plain_base y)) (base_layer y)

    arg_layer : (y : TypeArg-F SomeBase SomeArg SomeClass SomePart SomeTree)
        → ArgScoped (arg_wrote (map-TypeArg BaseTree TypeArg ClassTree TypePart TypeTree Wrote WroteArg Wrote WrotePart Wrote (wrote_base H K r) (wrote_arg H K r) (wrote_class H K r) (wrote_part H K r) (wrote_type H K r) (plain_arg y)))
    arg_layer (TypeArg-F.Exact t) = λ e rest o. exact (anArg.outs-Exact (wrote_type H K r t.0).ty) (t.1 e) o
    arg_layer (TypeArg-F.Any at) = λ e rest o. any anArg.outs-Any o
    arg_layer (TypeArg-F.Extends at t) = λ e rest o. extends (anArg.outs-Extends (wrote_type H K r t.0).ty) (t.1 e) o
    arg_layer (TypeArg-F.Super at t) = λ e rest o. super (anArg.outs-Super (wrote_type H K r t.0).ty) (t.1 e) o

    arg_rolled : (y : TypeArg-F SomeBase SomeArg SomeClass SomePart SomeTree) → TreeArgScoped (roll-TypeArg (plain_arg y))
    unfolding wrote_base wrote_arg wrote_class wrote_part wrote_type
    arg_rolled y = arg_along _ _ (fold-roll-TypeArg Wrote WroteArg Wrote WrotePart Wrote base_wrote arg_wrote (class_tree_wrote H K r) part_wrote type_wrote (plain_arg y)) (arg_layer y)

    given_args : (zs : List SomeArg) → ArgsScoped (map (wrote_arg H K r) (map (λ (z : SomeArg). z.0) zs))
    given_args [] = tt
    given_args (z ∷ zs) = (z.1, given_args zs)

    given_parts : (zs : List SomePart) → PartsScoped (map (wrote_part H K r) (map (λ (z : SomePart). z.0) zs))
    given_parts [] = tt
    given_parts (z ∷ zs) = (z.1, given_parts zs)

    class_rolled : (y : ClassTree-F SomeBase SomeArg SomeClass SomePart SomeTree) → ClassScoped (roll-ClassTree (plain_class y))
    unfolding wrote_base wrote_arg wrote_class wrote_part wrote_type
    class_rolled y =
        scoped_along _ _ (fold-roll-ClassTree Wrote WroteArg Wrote WrotePart Wrote base_wrote arg_wrote (class_tree_wrote H K r) part_wrote type_wrote (plain_class y))
        (class_over (wrote_part H K r y.first.0) (map (wrote_part H K r) (map (λ (z : SomePart). z.0) y.more)) y.first.1 (given_parts y.more))

    part_rolled : (y : TypePart-F SomeBase SomeArg SomeClass SomePart SomeTree) → PartScoped (roll-TypePart (plain_part y))
    unfolding wrote_base wrote_arg wrote_class wrote_part wrote_type
    part_rolled y = part_along _ _ (fold-roll-TypePart Wrote WroteArg Wrote WrotePart Wrote base_wrote arg_wrote (class_tree_wrote H K r) part_wrote type_wrote (plain_part y)) (given_args y.args)

    dims_scoped : (dims : ℕ) (w : Wrote) → Scoped w → Scoped (record w { ty = with_dims dims w.ty })
    dims_scoped dims w s e = over_dims dims w.ty (s e)

    tree_rolled : (y : TypeTree-F SomeBase SomeArg SomeClass SomePart SomeTree) → TreeScoped (roll-TypeTree (plain_tree y))
    unfolding wrote_base wrote_arg wrote_class wrote_part wrote_type
    tree_rolled y =
        scoped_along _ _ (fold-roll-TypeTree Wrote WroteArg Wrote WrotePart Wrote base_wrote arg_wrote (class_tree_wrote H K r) part_wrote type_wrote (plain_tree y))
        (dims_scoped y.dims (wrote_base H K r y.base.0) y.base.1)

    pub class_tree_scoped : (x : ClassTree) → ClassScoped x
    class_tree_scoped = ind-ClassTree BaseScoped TreeArgScoped ClassScoped PartScoped TreeScoped
        (λ x y is. subst (λ (x : BaseTree-F BaseTree TypeArg ClassTree TypePart TypeTree). BaseScoped (roll-BaseTree x)) is (base_rolled y))
        (λ x y is. subst (λ (x : TypeArg-F BaseTree TypeArg ClassTree TypePart TypeTree). TreeArgScoped (roll-TypeArg x)) is (arg_rolled y))
        (λ x y is. subst (λ (x : ClassTree-F BaseTree TypeArg ClassTree TypePart TypeTree). ClassScoped (roll-ClassTree x)) is (class_rolled y))
        (λ x y is. subst (λ (x : TypePart-F BaseTree TypeArg ClassTree TypePart TypeTree). PartScoped (roll-TypePart x)) is (part_rolled y))
        (λ x y is. subst (λ (x : TypeTree-F BaseTree TypeArg ClassTree TypePart TypeTree). TreeScoped (roll-TypeTree x)) is (tree_rolled y))
