-- The classes and type variables of written types are places in the table.
use Rattle.std.proofs.Common.{◌≡◌, ◌<◌, ◌+◌, ℕ, zero, suc, Bool, true, false, Some, None, List, [], ◌∷◌, map, length, arith, refl, sym, ap, subst, ◌∙◌}
use Rattle.std.specs.Prelude.{cond, nat_lt}
use Rattle.std.proofs.lemmas.Bool.{and_from}
use Rattle.jc_rules.proofs.Truths.{less_is}
use Rattle.jc_tree.specs.declared.types.BaseTree.{BaseTree, BaseTree-F, fold-roll-BaseTree, map-BaseTree, roll-BaseTree, ind-BaseTree}
use Rattle.jc_tree.specs.declared.types.ClassTree.{ClassTree, ClassTree-F, fold-roll-ClassTree, map-ClassTree, roll-ClassTree, ind-ClassTree}
use Rattle.jc_tree.specs.declared.types.TypeArg.{TypeArg, TypeArg-F, fold-roll-TypeArg, map-TypeArg, roll-TypeArg}
use Rattle.jc_tree.specs.declared.types.TypePart.{TypePart, TypePart-F, fold-roll-TypePart, map-TypePart, roll-TypePart}
use Rattle.jc_tree.specs.declared.types.TypeTree.{TypeTree, TypeTree-F, fold-roll-TypeTree, map-TypeTree, roll-TypeTree, ind-TypeTree}
use Rattle.jc_types.specs.declared.form.Arg.{Arg, Arg-F, fold-Arg, fold_out-Arg, map-Arg, out-Arg}
use Rattle.jc_types.specs.declared.form.Arg.TheVariants as anArg
use Rattle.jc_types.specs.declared.form.Primitive.{Primitive}
use Rattle.jc_types.specs.declared.form.Ty.{Ty, Ty-F, out-Ty, map-Ty, fold_out-Ty}
use Rattle.jc_types.specs.declared.form.Ty.TheVariants as aTy
use Rattle.jc_types.specs.declared.table.Table.{Table}
use Rattle.jc_types.specs.Arrays.{array_over, array_over_at}
use Rattle.jc_types.specs.Reifying.{all_true}
use Rattle.jc_types.specs.Tables.{arg_is_inside_at, is_inside_at, is_inside}
use Rattle.jc_declares.specs.declared.heads.Heads.{Heads}
use Rattle.jc_declares.specs.Heads.{class_variables}
use Rattle.jc_declares.specs.Looking.{Knowledge, Look, AClass, AVariable, look_up}
use Rattle.jc_declares.specs.Writing.{Reading, Wrote, WroteArg, WrotePart, is_empty, name_of_part, args_in, last_args, class_type, meant_type, with_dims, primitive_of, base_wrote, arg_wrote, class_tree_wrote, class_wrote, part_wrote, type_wrote, wrote_base, wrote_arg, wrote_class, wrote_part, wrote_type}
use Rattle.jc_table_laws.proofs.Ranges.{LookIn, SomeIn, look_up_in}

unfoldable pub arg_inside : Table → Arg → Bool
arg_inside T a = fold-Arg Bool Bool arg_is_inside_at (is_inside_at T) a

module _ (T : Table) where
  inside_out : (t : Ty) → is_inside T t ≡ is_inside_at T (map-Ty Arg Ty Bool Bool (arg_inside T) (is_inside T) (out-Ty t))
  unfolding is_inside arg_inside
  inside_out t = fold_out-Ty Bool Bool arg_is_inside_at (is_inside_at T) t

  inside_at : (t : Ty) (l : Ty-F Arg Ty) → out-Ty t ≡ l → is_inside T t ≡ is_inside_at T (map-Ty Arg Ty Bool Bool (arg_inside T) (is_inside T) l)
  inside_at t l e = inside_out t ∙ ap (λ (l : Ty-F Arg Ty). is_inside_at T (map-Ty Arg Ty Bool Bool (arg_inside T) (is_inside T) l)) e

  abbrev TypeIn : Ty → Type 0
  TypeIn t = is_inside T t ≡ true

  abbrev ArgIn : Arg → Type 0
  ArgIn a = arg_inside T a ≡ true

  abbrev ArgsIn : List Arg → Type 0
  ArgsIn [] = Unit {0}
  ArgsIn (a ∷ args) = ArgIn a × ArgsIn args

  all_in : (args : List Arg) → ArgsIn args → all_true (map (arg_inside T) args) ≡ true
  all_in [] h = refl
  all_in (a ∷ args) h = and_from (arg_inside T a) (all_true (map (arg_inside T) args)) h.0 (all_in args h.1)

  exact_in : (c : ℕ) (args : List Arg) → c < length T.classes → ArgsIn args → TypeIn (aTy.Class (record { 0 = c }) args)
  exact_in c args l h =
      inside_at (aTy.Class (record { 0 = c }) args) _ (aTy.outs-Class (record { 0 = c }) args)
      ∙ and_from (nat_lt c (length T.classes)) (all_true (map (arg_inside T) args)) (less_is c (length T.classes) l) (all_in args h)

  raw_in : (c : ℕ) → c < length T.classes → TypeIn (aTy.Raw (record { 0 = c }))
  raw_in c l = inside_at (aTy.Raw (record { 0 = c })) _ (aTy.outs-Raw (record { 0 = c })) ∙ less_is c (length T.classes) l

  variable_in : (v : ℕ) → v < length T.variables → TypeIn (aTy.Variable (record { 0 = v }))
  variable_in v l = inside_at (aTy.Variable (record { 0 = v })) _ (aTy.outs-Variable (record { 0 = v })) ∙ less_is v (length T.variables) l

  primitive_in : (p : Primitive) → TypeIn (aTy.Prim p)
  primitive_in p = inside_at (aTy.Prim p) _ (aTy.outs-Prim p)

  array_in : (t : Ty) (n : ℕ) → TypeIn t → TypeIn (aTy.Array t n)
  array_in t n h = inside_at (aTy.Array t n) _ (aTy.outs-Array t n) ∙ h

  over_layer : (n : ℕ) (t : Ty) (l : Ty-F Arg Ty) → out-Ty t ≡ l → TypeIn t → TypeIn (array_over_at n t l)
  over_layer n t (Ty-F.Array u m) e h = array_in u (m + n + 1) (sym (inside_at t (Ty-F.Array u m) e) ∙ h)
  over_layer n t (Ty-F.Prim p) e h = array_in t n h
  over_layer n t (Ty-F.Class i xs) e h = array_in t n h
  over_layer n t (Ty-F.Raw i) e h = array_in t n h
  over_layer n t (Ty-F.Variable v) e h = array_in t n h
  over_layer n t (Ty-F.Captured v) e h = array_in t n h
  over_layer n t (Ty-F.Meet ts) e h = array_in t n h
  over_layer n t Ty-F.NullTy e h = array_in t n h

  over_in : (n : ℕ) (t : Ty) → TypeIn t → TypeIn (array_over n t)
  unfolding array_over
  over_in n t h = over_layer n t (out-Ty t) refl h

  pub dims_in : (n : ℕ) (t : Ty) → TypeIn t → TypeIn (with_dims n t)
  dims_in zero t h = h
  dims_in (suc n) t h = over_in n t h

  arg_out : (a : Arg) → arg_inside T a ≡ arg_is_inside_at (map-Arg Arg Ty Bool Bool (arg_inside T) (is_inside T) (out-Arg a))
  unfolding is_inside arg_inside
  arg_out a = fold_out-Arg Bool Bool arg_is_inside_at (is_inside_at T) a

  arg_at : (a : Arg) (l : Arg-F Arg Ty) → out-Arg a ≡ l → arg_inside T a ≡ arg_is_inside_at (map-Arg Arg Ty Bool Bool (arg_inside T) (is_inside T) l)
  arg_at a l e = arg_out a ∙ ap (λ (l : Arg-F Arg Ty). arg_is_inside_at (map-Arg Arg Ty Bool Bool (arg_inside T) (is_inside T) l)) e

  -- ---- where the table has the declared classes and variables, and there are some

  module _ (H : Heads) (classes : length T.classes ≡ length H.classes) (variables : length T.variables ≡ length H.variables) (some : 0 < length H.classes) where
    class_within : (c : ℕ) → c < length H.classes → c < length T.classes
    class_within c l = subst (λ (n : ℕ). c < n) (sym classes) l

    typed_bare : (b : Bool) (c : ℕ) → c < length T.classes → TypeIn (cond b (aTy.Class (record { 0 = c }) []) (aTy.Raw (record { 0 = c })))
    typed_bare true c l = exact_in c [] l tt
    typed_bare false c l = raw_in c l

    typed_in : (c : ℕ) (args : List Arg) → c < length T.classes → ArgsIn args → TypeIn (class_type H c args)
    typed_in c [] l h = typed_bare (is_empty (class_variables H c)) c l
    typed_in c (a ∷ args) l h = exact_in c (a ∷ args) l h

    pub object_in : TypeIn (aTy.Class (record { 0 = 0 }) [])
    object_in = exact_in 0 [] (class_within 0 some) tt

    meant_in : (look : Look) (args : List Arg) → LookIn H look → ArgsIn args → TypeIn (meant_type H look args)
    meant_in None args l h = object_in
    meant_in (Some []) args l h = object_in
    meant_in (Some (AClass c ∷ [])) args l h = typed_in c args (class_within c l.0) h
    meant_in (Some (AVariable v ∷ [])) args l h = variable_in v (subst (λ (n : ℕ). v < n) (sym variables) l.0)
    meant_in (Some (AClass c ∷ n ∷ ms)) args l h = object_in
    meant_in (Some (AVariable v ∷ n ∷ ms)) args l h = object_in

    -- ---- written types

    module _ (K : Knowledge) (known_in : (c : ℕ) → SomeIn H (K c)) (r : Reading) (find_in : (n : List ℕ) → LookIn H (r.find n)) where
      abbrev WrotesIn : List WroteArg → Type 0
      WrotesIn [] = Unit {0}
      WrotesIn (a ∷ args) = ArgIn a.arg × WrotesIn args

      args_all : (args : List WroteArg) → WrotesIn args → ArgsIn (args_in args)
      args_all [] h = tt
      args_all (a ∷ args) h = (h.0, args_all args h.1)

      abbrev PartsIn : List WrotePart → Type 0
      PartsIn [] = Unit {0}
      PartsIn (p ∷ ps) = WrotesIn p.args × PartsIn ps

      last_in : (p : WrotePart) (ps : List WrotePart) → WrotesIn p.args → PartsIn ps → WrotesIn (last_args p ps)
      last_in p [] h g = h
      last_in p (q ∷ qs) h g = last_in q qs g.0 g.1

      class_in : (first : WrotePart) (more : List WrotePart) → WrotesIn first.args → PartsIn more → TypeIn (class_wrote H K r first more).ty
      class_in first more h g =
          meant_in (look_up H K r.find (name_of_part first) (map name_of_part more)) (args_in (last_args first more))
          (look_up_in H K known_in r.find find_in (name_of_part first) (map name_of_part more)) (args_all (last_args first more) (last_in first more h g))

      abbrev BaseIn : BaseTree → Type 0
      BaseIn x = TypeIn (wrote_base H K r x).ty

      abbrev TreeArgIn : TypeArg → Type 0
      TreeArgIn x = ArgIn (wrote_arg H K r x).arg

      abbrev ClassIn : ClassTree → Type 0
      ClassIn x = TypeIn (wrote_class H K r x).ty

      abbrev PartIn : TypePart → Type 0
      PartIn x = WrotesIn (wrote_part H K r x).args

      abbrev TreeIn : TypeTree → Type 0
      TreeIn x = TypeIn (wrote_type H K r x).ty

      abbrev SomeBase : Type 0
      SomeBase = (x : BaseTree) × BaseIn x

      abbrev SomeArg : Type 0
      SomeArg = (x : TypeArg) × TreeArgIn x

      abbrev SomeClass : Type 0
      SomeClass = (x : ClassTree) × ClassIn x

      abbrev SomePart : Type 0
      SomePart = (x : TypePart) × PartIn x

      abbrev SomeTree : Type 0
      SomeTree = (x : TypeTree) × TreeIn x

      base_rolled : (y : BaseTree-F SomeBase SomeArg SomeClass SomePart SomeTree)
          → BaseIn (roll-BaseTree (map-BaseTree SomeBase SomeArg SomeClass SomePart SomeTree BaseTree TypeArg ClassTree TypePart TypeTree (λ z. z.0) (λ z. z.0) (λ z. z.0) (λ z. z.0) (λ z. z.0) y))
      unfolding wrote_base wrote_arg wrote_class wrote_part wrote_type
      base_rolled (BaseTree-F.Primitive at w) =
          ap (λ (x : Wrote). is_inside T x.ty) (fold-roll-BaseTree Wrote WroteArg Wrote WrotePart Wrote base_wrote arg_wrote (class_tree_wrote H K r) part_wrote type_wrote (BaseTree-F.Primitive at w)) ∙ primitive_in (primitive_of w)
      base_rolled (BaseTree-F.Class c) =
          ap (λ (x : Wrote). is_inside T x.ty) (fold-roll-BaseTree Wrote WroteArg Wrote WrotePart Wrote base_wrote arg_wrote (class_tree_wrote H K r) part_wrote type_wrote (BaseTree-F.Class c.0)) ∙ c.1

      arg_rolled : (y : TypeArg-F SomeBase SomeArg SomeClass SomePart SomeTree)
          → TreeArgIn (roll-TypeArg (map-TypeArg SomeBase SomeArg SomeClass SomePart SomeTree BaseTree TypeArg ClassTree TypePart TypeTree (λ z. z.0) (λ z. z.0) (λ z. z.0) (λ z. z.0) (λ z. z.0) y))
      unfolding wrote_base wrote_arg wrote_class wrote_part wrote_type
      arg_rolled (TypeArg-F.Exact t) =
          ap (λ (x : WroteArg). arg_inside T x.arg) (fold-roll-TypeArg Wrote WroteArg Wrote WrotePart Wrote base_wrote arg_wrote (class_tree_wrote H K r) part_wrote type_wrote (TypeArg-F.Exact t.0))
          ∙ arg_at (anArg.Exact (wrote_type H K r t.0).ty) _ (anArg.outs-Exact (wrote_type H K r t.0).ty) ∙ t.1
      arg_rolled (TypeArg-F.Any at) =
          ap (λ (x : WroteArg). arg_inside T x.arg) (fold-roll-TypeArg Wrote WroteArg Wrote WrotePart Wrote base_wrote arg_wrote (class_tree_wrote H K r) part_wrote type_wrote (TypeArg-F.Any at))
          ∙ arg_at anArg.Any _ anArg.outs-Any
      arg_rolled (TypeArg-F.Extends at t) =
          ap (λ (x : WroteArg). arg_inside T x.arg) (fold-roll-TypeArg Wrote WroteArg Wrote WrotePart Wrote base_wrote arg_wrote (class_tree_wrote H K r) part_wrote type_wrote (TypeArg-F.Extends at t.0))
          ∙ arg_at (anArg.Extends (wrote_type H K r t.0).ty) _ (anArg.outs-Extends (wrote_type H K r t.0).ty) ∙ t.1
      arg_rolled (TypeArg-F.Super at t) =
          ap (λ (x : WroteArg). arg_inside T x.arg) (fold-roll-TypeArg Wrote WroteArg Wrote WrotePart Wrote base_wrote arg_wrote (class_tree_wrote H K r) part_wrote type_wrote (TypeArg-F.Super at t.0))
          ∙ arg_at (anArg.Super (wrote_type H K r t.0).ty) _ (anArg.outs-Super (wrote_type H K r t.0).ty) ∙ t.1

      given_args : (zs : List SomeArg) → WrotesIn (map (wrote_arg H K r) (map (λ (z : SomeArg). z.0) zs))
      given_args [] = tt
      given_args (z ∷ zs) = (z.1, given_args zs)

      given_parts : (zs : List SomePart) → PartsIn (map (wrote_part H K r) (map (λ (z : SomePart). z.0) zs))
      given_parts [] = tt
      given_parts (z ∷ zs) = (z.1, given_parts zs)

      class_layer : (y : ClassTree-F SomeBase SomeArg SomeClass SomePart SomeTree) → TypeIn (class_wrote H K r (wrote_part H K r y.first.0) (map (wrote_part H K r) (map (λ (z : SomePart). z.0) y.more))).ty
      class_layer y = class_in (wrote_part H K r y.first.0) (map (wrote_part H K r) (map (λ (z : SomePart). z.0) y.more)) y.first.1 (given_parts y.more)

      class_rolled : (y : ClassTree-F SomeBase SomeArg SomeClass SomePart SomeTree)
          → ClassIn (roll-ClassTree (map-ClassTree SomeBase SomeArg SomeClass SomePart SomeTree BaseTree TypeArg ClassTree TypePart TypeTree (λ z. z.0) (λ z. z.0) (λ z. z.0) (λ z. z.0) (λ z. z.0) y))
      unfolding wrote_base wrote_arg wrote_class wrote_part wrote_type
      class_rolled y =
          ap (λ (x : Wrote). is_inside T x.ty) (fold-roll-ClassTree Wrote WroteArg Wrote WrotePart Wrote base_wrote arg_wrote (class_tree_wrote H K r) part_wrote type_wrote
          (map-ClassTree SomeBase SomeArg SomeClass SomePart SomeTree BaseTree TypeArg ClassTree TypePart TypeTree (λ z. z.0) (λ z. z.0) (λ z. z.0) (λ z. z.0) (λ z. z.0) y))
          ∙ class_layer y

      part_rolled : (y : TypePart-F SomeBase SomeArg SomeClass SomePart SomeTree)
          → PartIn (roll-TypePart (map-TypePart SomeBase SomeArg SomeClass SomePart SomeTree BaseTree TypeArg ClassTree TypePart TypeTree (λ z. z.0) (λ z. z.0) (λ z. z.0) (λ z. z.0) (λ z. z.0) y))
      unfolding wrote_base wrote_arg wrote_class wrote_part wrote_type
      part_rolled y =
          subst (λ (x : WrotePart). WrotesIn x.args) (sym (fold-roll-TypePart Wrote WroteArg Wrote WrotePart Wrote base_wrote arg_wrote (class_tree_wrote H K r) part_wrote type_wrote
          (map-TypePart SomeBase SomeArg SomeClass SomePart SomeTree BaseTree TypeArg ClassTree TypePart TypeTree (λ z. z.0) (λ z. z.0) (λ z. z.0) (λ z. z.0) (λ z. z.0) y)))
          (given_args y.args)

      tree_rolled : (y : TypeTree-F SomeBase SomeArg SomeClass SomePart SomeTree)
          → TreeIn (roll-TypeTree (map-TypeTree SomeBase SomeArg SomeClass SomePart SomeTree BaseTree TypeArg ClassTree TypePart TypeTree (λ z. z.0) (λ z. z.0) (λ z. z.0) (λ z. z.0) (λ z. z.0) y))
      unfolding wrote_base wrote_arg wrote_class wrote_part wrote_type
      tree_rolled y =
          ap (λ (x : Wrote). is_inside T x.ty) (fold-roll-TypeTree Wrote WroteArg Wrote WrotePart Wrote base_wrote arg_wrote (class_tree_wrote H K r) part_wrote type_wrote
          (map-TypeTree SomeBase SomeArg SomeClass SomePart SomeTree BaseTree TypeArg ClassTree TypePart TypeTree (λ z. z.0) (λ z. z.0) (λ z. z.0) (λ z. z.0) (λ z. z.0) y))
          ∙ dims_in y.dims (wrote_base H K r y.base.0).ty y.base.1

      pub class_tree_in : (x : ClassTree) → ClassIn x
      class_tree_in = ind-ClassTree BaseIn TreeArgIn ClassIn PartIn TreeIn
          (λ x y is. subst (λ (x : BaseTree-F BaseTree TypeArg ClassTree TypePart TypeTree). BaseIn (roll-BaseTree x)) is (base_rolled y))
          (λ x y is. subst (λ (x : TypeArg-F BaseTree TypeArg ClassTree TypePart TypeTree). TreeArgIn (roll-TypeArg x)) is (arg_rolled y))
          (λ x y is. subst (λ (x : ClassTree-F BaseTree TypeArg ClassTree TypePart TypeTree). ClassIn (roll-ClassTree x)) is (class_rolled y))
          (λ x y is. subst (λ (x : TypePart-F BaseTree TypeArg ClassTree TypePart TypeTree). PartIn (roll-TypePart x)) is (part_rolled y))
          (λ x y is. subst (λ (x : TypeTree-F BaseTree TypeArg ClassTree TypePart TypeTree). TreeIn (roll-TypeTree x)) is (tree_rolled y))

      pub base_tree_in : (x : BaseTree) → BaseIn x
      base_tree_in = ind-BaseTree BaseIn TreeArgIn ClassIn PartIn TreeIn
          (λ x y is. subst (λ (x : BaseTree-F BaseTree TypeArg ClassTree TypePart TypeTree). BaseIn (roll-BaseTree x)) is (base_rolled y))
          (λ x y is. subst (λ (x : TypeArg-F BaseTree TypeArg ClassTree TypePart TypeTree). TreeArgIn (roll-TypeArg x)) is (arg_rolled y))
          (λ x y is. subst (λ (x : ClassTree-F BaseTree TypeArg ClassTree TypePart TypeTree). ClassIn (roll-ClassTree x)) is (class_rolled y))
          (λ x y is. subst (λ (x : TypePart-F BaseTree TypeArg ClassTree TypePart TypeTree). PartIn (roll-TypePart x)) is (part_rolled y))
          (λ x y is. subst (λ (x : TypeTree-F BaseTree TypeArg ClassTree TypePart TypeTree). TreeIn (roll-TypeTree x)) is (tree_rolled y))

      pub type_tree_in : (x : TypeTree) → TreeIn x
      type_tree_in = ind-TypeTree BaseIn TreeArgIn ClassIn PartIn TreeIn
          (λ x y is. subst (λ (x : BaseTree-F BaseTree TypeArg ClassTree TypePart TypeTree). BaseIn (roll-BaseTree x)) is (base_rolled y))
          (λ x y is. subst (λ (x : TypeArg-F BaseTree TypeArg ClassTree TypePart TypeTree). TreeArgIn (roll-TypeArg x)) is (arg_rolled y))
          (λ x y is. subst (λ (x : ClassTree-F BaseTree TypeArg ClassTree TypePart TypeTree). ClassIn (roll-ClassTree x)) is (class_rolled y))
          (λ x y is. subst (λ (x : TypePart-F BaseTree TypeArg ClassTree TypePart TypeTree). PartIn (roll-TypePart x)) is (part_rolled y))
          (λ x y is. subst (λ (x : TypeTree-F BaseTree TypeArg ClassTree TypePart TypeTree). TreeIn (roll-TypeTree x)) is (tree_rolled y))
