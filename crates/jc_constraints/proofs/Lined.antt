-- The list of what a constraint implies has what its lines imply, and nothing else.
use Rattle.std.proofs.Common.{◌≡◌, ◌↔◌, ℕ, zero, suc, Bool, true, false, List, [], ◌∷◌, map, Option, Some, None, arith, ap, sym, subst, ◌∙◌, refl, inl, inr}
use Rattle.std.specs.List.{Contains}
use Rattle.std.proofs.lemmas.List.Elements.{Contains-append_left, Contains-append_right, Contains-append_cases}
use Rattle.jc_types.specs.declared.environment.Bounds.{Bounds}
use Rattle.jc_types.specs.declared.form.Arg.{Arg, Arg-F, out-Arg, roll-Arg, map-Arg, out-roll-Arg, fold-roll-Arg, fold_out-Arg}
use Rattle.jc_types.specs.declared.form.Ty.{Ty, Ty-F, out-Ty, roll-Ty, roll-out-Ty, map-Ty, fold-roll-Ty, ind-Ty}
use Rattle.jc_types.specs.declared.form.Ty.TheVariants.{Array, Class, Variable, outs-Array, rolls-Array, rolls-Class, rolls-Variable}
use Rattle.jc_types.specs.declared.ids.ClassId.{ClassId}
use Rattle.jc_types.specs.declared.ids.VarId.{VarId}
use Rattle.jc_types.specs.declared.table.Table.{Table}
use Rattle.jc_types.specs.Arrays.{element, element_at, lowered}
use Rattle.jc_constraints.specs.declared.standing.ArgKind.{ArgKind}
use Rattle.jc_constraints.specs.declared.standing.ArgKind.TheVariants as kind
use Rattle.jc_constraints.specs.declared.standing.Implied.{Implied}
use Rattle.jc_constraints.specs.declared.standing.Standing.{Standing}
use Rattle.jc_constraints.specs.Standings.{kind_of, part_of, standing_of}
use Rattle.jc_constraints.specs.Constraints.{ArgImplies, Implies, arg_step, args_for, beside, down, element_for, implied, implied_by_arg, implied_if, is_unknown, of_parts, on_element, type_step}
use Rattle.jc_constraints.specs.Lines.{AtOnePlace, ByLines, parameter, elements, arguments}
use Rattle.jc_constraints.proofs.Implications.{implied-Array, implied-Class, implied-Variable}

abbrev kind_at : Arg-F Arg Ty → ArgKind
kind_at l = kind_of l

none_in : {X : Type 0} (x : X) → Contains [] x → ⊥
none_in x (k, lt, e) = omega (arith, lt)

only_in : {X : Type 0} (y x : X) → Contains (y ∷ []) x → y ≡ x
only_in y x (zero, lt, e) = e
only_in y x (suc k, lt, e) = absurd (omega (arith, lt))

here_in : {X : Type 0} (y x : X) → y ≡ x → Contains (y ∷ []) x
here_in y x e = (zero, omega arith, e)

module _ (T : Table) (env : List Bounds) (unknown : List VarId) where
  abbrev Lines : Ty → Standing → Ty → Implied → Type 0
  Lines = ByLines T env unknown

  abbrev list : Ty → Standing → Ty → List Implied
  list = implied T env unknown

  abbrev arg_list : Arg → Standing → Arg → List Implied
  arg_list = implied_by_arg T env unknown

  -- what one argument implies
  record ByArgument (x : Arg) (s : Standing) (y : Arg) (i : Implied) : Type 0 where
    formal : Ty
    actual : Ty
    standing : Standing
    formal_is : part_of (out-Arg x) ≡ Some formal
    actual_is : part_of (out-Arg y) ≡ Some actual
    standing_is : standing_of s (kind_of (out-Arg x)) (kind_of (out-Arg y)) ≡ Some standing
    lines : Lines formal standing actual i

  -- ---- from the list to lines

  abbrev Listed : Ty → Type 0
  Listed f = (s : Standing) (a : Ty) (i : Implied) → Contains (list f s a) i → Lines f s a i

  abbrev ListedArg : Arg → Type 0
  ListedArg x = (s : Standing) (y : Arg) (i : Implied) → Contains (arg_list x s y) i → ByArgument x s y i

  abbrev SomeArg : Type 0
  SomeArg = (x : Arg) × ListedArg x

  abbrev SomeTy : Type 0
  SomeTy = (f : Ty) × Listed f

  abbrev plain : Ty-F SomeArg SomeTy → Ty-F Arg Ty
  plain y = map-Ty SomeArg SomeTy Arg Ty (λ z. z.0) (λ z. z.0) y

  abbrev plain_arg : Arg-F SomeArg SomeTy → Arg-F Arg Ty
  plain_arg y = map-Arg SomeArg SomeTy Arg Ty (λ z. z.0) (λ z. z.0) y

  abbrev rolled_list : Ty-F Arg Ty → Standing → Ty → List Implied
  rolled_list l = type_step T env unknown (map-Ty Arg Ty ArgImplies Implies arg_list list l)

  abbrev rolled_arg_list : Arg-F Arg Ty → Standing → Arg → List Implied
  rolled_arg_list l = arg_step (map-Arg Arg Ty ArgImplies Implies arg_list list l)

  list_rolled : (l : Ty-F Arg Ty) (s : Standing) (a : Ty) → list (roll-Ty l) s a ≡ rolled_list l s a
  unfolding implied implied_by_arg
  list_rolled l s a = ap (λ (g : Implies). g s a) (fold-roll-Ty ArgImplies Implies arg_step (type_step T env unknown) l)

  arg_list_rolled : (l : Arg-F Arg Ty) (s : Standing) (y : Arg) → arg_list (roll-Arg l) s y ≡ rolled_arg_list l s y
  unfolding implied implied_by_arg
  arg_list_rolled l s y = ap (λ (g : ArgImplies). g s y) (fold-roll-Arg ArgImplies Implies arg_step (type_step T env unknown) l)

  of_parameter : (v : VarId) (s : Standing) (a : Ty) (i : Implied) (b : Bool) → is_unknown unknown v ≡ b → Contains (implied_if b v s a) i → Lines (roll-Ty (Ty-F.Variable v)) s a i
  of_parameter v s a i true e h =
      let is : record { variable = v; standing = s; ty = a } ≡ i = only_in _ i h in
      parameter (rolls-Variable v ∙ ap (λ (x : Implied). Variable x.variable) is) (ap (λ (x : Implied). is_unknown unknown x.variable) (sym is) ∙ e) (ap (λ (x : Implied). x.standing) (sym is)) (ap (λ (x : Implied). x.ty) (sym is))
  of_parameter v s a i false e h = absurd (none_in i h)

  element_of_array : (t : Ty) (n : ℕ) → element (Array t n) ≡ Some (lowered t n)
  unfolding element
  element_of_array t n = ap element_at (outs-Array t n)

  down_none : (s : Standing) (n : ℕ) → down (element_for T env s) n None ≡ None
  down_none s zero = refl
  down_none s (suc n) = down_none s n

  -- as many dimensions down as a formal array type has
  of_array : (t : Ty) (n : ℕ) (s : Standing) (a : Ty) (i : Implied) (o : Option Ty) → element_for T env s a ≡ o → Listed t → Contains (on_element (list t) s (down (element_for T env s) n o)) i → Lines (Array t n) s a i
  of_array t zero s a i None e by h = absurd (none_in i h)
  of_array t zero s a i (Some v) e by h = elements t v (element_of_array t zero) e (by s v i h)
  of_array t (suc n) s a i None e by h = absurd (none_in i (subst (λ o. Contains (on_element (list t) s o) i) (down_none s n) h))
  of_array t (suc n) s a i (Some v) e by h = elements (Array t n) v (element_of_array t (suc n)) e (of_array t n s v i (element_for T env s v) refl by h)

  abbrev Placed : List Arg → List Arg → Standing → Implied → Type 0
  Placed xs ys s i = (x : Arg) × (y : Arg) × AtOnePlace xs ys x y × ByArgument x s y i

  placed_later : (x y : Arg) (xs ys : List Arg) (s : Standing) (i : Implied) → Placed xs ys s i → Placed (x ∷ xs) (y ∷ ys) s i
  placed_later x y xs ys s i p = (p.0, p.1, inr p.2, p.3)

  of_arguments : (zs : List SomeArg) (ys : List Arg) (s : Standing) (i : Implied) → Contains (beside (map arg_list (map (λ z. z.0) zs)) s ys) i → Placed (map (λ z. z.0) zs) ys s i
  of_arguments [] ys s i h = absurd (none_in i h)
  of_arguments (z ∷ zs) [] s i h = absurd (none_in i h)
  of_arguments (z ∷ zs) (y ∷ ys) s i h = elim (Contains-append_cases (arg_list z.0 s y) (beside (map arg_list (map (λ z. z.0) zs)) s ys) i h) [
    | inl c ↦ (z.0, y, inl (refl, refl), z.1 s y i c)
    | inr c ↦ placed_later z.0 y (map (λ z. z.0) zs) ys s i (of_arguments zs ys s i c)
  ]

  of_class : (k : ClassId) (xs : List Arg) (s : Standing) (a : Ty) (i : Implied) → Placed xs (args_for T env s k a) s i → Lines (roll-Ty (Ty-F.Class k xs)) s a i
  of_class k xs s a i p = arguments k xs p.0 p.1 p.3.formal p.3.actual p.3.standing (rolls-Class k xs) p.2 p.3.formal_is p.3.actual_is p.3.standing_is p.3.lines

  of_layer : (y : Ty-F SomeArg SomeTy) (s : Standing) (a : Ty) (i : Implied) → Contains (rolled_list (plain y) s a) i → Lines (roll-Ty (plain y)) s a i
  of_layer (Ty-F.Prim p) s a i h = absurd (none_in i h)
  of_layer (Ty-F.Class k zs) s a i h = of_class k (map (λ z. z.0) zs) s a i (of_arguments zs (args_for T env s k a) s i h)
  of_layer (Ty-F.Raw k) s a i h = absurd (none_in i h)
  of_layer (Ty-F.Array z n) s a i h = subst (λ f. Lines f s a i) (sym (rolls-Array z.0 n)) (of_array z.0 n s a i (element_for T env s a) refl z.1 h)
  of_layer (Ty-F.Variable v) s a i h = of_parameter v s a i (is_unknown unknown v) refl h
  of_layer (Ty-F.Captured c) s a i h = absurd (none_in i h)
  of_layer (Ty-F.Meet zs) s a i h = absurd (none_in i h)
  of_layer Ty-F.NullTy s a i h = absurd (none_in i h)

  -- the type and the standing that a part comes to
  of_part : (x : Arg) (s : Standing) (y : Arg) (i : Implied) (f : Ty) (o : Option Ty) (r : Option Standing) → part_of (out-Arg x) ≡ Some f → Listed f
      → part_of (out-Arg y) ≡ o → standing_of s (kind_of (out-Arg x)) (kind_of (out-Arg y)) ≡ r → Contains (of_parts (Some (list f)) o r) i → ByArgument x s y i
  of_part x s y i f None r ef by eo er h = absurd (none_in i h)
  of_part x s y i f (Some t) None ef by eo er h = absurd (none_in i h)
  of_part x s y i f (Some t) (Some q) ef by eo er h = record { formal = f; actual = t; standing = q; formal_is = ef; actual_is = eo; standing_is = er; lines = by q t i h }

  of_arg_layer : (l : Arg-F SomeArg SomeTy) (s : Standing) (y : Arg) (i : Implied) → Contains (rolled_arg_list (plain_arg l) s y) i → ByArgument (roll-Arg (plain_arg l)) s y i
  of_arg_layer (Arg-F.Exact z) s y i h = of_part (roll-Arg (Arg-F.Exact z.0)) s y i z.0 (part_of (out-Arg y)) (standing_of s kind.Exact (kind_of (out-Arg y))) (ap part_of (out-roll-Arg (Arg-F.Exact z.0))) z.1 refl (ap (λ k. standing_of s k (kind_of (out-Arg y))) (ap kind_at (out-roll-Arg (Arg-F.Exact z.0)))) h
  of_arg_layer Arg-F.Any s y i h = absurd (none_in i h)
  of_arg_layer (Arg-F.Extends z) s y i h = of_part (roll-Arg (Arg-F.Extends z.0)) s y i z.0 (part_of (out-Arg y)) (standing_of s kind.Extends (kind_of (out-Arg y))) (ap part_of (out-roll-Arg (Arg-F.Extends z.0))) z.1 refl (ap (λ k. standing_of s k (kind_of (out-Arg y))) (ap kind_at (out-roll-Arg (Arg-F.Extends z.0)))) h
  of_arg_layer (Arg-F.Super z) s y i h = of_part (roll-Arg (Arg-F.Super z.0)) s y i z.0 (part_of (out-Arg y)) (standing_of s kind.Super (kind_of (out-Arg y))) (ap part_of (out-roll-Arg (Arg-F.Super z.0))) z.1 refl (ap (λ k. standing_of s k (kind_of (out-Arg y))) (ap kind_at (out-roll-Arg (Arg-F.Super z.0)))) h

  listed : (f : Ty) → Listed f
  listed = ind-Ty ListedArg Listed
      (λ x y is. subst (λ x. ListedArg (roll-Arg x)) is (λ s b i h. of_arg_layer y s b i (subst (λ l. Contains l i) (arg_list_rolled (plain_arg y) s b) h)))
      (λ x y is. subst (λ x. Listed (roll-Ty x)) is (λ s a i h. of_layer y s a i (subst (λ l. Contains l i) (list_rolled (plain y) s a) h)))

  -- ---- and from lines to the list

  -- one line of arrays
  array_line : (l : Ty-F Arg Ty) (f u : Ty) (s : Standing) (a v : Ty) (i : Implied) → f ≡ roll-Ty l → element_at l ≡ Some u → element_for T env s a ≡ Some v → Contains (list u s v) i → Contains (list f s a) i
  array_line (Ty-F.Array t zero) f u s a v i ef eu ev h =
      let same : t ≡ u = cc in
      let now : list f s a ≡ on_element (list t) s (Some v) = ap (λ f. list f s a) (ef ∙ rolls-Array t zero) ∙ implied-Array T env unknown t zero s a ∙ ap (λ o. on_element (list t) s o) ev in
      subst (λ l. Contains l i) (sym now) (subst (λ u. Contains (list u s v) i) (sym same) h)
  array_line (Ty-F.Array t (suc n)) f u s a v i ef eu ev h =
      let same : Array t n ≡ u = cc in
      let now : list f s a ≡ on_element (list t) s (down (element_for T env s) (suc n) (Some v)) = ap (λ f. list f s a) (ef ∙ rolls-Array t (suc n)) ∙ implied-Array T env unknown t (suc n) s a ∙ ap (λ o. on_element (list t) s (down (element_for T env s) (suc n) o)) ev in
      subst (λ l. Contains l i) (sym (now ∙ sym (implied-Array T env unknown t n s v))) (subst (λ u. Contains (list u s v) i) (sym same) h)
  array_line (Ty-F.Prim p) f u s a v i ef eu ev h = cc
  array_line (Ty-F.Class k xs) f u s a v i ef eu ev h = cc
  array_line (Ty-F.Raw k) f u s a v i ef eu ev h = cc
  array_line (Ty-F.Variable w) f u s a v i ef eu ev h = cc
  array_line (Ty-F.Captured c) f u s a v i ef eu ev h = cc
  array_line (Ty-F.Meet ts) f u s a v i ef eu ev h = cc
  array_line Ty-F.NullTy f u s a v i ef eu ev h = cc

  array_lines : (f u : Ty) (s : Standing) (a v : Ty) (i : Implied) → element f ≡ Some u → element_for T env s a ≡ Some v → Contains (list u s v) i → Contains (list f s a) i
  unfolding element
  array_lines f u s a v i eu ev h = array_line (out-Ty f) f u s a v i (sym (roll-out-Ty f)) eu ev h

  beside_there : (xs ys : List Arg) (x y : Arg) (s : Standing) (i : Implied) → AtOnePlace xs ys x y → Contains (arg_list x s y) i → Contains (beside (map arg_list xs) s ys) i
  beside_there [] ys x y s i at h = absurd at
  beside_there (a ∷ xs) [] x y s i at h = absurd at
  beside_there (a ∷ xs) (b ∷ ys) x y s i (inl e) h =
      Contains-append_left (arg_list a s b) (beside (map arg_list xs) s ys) i
      (subst (λ b. Contains (arg_list a s b) i) (sym e.1) (subst (λ a. Contains (arg_list a s y) i) (sym e.0) h))
  beside_there (a ∷ xs) (b ∷ ys) x y s i (inr at) h =
      Contains-append_right (arg_list a s b) (beside (map arg_list xs) s ys) i (beside_there xs ys x y s i at h)

  mapped_part : (l : Arg-F Arg Ty) (u : Ty) → part_of l ≡ Some u → part_of (map-Arg Arg Ty ArgImplies Implies arg_list list l) ≡ Some (list u)
  mapped_part (Arg-F.Exact t) u e = let same : t ≡ u = cc in ap (λ t. Some (list t)) same
  mapped_part Arg-F.Any u e = cc
  mapped_part (Arg-F.Extends t) u e = let same : t ≡ u = cc in ap (λ t. Some (list t)) same
  mapped_part (Arg-F.Super t) u e = let same : t ≡ u = cc in ap (λ t. Some (list t)) same

  mapped_kind : (l : Arg-F Arg Ty) → kind_of (map-Arg Arg Ty ArgImplies Implies arg_list list l) ≡ kind_of l
  mapped_kind (Arg-F.Exact t) = refl
  mapped_kind Arg-F.Any = refl
  mapped_kind (Arg-F.Extends t) = refl
  mapped_kind (Arg-F.Super t) = refl

  arg_list_is : (x : Arg) (s : Standing) (y : Arg) (u v : Ty) (r : Standing) → part_of (out-Arg x) ≡ Some u → part_of (out-Arg y) ≡ Some v
      → standing_of s (kind_of (out-Arg x)) (kind_of (out-Arg y)) ≡ Some r → arg_list x s y ≡ list u r v
  unfolding implied implied_by_arg
  arg_list_is x s y u v r eu ev er =
      let opened : arg_list x s y ≡ rolled_arg_list (out-Arg x) s y = ap (λ (g : ArgImplies). g s y) (fold_out-Arg ArgImplies Implies arg_step (type_step T env unknown) x) in
      let kinds : standing_of s (kind_of (map-Arg Arg Ty ArgImplies Implies arg_list list (out-Arg x))) (kind_of (out-Arg y)) ≡ Some r = ap (λ k. standing_of s k (kind_of (out-Arg y))) (mapped_kind (out-Arg x)) ∙ er in
      opened
      ∙ ap (λ o. of_parts o (part_of (out-Arg y)) (standing_of s (kind_of (map-Arg Arg Ty ArgImplies Implies arg_list list (out-Arg x))) (kind_of (out-Arg y)))) (mapped_part (out-Arg x) u eu)
      ∙ ap (λ o. of_parts (Some (list u)) o (standing_of s (kind_of (map-Arg Arg Ty ArgImplies Implies arg_list list (out-Arg x))) (kind_of (out-Arg y)))) ev
      ∙ ap (λ o. of_parts (Some (list u)) (Some v) o) kinds

  parameter_line : (f : Ty) (s : Standing) (a : Ty) (i : Implied) → f ≡ Variable i.variable → is_unknown unknown i.variable ≡ true → i.standing ≡ s → i.ty ≡ a → Contains (list f s a) i
  parameter_line f s a i ef eu es et =
      let now : list f s a ≡ record { variable = i.variable; standing = s; ty = a } ∷ [] =
      ap (λ f. list f s a) ef ∙ implied-Variable T env unknown i.variable s a ∙ ap (λ b. implied_if b i.variable s a) eu in
      subst (λ l. Contains l i) (sym now) (here_in _ i (ap (λ s. record { variable = i.variable; standing = s; ty = a }) (sym es) ∙ ap (λ a. record { variable = i.variable; standing = i.standing; ty = a }) (sym et)))

  lined : (f : Ty) (s : Standing) (a : Ty) (i : Implied) → Lines f s a i → Contains (list f s a) i
  lined f s a i (parameter ef eu es et) = parameter_line f s a i ef eu es et
  lined f s a i (elements u v eu ev h) = array_lines f u s a v i eu ev (lined u s v i h)
  lined f s a i (arguments k xs x y u v r ef at eu ev er h) =
      let now : list f s a ≡ beside (map arg_list xs) s (args_for T env s k a) = ap (λ f. list f s a) ef ∙ implied-Class T env unknown k xs s a in
      subst (λ l. Contains l i) (sym now)
      (beside_there xs (args_for T env s k a) x y s i at (subst (λ l. Contains l i) (sym (arg_list_is x s y u v r eu ev er)) (lined u r v i h)))

  pub lines_are_listed : (f : Ty) (s : Standing) (a : Ty) (i : Implied) → Contains (implied T env unknown f s a) i ↔ ByLines T env unknown f s a i
  lines_are_listed f s a i = (listed f s a i, lined f s a i)
