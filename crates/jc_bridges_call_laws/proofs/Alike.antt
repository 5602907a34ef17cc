-- An erased program selects by name and descriptor what its table says.
use Rattle.std.proofs.Common.{◌≡◌, ℕ, zero, suc, Bool, true, false, not, List, [], ◌∷◌, Option, Some, None, map, inl, inr, refl, sym, ◌∙◌, ap, cond}
use Rattle.std.specs.Prelude.{◌&&◌, ◌==◌, if◌then◌else◌}
use Rattle.std.specs.Option.{option_map}
use Rattle.std.specs.Str.{bytes_eq}
use Rattle.jc_types.specs.declared.declarations.Access.{Access}
use Rattle.jc_types.specs.declared.declarations.Access.TheVariants as access
use Rattle.jc_types.specs.declared.declarations.MethodKind.{MethodKind}
use Rattle.jc_types.specs.declared.declarations.MethodKind.TheVariants as method_kind
use Rattle.jc_types.specs.declared.declarations.Modifiers.{Modifiers}
use Rattle.jc_types.specs.declared.erased.Base.{Base}
use Rattle.jc_types.specs.declared.erased.Base.TheVariants as base
use Rattle.jc_types.specs.declared.erased.Erased.{Erased}
use Rattle.jc_types.specs.declared.form.Arg.{Arg}
use Rattle.jc_types.specs.declared.form.Primitive.{Primitive}
use Rattle.jc_types.specs.declared.form.Primitive.TheVariants.{Boolean, Byte, Short, Char, Int, Long}
use Rattle.jc_types.specs.declared.form.Ty.{Ty, Ty-F, out-Ty}
use Rattle.jc_types.specs.declared.ids.ClassId.{ClassId}
use Rattle.jc_types.specs.declared.ids.MethodId.{MethodId}
use Rattle.jc_types.specs.declared.table.Table.{Table}
use Rattle.jc_types.specs.Accessors.{method_kind_of, method_modifiers_of, method_name_of, methods_of, params_of, result_of, supers_of}
use Rattle.jc_types.specs.Erasing.{erasure}
use Rattle.jc_judge.specs.Kinds as kinds
use Rattle.jc_heaps.specs.Classes as heaps
use Rattle.jc_overriding.specs.Overriding.{access_in, kind_in, superclass}
use Rattle.jc_overriding.specs.Viewing.{static_in}
use Rattle.jc_bridges_spec.specs.declared.bridge.Bridge.{Bridge}
use Rattle.jc_bridges_spec.specs.Bridging.{bridges}
use Rattle.jc_bridges_spec.specs.Descriptors as table
use Rattle.jc_erased.specs.declared.program.ErasedProgram.{ErasedProgram}
use Rattle.jc_erased.specs.Programs.{erased_type}
use Rattle.jc_erased.specs.Selecting as erased
use Rattle.jc_bridges_laws.specs.Bodies.{IsListed}
use Rattle.jc_bridges_laws.specs.Selecting as selecting
use Rattle.jc_bridges_laws.proofs.Found.{bridges_right, wanted}
use Rattle.jc_bridges_call_laws.specs.Calls.{HasBridges}

-- ---- superclasses

one_class : (l : Ty-F Arg Ty) → heaps.class_at l ≡ kinds.class_at l
one_class (Ty-F.Prim p) = refl
one_class (Ty-F.Class id args) = refl
one_class (Ty-F.Raw id) = refl
one_class (Ty-F.Array t n) = refl
one_class (Ty-F.Variable v) = refl
one_class (Ty-F.Captured c) = refl
one_class (Ty-F.Meet parts) = refl
one_class Ty-F.NullTy = refl

one_class_of : (t : Ty) → heaps.class_of t ≡ kinds.class_of t
unfolding kinds.class_of
one_class_of t = one_class (out-Ty t)

pub one_superclass : (T : Table) (k : ClassId) → heaps.superclass_of T k ≡ superclass T k
one_superclass T k = by (supers_of T k) refl
  where
    by : (ss : List Ty) → supers_of T k ≡ ss → heaps.superclass_of T k ≡ superclass T k
    by [] e = rw e refl
    by (t ∷ ts) e = rw e (one_class_of t)

-- ---- erased types and descriptors

one_primitive : (p q : Primitive) → heaps.same_primitive p q ≡ table.same_primitive p q
one_primitive Boolean Boolean = refl
one_primitive Boolean Byte = refl
one_primitive Boolean Short = refl
one_primitive Boolean Char = refl
one_primitive Boolean Int = refl
one_primitive Boolean Long = refl
one_primitive Byte Boolean = refl
one_primitive Byte Byte = refl
one_primitive Byte Short = refl
one_primitive Byte Char = refl
one_primitive Byte Int = refl
one_primitive Byte Long = refl
one_primitive Short Boolean = refl
one_primitive Short Byte = refl
one_primitive Short Short = refl
one_primitive Short Char = refl
one_primitive Short Int = refl
one_primitive Short Long = refl
one_primitive Char Boolean = refl
one_primitive Char Byte = refl
one_primitive Char Short = refl
one_primitive Char Char = refl
one_primitive Char Int = refl
one_primitive Char Long = refl
one_primitive Int Boolean = refl
one_primitive Int Byte = refl
one_primitive Int Short = refl
one_primitive Int Char = refl
one_primitive Int Int = refl
one_primitive Int Long = refl
one_primitive Long Boolean = refl
one_primitive Long Byte = refl
one_primitive Long Short = refl
one_primitive Long Char = refl
one_primitive Long Int = refl
one_primitive Long Long = refl

one_base : (a b : Base) → heaps.same_base a b ≡ table.same_base a b
one_base (base.Prim p) (base.Prim q) = one_primitive p q
one_base (base.Prim p) (base.Class c) = refl
one_base (base.Prim p) base.NullTy = refl
one_base (base.Class k) (base.Prim q) = refl
one_base (base.Class k) (base.Class c) = refl
one_base (base.Class k) base.NullTy = refl
one_base base.NullTy (base.Prim q) = refl
one_base base.NullTy (base.Class c) = refl
one_base base.NullTy base.NullTy = refl

pub one_erased : (e f : Erased) → heaps.same_erased e f ≡ table.same_erased e f
one_erased e f = ap (λ b. (e.dims == f.dims) && b) (one_base e.base f.base)

one_erasure : (T : Table) (s t : Ty) → heaps.same_erased (erasure T [] s) (erasure T [] t) ≡ table.same_erasure T s t
unfolding table.same_erasure
one_erasure T s t = one_erased (erasure T [] s) (erasure T [] t)

module _ (E : ErasedProgram) where
  params_alike : (ss ts : List Ty) → erased.same_params (map (erased_type E) ss) (map (erased_type E) ts) ≡ table.same_erasures E.table ss ts
  params_alike [] [] = refl
  params_alike [] (t ∷ ts) = refl
  params_alike (s ∷ ss) [] = refl
  params_alike (s ∷ ss) (t ∷ ts) =
      ap (λ b. b && erased.same_params (map (erased_type E) ss) (map (erased_type E) ts)) (one_erasure E.table s t)
      ∙ ap (λ b. table.same_erasure E.table s t && b) (params_alike ss ts)

  results_alike : (s t : Option Ty) → erased.same_result (erased.erased_result E s) (erased.erased_result E t) ≡ table.same_results E.table s t
  results_alike None None = refl
  results_alike None (Some t) = refl
  results_alike (Some s) None = refl
  results_alike (Some s) (Some t) = one_erasure E.table s t

  descriptors_alike : (m n : MethodId) → erased.same_descriptor (erased.descriptor_of E m) (erased.descriptor_of E n) ≡ table.same_descriptor E.table m n
  descriptors_alike m n =
      ap (λ b. b && erased.same_result (erased.erased_result E (result_of E.table m)) (erased.erased_result E (result_of E.table n))) (params_alike (params_of E.table m) (params_of E.table n))
      ∙ ap (λ b. table.same_erasures E.table (params_of E.table m) (params_of E.table n) && b) (results_alike (result_of E.table m) (result_of E.table n))

  -- ---- methods that may be selected

  by_kind : (o : Option MethodKind) (p : Option Modifiers) → (erased.is_plain_kind o && erased.is_virtual_in p) ≡ ((kind_in o && not (static_in p)) && not (table.is_private (access_in p)))
  by_kind None p = refl
  by_kind (Some method_kind.Method) None = refl
  by_kind (Some method_kind.Method) (Some d) = by d.is_static d.access
    where
      by : (b : Bool) (a : Access) → (not b && not (erased.is_private a)) ≡ (not b && not (table.is_private a))
      by b access.Public = refl
      by b access.Protected = refl
      by b access.Package = refl
      by b access.Private = refl
  by_kind (Some method_kind.Constructor) p = refl
  by_kind (Some method_kind.ImpliedConstructor) p = refl
  by_kind (Some method_kind.StaticInitialiser) p = refl

  pub selectable_alike : (m : MethodId) → erased.is_selectable E m ≡ table.is_selectable E.table m
  selectable_alike m = by_kind (method_kind_of E.table m) (method_modifiers_of E.table m)

  -- ---- what is selected

  -- what a table's selection is in the program
  abbrev pub as_selected : selecting.Selected → erased.Selected
  as_selected (selecting.Written m) = erased.Written m
  as_selected (selecting.Across b) = erased.Across b

  module _ (H : HasBridges E) where
    called_alike : (n m : MethodId) → table.is_selectable E.table n ≡ true → table.is_selectable E.table m ≡ true → erased.is_called_as E n m ≡ table.is_called_as E.table n m
    called_alike n m sn sm =
        ap (λ b. b && erased.same_descriptor (erased.descriptor_of E n) (erased.descriptor_of E m)) (H.names n m sn sm)
        ∙ ap (λ b. bytes_eq (method_name_of E.table n) (method_name_of E.table m) && b) (descriptors_alike n m)

    both_alike : (n m : MethodId) → table.is_selectable E.table m ≡ true
        → (erased.is_selectable E n && erased.is_called_as E n m) ≡ (table.is_selectable E.table n && table.is_called_as E.table n m)
    both_alike n m sm = by (table.is_selectable E.table n) refl
      where
        by : (b : Bool) → table.is_selectable E.table n ≡ b → (erased.is_selectable E n && erased.is_called_as E n m) ≡ (table.is_selectable E.table n && table.is_called_as E.table n m)
        by true e =
            ap (λ b. b && erased.is_called_as E n m) (selectable_alike n) ∙ ap (λ b. table.is_selectable E.table n && b) (called_alike n m e sm)
        by false e =
            ap (λ b. b && erased.is_called_as E n m) (selectable_alike n ∙ e) ∙ ap (λ b. b && table.is_called_as E.table n m) (sym e)

    chosen : (c : Bool) (x : selecting.Selected) (r : Option selecting.Selected)
        → (if c then Some (as_selected x) else option_map as_selected r) ≡ option_map as_selected (cond c (Some x) r)
    chosen true x r = refl
    chosen false x r = refl

    methods_alike : (m : MethodId) → table.is_selectable E.table m ≡ true → (ns : List MethodId) (o : Option selecting.Selected)
        → erased.among_methods E m ns (option_map as_selected o) ≡ option_map as_selected (selecting.among_methods E.table m ns o)
    methods_alike m sm [] o = refl
    methods_alike m sm (n ∷ ns) o =
        ap (λ c. if c then Some (erased.Written n) else erased.among_methods E m ns (option_map as_selected o)) (both_alike n m sm)
        ∙ ap (λ r. if table.is_selectable E.table n && table.is_called_as E.table n m then Some (erased.Written n) else r) (methods_alike m sm ns o)
        ∙ chosen (table.is_selectable E.table n && table.is_called_as E.table n m) (selecting.Written n) (selecting.among_methods E.table m ns o)

    bridges_alike : (m : MethodId) → table.is_selectable E.table m ≡ true → (bs : List Bridge) → ((b : Bridge) → IsListed b bs → table.is_selectable E.table b.called ≡ true)
        → erased.among_bridges E m bs ≡ option_map as_selected (selecting.among_bridges E.table m bs)
    bridges_alike m sm [] all = refl
    bridges_alike m sm (b ∷ bs) all =
        ap (λ c. if c then Some (erased.Across b) else erased.among_bridges E m bs) (called_alike b.called m (all b (inl refl)) sm)
        ∙ ap (λ r. if table.is_called_as E.table b.called m then Some (erased.Across b) else r) (bridges_alike m sm bs (λ c l. all c (inr l)))
        ∙ chosen (table.is_called_as E.table b.called m) (selecting.Across b) (selecting.among_bridges E.table m bs)

    class_alike : (m : MethodId) → table.is_selectable E.table m ≡ true → (k : ClassId) → erased.in_class E m k ≡ option_map as_selected (selecting.in_class E.table m k)
    class_alike m sm k =
        ap (λ bs. erased.among_methods E m (methods_of E.table k) (erased.among_bridges E m bs)) (H.bridges_are k)
        ∙ ap (erased.among_methods E m (methods_of E.table k)) (bridges_alike m sm (bridges E.table k) (λ b l. (wanted E.table k b.called ((bridges_right E.table k b l).0)).selectable))
        ∙ methods_alike m sm (methods_of E.table k) (selecting.among_bridges E.table m (bridges E.table k))

    above_alike : (f : ClassId → Option erased.Selected) (g : ClassId → Option selecting.Selected) → ((c : ClassId) → f c ≡ option_map as_selected (g c))
        → (o : Option selecting.Selected) (s : Option ClassId) → erased.or_above f (option_map as_selected o) s ≡ option_map as_selected (selecting.or_above g o s)
    above_alike f g e (Some x) s = refl
    above_alike f g e None (Some c) = e c
    above_alike f g e None None = refl

    pub selected_alike : (m : MethodId) → table.is_selectable E.table m ≡ true → (n : ℕ) (k : ClassId)
        → erased.selected_within E m n k ≡ option_map as_selected (selecting.selected_within E.table m n k)
    unfolding erased.selected_within selecting.selected_within
    selected_alike m sm zero k = refl
    selected_alike m sm (suc n) k =
        ap (λ o. erased.or_above (erased.selected_within E m n) o (heaps.superclass_of E.table k)) (class_alike m sm k)
        ∙ ap (λ s. erased.or_above (erased.selected_within E m n) (option_map as_selected (selecting.in_class E.table m k)) s) (one_superclass E.table k)
        ∙ above_alike (erased.selected_within E m n) (selecting.selected_within E.table m n) (selected_alike m sm n) (selecting.in_class E.table m k) (superclass E.table k)
