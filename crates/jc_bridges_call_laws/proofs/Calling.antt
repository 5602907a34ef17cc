-- Calls of erased programs run bodies: by what selection leads to, and as checks depend on erasures alone.
use Rattle.std.proofs.Common.{◌≡◌, ◌⊎◌, inl, inr, ℕ, zero, suc, ◌+◌, true, false, List, [], ◌∷◌, Option, Some, None, map, refl, sym, ◌∙◌, ap, subst, arith}
use Rattle.std.specs.Prelude.{if◌then◌else◌}
use Rattle.std.specs.Option.{option_map}
use Rattle.jc_types.specs.declared.erased.Erased.{Erased}
use Rattle.jc_types.specs.declared.form.Ty.{Ty}
use Rattle.jc_types.specs.declared.ids.ClassId.{ClassId}
use Rattle.jc_types.specs.declared.ids.MethodId.{MethodId}
use Rattle.jc_types.specs.declared.table.Table.{Table}
use Rattle.jc_types.specs.Accessors.{class_count, is_interface, methods_of, params_of, result_of}
use Rattle.jc_types.specs.Erasing.{erasure}
use Rattle.jc_running.specs.declared.seen.Check.TheVariants.{EntryGuard}
use Rattle.jc_running.specs.declared.value.Value.{Value}
use Rattle.jc_running.specs.declared.value.Value.TheVariants.{Address}
use Rattle.jc_running.specs.Outcomes.{Out, Val, Thrown, Exited, Going, Wrong, bind, give, on_both, throw}
use Rattle.jc_heaps.specs.declared.state.Object.{Object}
use Rattle.jc_heaps.specs.Classes.{is_of, methods_class}
use Rattle.jc_heaps.specs.Erases.{ErasedState}
use Rattle.jc_heaps.specs.Making.{checked}
use Rattle.jc_overriding.specs.Overriding.{superclass}
use Rattle.jc_bridges_spec.specs.declared.bridge.Bridge.{Bridge}
use Rattle.jc_bridges_spec.specs.Bridging.{bridges}
use Rattle.jc_bridges_spec.specs.Descriptors.{is_called_as, is_selectable}
use Rattle.jc_erased.specs.declared.program.ErasedProgram.{ErasedProgram}
use Rattle.jc_erased.specs.Programs.{ErasedRun, erased_keeping}
use Rattle.jc_erased.specs.Calls.{Bodies, answered, call_found, call_named, entered, entered_all, run_method}
use Rattle.jc_bridges_laws.specs.Bodies.{HasBodies, IsBody, IsListed, LeadsTo}
use Rattle.jc_bridges_laws.specs.Selecting as selecting
use Rattle.jc_bridges_laws.proofs.Found.{HasNoBridge, HasNone, IsCrossed, IsFound, across, among, bridges_right}
use Rattle.jc_bridges_laws.proofs.Keys.{called_key, erased_self}
use Rattle.jc_bridges_laws.proofs.Leading.{bridge_virtual, bridges_lead, selected_step}
use Rattle.jc_bridges_call_laws.specs.Calls.{HasBridges, RunsBody}
use Rattle.jc_bridges_call_laws.proofs.Alike.{as_selected, one_erased, selected_alike}

-- ---- a bridge leads to a method that may be selected

crossed_selectable : (T : Table) → HasBodies T → (m : MethodId) (n : ℕ) (k : ClassId) (b : Bridge) → selecting.selected_within T m n k ≡ Some (selecting.Across b) → is_selectable T b.own ≡ true
unfolding selecting.selected_within
crossed_selectable T H m zero k b e = cc
crossed_selectable T H m (suc n) k b e = by (λ c. crossed_selectable T H m n c b) (among T m (methods_of T k) (selecting.among_bridges T m (bridges T k)))
  where
    own : (x : Bridge) → IsListed x (bridges T k) → Some (selecting.Across x) ≡ Some (selecting.Across b) → is_selectable T b.own ≡ true
    own x l f =
        let is : x ≡ b = cc in
        let r = bridges_right T k x l in
        subst (λ (y : Bridge). is_selectable T y.own ≡ true) is ((H.itself k x.called x.own (record { virtual = bridge_virtual T k x r; body = r.1 })).virtual.selectable)

    up : ((c : ClassId) → selecting.selected_within T m n c ≡ Some (selecting.Across b) → is_selectable T b.own ≡ true) → selecting.in_class T m k ≡ None
        → (s : Option ClassId) → superclass T k ≡ s → is_selectable T b.own ≡ true
    up further none None f = let g : None ≡ Some (selecting.Across b) = sym (selected_step T m n k None None none f) ∙ e in cc
    up further none (Some c) f = further c (sym (selected_step T m n k None (Some c) none f) ∙ e)

    crossing : ((c : ClassId) → selecting.selected_within T m n c ≡ Some (selecting.Across b) → is_selectable T b.own ≡ true)
        → selecting.in_class T m k ≡ selecting.among_bridges T m (bridges T k)
        → IsCrossed T m (bridges T k) (selecting.among_bridges T m (bridges T k)) ⊎ ((selecting.among_bridges T m (bridges T k) ≡ None) × HasNoBridge T m (bridges T k))
        → is_selectable T b.own ≡ true
    crossing further g (inl x) = own x.0 x.1 (sym (selected_step T m n k (Some (selecting.Across x.0)) (superclass T k) (g ∙ x.3) refl) ∙ e)
    crossing further g (inr y) = up further (g ∙ y.0) (superclass T k) refl

    by : ((c : ClassId) → selecting.selected_within T m n c ≡ Some (selecting.Across b) → is_selectable T b.own ≡ true)
        → IsFound T m (methods_of T k) (selecting.in_class T m k) ⊎ ((selecting.in_class T m k ≡ selecting.among_bridges T m (bridges T k)) × HasNone T m (methods_of T k)) → is_selectable T b.own ≡ true
    by further (inl f) = let g : Some (selecting.Written f.0) ≡ Some (selecting.Across b) = sym (selected_step T m n k (Some (selecting.Written f.0)) (superclass T k) f.4 refl) ∙ e in cc
    by further (inr g) = crossing further g.0 (across T m (bridges T k))

-- ---- checks depend on erasures alone

module _ (E : ErasedProgram) where
  entered_by : List Erased → List Erased → List Value → ErasedRun (List Value)
  entered_by (c ∷ cs) (o ∷ os) (v ∷ vs) = bind (entered E c o v) (λ w. bind (entered_by cs os vs) (λ ws. give (w ∷ ws)))
  entered_by _ _ vs = give vs

  entered_is : (cs os : List Ty) (vs : List Value) → entered_all E cs os vs ≡ entered_by (map (erasure E.table []) cs) (map (erasure E.table []) os) vs
  unfolding entered_by
  entered_is [] os vs = refl
  entered_is (c ∷ cs) [] vs = refl
  entered_is (c ∷ cs) (o ∷ os) [] = refl
  entered_is (c ∷ cs) (o ∷ os) (v ∷ vs) =
      ap (λ r. bind (entered E (erasure E.table [] c) (erasure E.table [] o) v) (λ w. bind r (λ ws. give (w ∷ ws)))) (entered_is cs os vs)

  own_entered : (e : Erased) (v : Value) → entered E e e v ≡ give v
  own_entered e v = ap (λ c. if c then give v else checked erased_keeping E.table E.known EntryGuard e v) (one_erased e e ∙ erased_self e)

  entered_same : (es : List Erased) (vs : List Value) (u : ℕ) (s : ErasedState) → entered_by es es vs u s ≡ Val vs u s
  unfolding entered_by
  entered_same [] vs u s = refl
  entered_same (e ∷ es) [] u s = refl
  entered_same (e ∷ es) (v ∷ vs) u s =
      ap (λ r. bind r (λ w. bind (entered_by es es vs) (λ ws. give (w ∷ ws))) u s) (own_entered e v)
      ∙ ap (λ out. on_both out (λ ws. give (v ∷ ws)) throw) (entered_same es vs u s)

  answered_by : Option Erased → Option Erased → Value → ErasedRun Value
  answered_by (Some c) (Some o) v = if is_of E.table o c then give v else checked erased_keeping E.table E.known EntryGuard c v
  answered_by _ _ v = give v

  answered_is : (c o : Option Ty) → answered E c o ≡ answered_by (option_map (erasure E.table []) c) (option_map (erasure E.table []) o)
  unfolding answered_by
  answered_is None o = refl
  answered_is (Some c) None = refl
  answered_is (Some c) (Some o) = refl

  answered_same : (r : Option Erased) → ((e : Erased) → r ≡ Some e → is_of E.table e e ≡ true) → (v : Value) (u : ℕ) (s : ErasedState) → answered_by r r v u s ≡ Val v u s
  unfolding answered_by
  answered_same None own v u s = refl
  answered_same (Some e) own v u s = ap (λ c. (if c then give v else checked erased_keeping E.table E.known EntryGuard e v) u s) (own e refl)

  behind_same : (r : Option Erased) → ((e : Erased) → r ≡ Some e → is_of E.table e e ≡ true) → (out : Out ErasedState Value) → on_both out (answered_by r r) throw ≡ out
  behind_same r own (Val v u s) = answered_same r own v u s
  behind_same r own (Thrown a u s) = refl
  behind_same r own (Exited code s) = refl
  behind_same r own (Going s) = refl
  behind_same r own Wrong = refl

  params_by : (m n : MethodId) → is_called_as E.table m n ≡ true → map (erasure E.table []) (params_of E.table m) ≡ map (erasure E.table []) (params_of E.table n)
  params_by m n c = ap (λ k. k.params) (called_key E.table m n c)

  result_by : (m n : MethodId) → is_called_as E.table m n ≡ true → option_map (erasure E.table []) (result_of E.table m) ≡ option_map (erasure E.table []) (result_of E.table n)
  result_by m n c = ap (λ k. k.result) (called_key E.table m n c)

  -- ---- calls

  module _ (H : HasBridges E) (B : HasBodies E.table) (body : Bodies) (a : ℕ) (o : Object Erased) where
    own_result : (m : MethodId) (e : Erased) → option_map (erasure E.table []) (result_of E.table m) ≡ Some e → is_of E.table e e ≡ true
    own_result m e f = by (result_of E.table m) refl f
      where
        by : (r : Option Ty) → result_of E.table m ≡ r → option_map (erasure E.table []) r ≡ Some e → is_of E.table e e ≡ true
        by None g f = cc
        by (Some t) g f = let is : erasure E.table [] t ≡ e = cc in subst (λ x. is_of E.table x x ≡ true) is (H.results m t g)

    called : (n : ℕ) (m : MethodId) (args : List Value) (u : ℕ) (s : ErasedState) (x : selecting.Selected) → is_selectable E.table m ≡ true
        → selecting.selected E.table (methods_class o.kept) m ≡ Some x → call_named E body (suc n) a o m args u s ≡ call_found E body (call_named E body n a o) a args (Some (as_selected E x)) u s
    called n m args u s x sm f =
        ap (λ r. call_found E body (call_named E body n a o) a args r u s) (selected_alike E H m sm (class_count E.table + 1) (methods_class o.kept) ∙ ap (option_map (as_selected E)) f)

    -- at once
    written : (n : ℕ) (m own : MethodId) (args : List Value) (u : ℕ) (s : ErasedState) → is_selectable E.table m ≡ true
        → selecting.selected E.table (methods_class o.kept) m ≡ Some (selecting.Written own) → call_named E body (suc n) a o m args u s ≡ run_method E body own (Address a ∷ args) u s
    written n m own args u s sm f = called n m args u s (selecting.Written own) sm f

    plain : (m own : MethodId) (args : List Value) (u : ℕ) (s : ErasedState) → is_called_as E.table own m ≡ true
        → run_method E body own (Address a ∷ args) u s
        ≡ bind (entered_all E (params_of E.table m) (params_of E.table own) args) (λ vs. bind (run_method E body own (Address a ∷ vs)) (answered E (result_of E.table m) (result_of E.table own))) u s
    plain m own args u s c =
        sym (
        ap (λ r. bind r (λ vs. bind (run_method E body own (Address a ∷ vs)) (answered E (result_of E.table m) (result_of E.table own))) u s)
        (entered_is (params_of E.table m) (params_of E.table own) args
        ∙ ap (λ es. entered_by es (map (erasure E.table []) (params_of E.table own)) args) (sym (params_by own m c)))
        ∙ ap (λ out. on_both out (λ vs. bind (run_method E body own (Address a ∷ vs)) (answered E (result_of E.table m) (result_of E.table own))) throw)
        (entered_same (map (erasure E.table []) (params_of E.table own)) args u s)
        ∙ ap (λ f. on_both (run_method E body own (Address a ∷ args) u s) f throw)
        (answered_is (result_of E.table m) (result_of E.table own)
        ∙ ap (λ r. answered_by r (option_map (erasure E.table []) (result_of E.table own))) (sym (result_by own m c)))
        ∙ behind_same (option_map (erasure E.table []) (result_of E.table own)) (own_result own) (run_method E body own (Address a ∷ args) u s))

    -- by way of a bridge
    crossed : (m own : MethodId) (b : Bridge) (args : List Value) (u : ℕ) (s : ErasedState) → is_selectable E.table m ≡ true
        → selecting.selected E.table (methods_class o.kept) m ≡ Some (selecting.Across b) → is_called_as E.table b.called m ≡ true → is_called_as E.table own b.own ≡ true
        → selecting.selected E.table (methods_class o.kept) b.own ≡ Some (selecting.Written own)
        → call_named E body (suc (suc (class_count E.table))) a o m args u s
        ≡ bind (entered_all E (params_of E.table m) (params_of E.table own) args) (λ vs. bind (run_method E body own (Address a ∷ vs)) (answered E (result_of E.table m) (result_of E.table own))) u s
    crossed m own b args u s sm f cb co g =
        called (suc (class_count E.table)) m args u s (selecting.Across b) sm f
        ∙ ap (λ x. bind (entered_all E (params_of E.table b.called) (params_of E.table b.own) args) (λ vs.
        bind (call_found E body (call_named E body (class_count E.table) a o) a vs x) (answered E (result_of E.table b.called) (result_of E.table b.own))) u s)
        (selected_alike E H b.own (crossed_selectable E.table B m (class_count E.table + 1) (methods_class o.kept) b f) (class_count E.table + 1) (methods_class o.kept) ∙ ap (option_map (as_selected E)) g)
        ∙ ap (λ r. bind r (λ vs. bind (run_method E body own (Address a ∷ vs)) (answered E (result_of E.table b.called) (result_of E.table b.own))) u s)
        (entered_is (params_of E.table b.called) (params_of E.table b.own) args
        ∙ ap (λ es. entered_by es (map (erasure E.table []) (params_of E.table b.own)) args) (params_by b.called m cb)
        ∙ ap (λ es. entered_by (map (erasure E.table []) (params_of E.table m)) es args) (sym (params_by own b.own co))
        ∙ sym (entered_is (params_of E.table m) (params_of E.table own) args))
        ∙ ap (λ r. bind (entered_all E (params_of E.table m) (params_of E.table own) args) (λ vs. bind (run_method E body own (Address a ∷ vs)) r) u s)
        (answered_is (result_of E.table b.called) (result_of E.table b.own)
        ∙ ap (λ r. answered_by r (option_map (erasure E.table []) (result_of E.table b.own))) (result_by b.called m cb)
        ∙ ap (λ r. answered_by (option_map (erasure E.table []) (result_of E.table m)) r) (sym (result_by own b.own co))
        ∙ sym (answered_is (result_of E.table m) (result_of E.table own)))

    runs : (m own : MethodId) (args : List Value) → is_selectable E.table m ≡ true → LeadsTo E.table (methods_class o.kept) m own → RunsBody E body a o m own args
    runs m own args sm (inl w) u s = let two : class_count E.table + 2 ≡ suc (suc (class_count E.table)) = omega arith in
        ap (λ n. call_named E body n a o m args u s) two ∙ written (suc (class_count E.table)) m own args u s sm w.0 ∙ plain m own args u s w.1
    runs m own args sm (inr b) u s = let two : class_count E.table + 2 ≡ suc (suc (class_count E.table)) = omega arith in
        ap (λ n. call_named E body n a o m args u s) two ∙ crossed m own b.0 args u s sm b.1 b.2 b.3 b.4

pub calls_run : (E : ErasedProgram) → HasBridges E → HasBodies E.table → (body : Bodies) (a : ℕ) (o : Object Erased) (m own : MethodId) (args : List Value)
    → is_interface E.table (methods_class o.kept) ≡ false → IsBody E.table (methods_class o.kept) m own → RunsBody E body a o m own args
calls_run E H B body a o m own args i b = runs E H B body a o m own args b.virtual.selectable (bridges_lead E.table B (methods_class o.kept) m own i b)
