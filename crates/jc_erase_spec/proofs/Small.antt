-- A small program and its erasure.
use Rattle.std.proofs.Common.{◌≡◌, ℕ, zero, suc, List, [], ◌∷◌, refl, ap, sym, ◌∙◌, subst, Option, Some, None, arith, false}
use Rattle.std.specs.Prelude.{slice_get}
use Rattle.jc_types.specs.declared.form.Ty.{Ty}
use Rattle.jc_types.specs.declared.form.Ty.TheVariants.{Class, NullTy, outs-Class, outs-Raw}
use Rattle.jc_types.specs.declared.form.Arg.TheVariants.{Exact}
use Rattle.jc_types.specs.declared.ids.ClassId.{ClassId}
use Rattle.jc_types.specs.declared.ids.MethodId.{MethodId}
use Rattle.jc_types.specs.declared.ids.VarId.{VarId}
use Rattle.jc_types.specs.declared.table.Table.{Table}
use Rattle.jc_types.specs.Accessors.{vars_of}
use Rattle.jc_types.specs.Erasing.{erasure}
use Rattle.jc_overriding.specs.Viewing.{erased_type, plain_class}
use Rattle.jc_running.specs.declared.value.Value.{Value}
use Rattle.jc_running.specs.declared.value.Value.TheVariants.{Null as NullValue}
use Rattle.jc_running.specs.declared.value.Completion.{Completion}
use Rattle.jc_running.specs.declared.value.Completion.TheVariants.{Normal, Broke, Continued, Returned}
use Rattle.jc_running.specs.Outcomes.{give, next, node}
use Rattle.jc_heaps.specs.Layout.{default_at, default_value}
use Rattle.jc_heaps.proofs.Erases as x
use Rattle.jc_typed.specs.declared.expressions.ExprNode.TheVariants as en
use Rattle.jc_typed.specs.declared.expressions.ExprForm.TheVariants as f
use Rattle.jc_typed.specs.declared.expressions.OperandNode.TheVariants as on
use Rattle.jc_typed.specs.declared.lists.ListNode.TheVariants as l
use Rattle.jc_typed.specs.declared.lists.StepNode.TheVariants as sn
use Rattle.jc_typed.specs.declared.lists.StepsNode.TheVariants as ss
use Rattle.jc_typed.specs.declared.lists.CapturesNode.TheVariants as cs
use Rattle.jc_typed.specs.declared.lists.DeclaredNode.TheVariants as ds
use Rattle.jc_typed.specs.declared.statements.StmtForm.TheVariants as sf
use Rattle.jc_typed.specs.declared.nodes.Node.{Node}
use Rattle.jc_typed.specs.declared.nodes.Node.TheVariants as n
use Rattle.jc_typed.specs.declared.program.Known.{Known}
use Rattle.jc_typed.specs.declared.program.TypedMethod.{TypedMethod}
use Rattle.jc_typed.specs.declared.program.TypedProgram.{TypedProgram}
use Rattle.jc_typed.specs.Bulk.{method_bulk}
use Rattle.jc_typed.specs.Parts.{nowhere, parts, part_in}
use Rattle.jc_typed.specs.Trees.{Up, NoOperands, MoreOperands, Stmt}
use Rattle.jc_meaning.specs.declared.frame.Frame.{Frame}
use Rattle.jc_meaning.specs.declared.frame.Read.{Read}
use Rattle.jc_meaning.specs.declared.target.Native.{Native}
use Rattle.jc_meaning.specs.Kept.{TypedRun}
use Rattle.jc_meaning.specs.Natives.{native_of}
use Rattle.jc_meaning.specs.Programs.{body_in, body_of_method}
use Rattle.jc_meaning.specs.Expressions as te
use Rattle.jc_meaning.specs.Statements as ts
use Rattle.jc_meaning.specs.Steps as tst
use Rattle.jc_meaning.specs.Meaning as t
use Rattle.jc_meaning.specs.Meaning.{meaning}
use Rattle.jc_erased.specs.declared.program.ErasedMethod.{ErasedMethod}
use Rattle.jc_erased.specs.declared.program.ErasedProgram.{ErasedProgram}
use Rattle.jc_erased.specs.Programs.{ErasedRun, tree_in}
use Rattle.jc_erased.specs.Expressions as ee
use Rattle.jc_erased.specs.Statements as es
use Rattle.jc_erased.specs.Steps as est
use Rattle.jc_erased.specs.Meaning as e
use Rattle.jc_erased.specs.Meaning.{meaning as erased_meaning}
use Rattle.jc_erase_spec.specs.Naming.{erased_name}
use Rattle.jc_erase_spec.specs.Trees.{erased_as_type}
use Rattle.jc_erase_spec.specs.Meeting.{bridges_from, IsErasedMethod}
use Rattle.jc_erase_spec.specs.Small.{HasSmallErasure, boxed, null_expr, null_as, declares, small_body}
use Rattle.jc_erase_spec.proofs.Keeps as k

-- ---- the trees

abbrev arena : Ty → Ty → List Node
arena empty t =
    n.Type empty ∷ n.Captures cs.Empty ∷ n.Steps ss.Empty ∷ n.Expr (en.Expr nowhere 0 1 f.Null) ∷ n.Type t
    ∷ n.Steps (ss.More 2 (sn.Up 4 false)) ∷ n.Operand (on.Operand nowhere 3 5) ∷ n.Operands l.Empty ∷ n.Operands (l.More 7 6)
    ∷ n.Declared ds.Empty ∷ n.Declared (ds.More 9 nowhere 0 8) ∷ n.Stmt (record { place = nowhere; form = sf.Locals 10 })
    ∷ n.Stmts l.Empty ∷ n.Stmts (l.More 12 11) ∷ n.Stmt (record { place = nowhere; form = sf.Block 13 }) ∷ []

abbrev first : MethodId
first = record { 0 = 0 }

abbrev method_over : Ty → Ty → Ty → TypedMethod
method_over empty t local = record {
  id = first;
  locals = record { place = nowhere; name = []; ty = local; is_final = false } ∷ [];
  captured = record { bounds = [] };
  nodes = arena empty t;
  body = Some (record { call = 12; initialisers = 12; rest = 14 });
  entry_checks = 0;
  in_arena = (omega arith, omega arith, omega arith);
}

trees_are : (empty t local : Ty) → body_in (method_over empty t local) (method_over empty t local).body ≡ Some (small_body empty t ∷ [])
unfolding parts part_in
trees_are empty t local = refl

same_bulk : (empty t local empty' t' local' : Ty) → method_bulk (method_over empty' t' local') ≡ method_bulk (method_over empty t local)
unfolding parts part_in
same_bulk empty t local empty' t' local' = refl

-- ---- what it does

module _ (P : TypedProgram) (E : ErasedProgram) (a b a' b' : Ty) where
  node_alike : {A : Type 0} {m : TypedRun A} {m' : ErasedRun A} → k.Alike P.table m m' → k.Alike P.table (node m) (node m')
  node_alike {m = m} {m' = m'} em = record { same = x.erases_node Ty Frame (List Read) (erasure P.table []) m m' em.same }

  null_act : (r : te.Inner) (r' : ee.Inner) → k.Alike P.table (te.expr_act P r (null_expr a)) (ee.expr_act E r' (null_expr a'))
  null_act r r' = record { same = λ u s. refl }

  nulls : (d : ℕ) → k.Alike P.table ((meaning P d).expr (null_expr a)) ((erased_meaning E d).expr (null_expr a'))
  unfolding meaning erased_meaning
  nulls zero = record { same = λ u s. refl }
  nulls (suc d) = node_alike (null_act (t.inner_of (meaning P d)) (e.inner_of (erased_meaning E d)))

  module _ (r : te.Inner) (r' : ee.Inner) (en : k.Alike P.table (r.expr (null_expr a)) (r'.expr (null_expr a'))) where
    goes_up : (v : Value) → k.Alike P.table (tst.steps P r.body r.ready (Up b false ∷ []) v) (est.steps E r'.body r'.ready (Up b' false ∷ []) v)
    goes_up v = record { same = λ u s. refl }

    value : k.Alike P.table (te.value_of P r (null_as a b)) (ee.value_of E r' (null_as a' b'))
    value = k.andso P.table en goes_up

    values : k.Alike P.table (te.values P r (MoreOperands NoOperands (null_as a b))) (ee.values E r' (MoreOperands NoOperands (null_as a' b')))
    values = k.andso P.table value (λ v. k.andso P.table (k.gives P.table []) (λ vs. k.gives P.table (v ∷ vs)))

    module _ (run : Stmt → TypedRun Completion) (run' : Stmt → ErasedRun Completion) (n : ℕ) where
      sets : (vs : List Value) → k.Alike P.table (ts.set_first P r run n 0 vs) (es.set_first E r' run' n 0 vs)
      sets [] = k.gives P.table tt
      sets (v ∷ vs) = record { same = λ u s. refl }

      declare_act : k.Alike P.table (ts.stmt_act P r run n (declares a b)) (es.stmt_act E r' run' n (declares a' b'))
      declare_act = k.andso P.table (k.andso P.table (k.gives P.table (tt {0})) (λ _. k.andso P.table values sets)) (λ _. k.gives P.table Normal)

  declared : (d : ℕ) → k.Alike P.table ((meaning P d).stmt (declares a b)) ((erased_meaning E d).stmt (declares a' b'))
  unfolding meaning erased_meaning
  declared zero = record { same = λ u s. refl }
  declared (suc d) =
      node_alike (declare_act (t.inner_of (meaning P d)) (e.inner_of (erased_meaning E d)) (nulls d) (meaning P d).stmt (erased_meaning E d).stmt d)

  nexts : (c : Completion) → k.Alike P.table (next c (give Normal)) (next c (give Normal))
  nexts Normal = k.gives P.table Normal
  nexts (Broke g) = k.gives P.table _
  nexts (Continued g) = k.gives P.table _
  nexts (Returned v) = k.gives P.table _

  block_act : (r : te.Inner) (r' : ee.Inner) (run : Stmt → TypedRun Completion) (run' : Stmt → ErasedRun Completion) (n : ℕ) → k.Alike P.table (run (declares a b)) (run' (declares a' b'))
      → k.Alike P.table (ts.stmt_act P r run n (small_body a b)) (es.stmt_act E r' run' n (small_body a' b'))
  block_act r r' run run' n er = k.andso P.table er nexts

  blocks : (d : ℕ) → k.Alike P.table ((meaning P d).stmt (small_body a b)) ((erased_meaning E d).stmt (small_body a' b'))
  unfolding meaning erased_meaning
  blocks zero = record { same = λ u s. refl }
  blocks (suc d) = node_alike (block_act (t.inner_of (meaning P d)) (e.inner_of (erased_meaning E d)) (meaning P d).stmt (erased_meaning E d).stmt d (declared d))

  written : (d : ℕ) → k.Alike P.table (t.written_body P (meaning P d) d (Some (small_body a b ∷ []))) (e.written_body E (erased_meaning E d) d (Some (small_body a' b' ∷ [])))
  written d = k.andso P.table (blocks d) nexts

-- ---- the programs

module _ (T : Table) (known : Known) (c k' : ClassId) where
  abbrev box : Ty
  box = boxed c k'

  abbrev bare : Ty → Ty
  bare t = erased_as_type T [] t

  abbrev typed : TypedMethod
  typed = method_over NullTy box box

  abbrev P : TypedProgram
  P = record { table = T; known = known; methods = typed ∷ []; selections = [] }

  abbrev method : ErasedMethod
  method = record { id = first; name = erased_name P first; tree = method_over (bare NullTy) (bare box) (bare box) }

  abbrev E : ErasedProgram
  E = record { table = T; known = known; methods = method ∷ []; selections = []; bridges = bridges_from T 0 T.classes }

  written_at : (d i : ℕ) → k.Alike T (t.written_body P (meaning P d) d (body_of_method (slice_get P.methods i))) (e.written_body E (erased_meaning E d) d (body_of_method (tree_in (slice_get E.methods i))))
  written_at d zero =
      subst (λ o. k.Alike T (t.written_body P (meaning P d) d o) (e.written_body E (erased_meaning E d) d (body_of_method (tree_in (slice_get E.methods 0))))) (sym (trees_are NullTy box box))
      (subst (λ o. k.Alike T (t.written_body P (meaning P d) d (Some (small_body NullTy box ∷ []))) (e.written_body E (erased_meaning E d) d o)) (sym (trees_are (bare NullTy) (bare box) (bare box)))
      (written P E NullTy box (bare NullTy) (bare box) d))
  written_at d (suc i) = k.wrongs T

  or_native : (o : Option Native) {m : TypedRun Completion} {m' : ErasedRun Completion} → k.Alike T m m' → k.Alike T (t.native_or P o m) (e.native_or E o m')
  or_native (Some n) em = k.andso T (k.natives T known n) (λ v. k.gives T (Returned v))
  or_native None em = em

  bodies : (d : ℕ) (m : MethodId) → k.Alike T ((meaning P d).body m) ((erased_meaning E d).body m)
  unfolding meaning erased_meaning
  bodies zero m = record { same = λ u s. refl }
  bodies (suc d) m = node_alike P E NullTy box (bare NullTy) (bare box) (or_native (native_of known.natives m) (written_at d m.0))

  -- the erased type of the variable begins with null, as the type does
  default_plain : (vs : List VarId) → default_value (plain_class T c vs) ≡ NullValue
  default_plain [] = ap default_at (outs-Class c [])
  default_plain (v ∷ vs) = ap default_at (outs-Raw c)

  default_box : default_value box ≡ NullValue
  default_box = ap default_at (outs-Class c (Exact (Class k' []) ∷ []))

  bare_box : bare box ≡ plain_class T c (vars_of T c)
  unfolding erased_as_type
  bare_box = ap (erased_type T) (k.plain_with T c (Exact (Class k' []) ∷ []))

  is_erased : IsErasedMethod P typed method
  is_erased = record {
    id = refl;
    tree = refl;
    name = refl;
    nodes = refl;
    body = refl;
    locals = refl;
    defaults = ap (λ v. v ∷ []) (ap default_value bare_box ∙ default_plain (vars_of T c) ∙ sym default_box);
    entry_checks = refl;
    bulk = same_bulk NullTy box box (bare NullTy) (bare box) (bare box);
  }

  pub has : HasSmallErasure T known c k'
  has = record {
    program = P;
    erased = E;
    table = refl;
    is_known = refl;
    body = trees_are NullTy box box;
    locals = refl;
    meets = record {
      table = refl;
      known = refl;
      selections = refl;
      bridges = refl;
      methods = (is_erased, tt);
      bodies = λ d m. (bodies d m).same;
    };
  }

pub has_erasure : (T : Table) (known : Known) (c k : ClassId) → HasSmallErasure T known c k
has_erasure = has
