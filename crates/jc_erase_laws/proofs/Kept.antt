-- The erasure of a program does what the program does, by recursion on the depth.
use Rattle.std.proofs.Common.{◌≡◌, ℕ, zero, suc, List, [], ◌∷◌, refl, sym, ap, ◌∙◌, subst, Option, Some, None}
use Rattle.std.specs.Prelude.{slice_get}
use Rattle.jc_types.specs.declared.environment.Bounds.{Bounds}
use Rattle.jc_types.specs.declared.form.Ty.{Ty}
use Rattle.jc_types.specs.declared.ids.ClassId.{ClassId}
use Rattle.jc_types.specs.declared.ids.MethodId.{MethodId}
use Rattle.jc_types.specs.declared.table.Table.{Table}
use Rattle.jc_types.specs.Erasing.{erasure}
use Rattle.jc_running.specs.declared.value.Completion.{Completion}
use Rattle.jc_running.specs.declared.value.Completion.TheVariants.{Returned}
use Rattle.jc_running.specs.Outcomes.{stop, node}
use Rattle.jc_heaps.proofs.Erases as erases
use Rattle.jc_typed.specs.declared.program.TypedMethod.{TypedMethod}
use Rattle.jc_typed.specs.declared.program.TypedProgram.{TypedProgram}
use Rattle.jc_typed.specs.Trees.{Expr, Stmt}
use Rattle.jc_meaning.specs.declared.frame.Frame.{Frame}
use Rattle.jc_meaning.specs.declared.frame.Read.{Read}
use Rattle.jc_meaning.specs.declared.target.Native.{Native}
use Rattle.jc_meaning.specs.Classes as tc
use Rattle.jc_meaning.specs.Kept.{TypedRun}
use Rattle.jc_meaning.specs.Meaning as t
use Rattle.jc_meaning.specs.Meaning.{meaning}
use Rattle.jc_meaning.specs.Natives.{native_of}
use Rattle.jc_meaning.specs.Programs.{body_of_method}
use Rattle.jc_erased.specs.declared.program.ErasedMethod.{ErasedMethod}
use Rattle.jc_erased.specs.declared.program.ErasedProgram.{ErasedProgram}
use Rattle.jc_erased.specs.Classes as ec
use Rattle.jc_erased.specs.Meaning as e
use Rattle.jc_erased.specs.Meaning.{meaning as erased_meaning}
use Rattle.jc_erased.specs.Programs.{ErasedRun, tree_in}
use Rattle.jc_bridges_call_laws.specs.Calls.{HasBridges}
use Rattle.jc_erase_spec.specs.Meeting.{AreErasedMethods, env_of}
use Rattle.jc_erase_spec.specs.Trees.{erased_as_type}
use Rattle.jc_erase_spec.proofs.Calls as c
use Rattle.jc_erase_spec.proofs.Calls.{over}
use Rattle.jc_erase_spec.proofs.Keeps as k
use Rattle.jc_erase_trees.specs.Trees.{become_body, become_expr, become_stmt}
use Rattle.jc_erase_trees.proofs.Erased.{bodies_erased}
use Rattle.jc_erase_laws.specs.Firm.{FirmBody, FirmExpr, FirmMethods, FirmStmt}
use Rattle.jc_erase_laws.specs.Theorem.{BodiesErase, ErasesTo, ErasureKeepsMeaning}
use Rattle.jc_erase_laws.proofs.Called.{Premises}
use Rattle.jc_erase_laws.proofs.Expressed as x
use Rattle.jc_erase_laws.proofs.Expressed.{Good, Levels}
use Rattle.jc_erase_laws.proofs.Stated as s
use Rattle.jc_erase_laws.proofs.Types.{erased_array, erased_base}

-- erasure keeps bases and arrays
good : (T : Table) (env : List Bounds) → Good (erased_as_type T env)
good T env = record { bases = λ b t h. erased_base T env b t h; arrays = λ b n t small h. erased_array T env b n t small h }

-- the body of a method by its number, erased with the bounds of its captured variables
record IsErasedBody (T : Table) (typed erased : Option (List Stmt)) : Type 0 where
  env : List Bounds
  same : erased ≡ become_body (erased_as_type T env) typed
  firm : FirmBody T typed

body_at : (P : TypedProgram) (ms : List TypedMethod) (es : List ErasedMethod) → AreErasedMethods P ms es → FirmMethods P.table ms → (i : ℕ) →
    IsErasedBody P.table (body_of_method (slice_get ms i)) (body_of_method (tree_in (slice_get es i)))
body_at P [] [] a h i = record { env = []; same = refl; firm = tt }
body_at P (m ∷ ms) (d ∷ es) a h zero = record { env = env_of m; same = bodies_erased P.table (env_of m) m d.tree (a.0).nodes (a.0).body; firm = h.0 }
body_at P (m ∷ ms) (d ∷ es) a h (suc i) = body_at P ms es a.1 h.1 i
body_at P [] (d ∷ es) a h i = absurd a
body_at P (m ∷ ms) [] a h i = absurd a

-- what a level does
record AlikeAt (P : TypedProgram) (r : t.Meaning) (r' : e.Meaning) : Type 0 where
  exprs : (g : Ty → Ty) → Good g → (y : Expr) → FirmExpr P.table y → k.Alike P.table (r.expr y) (r'.expr (become_expr g y))
  stmts : (g : Ty → Ty) → Good g → (y : Stmt) → FirmStmt P.table y → k.Alike P.table (r.stmt y) (r'.stmt (become_stmt g y))
  bodies : (m : MethodId) → k.Alike P.table (r.body m) (r'.body m)
  readies : (y : ClassId) → k.Alike P.table (r.ready y) (r'.ready y)

module _ (P : TypedProgram) (F : ErasedProgram) (H : Premises P F) where
  abbrev T : Table
  T = P.table

  abbrev E : ErasedProgram
  E = over P F

  abbrev Alike : {A : Type 0} → TypedRun A → ErasedRun A → Type 0
  Alike m m' = k.Alike P.table m m'

  nodes : {A : Type 0} {m : TypedRun A} {m' : ErasedRun A} → Alike m m' → Alike (node m) (node m')
  nodes {m = m} {m' = m'} em = record { same = erases.erases_node Ty Frame (List Read) (erasure T []) m m' em.same }

  stops : {A : Type 0} → Alike {A = A} stop stop
  stops = record { same = λ u s. refl }

  inner : (r : t.Meaning) (r' : e.Meaning) → AlikeAt P r r' → Levels P (t.inner_of r) (e.inner_of r')
  inner r r' L = record { exprs = L.exprs; bodies = L.bodies; readies = L.readies }

  module _ (d : ℕ) (r : t.Meaning) (r' : e.Meaning) (L : AlikeAt P r r') where
    by_native : (o : Option Native) {m : TypedRun Completion} {m' : ErasedRun Completion} → Alike m m' → Alike (t.native_or P o m) (e.native_or E o m')
    by_native (Some n) em = k.andso T (k.natives T P.known n) (λ v. k.gives T (Returned v))
    by_native None em = em

    by_body : (env : List Bounds) (o : Option (List Stmt)) → FirmBody T o → Alike (t.written_body P r d o) (e.written_body E r' d (become_body (erased_as_type T env) o))
    by_body env None h = k.wrongs T
    by_body env (Some ss) h =
        s.all_s P F H (t.inner_of r) (e.inner_of r') (inner r r' L) (erased_as_type T env) (good T env) r.stmt r'.stmt (λ y hy. L.stmts (erased_as_type T env) (good T env) y hy) d ss h

    written : (m : MethodId) → Alike (t.written_body P r d (body_of_method (slice_get P.methods m.0))) (e.written_body E r' d (body_of_method (tree_in (slice_get F.methods m.0))))
    written m =
        let b = body_at P P.methods F.methods H.methods H.firm m.0 in
        subst (λ o. Alike (t.written_body P r d (body_of_method (slice_get P.methods m.0))) (e.written_body E r' d o)) (sym b.same)
        (by_body b.env (body_of_method (slice_get P.methods m.0)) b.firm)

    body_s : (m : MethodId) → Alike (t.body_act P r d m) (e.body_act E r' d m)
    body_s m = by_native (native_of P.known.natives m) (written m)

  levels : (d : ℕ) → AlikeAt P (meaning P d) (erased_meaning E d)
  unfolding meaning erased_meaning
  levels zero = record {
    exprs = λ g G y h. stops;
    stmts = λ g G y h. stops;
    bodies = λ m. stops;
    readies = λ y. c.readies P F H.methods (λ z. stop) (λ z. stop) (λ z. stops) y;
  }
  levels (suc d) =
      let r = meaning P d in
      let r' = erased_meaning E d in
      let L = levels d in record {
        exprs = λ g G y h. nodes (x.expr_s P F H (t.inner_of r) (e.inner_of r') (inner r r' L) g G y h);
        stmts = λ g G y h. nodes (s.stmt_s P F H (t.inner_of r) (e.inner_of r') (inner r r' L) g G r.stmt r'.stmt (λ z hz. L.stmts g G z hz) d y h);
        bodies = λ m. nodes (body_s d r r' L m);
        readies = λ y. c.readies P F H.methods (λ z. node (tc.initialise P r.body r.ready z)) (λ z. node (ec.initialise E r'.body r'.ready z))
            (λ z. nodes (c.initialises P F H.methods r.body r'.body L.bodies r.ready r'.ready L.readies z)) y;
      }

-- ---- for a program that says the same of the table and of what is known
is_over : (P : TypedProgram) (E : ErasedProgram) → ErasesTo P E → over P E ≡ E
is_over P E I = ap (λ T. record E { table = T; known = P.known }) (sym I.table) ∙ ap (λ known. record E { known = known }) (sym I.known)

premises : (P : TypedProgram) (E : ErasedProgram) → ErasesTo P E → Premises P E
premises P E I = record { selections = I.selections; methods = I.methods; bridged = subst HasBridges (sym (is_over P E I)) I.bridged; firm = I.firm; bodies = I.bodies; selects = I.selects }

pub keeps_meaning : ErasureKeepsMeaning
keeps_meaning P E I = subst (BodiesErase P) (is_over P E I) (λ d m. ((levels P E (premises P E I) d).bodies m).same)
