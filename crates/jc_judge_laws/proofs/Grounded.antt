-- Where no variable depends on itself, its erasure is that of its leftmost bound, and a longer env changes no erasure.
use Rattle.std.proofs.Common.{◌≡◌, ℕ, zero, suc, ◌+◌, ◌<◌, ◌≤◌, Option, Some, None, List, [], ◌∷◌, ◌++◌, length, slice_get, length-append, arith, refl, sym, ap, subst, ◌∙◌}
use Rattle.std.proofs.lemmas.Option.{slice_get_within}
use Rattle.jc_types.specs.declared.form.Ty.{Ty, Ty-F, out-Ty, roll-Ty, map-Ty, fold-roll-Ty, fold_out-Ty, ind-Ty}
use Rattle.jc_types.specs.declared.form.Arg.{Arg}
use Rattle.jc_types.specs.declared.ids.VarId.{VarId}
use Rattle.jc_types.specs.declared.ids.CaptureId.{CaptureId}
use Rattle.jc_types.specs.declared.erased.Erased.{Erased}
use Rattle.jc_types.specs.declared.environment.Bounds.{Bounds}
use Rattle.jc_types.specs.declared.declarations.VariableDecl.{VariableDecl}
use Rattle.jc_types.specs.declared.table.Table.{Table}
use Rattle.jc_types.specs.Accessors.{bounds_of, uppers_of, bounds_in, uppers_in, variable_count}
use Rattle.jc_types.specs.Erasing.{object, raised, capped, erasure, erased_by, erased_step, erased_within, leftmost_within, variable_bounds, variable_bounds_at}
use Rattle.jc_judge.specs.Supers.{Path}
use Rattle.jc_judge_laws.specs.Leftmost.{Ref, Declared, Fresh, source, source_step, bounds_at, head, leftmost, number, Leads, IsGrounded, bound_erasure, IsKnown, IsClosed}
use Rattle.jc_judge_laws.proofs.StrictPaths.{path_is_shorter}

abbrev Erasures : Type 0
Erasures = Ref → Erased

abbrev by_refs : Erasures → Ty → Erased
by_refs es t = erased_by (λ v. es (Declared v)) (λ c. es (Fresh c)) t

abbrev step_by : Erasures → Ty-F (Unit {0}) Erased → Erased
step_by es l = erased_step (λ v. es (Declared v)) (λ c. es (Fresh c)) l

abbrev AgreeAt : Erasures → Erasures → Option Ref → Type 0
AgreeAt es fs None = Unit {0}
AgreeAt es fs (Some r) = es r ≡ fs r

-- two lists of erasures that agree at a type's source give it the same erasure
abbrev Agrees : Ty → Type 0
Agrees t = (es fs : Erasures) → AgreeAt es fs (source t) → by_refs es t ≡ by_refs fs t

abbrev SomeArg : Type 0
SomeArg = Arg × Unit {0}

abbrev SomeTy : Type 0
SomeTy = (t : Ty) × Agrees t

abbrev plain : Ty-F SomeArg SomeTy → Ty-F Arg Ty
plain y = map-Ty SomeArg SomeTy Arg Ty (λ z. z.0) (λ z. z.0) y

abbrev sources : Ty-F Arg Ty → Ty-F (Unit {0}) (Option Ref)
sources l = map-Ty Arg Ty (Unit {0}) (Option Ref) (λ _. tt) source l

abbrev erasures : Erasures → Ty-F Arg Ty → Ty-F (Unit {0}) Erased
erasures es l = map-Ty Arg Ty (Unit {0}) Erased (λ _. tt) (by_refs es) l

source_rolled : (l : Ty-F Arg Ty) → source (roll-Ty l) ≡ source_step (sources l)
unfolding source
source_rolled l = fold-roll-Ty (Unit {0}) (Option Ref) (λ _. tt) source_step l

erased_rolled : (es : Erasures) (l : Ty-F Arg Ty) → by_refs es (roll-Ty l) ≡ step_by es (erasures es l)
unfolding erased_by
erased_rolled es l = fold-roll-Ty (Unit {0}) Erased (λ _. tt) (step_by es) l

layer_agrees : (y : Ty-F SomeArg SomeTy) (es fs : Erasures) → AgreeAt es fs (source_step (sources (plain y))) → step_by es (erasures es (plain y)) ≡ step_by fs (erasures fs (plain y))
layer_agrees (Ty-F.Prim p) es fs h = refl
layer_agrees (Ty-F.Class i xs) es fs h = refl
layer_agrees (Ty-F.Raw i) es fs h = refl
layer_agrees (Ty-F.Array z n) es fs h = ap (raised (n + 1)) (z.1 es fs h)
layer_agrees (Ty-F.Variable v) es fs h = h
layer_agrees (Ty-F.Captured c) es fs h = h
layer_agrees (Ty-F.Meet []) es fs h = refl
layer_agrees (Ty-F.Meet (z ∷ zs)) es fs h = z.1 es fs h
layer_agrees Ty-F.NullTy es fs h = refl

rolled_agrees : (y : Ty-F SomeArg SomeTy) → Agrees (roll-Ty (plain y))
rolled_agrees y es fs h =
    erased_rolled es (plain y) ∙ layer_agrees y es fs (subst (λ s. AgreeAt es fs s) (source_rolled (plain y)) h) ∙ sym (erased_rolled fs (plain y))

agrees : (t : Ty) → Agrees t
agrees = ind-Ty (λ a. Unit {0}) Agrees (λ x y is. tt) (λ x y is. subst (λ x. Agrees (roll-Ty x)) is (rolled_agrees y))

module _ (T : Table) (env : List Bounds) where
  -- the erasure of a variable that goes through at most n bounds
  abbrev reached : ℕ → Ref → Erased
  reached n r = leftmost_within T env n (bounds_at T env r)

  abbrev size : ℕ
  size = variable_count T + length env

  -- a variable with a bound is declared, or in the env
  declared_below : (v : VarId) (b : Ty) → head (bounds_of T v) ≡ Some b → v.0 < variable_count T
  declared_below v b e = by_decl (slice_get T.variables v.0) refl e
    where
      by_decl : (o : Option VariableDecl) → slice_get T.variables v.0 ≡ o → head (bounds_in o) ≡ Some b → v.0 < variable_count T
      by_decl (Some d) e h = slice_get_within T.variables v.0 d e
      by_decl None e h = cc

  fresh_below : (c : CaptureId) (b : Ty) → head (uppers_of env c) ≡ Some b → c.0 < length env
  fresh_below c b e = by_bounds (slice_get env c.0) refl e
    where
      by_bounds : (o : Option Bounds) → slice_get env c.0 ≡ o → head (uppers_in o) ≡ Some b → c.0 < length env
      by_bounds (Some d) e h = slice_get_within env c.0 d e
      by_bounds None e h = cc

  bound_below : (r : Ref) (b : Ty) → leftmost T env r ≡ Some b → number T r < size
  bound_below (Declared v) b e = let lt : v.0 < variable_count T = declared_below v b e in omega arith
  bound_below (Fresh c) b e = let lt : c.0 < length env = fresh_below c b e in omega arith

  leads_below : (x y : ℕ) → Leads T env x y → x < size
  leads_below x y l = let lt : number T l.0 < size = bound_below l.0 l.2 l.5 in subst (λ n. n < size) l.3 lt

  -- every path from a variable to one with a bound has fewer than n steps
  abbrev Within : ℕ → Option Ref → Type 0
  Within n None = Unit {0}
  Within n (Some q) = (xs : List ℕ) (r : Ref) (b : Ty) → leftmost T env r ≡ Some b → Path (Leads T env) xs (number T q) (number T r) → length xs < n

  all_within : IsGrounded T env → (n : ℕ) → size ≤ n → (o : Option Ref) → Within n o
  all_within acyclic n le None = tt
  all_within acyclic n le (Some q) =
      λ xs r b e p.
      let lt : length xs < size = path_is_shorter (Leads T env) size leads_below acyclic xs (number T q) (number T r) p (bound_below r b e) in
      omega arith

  next_within : (n : ℕ) (q : Ref) (b : Ty) (o : Option Ref) → leftmost T env q ≡ Some b → source b ≡ o → Within (suc n) (Some q) → Within n o
  next_within n q b None e s w = tt
  next_within n q b (Some r) e s w =
      λ xs z c f p.
      let more : length (number T q ∷ xs) < suc n = w (number T q ∷ xs) z c f (refl, number T r, (q, r, b, refl, refl, e, s), p) in
      omega arith

  empty_within : (n : ℕ) → leftmost_within T env n [] ≡ object
  unfolding leftmost_within
  empty_within zero = refl
  empty_within (suc n) = refl

  stay_at_zero : (q : Ref) (bs : List Ty) → bounds_at T env q ≡ bs → Within 0 (Some q) → leftmost_within T env 0 bs ≡ leftmost_within T env 1 bs
  stay_at_zero q [] e w = empty_within 0 ∙ sym (empty_within 1)
  stay_at_zero q (b ∷ bs) e w = absurd (let lt : 0 < 0 = w [] q b (ap head e) refl in omega arith)

  stay_at_more : (n : ℕ) (q : Ref) (bs : List Ty) → bounds_at T env q ≡ bs → ((b : Ty) → leftmost T env q ≡ Some b → erased_within T env n b ≡ erased_within T env (suc n) b)
      → leftmost_within T env (suc n) bs ≡ leftmost_within T env (suc (suc n)) bs
  unfolding leftmost_within erased_within
  stay_at_more n q [] e f = refl
  stay_at_more n q (b ∷ bs) e f = f b (ap head e)

  zero_agrees : (o : Option Ref) → Within 0 o → AgreeAt (reached 0) (reached 1) o
  zero_agrees None w = tt
  zero_agrees (Some q) w = stay_at_zero q (bounds_at T env q) refl w

  more_agrees : (n : ℕ) (o : Option Ref) → Within (suc n) o → ((b : Ty) → Within n (source b) → erased_within T env n b ≡ erased_within T env (suc n) b) → AgreeAt (reached (suc n)) (reached (suc (suc n))) o
  more_agrees n None w f = tt
  more_agrees n (Some q) w f = stay_at_more n q (bounds_at T env q) refl (λ b e. f b (next_within n q b (source b) e refl w))

  stays : (n : ℕ) (t : Ty) → Within n (source t) → erased_within T env n t ≡ erased_within T env (suc n) t
  unfolding erased_within
  stays zero t w = agrees t (reached 0) (reached 1) (zero_agrees (source t) w)
  stays (suc n) t w = agrees t (reached (suc n)) (reached (suc (suc n))) (more_agrees n (source t) w (stays n))

  -- a variable, and what it erases to
  abbrev Stands : Ty → List Ty → Type 0
  Stands t bs = (r : Ref) × (bounds_at T env r ≡ bs) × ((n : ℕ) → erased_within T env n t ≡ leftmost_within T env n bs)

  erased_opened : (n : ℕ) (t : Ty) → erased_within T env n t ≡ step_by (reached n) (erasures (reached n) (out-Ty t))
  unfolding erased_within erased_by
  erased_opened n t = fold_out-Ty (Unit {0}) Erased (λ _. tt) (step_by (reached n)) t

  stands_at : (l : Ty-F Arg Ty) (t : Ty) (bs : List Ty) → out-Ty t ≡ l → variable_bounds_at T env l ≡ Some bs → Stands t bs
  stands_at (Ty-F.Variable v) t bs e f =
      let same : bounds_of T v ≡ bs = cc in
      (Declared v, same, λ n. erased_opened n t ∙ ap (λ l. step_by (reached n) (erasures (reached n) l)) e ∙ ap (leftmost_within T env n) same)
  stands_at (Ty-F.Captured c) t bs e f =
      let same : uppers_of env c ≡ bs = cc in
      (Fresh c, same, λ n. erased_opened n t ∙ ap (λ l. step_by (reached n) (erasures (reached n) l)) e ∙ ap (leftmost_within T env n) same)
  stands_at (Ty-F.Prim p) t bs e f = cc
  stands_at (Ty-F.Class i xs) t bs e f = cc
  stands_at (Ty-F.Raw i) t bs e f = cc
  stands_at (Ty-F.Array u n) t bs e f = cc
  stands_at (Ty-F.Meet ts) t bs e f = cc
  stands_at Ty-F.NullTy t bs e f = cc

  stands : (t : Ty) (bs : List Ty) → variable_bounds T env t ≡ Some bs → Stands t bs
  unfolding variable_bounds
  stands t bs e = stands_at (out-Ty t) t bs refl e

  abbrev bounded_by : ℕ → List Ty → Erased
  bounded_by n [] = object
  bounded_by n (b ∷ bs) = capped (erased_within T env n b)

  -- with as many steps as there are variables
  root : IsGrounded T env → (n : ℕ) (r : Ref) (bs : List Ty) → n ≡ size → bounds_at T env r ≡ bs → capped (leftmost_within T env n bs) ≡ bounded_by n bs
  unfolding leftmost_within erased_within
  root acyclic n r [] e f = ap capped (empty_within n)
  root acyclic zero r (b ∷ bs) e f = absurd (let lt : number T r < size = bound_below r b (ap head f) in omega arith)
  root acyclic (suc m) r (b ∷ bs) e f = ap capped (stays m b (next_within m r b (source b) (ap head f) refl (all_within acyclic (suc m) (omega arith) (Some r))))

  bounds_erased : (bs : List Ty) → bounded_by size bs ≡ bound_erasure T env bs
  unfolding erasure
  bounds_erased [] = refl
  bounds_erased (b ∷ bs) = refl

  pub leftmost_erased : IsGrounded T env → (t : Ty) (bs : List Ty) → variable_bounds T env t ≡ Some bs → erasure T env t ≡ bound_erasure T env bs
  unfolding erasure
  leftmost_erased acyclic t bs e =
      let s = stands t bs e in
      ap capped (s.2 size) ∙ root acyclic size s.0 bs refl s.1 ∙ bounds_erased bs

  stays_up : IsGrounded T env → (j : ℕ) (t : Ty) → erased_within T env (j + size) t ≡ erased_within T env size t
  stays_up acyclic zero t = ap (λ n. erased_within T env n t) (let e : 0 + size ≡ size = omega arith in e)
  stays_up acyclic (suc j) t =
      ap (λ n. erased_within T env n t) (let e : suc j + size ≡ suc (j + size) = omega arith in e)
      ∙ sym (stays (j + size) t (all_within acyclic (j + size) (omega arith) (source t))) ∙ stays_up acyclic j t

module _ (T : Table) (env more : List Bounds) where
  kept : {A : Type 0} (xs ys : List A) (i : ℕ) → i < length xs → slice_get (xs ++ ys) i ≡ slice_get xs i
  kept [] ys i lt = absurd (omega arith)
  kept (x ∷ xs) ys zero lt = refl
  kept (x ∷ xs) ys (suc i) lt = kept xs ys i (omega arith)

  same_bounds : (r : Ref) → IsKnown env (Some r) → bounds_at T (env ++ more) r ≡ bounds_at T env r
  same_bounds (Declared v) k = refl
  same_bounds (Fresh c) k = ap uppers_in (kept env more c.0 k)

  lists_known : (n : ℕ) (bs : List Ty) → ((b : Ty) → head bs ≡ Some b → erased_within T (env ++ more) n b ≡ erased_within T env n b) → leftmost_within T (env ++ more) (suc n) bs ≡ leftmost_within T env (suc n) bs
  unfolding leftmost_within erased_within
  lists_known n [] f = refl
  lists_known n (b ∷ bs) f = f b refl

  zero_known : (o : Option Ref) → AgreeAt (reached T (env ++ more) 0) (reached T env 0) o
  unfolding leftmost_within
  zero_known None = tt
  zero_known (Some r) = refl

  more_known : IsClosed T env → (n : ℕ) (o : Option Ref) → IsKnown env o → ((b : Ty) → IsKnown env (source b) → erased_within T (env ++ more) n b ≡ erased_within T env n b)
      → AgreeAt (reached T (env ++ more) (suc n)) (reached T env (suc n)) o
  more_known closed n None k f = tt
  more_known closed n (Some r) k f =
      ap (leftmost_within T (env ++ more) (suc n)) (same_bounds r k) ∙ lists_known n (bounds_at T env r) (λ b e. f b (closed r b e))

  known : IsClosed T env → (n : ℕ) (t : Ty) → IsKnown env (source t) → erased_within T (env ++ more) n t ≡ erased_within T env n t
  unfolding erased_within
  known closed zero t k = agrees t (reached T (env ++ more) 0) (reached T env 0) (zero_known (source t))
  known closed (suc n) t k = agrees t (reached T (env ++ more) (suc n)) (reached T env (suc n)) (more_known closed n (source t) k (known closed n))

  pub longer_erased : IsGrounded T env → IsClosed T env → (t : Ty) → IsKnown env (source t) → erasure T (env ++ more) t ≡ erasure T env t
  unfolding erasure
  longer_erased acyclic closed t k =
      let longer : length (env ++ more) ≡ length env + length more = length-append env more in
      let steps : variable_count T + length (env ++ more) ≡ length more + (variable_count T + length env) = omega arith in
      ap capped (known closed (variable_count T + length (env ++ more)) t k ∙ ap (λ n. erased_within T env n t) steps ∙ stays_up T env acyclic (length more) t)
