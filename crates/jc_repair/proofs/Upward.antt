-- The repair of a type is above it.
use Rattle.std.proofs.Common.{◌≡◌, ℕ, Bool, true, false, List, [], ◌∷◌, ◌++◌, map, refl, ap, sym, subst, ◌∙◌, if◌then◌else◌, arith}
use Rattle.std.proofs.lemmas.Bool.{and_from}
use Rattle.jc_rules.proofs.Truths.{self_equal}
use Rattle.jc_types.specs.declared.environment.Bounds.{Bounds}
use Rattle.jc_types.specs.declared.form.Arg.{Arg, Arg-F, out-Arg, roll-Arg, map-Arg, para-roll-Arg}
use Rattle.jc_types.specs.declared.form.Arg.TheVariants.{Exact, Any, Extends, Super, outs-Exact, outs-Any, outs-Extends, outs-Super, rolls-Exact, rolls-Any, rolls-Extends, rolls-Super}
use Rattle.jc_types.specs.declared.form.Primitive.{Primitive}
use Rattle.jc_types.specs.declared.form.Ty.{Ty, Ty-F, out-Ty, roll-Ty, map-Ty, para-roll-Ty, ind-Ty}
use Rattle.jc_types.specs.declared.form.Ty.TheVariants.{Prim, Class, Raw, Array, Variable, Captured, Meet, NullTy, outs-Class, outs-Array, outs-Meet, rolls-Prim, rolls-Class, rolls-Raw, rolls-Array, rolls-Variable, rolls-Captured, rolls-Meet, rolls-NullTy}
use Rattle.jc_types.specs.declared.ids.CaptureId.{CaptureId}
use Rattle.jc_types.specs.declared.ids.ClassId.{ClassId}
use Rattle.jc_types.specs.declared.ids.VarId.{VarId}
use Rattle.jc_types.specs.declared.table.Table.{Table}
use Rattle.jc_types.specs.Inside.{inside, inside_arg, inside_args, inside_types}
use Rattle.jc_types.specs.Sameness.{same, all_pass}
use Rattle.jc_types.proofs.Insides.{inside-Class, inside-Array, inside-Meet, inside_arg-Exact, inside_arg-Extends, inside_arg-Super}
use Rattle.jc_types.proofs.Sameness.{same_self}
use Rattle.jc_judge.specs.declared.question.Answer.{Answer}
use Rattle.jc_judge.specs.declared.question.Answer.TheVariants.{Yes, No, Deep}
use Rattle.jc_judge.specs.Forming.{formed_answer, all_formed_answer, needs_answer, needs}
use Rattle.jc_judge.specs.Trees.{both}
use Rattle.jc_repair.specs.Looser.{arg_is_in_at, class_looser, array_looser, meet_looser, looser_at, is_looser, arg_is_in, in_exact, in_extends, in_super, in_any, RepairsAreAbove}
use Rattle.jc_repair.specs.Repairing.{is_yes, is_sound, loosened, loosened_at, repaired, repaired_arg}
use Rattle.jc_repair.proofs.Repaired.{repaired-Class, repaired-Array, repaired-Meet, repaired-Prim, repaired-Raw, repaired-Variable, repaired-Captured, repaired-NullTy, repaired_arg-Exact, repaired_arg-Any, repaired_arg-Extends, repaired_arg-Super}

-- ---- the test at each variant

looser_rolled : (l : Ty-F Arg Ty) → is_looser (roll-Ty l) ≡ looser_at (map-Ty Arg Ty (Arg × (Arg → Bool)) (Ty × (Ty → Bool)) (λ a. (a, arg_is_in a)) (λ t. (t, is_looser t)) l)
unfolding is_looser arg_is_in
looser_rolled l = para-roll-Ty (Arg → Bool) (Ty → Bool) arg_is_in_at looser_at l

in_rolled : (l : Arg-F Arg Ty) → arg_is_in (roll-Arg l) ≡ arg_is_in_at (map-Arg Arg Ty (Arg × (Arg → Bool)) (Ty × (Ty → Bool)) (λ a. (a, arg_is_in a)) (λ t. (t, is_looser t)) l)
unfolding is_looser arg_is_in
in_rolled l = para-roll-Arg (Arg → Bool) (Ty → Bool) arg_is_in_at looser_at l

later_args : (xs : List Arg) → map (λ x. x.1) (map (λ a. let r : Arg × (Arg → Bool) = (a, arg_is_in a) in r) xs) ≡ map arg_is_in xs
later_args [] = refl
later_args (x ∷ xs) = ap (λ ys. arg_is_in x ∷ ys) (later_args xs)

later_types : (xs : List Ty) → map (λ x. x.1) (map (λ t. let r : Ty × (Ty → Bool) = (t, is_looser t) in r) xs) ≡ map is_looser xs
later_types [] = refl
later_types (x ∷ xs) = ap (λ ys. is_looser x ∷ ys) (later_types xs)

looser-Class : (i : ClassId) (xs : List Arg) (u : Ty) → is_looser (Class i xs) u ≡ class_looser i (map arg_is_in xs) (out-Ty u)
looser-Class i xs u =
    ap (λ (f : Ty → Bool). f u) (ap is_looser (sym (rolls-Class i xs)) ∙ looser_rolled (Ty-F.Class i xs))
    ∙ ap (λ fs. class_looser i fs (out-Ty u)) (later_args xs)

looser-Array : (t : Ty) (n : ℕ) (u : Ty) → is_looser (Array t n) u ≡ array_looser n (is_looser t) (out-Ty u)
looser-Array t n u = ap (λ (f : Ty → Bool). f u) (ap is_looser (sym (rolls-Array t n)) ∙ looser_rolled (Ty-F.Array t n))

looser-Meet : (xs : List Ty) (u : Ty) → is_looser (Meet xs) u ≡ meet_looser (map is_looser xs) (out-Ty u)
looser-Meet xs u =
    ap (λ (f : Ty → Bool). f u) (ap is_looser (sym (rolls-Meet xs)) ∙ looser_rolled (Ty-F.Meet xs))
    ∙ ap (λ fs. meet_looser fs (out-Ty u)) (later_types xs)

looser-Prim : (p : Primitive) (u : Ty) → is_looser (Prim p) u ≡ same (Prim p) u
looser-Prim p u = ap (λ (f : Ty → Bool). f u) (ap is_looser (sym (rolls-Prim p)) ∙ looser_rolled (Ty-F.Prim p))

looser-Raw : (i : ClassId) (u : Ty) → is_looser (Raw i) u ≡ same (Raw i) u
looser-Raw i u = ap (λ (f : Ty → Bool). f u) (ap is_looser (sym (rolls-Raw i)) ∙ looser_rolled (Ty-F.Raw i))

looser-Variable : (v : VarId) (u : Ty) → is_looser (Variable v) u ≡ same (Variable v) u
looser-Variable v u = ap (λ (f : Ty → Bool). f u) (ap is_looser (sym (rolls-Variable v)) ∙ looser_rolled (Ty-F.Variable v))

looser-Captured : (c : CaptureId) (u : Ty) → is_looser (Captured c) u ≡ same (Captured c) u
looser-Captured c u = ap (λ (f : Ty → Bool). f u) (ap is_looser (sym (rolls-Captured c)) ∙ looser_rolled (Ty-F.Captured c))

looser-NullTy : (u : Ty) → is_looser NullTy u ≡ same NullTy u
looser-NullTy u = ap (λ (f : Ty → Bool). f u) (ap is_looser (sym rolls-NullTy) ∙ looser_rolled Ty-F.NullTy)

in-Exact : (t : Ty) (a : Arg) → arg_is_in (Exact t) a ≡ in_exact t (is_looser t) (out-Arg a)
in-Exact t a = ap (λ (f : Arg → Bool). f a) (ap arg_is_in (sym (rolls-Exact t)) ∙ in_rolled (Arg-F.Exact t))

in-Any : (a : Arg) → arg_is_in Any a ≡ in_any (out-Arg a)
in-Any a = ap (λ (f : Arg → Bool). f a) (ap arg_is_in (sym rolls-Any) ∙ in_rolled Arg-F.Any)

in-Extends : (t : Ty) (a : Arg) → arg_is_in (Extends t) a ≡ in_extends (is_looser t) (out-Arg a)
in-Extends t a = ap (λ (f : Arg → Bool). f a) (ap arg_is_in (sym (rolls-Extends t)) ∙ in_rolled (Arg-F.Extends t))

in-Super : (t : Ty) (a : Arg) → arg_is_in (Super t) a ≡ in_super t (out-Arg a)
in-Super t a = ap (λ (f : Arg → Bool). f a) (ap arg_is_in (sym (rolls-Super t)) ∙ in_rolled (Arg-F.Super t))

-- ---- small facts

both_first : (a b : Answer) → both a b ≡ Yes → a ≡ Yes
both_first Yes b e = refl
both_first No b e = cc
both_first Deep Yes e = cc
both_first Deep No e = cc
both_first Deep Deep e = cc

both_second : (a b : Answer) → both a b ≡ Yes → b ≡ Yes
both_second Yes b e = e
both_second No b e = cc
both_second Deep Yes e = refl
both_second Deep No e = cc
both_second Deep Deep e = cc

both_yes : (a b : Answer) → a ≡ Yes → b ≡ Yes → both a b ≡ Yes
both_yes Yes b e f = f
both_yes No b e f = cc
both_yes Deep b e f = cc

yes_is : (a : Answer) → is_yes a ≡ true → a ≡ Yes
yes_is Yes e = refl
yes_is No e = cc
yes_is Deep e = cc

class_above : (i : ClassId) (xs ys : List Arg) → all_pass (map arg_is_in xs) ys ≡ true → is_looser (Class i xs) (Class i ys) ≡ true
class_above i xs ys h = looser-Class i xs (Class i ys) ∙ ap (class_looser i (map arg_is_in xs)) (outs-Class i ys) ∙ and_from _ _ (self_equal i.0) h

array_above : (t u : Ty) (n : ℕ) → is_looser t u ≡ true → is_looser (Array t n) (Array u n) ≡ true
array_above t u n h = looser-Array t n (Array u n) ∙ ap (array_looser n (is_looser t)) (outs-Array u n) ∙ and_from _ _ (self_equal n) h

meet_above : (xs ys : List Ty) → all_pass (map is_looser xs) ys ≡ true → is_looser (Meet xs) (Meet ys) ≡ true
meet_above xs ys h = looser-Meet xs (Meet ys) ∙ ap (meet_looser (map is_looser xs)) (outs-Meet ys) ∙ h

loosened-Exact : (t : Ty) → loosened (Exact t) ≡ Extends t
unfolding loosened
loosened-Exact t = ap loosened_at (outs-Exact t)

loosened-Any : loosened Any ≡ Any
unfolding loosened
loosened-Any = ap loosened_at outs-Any

loosened-Extends : (t : Ty) → loosened (Extends t) ≡ Extends t
unfolding loosened
loosened-Extends t = ap loosened_at (outs-Extends t)

loosened-Super : (t : Ty) → loosened (Super t) ≡ Any
unfolding loosened
loosened-Super t = ap loosened_at (outs-Super t)

exact_in_exact : (t u : Ty) → same t u ≡ true → arg_is_in (Exact t) (Exact u) ≡ true
exact_in_exact t u h = in-Exact t (Exact u) ∙ ap (in_exact t (is_looser t)) (outs-Exact u) ∙ h

exact_in_extends : (t u : Ty) → is_looser t u ≡ true → arg_is_in (Exact t) (Extends u) ≡ true
exact_in_extends t u h = in-Exact t (Extends u) ∙ ap (in_exact t (is_looser t)) (outs-Extends u) ∙ h

any_in_any : arg_is_in Any Any ≡ true
any_in_any = in-Any Any ∙ ap in_any outs-Any

extends_in_extends : (t u : Ty) → is_looser t u ≡ true → arg_is_in (Extends t) (Extends u) ≡ true
extends_in_extends t u h = in-Extends t (Extends u) ∙ ap (in_extends (is_looser t)) (outs-Extends u) ∙ h

super_in_super : (t u : Ty) → same t u ≡ true → arg_is_in (Super t) (Super u) ≡ true
super_in_super t u h = in-Super t (Super u) ∙ ap (in_super t) (outs-Super u) ∙ h

super_in_any : (t : Ty) → arg_is_in (Super t) Any ≡ true
super_in_any t = in-Super t Any ∙ ap (in_super t) outs-Any

-- ---- what is formed stays

abbrev AreFormed : Table → List Bounds → List Ty → Type 0
AreFormed T env ts = all_formed_answer T 64 env ts ≡ Yes

formed_append : (T : Table) (env : List Bounds) (ss ts : List Ty) → AreFormed T env (ss ++ ts) → AreFormed T env ss × AreFormed T env ts
formed_append T env [] ts h = (refl, h)
formed_append T env (s ∷ ss) ts h =
    let first = both_first (needs_answer T 64 (needs T env s)) _ h in
    let rest = formed_append T env ss ts (both_second (needs_answer T 64 (needs T env s)) _ h) in
    (both_yes _ _ first rest.0, rest.1)

sound_formed : (T : Table) (env : List Bounds) (t : Ty) → is_sound T env t ≡ true → AreFormed T env (inside t)
unfolding formed_answer
sound_formed T env t h = yes_is _ h

formed_sound : (T : Table) (env : List Bounds) (t : Ty) → AreFormed T env (inside t) → is_sound T env t ≡ true
unfolding formed_answer
formed_sound T env t h = ap is_yes h

formed_args : (T : Table) (env : List Bounds) (i : ClassId) (xs : List Arg) → AreFormed T env (inside (Class i xs)) → AreFormed T env (inside_args xs)
formed_args T env i xs h =
    both_second (needs_answer T 64 (needs T env (Class i xs))) _ (subst (AreFormed T env) (inside-Class i xs) h)

module _ (T : Table) (env : List Bounds) where
  abbrev StaysArg : Arg → Type 0
  StaysArg a = AreFormed T env (inside_arg a) → repaired_arg T env a ≡ a

  abbrev Stays : Ty → Type 0
  Stays t = AreFormed T env (inside t) → repaired T env t ≡ t

  abbrev SArg : Type 0
  SArg = (a : Arg) × StaysArg a

  abbrev STy : Type 0
  STy = (t : Ty) × Stays t

  args_stay : (zs : List SArg) → AreFormed T env (inside_args (map (λ z. z.0) zs)) → map (repaired_arg T env) (map (λ z. z.0) zs) ≡ map (λ z. z.0) zs
  args_stay [] h = refl
  args_stay (z ∷ zs) h =
      let parts = formed_append T env (inside_arg z.0) (inside_args (map (λ z. z.0) zs)) h in
      let head : repaired_arg T env z.0 ≡ z.0 = z.1 parts.0 in
      let tail : map (repaired_arg T env) (map (λ z. z.0) zs) ≡ map (λ z. z.0) zs = args_stay zs parts.1 in
      cc

  types_stay : (zs : List STy) → AreFormed T env (inside_types (map (λ z. z.0) zs)) → map (repaired T env) (map (λ z. z.0) zs) ≡ map (λ z. z.0) zs
  types_stay [] h = refl
  types_stay (z ∷ zs) h =
      let parts = formed_append T env (inside z.0) (inside_types (map (λ z. z.0) zs)) h in
      let head : repaired T env z.0 ≡ z.0 = z.1 parts.0 in
      let tail : map (repaired T env) (map (λ z. z.0) zs) ≡ map (λ z. z.0) zs = types_stay zs parts.1 in
      cc

  chosen : (i : ClassId) (xs ys : List Arg) (b : Bool) → b ≡ true → xs ≡ ys → (if b then Class i xs else Class i (map loosened xs)) ≡ Class i ys
  chosen i xs ys true e h = ap (Class i) h
  chosen i xs ys false e h = cc

  class_stays : (i : ClassId) (zs : List SArg) → Stays (Class i (map (λ z. z.0) zs))
  class_stays i zs h =
      repaired-Class T env i (map (λ z. z.0) zs)
      ∙ chosen i (map (repaired_arg T env) (map (λ z. z.0) zs)) (map (λ z. z.0) zs) (is_sound T env (Class i (map (λ z. z.0) zs))) (formed_sound T env (Class i (map (λ z. z.0) zs)) h)
      (args_stay zs (formed_args T env i (map (λ z. z.0) zs) h))

  abbrev own : Ty-F SArg STy → Ty-F Arg Ty
  own y = map-Ty SArg STy Arg Ty (λ z. z.0) (λ z. z.0) y

  abbrev own_arg : Arg-F SArg STy → Arg-F Arg Ty
  own_arg y = map-Arg SArg STy Arg Ty (λ z. z.0) (λ z. z.0) y

  layer_stays : (y : Ty-F SArg STy) → Stays (roll-Ty (own y))
  layer_stays (Ty-F.Prim p) = subst Stays (sym (rolls-Prim p)) (λ h. repaired-Prim T env p)
  layer_stays (Ty-F.Class i zs) = subst Stays (sym (rolls-Class i (map (λ z. z.0) zs))) (class_stays i zs)
  layer_stays (Ty-F.Raw i) = subst Stays (sym (rolls-Raw i)) (λ h. repaired-Raw T env i)
  layer_stays (Ty-F.Array z n) =
      subst Stays (sym (rolls-Array z.0 n)) (λ h. repaired-Array T env z.0 n ∙ ap (λ u. Array u n) (z.1 (subst (AreFormed T env) (inside-Array z.0 n) h)))
  layer_stays (Ty-F.Variable v) = subst Stays (sym (rolls-Variable v)) (λ h. repaired-Variable T env v)
  layer_stays (Ty-F.Captured c) = subst Stays (sym (rolls-Captured c)) (λ h. repaired-Captured T env c)
  layer_stays (Ty-F.Meet zs) =
      subst Stays (sym (rolls-Meet (map (λ z. z.0) zs)))
      (λ h. repaired-Meet T env (map (λ z. z.0) zs) ∙ ap Meet (types_stay zs (subst (AreFormed T env) (inside-Meet (map (λ z. z.0) zs)) h)))
  layer_stays Ty-F.NullTy = subst Stays (sym rolls-NullTy) (λ h. repaired-NullTy T env)

  arg_layer_stays : (y : Arg-F SArg STy) → StaysArg (roll-Arg (own_arg y))
  arg_layer_stays (Arg-F.Exact z) =
      subst StaysArg (sym (rolls-Exact z.0)) (λ h. repaired_arg-Exact T env z.0 ∙ ap Exact (z.1 (subst (AreFormed T env) (inside_arg-Exact z.0) h)))
  arg_layer_stays Arg-F.Any = subst StaysArg (sym rolls-Any) (λ h. repaired_arg-Any T env)
  arg_layer_stays (Arg-F.Extends z) =
      subst StaysArg (sym (rolls-Extends z.0)) (λ h. repaired_arg-Extends T env z.0 ∙ ap Extends (z.1 (subst (AreFormed T env) (inside_arg-Extends z.0) h)))
  arg_layer_stays (Arg-F.Super z) =
      subst StaysArg (sym (rolls-Super z.0)) (λ h. repaired_arg-Super T env z.0 ∙ ap Super (z.1 (subst (AreFormed T env) (inside_arg-Super z.0) h)))

  formed_stays : (t : Ty) → Stays t
  formed_stays = ind-Ty StaysArg Stays
      (λ x y is. subst (λ x. StaysArg (roll-Arg x)) is (arg_layer_stays y))
      (λ x y is. subst (λ x. Stays (roll-Ty x)) is (layer_stays y))

  -- ---- and all is above

  -- an argument is contained in its repair where it is formed, and in its repair that is loosened
  pub record Rises (a : Arg) : Type 0 where
    pub kept : AreFormed T env (inside_arg a) → arg_is_in a (repaired_arg T env a) ≡ true
    pub loose : arg_is_in a (loosened (repaired_arg T env a)) ≡ true

  abbrev IsAbove : Ty → Type 0
  IsAbove t = is_looser t (repaired T env t) ≡ true

  abbrev RArg : Type 0
  RArg = (a : Arg) × Rises a

  abbrev RTy : Type 0
  RTy = (t : Ty) × IsAbove t

  args_kept : (zs : List RArg) → AreFormed T env (inside_args (map (λ z. z.0) zs)) → all_pass (map arg_is_in (map (λ z. z.0) zs)) (map (repaired_arg T env) (map (λ z. z.0) zs)) ≡ true
  args_kept [] h = refl
  args_kept (z ∷ zs) h =
      let parts = formed_append T env (inside_arg z.0) (inside_args (map (λ z. z.0) zs)) h in
      and_from _ _ (z.1.kept parts.0) (args_kept zs parts.1)

  args_loose : (zs : List RArg) → all_pass (map arg_is_in (map (λ z. z.0) zs)) (map loosened (map (repaired_arg T env) (map (λ z. z.0) zs))) ≡ true
  args_loose [] = refl
  args_loose (z ∷ zs) = and_from _ _ z.1.loose (args_loose zs)

  types_above : (zs : List RTy) → all_pass (map is_looser (map (λ z. z.0) zs)) (map (repaired T env) (map (λ z. z.0) zs)) ≡ true
  types_above [] = refl
  types_above (z ∷ zs) = and_from _ _ z.1 (types_above zs)

  above_chosen : (i : ClassId) (xs ys : List Arg) (b : Bool) → (b ≡ true → all_pass (map arg_is_in xs) ys ≡ true) → all_pass (map arg_is_in xs) (map loosened ys) ≡ true → is_looser (Class i xs) (if b then Class i ys else Class i (map loosened ys)) ≡ true
  above_chosen i xs ys true kept loose = class_above i xs ys (kept refl)
  above_chosen i xs ys false kept loose = class_above i xs (map loosened ys) loose

  class_rises : (i : ClassId) (zs : List RArg) → IsAbove (Class i (map (λ z. z.0) zs))
  class_rises i zs =
      ap (is_looser (Class i (map (λ z. z.0) zs))) (repaired-Class T env i (map (λ z. z.0) zs))
      ∙ above_chosen i (map (λ z. z.0) zs) (map (repaired_arg T env) (map (λ z. z.0) zs)) (is_sound T env (Class i (map (λ z. z.0) zs)))
      (λ sound. args_kept zs (formed_args T env i (map (λ z. z.0) zs) (sound_formed T env (Class i (map (λ z. z.0) zs)) sound)))
      (args_loose zs)

  abbrev plain : Ty-F RArg RTy → Ty-F Arg Ty
  plain y = map-Ty RArg RTy Arg Ty (λ z. z.0) (λ z. z.0) y

  abbrev plain_arg : Arg-F RArg RTy → Arg-F Arg Ty
  plain_arg y = map-Arg RArg RTy Arg Ty (λ z. z.0) (λ z. z.0) y

  layer_rises : (y : Ty-F RArg RTy) → IsAbove (roll-Ty (plain y))
  layer_rises (Ty-F.Prim p) = subst IsAbove (sym (rolls-Prim p)) (ap (is_looser (Prim p)) (repaired-Prim T env p) ∙ looser-Prim p (Prim p) ∙ same_self (Prim p))
  layer_rises (Ty-F.Class i zs) = subst IsAbove (sym (rolls-Class i (map (λ z. z.0) zs))) (class_rises i zs)
  layer_rises (Ty-F.Raw i) = subst IsAbove (sym (rolls-Raw i)) (ap (is_looser (Raw i)) (repaired-Raw T env i) ∙ looser-Raw i (Raw i) ∙ same_self (Raw i))
  layer_rises (Ty-F.Array z n) =
      subst IsAbove (sym (rolls-Array z.0 n)) (ap (is_looser (Array z.0 n)) (repaired-Array T env z.0 n) ∙ array_above z.0 (repaired T env z.0) n z.1)
  layer_rises (Ty-F.Variable v) =
      subst IsAbove (sym (rolls-Variable v)) (ap (is_looser (Variable v)) (repaired-Variable T env v) ∙ looser-Variable v (Variable v) ∙ same_self (Variable v))
  layer_rises (Ty-F.Captured c) =
      subst IsAbove (sym (rolls-Captured c)) (ap (is_looser (Captured c)) (repaired-Captured T env c) ∙ looser-Captured c (Captured c) ∙ same_self (Captured c))
  layer_rises (Ty-F.Meet zs) =
      subst IsAbove (sym (rolls-Meet (map (λ z. z.0) zs)))
      (ap (is_looser (Meet (map (λ z. z.0) zs))) (repaired-Meet T env (map (λ z. z.0) zs)) ∙ meet_above (map (λ z. z.0) zs) (map (repaired T env) (map (λ z. z.0) zs)) (types_above zs))
  layer_rises Ty-F.NullTy = subst IsAbove (sym rolls-NullTy) (ap (is_looser NullTy) (repaired-NullTy T env) ∙ looser-NullTy NullTy ∙ same_self NullTy)

  same_kept : (t : Ty) → AreFormed T env (inside t) → same t (repaired T env t) ≡ true
  same_kept t h = ap (same t) (formed_stays t h) ∙ same_self t

  exact_rises : (t : Ty) → IsAbove t → Rises (Exact t)
  exact_rises t above =
      record {
        kept = λ h. ap (arg_is_in (Exact t)) (repaired_arg-Exact T env t) ∙ exact_in_exact t (repaired T env t) (same_kept t (subst (AreFormed T env) (inside_arg-Exact t) h));
        loose = ap (λ a. arg_is_in (Exact t) (loosened a)) (repaired_arg-Exact T env t) ∙ ap (arg_is_in (Exact t)) (loosened-Exact (repaired T env t)) ∙ exact_in_extends t (repaired T env t) above;
      }

  any_rises : Rises Any
  any_rises =
      record {
        kept = λ h. ap (arg_is_in Any) (repaired_arg-Any T env) ∙ any_in_any;
        loose = ap (λ a. arg_is_in Any (loosened a)) (repaired_arg-Any T env) ∙ ap (arg_is_in Any) loosened-Any ∙ any_in_any;
      }

  extends_rises : (t : Ty) → IsAbove t → Rises (Extends t)
  extends_rises t above =
      record {
        kept = λ h. ap (arg_is_in (Extends t)) (repaired_arg-Extends T env t) ∙ extends_in_extends t (repaired T env t) above;
        loose = ap (λ a. arg_is_in (Extends t) (loosened a)) (repaired_arg-Extends T env t) ∙ ap (arg_is_in (Extends t)) (loosened-Extends (repaired T env t)) ∙ extends_in_extends t (repaired T env t) above;
      }

  super_rises : (t : Ty) → Rises (Super t)
  super_rises t =
      record {
        kept = λ h. ap (arg_is_in (Super t)) (repaired_arg-Super T env t) ∙ super_in_super t (repaired T env t) (same_kept t (subst (AreFormed T env) (inside_arg-Super t) h));
        loose = ap (λ a. arg_is_in (Super t) (loosened a)) (repaired_arg-Super T env t) ∙ ap (arg_is_in (Super t)) (loosened-Super (repaired T env t)) ∙ super_in_any t;
      }

  arg_layer_rises : (y : Arg-F RArg RTy) → Rises (roll-Arg (plain_arg y))
  arg_layer_rises (Arg-F.Exact z) = subst Rises (sym (rolls-Exact z.0)) (exact_rises z.0 z.1)
  arg_layer_rises Arg-F.Any = subst Rises (sym rolls-Any) any_rises
  arg_layer_rises (Arg-F.Extends z) = subst Rises (sym (rolls-Extends z.0)) (extends_rises z.0 z.1)
  arg_layer_rises (Arg-F.Super z) = subst Rises (sym (rolls-Super z.0)) (super_rises z.0)

  pub all_above : (t : Ty) → IsAbove t
  all_above = ind-Ty Rises IsAbove
      (λ x y is. subst (λ x. Rises (roll-Arg x)) is (arg_layer_rises y))
      (λ x y is. subst (λ x. IsAbove (roll-Ty x)) is (layer_rises y))

pub repairs_are_above : RepairsAreAbove
repairs_are_above T env t = all_above T env t
