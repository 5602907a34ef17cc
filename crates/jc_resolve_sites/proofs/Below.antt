-- Types name no variable whose number is not below the number above theirs.
use Rattle.std.proofs.Common.{◌≡◌, ℕ, ◌+◌, ◌<◌, ◌≤◌, ◌==◌, max, Bool, false, List, [], ◌∷◌, map, refl, sym, subst, ◌∙◌, arith}
use Rattle.std.specs.Prelude.{◌||◌}
use Rattle.std.proofs.lemmas.Bool.Decides.{nat_tests}
use Rattle.jc_types.specs.declared.form.Arg.{Arg, Arg-F, map-Arg, roll-Arg}
use Rattle.jc_types.specs.declared.form.Arg.TheVariants.{Exact, Any, Extends, Super, rolls-Exact, rolls-Any, rolls-Extends, rolls-Super}
use Rattle.jc_types.specs.declared.form.Ty.{Ty, Ty-F, roll-Ty, map-Ty, ind-Ty}
use Rattle.jc_types.specs.declared.form.Ty.TheVariants.{Class, Meet, rolls-Prim, rolls-Class, rolls-Raw, rolls-Array, rolls-Variable, rolls-Captured, rolls-Meet, rolls-NullTy}
use Rattle.jc_types.specs.declared.ids.VarId.{VarId}
use Rattle.jc_constraints.specs.Constraints.{is_unknown}
use Rattle.jc_infer.specs.Naming.{any_true, names, names_in_arg}
use Rattle.jc_infer.proofs.Named.{names-Prim, names-Class, names-Raw, names-Array, names-Variable, names-Captured, names-Meet, names-NullTy, names_in_arg-Exact, names_in_arg-Any, names_in_arg-Extends, names_in_arg-Super}
use Rattle.jc_resolve_sites.specs.Above.{above, above_in_arg, greatest}
use Rattle.jc_resolve_sites.specs.Laws.{AllFrom}
use Rattle.jc_resolve_sites.proofs.Forms.{above-Class, above-Array, above-Variable, above-Meet, above_in_arg-Exact, above_in_arg-Extends, above_in_arg-Super}

other_number : (a b : ℕ) → b < a → (a == b) ≡ false
other_number a b lt = grind (arith, nat_tests)

pub neither : (b c : Bool) → b ≡ false → c ≡ false → (b || c) ≡ false
neither b c e f = subst (λ x. (x || c) ≡ false) (sym e) f

pub known_below : (n : ℕ) (vars : List VarId) → AllFrom n vars → (v : VarId) → v.0 < n → is_unknown vars v ≡ false
known_below n [] h v lt = refl
known_below n (w ∷ ws) h v lt = neither (w.0 == v.0) (is_unknown ws v) (other_number w.0 v.0 (let from = h.0 in omega arith)) (known_below n ws h.1 v lt)

module _ (n : ℕ) (vars : List VarId) (from : AllFrom n vars) where
  abbrev Named : Ty → Type 0
  Named t = above t ≤ n → names vars t ≡ false

  abbrev NamedArg : Arg → Type 0
  NamedArg a = above_in_arg a ≤ n → names_in_arg vars a ≡ false

  abbrev SomeTy : Type 0
  SomeTy = (t : Ty) × Named t

  abbrev SomeArg : Type 0
  SomeArg = (a : Arg) × NamedArg a

  left : (a b : ℕ) → max a b ≤ n → a ≤ n
  left a b le = omega arith

  right : (a b : ℕ) → max a b ≤ n → b ≤ n
  right a b le = omega arith

  no_type : (zs : List SomeTy) → greatest (map above (map (λ z. z.0) zs)) ≤ n → any_true (map (names vars) (map (λ z. z.0) zs)) ≡ false
  no_type [] le = refl
  no_type (z ∷ zs) le =
      neither (names vars z.0) (any_true (map (names vars) (map (λ z. z.0) zs)))
      (z.1 (left (above z.0) (greatest (map above (map (λ z. z.0) zs))) le)) (no_type zs (right (above z.0) (greatest (map above (map (λ z. z.0) zs))) le))

  no_arg : (zs : List SomeArg) → greatest (map above_in_arg (map (λ z. z.0) zs)) ≤ n → any_true (map (names_in_arg vars) (map (λ z. z.0) zs)) ≡ false
  no_arg [] le = refl
  no_arg (z ∷ zs) le =
      neither (names_in_arg vars z.0) (any_true (map (names_in_arg vars) (map (λ z. z.0) zs)))
      (z.1 (left (above_in_arg z.0) (greatest (map above_in_arg (map (λ z. z.0) zs))) le)) (no_arg zs (right (above_in_arg z.0) (greatest (map above_in_arg (map (λ z. z.0) zs))) le))

  abbrev plain_layer : Ty-F SomeArg SomeTy → Ty-F Arg Ty
  plain_layer y = map-Ty SomeArg SomeTy Arg Ty (λ z. z.0) (λ z. z.0) y

  made : (t s : Ty) → t ≡ s → Named s → Named t
  made t s e h = subst Named (sym e) h

  bounded : (a b : ℕ) → a ≡ b → a ≤ n → b ≤ n
  bounded a b e le = subst (λ c. c ≤ n) e le

  layer_named : (y : Ty-F SomeArg SomeTy) → Named (roll-Ty (plain_layer y))
  layer_named (Ty-F.Prim p) = made _ _ (rolls-Prim p) (λ le. names-Prim vars p)
  layer_named (Ty-F.Class i zs) = made _ _ (rolls-Class i (map (λ z. z.0) zs)) (λ le. names-Class vars i (map (λ z. z.0) zs) ∙ no_arg zs (bounded _ _ (above-Class i (map (λ z. z.0) zs)) le))
  layer_named (Ty-F.Raw i) = made _ _ (rolls-Raw i) (λ le. names-Raw vars i)
  layer_named (Ty-F.Array z k) = made _ _ (rolls-Array z.0 k) (λ le. names-Array vars z.0 k ∙ z.1 (bounded _ _ (above-Array z.0 k) le))
  layer_named (Ty-F.Variable v) = made _ _ (rolls-Variable v) (λ le. names-Variable vars v ∙ known_below n vars from v (less v.0 (bounded _ _ (above-Variable v) le)))
    where
      less : (a : ℕ) → a + 1 ≤ n → a < n
      less a le = omega arith
  layer_named (Ty-F.Captured c) = made _ _ (rolls-Captured c) (λ le. names-Captured vars c)
  layer_named (Ty-F.Meet zs) = made _ _ (rolls-Meet (map (λ z. z.0) zs)) (λ le. names-Meet vars (map (λ z. z.0) zs) ∙ no_type zs (bounded _ _ (above-Meet (map (λ z. z.0) zs)) le))
  layer_named Ty-F.NullTy = made _ _ rolls-NullTy (λ le. names-NullTy vars)

  abbrev plain_arg_layer : Arg-F SomeArg SomeTy → Arg-F Arg Ty
  plain_arg_layer (Arg-F.Exact z) = Arg-F.Exact z.0
  plain_arg_layer Arg-F.Any = Arg-F.Any
  plain_arg_layer (Arg-F.Extends z) = Arg-F.Extends z.0
  plain_arg_layer (Arg-F.Super z) = Arg-F.Super z.0

  as_arg : (a b : Arg) → a ≡ b → NamedArg b → NamedArg a
  as_arg a b e h = subst NamedArg (sym e) h

  arg_layer_named : (y : Arg-F SomeArg SomeTy) (x : Arg-F Arg Ty) → plain_arg_layer y ≡ x → NamedArg (roll-Arg x)
  arg_layer_named (Arg-F.Exact z) x e = subst (λ x. NamedArg (roll-Arg x)) e (as_arg _ _ (rolls-Exact z.0) (λ le. names_in_arg-Exact vars z.0 ∙ z.1 (bounded _ _ (above_in_arg-Exact z.0) le)))
  arg_layer_named Arg-F.Any x e = subst (λ x. NamedArg (roll-Arg x)) e (as_arg _ _ rolls-Any (λ le. names_in_arg-Any vars))
  arg_layer_named (Arg-F.Extends z) x e = subst (λ x. NamedArg (roll-Arg x)) e (as_arg _ _ (rolls-Extends z.0) (λ le. names_in_arg-Extends vars z.0 ∙ z.1 (bounded _ _ (above_in_arg-Extends z.0) le)))
  arg_layer_named (Arg-F.Super z) x e = subst (λ x. NamedArg (roll-Arg x)) e (as_arg _ _ (rolls-Super z.0) (λ le. names_in_arg-Super vars z.0 ∙ z.1 (bounded _ _ (above_in_arg-Super z.0) le)))

  pub named_below : (t : Ty) → Named t
  named_below = ind-Ty NamedArg Named
      (λ x y is. arg_layer_named y x (by y ∙ is))
      (λ x y is. subst (λ x. Named (roll-Ty x)) is (layer_named y))
    where
      by : (y : Arg-F SomeArg SomeTy) → plain_arg_layer y ≡ map-Arg SomeArg SomeTy Arg Ty (λ z. z.0) (λ z. z.0) y
      by (Arg-F.Exact z) = refl
      by Arg-F.Any = refl
      by (Arg-F.Extends z) = refl
      by (Arg-F.Super z) = refl
