-- The test of sameness is right.
use Rattle.std.proofs.Common.{◌≡◌, ◌↔◌, ℕ, ◌==◌, Bool, true, false, IsTrue, List, [], ◌∷◌, map, arith, refl, ap, sym, subst, ◌∙◌}
use Rattle.std.proofs.lemmas.Bool.{and_from}
use Rattle.jc_rules.proofs.Truths.{equal_numbers, and_first, and_second, self_equal}
use Rattle.jc_types.specs.declared.form.Ty.{Ty, Ty-F, out-Ty, roll-Ty, roll-out-Ty, out-roll-Ty, map-Ty, fold-roll-Ty, ind-Ty}
use Rattle.jc_types.specs.declared.form.Arg.{Arg, Arg-F, out-Arg, roll-Arg, roll-out-Arg, out-roll-Arg, map-Arg, fold-roll-Arg}
use Rattle.jc_types.specs.declared.form.Primitive.{Primitive}
use Rattle.jc_types.specs.declared.form.Primitive.TheVariants.{Boolean, Byte, Short, Char, Int, Long}
use Rattle.jc_types.specs.declared.ids.ClassId.{ClassId}
use Rattle.jc_types.specs.declared.ids.VarId.{VarId}
use Rattle.jc_types.specs.declared.ids.CaptureId.{CaptureId}
use Rattle.jc_types.specs.Sameness.{prim_number, all_pass, arg_passes, type_passes, same, same_arg}

prim_same : (p q : Primitive) → (prim_number p == prim_number q) ≡ true → p ≡ q
prim_same Boolean Boolean e = refl
prim_same Byte Byte e = refl
prim_same Short Short e = refl
prim_same Char Char e = refl
prim_same Int Int e = refl
prim_same Long Long e = refl
prim_same _ _ e = cc

class_same : (i j : ClassId) → (i.0 == j.0) ≡ true → i ≡ j
class_same i j e = ap (λ (n : ℕ). let r : ClassId = record { 0 = n } in r) (equal_numbers i.0 j.0 e)

var_same : (i j : VarId) → (i.0 == j.0) ≡ true → i ≡ j
var_same i j e = ap (λ (n : ℕ). let r : VarId = record { 0 = n } in r) (equal_numbers i.0 j.0 e)

capture_same : (i j : CaptureId) → (i.0 == j.0) ≡ true → i ≡ j
capture_same i j e = ap (λ (n : ℕ). let r : CaptureId = record { 0 = n } in r) (equal_numbers i.0 j.0 e)

abbrev ToldArg : Arg → Type 0
ToldArg a = (b : Arg) → same_arg a b ≡ true → a ≡ b

abbrev Told : Ty → Type 0
Told t = (u : Ty) → same t u ≡ true → t ≡ u

abbrev SomeArg : Type 0
SomeArg = (a : Arg) × ToldArg a

abbrev SomeTy : Type 0
SomeTy = (t : Ty) × Told t

args_told : (zs : List SomeArg) (xs : List Arg) → all_pass (map same_arg (map (λ z. z.0) zs)) xs ≡ true → map (λ z. z.0) zs ≡ xs
args_told [] [] e = refl
args_told [] (x ∷ xs) e = cc
args_told (z ∷ zs) [] e = cc
args_told (z ∷ zs) (x ∷ xs) e =
    let head : z.0 ≡ x = z.1 x (and_first _ _ e) in
    let tail : map (λ z. z.0) zs ≡ xs = args_told zs xs (and_second (same_arg z.0 x) _ e) in
    cc

types_told : (zs : List SomeTy) (xs : List Ty) → all_pass (map same (map (λ z. z.0) zs)) xs ≡ true → map (λ z. z.0) zs ≡ xs
types_told [] [] e = refl
types_told [] (x ∷ xs) e = cc
types_told (z ∷ zs) [] e = cc
types_told (z ∷ zs) (x ∷ xs) e =
    let head : z.0 ≡ x = z.1 x (and_first _ _ e) in
    let tail : map (λ z. z.0) zs ≡ xs = types_told zs xs (and_second (same z.0 x) _ e) in
    cc

abbrev plain : Ty-F SomeArg SomeTy → Ty-F Arg Ty
plain y = map-Ty SomeArg SomeTy Arg Ty (λ z. z.0) (λ z. z.0) y

abbrev plain_arg : Arg-F SomeArg SomeTy → Arg-F Arg Ty
plain_arg y = map-Arg SomeArg SomeTy Arg Ty (λ z. z.0) (λ z. z.0) y

abbrev tests : Ty-F Arg Ty → Ty-F (Arg → Bool) (Ty → Bool)
tests l = map-Ty Arg Ty (Arg → Bool) (Ty → Bool) same_arg same l

abbrev arg_tests : Arg-F Arg Ty → Arg-F (Arg → Bool) (Ty → Bool)
arg_tests l = map-Arg Arg Ty (Arg → Bool) (Ty → Bool) same_arg same l

layer_told : (y : Ty-F SomeArg SomeTy) (l : Ty-F Arg Ty) → type_passes (tests (plain y)) l ≡ true → plain y ≡ l
layer_told (Ty-F.Prim p) (Ty-F.Prim q) e = ap Ty-F.Prim (prim_same p q e)
layer_told (Ty-F.Class i zs) (Ty-F.Class j xs) e =
    let ids : i ≡ j = class_same i j (and_first _ _ e) in
    let args : map (λ z. z.0) zs ≡ xs = args_told zs xs (and_second (i.0 == j.0) _ e) in
    cc
layer_told (Ty-F.Raw i) (Ty-F.Raw j) e = ap Ty-F.Raw (class_same i j e)
layer_told (Ty-F.Array z n) (Ty-F.Array t m) e =
    let dims : n ≡ m = equal_numbers n m (and_first _ _ e) in
    let of : z.0 ≡ t = z.1 t (and_second (n == m) _ e) in
    cc
layer_told (Ty-F.Variable v) (Ty-F.Variable w) e = ap Ty-F.Variable (var_same v w e)
layer_told (Ty-F.Captured v) (Ty-F.Captured w) e = ap Ty-F.Captured (capture_same v w e)
layer_told (Ty-F.Meet zs) (Ty-F.Meet xs) e = ap Ty-F.Meet (types_told zs xs e)
layer_told Ty-F.NullTy Ty-F.NullTy e = refl
layer_told _ _ e = cc

arg_layer_told : (y : Arg-F SomeArg SomeTy) (l : Arg-F Arg Ty) → arg_passes (arg_tests (plain_arg y)) l ≡ true → plain_arg y ≡ l
arg_layer_told (Arg-F.Exact z) (Arg-F.Exact t) e = ap Arg-F.Exact (z.1 t e)
arg_layer_told Arg-F.Any Arg-F.Any e = refl
arg_layer_told (Arg-F.Extends z) (Arg-F.Extends t) e = ap Arg-F.Extends (z.1 t e)
arg_layer_told (Arg-F.Super z) (Arg-F.Super t) e = ap Arg-F.Super (z.1 t e)
arg_layer_told _ _ e = cc

same_rolled : (l : Ty-F Arg Ty) (u : Ty) → same (roll-Ty l) u ≡ type_passes (tests l) (out-Ty u)
unfolding same same_arg
same_rolled l u = ap (λ (f : Ty → Bool). f u) (fold-roll-Ty (Arg → Bool) (Ty → Bool) (λ l a. arg_passes l (out-Arg a)) (λ l u. type_passes l (out-Ty u)) l)

same_arg_rolled : (l : Arg-F Arg Ty) (u : Arg) → same_arg (roll-Arg l) u ≡ arg_passes (arg_tests l) (out-Arg u)
unfolding same same_arg
same_arg_rolled l u = ap (λ (f : Arg → Bool). f u) (fold-roll-Arg (Arg → Bool) (Ty → Bool) (λ l a. arg_passes l (out-Arg a)) (λ l u. type_passes l (out-Ty u)) l)

pub same_told : (t : Ty) → Told t
same_told = ind-Ty ToldArg Told
    (λ x y is. subst (λ x. ToldArg (roll-Arg x)) is (λ u e. ap roll-Arg (arg_layer_told y (out-Arg u) (sym (same_arg_rolled _ u) ∙ e)) ∙ roll-out-Arg u))
    (λ x y is. subst (λ x. Told (roll-Ty x)) is (λ u e. ap roll-Ty (layer_told y (out-Ty u) (sym (same_rolled _ u) ∙ e)) ∙ roll-out-Ty u))

abbrev SelfArg : Type 0
SelfArg = (a : Arg) × (same_arg a a ≡ true)

abbrev SelfTy : Type 0
SelfTy = (t : Ty) × (same t t ≡ true)

args_self : (zs : List SelfArg) → all_pass (map same_arg (map (λ z. z.0) zs)) (map (λ z. z.0) zs) ≡ true
args_self [] = refl
args_self (z ∷ zs) = and_from _ _ z.1 (args_self zs)

types_self : (zs : List SelfTy) → all_pass (map same (map (λ z. z.0) zs)) (map (λ z. z.0) zs) ≡ true
types_self [] = refl
types_self (z ∷ zs) = and_from _ _ z.1 (types_self zs)

abbrev own : Ty-F SelfArg SelfTy → Ty-F Arg Ty
own y = map-Ty SelfArg SelfTy Arg Ty (λ z. z.0) (λ z. z.0) y

abbrev own_arg : Arg-F SelfArg SelfTy → Arg-F Arg Ty
own_arg y = map-Arg SelfArg SelfTy Arg Ty (λ z. z.0) (λ z. z.0) y

-- each type passes its own test
layer_self : (y : Ty-F SelfArg SelfTy) → type_passes (tests (own y)) (own y) ≡ true
layer_self (Ty-F.Prim p) = self_equal (prim_number p)
layer_self (Ty-F.Class i zs) = and_from _ _ (self_equal i.0) (args_self zs)
layer_self (Ty-F.Raw i) = self_equal i.0
layer_self (Ty-F.Array z n) = and_from _ _ (self_equal n) z.1
layer_self (Ty-F.Variable v) = self_equal v.0
layer_self (Ty-F.Captured v) = self_equal v.0
layer_self (Ty-F.Meet zs) = types_self zs
layer_self Ty-F.NullTy = refl

arg_layer_self : (y : Arg-F SelfArg SelfTy) → arg_passes (arg_tests (own_arg y)) (own_arg y) ≡ true
arg_layer_self (Arg-F.Exact z) = z.1
arg_layer_self Arg-F.Any = refl
arg_layer_self (Arg-F.Extends z) = z.1
arg_layer_self (Arg-F.Super z) = z.1

pub same_self : (t : Ty) → same t t ≡ true
same_self = ind-Ty (λ a. same_arg a a ≡ true) (λ t. same t t ≡ true)
    (λ x y is. subst (λ x. same_arg (roll-Arg x) (roll-Arg x) ≡ true) is (same_arg_rolled _ _ ∙ ap (arg_passes (arg_tests (own_arg y))) (out-roll-Arg _) ∙ arg_layer_self y))
    (λ x y is. subst (λ x. same (roll-Ty x) (roll-Ty x) ≡ true) is (same_rolled _ _ ∙ ap (type_passes (tests (own y))) (out-roll-Ty _) ∙ layer_self y))

-- what a test that tells sameness answers
pub is_same : (a b : Ty) (r : Bool) → IsTrue r ↔ (a ≡ b) → r ≡ same a b
is_same a b true h = sym (subst (λ b. same a b ≡ true) (h.0 refl) (same_self a))
is_same a b false h = by_test (same a b) (same_told a b) h.1
  where
    by_test : (s : Bool) → (s ≡ true → a ≡ b) → (a ≡ b → IsTrue false) → false ≡ s
    by_test true f g = g (f refl)
    by_test false f g = refl
