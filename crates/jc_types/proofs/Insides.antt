-- The class types inside each variant.
use Rattle.std.proofs.Common.{◌≡◌, List, [], ◌∷◌, ◌++◌, map, refl, ap, sym, ◌∙◌, append_assoc, append-nil, ℕ, ◌+◌, ◌<◌, length, take, get_or, Result, Ok, Err, OnOk}
use Rattle.std.proofs.lemmas.List.{take_more}
use Rattle.jc_types.specs.declared.form.Ty.{Ty, Ty-F, roll-Ty, map-Ty, para-roll-Ty}
use Rattle.jc_types.specs.declared.form.Ty.TheVariants.{Prim, Class, Raw, Array, Variable, Captured, Meet, NullTy, rolls-Prim, rolls-Class, rolls-Raw, rolls-Array, rolls-Variable, rolls-Captured, rolls-Meet, rolls-NullTy}
use Rattle.jc_types.specs.declared.form.Arg.{Arg, Arg-F, roll-Arg, map-Arg, para-roll-Arg}
use Rattle.jc_types.specs.declared.form.Arg.TheVariants.{Exact, Any, Extends, Super, rolls-Exact, rolls-Any, rolls-Extends, rolls-Super}
use Rattle.jc_types.specs.declared.ids.ClassId.{ClassId}
use Rattle.jc_types.specs.declared.ids.VarId.{VarId}
use Rattle.jc_types.specs.declared.ids.CaptureId.{CaptureId}
use Rattle.jc_types.specs.declared.form.Primitive.{Primitive}
use Rattle.jc_types.specs.Inside.{inside, inside_arg, inside_args, inside_types, inside_at, inside_arg_at, parts_of_args, parts_of_types}

inside_rolled : (l : Ty-F Arg Ty) → inside (roll-Ty l) ≡ inside_at (map-Ty Arg Ty (Arg × List Ty) (Ty × List Ty) (λ a. (a, inside_arg a)) (λ t. (t, inside t)) l)
unfolding inside inside_arg
inside_rolled l = para-roll-Ty (List Ty) (List Ty) inside_arg_at inside_at l

inside_arg_rolled : (l : Arg-F Arg Ty) → inside_arg (roll-Arg l) ≡ inside_arg_at (map-Arg Arg Ty (Arg × List Ty) (Ty × List Ty) (λ a. (a, inside_arg a)) (λ t. (t, inside t)) l)
unfolding inside inside_arg
inside_arg_rolled l = para-roll-Arg (List Ty) (List Ty) inside_arg_at inside_at l

paired_args : (xs : List Arg) → map (λ x. x.0) (map (λ a. let r : Arg × List Ty = (a, inside_arg a) in r) xs) ≡ xs
paired_args [] = refl
paired_args (x ∷ xs) = ap (λ ys. x ∷ ys) (paired_args xs)

args_parts : (xs : List Arg) → parts_of_args (map (λ a. (a, inside_arg a)) xs) ≡ inside_args xs
args_parts [] = refl
args_parts (x ∷ xs) = ap (λ ys. inside_arg x ++ ys) (args_parts xs)

types_parts : (xs : List Ty) → parts_of_types (map (λ t. (t, inside t)) xs) ≡ inside_types xs
types_parts [] = refl
types_parts (x ∷ xs) = ap (λ ys. inside x ++ ys) (types_parts xs)

pub inside-Class : (i : ClassId) (xs : List Arg) → inside (Class i xs) ≡ Class i xs ∷ inside_args xs
inside-Class i xs =
    ap inside (sym (rolls-Class i xs)) ∙ inside_rolled (Ty-F.Class i xs)
    ∙ ap (λ ys. Class i ys ∷ parts_of_args (map (λ a. (a, inside_arg a)) xs)) (paired_args xs)
    ∙ ap (λ ys. Class i xs ∷ ys) (args_parts xs)

pub inside-Array : (t : Ty) (n : ℕ) → inside (Array t n) ≡ inside t
inside-Array t n = ap inside (sym (rolls-Array t n)) ∙ inside_rolled (Ty-F.Array t n)

pub inside-Meet : (xs : List Ty) → inside (Meet xs) ≡ inside_types xs
inside-Meet xs = ap inside (sym (rolls-Meet xs)) ∙ inside_rolled (Ty-F.Meet xs) ∙ types_parts xs

pub inside-Prim : (p : Primitive) → inside (Prim p) ≡ []
inside-Prim p = ap inside (sym (rolls-Prim p)) ∙ inside_rolled (Ty-F.Prim p)

pub inside-Raw : (i : ClassId) → inside (Raw i) ≡ Raw i ∷ []
inside-Raw i = ap inside (sym (rolls-Raw i)) ∙ inside_rolled (Ty-F.Raw i)

pub inside-Variable : (v : VarId) → inside (Variable v) ≡ []
inside-Variable v = ap inside (sym (rolls-Variable v)) ∙ inside_rolled (Ty-F.Variable v)

pub inside-Captured : (v : CaptureId) → inside (Captured v) ≡ []
inside-Captured v = ap inside (sym (rolls-Captured v)) ∙ inside_rolled (Ty-F.Captured v)

pub inside-NullTy : inside NullTy ≡ []
inside-NullTy = ap inside (sym rolls-NullTy) ∙ inside_rolled Ty-F.NullTy

pub inside_arg-Exact : (t : Ty) → inside_arg (Exact t) ≡ inside t
inside_arg-Exact t = ap inside_arg (sym (rolls-Exact t)) ∙ inside_arg_rolled (Arg-F.Exact t)

pub inside_arg-Any : inside_arg Any ≡ []
inside_arg-Any = ap inside_arg (sym rolls-Any) ∙ inside_arg_rolled Arg-F.Any

pub inside_arg-Extends : (t : Ty) → inside_arg (Extends t) ≡ inside t
inside_arg-Extends t = ap inside_arg (sym (rolls-Extends t)) ∙ inside_arg_rolled (Arg-F.Extends t)

pub inside_arg-Super : (t : Ty) → inside_arg (Super t) ≡ inside t
inside_arg-Super t = ap inside_arg (sym (rolls-Super t)) ∙ inside_arg_rolled (Arg-F.Super t)

pub ruleset insides = (inside-Class, inside-Array, inside-Meet, inside-Prim, inside-Raw, inside-Variable, inside-Captured, inside-NullTy, inside_arg-Exact, inside_arg-Any, inside_arg-Extends, inside_arg-Super)

pub inside_args-append : (xs ys : List Arg) → inside_args (xs ++ ys) ≡ inside_args xs ++ inside_args ys
inside_args-append [] ys = refl
inside_args-append (x ∷ xs) ys = ap (λ zs. inside_arg x ++ zs) (inside_args-append xs ys) ∙ sym (append_assoc (inside_arg x) (inside_args xs) (inside_args ys))

pub inside_types-append : (xs ys : List Ty) → inside_types (xs ++ ys) ≡ inside_types xs ++ inside_types ys
inside_types-append [] ys = refl
inside_types-append (x ∷ xs) ys = ap (λ zs. inside x ++ zs) (inside_types-append xs ys) ∙ sym (append_assoc (inside x) (inside_types xs) (inside_types ys))

inside_args-single : (x : Arg) → inside_args (x ∷ []) ≡ inside_arg x
inside_args-single x = append-nil (inside_arg x)

inside_types-single : (x : Ty) → inside_types (x ∷ []) ≡ inside x
inside_types-single x = append-nil (inside x)

pub none_inside : (out xs : List Ty) → xs ≡ [] → out ≡ out ++ xs
none_inside out xs e = sym (append-nil out) ∙ ap (λ ys. out ++ ys) (sym e)

pub args_step : (first out next : List Ty) (xs : List Arg) (i : ℕ) (x : Arg) → i < length xs → x ≡ get_or xs i x
    → out ≡ first ++ inside_args (take i xs) → next ≡ out ++ inside_arg x → next ≡ first ++ inside_args (take (i + 1) xs)
args_step first out next xs i x lt ex before after =
    after ∙ ap (λ ys. ys ++ inside_arg x) before ∙ append_assoc first (inside_args (take i xs)) (inside_arg x)
    ∙ ap (λ ys. first ++ ys) (ap (λ ys. inside_args (take i xs) ++ ys) (sym (inside_args-single x)) ∙ sym (inside_args-append (take i xs) (x ∷ [])))
    ∙ ap (λ ys. first ++ inside_args ys) (ap (λ y. take i xs ++ y ∷ []) ex ∙ sym (take_more xs i x lt))

pub types_step : (first out next : List Ty) (xs : List Ty) (i : ℕ) (x : Ty) → i < length xs → x ≡ get_or xs i x
    → out ≡ first ++ inside_types (take i xs) → next ≡ out ++ inside x → next ≡ first ++ inside_types (take (i + 1) xs)
types_step first out next xs i x lt ex before after =
    after ∙ ap (λ ys. ys ++ inside x) before ∙ append_assoc first (inside_types (take i xs)) (inside x)
    ∙ ap (λ ys. first ++ ys) (ap (λ ys. inside_types (take i xs) ++ ys) (sym (inside_types-single x)) ∙ sym (inside_types-append (take i xs) (x ∷ [])))
    ∙ ap (λ ys. first ++ inside_types ys) (ap (λ y. take i xs ++ y ∷ []) ex ∙ sym (take_more xs i x lt))

pub class_step : (t : Ty) (i : ClassId) (xs ys : List Arg) (out mid new : List Ty) → t ≡ Class i xs → ys ≡ xs → mid ≡ out ++ t ∷ [] → new ≡ mid ++ inside_args ys → new ≡ out ++ inside t
class_step t i xs ys out mid new et ey em en =
    en ∙ ap (λ zs. mid ++ inside_args zs) ey ∙ ap (λ zs. zs ++ inside_args xs) em ∙ append_assoc out (t ∷ []) (inside_args xs)
    ∙ ap (λ zs. out ++ zs) (ap (λ u. u ∷ inside_args xs) et ∙ sym (inside-Class i xs) ∙ ap inside (sym et))

pub on_ok_along : {A E : Type 0} (r : Result A E) (P Q : Type 0) → (P → Q) → OnOk r P → OnOk r Q
on_ok_along (Ok a) P Q f h = f h
on_ok_along (Err e) P Q f h = tt
