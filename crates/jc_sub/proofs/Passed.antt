-- A supertype that has the parameters of its class as its arguments gets a type's own arguments.
use Rattle.std.proofs.Common.{◌≡◌, ℕ, zero, suc, get_or, ◌+◌, ◌<◌, ◌==◌, ◌&&◌, Bool, true, false, Option, Some, None, List, [], ◌∷◌, length, map, slice_get, IfSome, if◌then◌else◌, ◌++◌, arith, refl, sym, ap, ◌∙◌}
use Rattle.std.proofs.lemmas.Bool.Decides.{nat_tests}
use Rattle.std.proofs.lemmas.List.{length-map}
use Rattle.jc_rules.proofs.Truths.{and_first, and_second}
use Rattle.jc_types.specs.declared.form.Ty.{Ty}
use Rattle.jc_types.specs.declared.form.Ty.TheVariants.{Class, Variable}
use Rattle.jc_types.specs.declared.form.Arg.{Arg, Arg-F, out-Arg, roll-Arg, roll-out-Arg}
use Rattle.jc_types.specs.declared.form.Arg.TheVariants.{Exact, rolls-Exact}
use Rattle.jc_types.specs.declared.ids.ClassId.{ClassId}
use Rattle.jc_types.specs.declared.ids.VarId.{VarId}
use Rattle.jc_types.specs.declared.table.Table.{Table}
use Rattle.jc_types.specs.Accessors.{vars_of, supers_of}
use Rattle.jc_types.specs.Reifying.{counted}
use Rattle.jc_types.specs.Substitution.{subst, subst_arg, replacement, is_row, is_row_from}
use Rattle.jc_types.proofs.Substituted.{subst-Class, subst-Variable, subst_arg-Exact}
use Rattle.jc_judge.specs.Kinds.{ArgLayer}
use Rattle.jc_judge.specs.Meeting.{is_exact_at, are_exact}
use Rattle.jc_judge.specs.Views.{exact_at, exacts, class_supers, erased}
use Rattle.jc_sub.specs.Reaching.{super_with, own_arg}
use Rattle.jc_sub.proofs.Ups.{super_got}

-- an argument that is no wildcard is the type in it
exact_by : (a : Arg) (l : ArgLayer) → out-Arg a ≡ l → is_exact_at l ≡ true → (t : Ty) × (a ≡ Exact t) × (exact_at l ≡ t ∷ [])
exact_by a (Arg-F.Exact t) e x = (t, sym (roll-out-Arg a) ∙ ap roll-Arg e ∙ rolls-Exact t, refl)
exact_by a Arg-F.Any e x = cc
exact_by a (Arg-F.Extends t) e x = cc
exact_by a (Arg-F.Super t) e x = cc

exacts_told : (args : List Arg) → are_exact args ≡ true → map Exact (exacts args) ≡ args
exacts_told [] e = refl
exacts_told (a ∷ args) e =
    let here = exact_by a (out-Arg a) refl (and_first _ _ e) in
    let rest : map Exact (exacts args) ≡ args = exacts_told args (and_second (is_exact_at (out-Arg a)) _ e) in
    let t = here.0 in
    let whole : exacts (a ∷ args) ≡ t ∷ exacts args = ap (λ ts. ts ++ exacts args) here.2 in
    let head : Exact t ≡ a = sym here.1 in
    ap (map Exact) whole ∙ ap (λ (b : Arg). b ∷ map Exact (exacts args)) head ∙ ap (λ bs. a ∷ bs) rest

as_many : (args : List Arg) → are_exact args ≡ true → length (exacts args) ≡ length args
as_many args e = sym (length-map (exacts args) Exact) ∙ ap length (exacts_told args e)

-- variables behind the first one of a row
skipped : (w : VarId) (e : Ty) (vars : List VarId) (es : List Ty) (n : ℕ) (xs : List VarId) → w.0 < n → is_row_from n xs ≡ true → map (replacement (w ∷ vars) (e ∷ es)) xs ≡ map (replacement vars es) xs
skipped w e vars es n [] lt row = refl
skipped w e vars es n (x ∷ xs) lt row =
    let here : (x.0 == n) ≡ true = and_first _ _ row in
    let other : (w.0 == x.0) ≡ false = grind (arith, nat_tests) in
    let less : w.0 < n + 1 = omega arith in
    ap (λ (b : Bool). (if b then e else replacement vars es x) ∷ map (replacement (w ∷ vars) (e ∷ es)) xs) other
    ∙ ap (λ ts. replacement vars es x ∷ ts) (skipped w e vars es (n + 1) xs less (and_second (x.0 == n) _ row))

-- the variables of a row are replaced by the types in their order
row_replaced : (n : ℕ) (vars : List VarId) (es : List Ty) → length vars ≡ length es → is_row_from n vars ≡ true → map (replacement vars es) vars ≡ es
row_replaced n [] [] same row = refl
row_replaced n [] (e ∷ es) same row = absurd (omega arith)
row_replaced n (w ∷ vars) [] same row = absurd (omega arith)
row_replaced n (w ∷ vars) (e ∷ es) same row =
    let here : (w.0 == n) ≡ true = and_first _ _ row in
    let met : (w.0 == w.0) ≡ true = grind (arith, nat_tests) in
    let less : w.0 < n + 1 = grind (arith, nat_tests) in
    ap (λ (b : Bool). (if b then e else replacement vars es w) ∷ map (replacement (w ∷ vars) (e ∷ es)) vars) met
    ∙ ap (λ ts. e ∷ ts) (skipped w e vars es (n + 1) vars less (and_second (w.0 == n) _ row) ∙ row_replaced (n + 1) vars es (omega arith) (and_second (w.0 == n) _ row))

replaced : (vars : List VarId) (es : List Ty) → length vars ≡ length es → is_row vars ≡ true → map (replacement vars es) vars ≡ es
unfolding is_row
replaced [] [] same row = refl
replaced [] (e ∷ es) same row = absurd (omega arith)
replaced (w ∷ vars) es same row = row_replaced w.0 (w ∷ vars) es same (let met : (w.0 == w.0) ≡ true = grind (arith, nat_tests) in ap (λ (b : Bool). b && is_row_from (w.0 + 1) vars) met ∙ row)

own_put : (vars : List VarId) (es : List Ty) (xs : List VarId) → map (subst_arg vars es) (map own_arg xs) ≡ map Exact (map (replacement vars es) xs)
own_put vars es [] = refl
own_put vars es (x ∷ xs) =
    let head : subst_arg vars es (own_arg x) ≡ Exact (replacement vars es x) = subst_arg-Exact vars es (Variable x) ∙ ap Exact (subst-Variable vars es x) in
    ap (λ (a : Arg). a ∷ map (subst_arg vars es) (map own_arg xs)) head ∙ ap (λ more. Exact (replacement vars es x) ∷ more) (own_put vars es xs)

counted_all : (vars : List VarId) (args : List Arg) → length args ≡ length vars → counted vars args ≡ Some args
counted_all [] [] e = refl
counted_all [] (a ∷ args) e = absurd (omega arith)
counted_all (v ∷ vars) args e = ap (λ (b : Bool). if b then Some args else None) (let same : (length args == length (v ∷ vars)) ≡ true = grind (arith, nat_tests) in same)

module _ (T : Table) (id k : ClassId) (args : List Arg) where
  put_own : length args ≡ length (vars_of T id) → are_exact args ≡ true → is_row (vars_of T id) ≡ true → super_with T id (Some args) (Class k (map own_arg (vars_of T id))) ≡ Class k args
  put_own many exact row =
      let vars = vars_of T id in
      let es = exacts args in
      let same : length vars ≡ length es = sym (as_many args exact ∙ many) in
      let test : (length es == length vars) ≡ true = grind (arith, nat_tests) in
      ap (λ (b : Bool). if b then subst vars es (Class k (map own_arg vars)) else erased (Class k (map own_arg vars))) test
      ∙ subst-Class vars es k (map own_arg vars)
      ∙ ap (Class k) (own_put vars es vars ∙ ap (map Exact) (replaced vars es same row) ∙ exacts_told args exact)

  passed : (i : ℕ) (t : Ty) → length args ≡ length (vars_of T id) → are_exact args ≡ true → is_row (vars_of T id) ≡ true → Some t ≡ slice_get (supers_of T id) i → t ≡ Class k (map own_arg (vars_of T id))
      → slice_get (class_supers T id (counted (vars_of T id) args)) i ≡ Some (Class k args)
  passed i t many exact row at is =
      sym (super_got T id (counted (vars_of T id) args) i t at)
      ∙ ap (λ o. Some (super_with T id o t)) (counted_all (vars_of T id) args many)
      ∙ ap (λ u. Some (super_with T id (Some args) u)) is
      ∙ ap Some (put_own many exact row)

-- the same of the list of the class's parameters
pub passed_on : (T : Table) (id : ClassId) (args : List Arg) (vars : List VarId) (ups : List Ty) (i : ℕ) (t : Ty) → vars ≡ vars_of T id → ups ≡ supers_of T id → length args ≡ length vars → are_exact args ≡ true → is_row vars ≡ true
    → Some t ≡ slice_get ups i → (k : ClassId) → t ≡ Class k (map own_arg vars) → slice_get (class_supers T id (counted (vars_of T id) args)) i ≡ Some (Class k args)
passed_on T id args vars ups i t ev eu many exact row at k is =
    passed T id k args i t (many ∙ ap length ev) exact (ap is_row (sym ev) ∙ row) (at ∙ ap (λ us. slice_get us i) eu) (is ∙ ap (λ vs. Class k (map own_arg vs)) ev)

pub if_some_along : {A : Type 0} (o : Option A) (P Q : A → Type 0) → ((a : A) → P a → Q a) → IfSome o P → IfSome o Q
if_some_along None P Q f h = tt
if_some_along (Some a) P Q f h = f a h

pub told_at : (xs : List Ty) (i : ℕ) (t : Ty) → i < length xs → t ≡ get_or xs i t → Some t ≡ slice_get xs i
told_at [] i t lt e = absurd (omega arith)
told_at (x ∷ xs) zero t lt e = ap Some e
told_at (x ∷ xs) (suc i) t lt e = told_at xs i t (omega arith) e
