-- An element of two lists joined.
use Rattle.std.proofs.Common.{◌≡◌, ℕ, zero, suc, ◌<◌, ◌≤◌, ◌-◌, List, [], ◌∷◌, ◌++◌, length, slice_get, ◌+◌, length-append, refl, ap, sym, ◌∙◌, arith}
use Rattle.jc_types.specs.declared.form.Arg.{Arg, out-Arg}
use Rattle.jc_types.specs.declared.form.Ty.{Ty}
use Rattle.jc_types.specs.declared.environment.Bounds.{Bounds}
use Rattle.jc_types.specs.declared.table.Table.{Table}
use Rattle.jc_judge.specs.Kinds.{class_of}
use Rattle.jc_judge.specs.Asking.{classes, classes_from}
use Rattle.jc_judge.specs.Capturing.{captured_args, next_at}

pub get_front : {A : Type 0} (xs ys : List A) (i : ℕ) → i < length xs → slice_get (xs ++ ys) i ≡ slice_get xs i
get_front [] ys i lt = absurd (omega arith)
get_front (x ∷ xs) ys zero lt = refl
get_front (x ∷ xs) ys (suc i) lt = get_front xs ys i (omega arith)

pub get_back : {A : Type 0} (xs ys : List A) (i : ℕ) → length xs ≤ i → slice_get (xs ++ ys) i ≡ slice_get ys (i - length xs)
get_back [] ys i le = ap (slice_get ys) (let e : i ≡ i - 0 = omega arith in e)
get_back (x ∷ xs) ys zero le = absurd (omega arith)
get_back (x ∷ xs) ys (suc i) le = get_back xs ys i (omega arith) ∙ ap (slice_get ys) (let e : i - length xs ≡ suc i - length (x ∷ xs) = omega arith in e)

pub joined_length : {A : Type 0} (xs ys : List A) → length (xs ++ ys) ≡ length xs + length ys
joined_length xs ys = length-append xs ys

-- the number of the captured variables of both lists
pub classes_joined : (T : Table) (xs ys : List Bounds) (s t : Ty) → classes_from T (length xs + length ys) s t (class_of s) (class_of t) ≡ classes T (xs ++ ys) s t
unfolding classes
classes_joined T xs ys s t = ap (λ n. classes_from T n s t (class_of s) (class_of t)) (sym (joined_length xs ys))

-- as many as there are arguments
pub captured_count : (n : ℕ) (args : List Arg) → length (captured_args n args) ≡ length args
captured_count n [] = refl
captured_count n (a ∷ args) = let more = captured_count (next_at n (out-Arg a)) args in omega arith
