-- What the steps of the code read.
use Rattle.std.proofs.Common.{◌≡◌, ℕ, zero, suc, ◌≤◌, min, true, false, List, [], ◌∷◌, map, length, Some, refl, ap, ◌∙◌, subst, arith}
use Rattle.std.proofs.lemmas.Bool.{cond-true, cond-false}
use Rattle.jc_lexer.specs.declared.token.Key.TheVariants as key_of
use Rattle.jc_lexer.specs.declared.token.Sign.TheVariants as sign_of
use Rattle.jc_lexer.specs.declared.token.Token.{Token}
use Rattle.jc_tree.specs.declared.types.TypeArg.{TypeArg}
use Rattle.jc_tree.specs.declared.types.TypeArg.TheVariants as arg_of
use Rattle.jc_tree.specs.declared.types.TypePart.{TypePart}
use Rattle.jc_tree.specs.declared.types.TypeTree.{TypeTree}
use Rattle.jc_reading.specs.Kinds.{sign_code, key_code, one_of}
use Rattle.jc_reading.specs.Reading.{Read, Found, Stopped, Run, found, noting, ◌>>=◌, becoming, joined, as_new, in_turn, perhaps_from, Either, This, That, any_number, of_kind, at_kind, behind_it, first_and_more, each_behind, commas_run}
use Rattle.jc_reading.proofs.Ledby.{led, led_laws}
use Rattle.jc_reading.proofs.Turns.{lawful_ahead, times_as}
use Rattle.jc_reading.specs.Reach.{Within, GoesAhead}
use Rattle.jc_reading.proofs.Nears.{ahead_as}
use Rattle.jc_parse_type.specs.TypeReading.{Bound, bound_run, wildcard, arg_made, arg_run, or_none, args_run, part_run, type_run, base_run}
use Rattle.jc_parse_type.proofs.TypeForms.{type_laws, arg_laws, arg_form, part_form, part_laws, base_laws, row_laws}

joined_behind : {A : Type 0} (k : ℕ) (m : Read A) → Within k m → becoming behind_it (noting k (becoming (joined {A = Unit {0}} tt) m)) ≡ m
joined_behind k (Found a r l) w = let e : min k l ≡ l = omega (arith, w.0, w.1) in ap (λ j. Found a r j) e
joined_behind k (Stopped l) w = let e : min k l ≡ l = omega (arith, w) in ap (λ j. Stopped j) e

pub behind_far : {A : Type 0} (code : ℕ) (m : Run A) (ts q : List Token) → of_kind code ts ≡ found tt q → Within (length q) (m q) → as_new behind_it (in_turn (of_kind code) m) ts ≡ m q
behind_far {A = A} code m ts q e w =
    ap (λ (v : Read (Unit {0})). becoming behind_it (v >>= (λ (u : Unit {0}) r. becoming (joined u) (m r)))) e ∙ joined_behind (length q) (m q) w

pub within_type : (h : ℕ) (ts : List Token) → Within (length ts) (type_run h ts)
unfolding type_run
within_type zero ts = omega arith
within_type (suc h) ts = (type_laws h).within ts

pub within_arg : (h : ℕ) (ts : List Token) → Within (length ts) (arg_run h (type_run h) ts)
within_arg h ts = (arg_laws h).within ts

pub within_row : (h : ℕ) (ts : List Token) → Within (length ts) (commas_run (arg_run h (type_run h)) ts)
within_row h ts = (row_laws h (arg_laws h)).within ts

pub within_part : (h : ℕ) (ts : List Token) → Within (length ts) (part_run (args_run (arg_run h (type_run h))) ts)
within_part h ts = (part_laws h (arg_laws h)).within ts

pub within_base : (h : ℕ) (ts : List Token) → Within (length ts) (base_run h ts)
within_base h ts = (base_laws h (arg_laws h)).within ts

pub within_rest : {A : Type 0} (k : ℕ) (m : Read A) (a : A) (r : List Token) (l : ℕ) → Within k m → m ≡ Found a r l → length r ≤ k
within_rest {A = A} k m a r l w e = (subst (λ (v : Read A). Within k v) e w).1

-- arguments

closed : {A : Type 0} (ts : List Token) (k : ℕ) (list : List A) (r : List Token) (l : ℕ) → l ≤ k → becoming or_none (perhaps_from ts (noting k (becoming (joined {A = Unit {0}} tt) (noting l (becoming (joined list) (found {A = Unit {0}} tt r)))))) ≡ Found list r (min l (length r))
closed ts k list r l w = let e : min k (min l (length r)) ≡ min l (length r) = omega (arith, w) in ap (λ j. Found list r j) e

abbrev After : {A : Type 0} → Run (List A) → List Token → Read (Unit {0} × (List A × Unit {0}))
After commas ts = in_turn (of_kind (sign_code sign_of.Less)) (in_turn commas (of_kind (sign_code sign_of.Greater))) ts

inner : {A : Type 0} (commas : Run (List A)) (ts i : List Token) → of_kind (sign_code sign_of.Less) ts ≡ found tt i → After commas ts ≡ noting (length i) (becoming (joined tt) (commas i >>= (λ a q. becoming (joined a) (of_kind (sign_code sign_of.Greater) q))))
inner commas ts i e = ap (λ (v : Read (Unit {0})). v >>= (λ (u : Unit {0}) r. becoming (joined u) (in_turn commas (of_kind (sign_code sign_of.Greater)) r))) e

reach_of : {A : Type 0} (k : ℕ) (m : Read A) (a : A) (r : List Token) (l : ℕ) → Within k m → m ≡ Found a r l → l ≤ k
reach_of {A = A} k m a r l w e = let v = subst (λ (x : Read A). Within k x) e w in omega (arith, v.0, v.1)

halt_of : {A : Type 0} (k : ℕ) (m : Read A) (l : ℕ) → Within k m → m ≡ Stopped l → l ≤ k
halt_of {A = A} k m l w e = subst (λ (x : Read A). Within k x) e w

pub args_found : (arg : Run TypeArg) (ts i q r : List Token) (list : List TypeArg) (l : ℕ) → of_kind (sign_code sign_of.Less) ts ≡ found tt i → commas_run arg i ≡ Found list q l → of_kind (sign_code sign_of.Greater) q ≡ found tt r → Within (length i) (commas_run arg i) → args_run arg ts ≡ Found list r (min l (length r))
unfolding args_run
args_found arg ts i q r list l e f g w =
    ap (λ v. becoming or_none (perhaps_from ts v)) (inner (commas_run arg) ts i e)
    ∙ ap (λ (v : Read (List TypeArg)). becoming or_none (perhaps_from ts (noting (length i) (becoming (joined tt) (v >>= (λ a q. becoming (joined a) (of_kind (sign_code sign_of.Greater) q))))))) f
    ∙ ap (λ (v : Read (Unit {0})). becoming or_none (perhaps_from ts (noting (length i) (becoming (joined tt) (noting l (becoming (joined list) v)))))) g
    ∙ closed ts (length i) list r l (reach_of (length i) (commas_run arg i) list q l w f)

pub args_open : (arg : Run TypeArg) (ts i q : List Token) (list : List TypeArg) (l : ℕ) → of_kind (sign_code sign_of.Less) ts ≡ found tt i → commas_run arg i ≡ Found list q l → of_kind (sign_code sign_of.Greater) q ≡ Stopped (length q) → Within (length i) (commas_run arg i) → args_run arg ts ≡ Found [] ts (min l (length q))
unfolding args_run
args_open arg ts i q list l e f g w =
    ap (λ v. becoming or_none (perhaps_from ts v)) (inner (commas_run arg) ts i e)
    ∙ ap (λ (v : Read (List TypeArg)). becoming or_none (perhaps_from ts (noting (length i) (becoming (joined tt) (v >>= (λ a q. becoming (joined a) (of_kind (sign_code sign_of.Greater) q))))))) f
    ∙ ap (λ (v : Read (Unit {0})). becoming or_none (perhaps_from ts (noting (length i) (becoming (joined tt) (noting l (becoming (joined list) v)))))) g
    ∙ (let n = reach_of (length i) (commas_run arg i) list q l w f in let s : min (length i) (min l (length q)) ≡ min l (length q) = omega (arith, n) in ap (λ j. Found [] ts j) s)

pub args_halt : (arg : Run TypeArg) (ts i : List Token) (l : ℕ) → of_kind (sign_code sign_of.Less) ts ≡ found tt i → commas_run arg i ≡ Stopped l → Within (length i) (commas_run arg i) → args_run arg ts ≡ Found [] ts l
unfolding args_run
args_halt arg ts i l e f w =
    ap (λ v. becoming or_none (perhaps_from ts v)) (inner (commas_run arg) ts i e)
    ∙ ap (λ (v : Read (List TypeArg)). becoming or_none (perhaps_from ts (noting (length i) (becoming (joined tt) (v >>= (λ a q. becoming (joined a) (of_kind (sign_code sign_of.Greater) q))))))) f
    ∙ (let n = halt_of (length i) (commas_run arg i) l w f in let s : min (length i) l ≡ l = omega (arith, n) in ap (λ j. Found [] ts j) s)

-- bounds of wildcards

abbrev Two : Type 0
Two = Either (Unit {0} × TypeTree) (Unit {0} × TypeTree)

abbrev bounded : ℕ → List Token → Read Two → Read TypeArg
bounded at ts m = becoming (λ (b : Bound). wildcard (at, b)) (perhaps_from ts m)

upper : (at : ℕ) (t : Run TypeTree) (ts q : List Token) → one_of (key_code key_of.Extends ∷ []) ts ≡ true → of_kind (key_code key_of.Extends) ts ≡ found tt q → as_new (λ (b : Bound). wildcard (at, b)) (bound_run t) ts ≡ bounded at ts (becoming This (noting (length q) (becoming (joined tt) (t q))))
upper at t ts q e f =
    ap (bounded at ts) (cond-true (one_of (key_code key_of.Extends ∷ []) ts) (becoming This (in_turn (of_kind (key_code key_of.Extends)) t ts)) (becoming That (in_turn (of_kind (key_code key_of.Super)) t ts)) e)
    ∙ ap (λ (v : Read (Unit {0})). bounded at ts (becoming This (v >>= (λ (u : Unit {0}) r. becoming (joined u) (t r))))) f

lower : (at : ℕ) (t : Run TypeTree) (ts q : List Token) → one_of (key_code key_of.Extends ∷ []) ts ≡ false → of_kind (key_code key_of.Super) ts ≡ found tt q → as_new (λ (b : Bound). wildcard (at, b)) (bound_run t) ts ≡ bounded at ts (becoming That (noting (length q) (becoming (joined tt) (t q))))
lower at t ts q e f =
    ap (bounded at ts) (cond-false (one_of (key_code key_of.Extends ∷ []) ts) (becoming This (in_turn (of_kind (key_code key_of.Extends)) t ts)) (becoming That (in_turn (of_kind (key_code key_of.Super)) t ts)) e)
    ∙ ap (λ (v : Read (Unit {0})). bounded at ts (becoming That (v >>= (λ (u : Unit {0}) r. becoming (joined u) (t r))))) f

bound_there : (side : (Unit {0} × TypeTree) → Two) (at : ℕ) (ts : List Token) (k : ℕ) (m : Read TypeTree) (ty : TypeTree) (r : List Token) (l : ℕ) → Within k m → m ≡ Found ty r l → bounded at ts (becoming side (noting k (becoming (joined tt) m))) ≡ Found (wildcard (at, Some (side (tt, ty)))) r l
bound_there side at ts k m ty r l w e =
    ap (λ (v : Read TypeTree). bounded at ts (becoming side (noting k (becoming (joined tt) v)))) e
    ∙ (let n = reach_of k m ty r l w e in let s : min k l ≡ l = omega (arith, n) in ap (λ j. Found (wildcard (at, Some (side (tt, ty)))) r j) s)

bound_halts : (side : (Unit {0} × TypeTree) → Two) (at : ℕ) (ts : List Token) (k : ℕ) (m : Read TypeTree) (l : ℕ) → Within k m → m ≡ Stopped l → bounded at ts (becoming side (noting k (becoming (joined tt) m))) ≡ Found (arg_of.Any at) ts l
bound_halts side at ts k m l w e =
    ap (λ (v : Read TypeTree). bounded at ts (becoming side (noting k (becoming (joined tt) v)))) e
    ∙ (let n = halt_of k m l w e in let s : min k l ≡ l = omega (arith, n) in ap (λ j. Found (arg_of.Any at) ts j) s)

pub upper_found : (at : ℕ) (t : Run TypeTree) (ts q r : List Token) (ty : TypeTree) (l : ℕ) → one_of (key_code key_of.Extends ∷ []) ts ≡ true → of_kind (key_code key_of.Extends) ts ≡ found tt q → t q ≡ Found ty r l → Within (length q) (t q) → as_new (λ (b : Bound). wildcard (at, b)) (bound_run t) ts ≡ Found (arg_of.Extends at ty) r l
upper_found at t ts q r ty l e f g w = upper at t ts q e f ∙ bound_there This at ts (length q) (t q) ty r l w g

pub upper_halts : (at : ℕ) (t : Run TypeTree) (ts q : List Token) (l : ℕ) → one_of (key_code key_of.Extends ∷ []) ts ≡ true → of_kind (key_code key_of.Extends) ts ≡ found tt q → t q ≡ Stopped l → Within (length q) (t q) → as_new (λ (b : Bound). wildcard (at, b)) (bound_run t) ts ≡ Found (arg_of.Any at) ts l
upper_halts at t ts q l e f g w = upper at t ts q e f ∙ bound_halts This at ts (length q) (t q) l w g

pub lower_found : (at : ℕ) (t : Run TypeTree) (ts q r : List Token) (ty : TypeTree) (l : ℕ) → one_of (key_code key_of.Extends ∷ []) ts ≡ false → of_kind (key_code key_of.Super) ts ≡ found tt q → t q ≡ Found ty r l → Within (length q) (t q) → as_new (λ (b : Bound). wildcard (at, b)) (bound_run t) ts ≡ Found (arg_of.Super at ty) r l
lower_found at t ts q r ty l e f g w = lower at t ts q e f ∙ bound_there That at ts (length q) (t q) ty r l w g

pub lower_halts : (at : ℕ) (t : Run TypeTree) (ts q : List Token) (l : ℕ) → one_of (key_code key_of.Extends ∷ []) ts ≡ false → of_kind (key_code key_of.Super) ts ≡ found tt q → t q ≡ Stopped l → Within (length q) (t q) → as_new (λ (b : Bound). wildcard (at, b)) (bound_run t) ts ≡ Found (arg_of.Any at) ts l
lower_halts at t ts q l e f g w = lower at t ts q e f ∙ bound_halts That at ts (length q) (t q) l w g

-- an argument that is no wildcard

exact_made : (m : Read TypeTree) → becoming arg_made (becoming That m) ≡ becoming arg_of.Exact m
exact_made (Found ty r l) = refl
exact_made (Stopped l) = refl

pub arg_exact : (h : ℕ) (ts : List Token) → one_of (sign_code sign_of.Question ∷ []) ts ≡ false → at_kind (sign_code sign_of.Question) ts ≡ Stopped (length ts) → arg_run h (type_run h) ts ≡ as_new arg_of.Exact (type_run h) ts
unfolding arg_run type_run
arg_exact zero ts e f = ap (becoming arg_of.Any) f
arg_exact (suc h) ts e f =
    ap (becoming arg_made) (cond-false (one_of (sign_code sign_of.Question ∷ []) ts) _ (becoming That (type_run (suc h) ts)) e) ∙ exact_made (type_run (suc h) ts)

-- lists

pub comma_steps : (h : ℕ) → GoesAhead (as_new behind_it (in_turn (of_kind (sign_code sign_of.Comma)) (arg_run h (type_run h))))
comma_steps h = ahead_as behind_it _ (lawful_ahead (Unit {0} × TypeArg) (led TypeArg sign_of.Comma (arg_form h)) (led_laws TypeArg sign_of.Comma (arg_form h) (arg_laws h) refl) refl)

pub dot_steps : (h : ℕ) → GoesAhead (as_new behind_it (in_turn (of_kind (sign_code sign_of.Dot)) (part_run (args_run (arg_run h (type_run h))))))
dot_steps h = ahead_as behind_it _ (lawful_ahead (Unit {0} × TypePart) (led TypePart sign_of.Dot (part_form h (arg_laws h))) (led_laws TypePart sign_of.Dot (part_form h (arg_laws h)) (part_laws h (arg_laws h)) refl) refl)

row_made : {A : Type 0} (l : ℕ) (a : A) (m : Read (List (Unit {0} × A))) → becoming first_and_more (noting l (becoming (joined a) m)) ≡ noting l (becoming (λ more. a ∷ more) (becoming (map behind_it) m))
row_made l a (Found list r k) = refl
row_made l a (Stopped k) = refl

pub commas_first : {A : Type 0} (run : Run A) (ts q : List Token) (a : A) (l : ℕ) → run ts ≡ Found a q l → commas_run run ts ≡ noting l (becoming (λ more. a ∷ more) (any_number (as_new behind_it (in_turn (of_kind (sign_code sign_of.Comma)) run)) q))
commas_first {A = A} run ts q a l e =
    ap (λ (v : Read A). becoming first_and_more (v >>= (λ a q. becoming (joined a) (each_behind sign_of.Comma run q)))) e
    ∙ row_made l a (each_behind sign_of.Comma run q)
    ∙ ap (λ (v : Read (List A)). noting l (becoming (λ more. a ∷ more) v)) (times_as behind_it (length q) (in_turn (of_kind (sign_code sign_of.Comma)) run) q)

pub each_as : {A : Type 0} (run : Run A) (ts : List Token) → as_new (map behind_it) (each_behind sign_of.Dot run) ts ≡ any_number (as_new behind_it (in_turn (of_kind (sign_code sign_of.Dot)) run)) ts
each_as run ts = times_as behind_it (length ts) (in_turn (of_kind (sign_code sign_of.Dot)) run) ts
