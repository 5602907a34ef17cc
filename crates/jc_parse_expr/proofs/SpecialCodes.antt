-- What the steps of the code of class literals and outer `this` read.
use Rattle.std.proofs.Common.{◌≡◌, ℕ, suc, ◌+◌, ◌<◌, min, true, false, List, [], ◌∷◌, length, refl, sym, ap, ◌∙◌, arith}
use Rattle.std.proofs.lemmas.Bool.{cond-true, cond-false}
use Rattle.jc_lexer.specs.declared.token.Key.TheVariants as key_of
use Rattle.jc_lexer.specs.declared.token.Sign.TheVariants as sign_of
use Rattle.jc_lexer.specs.declared.token.Token.{Token}
use Rattle.jc_tree.specs.declared.name.Ident.{Ident}
use Rattle.jc_tree.specs.declared.types.BaseTree.TheVariants as base_of
use Rattle.jc_tree.specs.declared.types.PrimitiveWord.{PrimitiveWord}
use Rattle.jc_tree.specs.declared.expression.Expr.{Expr}
use Rattle.jc_reading.specs.Kinds.{key_code, sign_code, one_of}
use Rattle.jc_reading.specs.Reading.{Read, Found, Stopped, found, noting, becoming, joined, ◌>>=◌, as_new, in_turn, of_kind, an_ident_at, This, That, Either, either}
use Rattle.jc_reading.proofs.Turns.{lawful_ahead, loop_shorter}
use Rattle.jc_parse_type.proofs.TypeForms.{Bracket, bracket_laws}
use Rattle.jc_reading.specs.Further.{with_room}
use Rattle.jc_reading.proofs.Nears.{near_either, near_ident, near_kind, near_room}
use Rattle.jc_parse_type.specs.TypeReading.{bracket_run, dims_run}
use Rattle.jc_parse_type.proofs.CodeSteps.{behind_far}
use Rattle.jc_part_laws.specs.PartReading.{more_names_run}
use Rattle.jc_expr_laws.specs.StartReading.{DotClass, SpecialTail, bare_class, class_dims_run, dot_class_run, dot_key_run, literal_type}
use Rattle.jc_parse_expr.specs.PrimeCode.{names_special_made, names_special_run, special_tail_made, special_tail_run, word_class_made}
use Rattle.jc_parse_expr.specs.declared.parts.NamesTail.{NamesTail}
use Rattle.jc_parse_expr.specs.declared.parts.NamesTail.TheVariants as tail_is
use Rattle.jc_parse_expr.specs.SpecialCode.{dims_tail, dot_name_run, forgetting, key_tail, of_tail, tail_of}
use Rattle.jc_parse_expr.proofs.CreationSteps.{room, no_room}
use Rattle.jc_parse_expr.proofs.MeasuredSteps.{behind_kind, then_made, twice}
use Rattle.jc_parse_expr.proofs.PairSteps.{made_found}
use Rattle.jc_parse_expr.proofs.SpecialSteps.{names_tail}

pub dot_name_inside : (ts q : List Token) → of_kind (sign_code sign_of.Dot) ts ≡ found tt q → dot_name_run ts ≡ an_ident_at q
dot_name_inside ts q e = behind_far (sign_code sign_of.Dot) an_ident_at ts q e (near_ident q)

-- brackets and `.class`

abbrev Pair : Type 0
Pair = Unit {0} × Unit {0}

pub brackets_shorter : (ts q : List Token) → bracket_run ts ≡ found (tt, tt) q → length q < length ts
brackets_shorter ts q e = loop_shorter Pair bracket_run (lawful_ahead Pair Bracket bracket_laws refl) ts q (tt, tt) (length q) e

pub dims_low : (h : ℕ) (ts : List Token) → h ≡ 0 → as_new dims_tail (class_dims_run h) ts ≡ Stopped (length ts)
dims_low h ts e = ap (becoming dims_tail) (no_room h _ ts e)

pub dims_open : (h : ℕ) (ts : List Token) (l : ℕ) → 0 < h → bracket_run ts ≡ Stopped l → as_new dims_tail (class_dims_run h) ts ≡ Stopped l
dims_open h ts l p e = ap (becoming dims_tail) (room h _ ts p) ∙ ap (λ (v : Read Pair). becoming dims_tail (v >>= (λ a q. becoming (joined a) (in_turn dims_run dot_class_run q)))) e

dims_behind : (h : ℕ) (ts q r : List Token) (d l : ℕ) → 0 < h → bracket_run ts ≡ found (tt, tt) q → dims_run q ≡ Found d r l → as_new dims_tail (class_dims_run h) ts ≡ noting (length q) (noting l (becoming (λ (b : DotClass). tail_is.Class (d + 1)) (dot_class_run r)))
dims_behind h ts q r d l p e f =
    ap (becoming dims_tail) (room h _ ts p) ∙ then_made dims_tail bracket_run (in_turn dims_run dot_class_run) ts q (tt, tt) (length q) e
    ∙ ap (noting (length q)) (then_made (λ x. dims_tail ((tt, tt), x)) dims_run dot_class_run q r d l f)

pub dims_stop : (h : ℕ) (ts q r : List Token) (d l k : ℕ) → 0 < h → bracket_run ts ≡ found (tt, tt) q → dims_run q ≡ Found d r l → dot_class_run r ≡ Stopped k → as_new dims_tail (class_dims_run h) ts ≡ Stopped (min (length q) (min l k))
dims_stop h ts q r d l k p e f g =
    dims_behind h ts q r d l p e f ∙ ap (λ (v : Read DotClass). noting (length q) (noting l (becoming (λ (b : DotClass). tail_is.Class (d + 1)) v))) g

pub dims_reads : (h : ℕ) (ts q r s : List Token) (d l : ℕ) → 0 < h → bracket_run ts ≡ found (tt, tt) q → dims_run q ≡ Found d r l → dot_class_run r ≡ found (tt, tt) s → as_new dims_tail (class_dims_run h) ts ≡ Found (tail_is.Class (d + 1)) s (min (length q) (min l (length s)))
dims_reads h ts q r s d l p e f g =
    dims_behind h ts q r d l p e f ∙ ap (λ (v : Read DotClass). noting (length q) (noting l (becoming (λ (b : DotClass). tail_is.Class (d + 1)) v))) g

-- `.this` or `.class`

abbrev Keys : Type 0
Keys = Either (Unit {0}) (Unit {0})

pub key_open : (h : ℕ) (ts : List Token) → of_kind (sign_code sign_of.Dot) ts ≡ Stopped (length ts) → as_new key_tail (dot_key_run h) ts ≡ Stopped (length ts)
key_open h ts e =
    ap (λ (v : Read (Unit {0})). becoming key_tail (v >>= (λ (u : Unit {0}) q. becoming (joined u) (either (key_code key_of.This ∷ []) (of_kind (key_code key_of.This)) (with_room h (of_kind (key_code key_of.Class))) q)))) e

key_inside : (h : ℕ) (ts q : List Token) → of_kind (sign_code sign_of.Dot) ts ≡ found tt q
    → as_new key_tail (dot_key_run h) ts ≡ becoming (λ (x : Keys). key_tail (tt, x)) (either (key_code key_of.This ∷ []) (of_kind (key_code key_of.This)) (with_room h (of_kind (key_code key_of.Class))) q)
key_inside h ts q e =
    behind_kind key_tail (sign_code sign_of.Dot) (either (key_code key_of.This ∷ []) (of_kind (key_code key_of.This)) (with_room h (of_kind (key_code key_of.Class)))) ts q
    (near_either (key_code key_of.This ∷ []) (of_kind (key_code key_of.This)) (with_room h (of_kind (key_code key_of.Class))) (near_kind (key_code key_of.This)) (near_room h (of_kind (key_code key_of.Class)) (near_kind (key_code key_of.Class)))) e

pub key_this : (h : ℕ) (ts q r : List Token) → of_kind (sign_code sign_of.Dot) ts ≡ found tt q → one_of (key_code key_of.This ∷ []) q ≡ true → of_kind (key_code key_of.This) q ≡ found tt r → as_new key_tail (dot_key_run h) ts ≡ found tail_is.This r
key_this h ts q r e f g =
    key_inside h ts q e ∙ ap (becoming (λ (x : Keys). key_tail (tt, x))) (cond-true (one_of (key_code key_of.This ∷ []) q) _ _ f ∙ ap (becoming This) g)

pub key_low : (h : ℕ) (ts q : List Token) → of_kind (sign_code sign_of.Dot) ts ≡ found tt q → one_of (key_code key_of.This ∷ []) q ≡ false → h ≡ 0 → as_new key_tail (dot_key_run h) ts ≡ Stopped (length q)
key_low h ts q e f p =
    key_inside h ts q e ∙ ap (becoming (λ (x : Keys). key_tail (tt, x))) (cond-false (one_of (key_code key_of.This ∷ []) q) _ _ f ∙ ap (becoming That) (no_room h _ q p))

pub key_class : (h : ℕ) (ts q r : List Token) → of_kind (sign_code sign_of.Dot) ts ≡ found tt q → one_of (key_code key_of.This ∷ []) q ≡ false → 0 < h → of_kind (key_code key_of.Class) q ≡ found tt r → as_new key_tail (dot_key_run h) ts ≡ found (tail_is.Class 0) r
key_class h ts q r e f p g =
    key_inside h ts q e ∙ ap (becoming (λ (x : Keys). key_tail (tt, x))) (cond-false (one_of (key_code key_of.This ∷ []) q) _ _ f ∙ ap (becoming That) (room h _ q p ∙ g))

pub key_stop : (h : ℕ) (ts q : List Token) → of_kind (sign_code sign_of.Dot) ts ≡ found tt q → one_of (key_code key_of.This ∷ []) q ≡ false → 0 < h → of_kind (key_code key_of.Class) q ≡ Stopped (length q) → as_new key_tail (dot_key_run h) ts ≡ Stopped (length q)
key_stop h ts q e f p g =
    key_inside h ts q e ∙ ap (becoming (λ (x : Keys). key_tail (tt, x))) (cond-false (one_of (key_code key_of.This ∷ []) q) _ _ f ∙ ap (becoming That) (room h _ q p ∙ g))

-- the one or the other

pub tail_dims : (h : ℕ) (ts : List Token) → one_of (sign_code sign_of.LeftBracket ∷ []) ts ≡ true → as_new tail_of (special_tail_run h) ts ≡ as_new dims_tail (class_dims_run h) ts
tail_dims h ts e = ap (becoming tail_of) (cond-true (one_of (sign_code sign_of.LeftBracket ∷ []) ts) _ _ e) ∙ twice tail_of This dims_tail (class_dims_run h ts) (λ a. refl)

pub tail_key : (h : ℕ) (ts : List Token) → one_of (sign_code sign_of.LeftBracket ∷ []) ts ≡ false → as_new tail_of (special_tail_run h) ts ≡ as_new key_tail (dot_key_run h) ts
tail_key h ts e = ap (becoming tail_of) (cond-false (one_of (sign_code sign_of.LeftBracket ∷ []) ts) _ _ e) ∙ twice tail_of That key_tail (dot_key_run h ts) (λ a. refl)

same_tail : (first : Ident) (more : List Ident) (t : SpecialTail) → of_tail first more (tail_of t) ≡ special_tail_made first more t
same_tail first more (This (b, (dims, p))) = let e : dims + 1 ≡ suc dims = omega arith in ap (λ (n : ℕ). literal_type (base_of.Class (bare_class first more)) n) e
same_tail first more (That (u, This v)) = refl
same_tail first more (That (u, That v)) = refl

names_by : (h : ℕ) (ts q r : List Token) (first : Ident) (more : List Ident) (k : ℕ) → an_ident_at ts ≡ found first q → more_names_run q ≡ Found more r k
    → as_new names_special_made (names_special_run h) ts ≡ noting (min (length q) k) (becoming (of_tail first more) (as_new tail_of (special_tail_run h) r))
names_by h ts q r first more k e f =
    names_tail h ts q r first more (length q) k e f ∙ ap (noting (min (length q) k)) (sym (twice (of_tail first more) tail_of (special_tail_made first more) (special_tail_run h r) (same_tail first more)))

pub names_read : (h : ℕ) (ts q r s : List Token) (v : Expr) (t : NamesTail) (k j : ℕ) → as_new forgetting an_ident_at ts ≡ found tt q → as_new forgetting more_names_run q ≡ Found tt r k → as_new tail_of (special_tail_run h) r ≡ Found t s j
    → ((first : Ident) (q : List Token) (l : ℕ) (more : List Ident) (r : List Token) (k : ℕ) → an_ident_at ts ≡ Found first q l → more_names_run q ≡ Found more r k → v ≡ of_tail first more t)
    → as_new names_special_made (names_special_run h) ts ≡ Found v s (min (min (length q) k) j)
names_read h ts q r s v t k j e f g made =
    let one = made_found forgetting (an_ident_at ts) tt q (length q) e in
    let more = made_found forgetting (more_names_run q) tt r k f in
    names_by h ts q r one.0 more.0 k one.1 more.1 ∙ ap (λ (v : Read NamesTail). noting (min (length q) k) (becoming (of_tail one.0 more.0) v)) g
    ∙ ap (λ (e : Expr). Found e s (min (min (length q) k) j)) (sym (made one.0 q (length q) more.0 r k one.1 more.1))

pub names_stop : (h : ℕ) (ts q r : List Token) (k j : ℕ) → as_new forgetting an_ident_at ts ≡ found tt q → as_new forgetting more_names_run q ≡ Found tt r k → as_new tail_of (special_tail_run h) r ≡ Stopped j
    → as_new names_special_made (names_special_run h) ts ≡ Stopped (min (min (length q) k) j)
names_stop h ts q r k j e f g =
    let one = made_found forgetting (an_ident_at ts) tt q (length q) e in
    let more = made_found forgetting (more_names_run q) tt r k f in
    names_by h ts q r one.0 more.0 k one.1 more.1 ∙ ap (λ (v : Read NamesTail). noting (min (length q) k) (becoming (of_tail one.0 more.0) v)) g

pub names_none : (h : ℕ) (ts : List Token) → an_ident_at ts ≡ Stopped (length ts) → as_new names_special_made (names_special_run h) ts ≡ Stopped (length ts)
names_none h ts e = ap (λ (v : Read Ident). becoming names_special_made (v >>= (λ a q. becoming (joined a) (in_turn more_names_run (special_tail_run h) q)))) e

-- a primitive type

word_by : (at : ℕ) (w : PrimitiveWord) (ts q : List Token) (d l : ℕ) → dims_run ts ≡ Found d q l
    → noting (length ts) (as_new (word_class_made at w) (in_turn dims_run dot_class_run) ts) ≡ noting (length ts) (noting l (becoming (λ (b : DotClass). literal_type (base_of.Primitive at w) d) (dot_class_run q)))
word_by at w ts q d l e = ap (noting (length ts)) (then_made (word_class_made at w) dims_run dot_class_run ts q d l e)

pub word_reads : (at : ℕ) (w : PrimitiveWord) (ts q r : List Token) (d l : ℕ) → dims_run ts ≡ Found d q l → dot_class_run q ≡ found (tt, tt) r
    → noting (length ts) (as_new (word_class_made at w) (in_turn dims_run dot_class_run) ts) ≡ Found (literal_type (base_of.Primitive at w) d) r (min (length ts) (min l (length r)))
word_reads at w ts q r d l e f = word_by at w ts q d l e ∙ ap (λ (v : Read DotClass). noting (length ts) (noting l (becoming (λ (b : DotClass). literal_type (base_of.Primitive at w) d) v))) f

pub word_stops : (at : ℕ) (w : PrimitiveWord) (ts q : List Token) (d l k : ℕ) → dims_run ts ≡ Found d q l → dot_class_run q ≡ Stopped k
    → noting (length ts) (as_new (word_class_made at w) (in_turn dims_run dot_class_run) ts) ≡ Stopped (min (length ts) (min l k))
word_stops at w ts q d l k e f = word_by at w ts q d l e ∙ ap (λ (v : Read DotClass). noting (length ts) (noting l (becoming (λ (b : DotClass). literal_type (base_of.Primitive at w) d) v))) f
