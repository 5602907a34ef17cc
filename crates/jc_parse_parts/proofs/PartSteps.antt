-- What the steps of the code of parts read.
use Rattle.std.proofs.Common.{◌≡◌, ◌==◌, ◌||◌, ℕ, zero, suc, ◌-◌, ◌<◌, min, Bool, true, false, List, [], ◌∷◌, map, length, Option, Some, None, refl, ap, ◌∙◌, arith}
use Rattle.std.proofs.lemmas.Bool.{cond-true, cond-false}
use Rattle.jc_lexer.specs.declared.token.Key.TheVariants as key_of
use Rattle.jc_lexer.specs.declared.token.Sign.TheVariants as sign_of
use Rattle.jc_lexer.specs.declared.token.Token.{Token}
use Rattle.jc_tree.specs.declared.name.Ident.{Ident}
use Rattle.jc_tree.specs.declared.types.ClassTree.{ClassTree}
use Rattle.jc_tree.specs.declared.expression.Expr.{Expr}
use Rattle.jc_tree.specs.declared.expression.Init.{Init}
use Rattle.jc_tree.specs.declared.statement.Annotation.{Annotation}
use Rattle.jc_tree.specs.declared.statement.AnnotationValue.{AnnotationValue}
use Rattle.jc_tree.specs.declared.statement.AnnotationValue.TheVariants as value_of
use Rattle.jc_tree.specs.declared.statement.Modifier.TheVariants as modifier_of
use Rattle.jc_tree.specs.declared.statement.Pair.{Pair}
use Rattle.jc_tree.specs.declared.statement.TypeParam.{TypeParam}
use Rattle.jc_tree.specs.declared.statement.TypeParams.{TypeParams}
use Rattle.jc_tree.specs.declared.statement.Var.{Var}
use Rattle.jc_reading.specs.Kinds.{front_code, sign_code, key_code, one_of}
use Rattle.jc_reading.specs.Reading.{Read, Found, Stopped, Run, found, noting, ◌>>=◌, becoming, joined, as_new, in_turn, perhaps_from, perhaps, Either, This, That, an_ident_at, behind_it, first_and_more, each_behind, commas_run, of_kind, at_kind, picking}
use Rattle.jc_reading.specs.Further.{with_room, or_else}
use Rattle.jc_parse_type.specs.TypeReading.{dims_run}
use Rattle.jc_part_laws.specs.PartReading.{or_nothing, bounds_made, bounds_run, param_run, params_made, params_of_run, closing_run, row_made, row_run, value_made, value_run, pair_made, pair_run, pairs_made, pairs_run, annotation_run, picks_modifier, modifier_made, modifier_run, var_made, var_run}
use Rattle.jc_expr_laws.specs.ExprReading.{exprs}
use Rattle.jc_parse_parts.specs.declared.trees.ValueRow.{ValueRow}
use Rattle.jc_parse_parts.specs.Lists.{or_no_list}
use Rattle.jc_reading.specs.Reach.{}
use Rattle.jc_parse_parts.specs.Parts.{initial_run, more_vars_run, named_value, or_no_initial, row_tree, row_value, unnamed_value, vars_tree, vars_tree_run}
use Rattle.jc_parse_expr.proofs.MeasuredSteps.{then_made, mapped_made}
use Rattle.jc_parse_parts.proofs.ChainSteps.{then_stops, last_made}

pub two_of : (c d : ℕ) (ts : List Token) → one_of (c ∷ d ∷ []) ts ≡ (one_of (c ∷ []) ts || one_of (d ∷ []) ts)
two_of c d ts = choice (c == front_code ts) (d == front_code ts)
  where
    choice : (a b : Bool) → (a || (b || false)) ≡ ((a || false) || (b || false))
    choice true b = refl
    choice false b = refl

-- type parameters

abbrev More : Type 0
More = ClassTree × List (Unit {0} × ClassTree)

bounds_behind : (ts : List Token) (k : ℕ) (m : Read More) → becoming bounds_made (perhaps_from ts (noting k (becoming (joined tt) m))) ≡ becoming or_nothing (perhaps_from ts (noting k (becoming (joined tt) (becoming first_and_more m))))
bounds_behind ts k (Found p r l) = refl
bounds_behind ts k (Stopped l) = refl

bounds_of : (ts : List Token) (c : Read (Unit {0})) (m : Run More) → becoming bounds_made (perhaps_from ts (c >>= (λ u q. becoming (joined u) (m q)))) ≡ becoming or_nothing (perhaps_from ts (c >>= (λ u q. becoming (joined u) (becoming first_and_more (m q)))))
bounds_of ts (Found u q k) m = bounds_behind ts k (m q)
bounds_of ts (Stopped k) m = refl

pub bounds_as : (class : Run ClassTree) (ts : List Token) → bounds_run class ts ≡ as_new or_nothing (perhaps (in_turn (of_kind (key_code key_of.Extends)) (as_new first_and_more (in_turn class (each_behind sign_of.And class))))) ts
unfolding bounds_run
bounds_as class ts = bounds_of ts (of_kind (key_code key_of.Extends) ts) (in_turn class (each_behind sign_of.And class))

abbrev params_tree : ℕ → TypeParam → List TypeParam → TypeParams
params_tree at first more = record { at = at; first = first; more = more }

params_inner : (class : Run ClassTree) (at : ℕ) (q r s : List Token) (p : TypeParam) (list : List TypeParam) (l k : ℕ) → param_run class q ≡ Found p r l → as_new (map behind_it) (each_behind sign_of.Comma (param_run class)) r ≡ Found list s k → as_new (λ (x : TypeParam × List (Unit {0} × TypeParam)). params_tree at x.0 (map behind_it x.1)) (in_turn (param_run class) (each_behind sign_of.Comma (param_run class))) q ≡ Found (params_tree at p list) s (min l k)
params_inner class at q r s p list l k f g =
    let made : (TypeParam × List (Unit {0} × TypeParam)) → TypeParams = λ x. params_tree at x.0 (map behind_it x.1) in
    then_made made (param_run class) (each_behind sign_of.Comma (param_run class)) q r p l f
    ∙ ap (noting l) (last_made (λ (x : List (Unit {0} × TypeParam)). params_tree at p (map behind_it x)) (map behind_it) (params_tree at p) (λ a. refl) (each_behind sign_of.Comma (param_run class) r) list s k g)

params_behind : (class : Run ClassTree) (ts q r s : List Token) (at : ℕ) (p : TypeParam) (list : List TypeParam) (l k : ℕ) → at_kind (sign_code sign_of.Less) ts ≡ found at q → param_run class q ≡ Found p r l → as_new (map behind_it) (each_behind sign_of.Comma (param_run class)) r ≡ Found list s k → params_of_run class ts ≡ noting (length q) (noting (min l k) (becoming (λ (u : Unit {0}). params_tree at p list) (of_kind (sign_code sign_of.Greater) s)))
unfolding params_of_run
params_behind class ts q r s at p list l k e f g =
    let list_run = in_turn (param_run class) (each_behind sign_of.Comma (param_run class)) in
    then_made params_made (at_kind (sign_code sign_of.Less)) (in_turn list_run (of_kind (sign_code sign_of.Greater))) ts q at (length q) e
    ∙ ap (noting (length q)) (mapped_made (λ (x : (TypeParam × List (Unit {0} × TypeParam)) × Unit {0}). params_made (at, x)) (λ (x : TypeParam × List (Unit {0} × TypeParam)). params_tree at x.0 (map behind_it x.1)) (λ (x : TypeParams × Unit {0}). x.0) (λ a b. refl) list_run (of_kind (sign_code sign_of.Greater)) q s (params_tree at p list) (min l k) (params_inner class at q r s p list l k f g))

pub params_of_found : (class : Run ClassTree) (ts q r s t : List Token) (at : ℕ) (p : TypeParam) (list : List TypeParam) (l k : ℕ) → at_kind (sign_code sign_of.Less) ts ≡ found at q → param_run class q ≡ Found p r l → as_new (map behind_it) (each_behind sign_of.Comma (param_run class)) r ≡ Found list s k → of_kind (sign_code sign_of.Greater) s ≡ found tt t → params_of_run class ts ≡ Found (record { at = at; first = p; more = list }) t (min (length q) (min (min l k) (length t)))
params_of_found class ts q r s t at p list l k e f g h =
    params_behind class ts q r s at p list l k e f g ∙ ap (λ (v : Read (Unit {0})). noting (length q) (noting (min l k) (becoming (λ (u : Unit {0}). params_tree at p list) v))) h

pub params_of_open : (class : Run ClassTree) (ts q r s : List Token) (at : ℕ) (p : TypeParam) (list : List TypeParam) (l k : ℕ) → at_kind (sign_code sign_of.Less) ts ≡ found at q → param_run class q ≡ Found p r l → as_new (map behind_it) (each_behind sign_of.Comma (param_run class)) r ≡ Found list s k → of_kind (sign_code sign_of.Greater) s ≡ Stopped (length s) → params_of_run class ts ≡ Stopped (min (length q) (min (min l k) (length s)))
params_of_open class ts q r s at p list l k e f g h =
    params_behind class ts q r s at p list l k e f g ∙ ap (λ (v : Read (Unit {0})). noting (length q) (noting (min l k) (becoming (λ (u : Unit {0}). params_tree at p list) v))) h

pub params_of_halts : (class : Run ClassTree) (ts q : List Token) (at l : ℕ) → at_kind (sign_code sign_of.Less) ts ≡ found at q → param_run class q ≡ Stopped l → params_of_run class ts ≡ Stopped (min (length q) l)
unfolding params_of_run
params_of_halts class ts q at l e f =
    let list_run = in_turn (param_run class) (each_behind sign_of.Comma (param_run class)) in
    then_made params_made (at_kind (sign_code sign_of.Less)) (in_turn list_run (of_kind (sign_code sign_of.Greater))) ts q at (length q) e
    ∙ ap (λ (v : Read TypeParam). noting (length q) (becoming (λ (x : (TypeParam × List (Unit {0} × TypeParam)) × Unit {0}). params_made (at, x)) ((v >>= (λ p r. becoming (joined p) (each_behind sign_of.Comma (param_run class) r))) >>= (λ x r. becoming (joined x) (of_kind (sign_code sign_of.Greater) r))))) f

pub params_of_shut : (class : Run ClassTree) (ts : List Token) → at_kind (sign_code sign_of.Less) ts ≡ Stopped (length ts) → params_of_run class ts ≡ Stopped (length ts)
unfolding params_of_run
params_of_shut class ts e = then_stops params_made (at_kind (sign_code sign_of.Less)) _ ts (length ts) e

-- rows of values

abbrev Closing : Run Bool
Closing = closing_run sign_of.Comma sign_of.RightBrace

row_ends : (l k : ℕ) (a : AnnotationValue) (b : List (Unit {0} × AnnotationValue)) (c : Read Bool) → becoming row_tree (becoming row_made (becoming That (noting l (becoming (joined a) (noting k (becoming (joined b) c)))))) ≡ noting (min l k) (becoming (row_value (a ∷ map behind_it b)) c)
row_ends l k a b (Found t r j) = let e : min l (min k j) ≡ min (min l k) j = omega arith in ap (λ i. Found (row_value (a ∷ map behind_it b) t) r i) e
row_ends l k a b (Stopped j) = let e : min l (min k j) ≡ min (min l k) j = omega arith in ap (λ i. Stopped i) e

row_each : (l : ℕ) (a : AnnotationValue) (w : Read (List (Unit {0} × AnnotationValue))) → becoming row_tree (becoming row_made (becoming That (noting l (becoming (joined a) (w >>= (λ b r. becoming (joined b) (Closing r))))))) ≡ becoming first_and_more (noting l (becoming (joined a) w)) >>= (λ list r. becoming (row_value list) (Closing r))
row_each l a (Found b r k) = row_ends l k a b (Closing r)
row_each l a (Stopped k) = refl

row_listed : (v : Read AnnotationValue) (each : Run (List (Unit {0} × AnnotationValue))) → becoming row_tree (becoming row_made (becoming That (v >>= (λ a q. becoming (joined a) (each q >>= (λ b r. becoming (joined b) (Closing r))))))) ≡ becoming first_and_more (v >>= (λ a q. becoming (joined a) (each q))) >>= (λ list r. becoming (row_value list) (Closing r))
row_listed (Found a q l) each = row_each l a (each q)
row_listed (Stopped l) each = refl

row_on : (run : Run AnnotationValue) (ts : List Token) → one_of (sign_code sign_of.Comma ∷ sign_code sign_of.RightBrace ∷ []) ts ≡ false → as_new row_tree (row_run sign_of.Comma sign_of.RightBrace run) ts ≡ commas_run run ts >>= (λ list r. becoming (row_value list) (Closing r))
row_on run ts e =
    ap (λ (v : Read (Either Bool (AnnotationValue × (List (Unit {0} × AnnotationValue) × Bool)))). becoming row_tree (becoming row_made v)) (cond-false (one_of (sign_code sign_of.Comma ∷ sign_code sign_of.RightBrace ∷ []) ts) _ _ e)
    ∙ row_listed (run ts) (each_behind sign_of.Comma run)

pub value_row_on : (run : Run AnnotationValue) (ts q : List Token) (list : List AnnotationValue) (l : ℕ) → one_of (sign_code sign_of.Comma ∷ sign_code sign_of.RightBrace ∷ []) ts ≡ false → commas_run run ts ≡ Found list q l → as_new row_tree (row_run sign_of.Comma sign_of.RightBrace run) ts ≡ noting l (becoming (row_value list) (closing_run sign_of.Comma sign_of.RightBrace q))
value_row_on run ts q list l e f = row_on run ts e ∙ ap (λ (v : Read (List AnnotationValue)). v >>= (λ list r. becoming (row_value list) (Closing r))) f

pub value_row_halts : (run : Run AnnotationValue) (ts : List Token) (l : ℕ) → one_of (sign_code sign_of.Comma ∷ sign_code sign_of.RightBrace ∷ []) ts ≡ false → commas_run run ts ≡ Stopped l → as_new row_tree (row_run sign_of.Comma sign_of.RightBrace run) ts ≡ Stopped l
value_row_halts run ts l e f = row_on run ts e ∙ ap (λ (v : Read (List AnnotationValue)). v >>= (λ list r. becoming (row_value list) (Closing r))) f

row_none : (m : Read Bool) → becoming row_tree (becoming row_made (becoming This m)) ≡ becoming (row_value []) m
row_none (Found t r l) = refl
row_none (Stopped l) = refl

pub value_row_empty : (run : Run AnnotationValue) (ts : List Token) → one_of (sign_code sign_of.Comma ∷ sign_code sign_of.RightBrace ∷ []) ts ≡ true → as_new row_tree (row_run sign_of.Comma sign_of.RightBrace run) ts ≡ becoming (row_value []) (closing_run sign_of.Comma sign_of.RightBrace ts)
value_row_empty run ts e =
    ap (λ (v : Read (Either Bool (AnnotationValue × (List (Unit {0} × AnnotationValue) × Bool)))). becoming row_tree (becoming row_made v)) (cond-true (one_of (sign_code sign_of.Comma ∷ sign_code sign_of.RightBrace ∷ []) ts) _ _ e)
    ∙ row_none (Closing ts)

-- values

list_value : (at k : ℕ) (m : Read (List AnnotationValue × Bool)) → becoming value_made (becoming This (noting k (becoming (joined at) m))) ≡ noting k (becoming (λ (r : ValueRow). value_of.List at r.values r.trailing) (becoming row_tree m))
list_value at k (Found p r l) = refl
list_value at k (Stopped l) = refl

pub value_low : (h : ℕ) (ts : List Token) → h ≡ 0 → value_run exprs h ts ≡ Stopped (length ts)
unfolding value_run
value_low zero ts e = refl
value_low (suc k) ts e = absurd (omega (arith, e))

listed : (k : ℕ) (ts q : List Token) (at : ℕ) → one_of (sign_code sign_of.LeftBrace ∷ []) ts ≡ true → at_kind (sign_code sign_of.LeftBrace) ts ≡ found at q → value_run exprs (suc k) ts ≡ noting (length q) (becoming (λ (r : ValueRow). value_of.List at r.values r.trailing) (as_new row_tree (row_run sign_of.Comma sign_of.RightBrace (value_run exprs k)) q))
unfolding value_run
listed k ts q at e f =
    ap (λ (v : Read (Either (ℕ × (List AnnotationValue × Bool)) Expr)). becoming value_made v) (cond-true (one_of (sign_code sign_of.LeftBrace ∷ []) ts) _ _ e)
    ∙ ap (λ (v : Read ℕ). becoming value_made (becoming This (v >>= (λ (at : ℕ) q. becoming (joined at) (row_run sign_of.Comma sign_of.RightBrace (value_run exprs k) q))))) f
    ∙ list_value at (length q) (row_run sign_of.Comma sign_of.RightBrace (value_run exprs k) q)

pub value_list : (h : ℕ) (ts q : List Token) (at : ℕ) → 0 < h → one_of (sign_code sign_of.LeftBrace ∷ []) ts ≡ true → at_kind (sign_code sign_of.LeftBrace) ts ≡ found at q → value_run exprs h ts ≡ noting (length q) (becoming (λ (r : ValueRow). value_of.List at r.values r.trailing) (as_new row_tree (row_run sign_of.Comma sign_of.RightBrace (value_run exprs (h - 1))) q))
value_list zero ts q at p e f = absurd (omega (arith, p))
value_list (suc k) ts q at p e f =
    let s : k ≡ suc k - 1 = omega arith in
    listed k ts q at e f ∙ ap (λ (n : ℕ). noting (length q) (becoming (λ (r : ValueRow). value_of.List at r.values r.trailing) (as_new row_tree (row_run sign_of.Comma sign_of.RightBrace (value_run exprs n)) q))) s

pub value_plain : (h : ℕ) (ts : List Token) → 0 < h → one_of (sign_code sign_of.LeftBrace ∷ []) ts ≡ false → value_run exprs h ts ≡ as_new value_made (as_new That (exprs.conditional h)) ts
unfolding value_run
value_plain zero ts p e = absurd (omega (arith, p))
value_plain (suc k) ts p e = ap (λ (v : Read (Either (ℕ × (List AnnotationValue × Bool)) Expr)). becoming value_made v) (cond-false (one_of (sign_code sign_of.LeftBrace ∷ []) ts) _ _ e)

-- pairs

abbrev pub named_run : ℕ → Run (Ident × (Unit {0} × AnnotationValue))
named_run h = in_turn an_ident_at (in_turn (of_kind (sign_code sign_of.Assign)) (value_run exprs h))

pub pair_low : (h : ℕ) (ts : List Token) → h ≡ 0 → pair_run exprs h ts ≡ Stopped (length ts)
unfolding pair_run with_room
pair_low zero ts e = refl
pair_low (suc k) ts e = absurd (omega (arith, e))

named_first : (ts : List Token) (m : Read (Ident × (Unit {0} × AnnotationValue))) (n : Run AnnotationValue) (p : Pair) (r : List Token) (l : ℕ) → becoming named_value m ≡ Found p r l → becoming (pair_made exprs) (or_else ts m n) ≡ Found p r l
named_first ts (Found a q k) n p r l e = e
named_first ts (Stopped k) n p r l e = cc

unnamed_noted : (k : ℕ) (m : Read AnnotationValue) → becoming (pair_made exprs) (noting k (becoming That m)) ≡ noting k (becoming unnamed_value m)
unnamed_noted k (Found a r l) = refl
unnamed_noted k (Stopped l) = refl

unnamed_then : (ts : List Token) (m : Read (Ident × (Unit {0} × AnnotationValue))) (n : Run AnnotationValue) (l : ℕ) → becoming named_value m ≡ Stopped l → becoming (pair_made exprs) (or_else ts m n) ≡ noting l (becoming unnamed_value (n ts))
unnamed_then ts (Found a q k) n l e = cc
unnamed_then ts (Stopped k) n l e = let z : k ≡ l = cc in unnamed_noted k (n ts) ∙ ap (λ (i : ℕ). noting i (becoming unnamed_value (n ts))) z

pub pair_named : (h : ℕ) (ts r : List Token) (p : Pair) (l : ℕ) → 0 < h → as_new named_value (named_run h) ts ≡ Found p r l → pair_run exprs h ts ≡ Found p r l
unfolding pair_run with_room
pair_named zero ts r p l lt e = absurd (omega (arith, lt))
pair_named (suc k) ts r p l lt e = named_first ts (named_run (suc k) ts) (value_run exprs (suc k)) p r l e

pub pair_plain : (h : ℕ) (ts : List Token) (l : ℕ) → 0 < h → as_new named_value (named_run h) ts ≡ Stopped l → pair_run exprs h ts ≡ noting l (becoming unnamed_value (value_run exprs h ts))
unfolding pair_run with_room
pair_plain zero ts l lt e = absurd (omega (arith, lt))
pair_plain (suc k) ts l lt e = unnamed_then ts (named_run (suc k) ts) (value_run exprs (suc k)) l e

pairs_same : (o : Option (List Pair)) (u : Unit {0}) → pairs_made exprs (tt, (o, u)) ≡ or_no_list o
pairs_same None u = refl
pairs_same (Some list) u = refl

pairs_behind : (h : ℕ) (ts q r : List Token) (list : List Pair) (l : ℕ) → of_kind (sign_code sign_of.LeftParen) ts ≡ found tt q → as_new or_no_list (perhaps (commas_run (pair_run exprs h))) q ≡ Found list r l → pairs_run exprs h ts ≡ noting (length q) (noting l (becoming (λ (u : Unit {0}). list) (of_kind (sign_code sign_of.RightParen) r)))
unfolding pairs_run
pairs_behind h ts q r list l e f =
    then_made (pairs_made exprs) (of_kind (sign_code sign_of.LeftParen)) (in_turn (perhaps (commas_run (pair_run exprs h))) (of_kind (sign_code sign_of.RightParen))) ts q tt (length q) e
    ∙ ap (noting (length q)) (mapped_made (λ (b : Option (List Pair) × Unit {0}). pairs_made exprs (tt, b)) or_no_list (λ (x : List Pair × Unit {0}). x.0) pairs_same (perhaps (commas_run (pair_run exprs h))) (of_kind (sign_code sign_of.RightParen)) q r list l f)

pub pairs_closed : (h : ℕ) (ts q r s : List Token) (list : List Pair) (l : ℕ) → of_kind (sign_code sign_of.LeftParen) ts ≡ found tt q → as_new or_no_list (perhaps (commas_run (pair_run exprs h))) q ≡ Found list r l → of_kind (sign_code sign_of.RightParen) r ≡ found tt s → pairs_run exprs h ts ≡ Found list s (min (length q) (min l (length s)))
pairs_closed h ts q r s list l e f g = pairs_behind h ts q r list l e f ∙ ap (λ (v : Read (Unit {0})). noting (length q) (noting l (becoming (λ (u : Unit {0}). list) v))) g

pub pairs_open : (h : ℕ) (ts q r : List Token) (list : List Pair) (l : ℕ) → of_kind (sign_code sign_of.LeftParen) ts ≡ found tt q → as_new or_no_list (perhaps (commas_run (pair_run exprs h))) q ≡ Found list r l → of_kind (sign_code sign_of.RightParen) r ≡ Stopped (length r) → pairs_run exprs h ts ≡ Stopped (min (length q) (min l (length r)))
pairs_open h ts q r list l e f g = pairs_behind h ts q r list l e f ∙ ap (λ (v : Read (Unit {0})). noting (length q) (noting l (becoming (λ (u : Unit {0}). list) v))) g

pub pairs_shut : (h : ℕ) (ts : List Token) → of_kind (sign_code sign_of.LeftParen) ts ≡ Stopped (length ts) → pairs_run exprs h ts ≡ Stopped (length ts)
unfolding pairs_run
pairs_shut h ts e = then_stops (pairs_made exprs) (of_kind (sign_code sign_of.LeftParen)) _ ts (length ts) e

-- modifiers

pub modifier_annotated : (h : ℕ) (ts r : List Token) (a : Annotation) (l : ℕ) → one_of (sign_code sign_of.At ∷ []) ts ≡ true → annotation_run exprs h ts ≡ Found a r l → modifier_run exprs h ts ≡ Found (modifier_of.Annotation a) r l
unfolding modifier_run
modifier_annotated h ts r a l e f =
    ap (becoming modifier_made) (cond-true (one_of (sign_code sign_of.At ∷ []) ts) (becoming This (annotation_run exprs h ts)) (becoming That (picking picks_modifier ts)) e)
    ∙ ap (λ (v : Read Annotation). becoming modifier_made (becoming This v)) f

pub modifier_halts : (h : ℕ) (ts : List Token) (l : ℕ) → one_of (sign_code sign_of.At ∷ []) ts ≡ true → annotation_run exprs h ts ≡ Stopped l → modifier_run exprs h ts ≡ Stopped l
unfolding modifier_run
modifier_halts h ts l e f =
    ap (becoming modifier_made) (cond-true (one_of (sign_code sign_of.At ∷ []) ts) (becoming This (annotation_run exprs h ts)) (becoming That (picking picks_modifier ts)) e)
    ∙ ap (λ (v : Read Annotation). becoming modifier_made (becoming This v)) f

pub modifier_word : (h : ℕ) (ts : List Token) → one_of (sign_code sign_of.At ∷ []) ts ≡ false → modifier_run exprs h ts ≡ as_new modifier_made (as_new That (picking picks_modifier)) ts
unfolding modifier_run
modifier_word h ts e = ap (becoming modifier_made) (cond-false (one_of (sign_code sign_of.At ∷ []) ts) (becoming This (annotation_run exprs h ts)) (becoming That (picking picks_modifier ts)) e)

-- variables

pub initial_low : (h : ℕ) (ts : List Token) → h ≡ 0 → initial_run h ts ≡ Found None ts (length ts)
unfolding with_room
initial_low zero ts e = refl
initial_low (suc k) ts e = absurd (omega (arith, e))

pub initial_none : (h : ℕ) (ts : List Token) → 0 < h → of_kind (sign_code sign_of.Assign) ts ≡ Stopped (length ts) → initial_run h ts ≡ Found None ts (length ts)
unfolding with_room
initial_none zero ts p e = absurd (omega (arith, p))
initial_none (suc k) ts p e = ap (λ (v : Read (Unit {0})). becoming or_no_initial (perhaps_from ts (v >>= (λ (u : Unit {0}) q. becoming (joined u) (exprs.init (suc k) q))))) e

pub initial_found : (h : ℕ) (ts q r : List Token) (init : Init) (l : ℕ) → 0 < h → of_kind (sign_code sign_of.Assign) ts ≡ found tt q → exprs.init h q ≡ Found init r l → initial_run h ts ≡ Found (Some init) r (min (length q) l)
unfolding with_room
initial_found zero ts q r init l p e f = absurd (omega (arith, p))
initial_found (suc k) ts q r init l p e f =
    ap (λ (v : Read (Unit {0})). becoming or_no_initial (perhaps_from ts (v >>= (λ (u : Unit {0}) q. becoming (joined u) (exprs.init (suc k) q))))) e
    ∙ ap (λ (v : Read Init). becoming or_no_initial (perhaps_from ts (noting (length q) (becoming (joined tt) v)))) f

pub initial_halts : (h : ℕ) (ts q : List Token) (l : ℕ) → 0 < h → of_kind (sign_code sign_of.Assign) ts ≡ found tt q → exprs.init h q ≡ Stopped l → initial_run h ts ≡ Found None ts (min (length q) l)
unfolding with_room
initial_halts zero ts q l p e f = absurd (omega (arith, p))
initial_halts (suc k) ts q l p e f =
    ap (λ (v : Read (Unit {0})). becoming or_no_initial (perhaps_from ts (v >>= (λ (u : Unit {0}) q. becoming (joined u) (exprs.init (suc k) q))))) e
    ∙ ap (λ (v : Read Init). becoming or_no_initial (perhaps_from ts (noting (length q) (becoming (joined tt) v)))) f

abbrev Given : ℕ → Run (Option (Unit {0} × Init))
Given h = perhaps (with_room h (in_turn (of_kind (sign_code sign_of.Assign)) (exprs.init h)))

abbrev var_tree : Ident → ℕ → Option Init → Var
var_tree name dims init = record { name = name; dims = dims; init = init }

var_same : (name : Ident) (dims : ℕ) (o : Option (Unit {0} × Init)) → var_made (name, (dims, o)) ≡ var_tree name dims (or_no_initial o)
var_same name dims None = refl
var_same name dims (Some p) = refl

pub var_found : (h : ℕ) (ts q r s : List Token) (name : Ident) (dims : ℕ) (init : Option Init) (l k j : ℕ) → an_ident_at ts ≡ Found name q l → dims_run q ≡ Found dims r k → initial_run h r ≡ Found init s j → var_run exprs h ts ≡ Found (record { name = name; dims = dims; init = init }) s (min l (min k j))
unfolding var_run
var_found h ts q r s name dims init l k j e f g =
    then_made var_made an_ident_at (in_turn dims_run (Given h)) ts q name l e
    ∙ ap (noting l) (then_made (λ (x : ℕ × Option (Unit {0} × Init)). var_made (name, x)) dims_run (Given h) q r dims k f)
    ∙ ap (λ (v : Read Var). noting l (noting k v)) (last_made (λ (x : Option (Unit {0} × Init)). var_made (name, (dims, x))) or_no_initial (var_tree name dims) (var_same name dims) (Given h r) init s j g)

pub var_halts : (h : ℕ) (ts : List Token) (l : ℕ) → an_ident_at ts ≡ Stopped l → var_run exprs h ts ≡ Stopped l
unfolding var_run
var_halts h ts l e = then_stops var_made an_ident_at (in_turn dims_run (Given h)) ts l e

pub vars_found : (h : ℕ) (ts q r : List Token) (var : Var) (list : List Var) (l k : ℕ) → var_run exprs h ts ≡ Found var q l → more_vars_run h q ≡ Found list r k → vars_tree_run h ts ≡ Found (record { first = var; more = list }) r (min l k)
vars_found h ts q r var list l k e f =
    then_made vars_tree (var_run exprs h) (each_behind sign_of.Comma (var_run exprs h)) ts q var l e
    ∙ ap (noting l) (last_made (λ (x : List (Unit {0} × Var)). vars_tree (var, x)) (map behind_it) (λ (list : List Var). record { first = var; more = list }) (λ a. refl) (each_behind sign_of.Comma (var_run exprs h) q) list r k f)

pub vars_halts : (h : ℕ) (ts : List Token) (l : ℕ) → var_run exprs h ts ≡ Stopped l → vars_tree_run h ts ≡ Stopped l
vars_halts h ts l e = then_stops vars_tree (var_run exprs h) (each_behind sign_of.Comma (var_run exprs h)) ts l e
