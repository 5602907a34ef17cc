-- What the code reads of casts.
use Rattle.std.proofs.Common.{◌≡◌, ℕ, zero, suc, ◌-◌, ◌≤◌, min, Bool, true, false, List, length, refl, sym, ap, ◌∙◌, subst, arith}
use Rattle.jc_lexer.specs.declared.token.Sign.TheVariants as sign_of
use Rattle.jc_lexer.specs.declared.token.Token.{Token}
use Rattle.jc_tree.specs.declared.types.TypeTree.{TypeTree}
use Rattle.jc_tree.specs.declared.expression.Expr.{Expr}
use Rattle.jc_tree.specs.declared.expression.Expr.TheVariants as expr_of
use Rattle.jc_tree.specs.Heights.{expr_height}
use Rattle.jc_grammar.specs.Shapes.{is_primitive}
use Rattle.jc_reading.specs.declared.reading.Halt.{Halt}
use Rattle.jc_reading.specs.Giving.{Halts}
use Rattle.jc_reading.specs.Kinds.{sign_code}
use Rattle.jc_reading.specs.Reading.{Read, Found, Stopped, Run, found, noting, becoming, joined, in_turn, That, of_kind, at_kind, before_it}
use Rattle.jc_reading.specs.Further.{by_value, or_else}
use Rattle.jc_reading.proofs.Steps.{within_bind, within_becoming}
use Rattle.jc_reading.proofs.Signs.{sign_laws}
use Rattle.jc_reading.specs.Reach.{Within}
use Rattle.jc_parse_type.specs.TypeReading.{type_run}
use Rattle.jc_parse_type.proofs.CodeSteps.{within_type}
use Rattle.jc_parse_expr.specs.declared.measured.Measured.{Measured}
use Rattle.jc_parse_expr.specs.Measuring.{measured}
use Rattle.jc_expr_laws.specs.LevelReading.{bare_run, bare_made, cast_run, CastParts, operand_for, next_levels}
use Rattle.jc_expr_laws.specs.ExprReading.{readers, next_readers}
use Rattle.jc_parse_expr.specs.Nodes.{cast_node}
use Rattle.jc_parse_expr.specs.BinaryLevels.{levels_at, post_at, cast_type_run, cast_made}
use Rattle.jc_parse_expr.proofs.MeasuredRead.{measured_found, measured_stopped, halts_by}
use Rattle.jc_parse_expr.proofs.PairSteps.{by_found, by_stops, by_first, pair_first, pair_far, made_found, made_halts}
use Rattle.jc_parse_expr.proofs.CodeFacts.{within_unary, within_plain}
use Rattle.jc_parse_expr.proofs.NodeHeights.{cast_measured}

pub stopped_same : (A : Type 0) (k l : ℕ) → ◌≡◌ {A = Read A} (Stopped k) (Stopped l) → k ≡ l
stopped_same A k l e = cc

-- casts

abbrev Parts : ℕ → List Token → Read CastParts
Parts h ts = cast_run h (levels_at h).unary (levels_at h).plain ts

abbrev Typed : ℕ → Run (TypeTree × Unit {0})
Typed h = in_turn (type_run h) (of_kind (sign_code sign_of.RightParen))

abbrev Operand_of : ℕ → (TypeTree × Unit {0}) → Run Expr
Operand_of h p = operand_for (is_primitive p.0) (levels_at h).unary (levels_at h).plain

within_operand : (h : ℕ) (primitive : Bool) (ts : List Token) → Within (length ts) (operand_for primitive (levels_at h).unary (levels_at h).plain ts)
within_operand h true ts = within_unary h ts
within_operand h false ts = within_plain h ts

pub within_typed : (h : ℕ) (ts : List Token) → Within (length ts) (Typed h ts)
within_typed h ts = within_bind (length ts) (type_run h ts) _ (within_type h ts) (λ a r. within_becoming (length r) (joined a) (of_kind (sign_code sign_of.RightParen) r) ((sign_laws sign_of.RightParen).within r))

within_parts : (h : ℕ) (ts : List Token) → Within (length ts) (by_value (Typed h) (Operand_of h) ts)
within_parts h ts = within_bind (length ts) (Typed h ts) _ (within_typed h ts) (λ p r. within_becoming (length r) (joined p) (Operand_of h p r) (within_operand h (is_primitive p.0) r))

parts_are : (h at : ℕ) (ts q : List Token) → at_kind (sign_code sign_of.LeftParen) ts ≡ found at q → Parts h ts ≡ becoming (joined at) (by_value (Typed h) (Operand_of h) q)
parts_are h at ts q e = pair_far (at_kind (sign_code sign_of.LeftParen)) (by_value (Typed h) (Operand_of h)) ts at q e (within_parts h q)

abbrev Cast : Read CastParts → Read (Measured Expr)
Cast m = becoming measured (becoming cast_made m)

pub cast_first : (h : ℕ) (ts : List Token) → at_kind (sign_code sign_of.LeftParen) ts ≡ Stopped (length ts) → Cast (Parts h ts) ≡ Stopped (length ts)
cast_first h ts e = ap Cast (pair_first (at_kind (sign_code sign_of.LeftParen)) (by_value (Typed h) (Operand_of h)) ts (length ts) e)

pub cast_halts : (h at : ℕ) (ts q : List Token) (e : Halt) → at_kind (sign_code sign_of.LeftParen) ts ≡ found at q → Halts e (cast_type_run h q) → Halts e (Cast (Parts h ts))
cast_halts h at ts q e f m =
    halts_by (Typed h q) _ (λ l s. ap Cast (parts_are h at ts q f ∙ ap (becoming (joined at)) (by_first (Typed h) (Operand_of h) q l s))) e (made_halts before_it (Typed h q) e m)

pub cast_stops : (h at : ℕ) (ts q r : List Token) (ty : TypeTree) (l k : ℕ) → at_kind (sign_code sign_of.LeftParen) ts ≡ found at q → cast_type_run h q ≡ Found ty r l → becoming measured (operand_for (is_primitive ty) (levels_at h).unary (levels_at h).plain r) ≡ Stopped k → Cast (Parts h ts) ≡ Stopped (min l k)
cast_stops h at ts q r ty l k e f g =
    let a = made_found before_it (Typed h q) ty r l f in
    let n = subst (λ (t : TypeTree). operand_for (is_primitive t) (levels_at h).unary (levels_at h).plain r ≡ Stopped k) (sym a.2) (measured_stopped expr_height (operand_for (is_primitive ty) (levels_at h).unary (levels_at h).plain r) k g) in
    ap Cast (parts_are h at ts q e ∙ ap (becoming (joined at)) (by_stops (Typed h) (Operand_of h) q a.0 r l k a.1 n))

pub cast_found : (h at : ℕ) (ts q r s : List Token) (ty : TypeTree) (v w : Measured Expr) (l k : ℕ) → at_kind (sign_code sign_of.LeftParen) ts ≡ found at q → cast_type_run h q ≡ Found ty r l → becoming measured (operand_for (is_primitive ty) (levels_at h).unary (levels_at h).plain r) ≡ Found v s k → w ≡ cast_node at ty v → Cast (Parts h ts) ≡ Found w s (min l k)
cast_found h at ts q r s ty v w l k e f g i =
    let a = made_found before_it (Typed h q) ty r l f in
    let b = measured_found expr_height (operand_for (is_primitive ty) (levels_at h).unary (levels_at h).plain r) v s k g in
    let n = subst (λ (t : TypeTree). operand_for (is_primitive t) (levels_at h).unary (levels_at h).plain r ≡ Found v.tree s k) (sym a.2) b.0 in
    ap Cast (parts_are h at ts q e ∙ ap (becoming (joined at)) (by_found (Typed h) (Operand_of h) q a.0 r l v.tree s k a.1 n))
    ∙ ap (λ (x : Measured Expr). Found x s (min l k)) (ap (λ (t : TypeTree). measured (expr_of.Cast at t v.tree)) a.2 ∙ sym (cast_measured at ty v b.1) ∙ sym i)

-- a cast, or a primary

pub bare_low : (h : ℕ) (ts : List Token) → h ≤ 1 → (levels_at h).bare ts ≡ post_at h ts
unfolding readers next_readers next_levels bare_run
bare_low zero ts e = refl
bare_low (suc zero) ts e = refl
bare_low (suc (suc k)) ts e = absurd (omega (arith, e))

bare_is : (k : ℕ) (ts : List Token) → (levels_at (suc (suc k))).bare ts ≡ becoming bare_made (or_else ts (Parts (suc k) ts) (post_at (suc (suc k))))
unfolding readers next_readers next_levels bare_run
bare_is k ts = refl

cast_there : (ts : List Token) (post : Run Expr) (m : Read CastParts) (v : Measured Expr) (r : List Token) (l : ℕ) → Cast m ≡ Found v r l → becoming measured (becoming bare_made (or_else ts m post)) ≡ Found v r l
cast_there ts post (Found p q k) v r l e = e
cast_there ts post (Stopped k) v r l e = absurd (cc)

post_there : (ts : List Token) (post : Run Expr) (m : Read CastParts) (l : ℕ) → Cast m ≡ Stopped l → becoming measured (becoming bare_made (or_else ts m post)) ≡ noting l (becoming measured (post ts))
post_there ts post (Found p q k) l e = absurd (cc)
post_there ts post (Stopped k) l e = ap (λ (j : ℕ). becoming measured (becoming bare_made (noting j (becoming That (post ts))))) (stopped_same (Measured Expr) k l e) ∙ same (post ts)
  where
    same : (m : Read Expr) → becoming measured (becoming bare_made (noting l (becoming That m))) ≡ noting l (becoming measured m)
    same (Found v r i) = refl
    same (Stopped i) = refl

pub bare_cast : (h k : ℕ) (ts : List Token) (v : Measured Expr) (r : List Token) (l : ℕ) → h ≡ suc (suc k) → Cast (Parts (h - 1) ts) ≡ Found v r l → becoming measured ((levels_at h).bare ts) ≡ Found v r l
bare_cast h k ts v r l room e =
    let j : h - 1 ≡ suc k = omega (arith, room) in
    ap (λ (i : ℕ). becoming measured ((levels_at i).bare ts)) room ∙ ap (becoming measured) (bare_is k ts)
    ∙ cast_there ts (post_at (suc (suc k))) (Parts (suc k) ts) v r l (subst (λ (i : ℕ). Cast (Parts i ts) ≡ Found v r l) j e)

pub bare_post : (h k : ℕ) (ts : List Token) (l : ℕ) → h ≡ suc (suc k) → Cast (Parts (h - 1) ts) ≡ Stopped l → becoming measured ((levels_at h).bare ts) ≡ noting l (becoming measured (post_at h ts))
bare_post h k ts l room e =
    let j : h - 1 ≡ suc k = omega (arith, room) in
    ap (λ (i : ℕ). becoming measured ((levels_at i).bare ts)) room ∙ ap (becoming measured) (bare_is k ts)
    ∙ post_there ts (post_at (suc (suc k))) (Parts (suc k) ts) l (subst (λ (i : ℕ). Cast (Parts i ts) ≡ Stopped l) j e)
    ∙ ap (λ (i : ℕ). noting l (becoming measured (post_at i ts))) (sym room)
