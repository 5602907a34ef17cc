-- Behind a type that stands where an expression does that may be a statement there is no word.
use Rattle.std.proofs.Common.{◌≡◌, ℕ, zero, suc, ◌≤◌, Bool, true, false, cond, List, [], ◌∷◌, ◌++◌, map, Some, refl, sym, ap, ◌∙◌, subst, ⊎_elim, ◌⊎◌, inl, inr, arith}
use Rattle.std.proofs.lemmas.Bool.{false≢true, and_parts, le-leb}
use Rattle.std.specs.Prelude.{◌&&◌, not}
use Rattle.jc_lexer.specs.declared.token.Key.TheVariants as key_of
use Rattle.jc_lexer.specs.declared.token.Sign.TheVariants as sign_of
use Rattle.jc_lexer.specs.declared.token.Token.{Token}
use Rattle.jc_tree.specs.declared.types.TypeArg.{TypeArg}
use Rattle.jc_tree.specs.declared.types.TypeTree.{TypeTree}
use Rattle.jc_tree.specs.declared.name.Ident.{Ident}
use Rattle.jc_tree.specs.declared.expression.AssignOp.{AssignOp}
use Rattle.jc_tree.specs.declared.expression.AssignOp.TheVariants as assign_of
use Rattle.jc_tree.specs.declared.expression.Literal.{Literal}
use Rattle.jc_tree.specs.declared.expression.Literal.TheVariants as literal_of
use Rattle.jc_tree.specs.declared.expression.PostfixOp.{PostfixOp}
use Rattle.jc_tree.specs.declared.expression.PostfixOp.TheVariants as postfix_of
use Rattle.jc_tree.specs.declared.expression.PrefixSign.{PrefixSign}
use Rattle.jc_tree.specs.declared.expression.PrefixSign.TheVariants as prefix_of
use Rattle.jc_tree.specs.declared.expression.Expr.{Expr, Expr-F, out-Expr, roll-Expr, roll-out-Expr}
use Rattle.jc_tree.specs.declared.expression.Expr.TheVariants as expr_of
use Rattle.jc_tree.specs.Heights.{expr_height}
use Rattle.jc_tree.proofs.HeightsOfExpressions.{expr_height-Field, expr_height-Call, expr_height-Index, expr_height-InnerNew, expr_height-Postfix}
use Rattle.jc_grammar.specs.Told.{Told, told, sign, sign_at, key, key_at, ident, actuals, commas, names_after}
use Rattle.jc_grammar.specs.Types.{type_tokens, args_tokens, arg_tokens}
use Rattle.jc_grammar.specs.Expressions.{inner, opening, assign_tokens, prefix_tokens, prefix_sign, expr_tokens, creation_tokens, literal_kind, postfix_sign}
use Rattle.jc_grammar.specs.Shapes.{Shape, stands, prime_level, post_level, any_level, all_stand, expr_shape, creation_shape, is_expr, is_effect, is_bare}
use Rattle.jc_grammar.proofs.ShapesOfExpressions.{expr_shape-Name, expr_shape-Field, expr_shape-Call, expr_shape-Index, expr_shape-InnerNew, expr_shape-Postfix, expr_shape-ClassLiteral, expr_shape-Assign}
use Rattle.jc_grammar.proofs.TokensOfExpressions.{expr_tokens-Literal, expr_tokens-This, expr_tokens-SuperField, expr_tokens-SuperCall, expr_tokens-Paren, expr_tokens-Name, expr_tokens-Invoke, expr_tokens-New, expr_tokens-ClassLiteral, expr_tokens-VoidLiteral, expr_tokens-OuterThis, expr_tokens-Field, expr_tokens-Call, expr_tokens-Index, expr_tokens-InnerNew, expr_tokens-Postfix, expr_tokens-Assign, expr_tokens-Prefix}
use Rattle.jc_reading.specs.Kinds.{kind_code, sign_code, word_code, is_in, one_of}
use Rattle.jc_reading.specs.Reading.{Takes}
use Rattle.jc_reading.proofs.Signs.{apart_sets}
use Rattle.jc_part_laws.proofs.ExprForms.{expr_codes, expr_tall}
use Rattle.jc_expr_laws.proofs.PrimeParts.{select_layer}
use Rattle.jc_expr_laws.proofs.PrimeStarts.{plain_layer}
use Rattle.jc_expr_laws.proofs.PrimeSpecials.{special_layer}
use Rattle.jc_expr_laws.proofs.PrimeWhole.{Layer, postfix_layer, kind_of_post, prime_is_post}
use Rattle.jc_expr_laws.proofs.LevelPrefixes.{IsPrefix}
use Rattle.jc_expr_laws.proofs.LevelAssigns.{IsAssign}
use Rattle.jc_expr_laws.proofs.EffectKinds.{effect_kinds}
use Rattle.jc_expr_laws.proofs.EffectScan.{State, Begun, Named, Opened, Dimmed, Step, On, Ends, dot, open_bracket, close_bracket, other, step, after_step, itself, walk, scan, Moves, then_moves, walks_on, walks_end, names_move, Typed, type_move, type_ends, type_scan}

-- no type with a word behind it ends so
abbrev Fine : List Token → Type 0
Fine ts = is_in type_ends (scan ts Begun) ≡ false

-- an expression is names alone, and no statement
record Names (e : Expr) (r : List Told) (ts q : List Token) : Type 0 where
  moves : Moves Begun Named r ts q
  mild : is_effect e ≡ false

abbrev Out : Expr → List Told → List Token → List Token → Type 0
Out e r ts q = Names e r ts q ⊎ Fine ts

fine_at : (ts : List Token) (c : ℕ) → scan ts Begun ≡ c → is_in type_ends c ≡ false → Fine ts
fine_at ts c e f = ap (λ (n : ℕ). is_in type_ends n) e ∙ f

literal_other : (w : Literal) → step Begun (kind_code (literal_kind w)) ≡ Ends other
literal_other (literal_of.Number v l d) = refl
literal_other (literal_of.Char u) = refl
literal_other (literal_of.String u) = refl
literal_other (literal_of.Boolean true) = refl
literal_other (literal_of.Boolean false) = refl
literal_other literal_of.Null = refl

walk_first : (d : Told) → step Begun (kind_code d.kind) ≡ Ends other → walk (d ∷ []) Begun ≡ Ends other
walk_first d e = ap (λ (x : Step). after_step x Ends (walk [])) e

-- what stands behind names
ends_behind : (d r : List Told) (ts q : List Token) (c : ℕ) → (w : Moves Begun Named (d ++ r) ts q) → walk d Named ≡ Ends c → is_in type_ends c ≡ false → Fine ts
ends_behind d r ts q c w e f = fine_at ts c (w.same ∙ walks_end d Named c r w.flag w.mid q e w.rest) f

postfix_walk : (op : PostfixOp) → (c : ℕ) × (walk (sign (postfix_sign op) ∷ []) Named ≡ Ends c) × (is_in type_ends c ≡ false)
postfix_walk postfix_of.Increment = (sign_code sign_of.Increment, refl, refl)
postfix_walk postfix_of.Decrement = (sign_code sign_of.Decrement, refl, refl)

-- an index begins with no bracket
index_ends : (us : List Token) → one_of expr_codes us ≡ true → scan us Opened ≡ open_bracket
unfolding scan
index_ends [] e = absurd (false≢true e)
index_ends (t ∷ us) e = ap (λ (b : Bool). after_step (cond b (On Dimmed) (Ends open_bracket)) itself (scan us)) (apart_sets expr_codes close_bracket refl (kind_code t.kind) e)

-- by the outermost node, where the smaller ones are known; `starts` says where an expression begins
module _ (n : ℕ) (b : Bool) (ts q : List Token) (go : (v : Expr) → expr_height v ≤ n → stands post_level (expr_shape v) ≡ true → (r : List Told) → Takes b (expr_tokens v r) ts q → Out v r ts q) (starts : (i : Expr) (r : List Told) (c : Bool) (us z : List Token) → is_expr i ≡ true → Takes c (expr_tokens i r) us z → one_of expr_codes us ≡ true) where
  Goal : Expr → Type 0
  Goal e = expr_height e ≤ suc n → stands post_level (expr_shape e) ≡ true → (r : List Told) → Takes b (expr_tokens e r) ts q → Out e r ts q

  rolled : {d e : Expr} → d ≡ e → Goal d → Goal e
  rolled {d} {e} p g = subst (λ (v : Expr). Goal v) p g

  shaped : (e : Expr) (s : Shape) → expr_shape e ≡ s → stands post_level (expr_shape e) ≡ true → stands post_level s ≡ true
  shaped e s p g = ap (λ (z : Shape). stands post_level z) (sym p) ∙ g

  none : (((false ≡ true) ⊎ (false ≡ true)) ⊎ ((false ≡ true) ⊎ (false ≡ true))) → ⊥
  none w = ⊎_elim (λ v. ⊎_elim (λ e. false≢true e) (λ e. false≢true e) v) (λ v. ⊎_elim (λ e. false≢true e) (λ e. false≢true e) v) w

  -- the first tokens say it
  first : (d : List Told) (told : List Told → List Told) (c : ℕ) (e : Expr) → ((r : List Told) → expr_tokens e r ≡ d ++ told r) → walk d Begun ≡ Ends c → is_in type_ends c ≡ false → Goal e
  unfolding Goal
  first d told c e f g k le st r s = inr (fine_at ts c (walks_end d Begun c (told r) b ts q g (subst (λ (l : List Told). Takes b l ts q) (f r) s)) k)

  -- a smaller one, and more behind it
  behind : (v : Expr) (d : List Told) (told : List Told → List Told) (e : Expr) (m : ℕ) → ((r : List Told) → expr_tokens e r ≡ expr_tokens v (d ++ told r)) → expr_height e ≡ suc m → expr_height v ≤ m → (stands post_level (expr_shape e) ≡ true → stands post_level (expr_shape v) ≡ true) →
      ((r : List Told) → stands post_level (expr_shape e) ≡ true → Moves Begun Named (d ++ told r) ts q → Out e r ts q) → Goal e
  unfolding Goal
  behind v d told e m f h low st more le w r s =
      ⊎_elim (λ c. more r w c.moves) (λ k. inr k) (go v (omega (arith, h, low, le)) (st w) (d ++ told r) (subst (λ (l : List Told). Takes b l ts q) (f r) s))

  -- and the next tokens say it
  ending : (v : Expr) (d : List Told) (told : List Told → List Told) (c : ℕ) (e : Expr) (m : ℕ) → ((r : List Told) → expr_tokens e r ≡ expr_tokens v (d ++ told r)) → expr_height e ≡ suc m → expr_height v ≤ m → (stands post_level (expr_shape e) ≡ true → stands post_level (expr_shape v) ≡ true) → walk d Named ≡ Ends c → is_in type_ends c ≡ false → Goal e
  ending v d told c e m f h low st g k = behind v d told e m f h low st (λ r w p. inr (ends_behind d (told r) ts q c p g k))

  call : (v : Expr) (args : List TypeArg) (name : Ident) (list : List Expr) → (stands post_level (expr_shape (expr_of.Call v args name list)) ≡ true → stands post_level (expr_shape v) ≡ true) → Goal (expr_of.Call v args name list)
  call v [] name list st =
      ending v (sign sign_of.Dot ∷ ident name ∷ sign sign_of.LeftParen ∷ []) (λ r. commas (map expr_tokens list) (sign sign_of.RightParen ∷ r)) (sign_code sign_of.LeftParen) (expr_of.Call v [] name list) _ (expr_tokens-Call v [] name list) (expr_height-Call v [] name list) (omega arith) st refl refl
  call v (a ∷ args) name list st =
      ending v (sign sign_of.Dot ∷ sign sign_of.Less ∷ []) (λ r. commas (map arg_tokens (a ∷ args)) (sign sign_of.Greater ∷ ident name ∷ actuals (map expr_tokens list) r)) dot (expr_of.Call v (a ∷ args) name list) _ (expr_tokens-Call v (a ∷ args) name list) (expr_height-Call v (a ∷ args) name list) (omega arith) st refl refl

  index : (v i : Expr) (r : List Told) → is_expr i ≡ true → Moves Begun Named (sign sign_of.LeftBracket ∷ expr_tokens i (sign sign_of.RightBracket ∷ r)) ts q → Fine ts
  index v i r g p =
      let w = walks_on (sign sign_of.LeftBracket ∷ []) Named Opened (expr_tokens i (sign sign_of.RightBracket ∷ r)) p.flag p.mid q refl p.rest in
      fine_at ts open_bracket (p.same ∙ w.same ∙ index_ends w.mid (starts i (sign sign_of.RightBracket ∷ r) w.flag w.mid q g w.rest)) refl

  class_literal : (ty : TypeTree) → Goal (expr_of.ClassLiteral ty)
  unfolding Goal
  class_literal ty le st r s =
      ⊎_elim
      (λ (y : Typed (sign sign_of.Dot ∷ key key_of.Class ∷ r) ts q). inr (dotted y.state y.is_end y.moves))
      (λ z. absurd (false≢true (sym z.1 ∙ bare (shaped (expr_of.ClassLiteral ty) _ (expr_shape-ClassLiteral ty) st))))
      (type_move ty (sign sign_of.Dot ∷ key key_of.Class ∷ r) b ts q (subst (λ (l : List Told). Takes b l ts q) (expr_tokens-ClassLiteral ty r) s))
    where
      dotted : (z : State) → (z ≡ Named) ⊎ (z ≡ Dimmed) → Moves Begun z (sign sign_of.Dot ∷ key key_of.Class ∷ r) ts q → Fine ts
      dotted z h p =
          ⊎_elim
          (λ e. let w = subst (λ (y : State). Moves Begun y (sign sign_of.Dot ∷ key key_of.Class ∷ r) ts q) e p in
          fine_at ts dot (w.same ∙ walks_end (sign sign_of.Dot ∷ key key_of.Class ∷ []) Named dot r w.flag w.mid q refl w.rest) refl)
          (λ e. let w = subst (λ (y : State). Moves Begun y (sign sign_of.Dot ∷ key key_of.Class ∷ r) ts q) e p in
          fine_at ts dot (w.same ∙ walks_end (sign sign_of.Dot ∷ []) Dimmed dot (key key_of.Class ∷ r) w.flag w.mid q refl w.rest) refl) h

      bare : (is_bare ty && true) ≡ true → is_bare ty ≡ true
      bare g = (and_parts (is_bare ty) true g).0

  node : (l : Layer) → ((plain_layer l ≡ true) ⊎ (special_layer l ≡ true)) ⊎ ((select_layer l ≡ true) ⊎ (postfix_layer l ≡ true)) → Goal (roll-Expr l)
  unfolding Goal
  node (Expr-F.Literal at value) w = rolled (sym (expr_of.rolls-Literal at value)) (first (told (literal_kind value) (Some at) ∷ []) (λ r. r) other (expr_of.Literal at value) (expr_tokens-Literal at value) (walk_first (told (literal_kind value) (Some at)) (literal_other value)) refl)
  node (Expr-F.This at) w = rolled (sym (expr_of.rolls-This at)) (first (key_at key_of.This at ∷ []) (λ r. r) other (expr_of.This at) (expr_tokens-This at) refl refl)
  node (Expr-F.SuperField at name) w = rolled (sym (expr_of.rolls-SuperField at name)) (first (key_at key_of.Super at ∷ []) (λ r. sign sign_of.Dot ∷ ident name ∷ r) other (expr_of.SuperField at name) (expr_tokens-SuperField at name) refl refl)
  node (Expr-F.SuperCall at args name list) w = rolled (sym (expr_of.rolls-SuperCall at args name list)) (first (key_at key_of.Super at ∷ []) (λ r. sign sign_of.Dot ∷ args_tokens args (ident name ∷ actuals (map expr_tokens list) r)) other (expr_of.SuperCall at args name list) (expr_tokens-SuperCall at args name list) refl refl)
  node (Expr-F.Name name) w = rolled (sym (expr_of.rolls-Name name)) (λ le st r s.
      inl (record { moves = walks_on (ident name ∷ []) Begun Named r b ts q refl (subst (λ (l : List Told). Takes b l ts q) (expr_tokens-Name name r) s); mild = ap (λ (z : Shape). z.effect) (expr_shape-Name name) }))
  node (Expr-F.Invoke name list) w = rolled (sym (expr_of.rolls-Invoke name list)) (first (ident name ∷ sign sign_of.LeftParen ∷ []) (λ r. commas (map expr_tokens list) (sign sign_of.RightParen ∷ r)) (sign_code sign_of.LeftParen) (expr_of.Invoke name list) (expr_tokens-Invoke name list) refl refl)
  node (Expr-F.New at c) w = rolled (sym (expr_of.rolls-New at c)) (first (key_at key_of.New at ∷ []) (λ r. creation_tokens c r) other (expr_of.New at c) (expr_tokens-New at c) refl refl)
  node (Expr-F.VoidLiteral at) w = rolled (sym (expr_of.rolls-VoidLiteral at)) (first (key_at key_of.Void at ∷ []) (λ r. sign sign_of.Dot ∷ key key_of.Class ∷ r) other (expr_of.VoidLiteral at) (expr_tokens-VoidLiteral at) refl refl)
  node (Expr-F.OuterThis name more) w = rolled (sym (expr_of.rolls-OuterThis name more)) (λ le st r s.
      let p = walks_on (ident name ∷ []) Begun Named (names_after more (sign sign_of.Dot ∷ key key_of.This ∷ r)) b ts q refl (subst (λ (l : List Told). Takes b l ts q) (expr_tokens-OuterThis name more r) s) in
      inr (ends_behind (sign sign_of.Dot ∷ key key_of.This ∷ []) r ts q dot (then_moves p (names_move more (sign sign_of.Dot ∷ key key_of.This ∷ r) p.flag p.mid q p.rest)) refl refl))
  node (Expr-F.ClassLiteral ty) w = rolled (sym (expr_of.rolls-ClassLiteral ty)) (class_literal ty)
  node (Expr-F.Paren at inner) w = rolled (sym (expr_of.rolls-Paren at inner)) (first (sign_at sign_of.LeftParen at ∷ []) (λ r. expr_tokens inner (sign sign_of.RightParen ∷ r)) other (expr_of.Paren at inner) (expr_tokens-Paren at inner) refl refl)
  node (Expr-F.Field v name) w = rolled (sym (expr_of.rolls-Field v name)) (behind v (sign sign_of.Dot ∷ ident name ∷ []) (λ r. r) (expr_of.Field v name) _ (expr_tokens-Field v name) (expr_height-Field v name) (omega arith)
      (λ st. prime_is_post (expr_shape v) (and_parts (stands prime_level (expr_shape v)) true (shaped (expr_of.Field v name) _ (expr_shape-Field v name) st)).0)
      (λ r st p. inl (record { moves = then_moves p (walks_on (sign sign_of.Dot ∷ ident name ∷ []) Named Named r p.flag p.mid q refl p.rest); mild = ap (λ (z : Shape). z.effect) (expr_shape-Field v name) })))
  node (Expr-F.Call v args name list) w = rolled (sym (expr_of.rolls-Call v args name list)) (call v args name list
      (λ st. prime_is_post (expr_shape v) (and_parts (stands prime_level (expr_shape v)) (all_stand any_level (map expr_shape list)) (and_parts (stands prime_level (expr_shape v) && all_stand any_level (map expr_shape list)) true (shaped (expr_of.Call v args name list) _ (expr_shape-Call v args name list) st)).0).0))
  node (Expr-F.Index v i) w = rolled (sym (expr_of.rolls-Index v i)) (behind v (sign sign_of.LeftBracket ∷ []) (λ r. expr_tokens i (sign sign_of.RightBracket ∷ r)) (expr_of.Index v i) _ (expr_tokens-Index v i) (expr_height-Index v i) (omega arith)
      (λ st. prime_is_post (expr_shape v) (and_parts (stands prime_level (expr_shape v)) (not (expr_shape v).sized) (and_parts (stands prime_level (expr_shape v) && not (expr_shape v).sized) (stands any_level (expr_shape i))
      (and_parts ((stands prime_level (expr_shape v) && not (expr_shape v).sized) && stands any_level (expr_shape i)) true (shaped (expr_of.Index v i) _ (expr_shape-Index v i) st)).0).0).0)
      (λ r st p. inr (index v i r (and_parts (stands prime_level (expr_shape v) && not (expr_shape v).sized) (stands any_level (expr_shape i))
      (and_parts ((stands prime_level (expr_shape v) && not (expr_shape v).sized) && stands any_level (expr_shape i)) true (shaped (expr_of.Index v i) _ (expr_shape-Index v i) st)).0).1 p)))
  node (Expr-F.InnerNew v c) w = rolled (sym (expr_of.rolls-InnerNew v c)) (ending v (sign sign_of.Dot ∷ key key_of.New ∷ []) (λ r. creation_tokens c r) dot (expr_of.InnerNew v c) _ (expr_tokens-InnerNew v c) (expr_height-InnerNew v c) (omega arith)
      (λ st. prime_is_post (expr_shape v) (and_parts (stands prime_level (expr_shape v)) (creation_shape c).good (and_parts (stands prime_level (expr_shape v) && (creation_shape c).good) true (shaped (expr_of.InnerNew v c) _ (expr_shape-InnerNew v c) st)).0).0) refl refl)
  node (Expr-F.Postfix v op) w = rolled (sym (expr_of.rolls-Postfix v op)) (ending v (sign (postfix_sign op) ∷ []) (λ r. r) (postfix_walk op).0 (expr_of.Postfix v op) _ (expr_tokens-Postfix v op) (expr_height-Postfix v op) (omega arith)
      (λ st. (and_parts (stands post_level (expr_shape v)) true (shaped (expr_of.Postfix v op) _ (expr_shape-Postfix v op) st)).0) (postfix_walk op).1 (postfix_walk op).2)
  node (Expr-F.Assign target op value) w = absurd (none w)
  node (Expr-F.Conditional test then otherwise) w = absurd (none w)
  node (Expr-F.Chain head rest) w = absurd (none w)
  node (Expr-F.Prefix head more operand) w = absurd (none w)
  node (Expr-F.Cast at ty operand) w = absurd (none w)

module _ (starts : (i : Expr) (r : List Told) (c : Bool) (us z : List Token) → is_expr i ≡ true → Takes c (expr_tokens i r) us z → one_of expr_codes us ≡ true) where
  out_of : (n : ℕ) (b : Bool) (ts q : List Token) (e : Expr) → expr_height e ≤ n → stands post_level (expr_shape e) ≡ true → (r : List Told) → Takes b (expr_tokens e r) ts q → Out e r ts q
  unfolding Goal
  out_of zero b ts q e le st r s = absurd (false≢true (sym (expr_tall e) ∙ le-leb (expr_height e) 0 le))
  out_of (suc n) b ts q e le st r s =
      let g = node n b ts q (out_of n b ts q) starts (out-Expr e) (kind_of_post e st) in
      subst (λ (d : Expr). Goal n b ts q (out_of n b ts q) starts d) (roll-out-Expr e) g le st r s

  assign_walk : (op : AssignOp) (r : List Told) → (d : List Told) × (x : List Told) × (c : ℕ) × (assign_tokens op r ≡ d ++ x) × (walk d Named ≡ Ends c) × (is_in type_ends c ≡ false)
  assign_walk assign_of.Plain r = (sign sign_of.Assign ∷ [], r, sign_code sign_of.Assign, refl, refl, refl)
  assign_walk assign_of.Plus r = (sign sign_of.PlusAssign ∷ [], r, sign_code sign_of.PlusAssign, refl, refl, refl)
  assign_walk assign_of.Minus r = (sign sign_of.MinusAssign ∷ [], r, sign_code sign_of.MinusAssign, refl, refl, refl)
  assign_walk assign_of.Times r = (sign sign_of.StarAssign ∷ [], r, sign_code sign_of.StarAssign, refl, refl, refl)
  assign_walk assign_of.Divide r = (sign sign_of.SlashAssign ∷ [], r, sign_code sign_of.SlashAssign, refl, refl, refl)
  assign_walk assign_of.Remainder r = (sign sign_of.PercentAssign ∷ [], r, sign_code sign_of.PercentAssign, refl, refl, refl)
  assign_walk assign_of.And r = (sign sign_of.AndAssign ∷ [], r, sign_code sign_of.AndAssign, refl, refl, refl)
  assign_walk assign_of.Or r = (sign sign_of.OrAssign ∷ [], r, sign_code sign_of.OrAssign, refl, refl, refl)
  assign_walk assign_of.Xor r = (sign sign_of.CaretAssign ∷ [], r, sign_code sign_of.CaretAssign, refl, refl, refl)
  assign_walk assign_of.ShiftLeft r = (sign sign_of.ShiftLeftAssign ∷ [], r, sign_code sign_of.ShiftLeftAssign, refl, refl, refl)
  assign_walk assign_of.ShiftRight r = (opening true ∷ [], inner ∷ sign sign_of.Assign ∷ r, sign_code sign_of.Greater, refl, refl, refl)
  assign_walk assign_of.ShiftRightZero r = (opening true ∷ [], inner ∷ inner ∷ sign sign_of.Assign ∷ r, sign_code sign_of.Greater, refl, refl, refl)

  prefix_other : (p : PrefixSign) → step Begun (sign_code (prefix_sign p)) ≡ Ends other
  prefix_other prefix_of.Plus = refl
  prefix_other prefix_of.Minus = refl
  prefix_other prefix_of.Increment = refl
  prefix_other prefix_of.Decrement = refl
  prefix_other prefix_of.Not = refl
  prefix_other prefix_of.Complement = refl

  fine_assign : (ts q : List Token) (e : Expr) → IsAssign e → is_expr e ≡ true → Takes false (expr_tokens e []) ts q → Fine ts
  fine_assign ts q e w g s =
      let x = expr_of.Assign w.target w.op w.value in
      let st = (and_parts (stands post_level (expr_shape w.target)) (stands any_level (expr_shape w.value)) (and_parts (stands post_level (expr_shape w.target) && stands any_level (expr_shape w.value)) true
      (subst (λ (z : Shape). stands any_level z ≡ true) (expr_shape-Assign w.target w.op w.value) (subst (λ (y : Expr). is_expr y ≡ true) (sym w.is_it) g))).0).0 in
      let t = subst (λ (l : List Told). Takes false l ts q) (ap (λ (y : Expr). expr_tokens y []) (sym w.is_it) ∙ expr_tokens-Assign w.target w.op w.value []) s in
      let a = assign_walk w.op (expr_tokens w.value []) in
      let o = out_of (expr_height w.target) false ts q w.target (omega arith) st (assign_tokens w.op (expr_tokens w.value [])) t in
      ⊎_elim (λ c. ends_behind a.0 a.1 ts q a.2 (subst (λ (l : List Told). Moves Begun Named l ts q) a.3 c.moves) a.4 a.5) (λ k. k) o

  fine_prefix : (ts q : List Token) (e : Expr) → IsPrefix e → Takes false (expr_tokens e []) ts q → Fine ts
  fine_prefix ts q e w s =
      let d = sign_at (prefix_sign w.first.sign) w.first.at in
      let t = subst (λ (l : List Told). Takes false l ts q) (ap (λ (y : Expr). expr_tokens y []) (sym w.is_it) ∙ expr_tokens-Prefix w.first w.more w.operand []) s in
      fine_at ts other (walks_end (d ∷ []) Begun other (prefix_tokens w.more (expr_tokens w.operand [])) false ts q (walk_first d (prefix_other w.first.sign)) t) refl

  fine_effect : (ts q : List Token) (e : Expr) → is_expr e ≡ true → is_effect e ≡ true → Takes false (expr_tokens e []) ts q → Fine ts
  fine_effect ts q e g k s =
      ⊎_elim (λ (w : IsAssign e). fine_assign ts q e w g s)
      (λ (o : IsPrefix e ⊎ (stands 14 (expr_shape e) ≡ true)).
      ⊎_elim (λ (w : IsPrefix e). fine_prefix ts q e w s)
      (λ (st : stands 14 (expr_shape e) ≡ true). ⊎_elim (λ c. absurd (false≢true (sym c.mild ∙ k))) (λ f. f) (out_of (expr_height e) false ts q e (omega arith) st [] s)) o)
      (effect_kinds e g k)

  -- a type and a word behind it, where an expression stands that may be a statement
  pub no_type_and_word : (ts q : List Token) (e : Expr) (r : List Token) (ty : TypeTree) → is_expr e ≡ true → is_effect e ≡ true → Takes false (expr_tokens e []) ts r → Takes false (type_tokens ty []) ts q → one_of (word_code ∷ []) q ≡ true → ⊥
  no_type_and_word ts q e r ty g k s t w = false≢true (sym (fine_effect ts r e g k s) ∙ type_scan ty ts q t w)
