-- What stands behind the head of a member, and the first statement of a constructor.
use Rattle.std.proofs.Common.{◌≡◌, ◌==◌, ℕ, Bool, true, false, cond, List, [], ◌∷◌, length, Option, Some, refl, sym, ap, ◌∙◌, arith}
use Rattle.std.proofs.lemmas.Bool.{cond-true, cond-false}
use Rattle.jc_lexer.specs.declared.token.Key.TheVariants as key_of
use Rattle.jc_lexer.specs.declared.token.Sign.TheVariants as sign_of
use Rattle.jc_lexer.specs.declared.token.Token.{Token}
use Rattle.jc_tree.specs.declared.expression.Expr.{Expr}
use Rattle.jc_tree.specs.declared.statement.Member.TheVariants as member_of
use Rattle.jc_tree.specs.declared.statement.Member.{Member}
use Rattle.jc_tree.specs.declared.statement.MethodHead.{MethodHead}
use Rattle.jc_tree.specs.declared.statement.Modifier.{Modifier}
use Rattle.jc_tree.specs.declared.statement.Stmt.{Stmt}
use Rattle.jc_tree.specs.declared.statement.Stmt.TheVariants as stmt_of
use Rattle.jc_reading.specs.declared.reading.Halt.{Halt}
use Rattle.jc_reading.specs.declared.reading.Halt.TheVariants as halt_of
use Rattle.jc_reading.specs.Giving.{Halts}
use Rattle.jc_reading.specs.Kinds.{key_code, kind_code, one_of, sign_code}
use Rattle.jc_reading.specs.Reading.{Read, Found, Stopped, Run, Either, This, That, any_number, as_new, at_kind, becoming, before_it, behind_it, commas_run, in_turn, joined, noting, of_kind, perhaps, ◌>>=◌}
use Rattle.jc_reading.specs.Further.{by_second, either_one, past, second_is}
use Rattle.jc_expr_laws.specs.ExprReading.{exprs}
use Rattle.jc_unit_laws.specs.UnitReading.{Braces, braced_run, expr_in_run, semicolon_run}
use Rattle.jc_unit_laws.specs.MemberReading.{Actuals, actuals_run, constructor_items, constructor_items_run, first_run, item_run, levels, or_no_actuals, paren_codes, super_made, super_run, this_made, this_run}
use Rattle.jc_parse_heads.specs.MemberCode.{MethodEnd, actual_list, actual_list_run, between, code_head_run, constructor_end, constructor_end_run, constructor_list, constructor_list_run, ended_actuals_run, finish, first_ended_run, first_items_run, first_row_run, method_end, method_end_run, method_items, method_items_run, no_items_run, no_statements_run, some_exprs_run, super_or_item_run}
use Rattle.jc_parse_nodes.specs.Nodes.{method_member, with_head}
use Rattle.jc_parse_heads.specs.UnitCode.{braced_items_run, braces_list, coded_member_run, listed}
use Rattle.jc_parse_nodes.specs.declared.heads.MemberHead.{MemberHead}
use Rattle.jc_parse_nodes.specs.declared.heads.MemberHead.TheVariants as head_of
use Rattle.jc_parse_heads.proofs.Codings.{coded_is, finish_noting}
use Rattle.jc_parse_heads.proofs.Joinings.{either_this, either_that, first_made, grouped, second_made, second_same, split_behind, split_here}
use Rattle.jc_parse_expr.proofs.PairSteps.{remade}

-- the head, and what stands behind it

pub finish_halts : (h : ℕ) (m : Read MemberHead) (e : Halt) → Halts e m → Halts e (finish h m)
finish_halts h m (halt_of.Stopped l) g = ap (finish h) g
finish_halts h m halt_of.WantOfMemory g = tt

pub coded_goes : (h l : ℕ) (ms : List Modifier) (q : List Token) → noting l (coded_member_run h ms q) ≡ finish h (noting l (becoming (with_head ms) (code_head_run h q)))
coded_goes h l ms q = ap (noting l) (coded_is h ms q) ∙ finish_noting h l (becoming (with_head ms) (code_head_run h q))

end_same : (head : MethodHead) (m : Read MethodEnd) → becoming (method_end head) m ≡ becoming (method_member head) (becoming method_items m)
end_same head (Found (This b) r l) = refl
end_same head (Found (That u) r l) = refl
end_same head (Stopped l) = refl

pub method_goes_on : (h : ℕ) (head : MethodHead) (r : List Token) (l : ℕ) → finish h (Found (head_of.Method head) r l) ≡ noting l (becoming (method_member head) (method_items_run h r))
unfolding method_items_run
method_goes_on h head r l = ap (noting l) (end_same head (method_end_run h r))

abbrev pub constructor_of : MethodHead → List Stmt → Member
constructor_of head items = member_of.Method head items

module _ (h : ℕ) (ts : List Token) where
  list_same : as_new constructor_list (constructor_end_run h) ts ≡ constructor_list_run h ts
  unfolding constructor_list_run first_items_run
  list_same = second_made constructor_list constructor_items behind_it (λ a b. refl) (of_kind (sign_code sign_of.LeftBrace)) (constructor_items_run exprs h (levels exprs h)) ts

  pub items_braces : one_of (sign_code sign_of.LeftBrace ∷ []) ts ≡ true → method_items_run h ts ≡ becoming Some (braced_items_run h ts)
  unfolding method_items_run braced_items_run
  items_braces e =
      either_this method_items (sign_code sign_of.LeftBrace ∷ []) (braced_run (levels exprs h).item) semicolon_run ts e
      ∙ sym (remade braces_list Some (λ (b : Braces Stmt). Some b.1.0) (braced_run (levels exprs h).item ts) (λ a. refl))

  pub items_none : one_of (sign_code sign_of.LeftBrace ∷ []) ts ≡ false → method_items_run h ts ≡ no_items_run ts
  unfolding method_items_run no_items_run
  items_none e = either_that method_items (sign_code sign_of.LeftBrace ∷ []) (braced_run (levels exprs h).item) semicolon_run ts e

  abbrev Close : Run (Unit {0})
  Close = of_kind (sign_code sign_of.RightBrace)

  abbrev Whole : Run (Stmt × (List Stmt × Unit {0}))
  Whole = in_turn (levels exprs h).first (in_turn (any_number (levels exprs h).item) Close)

  pub first_closes : one_of (sign_code sign_of.RightBrace ∷ []) ts ≡ true → first_items_run h ts ≡ no_statements_run ts
  unfolding first_items_run no_statements_run constructor_items_run
  first_closes e = either_this constructor_items (sign_code sign_of.RightBrace ∷ []) Close Whole ts e

  pub first_goes : one_of (sign_code sign_of.RightBrace ∷ []) ts ≡ false → first_items_run h ts ≡ first_ended_run h ts
  unfolding first_items_run first_ended_run first_row_run constructor_items_run
  first_goes e =
      either_that constructor_items (sign_code sign_of.RightBrace ∷ []) Close Whole ts e
      ∙ grouped _ _ Close _ (λ p. constructor_items (That p)) listed before_it (split_behind (levels exprs h).first _ _ Close _ (split_here (any_number (levels exprs h).item) Close)) (λ d c. refl) ts

pub constructor_goes_on : (h : ℕ) (head : MethodHead) (r : List Token) (l : ℕ) → finish h (Found (head_of.Constructor head) r l) ≡ noting l (becoming (constructor_of head) (constructor_list_run h r))
constructor_goes_on h head r l =
    ap (noting l) (sym (remade constructor_list (constructor_of head) (constructor_end head) (constructor_end_run h r) (λ p. refl)) ∙ ap (becoming (constructor_of head)) (list_same h r))

-- by the first two tokens

module _ {A : Type 0} (code : ℕ) (codes : List ℕ) (m n : Run A) where
  this_same : (v : Read A) → becoming either_one (becoming {A = A} {B = Either A A} This v) ≡ v
  this_same (Found a r l) = refl
  this_same (Stopped l) = refl

  that_same : (v : Read A) → becoming either_one (becoming {A = A} {B = Either A A} That v) ≡ v
  that_same (Found a r l) = refl
  that_same (Stopped l) = refl

  second_this : (ts : List Token) → second_is code codes ts ≡ true → as_new either_one (by_second code codes m n) ts ≡ m ts
  second_this ts e = ap (becoming either_one) (cond-true (second_is code codes ts) (becoming This (m ts)) (past code ts (becoming That (n ts))) e) ∙ this_same (m ts)

  past_same : (ts : List Token) (v : Read A) → becoming either_one (past code ts (becoming {A = A} {B = Either A A} That v)) ≡ past code ts v
  past_same [] v = that_same v
  past_same (t ∷ ts) v = by_kind (kind_code t.kind == code) v
    where
      by_kind : (b : Bool) (v : Read A) → becoming either_one (cond b (noting (length ts) (becoming {A = A} {B = Either A A} That v)) (becoming That v)) ≡ cond b (noting (length ts) v) v
      by_kind true (Found a r l) = refl
      by_kind true (Stopped l) = refl
      by_kind false v = that_same v

  second_that : (ts : List Token) → second_is code codes ts ≡ false → as_new either_one (by_second code codes m n) ts ≡ past code ts (n ts)
  second_that ts e = ap (becoming either_one) (cond-false (second_is code codes ts) (becoming This (m ts)) (past code ts (becoming That (n ts))) e) ∙ past_same ts (n ts)

module _ (h : ℕ) (ts : List Token) where
  pub first_this : second_is (key_code key_of.This) paren_codes ts ≡ true → first_run exprs h (levels exprs h) ts ≡ this_run exprs h (levels exprs h) ts
  unfolding first_run super_or_item_run
  first_this e = second_this (key_code key_of.This) paren_codes (this_run exprs h (levels exprs h)) (super_or_item_run h) ts e

  pub first_other : second_is (key_code key_of.This) paren_codes ts ≡ false → first_run exprs h (levels exprs h) ts ≡ past (key_code key_of.This) ts (super_or_item_run h ts)
  unfolding first_run super_or_item_run
  first_other e = second_that (key_code key_of.This) paren_codes (this_run exprs h (levels exprs h)) (super_or_item_run h) ts e

  pub super_there : second_is (key_code key_of.Super) paren_codes ts ≡ true → super_or_item_run h ts ≡ super_run exprs h (levels exprs h) ts
  unfolding super_or_item_run
  super_there e = second_this (key_code key_of.Super) paren_codes (super_run exprs h (levels exprs h)) (item_run exprs h (levels exprs h)) ts e

  pub item_there : second_is (key_code key_of.Super) paren_codes ts ≡ false → super_or_item_run h ts ≡ past (key_code key_of.Super) ts (item_run exprs h (levels exprs h) ts)
  unfolding super_or_item_run
  item_there e = second_that (key_code key_of.Super) paren_codes (super_run exprs h (levels exprs h)) (item_run exprs h (levels exprs h)) ts e

-- calls of other constructors

abbrev pub this_node : (ℕ × List Expr) → Stmt
this_node p = stmt_of.ThisCall p.0 p.1

abbrev pub super_node : (ℕ × List Expr) → Stmt
super_node p = stmt_of.SuperCall p.0 p.1

module _ (h : ℕ) where
  abbrev Acts : Run Actuals
  Acts = actuals_run exprs h (levels exprs h)

  abbrev Some_acts : Run (Option (List Expr))
  Some_acts = perhaps (commas_run (expr_in_run exprs h))

  abbrev End : Run (Unit {0})
  End = of_kind (sign_code sign_of.RightParen)

  abbrev or_none_first : (Option (List Expr) × Unit {0}) → (List Expr × Unit {0})
  or_none_first p = (or_no_actuals p.0, p.1)

  inner_same : (q : List Token) → as_new or_none_first (in_turn Some_acts End) q ≡ in_turn (some_exprs_run h) End q
  unfolding some_exprs_run
  inner_same q = first_made or_none_first or_no_actuals (λ p. p) End (λ a b. refl) Some_acts q ∙ whole (in_turn (as_new or_no_actuals Some_acts) End q)
    where
      whole : (v : Read (List Expr × Unit {0})) → becoming (λ p. p) v ≡ v
      whole (Found a r l) = refl
      whole (Stopped l) = refl

  acts_same : (ts : List Token) → as_new actual_list Acts ts ≡ actual_list_run h ts
  unfolding actual_list_run actuals_run
  acts_same ts =
      second_made actual_list or_none_first between (λ a b. refl) (of_kind (sign_code sign_of.LeftParen)) (in_turn Some_acts End) ts
      ∙ second_same between (of_kind (sign_code sign_of.LeftParen) ts) (as_new or_none_first (in_turn Some_acts End)) (in_turn (some_exprs_run h) End) inner_same

  abbrev ended_made : (Actuals × Unit {0}) → List Expr
  ended_made p = or_no_actuals p.0.1.0

  ended_same : (ts : List Token) → as_new ended_made (in_turn Acts semicolon_run) ts ≡ ended_actuals_run h ts
  unfolding ended_actuals_run
  ended_same ts = first_made ended_made actual_list before_it semicolon_run (λ a b. refl) Acts ts ∙ ap (λ (v : Read (List Expr)). becoming before_it (v >>= (λ a q. becoming (joined a) (semicolon_run q)))) (acts_same ts)

  pub this_is : (ts : List Token) → this_run exprs h (levels exprs h) ts ≡ as_new this_node (in_turn (at_kind (key_code key_of.This)) (ended_actuals_run h)) ts
  unfolding this_run
  this_is ts =
      second_made this_made ended_made this_node (λ a b. refl) (at_kind (key_code key_of.This)) (in_turn Acts semicolon_run) ts
      ∙ second_same this_node (at_kind (key_code key_of.This) ts) (as_new ended_made (in_turn Acts semicolon_run)) (ended_actuals_run h) ended_same

  pub super_is : (ts : List Token) → super_run exprs h (levels exprs h) ts ≡ as_new super_node (in_turn (at_kind (key_code key_of.Super)) (ended_actuals_run h)) ts
  unfolding super_run
  super_is ts =
      second_made super_made ended_made super_node (λ a b. refl) (at_kind (key_code key_of.Super)) (in_turn Acts semicolon_run) ts
      ∙ second_same super_node (at_kind (key_code key_of.Super) ts) (as_new ended_made (in_turn Acts semicolon_run)) (ended_actuals_run h) ended_same
