-- The head of a member leaves no more tokens than there are.
use Rattle.std.proofs.Common.{◌≡◌, ◌==◌, ℕ, zero, suc, ◌≤◌, List, [], ◌∷◌, length, subst, arith}
use Rattle.jc_parse_expr.proofs.PrimeNears.{near_class, near_dims}
use Rattle.jc_parse_parts.proofs.PartInsides.{assigned_inside, type_inside, var_inside}
use Rattle.jc_lexer.specs.declared.token.Key.TheVariants as key_of
use Rattle.jc_lexer.specs.declared.token.Sign.TheVariants as sign_of
use Rattle.jc_lexer.specs.declared.token.Token.{Token}
use Rattle.jc_tree.specs.declared.statement.Modifier.{Modifier}
use Rattle.jc_reading.specs.Kinds.{key_code, kind_code, sign_code, word_code}
use Rattle.jc_reading.specs.Reading.{Read, Found, Stopped, Run, This, That, an_ident_at, as_new, at_kind, becoming, commas_run, each_behind, either, in_turn, noting, of_kind, perhaps}
use Rattle.jc_reading.specs.Further.{either_one, past, roomy_second, second_is, with_room}
use Rattle.jc_parse_type.specs.TypeReading.{class_run, dims_run, type_run}
use Rattle.jc_part_laws.specs.PartReading.{formal_run, formals_run, keyed_run, or_nothing, params_of_run, var_run}
use Rattle.jc_part_laws.proofs.FormalForms.{formals_laws}
use Rattle.jc_part_laws.proofs.PartForms.{params_of_laws}
use Rattle.jc_expr_laws.specs.ExprReading.{exprs}
use Rattle.jc_expr_laws.proofs.ExprWhole.{expr_laws}
use Rattle.jc_unit_laws.specs.UnitReading.{or_others, semicolon_run}
use Rattle.jc_unit_laws.specs.MemberReading.{field_tail_run, paren_codes}
use Rattle.jc_reading.specs.Reach.{Near, Within}
use Rattle.jc_reading.proofs.Nears.{near_as, near_commas, near_each, near_either, near_perhaps, near_picking, near_turn, within_cond}
use Rattle.jc_reading.proofs.Steps.{within_noting}
use Rattle.jc_parse_heads.specs.MemberCode.{code_head_run, constructor_shape_run, fields_run, fields_tail_made, generic_head, generic_shape_run, method_shape, method_shape_run, named_made, named_shape_run, named_signature_run, named_tail_run, plain_head, signature_made, signature_run, tail_made, typed_shape_run, void_shape, void_shape_run}
use Rattle.jc_parse_nodes.specs.Nodes.{typed_shape, with_head}
use Rattle.jc_parse_nodes.specs.declared.heads.MemberHead.{MemberHead}
use Rattle.jc_parse_nodes.specs.declared.heads.Shape.{Shape}
use Rattle.jc_parse_nodes.specs.declared.heads.Shape.TheVariants as shape_of

near_past : {A : Type 0} (code : ℕ) (ts : List Token) (m : Read A) → Within (length ts) m → Within (length ts) (past code ts m)
near_past code [] m w = w
near_past code (t ∷ ts) m w = within_cond (suc (length ts)) (kind_code t.kind == code) (noting (length ts) m) m (within_noting (length ts) (suc (length ts)) m w) w

inside_roomy : {A B : Type 0} (h code : ℕ) (codes : List ℕ) (m : Run A) (n : Run B) → Near m → Near n → Near (roomy_second h code codes m n)
unfolding roomy_second
inside_roomy zero code codes m n v w ts = near_as This m v ts
inside_roomy (suc h) code codes m n v w ts =
    within_cond (length ts) (second_is code codes ts) (becoming This (m ts)) (past code ts (becoming That (n ts))) (near_as This m v ts) (near_past code ts (becoming That (n ts)) (near_as That n w ts))

inside_others : {A : Type 0} (codes : List ℕ) (m n : Run A) → Near m → Near n → Near (or_others codes m n)
inside_others codes m n v w = near_as either_one (either codes m n) (near_either codes m n v w)

throws_inside : (h : ℕ) → Near (keyed_run key_of.Throws (class_run h))
unfolding keyed_run
throws_inside h = near_as or_nothing _ (near_perhaps _ (near_turn (of_kind (key_code key_of.Throws)) (commas_run (class_run h)) (near_picking _) (near_commas (class_run h) (near_class h))))

formals_inside : (h : ℕ) → Near (formals_run (formal_run exprs h))
formals_inside h ts = (formals_laws exprs h expr_laws).within ts

params_of_inside : (h : ℕ) → Near (params_of_run (class_run h))
params_of_inside h ts = (params_of_laws h).within ts

given_inside : (h : ℕ) → Near (perhaps (with_room h (in_turn (of_kind (sign_code sign_of.Assign)) (exprs.init h))))
given_inside h = near_perhaps (with_room h (in_turn (of_kind (sign_code sign_of.Assign)) (exprs.init h))) (assigned_inside h)

module _ (h : ℕ) where
  signature_inside : Near (signature_run h)
  unfolding signature_run
  signature_inside = near_as signature_made _ (near_turn (formals_run (formal_run exprs h)) (keyed_run key_of.Throws (class_run h)) (formals_inside h) (throws_inside h))

  named_inside : Near (named_signature_run h)
  unfolding named_signature_run
  named_inside = near_as named_made _ (near_turn an_ident_at (signature_run h) (near_picking _) signature_inside)

  fields_inside : Near (fields_run h)
  unfolding fields_run field_tail_run
  fields_inside =
      near_as fields_tail_made _ (near_turn dims_run _ near_dims (near_turn (perhaps (with_room h (in_turn (of_kind (sign_code sign_of.Assign)) (exprs.init h)))) (in_turn (each_behind sign_of.Comma (var_run exprs h)) semicolon_run) (given_inside h)
      (near_turn (each_behind sign_of.Comma (var_run exprs h)) semicolon_run (near_each sign_of.Comma (var_run exprs h) (var_inside h)) (near_picking _))))

  tail_inside : Near (named_tail_run h)
  unfolding named_tail_run
  tail_inside = near_as tail_made _ (near_turn an_ident_at (either paren_codes (signature_run h) (fields_run h)) (near_picking _) (near_either paren_codes (signature_run h) (fields_run h) signature_inside fields_inside))

  void_inside : Near (void_shape_run h)
  unfolding void_shape_run
  void_inside = near_as void_shape _ (near_turn (at_kind (key_code key_of.Void)) (named_signature_run h) (near_picking _) named_inside)

  constructor_inside : Near (constructor_shape_run h)
  unfolding constructor_shape_run
  constructor_inside = near_as shape_of.Constructor (named_signature_run h) named_inside

  method_inside : Near (method_shape_run h)
  unfolding method_shape_run
  method_inside = near_as method_shape _ (near_turn (type_run h) (named_signature_run h) (type_inside h) named_inside)

  typed_inside : Near (typed_shape_run h)
  unfolding typed_shape_run
  typed_inside = near_as typed_shape _ (near_turn (type_run h) (named_tail_run h) (type_inside h) tail_inside)

  pick_inside : (n : Run Shape) → Near n → Near (as_new either_one (roomy_second h word_code paren_codes (constructor_shape_run h) n))
  pick_inside n w = near_as either_one (roomy_second h word_code paren_codes (constructor_shape_run h) n) (inside_roomy h word_code paren_codes (constructor_shape_run h) n constructor_inside w)

  generic_inside : Near (generic_shape_run h)
  unfolding generic_shape_run
  generic_inside = inside_others (key_code key_of.Void ∷ []) (void_shape_run h) _ void_inside (pick_inside (method_shape_run h) method_inside)

  plain_inside : Near (named_shape_run h)
  unfolding named_shape_run
  plain_inside = inside_others (key_code key_of.Void ∷ []) (void_shape_run h) _ void_inside (pick_inside (typed_shape_run h) typed_inside)

  pub code_head_inside : Near (code_head_run h)
  unfolding code_head_run
  code_head_inside =
      inside_others (sign_code sign_of.Less ∷ []) (as_new generic_head (in_turn (params_of_run (class_run h)) (generic_shape_run h))) (as_new plain_head (named_shape_run h))
      (near_as generic_head (in_turn (params_of_run (class_run h)) (generic_shape_run h)) (near_turn (params_of_run (class_run h)) (generic_shape_run h) (params_of_inside h) generic_inside))
      (near_as plain_head (named_shape_run h) plain_inside)

-- what is left behind a head with its modifiers

abbrev Leaves : {A : Type 0} → List Token → Read A → Type 0
Leaves q (Found a r l) = length r ≤ length q
Leaves q (Stopped l) = Unit {0}

leaves : {A B : Type 0} (q : List Token) (l : ℕ) (f : A → B) (m : Read A) → Within (length q) m → Leaves q (noting l (becoming f m))
leaves q l f (Found a r k) w = w.1
leaves q l f (Stopped k) w = tt

pub head_leaves : (h l : ℕ) (ms : List Modifier) (q r : List Token) (a : MemberHead) (k : ℕ) → noting l (becoming (with_head ms) (code_head_run h q)) ≡ Found a r k → length r ≤ length q
head_leaves h l ms q r a k e = subst (λ (v : Read MemberHead). Leaves q v) e (leaves q l (with_head ms) (code_head_run h q) (code_head_inside h q))
