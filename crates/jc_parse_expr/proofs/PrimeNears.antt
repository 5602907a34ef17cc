-- Primaries and creations are read near, where expressions and array initialisers are.
use Rattle.std.proofs.Common.{ℕ, zero, suc, Bool, true, false, nat_le, [], ◌∷◌, map, arith}
use Rattle.jc_lexer.specs.declared.token.Key.TheVariants as key_of
use Rattle.jc_lexer.specs.declared.token.Sign.TheVariants as sign_of
use Rattle.jc_tree.specs.declared.types.ClassTree.{ClassTree}
use Rattle.jc_tree.specs.declared.expression.ArrayInit.{ArrayInit}
use Rattle.jc_tree.specs.declared.expression.Expr.{Expr}
use Rattle.jc_tree.specs.declared.expression.Init.{Init}
use Rattle.jc_tree.specs.Heights.{expr_height}
use Rattle.jc_grammar.specs.Shapes.{ends_bare, expr_shape}
use Rattle.jc_reading.specs.Kinds.{sign_code, key_code, word_code}
use Rattle.jc_reading.specs.Reading.{Run, in_turn, perhaps, any_number, either, picking, of_kind, at_kind, an_ident_at, behind_it, That, each_behind, commas_run}
use Rattle.jc_reading.specs.Reach.{Near}
use Rattle.jc_reading.proofs.Nears.{near_as, near_by_value, near_turn, near_perhaps, near_any, near_either, near_picking, near_kind, near_place, near_ident, near_room, near_prefer, near_growing, near_each, near_commas}
use Rattle.jc_parse_type.specs.TypeReading.{dims_run, word_run, picks_word, primitive_codes, class_run, arg_run, type_run}
use Rattle.jc_parse_type.proofs.TypeForms.{dims_laws, arg_laws, class_laws}
use Rattle.jc_parse_type.proofs.CodeSteps.{within_row}
use Rattle.jc_part_laws.specs.PartReading.{more_names_run, which, closing_run, row_made, row_run}
use Rattle.jc_expr_laws.specs.PrimeReading.{actuals_made, actuals_run, picks_literal, literal_codes, picks_skipped, skip_part_made, skip_made, skip_run, init_made, init_run, array_made, array_run, lengths_run, array_tail_run, is_there, at_most_one, diamond_run, body_run, object_run, no_diamond, object_tail_run, class_tail_run, creation_made, creation_run, some_args_run, named_run, member_run, indexed_run, dotted_run, selector_run, selected, selectors_run}
use Rattle.jc_expr_laws.specs.StartReading.{dot_class_run, plain_made, parens_run, keyed_run, plain_run, special_made, class_dims_run, dot_key_run, special_run, which_grown, selecting_run, prime_run}
use Rattle.jc_expr_laws.specs.PostReading.{picks_op, op_run, changed, ops_run, changed_by, post_run}
use Rattle.jc_parse_expr.specs.PrimeCode.{skip_item_run}

pub near_dims : Near dims_run
near_dims = dims_laws.within

near_word : Near word_run
near_word = near_picking picks_word

pub near_class : (h : ℕ) → Near (class_run h)
near_class h = (class_laws h (arg_laws h)).within

pub near_args : (h : ℕ) → Near (commas_run (arg_run h (type_run h)))
near_args h = within_row h

pub near_names : Near more_names_run
unfolding more_names_run
near_names = near_as (map behind_it) (each_behind sign_of.Dot an_ident_at) (near_each sign_of.Dot an_ident_at near_ident)

pub near_dot_class : Near dot_class_run
near_dot_class = near_turn (of_kind (sign_code sign_of.Dot)) (of_kind (key_code key_of.Class)) (near_kind (sign_code sign_of.Dot)) (near_kind (key_code key_of.Class))

-- what is skipped

near_skip_item : (h : ℕ) → Near (skip_run h) → Near (skip_item_run h)
near_skip_item h w = near_as skip_part_made _ (near_either (sign_code sign_of.LeftBrace ∷ []) (skip_run h) (picking picks_skipped) w (near_picking picks_skipped))

near_parts : (h : ℕ) → Near (skip_item_run h) → Near (in_turn (of_kind (sign_code sign_of.LeftBrace)) (in_turn (any_number (skip_item_run h)) (of_kind (sign_code sign_of.RightBrace))))
near_parts h w =
    near_turn (of_kind (sign_code sign_of.LeftBrace)) (in_turn (any_number (skip_item_run h)) (of_kind (sign_code sign_of.RightBrace))) (near_kind (sign_code sign_of.LeftBrace))
    (near_turn (any_number (skip_item_run h)) (of_kind (sign_code sign_of.RightBrace)) (near_any (skip_item_run h) w) (near_kind (sign_code sign_of.RightBrace)))

pub near_skip : (h : ℕ) → Near (skip_run h)
unfolding skip_run
near_skip zero ts = omega arith
near_skip (suc h) ts = near_as skip_made _ (near_parts h (near_skip_item h (near_skip h))) ts

pub near_skipped : (h : ℕ) → Near (skip_item_run h)
near_skipped h = near_skip_item h (near_skip h)

pub near_body : (h : ℕ) → Near (body_run h)
near_body h = near_as at_most_one (perhaps (skip_run h)) (near_perhaps (skip_run h) (near_skip h))

-- class literals and outer `this`

near_class_dims : (h : ℕ) → Near (class_dims_run h)
near_class_dims h =
    near_room h _ (near_turn _ _ (near_turn (of_kind (sign_code sign_of.LeftBracket)) (of_kind (sign_code sign_of.RightBracket)) (near_kind (sign_code sign_of.LeftBracket)) (near_kind (sign_code sign_of.RightBracket)))
    (near_turn dims_run dot_class_run near_dims near_dot_class))

near_dot_key : (h : ℕ) → Near (dot_key_run h)
near_dot_key h =
    near_turn (of_kind (sign_code sign_of.Dot)) _ (near_kind (sign_code sign_of.Dot))
    (near_either (key_code key_of.This ∷ []) (of_kind (key_code key_of.This)) _ (near_kind (key_code key_of.This)) (near_room h (of_kind (key_code key_of.Class)) (near_kind (key_code key_of.Class))))

pub near_special : (h : ℕ) → Near (special_run h)
unfolding special_run
near_special h =
    near_as special_made _ (near_either primitive_codes _ _ (near_room h _ (near_turn word_run _ near_word (near_turn dims_run dot_class_run near_dims near_dot_class)))
    (near_turn an_ident_at _ near_ident (near_turn more_names_run _ near_names (near_either (sign_code sign_of.LeftBracket ∷ []) (class_dims_run h) (dot_key_run h) (near_class_dims h) (near_dot_key h)))))

near_closing : Near (closing_run sign_of.Comma sign_of.RightBrace)
near_closing =
    near_as which _ (near_either (sign_code sign_of.Comma ∷ []) _ _ (near_turn (of_kind (sign_code sign_of.Comma)) (of_kind (sign_code sign_of.RightBrace)) (near_kind (sign_code sign_of.Comma)) (near_kind (sign_code sign_of.RightBrace)))
    (near_kind (sign_code sign_of.RightBrace)))

-- initialisers

pub near_init : (expr : Run Expr) (array : Run ArrayInit) → Near expr → Near array → Near (init_run expr array)
unfolding init_run
near_init expr array e a = near_as init_made _ (near_either (sign_code sign_of.LeftBrace ∷ []) array expr a e)

pub near_row : (init : Run Init) → Near init → Near (row_run sign_of.Comma sign_of.RightBrace init)
near_row init w =
    near_as row_made _ (near_either (sign_code sign_of.Comma ∷ sign_code sign_of.RightBrace ∷ []) (closing_run sign_of.Comma sign_of.RightBrace) _ near_closing
    (near_turn init _ w (near_turn (each_behind sign_of.Comma init) (closing_run sign_of.Comma sign_of.RightBrace) (near_each sign_of.Comma init w) near_closing)))

pub near_array : (init : Run Init) → Near init → Near (array_run init)
unfolding array_run
near_array init w = near_as array_made _ (near_turn (at_kind (sign_code sign_of.LeftBrace)) _ (near_place (sign_code sign_of.LeftBrace)) (near_row init w))

near_op : (room : Bool) → Near (op_run room)
near_op true = near_picking picks_op
near_op false = λ ts. omega arith

pub near_ops : (h : ℕ) (v : Expr) → Near (ops_run h v)
near_ops h v = near_op (nat_le (expr_height v) h)

module _ (h : ℕ) (expr : Run Expr) (array : Run ArrayInit) (e : Near expr) (a : Near array) where
  pub near_actuals : Near (actuals_run expr)
  unfolding actuals_run
  near_actuals =
      near_as actuals_made _ (near_turn (of_kind (sign_code sign_of.LeftParen)) _ (near_kind (sign_code sign_of.LeftParen))
      (near_turn (perhaps (commas_run expr)) (of_kind (sign_code sign_of.RightParen)) (near_perhaps (commas_run expr) (near_commas expr e)) (near_kind (sign_code sign_of.RightParen))))

  -- creations

  pub near_bracketed : Near (in_turn expr (of_kind (sign_code sign_of.RightBracket)))
  near_bracketed = near_turn expr (of_kind (sign_code sign_of.RightBracket)) e (near_kind (sign_code sign_of.RightBracket))

  pub near_lengths : Near (lengths_run expr)
  near_lengths = near_each sign_of.LeftBracket _ near_bracketed

  pub near_array_tail : Near (array_tail_run h expr array)
  near_array_tail =
      near_room h _ (near_turn (of_kind (sign_code sign_of.LeftBracket)) _ (near_kind (sign_code sign_of.LeftBracket))
      (near_either (sign_code sign_of.RightBracket ∷ []) _ _ (near_turn (of_kind (sign_code sign_of.RightBracket)) _ (near_kind (sign_code sign_of.RightBracket)) (near_turn dims_run array near_dims a))
      (near_turn expr _ e (near_turn (of_kind (sign_code sign_of.RightBracket)) _ (near_kind (sign_code sign_of.RightBracket)) (near_turn (lengths_run expr) dims_run near_lengths near_dims)))))

  near_diamond : Near diamond_run
  near_diamond = near_as is_there _ (near_perhaps _ (near_turn (of_kind (sign_code sign_of.Less)) (of_kind (sign_code sign_of.Greater)) (near_kind (sign_code sign_of.Less)) (near_kind (sign_code sign_of.Greater))))

  near_object : Near (object_run h expr)
  near_object = near_turn (actuals_run expr) (body_run h) near_actuals (near_body h)

  near_object_tail : (bare : Bool) → Near (object_tail_run h expr bare)
  near_object_tail true = near_turn diamond_run (object_run h expr) near_diamond near_object
  near_object_tail false = near_as no_diamond (object_run h expr) near_object

  near_class_tail : (class : ClassTree) → Near (class_tail_run h expr array class)
  near_class_tail class = near_either (sign_code sign_of.LeftBracket ∷ []) (array_tail_run h expr array) (object_tail_run h expr (ends_bare class)) near_array_tail (near_object_tail (ends_bare class))

  pub near_creation : Near (creation_run h expr array)
  unfolding creation_run
  near_creation =
      near_as creation_made _ (near_either primitive_codes _ _ (near_room h _ (near_turn word_run (array_tail_run h expr array) near_word near_array_tail))
      (near_by_value (class_run h) (class_tail_run h expr array) (near_class h) near_class_tail))

  -- members and selectors

  near_some_args : Near (some_args_run h)
  near_some_args =
      near_turn (of_kind (sign_code sign_of.Less)) _ (near_kind (sign_code sign_of.Less))
      (near_turn (commas_run (arg_run h (type_run h))) (of_kind (sign_code sign_of.Greater)) (near_args h) (near_kind (sign_code sign_of.Greater)))

  pub near_named : Near (named_run expr)
  near_named = near_turn an_ident_at _ near_ident (near_perhaps (actuals_run expr) near_actuals)

  pub near_member : Near (member_run h expr)
  near_member =
      near_either (sign_code sign_of.Less ∷ []) _ (named_run expr) (near_turn (some_args_run h) _ near_some_args (near_turn an_ident_at (actuals_run expr) near_ident near_actuals)) near_named

  near_indexed : Near (indexed_run h expr)
  near_indexed = near_room h _ (near_turn (of_kind (sign_code sign_of.LeftBracket)) _ (near_kind (sign_code sign_of.LeftBracket)) near_bracketed)

  pub near_dotted_inside : Near (either (key_code key_of.New ∷ []) (in_turn (of_kind (key_code key_of.New)) (creation_run h expr array)) (member_run h expr))
  near_dotted_inside = near_either (key_code key_of.New ∷ []) _ (member_run h expr) (near_turn (of_kind (key_code key_of.New)) (creation_run h expr array) (near_kind (key_code key_of.New)) near_creation) near_member

  near_dotted : Near (dotted_run h expr array)
  near_dotted = near_turn (of_kind (sign_code sign_of.Dot)) _ (near_kind (sign_code sign_of.Dot)) near_dotted_inside

  near_selector : (room sized : Bool) → Near (selector_run h expr array room sized)
  near_selector true false = near_either (sign_code sign_of.LeftBracket ∷ []) (indexed_run h expr) (dotted_run h expr array) near_indexed near_dotted
  near_selector true true = near_as That (dotted_run h expr array) near_dotted
  near_selector false sized = λ ts. omega arith

  pub near_selectors : (v : Expr) → Near (selectors_run h expr array v)
  near_selectors v = near_selector (nat_le (expr_height v) h) (expr_shape v).sized

  -- starts and whole primaries

  near_parens : Near (parens_run h expr)
  near_parens =
      near_room h _ (near_turn (at_kind (sign_code sign_of.LeftParen)) _ (near_place (sign_code sign_of.LeftParen))
      (near_turn expr (of_kind (sign_code sign_of.RightParen)) e (near_kind (sign_code sign_of.RightParen))))

  near_keyed : Near (keyed_run h expr array)
  near_keyed =
      near_either (key_code key_of.Super ∷ []) _ _ (near_turn (at_kind (key_code key_of.Super)) _ (near_place (key_code key_of.Super)) (near_turn (of_kind (sign_code sign_of.Dot)) (member_run h expr) (near_kind (sign_code sign_of.Dot)) near_member))
      (near_either (key_code key_of.New ∷ []) _ _ (near_turn (at_kind (key_code key_of.New)) (creation_run h expr array) (near_place (key_code key_of.New)) near_creation)
      (near_either (key_code key_of.Void ∷ []) _ (parens_run h expr) (near_turn (at_kind (key_code key_of.Void)) dot_class_run (near_place (key_code key_of.Void)) near_dot_class) near_parens))

  pub near_plain : Near (plain_run h expr array)
  unfolding plain_run
  near_plain =
      near_as plain_made _ (near_either (word_code ∷ []) (named_run expr) _ near_named (near_either literal_codes (picking picks_literal) _ (near_picking picks_literal)
      (near_either (key_code key_of.This ∷ []) (at_kind (key_code key_of.This)) (keyed_run h expr array) (near_place (key_code key_of.This)) near_keyed)))

  near_selecting : (first : Run Expr) → Near first → Near (selecting_run h expr array first)
  near_selecting first w = near_growing first selected (selectors_run h expr array) w near_selectors

  pub near_prime : Near (prime_run h expr array)
  unfolding prime_run
  near_prime =
      near_as which_grown _ (near_prefer (selecting_run h expr array (special_run h)) (selecting_run h expr array (plain_run h expr array)) (near_selecting (special_run h) (near_special h))
      (near_selecting (plain_run h expr array) near_plain))

  pub near_post : Near (post_run h expr array)
  unfolding post_run
  near_post = near_as changed_by _ (near_growing (prime_run h expr array) changed (ops_run h) near_prime (near_ops h))
