-- The forms of array initialisers, and that they are read as they are to be.
use Rattle.std.proofs.Common.{◌≡◌, ℕ, suc, Bool, false, List, [], ◌∷◌, map, refl, sym, ap, ◌∙◌}
use Rattle.std.proofs.lemmas.Bool.{and_left}
use Rattle.std.specs.Prelude.{◌&&◌, nat_le}
use Rattle.jc_lexer.specs.declared.token.Sign.TheVariants as sign_of
use Rattle.jc_tree.specs.declared.expression.Creation.{Creation}
use Rattle.jc_tree.specs.declared.expression.Operand.{Operand}
use Rattle.jc_tree.specs.declared.expression.Expr.{Expr}
use Rattle.jc_tree.specs.declared.expression.Init.{Init, Init-F, out-Init, roll-Init, roll-out-Init}
use Rattle.jc_tree.specs.declared.expression.Init.TheVariants as init_of
use Rattle.jc_tree.specs.declared.expression.ArrayInit.{ArrayInit, out-ArrayInit, roll-out-ArrayInit}
use Rattle.jc_tree.specs.Heights.{most, expr_height, init_height, array_height}
use Rattle.jc_tree.proofs.HeightsOfExpressions.{init_height-Value, init_height-Nested, array_height-made, array_height-parts}
use Rattle.jc_grammar.specs.Told.{Told}
use Rattle.jc_grammar.specs.Expressions.{init_tokens, array_tokens}
use Rattle.jc_grammar.specs.Shapes.{is_init, is_array}
use Rattle.jc_grammar.proofs.ShapesOfExpressions.{is_init-Value, is_init-Nested, is_array-made}
use Rattle.jc_grammar.proofs.TokensOfExpressions.{init_tokens-Value, init_tokens-Nested, array_tokens-made}
use Rattle.jc_reading.specs.Kinds.{sign_code}
use Rattle.jc_reading.specs.Reading.{Run, Either, This, That}
use Rattle.jc_reading.proofs.Forms.{Lawful}
use Rattle.jc_reading.proofs.Signs.{sign_at_laws}
use Rattle.jc_reading.proofs.Rooms.{room_none, room_suc}
use Rattle.jc_part_laws.proofs.AnnotationForms.{room_and, all_mapped}
use Rattle.jc_reading.proofs.Coded.{Coded, formed, in_order, in_order_laws, one_or, made_laws, same_makes}
use Rattle.jc_part_laws.proofs.ExprForms.{expr_codes, whole_goes}
use Rattle.jc_reading.proofs.Lowest.{Law, one_or_law, made_law}
use Rattle.jc_part_laws.proofs.PartForms.{sign_at_form}
use Rattle.jc_part_laws.proofs.Rows.{row, row_laws}
use Rattle.jc_expr_laws.specs.PrimeReading.{init_made, init_run, array_made, array_run}
use Rattle.jc_expr_laws.proofs.PrimeTokens.{any_expr}

abbrev pub array_fits : ℕ → ArrayInit → Bool
array_fits h array = nat_le (array_height array) h && is_array array

-- an array initialiser of height at most h
abbrev pub array_coded : ℕ → Run ArrayInit → Coded ArrayInit
array_coded h run = record { tell = array_tokens; fits = array_fits h; run = run; starts = sign_code sign_of.LeftBrace ∷ []; goes = []; empties = false }

pub array_never : (array : ArrayInit) → array_fits 0 array ≡ false
array_never array = and_left (nat_le (array_height array) 0) (is_array array) (ap (λ n. nat_le n 0) (array_height-parts array) ∙ room_none _)

abbrev pub init_fits : ℕ → Init → Bool
init_fits h i = nat_le (init_height i) h && is_init i

abbrev pub init_coded : ℕ → Run Init → Coded Init
init_coded h run = record { tell = init_tokens; fits = init_fits h; run = run; starts = sign_code sign_of.LeftBrace ∷ expr_codes; goes = whole_goes; empties = false }

module _ (h : ℕ) (expr : Run Expr) (array : Run ArrayInit) where
  abbrev Inits : Coded (Either ArrayInit Expr)
  Inits = one_or (sign_code sign_of.LeftBrace ∷ []) (array_coded h array) (any_expr h expr)

  told_init : (o : Either ArrayInit Expr) (r : List Told) → init_tokens (init_made o) r ≡ Inits.tell o r
  told_init (This a) r = init_tokens-Nested a r
  told_init (That e) r = init_tokens-Value e r

  fit_init : (o : Either ArrayInit Expr) → init_fits h (init_made o) ≡ Inits.fits o
  fit_init (This a) = ap (λ n. nat_le n h && is_init (init_of.Nested a)) (init_height-Nested a) ∙ ap (λ b. nat_le (array_height a) h && b) (is_init-Nested a)
  fit_init (That e) = ap (λ n. nat_le n h && is_init (init_of.Value e)) (init_height-Value e) ∙ ap (λ b. nat_le (expr_height e) h && b) (is_init-Value e)

  back_init : (i : Init) (l : Init-F Creation Expr Init Operand ArrayInit) → out-Init i ≡ l → (o : Either ArrayInit Expr) × (init_made o ≡ i)
  back_init i (Init-F.Value e) q = (That e, sym (init_of.rolls-Value e) ∙ ap roll-Init (sym q) ∙ roll-out-Init i)
  back_init i (Init-F.Nested a) q = (This a, sym (init_of.rolls-Nested a) ∙ ap roll-Init (sym q) ∙ roll-out-Init i)

  pub init_law : Law Expr (any_expr h expr) → Law ArrayInit (array_coded h array) → Law Init (init_coded h (init_run expr array))
  unfolding init_run
  init_law le la =
      made_law (Either ArrayInit Expr) Init Inits init_made init_tokens (init_fits h)
      (one_or_law ArrayInit Expr (sign_code sign_of.LeftBrace ∷ []) (array_coded h array) (any_expr h expr) (record { solid = refl; solid' = refl; this = refl; that = refl }) la le)
      (same_makes (Either ArrayInit Expr) Init Inits init_made init_tokens (init_fits h) (record { told = told_init; fit = fit_init; back = λ i. back_init i (out-Init i) refl }))

module _ (h : ℕ) (init : Run Init) where
  abbrev InitRow : Coded (List Init × Bool)
  InitRow = row sign_of.RightBrace refl Init (init_coded h init)

  abbrev Braced : Coded (ℕ × (List Init × Bool))
  Braced = in_order (sign_at_form sign_of.LeftBrace) InitRow

  fit_array : (p : ℕ × (List Init × Bool)) → array_fits (suc h) (array_made p) ≡ Braced.fits p
  fit_array p =
      ap (λ n. nat_le n (suc h) && is_array (array_made p)) (array_height-made p.0 p.1.0 p.1.1)
      ∙ ap (λ b. b && is_array (array_made p)) (room_suc (most (map init_height p.1.0)) h)
      ∙ ap (λ b. nat_le (most (map init_height p.1.0)) h && b) (is_array-made p.0 p.1.0 p.1.1 ∙ all_mapped is_init p.1.0)
      ∙ room_and init_height is_init h p.1.0

  -- an array initialiser one higher than its parts
  pub array_next : Law Init (init_coded h init) → Lawful ArrayInit (formed (array_coded (suc h) (array_run init)))
  unfolding array_run
  array_next l =
      made_laws (ℕ × (List Init × Bool)) ArrayInit Braced array_made array_tokens (array_fits (suc h))
      (in_order_laws ℕ (List Init × Bool) (sign_at_form sign_of.LeftBrace) InitRow (sign_at_laws sign_of.LeftBrace)
      (row_laws sign_of.RightBrace refl Init (init_coded h init) l (record { solid = refl; not_end = refl; stops = refl }) refl) refl)
      (same_makes (ℕ × (List Init × Bool)) ArrayInit Braced array_made array_tokens (array_fits (suc h))
      (record { told = λ p r. array_tokens-made p.0 p.1.0 p.1.1 r; fit = fit_array; back = λ a. (((out-ArrayInit a).at, ((out-ArrayInit a).inits, (out-ArrayInit a).trailing)), roll-out-ArrayInit a) }))
