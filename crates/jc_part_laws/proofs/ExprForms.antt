-- What the parser of units needs of the forms of expressions.
use Rattle.std.proofs.Common.{◌≡◌, ℕ, suc, true, false, List, [], ◌∷◌, ◌++◌, refl, ap, ◌∙◌}
use Rattle.std.proofs.lemmas.Bool.{and_left}
use Rattle.std.specs.Prelude.{◌&&◌, nat_le}
use Rattle.jc_lexer.specs.declared.token.Key.TheVariants as key_of
use Rattle.jc_lexer.specs.declared.token.Sign.TheVariants as sign_of
use Rattle.jc_lexer.specs.declared.token.Token.{Token}
use Rattle.jc_tree.specs.declared.types.TypeTree.{TypeTree}
use Rattle.jc_tree.specs.declared.expression.Creation.{Creation}
use Rattle.jc_tree.specs.declared.expression.ArrayInit.{ArrayInit}
use Rattle.jc_tree.specs.declared.expression.Operand.{Operand}
use Rattle.jc_tree.specs.declared.expression.Expr.{Expr, Expr-F, out-Expr, map-Expr}
use Rattle.jc_tree.specs.declared.expression.Init.{Init, Init-F, out-Init, map-Init}
use Rattle.jc_tree.specs.Heights.{creation_height, effect_height, effect_over, expr_height, init_height, operand_height, array_height, expr_step, init_step}
use Rattle.jc_tree.proofs.HeightsOfExpressions.{expr_height-out, init_height-out, array_height-parts}
use Rattle.jc_grammar.specs.Expressions.{expr_tokens, init_tokens}
use Rattle.jc_grammar.specs.Shapes.{is_expr, is_init}
use Rattle.jc_grammar.specs.Units.{is_conditional, is_statement_expr}
use Rattle.jc_reading.specs.Kinds.{sign_code, key_code, word_code, one_of}
use Rattle.jc_reading.proofs.Forms.{Lawful, Stands}
use Rattle.jc_reading.proofs.Rooms.{room_none, room_max}
use Rattle.jc_part_laws.specs.PartReading.{Exprs}
use Rattle.jc_reading.proofs.Coded.{Coded, formed}
use Rattle.jc_reading.proofs.Lowest.{Law, roomy, roomy_law}
use Rattle.jc_part_laws.proofs.PartForms.{type_coded}

-- where an expression may begin: a word, a literal, a parenthesis, a prefix operator, or one of some keywords
abbrev pub expr_codes : List ℕ
expr_codes =
    word_code ∷ 1 ∷ 2 ∷ 3 ∷ key_code key_of.True ∷ key_code key_of.False ∷ key_code key_of.Null ∷ key_code key_of.This ∷ key_code key_of.Super ∷ key_code key_of.New ∷ key_code key_of.Void
    ∷ key_code key_of.Boolean ∷ key_code key_of.Byte ∷ key_code key_of.Short ∷ key_code key_of.Char ∷ key_code key_of.Int ∷ key_code key_of.Long
    ∷ sign_code sign_of.LeftParen ∷ sign_code sign_of.Plus ∷ sign_code sign_of.Minus ∷ sign_code sign_of.Increment ∷ sign_code sign_of.Decrement ∷ sign_code sign_of.Not ∷ sign_code sign_of.Tilde ∷ []

-- what may go on in one, but for assignments
abbrev pub operator_codes : List ℕ
operator_codes =
    key_code key_of.Instanceof ∷ sign_code sign_of.Equal ∷ sign_code sign_of.LessEqual ∷ sign_code sign_of.NotEqual ∷ sign_code sign_of.AndAnd ∷ sign_code sign_of.OrOr ∷ sign_code sign_of.Increment ∷ sign_code sign_of.Decrement
    ∷ sign_code sign_of.ShiftLeft ∷ sign_code sign_of.Dot ∷ sign_code sign_of.LeftParen ∷ sign_code sign_of.LeftBrace ∷ sign_code sign_of.LeftBracket ∷ sign_code sign_of.Less ∷ sign_code sign_of.Greater ∷ sign_code sign_of.Plus ∷ sign_code sign_of.Minus
    ∷ sign_code sign_of.Star ∷ sign_code sign_of.Slash ∷ sign_code sign_of.And ∷ sign_code sign_of.Or ∷ sign_code sign_of.Question ∷ sign_code sign_of.Percent ∷ sign_code sign_of.Caret ∷ []

abbrev pub assign_codes : List ℕ
assign_codes =
    sign_code sign_of.Assign ∷ sign_code sign_of.ShiftLeftAssign ∷ sign_code sign_of.PlusAssign ∷ sign_code sign_of.MinusAssign ∷ sign_code sign_of.StarAssign ∷ sign_code sign_of.SlashAssign ∷ sign_code sign_of.AndAssign
    ∷ sign_code sign_of.OrAssign ∷ sign_code sign_of.CaretAssign ∷ sign_code sign_of.PercentAssign ∷ operator_codes

-- where an expression may begin that is no chain of prefix operators
abbrev pub bare_codes : List ℕ
bare_codes =
    word_code ∷ 1 ∷ 2 ∷ 3 ∷ key_code key_of.True ∷ key_code key_of.False ∷ key_code key_of.Null ∷ key_code key_of.This ∷ key_code key_of.Super ∷ key_code key_of.New ∷ key_code key_of.Void
    ∷ key_code key_of.Boolean ∷ key_code key_of.Byte ∷ key_code key_of.Short ∷ key_code key_of.Char ∷ key_code key_of.Int ∷ key_code key_of.Long ∷ sign_code sign_of.LeftParen ∷ []

-- where what stands behind a cast to a class may begin
abbrev pub plain_codes : List ℕ
plain_codes = sign_code sign_of.Not ∷ sign_code sign_of.Tilde ∷ bare_codes

-- what may go on in any expression: an operator, or what stands behind a type in parentheses, which is a cast then
abbrev pub whole_goes : List ℕ
whole_goes = assign_codes ++ plain_codes

abbrev pub conditional_goes : List ℕ
conditional_goes = operator_codes ++ plain_codes

module _ (x : Exprs) where
  abbrev pub expr_coded : ℕ → Coded Expr
  expr_coded h = record { tell = expr_tokens; fits = λ e. nat_le (expr_height e) h && is_expr e; run = x.expr h; starts = expr_codes; goes = whole_goes; empties = false }

  abbrev pub conditional_coded : ℕ → Coded Expr
  conditional_coded h = record { tell = expr_tokens; fits = λ e. nat_le (expr_height e) h && is_conditional e; run = x.conditional h; starts = expr_codes; goes = conditional_goes; empties = false }

  abbrev pub effect_coded : ℕ → Coded Expr
  effect_coded h = record { tell = expr_tokens; fits = λ e. nat_le (effect_height e) h && is_statement_expr e; run = x.effect h; starts = expr_codes; goes = whole_goes; empties = false }

  abbrev pub init_coded : ℕ → Coded Init
  init_coded h = record { tell = init_tokens; fits = λ i. nat_le (init_height i) h && is_init i; run = x.init h; starts = sign_code sign_of.LeftBrace ∷ expr_codes; goes = whole_goes; empties = false }

  pub record ExprLaws : Type 0 where
    pub expr : (h : ℕ) → Lawful Expr (formed (expr_coded (suc h)))
    pub conditional : (h : ℕ) → Lawful Expr (formed (conditional_coded (suc h)))
    pub effect : (h : ℕ) → Lawful Expr (formed (effect_coded (suc h)))
    pub init : (h : ℕ) → Lawful Init (formed (init_coded (suc h)))
    -- behind a type that stands where an effect does there is no word
    pub effect_or_type : (h : ℕ) (ts : List Token) (e : Expr) (r : List Token) (ty : TypeTree) (q : List Token) → Stands (formed (effect_coded (suc h))) ts e r → Stands (formed (type_coded (suc h))) ts ty q → one_of (word_code ∷ []) q ≡ true → ⊥

-- each expression has a height

tall : (l : Expr-F Creation Expr Init Operand ArrayInit) → (n : ℕ) × (expr_step (map-Expr Creation Expr Init Operand ArrayInit ℕ ℕ ℕ ℕ ℕ creation_height expr_height init_height operand_height array_height l) ≡ suc n)
tall (Expr-F.Assign target op value) = (_, refl)
tall (Expr-F.Conditional test then otherwise) = (_, refl)
tall (Expr-F.Chain first rest) = (_, refl)
tall (Expr-F.Prefix first more operand) = (_, refl)
tall (Expr-F.Cast at ty operand) = (_, refl)
tall (Expr-F.Postfix of_it op) = (_, refl)
tall (Expr-F.Field of_it name) = (_, refl)
tall (Expr-F.Call of_it type_args name actuals) = (_, refl)
tall (Expr-F.Index of_it index) = (_, refl)
tall (Expr-F.InnerNew of_it creation) = (_, refl)
tall (Expr-F.Literal at value) = (_, refl)
tall (Expr-F.This at) = (_, refl)
tall (Expr-F.SuperField at name) = (_, refl)
tall (Expr-F.SuperCall at type_args name actuals) = (_, refl)
tall (Expr-F.Paren at inner) = (_, refl)
tall (Expr-F.Name it) = (_, refl)
tall (Expr-F.Invoke name actuals) = (_, refl)
tall (Expr-F.New at creation) = (_, refl)
tall (Expr-F.ClassLiteral ty) = (_, refl)
tall (Expr-F.VoidLiteral at) = (_, refl)
tall (Expr-F.OuterThis first more) = (_, refl)

pub expr_tall : (e : Expr) → nat_le (expr_height e) 0 ≡ false
expr_tall e = let w = tall (out-Expr e) in ap (λ n. nat_le n 0) (expr_height-out e ∙ w.1) ∙ room_none w.0

effect_tall_over : (l : Expr-F Creation Expr Init Operand ArrayInit) (n : ℕ) → nat_le n 0 ≡ false → nat_le (effect_over l n) 0 ≡ false
effect_tall_over (Expr-F.Assign target op value) n e = room_max (expr_height target) (expr_height value) 0 ∙ and_left (nat_le (expr_height target) 0) (nat_le (expr_height value) 0) (expr_tall target)
effect_tall_over (Expr-F.Prefix first more operand) n e = expr_tall operand
effect_tall_over _ n e = e

pub effect_tall : (e : Expr) → nat_le (effect_height e) 0 ≡ false
effect_tall e = effect_tall_over (out-Expr e) (expr_height e) (expr_tall e)

init_low : (l : Init-F Creation Expr Init Operand ArrayInit) → nat_le (init_step (map-Init Creation Expr Init Operand ArrayInit ℕ ℕ ℕ ℕ ℕ creation_height expr_height init_height operand_height array_height l)) 0 ≡ false
init_low (Init-F.Value e) = expr_tall e
init_low (Init-F.Nested array) = ap (λ n. nat_le n 0) (array_height-parts array) ∙ room_none _

pub init_tall : (i : Init) → nat_le (init_height i) 0 ≡ false
init_tall i = ap (λ n. nat_le n 0) (init_height-out i) ∙ init_low (out-Init i)

module _ (x : Exprs) where
  -- with no room for one at all
  abbrev pub expr_in : ℕ → Coded Expr
  expr_in h = roomy h (expr_coded x h)

  abbrev pub effect_in : ℕ → Coded Expr
  effect_in h = roomy h (effect_coded x h)

  abbrev pub conditional_in : ℕ → Coded Expr
  conditional_in h = roomy h (conditional_coded x h)

  abbrev pub init_in : ℕ → Coded Init
  init_in h = roomy h (init_coded x h)

  pub expr_law : ExprLaws x → (h : ℕ) → Law Expr (expr_in h)
  expr_law l = roomy_law Expr (expr_coded x) (λ e. and_left (nat_le (expr_height e) 0) (is_expr e) (expr_tall e)) l.expr

  pub effect_law : ExprLaws x → (h : ℕ) → Law Expr (effect_in h)
  effect_law l = roomy_law Expr (effect_coded x) (λ e. and_left (nat_le (effect_height e) 0) (is_statement_expr e) (effect_tall e)) l.effect

  pub conditional_law : ExprLaws x → (h : ℕ) → Law Expr (conditional_in h)
  conditional_law l = roomy_law Expr (conditional_coded x) (λ e. and_left (nat_le (expr_height e) 0) (is_conditional e) (expr_tall e)) l.conditional

  pub init_law : ExprLaws x → (h : ℕ) → Law Init (init_in h)
  init_law l = roomy_law Init (init_coded x) (λ i. and_left (nat_le (init_height i) 0) (is_init i) (init_tall i)) l.init
