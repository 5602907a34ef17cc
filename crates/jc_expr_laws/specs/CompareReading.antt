-- How the level of `<` and `instanceof` is read (JLS 15.20).
use Rattle.std.specs.Prelude.{ℕ, zero, suc, Bool, true, false, cond, ◌==◌, ◌&&◌, List, [], ◌∷◌, map, length}
use Rattle.jc_lexer.specs.declared.token.Key.TheVariants as key_of
use Rattle.jc_lexer.specs.declared.token.Sign.TheVariants as sign_of
use Rattle.jc_lexer.specs.declared.token.Token.{Token}
use Rattle.jc_tree.specs.declared.types.TypeTree.{TypeTree}
use Rattle.jc_tree.specs.declared.expression.BinaryOp.{BinaryOp}
use Rattle.jc_tree.specs.declared.expression.Expr.{Expr}
use Rattle.jc_tree.specs.declared.expression.Expr.TheVariants as expr_of
use Rattle.jc_tree.specs.declared.expression.Operand.{Operand}
use Rattle.jc_tree.specs.declared.expression.Operand.TheVariants as operand_of
use Rattle.jc_grammar.specs.Spelling.{is_greater}
use Rattle.jc_grammar.specs.Shapes.{takes_args}
use Rattle.jc_reading.specs.Kinds.{sign_code, key_code, one_of}
use Rattle.jc_reading.specs.Reading.{Stopped, Run, found, as_new, in_turn, Either, This, That, either, of_kind}
use Rattle.jc_reading.specs.Further.{followed}
use Rattle.jc_reading.specs.Growing.{one_then}
use Rattle.jc_parse_type.specs.TypeReading.{type_run}
use Rattle.jc_expr_laws.specs.LevelReading.{less_run, is_tall, operand_made}

-- a `>` that touches the next token
abbrev pub is_touching : Token → Bool
is_touching t = is_greater t.kind && t.touches

-- the token before the last n ones is such a one
abbrev pub touched_before : List Token → ℕ → Bool
touched_before [] n = false
touched_before (t ∷ ts) n = cond (length ts == n) (is_touching t) (touched_before ts n)

-- any number of parts, with room for n of them: how the next one is read is told by the part before it, and by whether that ends with a
-- touching `>`
unfoldable pub links : {V P : Type 0} → ℕ → (V → P → V) → (V → Bool → Run P) → V → Bool → Run (List P)
links zero make part v touched ts = found [] ts
links (suc n) make part v touched ts = one_then ts (part v touched ts) (λ p q. links n make part (make v p) (touched_before ts (length q)) q)

abbrev pub linked : {V P : Type 0} → (V → P → V) → (V → Bool → Run P) → V → Bool → Run (List P)
linked make part v touched ts = links (length ts) make part v touched ts

-- not where a token of `codes` stands
abbrev pub barring : {A : Type 0} → List ℕ → Run A → Run A
barring codes run ts = cond (one_of codes ts) (Stopped (length ts)) (run ts)

-- `instanceof` and a type, or an operator and its operand
abbrev pub Comparison : Type 0
Comparison = Either (Unit {0} × TypeTree) (BinaryOp × Expr)

abbrev pub comparison_run : ℕ → Run Expr → Run Comparison
comparison_run h next = either (key_code key_of.Instanceof ∷ []) (in_turn (of_kind (key_code key_of.Instanceof)) (type_run h)) (in_turn less_run next)

-- arguments could follow the type behind `instanceof`
abbrev pub ends_open_type : Comparison → Bool
ends_open_type (This p) = takes_args p.1
ends_open_type (That p) = false

-- behind a type that arguments could follow no `<` is an operator, and behind a touching `>` none begins with a `>`
abbrev pub barred : Bool → Bool → List ℕ
barred false false = []
barred false true = sign_code sign_of.Greater ∷ []
barred true false = sign_code sign_of.Less ∷ []
barred true true = sign_code sign_of.Less ∷ sign_code sign_of.Greater ∷ []

-- what is told to the next part: of the part before it alone
abbrev pub behind_part : Bool → Comparison → Bool
behind_part bare p = ends_open_type p

-- a comparison that doesn't begin with what is barred there
abbrev pub next_comparison_run : ℕ → Run Expr → Bool → Bool → Run Comparison
next_comparison_run h next bare touched = barring (barred bare touched) (comparison_run h next)

-- any number of them, the first one with nothing barred
unfoldable pub comparisons_run : ℕ → Run Expr → Run (List Comparison)
comparisons_run h next = linked behind_part (next_comparison_run h next) false false

-- `instanceof` with its type, or an operator with its operand
abbrev pub compared_operand : Comparison → Operand
compared_operand (This p) = operand_of.InstanceOf p.1
compared_operand (That p) = operand_made p

-- a first operand alone where no comparison stands behind it, and else a chain
abbrev pub compared_made : (Expr × List Comparison) → Expr
compared_made (first, []) = first
compared_made (first, p ∷ more) = expr_of.Chain first (map compared_operand (p ∷ more))

-- of height h + 1: the first operand, of the next level, and behind one that is not too high any number of comparisons
unfoldable pub compare_run : ℕ → Run Expr → Run Expr → Run Expr
compare_run zero first next = first
compare_run (suc k) first next = as_new compared_made (followed (is_tall (suc k)) [] first (comparisons_run (suc k) next))
