-- How expressions are read that stand as statements (JLS 14.8): `++` and `--` before an operand, assignments, calls, creations, and values that
-- a postfix operator changes.
use Rattle.std.specs.Prelude.{ℕ, zero, suc, ◌-◌, min, Bool, cond, List, [], ◌∷◌, length, take, drop, Option, Some, None}
use Rattle.jc_lexer.specs.declared.token.Sign.TheVariants as sign_of
use Rattle.jc_lexer.specs.declared.token.Token.{Token}
use Rattle.jc_tree.specs.declared.expression.AssignOp.{AssignOp}
use Rattle.jc_tree.specs.declared.expression.PrefixOp.{PrefixOp}
use Rattle.jc_tree.specs.declared.expression.PrefixSign.TheVariants as prefix_of
use Rattle.jc_tree.specs.declared.expression.Expr.{Expr}
use Rattle.jc_grammar.specs.Shapes.{is_effect}
use Rattle.jc_reading.specs.Kinds.{sign_code}
use Rattle.jc_reading.specs.Reading.{Read, Found, Stopped, Run, becoming, as_new, in_turn, Either, This, That, either, at_kind}
use Rattle.jc_expr_laws.specs.LevelReading.{prefix_run, assign_made, assign_run}

-- a value that takes all tokens of a front and passes; where it doesn't, what is told of shorter fronts
abbrev pub ended : {A : Type 0} → (A → Bool) → Read A → List Token → ℕ → Read A → Read A
ended passes (Found a [] n) rest l shorter = cond (passes a) (Found a rest l) shorter
ended passes (Found a (t ∷ ts) n) rest l shorter = shorter
ended passes (Stopped n) rest l shorter = shorter

-- the longest value of at most k tokens that passes, with the reach l
unfoldable pub longest_passing : {A : Type 0} → (A → Bool) → Run A → List Token → ℕ → ℕ → Read A
longest_passing passes run ts l zero = ended passes (run []) ts l (Stopped l)
longest_passing passes run ts l (suc k) = ended passes (run (take (suc k) ts)) (drop (suc k) ts) l (longest_passing passes run ts l k)

-- a value behind which nothing more stands
abbrev pub with_none : {A B : Type 0} → A → A × Option B
with_none a = (a, None)

-- where nothing more stands behind a value, it if it passes, and else the longest one that does
abbrev pub alone : {A : Type 0} → (A → Bool) → Run A → List Token → A → List Token → ℕ → Read A
alone passes run ts a r l = cond (passes a) (Found a r l) (longest_passing passes run ts l (length ts - length r))

-- with what was read behind a value, and where nothing can be read there the value alone
abbrev pub closed_by : {A B : Type 0} → (A → Bool) → Run A → List Token → A → List Token → ℕ → Read B → Read (A × Option B)
closed_by passes run ts a r l (Found b q n) = Found (a, Some b) q (min l n)
closed_by passes run ts a r l (Stopped n) = becoming with_none (alone passes run ts a r (min l n))

-- nothing is read where the value itself can't be
abbrev pub closing_on : {A B : Type 0} → (A → Bool) → Run A → List Token → Read A → Run B → Read (A × Option B)
closing_on passes run ts (Found a r l) more = closed_by passes run ts a r l (more r)
closing_on passes run ts (Stopped l) more = Stopped l

-- a value and more behind it, or one that passes alone
unfoldable pub closing : {A B : Type 0} → (A → Bool) → Run A → Run B → Run (A × Option B)
closing passes run more ts = closing_on passes run ts (run ts) more

-- the same without a step back, which no sign could follow
abbrev pub strictly_by : {A B : Type 0} → (A → Bool) → A → List Token → ℕ → Read B → Read (A × Option B)
strictly_by passes a r l (Found b q n) = Found (a, Some b) q (min l n)
strictly_by passes a r l (Stopped n) = cond (passes a) (Found (a, None) r (min l n)) (Stopped (min l n))

abbrev pub strictly_on : {A B : Type 0} → (A → Bool) → Read A → Run B → Read (A × Option B)
strictly_on passes (Found a r l) more = strictly_by passes a r l (more r)
strictly_on passes (Stopped l) more = Stopped l

unfoldable pub strictly_closing : {A B : Type 0} → (A → Bool) → Run A → Run B → Run (A × Option B)
strictly_closing passes run more ts = strictly_on passes (run ts) more

-- `++` or `--`
abbrev pub crement_op : Either ℕ ℕ → PrefixOp
crement_op (This at) = record { at = at; sign = prefix_of.Increment }
crement_op (That at) = record { at = at; sign = prefix_of.Decrement }

unfoldable pub crement_op_run : Run PrefixOp
crement_op_run = as_new crement_op (either (sign_code sign_of.Increment ∷ []) (at_kind (sign_code sign_of.Increment)) (at_kind (sign_code sign_of.Decrement)))

-- the codes of `++` and `--`
abbrev pub crement_codes : List ℕ
crement_codes = sign_code sign_of.Increment ∷ sign_code sign_of.Decrement ∷ []

-- an operator with its operand, or an assignment, or a value that passes alone
abbrev pub effect_made : Either Expr (Expr × Option (AssignOp × Expr)) → Expr
effect_made (This e) = e
effect_made (That p) = assign_made p

-- an effect whose parts are read by Bare, Post and Expr of one height
unfoldable pub effect_run : Run Expr → Run Expr → Run Expr → Run Expr
effect_run bare post expr = as_new effect_made (either crement_codes (prefix_run crement_op_run bare) (closing is_effect post (in_turn assign_run expr)))

-- how the code reads it: before a sign that ends it both say the same
unfoldable pub strict_effect_run : Run Expr → Run Expr → Run Expr → Run Expr
strict_effect_run bare post expr = as_new effect_made (either crement_codes (prefix_run crement_op_run bare) (strictly_closing is_effect post (in_turn assign_run expr)))
