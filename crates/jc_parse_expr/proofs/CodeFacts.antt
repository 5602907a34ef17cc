-- What the laws of the readers tell the code: how far they look, that they take tokens, and that what they find stands where it may.
use Rattle.std.proofs.Common.{◌≡◌, ℕ, zero, suc, ◌≤◌, true, List, ◌∷◌, length, refl, subst, arith}
use Rattle.std.specs.Prelude.{nat_le}
use Rattle.std.proofs.lemmas.Bool.{and_parts}
use Rattle.jc_lexer.specs.declared.token.Sign.TheVariants as sign_of
use Rattle.jc_lexer.specs.declared.token.Token.{Token}
use Rattle.jc_tree.specs.declared.expression.BinaryOp.{BinaryOp}
use Rattle.jc_tree.specs.declared.expression.Expr.{Expr}
use Rattle.jc_tree.specs.Heights.{expr_height}
use Rattle.jc_grammar.specs.Shapes.{stands, expr_shape}
use Rattle.jc_reading.specs.Kinds.{sign_code}
use Rattle.jc_reading.specs.Reading.{Read, Found, in_turn}
use Rattle.jc_reading.proofs.Forms.{Form, Stands}
use Rattle.jc_reading.proofs.Steps.{Good}
use Rattle.jc_reading.proofs.Turns.{lawful_ahead}
use Rattle.jc_reading.specs.Reach.{Within, GoesAhead}
use Rattle.jc_reading.proofs.Nears.{ahead_as, ahead_turn}
use Rattle.jc_expr_laws.specs.LevelReading.{operand_made}
use Rattle.jc_expr_laws.specs.ExprReading.{readers}
use Rattle.jc_parse_expr.specs.declared.operators.Level.{Level}
use Rattle.jc_parse_expr.specs.declared.operators.Level.TheVariants as level_of
use Rattle.jc_parse_expr.specs.BinaryLevels.{levels_at, post_at, level_run, tighter_run, operator_run, operand_run}
use Rattle.jc_expr_laws.proofs.LevelOps as ops
use Rattle.jc_expr_laws.proofs.LevelChains.{at_level}
use Rattle.jc_expr_laws.proofs.LevelTower.{compare_goes, or_else_tight}
use Rattle.jc_expr_laws.proofs.LevelKnot.{ReadersLaws, all_laws}

laws_at : (h : ℕ) → ReadersLaws (suc h) (readers (suc h))
laws_at h = all_laws h

-- how far is looked

pub within_expr : (h : ℕ) (ts : List Token) → Within (length ts) ((levels_at h).expr ts)
unfolding readers
within_expr zero ts = omega arith
within_expr (suc h) ts = (laws_at h).levels_law.expr.within ts

pub within_conditional : (h : ℕ) (ts : List Token) → Within (length ts) ((levels_at h).conditional ts)
unfolding readers
within_conditional zero ts = omega arith
within_conditional (suc h) ts = (laws_at h).levels_law.conditional.within ts

pub within_bare : (h : ℕ) (ts : List Token) → Within (length ts) ((levels_at h).bare ts)
unfolding readers
within_bare zero ts = omega arith
within_bare (suc h) ts = (laws_at h).levels_law.bare.within ts

pub within_plain : (h : ℕ) (ts : List Token) → Within (length ts) ((levels_at h).plain ts)
unfolding readers
within_plain zero ts = omega arith
within_plain (suc h) ts = (laws_at h).levels_law.plain.within ts

pub within_unary : (h : ℕ) (ts : List Token) → Within (length ts) ((levels_at h).unary ts)
unfolding readers
within_unary zero ts = omega arith
within_unary (suc h) ts = (laws_at h).levels_law.unary.within ts

pub within_post : (h : ℕ) (ts : List Token) → Within (length ts) (post_at h ts)
unfolding readers
within_post zero ts = omega arith
within_post (suc h) ts = (laws_at h).post_law.within ts

pub within_level : (level : Level) (h : ℕ) (ts : List Token) → Within (length ts) (level_run level (levels_at h) ts)
unfolding readers
within_level level_of.OrElse zero ts = omega arith
within_level level_of.OrElse (suc h) ts = (laws_at h).levels_law.or_else.within ts
within_level level_of.AndAlso zero ts = omega arith
within_level level_of.AndAlso (suc h) ts = (laws_at h).levels_law.and_also.within ts
within_level level_of.Or zero ts = omega arith
within_level level_of.Or (suc h) ts = (laws_at h).levels_law.bit_or.within ts
within_level level_of.Xor zero ts = omega arith
within_level level_of.Xor (suc h) ts = (laws_at h).levels_law.bit_xor.within ts
within_level level_of.And zero ts = omega arith
within_level level_of.And (suc h) ts = (laws_at h).levels_law.bit_and.within ts
within_level level_of.Equal zero ts = omega arith
within_level level_of.Equal (suc h) ts = (laws_at h).levels_law.equal.within ts
within_level level_of.Compared zero ts = omega arith
within_level level_of.Compared (suc h) ts = (laws_at h).levels_law.compared.within ts
within_level level_of.Shift zero ts = omega arith
within_level level_of.Shift (suc h) ts = (laws_at h).levels_law.shift.within ts
within_level level_of.Plus zero ts = omega arith
within_level level_of.Plus (suc h) ts = (laws_at h).levels_law.plus.within ts
within_level level_of.Times zero ts = omega arith
within_level level_of.Times (suc h) ts = (laws_at h).levels_law.times.within ts

pub within_tighter : (level : Level) (h : ℕ) (ts : List Token) → Within (length ts) (tighter_run level (levels_at h) ts)
within_tighter level_of.OrElse h ts = within_level level_of.AndAlso h ts
within_tighter level_of.AndAlso h ts = within_level level_of.Or h ts
within_tighter level_of.Or h ts = within_level level_of.Xor h ts
within_tighter level_of.Xor h ts = within_level level_of.And h ts
within_tighter level_of.And h ts = within_level level_of.Equal h ts
within_tighter level_of.Equal h ts = within_level level_of.Compared h ts
within_tighter level_of.Compared h ts = within_level level_of.Shift h ts
within_tighter level_of.Shift h ts = within_level level_of.Plus h ts
within_tighter level_of.Plus h ts = within_level level_of.Times h ts
within_tighter level_of.Times h ts = within_unary h ts

-- operators take a token

pub operator_steps : (level : Level) → GoesAhead (operator_run level)
operator_steps level_of.OrElse = lawful_ahead BinaryOp _ ops.or_else_laws refl
operator_steps level_of.AndAlso = lawful_ahead BinaryOp _ ops.and_also_laws refl
operator_steps level_of.Or = lawful_ahead BinaryOp _ ops.or_laws refl
operator_steps level_of.Xor = lawful_ahead BinaryOp _ ops.xor_laws refl
operator_steps level_of.And = lawful_ahead BinaryOp _ ops.and_laws refl
operator_steps level_of.Equal = lawful_ahead BinaryOp _ ops.equal_laws refl
operator_steps level_of.Compared = lawful_ahead BinaryOp _ ops.less_laws refl
operator_steps level_of.Shift = lawful_ahead BinaryOp _ ops.shift_laws refl
operator_steps level_of.Plus = lawful_ahead BinaryOp _ ops.plus_laws refl
operator_steps level_of.Times = lawful_ahead BinaryOp _ ops.times_laws refl

pub operand_steps : (level : Level) (h : ℕ) → GoesAhead (operand_run level (tighter_run level (levels_at h)))
operand_steps level h =
    ahead_as operand_made (in_turn (operator_run level) (tighter_run level (levels_at h))) (ahead_turn (operator_run level) (tighter_run level (levels_at h)) (operator_steps level) (within_tighter level h))

pub rest_within : {A : Type 0} (k : ℕ) (m : Read A) (a : A) (r : List Token) (l : ℕ) → Within k m → m ≡ Found a r l → (l ≤ length r) × (length r ≤ k)
rest_within {A = A} k m a r l w e = subst (λ (x : Read A). Within k x) e w

-- what is found stands where it may

stands_found : (form : Form Expr) (m : Read Expr) (ts : List Token) (e : Expr) (r : List Token) (l : ℕ) → Good (Stands form ts) m → m ≡ Found e r l → form.fits e ≡ true
stands_found form m ts e r l g f = (subst (λ (x : Read Expr). Good (Stands form ts) x) f g).1

pub good_conditional : (h : ℕ) (ts : List Token) (e : Expr) (r : List Token) (l : ℕ) → (levels_at h).conditional ts ≡ Found e r l → (expr_shape e).good ≡ true
unfolding readers
good_conditional zero ts e r l f = absurd (cc)
good_conditional (suc h) ts e r l f =
    let fit = stands_found (at_level 1 (suc h) (levels_at (suc h)).conditional (sign_code sign_of.Question ∷ compare_goes) or_else_tight) ((levels_at (suc h)).conditional ts) ts e r l ((laws_at h).levels_law.conditional.sound ts) f in
    let both = and_parts (nat_le (expr_height e) (suc h)) (stands 1 (expr_shape e)) fit in
    (and_parts (expr_shape e).good (nat_le 1 (expr_shape e).level) both.1).0
