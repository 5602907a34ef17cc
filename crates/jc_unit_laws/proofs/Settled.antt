-- Statements that take no `else` behind them are found before one.
use Rattle.std.proofs.Common.{◌≡◌, ℕ, zero, suc, true, false, List, [], sym, ◌∙◌}
use Rattle.std.proofs.lemmas.Bool.{false≢true, and_left, and_right}
use Rattle.std.specs.Prelude.{◌&&◌, nat_le}
use Rattle.jc_lexer.specs.declared.token.Key.TheVariants as key_of
use Rattle.jc_lexer.specs.declared.token.Token.{Token}
use Rattle.jc_tree.specs.declared.name.Ident.{Ident}
use Rattle.jc_tree.specs.declared.expression.Expr.{Expr}
use Rattle.jc_tree.specs.declared.statement.Clause.{Clause}
use Rattle.jc_tree.specs.declared.statement.ForHead.{ForHead}
use Rattle.jc_tree.specs.declared.statement.Stmt.{Stmt, out-Stmt}
use Rattle.jc_tree.specs.Heights.{stmt_height}
use Rattle.jc_grammar.specs.Statements.{stmt_tokens}
use Rattle.jc_grammar.specs.Units.{behind_else, in_body, stmt_shape}
use Rattle.jc_reading.specs.Kinds.{one_of}
use Rattle.jc_reading.specs.Reading.{Takes, Either}
use Rattle.jc_reading.proofs.Coded.{in_order, kind_makes}
use Rattle.jc_reading.proofs.Lowest.{roomy, never_first, never_second}
use Rattle.jc_reading.proofs.Steps.{IsFound}
use Rattle.jc_part_laws.specs.PartReading.{Exprs}
use Rattle.jc_part_laws.proofs.ExprForms.{ExprLaws}
use Rattle.jc_part_laws.proofs.PartForms.{key_at_form}
use Rattle.jc_unit_laws.specs.UnitReading.{Branch, Level, body_run, effect_made, for_made, if_made, labeled_or, other_run, while_made}
use Rattle.jc_unit_laws.proofs.Bundles.{none_made}
use Rattle.jc_unit_laws.proofs.Contexts.{Settles, closed_body, closed_other}
use Rattle.jc_unit_laws.proofs.ForStatements.{ForC, closed_for, for_coded, for_head_coded, for_kind, is_for}
use Rattle.jc_unit_laws.proofs.IfStatements.{IfParts, arm_fits, arm_never, closed_if, if_coded, if_kind, is_if}
use Rattle.jc_unit_laws.proofs.SimpleStatements.{LevelLaws, Parens, WhileParts, body_coded, closed_while, else_codes, good_at, is_while, parens_never, stmt_fits, while_coded, while_kind}
use Rattle.jc_unit_laws.proofs.WordStatements.{Plains, closed_plain, is_plain, plain_coded, plain_kind, plains_never}

-- at the lowest height there are none that end with a body

module _ (x : Exprs) (lx : ExprLaws x) (l : Level) (f : LevelLaws 0 l) where
  no_while : (s : Stmt) → (while_coded x lx 0 l).fits s ≡ false
  no_while =
      none_made (ℕ × ((Unit {0} × (Expr × Unit {0})) × Stmt)) Stmt (roomy 0 (WhileParts x 0 l)) while_made stmt_tokens (stmt_fits (ℕ × ((Unit {0} × (Expr × Unit {0})) × Stmt)) 0 (roomy 0 (WhileParts x 0 l)) while_made is_while)
      (kind_makes (ℕ × ((Unit {0} × (Expr × Unit {0})) × Stmt)) Stmt (roomy 0 (WhileParts x 0 l)) while_made stmt_tokens (λ s. is_while (out-Stmt s)) (good_at 0) (while_kind x 0 l))
      (never_second ℕ ((Unit {0} × (Expr × Unit {0})) × Stmt) (key_at_form key_of.While) (in_order (Parens x 0 l) (body_coded 0 l)) (never_first (Unit {0} × (Expr × Unit {0})) Stmt (Parens x 0 l) (body_coded 0 l) (parens_never x l)))

  no_for : (s : Stmt) → (for_coded x lx 0 l).fits s ≡ false
  no_for =
      none_made (ℕ × (Unit {0} × (ForHead × (Unit {0} × Stmt)))) Stmt (roomy 0 (ForC x 0 l)) for_made stmt_tokens (stmt_fits (ℕ × (Unit {0} × (ForHead × (Unit {0} × Stmt)))) 0 (roomy 0 (ForC x 0 l)) for_made is_for)
      (kind_makes (ℕ × (Unit {0} × (ForHead × (Unit {0} × Stmt)))) Stmt (roomy 0 (ForC x 0 l)) for_made stmt_tokens (λ s. is_for (out-Stmt s)) (good_at 0) (for_kind x 0 l))
      (λ p. and_right true _ (and_right true _ (and_right ((for_head_coded x 0).fits p.1.1.0) _ (and_right true _ (f.body.never p.1.1.1.1)))))

  no_plain : (s : Stmt) → (plain_coded x lx 0 l).fits s ≡ false
  no_plain =
      none_made (Either (Ident × (Unit {0} × Stmt)) (Expr × Unit {0})) Stmt (roomy 0 (Plains x 0 l)) (labeled_or effect_made) stmt_tokens (stmt_fits (Either (Ident × (Unit {0} × Stmt)) (Expr × Unit {0})) 0 (roomy 0 (Plains x 0 l)) (labeled_or effect_made) is_plain)
      (kind_makes (Either (Ident × (Unit {0} × Stmt)) (Expr × Unit {0})) Stmt (roomy 0 (Plains x 0 l)) (labeled_or effect_made) stmt_tokens (λ s. is_plain (out-Stmt s)) (good_at 0) (plain_kind x 0 l))
      (plains_never x l f.body)

  no_if : (s : Stmt) → (if_coded x lx 0 l).fits s ≡ false
  no_if =
      none_made (Clause × Branch) Stmt (roomy 0 (IfParts x 0 l)) if_made stmt_tokens (stmt_fits (Clause × Branch) 0 (roomy 0 (IfParts x 0 l)) if_made is_if)
      (kind_makes (Clause × Branch) Stmt (roomy 0 (IfParts x 0 l)) if_made stmt_tokens (λ s. is_if (out-Stmt s)) (good_at 0) (if_kind x 0 l))
      (λ p. and_left (arm_fits x 0 l p.0) _ (arm_never x l p.0))

settled : (x : Exprs) (lx : ExprLaws x) (h : ℕ) (l : Level) (f : LevelLaws h l) (ts : List Token) (s : Stmt) (r : List Token) → (stmt_shape s).open_end ≡ false → one_of else_codes r ≡ true → Settles x lx h l ts s r
settled x lx zero l f ts s r e z = record {
  while_it = λ t. absurd (false≢true (sym (no_while x lx l f s) ∙ t.1));
  for_it = λ t. absurd (false≢true (sym (no_for x lx l f s) ∙ t.1));
  plain_it = λ t. absurd (false≢true (sym (no_plain x lx l f s) ∙ t.1));
  if_it = λ t. absurd (false≢true (sym (no_if x lx l f s) ∙ t.1));
}
settled x lx (suc k) l f ts s r e z = record {
  while_it = λ t. closed_while x lx k l f ts s r t e z;
  for_it = λ t. closed_for x lx k l f ts s r t e z;
  plain_it = λ t. closed_plain x lx k l f ts s r t e z;
  if_it = λ t. closed_if x lx k l f ts s r t e z;
}

module _ (x : Exprs) (lx : ExprLaws x) (h : ℕ) (l : Level) (f : LevelLaws h l) (ts : List Token) (s : Stmt) (r : List Token) (e : (stmt_shape s).open_end ≡ false) (z : one_of else_codes r ≡ true) where
  pub settled_other : Takes false (stmt_tokens s []) ts r → (nat_le (stmt_height s) (suc h) && behind_else (stmt_shape s)) ≡ true → IsFound s r (other_run x h l ts)
  settled_other t g = closed_other x lx h l f ts s r (settled x lx h l f ts s r e z) z t g

  pub settled_body : Takes false (stmt_tokens s []) ts r → (nat_le (stmt_height s) (suc h) && in_body (stmt_shape s)) ≡ true → IsFound s r (body_run x h l ts)
  settled_body t g = closed_body x lx h l f ts s r (settled x lx h l f ts s r e z) z t g
