-- Statements that their first token tells: `do` and jumps.
use Rattle.std.proofs.Common.{◌≡◌, ℕ, zero, suc, max, Bool, true, false, List, [], ◌∷◌, Option, Some, None, refl, sym, ap, ◌∙◌, inl, arith}
use Rattle.std.proofs.Math.Bool.{and-true}
use Rattle.std.proofs.lemmas.Bool.{false≢true}
use Rattle.std.proofs.lemmas.Grind.{common_steps}
use Rattle.std.specs.Prelude.{◌&&◌, nat_le}
use Rattle.jc_lexer.specs.declared.token.Key.TheVariants as key_of
use Rattle.jc_lexer.specs.declared.token.Sign.TheVariants as sign_of
use Rattle.jc_tree.specs.declared.name.Ident.{Ident}
use Rattle.jc_tree.specs.declared.expression.Expr.{Expr}
use Rattle.jc_tree.specs.declared.statement.Stmt.{Stmt, Stmt-F, out-Stmt, roll-Stmt, roll-out-Stmt}
use Rattle.jc_tree.specs.declared.statement.Stmt.TheVariants as stmt_of
use Rattle.jc_tree.specs.Heights.{in_some, expr_height, stmt_height}
use Rattle.jc_tree.proofs.HeightsOfStatements.{stmt_height-Do, stmt_height-Return, stmt_height-Break, stmt_height-Continue, stmt_height-Throw}
use Rattle.jc_grammar.specs.Told.{Told, sign, key_at}
use Rattle.jc_grammar.specs.Expressions.{expr_tokens}
use Rattle.jc_grammar.specs.Parts.{if_some}
use Rattle.jc_grammar.specs.Shapes.{is_expr}
use Rattle.jc_grammar.specs.Statements.{stmt_tokens, labeled}
use Rattle.jc_grammar.specs.Units.{if_there_passes, in_body, stmt_shape}
use Rattle.jc_grammar.proofs.ShapesOfStatements.{stmt_shape-Do, stmt_shape-Return, stmt_shape-Break, stmt_shape-Continue, stmt_shape-Throw}
use Rattle.jc_grammar.proofs.TokensOfStatements.{stmt_tokens-Do, stmt_tokens-Return, stmt_tokens-Break, stmt_tokens-Continue, stmt_tokens-Throw}
use Rattle.jc_reading.specs.Kinds.{key_code}
use Rattle.jc_reading.proofs.Rooms.{room_above, room_max}
use Rattle.jc_part_laws.specs.PartReading.{Exprs}
use Rattle.jc_reading.proofs.Coded.{Coded, in_order, optional}
use Rattle.jc_part_laws.proofs.ExprForms.{ExprLaws, expr_coded, expr_in, expr_law}
use Rattle.jc_reading.proofs.Lowest.{Law, roomy, optional_law, never_first, never_second}
use Rattle.jc_part_laws.proofs.PartForms.{sign_form, key_form, key_at_form, ident_form}
use Rattle.jc_unit_laws.specs.UnitReading.{Level, do_made, return_made, break_made, continue_made, throw_made, do_run, return_run, break_run, continue_run, throw_run}
use Rattle.jc_unit_laws.proofs.Bundles.{has, a_sign, a_key, a_key_at, an_ident, then_a, maybe_a, roomy_zero, roomy_suc}
use Rattle.jc_unit_laws.proofs.SimpleStatements.{body_coded, LevelLaws, Layer, is_do, is_return, is_break, is_continue, is_throw, good_at, good_made, stmt_fits, stmt_made_law, Parens, expr_never, parens_has}

module _ (x : Exprs) (h : ℕ) (l : Level) where
  abbrev DoParts : Coded (ℕ × (Stmt × (Unit {0} × ((Unit {0} × (Expr × Unit {0})) × Unit {0}))))
  DoParts = in_order (key_at_form key_of.Do) (in_order (body_coded h l) (in_order (key_form key_of.While) (in_order (Parens x h l) (sign_form sign_of.Semicolon))))

  do_bits : (b e i g : Bool) → ((b && e) && (g && i)) ≡ (true && ((b && g) && (true && ((true && ((e && i) && true)) && true))))
  do_bits b e i g = grind (arith, common_steps)

  fit_do : (p : ℕ × (Stmt × (Unit {0} × ((Unit {0} × (Expr × Unit {0})) × Unit {0})))) → good_at h (do_made p) ≡ DoParts.fits p
  fit_do (at, (body, (u, ((v, (test, w)), z)))) =
      good_made h (stmt_of.Do at body test) (max (stmt_height body) (expr_height test)) _ (stmt_height-Do at body test) (stmt_shape-Do at body test)
      ∙ ap (λ b. b && (in_body (stmt_shape body) && is_expr test)) (room_max (stmt_height body) (expr_height test) h)
      ∙ do_bits (nat_le (stmt_height body) h) (nat_le (expr_height test) h) (is_expr test) (in_body (stmt_shape body))

  back_do : (s : Stmt) (layer : Layer) → out-Stmt s ≡ layer → is_do layer ≡ true → (p : ℕ × (Stmt × (Unit {0} × ((Unit {0} × (Expr × Unit {0})) × Unit {0})))) × (do_made p ≡ s)
  back_do s (Stmt-F.Do at body test) e g = ((at, (body, (tt, ((tt, (test, tt)), tt)))), sym (stmt_of.rolls-Do at body test) ∙ ap roll-Stmt (sym e) ∙ roll-out-Stmt s)
  back_do s _ e g = absurd (false≢true g)

do_room : (x : Exprs) (lx : ExprLaws x) (h : ℕ) (l : Level) → LevelLaws h l → Law (ℕ × (Stmt × (Unit {0} × ((Unit {0} × (Expr × Unit {0})) × Unit {0})))) (roomy h (DoParts x h l))
do_room x lx zero l f =
    roomy_zero (DoParts x 0 l) (never_second ℕ (Stmt × (Unit {0} × ((Unit {0} × (Expr × Unit {0})) × Unit {0}))) (key_at_form key_of.Do) (in_order (body_coded 0 l) (in_order (key_form key_of.While) (in_order (Parens x 0 l) (sign_form sign_of.Semicolon))))
    (never_first Stmt (Unit {0} × ((Unit {0} × (Expr × Unit {0})) × Unit {0})) (body_coded 0 l) (in_order (key_form key_of.While) (in_order (Parens x 0 l) (sign_form sign_of.Semicolon))) f.body.never))
do_room x lx (suc k) l f =
    roomy_suc k (DoParts x (suc k) l) (then_a (a_key_at key_of.Do) (then_a (has (body_coded (suc k) l) f.body) (then_a (a_key key_of.While) (then_a (parens_has x lx k l) (a_sign sign_of.Semicolon) refl) refl) refl) refl).laws

module _ (x : Exprs) (lx : ExprLaws x) (h : ℕ) (l : Level) where
  abbrev pub do_coded : Coded Stmt
  do_coded = record { tell = stmt_tokens; fits = stmt_fits (ℕ × (Stmt × (Unit {0} × ((Unit {0} × (Expr × Unit {0})) × Unit {0})))) h (roomy h (DoParts x h l)) do_made is_do; run = do_run x h l; starts = key_code key_of.Do ∷ []; goes = []; empties = false }

  pub do_law : LevelLaws h l → Law Stmt do_coded
  unfolding do_run
  do_law f =
      stmt_made_law (ℕ × (Stmt × (Unit {0} × ((Unit {0} × (Expr × Unit {0})) × Unit {0})))) h (roomy h (DoParts x h l)) do_made is_do (do_room x lx h l f)
      (record {
        told = λ p r. stmt_tokens-Do p.0 p.1.0 p.1.1.1.0.1.0 r;
        fit = fit_do x h l;
        is_kind = λ p. ap is_do (stmt_of.outs-Do p.0 p.1.0 p.1.1.1.0.1.0);
        back = λ s g. back_do x h l s (out-Stmt s) refl g;
      })

-- Return

module _ (x : Exprs) (h : ℕ) where
  abbrev ReturnParts : Coded (ℕ × (Option Expr × Unit {0}))
  ReturnParts = in_order (key_at_form key_of.Return) (in_order (optional (expr_in x h)) (sign_form sign_of.Semicolon))

  value_fit : (o : Option Expr) → (nat_le (in_some expr_height o) h && if_there_passes is_expr o) ≡ (true && ((optional (expr_in x h)).fits o && true))
  value_fit None = ap (λ b. b && true) (room_above h)
  value_fit (Some e) = sym (and-true (nat_le (expr_height e) h && is_expr e))

  fit_return : (p : ℕ × (Option Expr × Unit {0})) → good_at h (return_made p) ≡ ReturnParts.fits p
  fit_return (at, (o, u)) = good_made h (stmt_of.Return at o) (in_some expr_height o) _ (stmt_height-Return at o) (stmt_shape-Return at o) ∙ value_fit o

  told_value : (o : Option Expr) (r : List Told) → if_some expr_tokens o r ≡ (optional (expr_in x h)).tell o r
  told_value None r = refl
  told_value (Some e) r = refl

  back_return : (s : Stmt) (layer : Layer) → out-Stmt s ≡ layer → is_return layer ≡ true → (p : ℕ × (Option Expr × Unit {0})) × (return_made p ≡ s)
  back_return s (Stmt-F.Return at value) e g = ((at, (value, tt)), sym (stmt_of.rolls-Return at value) ∙ ap roll-Stmt (sym e) ∙ roll-out-Stmt s)
  back_return s _ e g = absurd (false≢true g)

  abbrev pub return_coded : Level → Coded Stmt
  return_coded l = record { tell = stmt_tokens; fits = stmt_fits (ℕ × (Option Expr × Unit {0})) h ReturnParts return_made is_return; run = return_run x h l; starts = key_code key_of.Return ∷ []; goes = []; empties = false }

  pub return_law : ExprLaws x → (l : Level) → Law Stmt (return_coded l)
  unfolding return_run
  return_law lx l =
      stmt_made_law (ℕ × (Option Expr × Unit {0})) h ReturnParts return_made is_return
      (inl (then_a (a_key_at key_of.Return) (then_a (has (optional (expr_in x h)) (optional_law Expr (expr_in x h) (expr_law x lx h) refl)) (a_sign sign_of.Semicolon) refl) refl).laws)
      (record {
        told = λ p r. stmt_tokens-Return p.0 p.1.0 r ∙ ap (λ (t : List Told). key_at key_of.Return p.0 ∷ t) (told_value p.1.0 (sign sign_of.Semicolon ∷ r));
        fit = fit_return;
        is_kind = λ p. ap is_return (stmt_of.outs-Return p.0 p.1.0);
        back = λ s g. back_return s (out-Stmt s) refl g;
      })

-- Break and Continue

told_label : (o : Option Ident) (r : List Told) → labeled o r ≡ (optional ident_form).tell o r
told_label None r = refl
told_label (Some i) r = refl

label_fit : (o : Option Ident) → true ≡ (optional ident_form).fits o
label_fit None = refl
label_fit (Some i) = refl

module _ (x : Exprs) (h : ℕ) (l : Level) where
  abbrev BreakParts : Coded (ℕ × (Option Ident × Unit {0}))
  BreakParts = in_order (key_at_form key_of.Break) (in_order (optional ident_form) (sign_form sign_of.Semicolon))

  fit_break : (p : ℕ × (Option Ident × Unit {0})) → good_at h (break_made p) ≡ BreakParts.fits p
  fit_break (at, (o, u)) = good_made h (stmt_of.Break at o) 0 _ (stmt_height-Break at o) (stmt_shape-Break at o) ∙ ap (λ b. b && true) (room_above h) ∙ ap (λ b. b && true) (label_fit o)

  back_break : (s : Stmt) (layer : Layer) → out-Stmt s ≡ layer → is_break layer ≡ true → (p : ℕ × (Option Ident × Unit {0})) × (break_made p ≡ s)
  back_break s (Stmt-F.Break at label) e g = ((at, (label, tt)), sym (stmt_of.rolls-Break at label) ∙ ap roll-Stmt (sym e) ∙ roll-out-Stmt s)
  back_break s _ e g = absurd (false≢true g)

  abbrev pub break_coded : Coded Stmt
  break_coded = record { tell = stmt_tokens; fits = stmt_fits (ℕ × (Option Ident × Unit {0})) h BreakParts break_made is_break; run = break_run x h l; starts = key_code key_of.Break ∷ []; goes = []; empties = false }

  pub break_law : Law Stmt break_coded
  unfolding break_run
  break_law =
      stmt_made_law (ℕ × (Option Ident × Unit {0})) h BreakParts break_made is_break
      (inl (then_a (a_key_at key_of.Break) (then_a (maybe_a an_ident refl) (a_sign sign_of.Semicolon) refl) refl).laws)
      (record {
        told = λ p r. stmt_tokens-Break p.0 p.1.0 r ∙ ap (λ (t : List Told). key_at key_of.Break p.0 ∷ t) (told_label p.1.0 (sign sign_of.Semicolon ∷ r));
        fit = fit_break;
        is_kind = λ p. ap is_break (stmt_of.outs-Break p.0 p.1.0);
        back = λ s g. back_break s (out-Stmt s) refl g;
      })

module _ (x : Exprs) (h : ℕ) (l : Level) where
  abbrev ContinueParts : Coded (ℕ × (Option Ident × Unit {0}))
  ContinueParts = in_order (key_at_form key_of.Continue) (in_order (optional ident_form) (sign_form sign_of.Semicolon))

  fit_continue : (p : ℕ × (Option Ident × Unit {0})) → good_at h (continue_made p) ≡ ContinueParts.fits p
  fit_continue (at, (o, u)) = good_made h (stmt_of.Continue at o) 0 _ (stmt_height-Continue at o) (stmt_shape-Continue at o) ∙ ap (λ b. b && true) (room_above h) ∙ ap (λ b. b && true) (label_fit o)

  back_continue : (s : Stmt) (layer : Layer) → out-Stmt s ≡ layer → is_continue layer ≡ true → (p : ℕ × (Option Ident × Unit {0})) × (continue_made p ≡ s)
  back_continue s (Stmt-F.Continue at label) e g = ((at, (label, tt)), sym (stmt_of.rolls-Continue at label) ∙ ap roll-Stmt (sym e) ∙ roll-out-Stmt s)
  back_continue s _ e g = absurd (false≢true g)

  abbrev pub continue_coded : Coded Stmt
  continue_coded = record { tell = stmt_tokens; fits = stmt_fits (ℕ × (Option Ident × Unit {0})) h ContinueParts continue_made is_continue; run = continue_run x h l; starts = key_code key_of.Continue ∷ []; goes = []; empties = false }

  pub continue_law : Law Stmt continue_coded
  unfolding continue_run
  continue_law =
      stmt_made_law (ℕ × (Option Ident × Unit {0})) h ContinueParts continue_made is_continue
      (inl (then_a (a_key_at key_of.Continue) (then_a (maybe_a an_ident refl) (a_sign sign_of.Semicolon) refl) refl).laws)
      (record {
        told = λ p r. stmt_tokens-Continue p.0 p.1.0 r ∙ ap (λ (t : List Told). key_at key_of.Continue p.0 ∷ t) (told_label p.1.0 (sign sign_of.Semicolon ∷ r));
        fit = fit_continue;
        is_kind = λ p. ap is_continue (stmt_of.outs-Continue p.0 p.1.0);
        back = λ s g. back_continue s (out-Stmt s) refl g;
      })

-- Throw

module _ (x : Exprs) (h : ℕ) where
  abbrev ThrowParts : Coded (ℕ × (Expr × Unit {0}))
  ThrowParts = in_order (key_at_form key_of.Throw) (in_order (expr_coded x h) (sign_form sign_of.Semicolon))

  fit_throw : (p : ℕ × (Expr × Unit {0})) → good_at h (throw_made p) ≡ ThrowParts.fits p
  fit_throw (at, (e, u)) = good_made h (stmt_of.Throw at e) (expr_height e) _ (stmt_height-Throw at e) (stmt_shape-Throw at e) ∙ sym (and-true (nat_le (expr_height e) h && is_expr e))

  back_throw : (s : Stmt) (layer : Layer) → out-Stmt s ≡ layer → is_throw layer ≡ true → (p : ℕ × (Expr × Unit {0})) × (throw_made p ≡ s)
  back_throw s (Stmt-F.Throw at value) e g = ((at, (value, tt)), sym (stmt_of.rolls-Throw at value) ∙ ap roll-Stmt (sym e) ∙ roll-out-Stmt s)
  back_throw s _ e g = absurd (false≢true g)

throw_room : (x : Exprs) (lx : ExprLaws x) (h : ℕ) → Law (ℕ × (Expr × Unit {0})) (roomy h (ThrowParts x h))
throw_room x lx zero = roomy_zero (ThrowParts x 0) (never_second ℕ (Expr × Unit {0}) (key_at_form key_of.Throw) (in_order (expr_coded x 0) (sign_form sign_of.Semicolon)) (never_first Expr (Unit {0}) (expr_coded x 0) (sign_form sign_of.Semicolon) (expr_never x)))
throw_room x lx (suc k) = roomy_suc k (ThrowParts x (suc k)) (then_a (a_key_at key_of.Throw) (then_a (has (expr_coded x (suc k)) (lx.expr k)) (a_sign sign_of.Semicolon) refl) refl).laws

module _ (x : Exprs) (lx : ExprLaws x) (h : ℕ) (l : Level) where
  abbrev pub throw_coded : Coded Stmt
  throw_coded = record { tell = stmt_tokens; fits = stmt_fits (ℕ × (Expr × Unit {0})) h (roomy h (ThrowParts x h)) throw_made is_throw; run = throw_run x h l; starts = key_code key_of.Throw ∷ []; goes = []; empties = false }

  pub throw_law : Law Stmt throw_coded
  unfolding throw_run
  throw_law =
      stmt_made_law (ℕ × (Expr × Unit {0})) h (roomy h (ThrowParts x h)) throw_made is_throw (throw_room x lx h)
      (record {
        told = λ p r. stmt_tokens-Throw p.0 p.1.0 r;
        fit = fit_throw x h;
        is_kind = λ p. ap is_throw (stmt_of.outs-Throw p.0 p.1.0);
        back = λ s g. back_throw x h s (out-Stmt s) refl g;
      })
