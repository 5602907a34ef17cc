-- What is read of statements takes a token, and its reach is not behind what is left.
use Rattle.std.proofs.Common.{◌≡◌, ℕ, zero, suc, ◌≤◌, List, [], ◌∷◌, length, inl, inr, false, refl, sym, subst, ⊎_elim, arith}
use Rattle.jc_parse_expr.proofs.PrimeNears.{near_class}
use Rattle.jc_parse_parts.proofs.PartInsides.{modifier_ahead}
use Rattle.jc_lexer.specs.declared.token.Key.TheVariants as key_of
use Rattle.jc_lexer.specs.declared.token.Sign.TheVariants as sign_of
use Rattle.jc_lexer.specs.declared.token.Token.{Token}
use Rattle.jc_tree.specs.declared.statement.Clause.{Clause}
use Rattle.jc_tree.specs.declared.statement.Stmt.{Stmt}
use Rattle.jc_reading.specs.Kinds.{sign_code, key_code}
use Rattle.jc_reading.specs.Reading.{Read, Stopped, Run, in_turn, any_number, of_kind, at_kind, each_behind, either, an_ident_at}
use Rattle.jc_reading.proofs.Coded.{Coded, formed}
use Rattle.jc_reading.proofs.Forms.{Lawful}
use Rattle.jc_reading.proofs.Lowest.{Law, Void}
use Rattle.jc_reading.proofs.Turns.{lawful_ahead}
use Rattle.jc_expr_laws.specs.ExprReading.{exprs, readers}
use Rattle.jc_expr_laws.proofs.ExprWhole.{expr_laws}
use Rattle.jc_unit_laws.specs.UnitReading.{Level, expr_in_run, arm_made, arm_run, parens_run, braced_run, case_run, catch_made, catch_run}
use Rattle.jc_unit_laws.specs.MemberReading.{levels}
use Rattle.jc_unit_laws.proofs.Levels.{known}
use Rattle.jc_unit_laws.proofs.SimpleStatements.{LevelLaws, body_coded, body_law, case_item_coded, case_item_law, first_coded, first_law, item_coded, item_law, other_coded}
use Rattle.jc_unit_laws.proofs.Switches.{case_coded, case_laws}
use Rattle.jc_parse_type.specs.TypeReading.{class_run}
use Rattle.jc_part_laws.specs.PartReading.{modifier_run, modifiers_run}
use Rattle.jc_reading.specs.Reach.{Ahead, GoesAhead, Near}
use Rattle.jc_reading.proofs.Nears.{ahead_as, ahead_near, ahead_picking, ahead_turn, near_each, near_as, near_either, near_picking, near_room, near_turn, near_any}
use Rattle.jc_parse_heads.specs.UnitCode.{braced_items_run, braces_list, branch_of, branch_once_run}

void_ahead : (A : Type 0) (c : Coded A) → Void A c → GoesAhead c.run
void_ahead A c v ts = subst (λ (m : Read A). Ahead ts m) (sym (v.stops ts)) (omega arith)

pub law_ahead : (A : Type 0) (c : Coded A) → c.empties ≡ false → Law A c → GoesAhead c.run
law_ahead A c solid l = ⊎_elim (λ (la : Lawful A (formed c)). (lawful_ahead A (formed c) la solid)) (λ v. void_ahead A c v) l

laws : (h : ℕ) → LevelLaws h (levels exprs h)
laws h = (known exprs expr_laws h).laws

pub body_ahead : (h : ℕ) → GoesAhead (levels exprs h).body
body_ahead h = law_ahead Stmt (body_coded h (levels exprs h)) refl (body_law h (levels exprs h) (laws h))

pub item_ahead : (h : ℕ) → GoesAhead (levels exprs h).item
item_ahead h = law_ahead Stmt (item_coded h (levels exprs h)) refl (item_law h (levels exprs h) (laws h))

pub case_item_ahead : (h : ℕ) → GoesAhead (levels exprs h).case_item
case_item_ahead h = law_ahead Stmt (case_item_coded h (levels exprs h)) refl (case_item_law h (levels exprs h) (laws h))

pub first_ahead : (h : ℕ) → GoesAhead (levels exprs h).first
first_ahead h = law_ahead Stmt (first_coded h (levels exprs h)) refl (first_law h (levels exprs h) (laws h))

pub group_ahead : (h : ℕ) → GoesAhead (case_run exprs h (levels exprs h))
group_ahead h = lawful_ahead Clause (formed (case_coded exprs h (levels exprs h))) (case_laws exprs expr_laws h (levels exprs h) (laws h)) refl

pub braced_inside : (h : ℕ) → Near (braced_run (levels exprs h).item)
braced_inside h =
    near_turn (of_kind (sign_code sign_of.LeftBrace)) _ (near_picking _)
    (near_turn (any_number (levels exprs h).item) (of_kind (sign_code sign_of.RightBrace)) (near_any (levels exprs h).item (ahead_near (levels exprs h).item (item_ahead h))) (near_picking _))

pub braced_items_inside : (h : ℕ) → Near (braced_items_run h)
unfolding braced_items_run
braced_items_inside h = near_as braces_list _ (braced_inside h)

pub modifiers_inside : (h : ℕ) → Near (modifiers_run exprs h)
modifiers_inside h = near_any (modifier_run exprs h) (ahead_near (modifier_run exprs h) (modifier_ahead h))

pub catch_ahead : (h : ℕ) → GoesAhead (catch_run exprs h (levels exprs h))
unfolding catch_run
catch_ahead h =
    ahead_as catch_made _
    (ahead_turn (at_kind (key_code key_of.Catch)) _ (ahead_picking _) (near_turn (of_kind (sign_code sign_of.LeftParen)) _ (near_picking _) (near_turn (modifiers_run exprs h) _ (modifiers_inside h) (near_turn (class_run h) _ (near_class h)
    (near_turn (each_behind sign_of.Or (class_run h)) _ (near_each sign_of.Or (class_run h) (near_class h)) (near_turn an_ident_at _ (near_picking _) (near_turn (of_kind (sign_code sign_of.RightParen)) (braced_run (levels exprs h).item) (near_picking _) (braced_inside h))))))))

pub expr_inside : (h : ℕ) → Near (exprs.expr h)
unfolding readers
expr_inside zero ts = omega arith
expr_inside (suc h) ts = (expr_laws.expr h).within ts

pub expr_in_inside : (h : ℕ) → Near (expr_in_run exprs h)
expr_in_inside h = near_room h (exprs.expr h) (expr_inside h)

other_law : (h : ℕ) (l : Level) → LevelLaws h l → Law Stmt (other_coded h l)
other_law zero l v = inr v.other
other_law (suc k) l f = inl f.other

pub other_ahead : (h : ℕ) → GoesAhead (levels exprs h).other
other_ahead h = law_ahead Stmt (other_coded h (levels exprs h)) refl (other_law h (levels exprs h) (laws h))

pub arm_ahead : (h : ℕ) → GoesAhead (arm_run exprs h (levels exprs h))
unfolding arm_run
arm_ahead h =
    ahead_as arm_made (in_turn (at_kind (key_code key_of.If)) (in_turn (parens_run (exprs.expr h)) (levels exprs h).body))
    (ahead_turn (at_kind (key_code key_of.If)) (in_turn (parens_run (exprs.expr h)) (levels exprs h).body) (ahead_picking _)
    (near_turn (parens_run (exprs.expr h)) (levels exprs h).body
    (near_turn (of_kind (sign_code sign_of.LeftParen)) (in_turn (exprs.expr h) (of_kind (sign_code sign_of.RightParen))) (near_picking _) (near_turn (exprs.expr h) (of_kind (sign_code sign_of.RightParen)) (expr_inside h) (near_picking _)))
    (ahead_near (levels exprs h).body (body_ahead h))))

pub branch_ahead : (h : ℕ) → GoesAhead (branch_once_run h)
unfolding branch_once_run
branch_ahead h =
    ahead_as branch_of (in_turn (of_kind (key_code key_of.Else)) (either (key_code key_of.If ∷ []) (arm_run exprs h (levels exprs h)) (levels exprs h).other))
    (ahead_turn (of_kind (key_code key_of.Else)) (either (key_code key_of.If ∷ []) (arm_run exprs h (levels exprs h)) (levels exprs h).other) (ahead_picking _)
    (near_either (key_code key_of.If ∷ []) (arm_run exprs h (levels exprs h)) (levels exprs h).other (ahead_near _ (arm_ahead h)) (ahead_near (levels exprs h).other (other_ahead h))))

pub stop_near : {A : Type 0} (m : Run A) (ts : List Token) (l : ℕ) → GoesAhead m → m ts ≡ Stopped l → l ≤ length ts
stop_near {A = A} m ts l w e = subst (λ (v : Read A). Ahead ts v) e (w ts)
