-- Statements and declarations of each height are read as they are to be.
use Rattle.std.proofs.Common.{◌≡◌, ℕ, zero, suc, false, refl, ap, ◌∙◌}
use Rattle.std.proofs.lemmas.Bool.{and_left}
use Rattle.std.specs.Prelude.{nat_le}
use Rattle.jc_tree.specs.declared.statement.Clause.{Clause}
use Rattle.jc_tree.specs.declared.statement.Declaration.{Declaration}
use Rattle.jc_tree.specs.declared.statement.Member.{Member}
use Rattle.jc_tree.specs.declared.statement.Stmt.{Stmt, Stmt-F, out-Stmt, map-Stmt}
use Rattle.jc_tree.specs.Heights.{clause_height, declaration_height, member_height, stmt_height, stmt_step}
use Rattle.jc_tree.proofs.HeightsOfStatements.{declaration_height-parts, stmt_height-out}
use Rattle.jc_grammar.specs.Units.{behind_else, in_block, in_body, in_switch, stmt_shape}
use Rattle.jc_reading.proofs.Rooms.{room_none}
use Rattle.jc_part_laws.specs.PartReading.{Exprs}
use Rattle.jc_part_laws.proofs.ExprForms.{ExprLaws}
use Rattle.jc_unit_laws.specs.UnitReading.{Level}
use Rattle.jc_unit_laws.specs.MemberReading.{levels, next_level, no_level}
use Rattle.jc_unit_laws.proofs.Contexts.{body_laws, case_item_laws, other_laws}
use Rattle.jc_unit_laws.proofs.Firsts.{first_laws}
use Rattle.jc_unit_laws.proofs.Items.{item_laws}
use Rattle.jc_unit_laws.proofs.MemberRests.{RestLaws}
use Rattle.jc_unit_laws.proofs.Members.{member_laws}
use Rattle.jc_unit_laws.proofs.RestForms.{rest_laws}
use Rattle.jc_unit_laws.proofs.Settled.{settled_body, settled_other}
use Rattle.jc_unit_laws.proofs.SimpleStatements.{LevelLaws}

-- each statement has a height

layer_tall : (l : Stmt-F Member Stmt Clause Declaration) → nat_le (stmt_step (map-Stmt Member Stmt Clause Declaration ℕ ℕ ℕ ℕ member_height stmt_height clause_height declaration_height l)) 0 ≡ false
layer_tall (Stmt-F.Declared d) = ap (λ n. nat_le n 0) (declaration_height-parts d) ∙ room_none _
layer_tall (Stmt-F.Local vars) = room_none _
layer_tall (Stmt-F.Block at items) = room_none _
layer_tall (Stmt-F.Empty at) = room_none 0
layer_tall (Stmt-F.Effect e) = room_none _
layer_tall (Stmt-F.Labeled label body) = room_none _
layer_tall (Stmt-F.If arms otherwise) = room_none _
layer_tall (Stmt-F.While at test body) = room_none _
layer_tall (Stmt-F.Do at body test) = room_none _
layer_tall (Stmt-F.For at head body) = room_none _
layer_tall (Stmt-F.Switch at selector groups) = room_none _
layer_tall (Stmt-F.Return at value) = room_none _
layer_tall (Stmt-F.Break at label) = room_none 0
layer_tall (Stmt-F.Continue at label) = room_none 0
layer_tall (Stmt-F.Throw at value) = room_none _
layer_tall (Stmt-F.Try at resources items clauses) = room_none _
layer_tall (Stmt-F.ThisCall at args) = room_none _
layer_tall (Stmt-F.SuperCall at args) = room_none _

pub stmt_tall : (s : Stmt) → nat_le (stmt_height s) 0 ≡ false
stmt_tall s = ap (λ n. nat_le n 0) (stmt_height-out s) ∙ layer_tall (out-Stmt s)

pub record Known (h : ℕ) (l : Level) : Type 0 where
  pub laws : LevelLaws h l
  pub rest : RestLaws h l

known_none : Known 0 no_level
known_none = record {
  laws = record {
    body = record { stops = λ ts. refl; never = λ s. and_left (nat_le (stmt_height s) 0) (in_body (stmt_shape s)) (stmt_tall s) };
    other = record { stops = λ ts. refl; never = λ s. and_left (nat_le (stmt_height s) 0) (behind_else (stmt_shape s)) (stmt_tall s) };
    item = record { stops = λ ts. refl; never = λ s. and_left (nat_le (stmt_height s) 0) (in_block (stmt_shape s)) (stmt_tall s) };
    case_item = record { stops = λ ts. refl; never = λ s. and_left (nat_le (stmt_height s) 0) (in_switch (stmt_shape s)) (stmt_tall s) };
    first = record { stops = λ ts. refl; never = λ s. and_left (nat_le (stmt_height s) 0) (stmt_shape s).good (stmt_tall s) };
  };
  rest = tt;
}

-- the next height
known_next : (x : Exprs) (lx : ExprLaws x) (h : ℕ) (l : Level) → Known h l → Known (suc h) (next_level x h l)
known_next x lx h l k =
    let lr = rest_laws x h l (member_laws x lx h l k.laws k.rest) in
    record {
      laws = record {
        body = body_laws x lx h l k.laws;
        other = other_laws x lx h l k.laws;
        item = item_laws x lx h l k.laws lr;
        case_item = case_item_laws x lx h l k.laws;
        first = first_laws x lx h l k.laws lr;
        closed = λ ts s r t e z. settled_body x lx h l k.laws ts s r e z t.0 t.1;
        closed_other = λ ts s r t e z. settled_other x lx h l k.laws ts s r e z t.0 t.1;
      };
      rest = lr;
    }

pub known : (x : Exprs) (lx : ExprLaws x) (h : ℕ) → Known h (levels x h)
unfolding levels
known x lx zero = known_none
known x lx (suc h) = known_next x lx h (levels x h) (known x lx h)
