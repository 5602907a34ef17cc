-- Variables, members and written methods one by one.
use Rattle.std.proofs.Common.{◌≡◌, Bool, true, not, ◌&&◌, ◌||◌, List, [], ◌∷◌, ◌++◌, Option, Some, None, refl, ap, sym, ◌∙◌}
use Rattle.jc_tree.specs.declared.statement.LocalVars.{LocalVars}
use Rattle.jc_tree.specs.declared.statement.Member.{out-Member}
use Rattle.jc_tree.specs.declared.statement.Member.TheVariants as anMember
use Rattle.jc_tree.specs.declared.statement.Stmt.TheVariants as anStmt
use Rattle.jc_tree.specs.declared.statement.Stmt.{Stmt}
use Rattle.jc_tree.specs.declared.statement.Var.{Var}
use Rattle.jc_types.specs.declared.ids.ClassId.{ClassId}
use Rattle.jc_types.specs.declared.ids.FieldId.{FieldId}
use Rattle.jc_types.specs.declared.ids.MethodId.{MethodId}
use Rattle.jc_types.specs.declared.table.Table.{Table}
use Rattle.jc_stmts_spec.specs.Bodies.{Initialiser, MemberLayer, all_call_this, begins_of, behind_member, behind_vars, calls_this, is_constructor, of_field, of_member, of_vars, written_bodies, written_body}
use Rattle.jc_stmts_bodies.specs.Flat.{all_call, behind_declared, behind_in, declared_in, vars_in, written_in}

vars_none : (T : Table) (vs : List Var) → vars_in T vs [] ≡ []
vars_none T [] = refl
vars_none T (v ∷ vs) = vars_none T vs

pub vars_are : (T : Table) (vs : List Var) (fs : List FieldId) → of_vars T vs fs ≡ vars_in T vs fs
vars_are T [] fs = refl
vars_are T (v ∷ vs) [] = sym (vars_none T vs)
vars_are T (v ∷ vs) (f ∷ fs) = ap (λ xs. of_field T f v.init ++ xs) (vars_are T vs fs)

behind_none : (vs : List Var) → behind_in vs [] ≡ []
behind_none [] = refl
behind_none (v ∷ vs) = behind_none vs

pub behind_are : (vs : List Var) (fs : List FieldId) → behind_vars vs fs ≡ behind_in vs fs
behind_are [] fs = refl
behind_are (v ∷ vs) [] = sym (behind_none vs)
behind_are (v ∷ vs) (f ∷ fs) = behind_are vs fs

pub fields_are : (T : Table) (ls : LocalVars) (fs : List FieldId) → of_member T (out-Member (anMember.Fields ls)) fs ≡ declared_in T ls fs
fields_are T ls fs = ap (λ (l : MemberLayer). of_member T l fs) (anMember.outs-Fields ls) ∙ vars_are T (ls.first ∷ ls.more) fs

pub fields_behind : (ls : LocalVars) (fs : List FieldId) → behind_member (out-Member (anMember.Fields ls)) fs ≡ behind_declared ls fs
fields_behind ls fs = ap (λ (l : MemberLayer). behind_member l fs) (anMember.outs-Fields ls) ∙ behind_are (ls.first ∷ ls.more) fs

all_call_none : (T : Table) (ms : List MethodId) → all_call T ms [] ≡ true
all_call_none T [] = refl
all_call_none T (m ∷ ms) = all_call_none T ms

pub all_call_are : (T : Table) (ms : List MethodId) (bs : List (Option (List Stmt))) → all_call_this T ms bs ≡ all_call T ms bs
all_call_are T [] bs = refl
all_call_are T (m ∷ ms) [] = sym (all_call_none T ms)
all_call_are T (m ∷ ms) (None ∷ bs) = all_call_are T ms bs
all_call_are T (m ∷ ms) (Some ss ∷ bs) = ap (λ b. (not (is_constructor T m) || calls_this (begins_of ss)) && b) (all_call_are T ms bs)

written_none : (T : Table) (k : ClassId) (is : List Initialiser) (first : Bool) (ms : List MethodId) → written_in T k is first ms [] ≡ []
written_none T k is first [] = refl
written_none T k is first (m ∷ ms) = written_none T k is first ms

pub written_are : (T : Table) (k : ClassId) (is : List Initialiser) (first : Bool) (ms : List MethodId) (bs : List (Option (List Stmt))) → written_bodies T k is first ms bs ≡ written_in T k is first ms bs
written_are T k is first [] bs = refl
written_are T k is first (m ∷ ms) [] = sym (written_none T k is first ms)
written_are T k is first (m ∷ ms) (None ∷ bs) = written_are T k is first ms bs
written_are T k is first (m ∷ ms) (Some ss ∷ bs) = ap (λ xs. written_body T k is m first ss ∷ xs) (written_are T k is (first && not (is_constructor T m)) ms bs)

pub ruleset vars = (fields_are, fields_behind)

pub ruleset written = (written_are, all_call_are)

pub ruleset members = (anMember.outs-Semicolon, anMember.outs-Initialiser, anMember.outs-Fields, anMember.outs-Bare, anMember.outs-Method, anMember.outs-Nested)

pub ruleset stmts = (anStmt.outs-Local, anStmt.outs-Declared, anStmt.outs-Block, anStmt.outs-Empty, anStmt.outs-Effect, anStmt.outs-Labeled, anStmt.outs-If, anStmt.outs-While, anStmt.outs-Do, anStmt.outs-For, anStmt.outs-Switch, anStmt.outs-Return, anStmt.outs-Break, anStmt.outs-Continue, anStmt.outs-Throw, anStmt.outs-Try, anStmt.outs-ThisCall, anStmt.outs-SuperCall)
