-- Members and declarations by their parts.
use Rattle.std.proofs.Common.{◌≡◌, Bool, ℕ, List, map, ap, ◌∙◌}
use Rattle.jc_tree.specs.declared.statement.Clause.{Clause}
use Rattle.jc_tree.specs.declared.statement.Declaration.{Declaration, out-Declaration, map-Declaration, fold_out-Declaration}
use Rattle.jc_tree.specs.declared.statement.LocalVars.{LocalVars}
use Rattle.jc_tree.specs.declared.statement.Member.{Member, Member-F, out-Member, map-Member, fold_out-Member}
use Rattle.jc_tree.specs.declared.statement.Member.TheVariants as member_of
use Rattle.jc_tree.specs.declared.statement.MethodHead.{MethodHead}
use Rattle.jc_tree.specs.declared.statement.Stmt.{Stmt}
use Rattle.jc_declares.specs.Sites.{Walk, Uses, Membered, membered, uses_of_stmt, uses_of_clause, sites_of_declaration, member_sites, stmt_uses, clause_uses, declaration_sites, declaration_walk}

membered-out : (node : Member) → membered node ≡ member_sites (map-Member Member Stmt Clause Declaration Membered Uses Uses Walk membered uses_of_stmt uses_of_clause sites_of_declaration (out-Member node))
unfolding membered uses_of_stmt uses_of_clause sites_of_declaration
membered-out node = fold_out-Member Membered Uses Uses Walk member_sites stmt_uses clause_uses declaration_sites node

membered-at : (node : Member) (l : Member-F Member Stmt Clause Declaration) → out-Member node ≡ l → membered node ≡ member_sites (map-Member Member Stmt Clause Declaration Membered Uses Uses Walk membered uses_of_stmt uses_of_clause sites_of_declaration l)
membered-at node l e = membered-out node ∙ ap (λ (l : Member-F Member Stmt Clause Declaration). member_sites (map-Member Member Stmt Clause Declaration Membered Uses Uses Walk membered uses_of_stmt uses_of_clause sites_of_declaration l)) e

pub member-Semicolon : (at : ℕ) → membered (member_of.Semicolon at) ≡ member_sites (Member-F.Semicolon at)
member-Semicolon at = membered-at (member_of.Semicolon at) _ (member_of.outs-Semicolon at)

pub member-Initialiser : (at : ℕ) (is_static : Bool) (items : List Stmt) → membered (member_of.Initialiser at is_static items) ≡ member_sites (Member-F.Initialiser at is_static (map uses_of_stmt items))
member-Initialiser at is_static items = membered-at (member_of.Initialiser at is_static items) _ (member_of.outs-Initialiser at is_static items)

pub member-Fields : (vars : LocalVars) → membered (member_of.Fields vars) ≡ member_sites (Member-F.Fields vars)
member-Fields vars = membered-at (member_of.Fields vars) _ (member_of.outs-Fields vars)

pub member-Bare : (head : MethodHead) → membered (member_of.Bare head) ≡ member_sites (Member-F.Bare head)
member-Bare head = membered-at (member_of.Bare head) _ (member_of.outs-Bare head)

pub member-Method : (head : MethodHead) (items : List Stmt) → membered (member_of.Method head items) ≡ member_sites (Member-F.Method head (map uses_of_stmt items))
member-Method head items = membered-at (member_of.Method head items) _ (member_of.outs-Method head items)

pub member-Nested : (d : Declaration) → membered (member_of.Nested d) ≡ member_sites (Member-F.Nested (sites_of_declaration d))
member-Nested d = membered-at (member_of.Nested d) _ (member_of.outs-Nested d)

declaration-out : (node : Declaration) → sites_of_declaration node ≡ declaration_sites (map-Declaration Member Stmt Clause Declaration Membered Uses Uses Walk membered uses_of_stmt uses_of_clause sites_of_declaration (out-Declaration node))
unfolding membered uses_of_stmt uses_of_clause sites_of_declaration
declaration-out node = fold_out-Declaration Membered Uses Uses Walk member_sites stmt_uses clause_uses declaration_sites node

pub declaration-parts : (node : Declaration) → sites_of_declaration node ≡ declaration_walk (out-Declaration node).head (map membered (out-Declaration node).members)
declaration-parts node = declaration-out node

pub ruleset members = (member-Semicolon, member-Initialiser, member-Fields, member-Bare, member-Method, member-Nested)
