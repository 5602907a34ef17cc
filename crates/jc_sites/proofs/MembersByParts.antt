-- Members and declarations by their parts.
use Rattle.std.proofs.Common.{◌≡◌, ℕ, Bool, List, map, ap, ◌∙◌}
use Rattle.jc_tree.specs.declared.statement.Clause.{Clause}
use Rattle.jc_tree.specs.declared.statement.Declaration.{Declaration, out-Declaration, map-Declaration, fold_out-Declaration}
use Rattle.jc_tree.specs.declared.statement.LocalVars.{LocalVars}
use Rattle.jc_tree.specs.declared.statement.Member.TheVariants as anMember
use Rattle.jc_tree.specs.declared.statement.Member.{Member, out-Member, map-Member, fold_out-Member, Member-F}
use Rattle.jc_tree.specs.declared.statement.MethodHead.{MethodHead}
use Rattle.jc_tree.specs.declared.statement.Stmt.{Stmt}
use Rattle.jc_declares.specs.Sites.{Membered, Uses, Walk, membered, uses_of_stmt, uses_of_clause, sites_of_declaration, member_sites, stmt_uses, clause_uses, declaration_sites}

membered-out : (node : Member) → membered node ≡ member_sites (map-Member Member Stmt Clause Declaration Membered Uses Uses Walk membered uses_of_stmt uses_of_clause sites_of_declaration (out-Member node))
unfolding membered uses_of_stmt uses_of_clause sites_of_declaration
membered-out node = fold_out-Member Membered Uses Uses Walk member_sites stmt_uses clause_uses declaration_sites node

membered-at : (node : Member) (l : Member-F Member Stmt Clause Declaration) → out-Member node ≡ l → membered node ≡ member_sites (map-Member Member Stmt Clause Declaration Membered Uses Uses Walk membered uses_of_stmt uses_of_clause sites_of_declaration l)
membered-at node l e = membered-out node ∙ ap (λ (l : Member-F Member Stmt Clause Declaration). member_sites (map-Member Member Stmt Clause Declaration Membered Uses Uses Walk membered uses_of_stmt uses_of_clause sites_of_declaration l)) e

pub membered-Semicolon : (at : ℕ) → membered (anMember.Semicolon at) ≡ member_sites (Member-F.Semicolon at)
membered-Semicolon at = membered-at (anMember.Semicolon at) _ (anMember.outs-Semicolon at)

pub membered-Initialiser : (at : ℕ) (is_static : Bool) (items : List Stmt) → membered (anMember.Initialiser at is_static items) ≡ member_sites (Member-F.Initialiser at is_static (map uses_of_stmt items))
membered-Initialiser at is_static items = membered-at (anMember.Initialiser at is_static items) _ (anMember.outs-Initialiser at is_static items)

pub membered-Fields : (vars : LocalVars) → membered (anMember.Fields vars) ≡ member_sites (Member-F.Fields vars)
membered-Fields vars = membered-at (anMember.Fields vars) _ (anMember.outs-Fields vars)

pub membered-Bare : (head : MethodHead) → membered (anMember.Bare head) ≡ member_sites (Member-F.Bare head)
membered-Bare head = membered-at (anMember.Bare head) _ (anMember.outs-Bare head)

pub membered-Method : (head : MethodHead) (items : List Stmt) → membered (anMember.Method head items) ≡ member_sites (Member-F.Method head (map uses_of_stmt items))
membered-Method head items = membered-at (anMember.Method head items) _ (anMember.outs-Method head items)

pub membered-Nested : (it : Declaration) → membered (anMember.Nested it) ≡ member_sites (Member-F.Nested (sites_of_declaration it))
membered-Nested it = membered-at (anMember.Nested it) _ (anMember.outs-Nested it)

sites_of_declaration-out : (node : Declaration) → sites_of_declaration node ≡ declaration_sites (map-Declaration Member Stmt Clause Declaration Membered Uses Uses Walk membered uses_of_stmt uses_of_clause sites_of_declaration (out-Declaration node))
unfolding membered uses_of_stmt uses_of_clause sites_of_declaration
sites_of_declaration-out node = fold_out-Declaration Membered Uses Uses Walk member_sites stmt_uses clause_uses declaration_sites node

pub sites_of_declaration-parts : (node : Declaration) → sites_of_declaration node ≡ declaration_sites (record { head = (out-Declaration node).head; members = (map membered (out-Declaration node).members) })
sites_of_declaration-parts node = sites_of_declaration-out node

pub ruleset statements = (membered-Semicolon, membered-Initialiser, membered-Fields, membered-Bare, membered-Method, membered-Nested, sites_of_declaration-parts)
