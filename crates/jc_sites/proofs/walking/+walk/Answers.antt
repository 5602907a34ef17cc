use Rattle.std.proofs.Common.{◌≡◌, List, subst, sym, ap, ◌∙◌, true, OnOk}
use Rattle.jc_tree.specs.declared.statement.Stmt.{Stmt}
use Rattle.jc_declares.specs.Sites.{Membered, membered, method_walk, only_uses, used_at, uses_in_each, uses_of_stmt}
use Rattle.jc_sites.specs.Joining.{with_sites, counted}
use Rattle.jc_sites.proofs.Declared.{declared_whole}
use Rattle.jc_sites.proofs.Joinings.{sites_nothing}
use Rattle.jc_sites.proofs.MembersByParts.{membered-Semicolon, membered-Initialiser, membered-Method}
use Rattle.jc_sites.proofs.walking.+walk.Goals as goal

pub push_declaration-returns : goal.push_declaration-returns
push_declaration-returns t c =
    c.in_ok-push_members.ensures
    ∙ declared_whole c.args.sites.now c.push_class.new.sites c.push_unwritten.new.sites c.args.at.now c.in_ok-inner.inner c.args.declaration.now c.len-class.result c.len-scope.result c.slice.result.now
    c.slice-2.result.now
    c.in_ok-push_class.ensures
    c.in_ok-inner.ensures
    c.len-class.ensures
    c.len-scope.ensures
    c.slice.ensures
    c.slice-2.ensures
    c.in_ok-push_unwritten.ensures

pub push_member-returns-in-Semicolon : goal.push_member-returns-in-Semicolon
push_member-returns-in-Semicolon t c =
    sym (sites_nothing c.args.sites.now)
    ∙ ap (λ (m : Membered). with_sites c.args.sites.now (m.walk c.args.at.now (counted c.args.sites.now))) (sym (ap membered c.in-Semicolon.is ∙ membered-Semicolon c.in-Semicolon.at))

pub push_member-returns-in-Initialiser : goal.push_member-returns-in-Initialiser
push_member-returns-in-Initialiser t c =
    subst (λ (m : Membered). OnOk c.push_initialiser.result (c.push_initialiser.new.sites ≡ with_sites c.args.sites.now (m.walk c.args.at.now (counted c.args.sites.now))))
    (sym (ap membered c.in-Initialiser.is ∙ membered-Initialiser _ _ _))
    (subst (λ (xs : List Stmt). OnOk c.push_initialiser.result (c.push_initialiser.new.sites ≡ with_sites c.args.sites.now (only_uses (used_at c.args.at.now c.args.at.now.scope c.in-Initialiser.is_static (uses_in_each uses_of_stmt xs)))))
    c.slice.ensures
    c.push_initialiser.ensures)

pub push_member-returns-in-Method : goal.push_member-returns-in-Method
push_member-returns-in-Method t c =
    subst (λ (m : Membered). OnOk c.push_method.result (c.push_method.new.sites ≡ with_sites c.args.sites.now (m.walk c.args.at.now (counted c.args.sites.now))))
    (sym (ap membered c.in-Method.is ∙ membered-Method c.in-Method.head _))
    (subst (λ (xs : List Stmt). OnOk c.push_method.result (c.push_method.new.sites ≡ with_sites c.args.sites.now (method_walk c.in-Method.head true (uses_in_each uses_of_stmt xs) c.args.at.now (counted c.args.sites.now))))
    c.slice-in-Method.ensures
    c.push_method.ensures)
