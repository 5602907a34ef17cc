use Rattle.std.proofs.Common.{◌≡◌, subst, sym, ap, ◌∙◌, true, false, [], OnOk}
use Rattle.jc_declares.specs.Words.{says_static}
use Rattle.jc_declares.specs.Sites.{Membered, membered}
use Rattle.jc_declares.specs.Heads.{heads_of}
use Rattle.jc_heads.specs.Joining.{joined_heads, counted}
use Rattle.jc_heads.proofs.Declared.{declared_whole}
use Rattle.jc_heads.proofs.Joinings.{heads_nothing}
use Rattle.jc_heads.proofs.MembersByParts.{member-Semicolon, member-Initialiser, member-Fields, member-Bare, member-Method, member-Nested}
use Rattle.jc_heads.proofs.walking.+walk.Goals as goal

pub push_declaration-returns : goal.push_declaration-returns
push_declaration-returns t c =
    c.in_ok-push_members.ensures
    ∙ declared_whole c.args.heads.now c.push_class.new.heads c.push_unwritten.new.heads c.args.at.now c.in_ok-inner.inner c.args.declaration.now c.len-class.result c.len-scope.result c.slice.result.now
    c.slice-2.result.now
    c.in_ok-push_class.ensures
    c.in_ok-inner.ensures
    c.len-class.ensures
    c.len-scope.ensures
    c.slice.ensures
    c.slice-2.ensures
    c.in_ok-push_unwritten.ensures

pub push_member-returns-in-Semicolon : goal.push_member-returns-in-Semicolon
push_member-returns-in-Semicolon t c =
    sym (heads_nothing c.args.heads.now)
    ∙ ap (λ (m : Membered). joined_heads c.args.heads.now (heads_of (m.walk c.args.at.now (counted c.args.heads.now)))) (sym (ap membered c.in-Semicolon.is ∙ member-Semicolon c.in-Semicolon.at))

pub push_member-returns-in-Initialiser : goal.push_member-returns-in-Initialiser
push_member-returns-in-Initialiser t c =
    sym (heads_nothing c.args.heads.now)
    ∙ ap (λ (m : Membered). joined_heads c.args.heads.now (heads_of (m.walk c.args.at.now (counted c.args.heads.now)))) (sym (ap membered c.in-Initialiser.is ∙ member-Initialiser _ _ _))

pub push_member-returns-in-Fields : goal.push_member-returns-in-Fields
push_member-returns-in-Fields t c =
    subst (λ (m : Membered). OnOk c.push_fields.result (c.push_fields.new.heads ≡ joined_heads c.args.heads.now (heads_of (m.walk c.args.at.now (counted c.args.heads.now)))))
    (sym (ap membered c.in-Fields.is ∙ member-Fields c.in-Fields.vars))
    (c.push_fields.ensures (says_static c.in-Fields.vars.modifiers))

pub push_member-returns-in-Bare : goal.push_member-returns-in-Bare
push_member-returns-in-Bare t c =
    subst (λ (m : Membered). OnOk c.push_method.result (c.push_method.new.heads ≡ joined_heads c.args.heads.now (heads_of (m.walk c.args.at.now (counted c.args.heads.now)))))
    (sym (ap membered c.in-Bare.is ∙ member-Bare c.in-Bare.head))
    (c.push_method.ensures false [])

pub push_member-returns-in-Method : goal.push_member-returns-in-Method
push_member-returns-in-Method t c =
    subst (λ (m : Membered). OnOk c.push_method-in-Method.result (c.push_method-in-Method.new.heads ≡ joined_heads c.args.heads.now (heads_of (m.walk c.args.at.now (counted c.args.heads.now)))))
    (sym (ap membered c.in-Method.is ∙ member-Method c.in-Method.head _))
    (c.push_method-in-Method.ensures true [])

pub push_member-returns-in-Nested : goal.push_member-returns-in-Nested
push_member-returns-in-Nested t c =
    subst (λ (m : Membered). OnOk c.push_declaration.result (c.push_declaration.new.heads ≡ joined_heads c.args.heads.now (heads_of (m.walk c.args.at.now (counted c.args.heads.now)))))
    (sym (ap membered c.in-Nested.is ∙ member-Nested c.in-Nested.declaration))
    c.push_declaration.ensures
