use Rattle.std.proofs.Common.{◌≡◌, Bool, true, false, List, [], ℕ, slice_get, sym, ap, ◌∙◌}
use Rattle.jc_declares.specs.declared.heads.Path.{Path}
use Rattle.jc_declares.specs.Knowing.{written_supers}
use Rattle.jc_looking.specs.Members.{known_in}
use Rattle.jc_settling.specs.Supers.{superclass_in, interfaces_in, before, behind}
use Rattle.jc_settling.proofs.Supers.{after_first, after_both}
use Rattle.jc_settling.proofs.needed.written_supers.Goals as goal

pub returns-then-not-branch : goal.returns-then-not-branch
returns-then-not-branch c =
    let heads = c.args.scene.now.declared.heads.now in
    let known = known_in c.args.scene.now.known.now in
    let first : behind false c.push_supers.new.supers ≡ before [] (written_supers heads known c.args.class (superclass_in (slice_get heads.classes c.args.class))) =
    ap (λ (b : Bool). behind b c.push_supers.new.supers) (sym c.if-not-branch.true) ∙ c.in_ok-push_supers.ensures
    ∙ ap (λ (xs : List ℕ). before xs (written_supers heads known c.args.class c.superclass_of.result.now)) c.new-supers.ensures
    ∙ ap (λ (ps : List Path). before [] (written_supers heads known c.args.class ps)) c.superclass_of.ensures in
    sym (after_first heads known c.args.class c.push_supers.new.supers first)

pub returns-then-not-branch-2 : goal.returns-then-not-branch-2
returns-then-not-branch-2 c =
    let heads = c.args.scene.now.declared.heads.now in
    let known = known_in c.args.scene.now.known.now in
    let first : behind true c.push_supers.new.supers ≡ before [] (written_supers heads known c.args.class (superclass_in (slice_get heads.classes c.args.class))) =
    ap (λ (b : Bool). behind b c.push_supers.new.supers) (sym c.if-not-branch.false) ∙ c.in_ok-push_supers.ensures
    ∙ ap (λ (xs : List ℕ). before xs (written_supers heads known c.args.class c.superclass_of.result.now)) c.new-supers.ensures
    ∙ ap (λ (ps : List Path). before [] (written_supers heads known c.args.class ps)) c.superclass_of.ensures in
    let second : behind false c.push_supers-2.new.supers ≡ before c.push_supers.new.supers (written_supers heads known c.args.class (interfaces_in (slice_get heads.classes c.args.class))) =
    ap (λ (b : Bool). behind b c.push_supers-2.new.supers) (sym c.if-not-branch-2.true) ∙ c.in_ok-push_supers-2.ensures
    ∙ ap (λ (ps : List Path). before c.push_supers.new.supers (written_supers heads known c.args.class ps)) c.interfaces_of.ensures in
    sym (after_both heads known c.args.class false c.push_supers.new.supers c.push_supers-2.new.supers first second)

pub returns : goal.returns
returns c =
    let heads = c.args.scene.now.declared.heads.now in
    let known = known_in c.args.scene.now.known.now in
    let first : behind true c.push_supers.new.supers ≡ before [] (written_supers heads known c.args.class (superclass_in (slice_get heads.classes c.args.class))) =
    ap (λ (b : Bool). behind b c.push_supers.new.supers) (sym c.if-not-branch.false) ∙ c.in_ok-push_supers.ensures
    ∙ ap (λ (xs : List ℕ). before xs (written_supers heads known c.args.class c.superclass_of.result.now)) c.new-supers.ensures
    ∙ ap (λ (ps : List Path). before [] (written_supers heads known c.args.class ps)) c.superclass_of.ensures in
    let second : behind true c.push_supers-2.new.supers ≡ before c.push_supers.new.supers (written_supers heads known c.args.class (interfaces_in (slice_get heads.classes c.args.class))) =
    ap (λ (b : Bool). behind b c.push_supers-2.new.supers) (sym c.if-not-branch-2.false) ∙ c.in_ok-push_supers-2.ensures
    ∙ ap (λ (ps : List Path). before c.push_supers.new.supers (written_supers heads known c.args.class ps)) c.interfaces_of.ensures in
    sym (after_both heads known c.args.class true c.push_supers.new.supers c.push_supers-2.new.supers first second)
