use Rattle.std.proofs.Common.{◌≡◌, ◌+◌, ℕ, min, List, [], ◌∷◌, ◌++◌, length, Ok, Err, refl, sym, ap, ◌∙◌, subst, arith, rules}
use Rattle.std.proofs.lemmas.Result.{err_from_is_err_and}
use Rattle.jc_lexer.specs.declared.token.Key.TheVariants as key_of
use Rattle.jc_lexer.specs.declared.token.Sign.TheVariants as sign_of
use Rattle.jc_tree.specs.declared.statement.Clause.{Clause}
use Rattle.jc_tree.specs.declared.statement.Member.{Member}
use Rattle.jc_tree.specs.declared.statement.Stmt.{Stmt}
use Rattle.jc_reading.specs.Giving.{Gives, Halts, Is}
use Rattle.jc_reading.specs.Kinds.{key_code, sign_code}
use Rattle.jc_reading.specs.Reading.{Read, Found, Stopped, any_number, as_new, at_kind, becoming, in_turn, noting, perhaps}
use Rattle.jc_expr_laws.specs.ExprReading.{exprs}
use Rattle.jc_unit_laws.specs.MemberReading.{levels, member_run}
use Rattle.jc_parse_heads.proofs.Joinings.{cut, joined_gives, two_gives, two_halts}
use Rattle.jc_unit_laws.specs.UnitReading.{case_run, catch_run, clauses_run, do_made, some_clauses_run}
use Rattle.jc_parse_parts.proofs.Insides.{shorter_by}
use Rattle.jc_parse_nodes.specs.Joins.{alone}
use Rattle.jc_parse_heads.specs.UnitCode.{braced_groups_run, braced_items_run, catch_opening_run, do_test_run, finally_opening_run, for_opening_run, guarded_run, items_until_run, label_run, named_label_run, plain_guarded_run, roomy_resources_run, roomy_tested_run, some_catches_run, tested_run, with_last, with_node}
use Rattle.jc_parse_nodes.specs.Nodes.{clause_made}
use Rattle.jc_parse_nodes.specs.declared.pieces.Guarded.{Guarded}
use Rattle.jc_parse_heads.proofs.Aheads.{body_ahead, braced_items_inside, case_item_ahead, group_ahead, item_ahead}
use Rattle.jc_parse_heads.proofs.LevelAdvances.{member_advances}
use Rattle.jc_parse_heads.proofs.Starts.{arm_is, arm_node, block_is, block_node, case_is, for_is, for_node, labeled_is, labeled_node, switch_is, switch_node, while_is, while_node}
use Rattle.jc_parse_unit.proofs.Tails.{Catch, Finally, catch_is, clauses_is, do_is, do_node, do_there, finally_is, guarded_is, guarded_node, plain_guarded_is, some_clauses_catch, branch_halts, if_halts, try_halts, try_node, try_plain_is}
use Rattle.jc_parse_parts.specs.Parts.{head_tree}
use Rattle.jc_part_laws.specs.PartReading.{head_rest_run}
use Rattle.jc_parse_type.specs.TypeReading.{class_run}
use Rattle.std.proofs.Common.{Bool, true, false}
use Rattle.jc_unit_laws.specs.UnitReading.{arm_run}
use Rattle.jc_parse_heads.specs.UnitCode.{arms_run, braced_members_run}
use Rattle.jc_parse_nodes.specs.declared.pieces.Body.{Body}
use Rattle.jc_parse_heads.proofs.Aheads.{catch_ahead}
use Rattle.jc_parse_unit.proofs.Elses.{Turns}
use Rattle.jc_parse_unit.proofs.Moded.{block_member, body_node, instance_is, rest_is, static_is}
use Rattle.jc_tree.specs.declared.statement.Modifier.{Modifier}
use Rattle.jc_tree.specs.declared.statement.Stmt.TheVariants as stmt_of
use Rattle.jc_reading.specs.declared.reading.Halt.{Halt}
use Rattle.jc_reading.proofs.Nears.{ahead_near, near_left}
use Rattle.jc_reading.proofs.Turns.{loop_shorter}
use Rattle.jc_unit_laws.specs.MemberReading.{is_low, moded_item_run, moded_member_run}
use Rattle.jc_parse_heads.specs.UnitCode.{body_made, branch_once_run, coded_member_run, declaration_rest_run, listed, typed_run}
use Rattle.jc_parse_nodes.specs.declared.pieces.Branch.{Branch}
use Rattle.jc_parse_nodes.specs.declared.pieces.Branch.TheVariants as branch_is
use Rattle.jc_parse_heads.proofs.Aheads.{arm_ahead, branch_ahead, stop_near}
use Rattle.jc_parse_unit.proofs.Elses.{last_gives, turn_arm, turn_last, turn_stops}
use Rattle.jc_parse_heads.proofs.Joinings.{found_same}
use Rattle.jc_parse_unit.proofs.Moded.{declared_node, item_lines, item_none, item_stands, lines_node, member_high, member_nested, member_other, nested_node}
use Rattle.jc_parse_unit.proofs.Tails.{some_catches_is, try_with_is}
use Rattle.jc_parse_unit.proofs.+units.Goals.{members::moded_item-then-is_empty-via-then-is_empty, members::moded_item-then-is_empty-via-else-is_empty+then-rest_stands, members::moded_member-else-rest_stands-via-then-rest_stands+else-are_low, members::moded_member-else-rest_stands-via-else-rest_stands}
use Rattle.jc_parse_heads.specs.MemberCode.{code_head_run, constructor_list_run, finish, first_row_run, method_items_run}
use Rattle.jc_parse_nodes.specs.Nodes.{method_member, with_head}
use Rattle.jc_parse_heads.proofs.Aheads.{first_ahead}
use Rattle.jc_parse_unit.proofs.MemberInsides.{head_leaves}
use Rattle.jc_parse_heads.proofs.MemberEnds.{coded_goes, constructor_goes_on, constructor_of, finish_halts, method_goes_on}
use Rattle.jc_parse_unit.proofs.+units.Goals as goal

pub statements::block-returns-in_err-at : goal.statements::block-returns-in_err-at
statements::block-returns-in_err-at t c = let p = err_from_is_err_and c.from_residual.result c.from_residual.ensures.1 in rw (p.1, p.2) (subst (λ (v : Read Stmt). Halts c.in_err-at.field-0.0 v) (sym (block_is c.args.height c.args.tokens.now)) (two_halts block_node (at_kind (sign_code sign_of.LeftBrace) c.args.tokens.now) (items_until_run c.args.height) c.in_err-at.field-0.0 (c.in_err-at.ensures.read)))

pub statements::block-returns : goal.statements::block-returns
statements::block-returns t c = subst (λ (v : Read Stmt). Gives c.block_of.result v) (sym (block_is c.args.height c.args.tokens.now)) (two_gives block_node (at_kind (sign_code sign_of.LeftBrace) c.args.tokens.now) (items_until_run c.args.height) c.in_ok-at.at c.items_until.result c.block_of.result (c.in_ok-at.ensures.read) (c.items_until.ensures) c.block_of.ensures)

pub statements::while_at-returns-in_err-test : goal.statements::while_at-returns-in_err-test
statements::while_at-returns-in_err-test t c = let p = err_from_is_err_and c.from_residual.result c.from_residual.ensures.1 in rw (p.1, p.2) (subst (λ (v : Read Stmt). Halts c.in_err-test.field-0.0 v) (sym (while_is c.args.height (levels exprs c.args.height) c.args.tokens.now)) (two_halts while_node (roomy_tested_run key_of.While c.args.height c.args.tokens.now) (levels exprs c.args.height).body c.in_err-test.field-0.0 (c.in_err-test.ensures.read)))

pub statements::while_at-returns : goal.statements::while_at-returns
statements::while_at-returns t c = subst (λ (v : Read Stmt). Gives c.while_of.result v) (sym (while_is c.args.height (levels exprs c.args.height) c.args.tokens.now)) (two_gives while_node (roomy_tested_run key_of.While c.args.height c.args.tokens.now) (levels exprs c.args.height).body c.in_ok-test.test c.boxed.result c.while_of.result (c.in_ok-test.ensures.read) (c.boxed.ensures.read ((levels exprs c.args.height).body c.in_ok-test.test.rest.now) c.body_within.ensures) c.while_of.ensures)

pub statements::for_at-returns-in_err-opening : goal.statements::for_at-returns-in_err-opening
statements::for_at-returns-in_err-opening t c = let p = err_from_is_err_and c.from_residual.result c.from_residual.ensures.1 in rw (p.1, p.2) (subst (λ (v : Read Stmt). Halts c.in_err-opening.field-0.0 v) (sym (for_is c.args.height (levels exprs c.args.height) c.args.tokens.now)) (two_halts for_node (for_opening_run c.args.height c.args.tokens.now) (levels exprs c.args.height).body c.in_err-opening.field-0.0 (c.in_err-opening.ensures.read)))

pub statements::for_at-returns : goal.statements::for_at-returns
statements::for_at-returns t c = subst (λ (v : Read Stmt). Gives c.for_of.result v) (sym (for_is c.args.height (levels exprs c.args.height) c.args.tokens.now)) (two_gives for_node (for_opening_run c.args.height c.args.tokens.now) (levels exprs c.args.height).body c.in_ok-opening.opening c.boxed.result c.for_of.result (c.in_ok-opening.ensures.read) (c.boxed.ensures.read ((levels exprs c.args.height).body c.in_ok-opening.opening.rest.now) c.body_within.ensures) c.for_of.ensures)

pub statements::labeled-returns-in_err-label : goal.statements::labeled-returns-in_err-label
statements::labeled-returns-in_err-label t c = let p = err_from_is_err_and c.from_residual.result c.from_residual.ensures.1 in rw (p.1, p.2) (subst (λ (v : Read Stmt). Halts c.in_err-label.field-0.0 v) (sym (labeled_is (levels exprs c.args.height) c.args.tokens.now)) (two_halts labeled_node (named_label_run c.args.tokens.now) (levels exprs c.args.height).body c.in_err-label.field-0.0 (c.in_err-label.ensures.read)))

pub statements::labeled-returns : goal.statements::labeled-returns
statements::labeled-returns t c = subst (λ (v : Read Stmt). Gives c.labeled_of.result v) (sym (labeled_is (levels exprs c.args.height) c.args.tokens.now)) (two_gives labeled_node (named_label_run c.args.tokens.now) (levels exprs c.args.height).body c.in_ok-label.label c.boxed.result c.labeled_of.result (c.in_ok-label.ensures.read) (c.boxed.ensures.read ((levels exprs c.args.height).body c.in_ok-label.label.rest.now) c.body_within.ensures) c.labeled_of.ensures)

pub statements::group-returns-in_err-label : goal.statements::group-returns-in_err-label
statements::group-returns-in_err-label t c = let p = err_from_is_err_and c.from_residual.result c.from_residual.ensures.1 in rw (p.1, p.2) (subst (λ (v : Read Clause). Halts c.in_err-label.field-0.0 v) (sym (case_is c.args.height (levels exprs c.args.height) c.args.tokens.now)) (two_halts clause_made (label_run c.args.height c.args.tokens.now) (any_number (levels exprs c.args.height).case_item) c.in_err-label.field-0.0 (c.in_err-label.ensures.read)))

pub statements::group-returns : goal.statements::group-returns
statements::group-returns t c = subst (λ (v : Read Clause). Gives c.clause_of.result v) (sym (case_is c.args.height (levels exprs c.args.height) c.args.tokens.now)) (two_gives clause_made (label_run c.args.height c.args.tokens.now) (any_number (levels exprs c.args.height).case_item) c.in_ok-label.label c.some.result c.clause_of.result (c.in_ok-label.ensures.read) (c.some.ensures.read (any_number (levels exprs c.args.height).case_item c.in_ok-label.label.rest.now) c.case_items.ensures) c.clause_of.ensures)

pub statements::switch_at-returns-in_err-test : goal.statements::switch_at-returns-in_err-test
statements::switch_at-returns-in_err-test t c = let p = err_from_is_err_and c.from_residual.result c.from_residual.ensures.1 in rw (p.1, p.2) (subst (λ (v : Read Stmt). Halts c.in_err-test.field-0.0 v) (sym (switch_is c.args.height c.args.tokens.now)) (two_halts switch_node (roomy_tested_run key_of.Switch c.args.height c.args.tokens.now) (braced_groups_run c.args.height) c.in_err-test.field-0.0 (c.in_err-test.ensures.read)))

pub statements::switch_at-returns : goal.statements::switch_at-returns
statements::switch_at-returns t c = subst (λ (v : Read Stmt). Gives c.switch_of.result v) (sym (switch_is c.args.height c.args.tokens.now)) (two_gives switch_node (roomy_tested_run key_of.Switch c.args.height c.args.tokens.now) (braced_groups_run c.args.height) c.in_ok-test.test c.braced_groups.result c.switch_of.result (c.in_ok-test.ensures.read) (c.braced_groups.ensures) c.switch_of.ensures)

pub statements::finally_at-returns-in_err-opening : goal.statements::finally_at-returns-in_err-opening
statements::finally_at-returns-in_err-opening t c = let p = err_from_is_err_and c.from_residual.result c.from_residual.ensures.1 in rw (p.1, p.2) (subst (λ (v : Read Clause). Halts c.in_err-opening.field-0.0 v) (sym (finally_is c.args.height c.args.tokens.now)) (two_halts clause_made (finally_opening_run c.args.tokens.now) (braced_items_run c.args.height) c.in_err-opening.field-0.0 (c.in_err-opening.ensures.read)))

pub statements::finally_at-returns : goal.statements::finally_at-returns
statements::finally_at-returns t c = subst (λ (v : Read Clause). Gives c.clause_of.result v) (sym (finally_is c.args.height c.args.tokens.now)) (two_gives clause_made (finally_opening_run c.args.tokens.now) (braced_items_run c.args.height) c.in_ok-opening.opening c.braced_items.result c.clause_of.result (c.in_ok-opening.ensures.read) (c.braced_items.ensures) c.clause_of.ensures)

pub statements::catch_at-returns-in_err-opening : goal.statements::catch_at-returns-in_err-opening
statements::catch_at-returns-in_err-opening t c = let p = err_from_is_err_and c.from_residual.result c.from_residual.ensures.1 in rw (p.1, p.2) (subst (λ (v : Read Clause). Halts c.in_err-opening.field-0.0 v) (sym (catch_is c.args.height c.args.tokens.now)) (two_halts clause_made (catch_opening_run c.args.height c.args.tokens.now) (braced_items_run c.args.height) c.in_err-opening.field-0.0 (c.in_err-opening.ensures.read)))

pub statements::catch_at-returns : goal.statements::catch_at-returns
statements::catch_at-returns t c = subst (λ (v : Read Clause). Gives c.clause_of.result v) (sym (catch_is c.args.height c.args.tokens.now)) (two_gives clause_made (catch_opening_run c.args.height c.args.tokens.now) (braced_items_run c.args.height) c.in_ok-opening.opening c.braced_items.result c.clause_of.result (c.in_ok-opening.ensures.read) (c.braced_items.ensures) c.clause_of.ensures)

pub statements::guarded-returns-in_err-items : goal.statements::guarded-returns-in_err-items
statements::guarded-returns-in_err-items t c = let p = err_from_is_err_and c.from_residual.result c.from_residual.ensures.1 in rw (p.1, p.2) (subst (λ (v : Read Guarded). Halts c.in_err-items.field-0.0 v) (sym (guarded_is c.args.height c.args.tokens.now)) (two_halts (guarded_node c.args.height c.args.tokens.now) (braced_items_run c.args.height c.args.tokens.now) (clauses_run exprs c.args.height (levels exprs c.args.height)) c.in_err-items.field-0.0 (c.in_err-items.ensures)))

pub statements::guarded-returns : goal.statements::guarded-returns
statements::guarded-returns t c = subst (λ (v : Read Guarded). Gives c.guarded_of.result v) (sym (guarded_is c.args.height c.args.tokens.now)) (two_gives (guarded_node c.args.height c.args.tokens.now) (braced_items_run c.args.height c.args.tokens.now) (clauses_run exprs c.args.height (levels exprs c.args.height)) c.in_ok-items.items c.clauses.result c.guarded_of.result (c.in_ok-items.ensures) (c.clauses.ensures) c.guarded_of.ensures)

pub statements::plain_guarded-returns-in_err-items : goal.statements::plain_guarded-returns-in_err-items
statements::plain_guarded-returns-in_err-items t c = let p = err_from_is_err_and c.from_residual.result c.from_residual.ensures.1 in rw (p.1, p.2) (subst (λ (v : Read Guarded). Halts c.in_err-items.field-0.0 v) (sym (plain_guarded_is c.args.height c.args.tokens.now)) (two_halts (guarded_node c.args.height c.args.tokens.now) (braced_items_run c.args.height c.args.tokens.now) (some_clauses_run exprs c.args.height (levels exprs c.args.height)) c.in_err-items.field-0.0 (c.in_err-items.ensures)))

pub statements::plain_guarded-returns : goal.statements::plain_guarded-returns
statements::plain_guarded-returns t c = subst (λ (v : Read Guarded). Gives c.guarded_of.result v) (sym (plain_guarded_is c.args.height c.args.tokens.now)) (two_gives (guarded_node c.args.height c.args.tokens.now) (braced_items_run c.args.height c.args.tokens.now) (some_clauses_run exprs c.args.height (levels exprs c.args.height)) c.in_ok-items.items c.some_clauses.result c.guarded_of.result (c.in_ok-items.ensures) (c.some_clauses.ensures) c.guarded_of.ensures)

pub statements::try_with-returns-in_err-resources : goal.statements::try_with-returns-in_err-resources
statements::try_with-returns-in_err-resources t c = let p = err_from_is_err_and c.from_residual.result c.from_residual.ensures.1 in rw (p.1, p.2) (two_halts (with_node c.args.at) (roomy_resources_run c.args.height c.args.tokens.now) (guarded_run c.args.height) c.in_err-resources.field-0.0 (c.in_err-resources.ensures.read))

pub statements::try_with-returns : goal.statements::try_with-returns
statements::try_with-returns t c = two_gives (with_node c.args.at) (roomy_resources_run c.args.height c.args.tokens.now) (guarded_run c.args.height) c.in_ok-resources.resources c.guarded.result c.try_with_of.result (c.in_ok-resources.ensures.read) (c.guarded.ensures) c.try_with_of.ensures

pub statements::arm-returns-in_err-test : goal.statements::arm-returns-in_err-test
statements::arm-returns-in_err-test t c = let p = err_from_is_err_and c.from_residual.result c.from_residual.ensures.1 in rw (p.1, p.2) (subst (λ (v : Read Clause). Halts c.in_err-test.field-0.0 v) (sym (arm_is c.args.height (levels exprs c.args.height) c.args.tokens.now)) (two_halts arm_node (tested_run key_of.If c.args.height c.args.tokens.now) (as_new alone (levels exprs c.args.height).body) c.in_err-test.field-0.0 (c.in_err-test.ensures.read)))

pub statements::arm-returns : goal.statements::arm-returns
statements::arm-returns t c = subst (λ (v : Read Clause). Gives c.arm_of.result v) (sym (arm_is c.args.height (levels exprs c.args.height) c.args.tokens.now)) (two_gives arm_node (tested_run key_of.If c.args.height c.args.tokens.now) (as_new alone (levels exprs c.args.height).body) c.in_ok-test.test c.single.result c.arm_of.result (c.in_ok-test.ensures.read) (c.single.ensures.read ((levels exprs c.args.height).body c.in_ok-test.test.rest.now) c.body_within.ensures) c.arm_of.ensures)

pub statements::guarded-clauses-requires : goal.statements::guarded-clauses-requires
statements::guarded-clauses-requires t c =
    let items = c.in_ok-items.items in
    let lt = near_left (braced_items_run c.args.height) c.args.tokens.now items.rest.now items.value items.left (braced_items_inside c.args.height) c.in_ok-items.ensures in
    omega (arith, lt)

pub statements::plain_guarded-some_clauses-requires : goal.statements::plain_guarded-some_clauses-requires
statements::plain_guarded-some_clauses-requires t c =
    let items = c.in_ok-items.items in
    let lt = near_left (braced_items_run c.args.height) c.args.tokens.now items.rest.now items.value items.left (braced_items_inside c.args.height) c.in_ok-items.ensures in
    omega (arith, lt)

pub statements::do_at-returns-in_err-at : goal.statements::do_at-returns-in_err-at
statements::do_at-returns-in_err-at t c = let p = err_from_is_err_and c.from_residual.result c.from_residual.ensures.1 in rw (p.1, p.2) (subst (λ (v : Read Stmt). Halts c.in_err-at.field-0.0 v) (sym (do_there c.args.height c.args.tokens.now c.if-height-eq0.false)) (two_halts do_made (at_kind (key_code key_of.Do) c.args.tokens.now) _ c.in_err-at.field-0.0 c.in_err-at.ensures.read))

pub statements::do_at-returns-in_err-body : goal.statements::do_at-returns-in_err-body
statements::do_at-returns-in_err-body t c =
    let at = c.in_ok-at.at in
    let p = err_from_is_err_and c.from_residual-in_err-body.result c.from_residual-in_err-body.ensures.1 in rw (p.1, p.2) (subst (λ (v : Read Stmt). Halts c.in_err-body.field-0.0 v) (sym (do_is c.args.height c.args.tokens.now at.value at.rest.now at.left c.if-height-eq0.false c.in_ok-at.ensures.read))
    (two_halts (do_node c.args.height c.args.tokens.now at.value) (noting at.left ((levels exprs c.args.height).body at.rest.now)) (do_test_run c.args.height) c.in_err-body.field-0.0 (c.in_err-body.ensures.read ((levels exprs c.args.height).body at.rest.now) (c.boxed.ensures.read ((levels exprs c.args.height).body at.rest.now) c.body_within.ensures))))

pub statements::do_at-returns : goal.statements::do_at-returns
statements::do_at-returns t c =
    let at = c.in_ok-at.at in
    subst (λ (v : Read Stmt). Gives c.do_of.result v) (sym (do_is c.args.height c.args.tokens.now at.value at.rest.now at.left c.if-height-eq0.false c.in_ok-at.ensures.read))
    (two_gives (do_node c.args.height c.args.tokens.now at.value) (noting at.left ((levels exprs c.args.height).body at.rest.now)) (do_test_run c.args.height) c.in_ok-body.body c.do_test.result c.do_of.result (c.in_ok-body.ensures.read ((levels exprs c.args.height).body at.rest.now) (c.boxed.ensures.read ((levels exprs c.args.height).body at.rest.now) c.body_within.ensures)) c.do_test.ensures c.do_of.ensures)

pub statements::do_at-do_test-requires : goal.statements::do_at-do_test-requires
statements::do_at-do_test-requires t c =
    let at = c.in_ok-at.at in
    let short = shorter_by (levels exprs c.args.height).body at.rest.now c.body_within.result (ahead_near (levels exprs c.args.height).body (body_ahead c.args.height)) c.body_within.ensures in
    let lt = c.in_ok-body.ensures.shorter (length at.rest.now) (c.boxed.ensures.shorter (length at.rest.now) short) in
    omega (arith, lt, c.in_ok-at.ensures.shorter)

pub statements::clauses-returns : goal.statements::clauses-returns
statements::clauses-returns t c =
    let first = c.in_ok-catches.catches in
    subst (λ (v : Read (List Clause)). Gives c.with_last.result v)
    (sym (clauses_is c.args.height c.args.tokens.now ∙ cut with_last (any_number (Catch c.args.height c.args.tokens.now)) (perhaps (Finally c.args.height c.args.tokens.now)) c.args.tokens.now first.rest.now first.value first.left c.in_ok-catches.ensures.read))
    (c.with_last.ensures (Finally c.args.height c.args.tokens.now first.rest.now) c.finally_at.ensures)

pub statements::some_clauses-returns : goal.statements::some_clauses-returns
statements::some_clauses-returns t c =
    let first = c.in_ok-catches.catches in
    subst (λ (v : Read (List Clause)). Gives c.with_last.result v)
    (sym (some_clauses_catch c.args.height c.args.tokens.now (search rules) ∙ cut with_last (some_catches_run c.args.height) (perhaps (Finally c.args.height c.args.tokens.now)) c.args.tokens.now first.rest.now first.value first.left c.in_ok-catches.ensures.read))
    (c.with_last.ensures (Finally c.args.height c.args.tokens.now first.rest.now) c.finally_at-2.ensures)

pub statements::try_at-returns-in_err-at : goal.statements::try_at-returns-in_err-at
statements::try_at-returns-in_err-at t c = let p = err_from_is_err_and c.from_residual.result c.from_residual.ensures.1 in rw (p.1, p.2) (try_halts c.args.height c.args.tokens.now c.in_err-at.field-0.0 c.in_err-at.ensures.read)

pub statements::try_at-returns : goal.statements::try_at-returns
statements::try_at-returns t c =
    let at = c.in_ok-at.at in
    subst (λ (v : Read Stmt). Gives c.try_of.result v) (sym (try_plain_is c.args.height c.args.tokens.now at.value at.rest.now at.left c.in_ok-at.ensures.read (search rules)))
    (two_gives (try_node c.args.height c.args.tokens.now) (at_kind (key_code key_of.Try) c.args.tokens.now) (plain_guarded_run c.args.height) at c.plain_guarded.result c.try_of.result c.in_ok-at.ensures.read c.plain_guarded.ensures c.try_of.ensures)

pub statements::branch-returns-in_err-key : goal.statements::branch-returns-in_err-key
statements::branch-returns-in_err-key t c = let p = err_from_is_err_and c.from_residual.result c.from_residual.ensures.1 in rw (p.1, p.2) (branch_halts c.args.height c.args.tokens.now c.in_err-key.field-0.0 c.in_err-key.ensures.read)

pub statements::if_at-returns-in_err-first : goal.statements::if_at-returns-in_err-first
statements::if_at-returns-in_err-first t c = let p = err_from_is_err_and c.from_residual.result c.from_residual.ensures.1 in rw (p.1, p.2) (if_halts c.args.height c.args.tokens.now c.in_err-first.field-0.0 c.if-height-eq0.false c.in_err-first.ensures)

pub members::rest_at-returns-in_err-head : goal.members::rest_at-returns-in_err-head
members::rest_at-returns-in_err-head t c = let p = err_from_is_err_and c.from_residual.result c.from_residual.ensures.1 in rw (p.1, p.2) (subst (λ (v : Read Body). Halts c.in_err-head.field-0.0 v) (sym (rest_is c.args.height c.args.tokens.now)) (two_halts body_node (as_new head_tree (head_rest_run (class_run c.args.height)) c.args.tokens.now) (braced_members_run c.args.height) c.in_err-head.field-0.0 (c.in_err-head.ensures.read)))

pub members::rest_at-returns : goal.members::rest_at-returns
members::rest_at-returns t c = subst (λ (v : Read Body). Gives c.body_of.result v) (sym (rest_is c.args.height c.args.tokens.now)) (two_gives body_node (as_new head_tree (head_rest_run (class_run c.args.height)) c.args.tokens.now) (braced_members_run c.args.height) c.in_ok-head.head c.braced_members.result c.body_of.result (c.in_ok-head.ensures.read) (c.braced_members.ensures) c.body_of.ensures)

pub members::instance_block-returns-in_err-at : goal.members::instance_block-returns-in_err-at
members::instance_block-returns-in_err-at t c = let p = err_from_is_err_and c.from_residual.result c.from_residual.ensures.1 in rw (p.1, p.2) (subst (λ (v : Read Member). Halts c.in_err-at.field-0.0 v) (sym (instance_is c.args.height c.args.tokens.now)) (two_halts (block_member c.args.height c.args.tokens.now false) (at_kind (sign_code sign_of.LeftBrace) c.args.tokens.now) (items_until_run c.args.height) c.in_err-at.field-0.0 (c.in_err-at.ensures.read)))

pub members::instance_block-returns : goal.members::instance_block-returns
members::instance_block-returns t c = subst (λ (v : Read Member). Gives c.initialiser_of.result v) (sym (instance_is c.args.height c.args.tokens.now)) (two_gives (block_member c.args.height c.args.tokens.now false) (at_kind (sign_code sign_of.LeftBrace) c.args.tokens.now) (items_until_run c.args.height) c.in_ok-at.at c.items_until.result c.initialiser_of.result (c.in_ok-at.ensures.read) (c.items_until.ensures) c.initialiser_of.ensures)

pub members::static_block-returns-in_err-at : goal.members::static_block-returns-in_err-at
members::static_block-returns-in_err-at t c = let p = err_from_is_err_and c.from_residual.result c.from_residual.ensures.1 in rw (p.1, p.2) (subst (λ (v : Read Member). Halts c.in_err-at.field-0.0 v) (sym (static_is c.args.height c.args.tokens.now)) (two_halts (block_member c.args.height c.args.tokens.now true) (at_kind (key_code key_of.Static) c.args.tokens.now) (braced_items_run c.args.height) c.in_err-at.field-0.0 (c.in_err-at.ensures.read)))

pub members::static_block-returns : goal.members::static_block-returns
members::static_block-returns t c = subst (λ (v : Read Member). Gives c.initialiser_of.result v) (sym (static_is c.args.height c.args.tokens.now)) (two_gives (block_member c.args.height c.args.tokens.now true) (at_kind (key_code key_of.Static) c.args.tokens.now) (braced_items_run c.args.height) c.in_ok-at.at c.braced_items.result c.initialiser_of.result (c.in_ok-at.ensures.read) (c.braced_items.ensures) c.initialiser_of.ensures)

pub statements::items-many-requires : goal.statements::items-many-requires
statements::items-many-requires t c κs = (search rules, (λ ts h. omega (arith, h, c.requires), ((levels exprs c.args.height).item, item_ahead c.args.height, λ ts r p. search rules)))

pub statements::items-returns : goal.statements::items-returns
statements::items-returns t c = c.many.ensures.read ((levels exprs c.args.height).item) (item_ahead c.args.height) (λ ts r p. search rules)

pub statements::case_items-many-requires : goal.statements::case_items-many-requires
statements::case_items-many-requires t c κs = (search rules, (λ ts h. omega (arith, h, c.requires), ((levels exprs c.args.height).case_item, case_item_ahead c.args.height, λ ts r p. search rules)))

pub statements::case_items-returns : goal.statements::case_items-returns
statements::case_items-returns t c = c.many.ensures.read ((levels exprs c.args.height).case_item) (case_item_ahead c.args.height) (λ ts r p. search rules)

pub statements::groups-many-requires : goal.statements::groups-many-requires
statements::groups-many-requires t c κs = (search rules, (λ ts h. omega (arith, h, c.requires), (case_run exprs c.args.height (levels exprs c.args.height), group_ahead c.args.height, λ ts r p. search rules)))

pub statements::groups-returns : goal.statements::groups-returns
statements::groups-returns t c = c.many.ensures.read (case_run exprs c.args.height (levels exprs c.args.height)) (group_ahead c.args.height) (λ ts r p. search rules)

pub statements::catches-many-requires : goal.statements::catches-many-requires
statements::catches-many-requires t c κs = (search rules, (λ ts h. omega (arith, h, c.requires), (catch_run exprs c.args.height (levels exprs c.args.height), catch_ahead c.args.height, λ ts r p. search rules)))

pub statements::catches-returns-clause-read : goal.statements::catches-returns-clause-read
statements::catches-returns-clause-read t c = c.many.ensures.read (catch_run exprs c.args.height (levels exprs c.args.height)) (catch_ahead c.args.height) (λ ts r p. search rules)

pub members::members-many-requires : goal.members::members-many-requires
members::members-many-requires t c κs = (search rules, (λ ts h. omega (arith, h, c.requires), (member_run exprs c.args.height (levels exprs c.args.height), member_advances c.args.height, λ ts r p. search rules)))

pub members::members-returns : goal.members::members-returns
members::members-returns t c = c.many.ensures.read (member_run exprs c.args.height (levels exprs c.args.height)) (member_advances c.args.height) (λ ts r p. search rules)

pub statements::arms-arms-init : goal.statements::arms-arms-init
unfolding arms_run
statements::arms-arms-init t c =
    let first = c.args.first in
    let arm = arm_run exprs c.args.height (levels exprs c.args.height) in
    let other = (levels exprs c.args.height).other in
    let whole = noting first.left (arms_run c.args.height first.value first.rest.now) in
    let held : c.in_ok-arms.arms ≡ first.value ∷ [] = c.in_ok-arms.ensures ∙ ap (λ (l : List Clause). l ++ first.value ∷ []) c.new.ensures in (
      subst (λ (list : List Clause). Turns arm other whole list first.left c.is_open-open.result first.rest.now) (sym held)
          (subst (λ (b : Bool). Turns arm other whole (first.value ∷ []) first.left b first.rest.now) (sym c.is_open-open.ensures) (record { room = length first.rest.now; enough = omega arith; rest = refl })),
      c.requires,
    )

pub members::moded_item-returns-then-is_empty : goal.members::moded_item-returns-then-is_empty
members::moded_item-returns-then-is_empty t c =
    let h = c.args.height in
    let ms = c.in_ok-modifiers.modifiers in
    let same : moded_item_run exprs h (levels exprs h) c.args.tokens.now ≡ noting ms.left (becoming (declared_node h ms.value) (declaration_rest_run h ms.rest.now)) =
    elim c.then-is_empty.branch [
      | members::moded_item-then-is_empty-via-then-is_empty w ↦ item_none h c.args.tokens.now ms.rest.now ms.value ms.left c.in_ok-modifiers.ensures.read (search rules)
      | members::moded_item-then-is_empty-via-else-is_empty+then-rest_stands w ↦ item_stands h c.args.tokens.now ms.rest.now ms.value ms.left c.in_ok-modifiers.ensures.read (search rules)
    ] in
    subst (λ (v : Read Stmt). Gives c.declared_of.result v) (sym same) (joined_gives (declared_node h) ms (declaration_rest_run h ms.rest.now) c.rest_at.result c.declared_of.result c.rest_at.ensures c.declared_of.ensures)

pub members::moded_item-returns : goal.members::moded_item-returns
members::moded_item-returns t c =
    let h = c.args.height in
    let ms = c.in_ok-modifiers.modifiers in
    let some : ms.value ≡ [] → ⊥ = search rules in
    subst (λ (v : Read Stmt). Gives c.local_of.result v) (sym (item_lines h c.args.tokens.now ms.rest.now ms.value ms.left c.in_ok-modifiers.ensures.read some (search rules)))
    (joined_gives (lines_node h) ms (typed_run h ms.rest.now) c.typed.result c.local_of.result c.typed.ensures c.local_of.ensures)

pub members::moded_member-returns-then-are_low : goal.members::moded_member-returns-then-are_low
members::moded_member-returns-then-are_low t c =
    let h = c.args.height in
    let ms = c.in_ok-modifiers.modifiers in
    let low : is_low h ms.value ≡ true = subst (λ (l : List Modifier). is_low h l ≡ true) c.slice.ensures (sym c.are_low.ensures ∙ c.if-are_low.true) in
    subst (λ (v : Read Member). Gives c.nested_of.result v) (sym (member_nested h c.args.tokens.now ms.rest.now ms.value ms.left c.in_ok-modifiers.ensures.read low (search rules)))
    (joined_gives (nested_node h) ms (as_new body_made (levels exprs h).rest ms.rest.now) c.rest_within.result c.nested_of.result c.rest_within.ensures c.nested_of.ensures)

pub members::moded_member-returns : goal.members::moded_member-returns
members::moded_member-returns t c =
    let h = c.args.height in
    let ms = c.in_ok-modifiers.modifiers in
    let same : moded_member_run exprs h (levels exprs h) c.args.tokens.now ≡ noting ms.left (coded_member_run h ms.value ms.rest.now) =
    elim c.else-rest_stands.branch [
      | members::moded_member-else-rest_stands-via-then-rest_stands+else-are_low w ↦
          member_high h c.args.tokens.now ms.rest.now ms.value ms.left c.in_ok-modifiers.ensures.read (subst (λ (l : List Modifier). is_low h l ≡ false) w.slice.ensures (sym w.are_low.ensures ∙ w.if-are_low.false))
      | members::moded_member-else-rest_stands-via-else-rest_stands w ↦ member_other h c.args.tokens.now ms.rest.now ms.value ms.left c.in_ok-modifiers.ensures.read (sym c.rest_stands.ensures ∙ w.if-rest_stands.false)
    ] in
    subst (λ (v : Read Member). Gives c.coded_member.result v) (sym same) c.coded_member.ensures

pub statements::arms-arms-smaller : goal.statements::arms-arms-smaller
statements::arms-arms-smaller t c =
    let h = c.args.height in
    let found = c.in_Ok-found.found in
    loop_shorter _ (branch_once_run h) (branch_ahead h) c.arms.rest.now found.rest.now found.value found.left c.in_Ok-found.ensures

pub statements::arms-arms-preserved : goal.statements::arms-arms-preserved
unfolding branch_once_run
statements::arms-arms-preserved t c =
    let h = c.args.height in
    let arm = arm_run exprs h (levels exprs h) in
    let other = (levels exprs h).other in
    let whole = noting c.args.first.left (arms_run h c.args.first.value c.args.first.rest.now) in
    let found = c.in_Ok-found.found in
    let at : Turns arm other whole c.arms.arms c.arms.left false c.arms.rest.now = subst (λ (b : Bool). Turns arm other whole c.arms.arms c.arms.left b c.arms.rest.now) c.if-open.false c.arms.invariant.0 in
    let next : branch_once_run h c.arms.rest.now ≡ Found (branch_is.Arm c.in-Arm.arm) found.rest.now found.left = c.in_Ok-found.ensures ∙ ap (λ (v : Branch). Found v found.rest.now found.left) c.in-Arm.is in
    let lt = loop_shorter _ (branch_once_run h) (branch_ahead h) c.arms.rest.now found.rest.now found.value found.left c.in_Ok-found.ensures in
    let s = turn_arm arm other whole c.arms.arms c.arms.left c.arms.rest.now found.rest.now c.in-Arm.arm found.left at next lt in
    let held : c.in_ok-arms-in-Arm.arms ≡ c.arms.arms ++ c.in-Arm.arm ∷ [] = c.in_ok-arms-in-Arm.ensures in (
      subst (λ (list : List Clause). Turns arm other whole list c.min-left.result c.is_open-open-in-Arm.result found.rest.now) (sym held)
          (subst (λ (j : ℕ). Turns arm other whole (c.arms.arms ++ c.in-Arm.arm ∷ []) j c.is_open-open-in-Arm.result found.rest.now) (sym c.min-left.ensures)
          (subst (λ (b : Bool). Turns arm other whole (c.arms.arms ++ c.in-Arm.arm ∷ []) (min c.arms.left found.left) b found.rest.now) (sym c.is_open-open-in-Arm.ensures) s)),
      omega (arith, lt, c.arms.invariant.1),
    )

pub statements::arms-returns-in-Last : goal.statements::arms-returns-in-Last
unfolding branch_once_run
statements::arms-returns-in-Last t c =
    let h = c.args.height in
    let arm = arm_run exprs h (levels exprs h) in
    let other = (levels exprs h).other in
    let whole = noting c.args.first.left (arms_run h c.args.first.value c.args.first.rest.now) in
    let found = c.in_Ok-found.found in
    let at : Turns arm other whole c.arms.arms c.arms.left false c.arms.rest.now = subst (λ (b : Bool). Turns arm other whole c.arms.arms c.arms.left b c.arms.rest.now) c.if-open.false c.arms.invariant.0 in
    let next : branch_once_run h c.arms.rest.now ≡ Found (branch_is.Last c.in-Last.last) found.rest.now found.left = c.in_Ok-found.ensures ∙ ap (λ (v : Branch). Found v found.rest.now found.left) c.in-Last.is in
    let lt = loop_shorter _ (branch_once_run h) (branch_ahead h) c.arms.rest.now found.rest.now found.value found.left c.in_Ok-found.ensures in
    let e = turn_last arm other whole c.arms.arms c.arms.left c.arms.rest.now found.rest.now c.in-Last.last found.left at next lt in
    last_gives whole c.if_else_of.result (stmt_of.If c.arms.arms (c.in-Last.last ∷ [])) found.rest.now c.min-in-Last.result c.if_else_of.ensures.ok c.if_else_of.ensures.err
    (e ∙ ap (λ (j : ℕ). Found (stmt_of.If c.arms.arms (c.in-Last.last ∷ [])) found.rest.now j) (sym c.min-in-Last.ensures))

pub statements::arms-returns-in_Err-Stopped-found : goal.statements::arms-returns-in_Err-Stopped-found
unfolding branch_once_run
statements::arms-returns-in_Err-Stopped-found t c =
    let h = c.args.height in
    let arm = arm_run exprs h (levels exprs h) in
    let other = (levels exprs h).other in
    let whole = noting c.args.first.left (arms_run h c.args.first.value c.args.first.rest.now) in
    let reach = c.in_Err-Stopped-found.reach in
    let at : Turns arm other whole c.arms.arms c.arms.left false c.arms.rest.now = subst (λ (b : Bool). Turns arm other whole c.arms.arms c.arms.left b c.arms.rest.now) c.if-open.false c.arms.invariant.0 in
    let stop : branch_once_run h c.arms.rest.now ≡ Stopped reach = subst (λ (e : Halt). Halts e (branch_once_run h c.arms.rest.now)) c.in_Err-Stopped-found.field-0-is c.in_Err-Stopped-found.ensures in
    let near = stop_near (branch_once_run h) c.arms.rest.now reach (branch_ahead h) stop in
    let e = turn_stops arm other whole c.arms.arms c.arms.left c.arms.rest.now reach at stop near in
    let r = c.if_of-in_Err-Stopped-found in
    found_same whole (stmt_of.If c.arms.arms []) r.result.value c.arms.rest.now r.result.rest.now (min c.arms.left reach) r.result.left e r.ensures.0 r.ensures.1 (r.ensures.2 ∙ c.min-in_Err-Stopped-found.ensures ∙ ap (λ (k : ℕ). min c.arms.left k) c.in_Err-Stopped-found.reach-is)

pub statements::if_at-arms-requires : goal.statements::if_at-arms-requires
statements::if_at-arms-requires t c =
    let h = c.args.height in
    let first = c.in_ok-first.first in
    let lt = loop_shorter _ (arm_run exprs h (levels exprs h)) (arm_ahead h) c.args.tokens.now first.rest.now first.value first.left c.in_ok-first.ensures in
    (omega arith, omega (arith, lt))

pub statements::some_catches-returns-in_err-first-clause-read : goal.statements::some_catches-returns-in_err-first-clause-read
unfolding some_catches_run
statements::some_catches-returns-in_err-first-clause-read t c =
    let p = err_from_is_err_and c.from_residual.result c.from_residual.ensures.1 in
    let run = catch_run exprs c.args.height (levels exprs c.args.height) in
    rw (p.1, p.2) (two_halts listed (run c.args.tokens.now) (any_number run) c.in_err-first.field-0.0 c.in_err-first.ensures)

pub statements::some_catches-row-requires : goal.statements::some_catches-row-requires
statements::some_catches-row-requires t c κs =
    let h = c.args.height in
    let first = c.in_ok-first.first in
    let run = catch_run exprs h (levels exprs h) in
    let lt = loop_shorter _ run (catch_ahead h) c.args.tokens.now first.rest.now first.value first.left c.in_ok-first.ensures in
    (search rules, (λ ts e. (omega arith, omega (arith, e, lt)), (run, catch_ahead h, λ ts r p. search rules)))

pub statements::some_catches-returns-clause-read : goal.statements::some_catches-returns-clause-read
statements::some_catches-returns-clause-read t c =
    let h = c.args.height in
    let first = c.in_ok-first.first in
    let run = catch_run exprs h (levels exprs h) in
    subst (λ (v : Read (List Clause)). Is c.in_ok-row.field-0 v) (sym (some_catches_is h c.args.tokens.now first.value first.rest.now first.left c.in_ok-first.ensures)) (c.in_ok-row.ensures.read run (catch_ahead h) (λ ts r p. search rules))

pub statements::some_catches-returns-clause-shorter : goal.statements::some_catches-returns-clause-shorter
statements::some_catches-returns-clause-shorter t c =
    let h = c.args.height in
    let first = c.in_ok-first.first in
    let lt = loop_shorter _ (catch_run exprs h (levels exprs h)) (catch_ahead h) c.args.tokens.now first.rest.now first.value first.left c.in_ok-first.ensures in
    omega (arith, lt, c.in_ok-row.ensures.shorter)

pub statements::some_clauses-returns-in_err-catches : goal.statements::some_clauses-returns-in_err-catches
statements::some_clauses-returns-in_err-catches t c =
    let p = err_from_is_err_and c.from_residual.result c.from_residual.ensures.1 in
    rw (p.1, p.2) (subst (λ (v : Read (List Clause)). Halts c.in_err-catches.field-0.0 v) (sym (some_clauses_catch c.args.height c.args.tokens.now (search rules)))
    (two_halts with_last (some_catches_run c.args.height c.args.tokens.now) (perhaps (Finally c.args.height c.args.tokens.now)) c.in_err-catches.field-0.0 c.in_err-catches.ensures.read))

pub statements::try_at-returns-then-sign_stands : goal.statements::try_at-returns-then-sign_stands
statements::try_at-returns-then-sign_stands t c =
    let at = c.in_ok-at.at in
    subst (λ (v : Read Stmt). Gives c.reaching.result v) (sym (try_with_is c.args.height c.args.tokens.now at.value at.rest.now at.left c.in_ok-at.ensures.read (search rules)))
    (c.reaching.ensures.read (as_new (with_node at.value) (in_turn (roomy_resources_run c.args.height) (guarded_run c.args.height)) at.rest.now) c.try_with.ensures)

pub members::coded_member-returns-in_err-head : goal.members::coded_member-returns-in_err-head
members::coded_member-returns-in_err-head t c =
    let h = c.args.height in
    let ms = c.args.modifiers in
    let e = c.in_err-head.field-0.0 in
    let p = err_from_is_err_and c.from_residual.result c.from_residual.ensures.1 in
    rw (p.1, p.2) (subst (λ (v : Read Member). Halts e v) (sym (coded_goes h ms.left ms.value ms.rest.now))
    (finish_halts h (noting ms.left (becoming (with_head ms.value) (code_head_run h ms.rest.now))) e (joined_gives with_head ms (code_head_run h ms.rest.now) c.code_head.result (Err e) c.code_head.ensures c.in_err-head.ensures)))

pub members::coded_member-returns : goal.members::coded_member-returns
members::coded_member-returns t c =
    let h = c.args.height in
    let ms = c.args.modifiers in
    let head = c.in_ok-head.head in
    let e : noting ms.left (becoming (with_head ms.value) (code_head_run h ms.rest.now)) ≡ Found head.value head.rest.now head.left =
    joined_gives with_head ms (code_head_run h ms.rest.now) c.code_head.result (Ok head) c.code_head.ensures c.in_ok-head.ensures in
    subst (λ (v : Read Member). Gives c.member_end.result v) (sym (coded_goes h ms.left ms.value ms.rest.now ∙ ap (finish h) e)) c.member_end.ensures

pub members::coded_member-member_end-requires : goal.members::coded_member-member_end-requires
members::coded_member-member_end-requires t c =
    let h = c.args.height in
    let ms = c.args.modifiers in
    let head = c.in_ok-head.head in
    let e : noting ms.left (becoming (with_head ms.value) (code_head_run h ms.rest.now)) ≡ Found head.value head.rest.now head.left =
    joined_gives with_head ms (code_head_run h ms.rest.now) c.code_head.result (Ok head) c.code_head.ensures c.in_ok-head.ensures in
    let lt = head_leaves h ms.left ms.value ms.rest.now head.rest.now head.value head.left e in
    omega (arith, lt, c.requires)

pub members::method_end-returns : goal.members::method_end-returns
members::method_end-returns t c =
    let h = c.args.height in
    let head = c.args.head in
    subst (λ (v : Read Member). Gives c.method_end_of.result v) (sym (method_goes_on h head.value head.rest.now head.left))
    (joined_gives method_member head (method_items_run h head.rest.now) c.method_items.result c.method_end_of.result c.method_items.ensures c.method_end_of.ensures)

pub members::constructor_end-returns : goal.members::constructor_end-returns
members::constructor_end-returns t c =
    let h = c.args.height in
    let head = c.args.head in
    subst (λ (v : Read Member). Gives c.constructor_end_of.result v) (sym (constructor_goes_on h head.value head.rest.now head.left))
    (joined_gives constructor_of head (constructor_list_run h head.rest.now) c.constructor_list.result c.constructor_end_of.result c.constructor_list.ensures c.constructor_end_of.ensures)

pub members::first_row-returns-in_err-first : goal.members::first_row-returns-in_err-first
unfolding first_row_run
members::first_row-returns-in_err-first t c =
    let p = err_from_is_err_and c.from_residual.result c.from_residual.ensures.1 in
    rw (p.1, p.2) (two_halts listed ((levels exprs c.args.height).first c.args.tokens.now) (any_number (levels exprs c.args.height).item) c.in_err-first.field-0.0 c.in_err-first.ensures)

pub members::first_row-row-requires : goal.members::first_row-row-requires
members::first_row-row-requires t c κs =
    let h = c.args.height in
    let first = c.in_ok-first.first in
    let lt = loop_shorter _ (levels exprs h).first (first_ahead h) c.args.tokens.now first.rest.now first.value first.left c.in_ok-first.ensures in
    (search rules, (λ ts e. (omega arith, omega (arith, e, lt)), ((levels exprs h).item, item_ahead h, λ ts r p. search rules)))

pub members::first_row-returns : goal.members::first_row-returns
unfolding first_row_run
members::first_row-returns t c =
    let h = c.args.height in
    let first = c.in_ok-first.first in
    let item = (levels exprs h).item in
    subst (λ (v : Read (List Stmt)). Is c.in_ok-row.field-0 v) (sym (cut listed (levels exprs h).first (any_number item) c.args.tokens.now first.rest.now first.value first.left c.in_ok-first.ensures)) (c.in_ok-row.ensures.read item (item_ahead h) (λ ts r p. search rules))
