use Rattle.std.proofs.Common.{◌∙◌}
use Rattle.jc_typed.specs.Parts.{ops_of}
use Rattle.jc_assign_parts.specs.Lanes.{known, marks}
use Rattle.jc_assign_names.proofs.Turned.{turned_yes, turned_no, kept_yes, kept_no}
use Rattle.jc_assign_names.proofs.tests.prefix_test.Goals as goal

pub returns-then-has_odd_nots-clause-yes : goal.returns-then-has_odd_nots-clause-yes
returns-then-has_odd_nots-clause-yes c = c.swap_now.ensures.new ∙ turned_yes (ops_of c.args.nodes.now c.args.ops) (known c.args.s.now) (marks c.args.no) c.has_odd_nots.result c.has_odd_nots.ensures c.if-has_odd_nots.true

pub returns-then-has_odd_nots-clause-no : goal.returns-then-has_odd_nots-clause-no
returns-then-has_odd_nots-clause-no c = c.swap_now.ensures.old ∙ turned_no (ops_of c.args.nodes.now c.args.ops) (known c.args.s.now) (marks c.args.no) c.has_odd_nots.result c.has_odd_nots.ensures c.if-has_odd_nots.true

pub returns-else-has_odd_nots-clause-yes : goal.returns-else-has_odd_nots-clause-yes
returns-else-has_odd_nots-clause-yes c = kept_yes (ops_of c.args.nodes.now c.args.ops) (known c.args.s.now) (marks c.args.no) c.has_odd_nots.result c.has_odd_nots.ensures c.if-has_odd_nots.false

pub returns-else-has_odd_nots-clause-no : goal.returns-else-has_odd_nots-clause-no
returns-else-has_odd_nots-clause-no c = kept_no (ops_of c.args.nodes.now c.args.ops) (known c.args.s.now) (marks c.args.no) c.has_odd_nots.result c.has_odd_nots.ensures c.if-has_odd_nots.false
