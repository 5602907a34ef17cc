-- What the calls use that answer the first of the left-out forms.
use Rattle.jc_left_out.proofs.LeastOfBoth.{earlier_none, earlier_assoc, least_both}
use Rattle.jc_left_out.proofs.LeftOutExpressions.{left_out-Assign, left_out-Conditional, left_out-Chain, left_out-Prefix, left_out-Cast, left_out-Postfix, left_out-Field, left_out-Call, left_out-Index, left_out-InnerNew, left_out-Literal, left_out-This, left_out-SuperField, left_out-SuperCall, left_out-Paren, left_out-Name, left_out-Invoke, left_out-New, left_out-ClassLiteral, left_out-VoidLiteral, left_out-OuterThis, left_out-Object, left_out-Sized, left_out-Initialised, left_out-Value, left_out-Nested, left_out-Binary, left_out-InstanceOf, left_out-array}
use Rattle.jc_left_out.proofs.LeftOutStatements.{value-Value, value-List, stmt-Local, stmt-Declared, stmt-Block, stmt-Empty, stmt-Effect, stmt-Labeled, stmt-If, stmt-While, stmt-Do, stmt-For, stmt-Switch, stmt-Return, stmt-Break, stmt-Continue, stmt-Throw, stmt-ThisCall, stmt-SuperCall, stmt-Try_plain, stmt-Try_resources, clause_forms-parts, member-Semicolon, member-Initialiser, member-Fields, member-Bare, member-Method, member-Nested, declaration_forms-parts}

pub ruleset lists = (earlier_none, earlier_assoc, least_both)

pub ruleset expressions = (earlier_none, earlier_assoc, least_both, left_out-Assign, left_out-Conditional, left_out-Chain, left_out-Prefix, left_out-Cast, left_out-Postfix, left_out-Field, left_out-Call, left_out-Index, left_out-InnerNew, left_out-Literal, left_out-This, left_out-SuperField, left_out-SuperCall, left_out-Paren, left_out-Name, left_out-Invoke, left_out-New, left_out-ClassLiteral, left_out-VoidLiteral, left_out-OuterThis, left_out-Object, left_out-Sized, left_out-Initialised, left_out-Value, left_out-Nested, left_out-Binary, left_out-InstanceOf, left_out-array)

pub ruleset values = (earlier_none, earlier_assoc, least_both, value-Value, value-List)

pub ruleset statements = (earlier_none, earlier_assoc, least_both, stmt-Local, stmt-Declared, stmt-Block, stmt-Empty, stmt-Effect, stmt-Labeled, stmt-If, stmt-While, stmt-Do, stmt-For, stmt-Switch, stmt-Return, stmt-Break, stmt-Continue, stmt-Throw, stmt-ThisCall, stmt-SuperCall, stmt-Try_plain, stmt-Try_resources, clause_forms-parts, member-Semicolon, member-Initialiser, member-Fields, member-Bare, member-Method, member-Nested, declaration_forms-parts)
