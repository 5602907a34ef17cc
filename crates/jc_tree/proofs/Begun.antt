-- The first offsets of trees by their parts, as the calls that answer them use them.
use Rattle.jc_tree.proofs.OffsetsOfTypes.{first_offset_of_base-Primitive, first_offset_of_base-Class, first_offset_of_arg-Exact, first_offset_of_arg-Any, first_offset_of_arg-Extends, first_offset_of_arg-Super, first_offset_of_class-parts, first_offset_of_part-parts, first_offset_of_type-parts}
use Rattle.jc_tree.proofs.OffsetsOfExpressions.{first_offset_of_creation-Object, first_offset_of_creation-Sized, first_offset_of_creation-Initialised, first_offset_of_expr-Assign, first_offset_of_expr-Conditional, first_offset_of_expr-Chain, first_offset_of_expr-Prefix, first_offset_of_expr-Cast, first_offset_of_expr-Postfix, first_offset_of_expr-Field, first_offset_of_expr-Call, first_offset_of_expr-Index, first_offset_of_expr-InnerNew, first_offset_of_expr-Literal, first_offset_of_expr-This, first_offset_of_expr-SuperField, first_offset_of_expr-SuperCall, first_offset_of_expr-Paren, first_offset_of_expr-Name, first_offset_of_expr-Invoke, first_offset_of_expr-New, first_offset_of_expr-ClassLiteral, first_offset_of_expr-VoidLiteral, first_offset_of_expr-OuterThis, first_offset_of_init-Value, first_offset_of_init-Nested, first_offset_of_operand-Binary, first_offset_of_operand-InstanceOf, first_offset_of_array-parts}
use Rattle.jc_tree.proofs.OffsetsOfStatements.{first_offset_of_value-Value, first_offset_of_value-List, first_offset_of_member-Semicolon, first_offset_of_member-Initialiser, first_offset_of_member-Fields, first_offset_of_member-Bare, first_offset_of_member-Method, first_offset_of_member-Nested, first_offset_of_stmt-Local, first_offset_of_stmt-Declared, first_offset_of_stmt-Block, first_offset_of_stmt-Empty, first_offset_of_stmt-Effect, first_offset_of_stmt-Labeled, first_offset_of_stmt-If, first_offset_of_stmt-While, first_offset_of_stmt-Do, first_offset_of_stmt-For, first_offset_of_stmt-Switch, first_offset_of_stmt-Return, first_offset_of_stmt-Break, first_offset_of_stmt-Continue, first_offset_of_stmt-Throw, first_offset_of_stmt-Try, first_offset_of_stmt-ThisCall, first_offset_of_stmt-SuperCall, first_offset_of_clause-parts, first_offset_of_declaration-parts}

pub ruleset types = (first_offset_of_base-Primitive, first_offset_of_base-Class, first_offset_of_arg-Exact, first_offset_of_arg-Any, first_offset_of_arg-Extends, first_offset_of_arg-Super, first_offset_of_class-parts, first_offset_of_part-parts, first_offset_of_type-parts)

pub ruleset expressions = (first_offset_of_creation-Object, first_offset_of_creation-Sized, first_offset_of_creation-Initialised, first_offset_of_expr-Assign, first_offset_of_expr-Conditional, first_offset_of_expr-Chain, first_offset_of_expr-Prefix, first_offset_of_expr-Cast, first_offset_of_expr-Postfix, first_offset_of_expr-Field, first_offset_of_expr-Call, first_offset_of_expr-Index, first_offset_of_expr-InnerNew, first_offset_of_expr-Literal, first_offset_of_expr-This, first_offset_of_expr-SuperField, first_offset_of_expr-SuperCall, first_offset_of_expr-Paren, first_offset_of_expr-Name, first_offset_of_expr-Invoke, first_offset_of_expr-New, first_offset_of_expr-ClassLiteral, first_offset_of_expr-VoidLiteral, first_offset_of_expr-OuterThis, first_offset_of_init-Value, first_offset_of_init-Nested, first_offset_of_operand-Binary, first_offset_of_operand-InstanceOf, first_offset_of_array-parts)

pub ruleset values = (first_offset_of_value-Value, first_offset_of_value-List)

pub ruleset statements = (first_offset_of_member-Semicolon, first_offset_of_member-Initialiser, first_offset_of_member-Fields, first_offset_of_member-Bare, first_offset_of_member-Method, first_offset_of_member-Nested, first_offset_of_stmt-Local, first_offset_of_stmt-Declared, first_offset_of_stmt-Block, first_offset_of_stmt-Empty, first_offset_of_stmt-Effect, first_offset_of_stmt-Labeled, first_offset_of_stmt-If, first_offset_of_stmt-While, first_offset_of_stmt-Do, first_offset_of_stmt-For, first_offset_of_stmt-Switch, first_offset_of_stmt-Return, first_offset_of_stmt-Break, first_offset_of_stmt-Continue, first_offset_of_stmt-Throw, first_offset_of_stmt-Try, first_offset_of_stmt-ThisCall, first_offset_of_stmt-SuperCall, first_offset_of_clause-parts, first_offset_of_declaration-parts)
