-- The heights of trees by their parts, as the calls that answer them use them.
use Rattle.jc_tree.specs.declared.types.BaseTree.TheVariants as anBaseTree
use Rattle.jc_tree.specs.declared.types.TypeArg.TheVariants as anTypeArg
use Rattle.jc_tree.specs.declared.expression.SkipPart.TheVariants as anSkipPart
use Rattle.jc_tree.specs.declared.expression.Creation.TheVariants as anCreation
use Rattle.jc_tree.specs.declared.expression.Expr.TheVariants as anExpr
use Rattle.jc_tree.specs.declared.expression.Init.TheVariants as anInit
use Rattle.jc_tree.specs.declared.expression.Operand.TheVariants as anOperand
use Rattle.jc_tree.specs.declared.statement.AnnotationValue.TheVariants as anAnnotationValue
use Rattle.jc_tree.specs.declared.statement.Member.TheVariants as anMember
use Rattle.jc_tree.specs.declared.statement.Stmt.TheVariants as anStmt
use Rattle.jc_tree.proofs.Capped.{capped_max, capped_suc}
use Rattle.jc_tree.proofs.HeightsOfTypes.{base_height-out, arg_height-out, class_height-parts, part_height-parts, type_height-parts}
use Rattle.jc_tree.proofs.HeightsOfExpressions.{skip_part_height-out, skip_height-parts, creation_height-out, creation_height-Object, creation_height-Sized, expr_height-out, expr_height-Chain, expr_height-Call, expr_height-SuperCall, expr_height-Invoke, init_height-out, operand_height-out, array_height-parts}
use Rattle.jc_tree.proofs.HeightsOfStatements.{value_height-out, value_height-List, member_height-out, member_height-Initialiser, member_height-Method, stmt_height-out, stmt_height-Block, stmt_height-If, stmt_height-Switch, stmt_height-Try, stmt_height-ThisCall, stmt_height-SuperCall, clause_height-parts, declaration_height-parts}

pub ruleset types = (capped_max, capped_suc, base_height-out, anBaseTree.outs-Primitive, anBaseTree.outs-Class, arg_height-out, anTypeArg.outs-Exact, anTypeArg.outs-Any, anTypeArg.outs-Extends, anTypeArg.outs-Super, class_height-parts, part_height-parts, type_height-parts)

pub ruleset skips = (capped_max, capped_suc, skip_part_height-out, anSkipPart.outs-Inner, anSkipPart.outs-Token, skip_height-parts)

pub ruleset expressions = (capped_max, capped_suc, creation_height-out, creation_height-Object, creation_height-Sized, anCreation.outs-Initialised, expr_height-out, anExpr.outs-Assign, anExpr.outs-Conditional, expr_height-Chain, anExpr.outs-Prefix, anExpr.outs-Cast, anExpr.outs-Postfix, anExpr.outs-Field, expr_height-Call, anExpr.outs-Index, anExpr.outs-InnerNew, anExpr.outs-Literal, anExpr.outs-This, anExpr.outs-SuperField, expr_height-SuperCall, anExpr.outs-Paren, anExpr.outs-Name, expr_height-Invoke, anExpr.outs-New, anExpr.outs-ClassLiteral, anExpr.outs-VoidLiteral, anExpr.outs-OuterThis, init_height-out, anInit.outs-Value, anInit.outs-Nested, operand_height-out, anOperand.outs-Binary, anOperand.outs-InstanceOf, array_height-parts)

pub ruleset values = (capped_max, capped_suc, value_height-out, anAnnotationValue.outs-Value, value_height-List)

pub ruleset statements = (capped_max, capped_suc, member_height-out, anMember.outs-Semicolon, member_height-Initialiser, anMember.outs-Fields, anMember.outs-Bare, member_height-Method, anMember.outs-Nested, stmt_height-out, anStmt.outs-Local, anStmt.outs-Declared, stmt_height-Block, anStmt.outs-Empty, anStmt.outs-Effect, anStmt.outs-Labeled, stmt_height-If, anStmt.outs-While, anStmt.outs-Do, anStmt.outs-For, stmt_height-Switch, anStmt.outs-Return, anStmt.outs-Break, anStmt.outs-Continue, anStmt.outs-Throw, stmt_height-Try, stmt_height-ThisCall, stmt_height-SuperCall, clause_height-parts, declaration_height-parts)
