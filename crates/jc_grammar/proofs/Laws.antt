-- The laws of what a tree tells, by the lemmas of each form.
use Rattle.jc_grammar.specs.Laws.{TypesAreTold, ExpressionsAreTold, StatementsAreTold}
use Rattle.jc_grammar.proofs.TokensOfTypes.{base_tokens-Primitive, base_tokens-Class, arg_tokens-Exact, arg_tokens-Any, arg_tokens-Extends, arg_tokens-Super, class_tokens-parts, part_tokens-parts, type_tokens-parts}
use Rattle.jc_grammar.proofs.TokensOfExpressions.{skip_part_tokens-Inner, skip_part_tokens-Token, skip_tokens-parts, creation_tokens-Object, creation_tokens-Sized, creation_tokens-Initialised, expr_tokens-Assign, expr_tokens-Conditional, expr_tokens-Chain, expr_tokens-Prefix, expr_tokens-Cast, expr_tokens-Postfix, expr_tokens-Field, expr_tokens-Call, expr_tokens-Index, expr_tokens-InnerNew, expr_tokens-Literal, expr_tokens-This, expr_tokens-SuperField, expr_tokens-SuperCall, expr_tokens-Paren, expr_tokens-Name, expr_tokens-Invoke, expr_tokens-New, expr_tokens-ClassLiteral, expr_tokens-VoidLiteral, expr_tokens-OuterThis, init_tokens-Value, init_tokens-Nested, operand_tokens-Binary, operand_tokens-InstanceOf, array_tokens-parts}
use Rattle.jc_grammar.proofs.TokensOfStatements.{value_tokens-Value, value_tokens-List, member_tokens-Semicolon, member_tokens-Initialiser_static, member_tokens-Initialiser_instance, member_tokens-Fields, member_tokens-Bare, member_tokens-Method, member_tokens-Nested, stmt_tokens-Local, stmt_tokens-Declared, stmt_tokens-Block, stmt_tokens-Empty, stmt_tokens-Effect, stmt_tokens-Labeled, stmt_tokens-If, stmt_tokens-While, stmt_tokens-Do, stmt_tokens-For, stmt_tokens-Switch, stmt_tokens-Return, stmt_tokens-Break, stmt_tokens-Continue, stmt_tokens-Throw, stmt_tokens-Try, stmt_tokens-ThisCall, stmt_tokens-SuperCall, clause_tokens-parts, declaration_tokens-parts}

pub types_are_told : TypesAreTold
types_are_told = record {
  base_at_Primitive = base_tokens-Primitive;
  base_at_Class = base_tokens-Class;
  arg_at_Exact = arg_tokens-Exact;
  arg_at_Any = arg_tokens-Any;
  arg_at_Extends = arg_tokens-Extends;
  arg_at_Super = arg_tokens-Super;
  classes = class_tokens-parts;
  parts = part_tokens-parts;
  types = type_tokens-parts;
}

pub expressions_are_told : ExpressionsAreTold
expressions_are_told = record {
  skip_part_at_Inner = skip_part_tokens-Inner;
  skip_part_at_Token = skip_part_tokens-Token;
  skips = skip_tokens-parts;
  creation_at_Object = creation_tokens-Object;
  creation_at_Sized = creation_tokens-Sized;
  creation_at_Initialised = creation_tokens-Initialised;
  at_Assign = expr_tokens-Assign;
  at_Conditional = expr_tokens-Conditional;
  at_Chain = expr_tokens-Chain;
  at_Prefix = expr_tokens-Prefix;
  at_Cast = expr_tokens-Cast;
  at_Postfix = expr_tokens-Postfix;
  at_Field = expr_tokens-Field;
  at_Call = expr_tokens-Call;
  at_Index = expr_tokens-Index;
  at_InnerNew = expr_tokens-InnerNew;
  at_Literal = expr_tokens-Literal;
  at_This = expr_tokens-This;
  at_SuperField = expr_tokens-SuperField;
  at_SuperCall = expr_tokens-SuperCall;
  at_Paren = expr_tokens-Paren;
  at_Name = expr_tokens-Name;
  at_Invoke = expr_tokens-Invoke;
  at_New = expr_tokens-New;
  at_ClassLiteral = expr_tokens-ClassLiteral;
  at_VoidLiteral = expr_tokens-VoidLiteral;
  at_OuterThis = expr_tokens-OuterThis;
  init_at_Value = init_tokens-Value;
  init_at_Nested = init_tokens-Nested;
  operand_at_Binary = operand_tokens-Binary;
  operand_at_InstanceOf = operand_tokens-InstanceOf;
  arrays = array_tokens-parts;
}

pub statements_are_told : StatementsAreTold
statements_are_told = record {
  value_at_Value = value_tokens-Value;
  value_at_List = value_tokens-List;
  member_at_Semicolon = member_tokens-Semicolon;
  member_at_Initialiser_static = member_tokens-Initialiser_static;
  member_at_Initialiser_instance = member_tokens-Initialiser_instance;
  member_at_Fields = member_tokens-Fields;
  member_at_Bare = member_tokens-Bare;
  member_at_Method = member_tokens-Method;
  member_at_Nested = member_tokens-Nested;
  at_Local = stmt_tokens-Local;
  at_Declared = stmt_tokens-Declared;
  at_Block = stmt_tokens-Block;
  at_Empty = stmt_tokens-Empty;
  at_Effect = stmt_tokens-Effect;
  at_Labeled = stmt_tokens-Labeled;
  at_If = stmt_tokens-If;
  at_While = stmt_tokens-While;
  at_Do = stmt_tokens-Do;
  at_For = stmt_tokens-For;
  at_Switch = stmt_tokens-Switch;
  at_Return = stmt_tokens-Return;
  at_Break = stmt_tokens-Break;
  at_Continue = stmt_tokens-Continue;
  at_Throw = stmt_tokens-Throw;
  at_Try = stmt_tokens-Try;
  at_ThisCall = stmt_tokens-ThisCall;
  at_SuperCall = stmt_tokens-SuperCall;
  clauses = clause_tokens-parts;
  declarations = declaration_tokens-parts;
}
