-- Parts of source files, as the code reads and holds them.
use Rattle.std.specs.Prelude.{ℕ, Bool, List, [], ◌∷◌, map, length, Option, Some, None}
use Rattle.std.specs.Option.{is_some}
use Rattle.jc_lexer.specs.declared.token.Key.{Key}
use Rattle.jc_lexer.specs.declared.token.Key.TheVariants as key_of
use Rattle.jc_lexer.specs.declared.token.Sign.{Sign}
use Rattle.jc_lexer.specs.declared.token.Sign.TheVariants as sign_of
use Rattle.jc_tree.specs.declared.name.Ident.{Ident}
use Rattle.jc_tree.specs.declared.types.ClassTree.{ClassTree}
use Rattle.jc_tree.specs.declared.types.TypeTree.{TypeTree}
use Rattle.jc_tree.specs.declared.expression.Init.{Init}
use Rattle.jc_tree.specs.declared.statement.AnnotationValue.{AnnotationValue}
use Rattle.jc_tree.specs.declared.statement.Formal.{Formal}
use Rattle.jc_tree.specs.declared.statement.Modifier.{Modifier}
use Rattle.jc_tree.specs.declared.statement.Pair.{Pair}
use Rattle.jc_tree.specs.declared.statement.Var.{Var}
use Rattle.jc_reading.specs.Kinds.{sign_code, key_code}
use Rattle.jc_reading.specs.Reading.{Run, as_new, in_turn, perhaps, either, This, That, an_ident_at, behind_it, first_and_more, each_behind, of_kind}
use Rattle.jc_reading.specs.Further.{with_room, followed}
use Rattle.jc_parse_type.specs.TypeReading.{class_run, dims_run, type_run}
use Rattle.jc_part_laws.specs.PartReading.{HeadRest, ClassHead, InterfaceHead, AnnotationHead, or_nothing, or_no_class, keyed_run, is_variable, formal_run, formals_tail_run, var_run, vars_run}
use Rattle.jc_expr_laws.specs.ExprReading.{exprs}
use Rattle.jc_unit_laws.specs.MemberReading.{is_this}
use Rattle.jc_unit_laws.specs.UnitReading.{semicolon_run}
use Rattle.jc_parse_parts.specs.Lists.{or_no_list}
use Rattle.jc_reading.specs.Reach.{}
use Rattle.jc_parse_parts.specs.declared.trees.FormalTail.{FormalTail}
use Rattle.jc_parse_nodes.specs.declared.trees.HeadTree.{HeadTree}
use Rattle.jc_parse_nodes.specs.declared.trees.HeadTree.TheVariants as head_tree_of
use Rattle.jc_parse_parts.specs.declared.trees.SuperTrees.{SuperTrees}
use Rattle.jc_parse_parts.specs.declared.trees.ValueRow.{ValueRow}
use Rattle.jc_parse_nodes.specs.declared.trees.Vars.{Vars}

-- class types with a sign between them
abbrev pub classes_run : Sign → ℕ → Run (List ClassTree)
classes_run s h = as_new first_and_more (in_turn (class_run h) (each_behind s (class_run h)))

-- such behind a keyword, where it stands there
abbrev pub behind_word_run : Key → Sign → ℕ → Run (List ClassTree)
behind_word_run k s h = as_new or_nothing (perhaps (in_turn (of_kind (key_code k)) (classes_run s h)))

-- values between braces
abbrev pub row_value : List AnnotationValue → Bool → ValueRow
row_value values trailing = record { values = values; trailing = trailing }

-- the values that were read, with whether a comma stands behind the last one (JLS 9.7.1)
abbrev pub row_tree : (List AnnotationValue × Bool) → ValueRow
row_tree p = row_value p.0 p.1

-- a value with a name before it
abbrev pub named_value : (Ident × (Unit {0} × AnnotationValue)) → Pair
named_value p = record { name = Some p.0; value = p.1.1 }

-- a value without a name before it
abbrev pub unnamed_value : AnnotationValue → Pair
unnamed_value value = record { name = None; value = value }

-- a formal parameter behind its modifiers
abbrev pub formal_tail_tree : (TypeTree × (Option (Unit {0}) × (Ident × ℕ))) → FormalTail
formal_tail_tree p = record { ty = p.0; variable_arity = is_some p.1.0; name = p.1.1.0; dims = p.1.1.1 }

-- its type, `...` or nothing, its name, and brackets behind that (JLS 8.4.1)
abbrev pub formal_tail_run : ℕ → Run FormalTail
formal_tail_run h = as_new formal_tail_tree (in_turn (type_run h) (in_turn (perhaps (of_kind (sign_code sign_of.Ellipsis))) (in_turn an_ident_at dims_run)))

-- the whole parameter
abbrev pub formal_with : List Modifier → FormalTail → Formal
formal_with modifiers tail = record { modifiers = modifiers; ty = tail.ty; variable_arity = tail.variable_arity; name = tail.name; dims = tail.dims }

-- one or more formal parameters
abbrev pub first_formals : (Formal × List Formal) → List Formal
first_formals p = p.0 ∷ p.1

-- a further one is read only behind one that isn't of variable arity; and below, one or more, or none at all
abbrev pub some_formals_run : ℕ → Run (List Formal)
some_formals_run h = as_new first_formals (followed is_variable [] (formal_run exprs h) (λ ts. formals_tail_run (length ts) (formal_run exprs h) ts))

abbrev pub perhaps_formals_run : ℕ → Run (List Formal)
perhaps_formals_run h = as_new or_no_list (perhaps (some_formals_run h))

-- ["=" Init]
abbrev pub or_no_initial : Option (Unit {0} × Init) → Option Init
or_no_initial None = None
or_no_initial (Some p) = Some p.1

-- an initialiser or none, with so much room for what nests inside it
abbrev pub initial_run : ℕ → Run (Option Init)
initial_run h = as_new or_no_initial (perhaps (with_room h (in_turn (of_kind (sign_code sign_of.Assign)) (exprs.init h))))

-- variables that are declared together
abbrev pub vars_tree : (Var × List (Unit {0} × Var)) → Vars
vars_tree p = record { first = p.0; more = map behind_it p.1 }

abbrev pub vars_tree_run : ℕ → Run Vars
vars_tree_run h = as_new vars_tree (vars_run exprs h)

-- the variables behind the first one
abbrev pub more_vars_run : ℕ → Run (List Var)
more_vars_run h = as_new (map behind_it) (each_behind sign_of.Comma (var_run exprs h))

-- what a class extends and implements
abbrev pub extended_run : ℕ → Run (Option ClassTree)
extended_run h = as_new or_no_class (perhaps (in_turn (of_kind (key_code key_of.Extends)) (class_run h)))

-- a superclass or none, and then the superinterfaces, which may be left out (JLS 8.1.4, 8.1.5)
abbrev pub supers_tree : (Option (Unit {0} × ClassTree) × List ClassTree) → SuperTrees
supers_tree p = record { extends = or_no_class p.0; implements = p.1 }

abbrev pub supers_run : ℕ → Run SuperTrees
supers_run h = as_new supers_tree (in_turn (perhaps (in_turn (of_kind (key_code key_of.Extends)) (class_run h))) (keyed_run key_of.Implements (class_run h)))

-- a head behind its modifiers
abbrev pub class_head_tree : ClassHead → HeadTree
class_head_tree p = head_tree_of.Class p.0 p.1.0 p.1.1.0 (or_no_class p.1.1.1.0) p.1.1.1.1

abbrev pub interface_head_tree : InterfaceHead → HeadTree
interface_head_tree p = head_tree_of.Interface p.0 p.1.0 p.1.1.0 p.1.1.1

abbrev pub annotation_head_tree : AnnotationHead → HeadTree
annotation_head_tree p = head_tree_of.Annotation p.0 p.1.1

-- the head of a class, an interface or an annotation type
abbrev pub head_tree : HeadRest → HeadTree
head_tree (This p) = class_head_tree p
head_tree (That (This p)) = interface_head_tree p
head_tree (That (That p)) = annotation_head_tree p

-- the end of an import, and whether it is one on demand
abbrev pub import_end_run : Run Bool
import_end_run = as_new is_this (either (sign_code sign_of.Dot ∷ []) (in_turn (of_kind (sign_code sign_of.Dot)) (in_turn (of_kind (sign_code sign_of.Star)) semicolon_run)) semicolon_run)
