-- The definition of assignment at each of the variables that are walked together.
use Rattle.std.specs.Prelude.{ℕ, Bool, true, false, not, ◌||◌, List, [], ◌∷◌}
use Rattle.jc_rules.specs.declared.rule.Place.{Place}
use Rattle.jc_types.specs.declared.ids.FieldId.{FieldId}
use Rattle.jc_types.specs.declared.table.Table.{Table}
use Rattle.jc_types.specs.declared.constant.Op.{Op}
use Rattle.jc_types.specs.declared.constant.Op.TheVariants.{Not}
use Rattle.jc_typed.specs.Trees.{Named, Expr, Operand, Form, Variable, Operands, Links}
use Rattle.jc_assign_spec.specs.Marks.{Known, Split}
use Rattle.jc_assign_spec.specs.Expressions.{all_split, any_split, chosen, chosen_split, expr_known, expr_split, field_written, form_known, form_split, links_known, named_used, operand_known, operand_split, operands_known, variable_known, variable_used, variable_written}
use Rattle.jc_assign_spec.specs.Methods.{foreign_to}
use Rattle.jc_assign_parts.specs.declared.lanes.Group.{Group}
use Rattle.jc_assign_parts.specs.Lanes.{Knowing, Lane, Marking, var_at, word}

abbrev pub named_each : Group → List Named → Lane → Known → Known
named_each g ns l k = named_used (var_at g l.at) ns k

-- what is known when a test is true, and when it is false
abbrev pub split_at : Knowing → Marking → Lane → Split
split_at s m l = record { yes = s.each l; no = m.each l }

abbrev pub is_not : Op → Bool
is_not Not = true
is_not _ = false

abbrev pub differ : Bool → Bool → Bool
differ true b = not b
differ false b = b

-- an odd number of these operators is `!`
abbrev pub odd_nots : List Op → Bool
odd_nots [] = false
odd_nots (op ∷ ops) = differ (is_not op) (odd_nots ops)

module _ (T : Table) (own : List FieldId) (g : Group) (finals : ℕ) where
  abbrev pub expr_each : Expr → Lane → Known → Known
  expr_each x l k = expr_known (var_at g l.at) ((word finals).each l.at) (foreign_to T own) x k

  abbrev pub operand_each : Operand → Lane → Known → Known
  operand_each x l k = operand_known (var_at g l.at) ((word finals).each l.at) (foreign_to T own) x k

  abbrev pub variable_each : Variable → Lane → Known → Known
  variable_each x l k = variable_known (var_at g l.at) ((word finals).each l.at) (foreign_to T own) x k

  abbrev pub operands_each : Operands → Lane → Known → Known
  operands_each x l k = operands_known (var_at g l.at) ((word finals).each l.at) (foreign_to T own) x k

  abbrev pub links_each : Links → Lane → Known → Known
  links_each x l k = links_known (var_at g l.at) ((word finals).each l.at) (foreign_to T own) x k

  abbrev pub variable_uses : Variable → Lane → Known → Known
  variable_uses x l k = variable_used (var_at g l.at) ((word finals).each l.at) (foreign_to T own) x k

  abbrev pub form_each : Place → Form → Lane → Known → Known
  form_each p f l k = form_known (var_at g l.at) ((word finals).each l.at) (foreign_to T own) p f k

  abbrev pub variable_writes : Place → Variable → Lane → Known → Known
  variable_writes p v l k = variable_written (var_at g l.at) ((word finals).each l.at) (foreign_to T own) p v k

  abbrev pub field_writes : Bool → FieldId → Place → Lane → Known → Known
  field_writes named f p l k = field_written (var_at g l.at) ((word finals).each l.at) (foreign_to T own) named f p k

  abbrev pub expr_tested : Expr → Lane → Known → Split
  expr_tested x l k = expr_split (var_at g l.at) ((word finals).each l.at) (foreign_to T own) x k

  abbrev pub operand_tested : Operand → Lane → Known → Split
  operand_tested x l k = operand_split (var_at g l.at) ((word finals).each l.at) (foreign_to T own) x k

  abbrev pub operands_all : Operands → Lane → Known → Split
  operands_all x l k = all_split (var_at g l.at) ((word finals).each l.at) (foreign_to T own) x k

  abbrev pub operands_any : Operands → Lane → Known → Split
  operands_any x l k = any_split (var_at g l.at) ((word finals).each l.at) (foreign_to T own) x k

  abbrev pub form_tested : Place → Form → Lane → Known → Split
  form_tested p f l k = form_split (var_at g l.at) ((word finals).each l.at) (foreign_to T own) p f k

  abbrev pub choice_each : Operand → Operand → Operand → Lane → Known → Known
  choice_each test taken other l k = chosen (operand_each other l) (operand_each taken l) (operand_tested test l k)

  abbrev pub choice_tested : Operand → Operand → Operand → Lane → Known → Split
  choice_tested test taken other l k = chosen_split (operand_tested other l) (operand_tested taken l) (operand_tested test l k)
