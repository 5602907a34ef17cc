-- Definite assignment of one variable through expressions (JLS 16.1).
use Rattle.std.specs.Prelude.{ℕ, ◌==◌, Bool, true, false, ◌&&◌, ◌||◌, List, [], ◌∷◌, if◌then◌else◌}
use Rattle.jc_rules.specs.declared.rule.Place.{Place}
use Rattle.jc_types.specs.declared.ids.FieldId.{FieldId}
use Rattle.jc_types.specs.declared.constant.Constant.{Constant}
use Rattle.jc_types.specs.declared.constant.Op.{Op}
use Rattle.jc_types.specs.declared.constant.Op.TheVariants.{Not}
use Rattle.jc_types.specs.declared.form.Ty.{Ty}
use Rattle.jc_types.specs.declared.form.Ty.TheVariants.{Prim}
use Rattle.jc_types.specs.declared.form.Primitive.TheVariants.{Boolean}
use Rattle.jc_typed.specs.Trees.{Named, Expr, NoExpr, expr, Operand, NoOperand, operand, Form, Fixed, Null, Local, This, StaticField, Field, Element, Length, Prefix, Chain, AllOf, AnyOf, InstanceOf, Conditional, Assign, Compound, Change, Call, New, NewArray, ArrayOf, Cast, Variable, LocalVariable, StaticVariable, FieldVariable, ElementVariable, Operands, NoOperands, MoreOperands, Links, NoLinks, MoreLinks}
use Rattle.jc_flow_spec.specs.Expressions.{is_number}
use Rattle.jc_assign_spec.specs.declared.marks.Mark.{Mark}
use Rattle.jc_assign_spec.specs.declared.marks.Variable.{Variable as Tracked}
use Rattle.jc_assign_spec.specs.declared.marks.Variable.TheVariants as v
use Rattle.jc_assign_spec.specs.Marks.{Known, Split, free, meet, met, used, written, with_now, joined, alike, never_no, never_yes, turned}

abbrev pub is_this_form : Form → Bool
is_this_form This = true
is_this_form _ = false

abbrev pub is_this_expr : Expr → Bool
is_this_expr NoExpr = false
is_this_expr (expr place ty captures form) = is_this_form form

-- `this`, written or implied
abbrev pub is_this : Operand → Bool
is_this NoOperand = false
is_this (operand place of_it steps) = is_this_expr of_it

-- V is this local; or it is this field, named by its simple name or through `this`
abbrev pub is_local : ℕ → Tracked → Bool
is_local n (v.Local m) = n == m
is_local n (v.Own f) = false
is_local n v.Foreign = false

abbrev pub is_own : Bool → FieldId → Tracked → Bool
is_own named f (v.Own g) = named && (f.0 == g.0)
is_own named f (v.Local n) = false
is_own named f v.Foreign = false

-- a boolean type (JLS 16.1.5)
abbrev pub is_boolean_type : Ty → Bool
is_boolean_type (Prim Boolean) = true
is_boolean_type _ = false

abbrev pub is_boolean_expr : Expr → Bool
is_boolean_expr NoExpr = false
is_boolean_expr (expr place ty captures form) = is_boolean_type ty

abbrev pub is_boolean : Operand → Bool
is_boolean NoOperand = false
is_boolean (operand place of_it steps) = is_boolean_expr of_it

-- V is used here
abbrev pub used_if : Bool → Place → Known → Known
used_if true p s = used p s
used_if false p s = s

-- the locals that a constant expression names are used
abbrev pub named_used : Tracked → List Named → Known → Known
named_used var [] s = s
named_used var (n ∷ ns) s = named_used var ns (used_if (is_local n.local var) n.place s)

abbrev pub written_if : Bool → Bool → Place → Known → Known
written_if true is_final p s = written is_final p s
written_if false is_final p s = s

-- the branches of `b ? x : y`, the second begun in the state that the first leaves
abbrev pub chosen_from : (Known → Known) → Mark → Known → Known
chosen_from other falses a = met a.now (other (with_now falses a))

abbrev pub chosen : (Known → Known) → (Known → Known) → Split → Known
chosen other taken r = chosen_from other r.no (taken r.yes)

abbrev pub split_met : Split → Split → Split
split_met a b = record { yes = met a.yes.now b.yes; no = meet a.no b.no }

abbrev pub chosen_split_from : (Known → Split) → Mark → Split → Split
chosen_split_from other falses a = split_met a (other (with_now falses a.yes))

abbrev pub chosen_split : (Known → Split) → (Known → Split) → Split → Split
chosen_split other taken r = chosen_split_from other r.no (taken r.yes)

-- one more operand of `&&`, which is evaluated when the earlier ones were true, and of `||` (JLS 16.1.2, 16.1.3)
abbrev pub all_met : Mark → Split → Split
all_met falses b = record { yes = b.yes; no = meet falses b.no }

abbrev pub all_more : (Known → Split) → Split → Split
all_more last r = all_met r.no (last r.yes)

abbrev pub any_met : Mark → Split → Split
any_met trues b = record { yes = met trues b.yes; no = b.no }

abbrev pub any_more : (Known → Split) → Split → Split
any_more last r = any_met r.yes.now (last (with_now r.no r.yes))

-- `!` turns the answers; the other prefix operators take no test (JLS 16.1.4)
abbrev pub prefixed : List Op → Split → Split
prefixed [] r = r
prefixed (Not ∷ ops) r = turned (prefixed ops r)
prefixed (_ ∷ ops) r = prefixed ops r

-- a constant test (JLS 16.1.1)
abbrev pub fixed_split : Constant → Known → Split
fixed_split value s = if is_number 1 value then never_no s else if is_number 0 value then never_yes s else alike s

-- a constant, which is no constant expression where it is named through an operand (JLS 15.28)
abbrev pub constant_split : Operands → Constant → Known → Split
constant_split NoOperands value s = fixed_split value s
constant_split (MoreOperands before last) value s = alike s

-- `foreign` tells of a field whether it is final and isn't one that the body may assign by this name
module _ (var : Tracked) (is_final : Bool) (foreign : Bool → FieldId → Bool) where
  -- a field is assigned: V itself, or a final field that may not be assigned here
  abbrev pub is_refused : Tracked → Bool → FieldId → Bool
  is_refused v.Foreign named f = foreign named f
  is_refused (v.Local n) named f = false
  is_refused (v.Own g) named f = false

  abbrev pub field_written : Bool → FieldId → Place → Known → Known
  field_written named f p s = written_if (is_own named f var || is_refused var named f) is_final p s

  -- a variable is assigned, whose parts were evaluated before
  abbrev pub variable_written : Place → Variable → Known → Known
  variable_written p (LocalVariable place n) s = written_if (is_local n var) is_final p s
  variable_written p (StaticVariable place before f is_simple) s = field_written is_simple f p s
  variable_written p (FieldVariable place of_it f is_raw) s = field_written (is_this of_it) f p s
  variable_written p (ElementVariable place array index) s = s

  -- the value of a variable is used by `op=`, `++` or `--`
  abbrev pub variable_used : Variable → Known → Known
  variable_used (LocalVariable place n) s = used_if (is_local n var) place s
  variable_used (StaticVariable place before f is_simple) s = used_if (is_own is_simple f var) place s
  variable_used (FieldVariable place of_it f is_raw) s = used_if (is_own (is_this of_it) f var) place s
  variable_used (ElementVariable place array index) s = s

  abbrev mutual
    pub expr_known : Expr → Known → Known
    expr_known NoExpr s = s
    expr_known (expr place ty captures form) s = form_known place form s

    pub operand_known : Operand → Known → Known
    operand_known NoOperand s = s
    operand_known (operand place of_it steps) s = expr_known of_it s

    pub form_known : Place → Form → Known → Known
    form_known p (Fixed before value named casts) s = named_used var named (operands_known before s)
    form_known p Null s = s
    form_known p (Local n) s = used_if (is_local n var) p s
    form_known p This s = s
    form_known p (StaticField before f is_simple) s = used_if (is_own is_simple f var) p (operands_known before s)
    form_known p (Field of_it f) s = used_if (is_own (is_this of_it) f var) p (operand_known of_it s)
    form_known p (Element array index) s = operand_known index (operand_known array s)
    form_known p (Length array) s = operand_known array s
    form_known p (Prefix ops of_it) s = joined (prefixed ops (operand_split of_it s))
    form_known p (Chain first links) s = links_known links (operand_known first s)
    form_known p (AllOf os from up_to) s = joined (all_split os s)
    form_known p (AnyOf os from up_to) s = joined (any_split os s)
    form_known p (InstanceOf of_it to) s = operand_known of_it s
    form_known p (Conditional test taken other from up_to) s = chosen (operand_known other) (operand_known taken) (operand_split test s)
    form_known p (Assign variable value store) s = variable_written p variable (operand_known value (variable_known variable s))
    form_known p (Compound variable joint left right into) s = variable_written p variable (operand_known right (variable_used variable (variable_known variable s)))
    form_known p (Change variable op from into is_prefix) s = variable_written p variable (variable_used variable (variable_known variable s))
    form_known p (Call kind receiver m types args phase thrown is_raw) s = operands_known args (operands_known receiver s)
    form_known p (New m args phase thrown is_raw) s = operands_known args s
    form_known p (NewArray lengths) s = operands_known lengths s
    form_known p (ArrayOf elements) s = operands_known elements s
    form_known p (Cast of_it to steps is_below) s = operand_known of_it s

    -- the parts of a variable that is assigned
    pub variable_known : Variable → Known → Known
    variable_known (LocalVariable place n) s = s
    variable_known (StaticVariable place before f is_simple) s = operands_known before s
    variable_known (FieldVariable place of_it f is_raw) s = operand_known of_it s
    variable_known (ElementVariable place array index) s = operand_known index (operand_known array s)

    pub operands_known : Operands → Known → Known
    operands_known NoOperands s = s
    operands_known (MoreOperands before last) s = operand_known last (operands_known before s)

    pub links_known : Links → Known → Known
    links_known NoLinks s = s
    links_known (MoreLinks before joint left right) s = operand_known right (links_known before s)

    -- when true and when false (JLS 16.1.1 to 16.1.6)
    pub expr_split : Expr → Known → Split
    expr_split NoExpr s = alike s
    expr_split (expr place ty captures form) s = form_split place form s

    pub operand_split : Operand → Known → Split
    operand_split NoOperand s = alike s
    operand_split (operand place of_it steps) s = expr_split of_it s

    pub form_split : Place → Form → Known → Split
    form_split p (Fixed before value named casts) s = constant_split before value (named_used var named (operands_known before s))
    form_split p (Prefix ops of_it) s = prefixed ops (operand_split of_it s)
    form_split p (AllOf os from up_to) s = all_split os s
    form_split p (AnyOf os from up_to) s = any_split os s
    form_split p (Conditional test taken other from up_to) s =
        if is_boolean taken && is_boolean other then chosen_split (operand_split other) (operand_split taken) (operand_split test s) else alike (chosen (operand_known other) (operand_known taken) (operand_split test s))
    form_split p Null s = alike s
    form_split p (Local n) s = alike (used_if (is_local n var) p s)
    form_split p This s = alike s
    form_split p (StaticField before f is_simple) s = alike (used_if (is_own is_simple f var) p (operands_known before s))
    form_split p (Field of_it f) s = alike (used_if (is_own (is_this of_it) f var) p (operand_known of_it s))
    form_split p (Element array index) s = alike (operand_known index (operand_known array s))
    form_split p (Length array) s = alike (operand_known array s)
    form_split p (Chain first links) s = alike (links_known links (operand_known first s))
    form_split p (InstanceOf of_it to) s = alike (operand_known of_it s)
    form_split p (Assign variable value store) s = alike (variable_written p variable (operand_known value (variable_known variable s)))
    form_split p (Compound variable joint left right into) s = alike (variable_written p variable (operand_known right (variable_used variable (variable_known variable s))))
    form_split p (Change variable op from into is_prefix) s = alike (variable_written p variable (variable_used variable (variable_known variable s)))
    form_split p (Call kind receiver m types args phase thrown is_raw) s = alike (operands_known args (operands_known receiver s))
    form_split p (New m args phase thrown is_raw) s = alike (operands_known args s)
    form_split p (NewArray lengths) s = alike (operands_known lengths s)
    form_split p (ArrayOf elements) s = alike (operands_known elements s)
    form_split p (Cast of_it to steps is_below) s = alike (operand_known of_it s)

    -- `a && b && ..`: when false after each that was false; `a || b || ..` (JLS 16.1.2, 16.1.3)
    pub all_split : Operands → Known → Split
    all_split NoOperands s = record { yes = s; no = free }
    all_split (MoreOperands before last) s = all_more (operand_split last) (all_split before s)

    pub any_split : Operands → Known → Split
    any_split NoOperands s = never_yes s
    any_split (MoreOperands before last) s = any_more (operand_split last) (any_split before s)
