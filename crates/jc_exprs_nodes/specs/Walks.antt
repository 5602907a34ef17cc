-- What a walk over the expressions of a body has in its arena: a typed expression is an operand there, whose steps are those that its value goes through wherever it stands.
use Rattle.std.specs.Prelude.{◌≡◌, ℕ, ◌<◌, List, [], ◌∷◌, ◌++◌, Option, Some, None, length}
use Rattle.jc_rules.specs.declared.rule.Place.{Place}
use Rattle.jc_rules.specs.declared.rule.Refusal.{Refusal}
use Rattle.jc_types.specs.declared.form.Ty.TheVariants.{NullTy}
use Rattle.jc_typed.specs.declared.lists.Capture.{Capture}
use Rattle.jc_typed.specs.declared.nodes.Node.{Node}
use Rattle.jc_typed.specs.Trees.{Expr, NoExpr, expr, Operand, NoOperand, operand, Null, Step}
use Rattle.jc_typed.specs.Parts.{captures_of, expr_of, form_over, nowhere, operand_of, parts, steps_of, type_of}
use Rattle.jc_exprs_nodes_spec.specs.Told.{Broken, Run, Standing, standing}
use Rattle.jc_exprs_nodes_spec.specs.Typeds.{Kind, Typed, plain, tree, type_of as counted_type}
use Rattle.jc_exprs_nodes.specs.declared.walk.Walk.{Walk}
use Rattle.jc_exprs_nodes.specs.declared.walk.Part.{Part}
use Rattle.jc_exprs_nodes.specs.declared.walk.KindAt.{KindAt}
use Rattle.jc_exprs_nodes.specs.declared.walk.Formed.{Formed}

-- how a walk stands
abbrev pub now : Walk → Standing
now w = standing w.env.bounds w.found

-- the typed expression of an operand, if it has one
abbrev pub typed_by : Place → Expr → List Step → Option Typed
typed_by start NoExpr ss = None
typed_by start (expr place ty captures form) ss = Some (record { start = start; place = place; ty = ty; captures = captures; form = form; lead = ss })

unfoldable pub typed_in : Operand → Option Typed
typed_in NoOperand = None
typed_in (operand start e ss) = typed_by start e ss

-- what stands at a place of an arena
abbrev pub has : List Node → ℕ → Option Typed
has ns at = typed_in (operand_of ns at)

-- what stands there, where something does
abbrev pub or_null : Option Typed → Typed
or_null None = record { start = nowhere; place = nowhere; ty = NullTy; captures = []; form = Null; lead = [] }
or_null (Some t) = t

unfoldable pub known : List Node → ℕ → Typed
known ns at = or_null (has ns at)

-- this is a typed expression, with and without the parentheses round it, and its expression, the type that it counts as and its lead in the arena
pub record IsPart (ns : List Node) (p : Part) : Type 0 where
  pub it : has ns p.at ≡ Some (known ns p.at)
  pub operand : operand_of ns p.at ≡ plain (known ns p.at)
  pub tree : expr_of ns p.of ≡ tree (known ns p.at)
  pub start : (known ns p.at).start ≡ p.start
  pub place : (known ns p.at).place ≡ p.place
  pub ty : counted_type (known ns p.at) ≡ type_of ns p.ty
  pub lead : (known ns p.at).lead ≡ steps_of ns p.lead
  pub below : (p.at < length ns) × (p.of < length ns) × (p.ty < length ns) × (p.lead < length ns)

-- a node that breaks this rule, and a rule that may be broken as a list
abbrev pub broken_by : {A : Type 0} → Refusal → Run A
broken_by b env = record { env = env; told = Broken b [] }

abbrev pub as_breaks : Option Refusal → List Refusal
as_breaks None = []
as_breaks (Some b) = b ∷ []

-- ---- lists of operands

-- each of these stands below a place
abbrev pub AllBelow : ℕ → List ℕ → Type 0
AllBelow k [] = Unit {0}
AllBelow k (a ∷ ats) = (a < k) × AllBelow k ats

-- ---- capture

-- a type after capture, with the variables that this made and those before them
abbrev pub kind_of : List Node → KindAt → Kind
kind_of ns k = record { ty = type_of ns k.ty; captures = captures_of ns k.captures }

abbrev pub has_kind : List Node → Option KindAt → Option Kind
has_kind ns None = None
has_kind ns (Some k) = Some (kind_of ns k)

abbrev pub KindBelow : ℕ → Option KindAt → Type 0
KindBelow n None = Unit {0}
KindBelow n (Some k) = (k.ty < n) × (k.captures < n)

abbrev pub behind_captures : List Capture → Kind → Kind
behind_captures cs k = record { ty = k.ty; captures = cs ++ k.captures }

abbrev pub has_behind : List Capture → Option Kind → Option Kind
has_behind cs None = None
has_behind cs (Some k) = Some (behind_captures cs k)

-- what an expression is made of
abbrev pub formed_in : List Node → Formed → Kind → Typed
formed_in ns f k = record { start = f.place; place = f.place; ty = k.ty; captures = k.captures; form = form_over (parts ns) f.form; lead = steps_of ns f.lead }
