-- What an enhanced `for` goes over, in an arena that grows.
use Rattle.std.proofs.Common.{◌≡◌, ℕ, ◌<◌, Bool, true, false, List, length, refl}
use Rattle.jc_typed.specs.declared.nodes.Node.{Node}
use Rattle.jc_typed.specs.Parts.{BelowStmtForm, Grows, parts, stmt_form_over, stmt_of}
use Rattle.jc_typed.specs.Trees.{StmtForm}
use Rattle.jc_typed.proofs.Growing.{within}
use Rattle.jc_stmts_spec.specs.Assembling.{each_of}
use Rattle.jc_stmts_spec.specs.Courses.{Elements}
use Rattle.jc_stmts_answers.specs.declared.answers.ElementsAt.{ElementsAt}
use Rattle.jc_stmts_answers.specs.Answers.{ElementsBelow, elements_of}
use Rattle.jc_stmts_assembling.specs.Heads.{each_by, each_node}

pub elements_stay : (ms ns : List Node) (e : ElementsAt) → Grows ms ns → ElementsBelow (length ms) e → elements_of ns e ≡ elements_of ms e
elements_stay ms ns e g b = rw (g.kept e.of b.0, g.kept e.ty b.1, g.kept e.captures b.2, g.kept e.steps b.3) refl

pub elements_below : (ms ns : List Node) (e : ElementsAt) → Grows ms ns → ElementsBelow (length ms) e → ElementsBelow (length ns) e
elements_below ms ns e g b = (within ms ns e.of g b.0, within ms ns e.ty g b.1, within ms ns e.captures g b.2, within ms ns e.steps g b.3)

form_by : Bool → List Node → ℕ → ElementsAt → ℕ → ℕ → StmtForm
form_by is_array ns n e l body = each_of n (let x : Elements = record (elements_of ns e) { is_array = is_array } in x) l (stmt_of ns body)

each_by_is : (is_array : Bool) (ns : List Node) (n : ℕ) (e : ElementsAt) (l body : ℕ) → stmt_form_over (parts ns) (each_by is_array n e l body) ≡ form_by is_array ns n e l body
unfolding form_by
each_by_is true ns n e l body = refl
each_by_is false ns n e l body = refl

pub each_is : (ns : List Node) (n : ℕ) (e : ElementsAt) (l body : ℕ) → stmt_form_over (parts ns) (each_node n e l body) ≡ each_of n (elements_of ns e) l (stmt_of ns body)
unfolding form_by
each_is ns n e l body = each_by_is e.is_array ns n e l body

each_by_below : (is_array : Bool) (k n : ℕ) (e : ElementsAt) (l body : ℕ) → ElementsBelow k e → body < k → BelowStmtForm k (each_by is_array n e l body)
each_by_below true k n e l body b c = (b.0, b.1, b.2, b.3, c)
each_by_below false k n e l body b c = (b.0, b.1, b.2, b.3, c)

pub each_below : (k n : ℕ) (e : ElementsAt) (l body : ℕ) → ElementsBelow k e → body < k → BelowStmtForm k (each_node n e l body)
each_below k n e l body b c = each_by_below e.is_array k n e l body b c

pub ruleset staying = (elements_stay, elements_below)

pub ruleset forms = (each_is, each_below)
