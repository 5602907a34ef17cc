-- The block of a method behind the parts before it.
use Rattle.std.proofs.Common.{◌≡◌, ap, sym, ◌∙◌, subst, ℕ, List, Option, None}
use Rattle.jc_rules.specs.declared.rule.Place.{Place}
use Rattle.jc_types.specs.declared.form.Ty.{Ty}
use Rattle.jc_types.specs.declared.table.Table.{Table}
use Rattle.jc_types.specs.Accessors.{result_of}
use Rattle.jc_overriding.specs.Viewing.{is_static}
use Rattle.jc_declares.specs.declared.heads.Heads.{Heads}
use Rattle.jc_declares.specs.Looking.{Knowledge}
use Rattle.jc_typed.specs.Parts.{stmt_of}
use Rattle.jc_typed.specs.Trees.{Block, Stmt, stmt}
use Rattle.jc_exprs_parts_spec.specs.Worlds.{World, LocalIn}
use Rattle.jc_stmts_spec.specs.Assembling.{assemble}
use Rattle.jc_stmts_spec.specs.Bodies.{MethodBody}
use Rattle.jc_stmts_spec.specs.Courses.{Answer, Course as Counted, items_on}
use Rattle.jc_stmts_spec.specs.Plans.{Jumps, enclosed, plan}
use Rattle.jc_stmts_spec.specs.Typed.{here_if, method_jumps, method_place, method_world, param_scope, rest_course, rest_stmt}
use Rattle.jc_stmts_course.specs.declared.course.Course.{Course}
use Rattle.jc_stmts_course.specs.Nows.{stage}
use Rattle.jc_stmts_course.specs.Steps.{seen}
use Rattle.jc_stmts_first.specs.Firsts.{opened_stage}
use Rattle.jc_stmts_whole.proofs.Behind.{part_on, part_seen, part_unbroken}
use Rattle.jc_stmts_whole.proofs.Going.{Unbroken}

module _ (T : Table) (H : Heads) (K : Knowledge) (b : MethodBody) where
  abbrev spot : List LocalIn → World
  spot = method_world T H K b.method (here_if (is_static T b.method))

  pub rest_seen : (k : Counted) (W : List LocalIn → World) (result : Option Ty) (j : Jumps) (ls : List LocalIn) (d e f : Course) →
      W ≡ method_world T H K b.method (here_if (is_static T b.method)) → result ≡ result_of T b.method → j ≡ method_jumps T b.method → ls ≡ param_scope T b.method →
      opened_stage ls (stage d) ≡ stage e → ((l : Counted) → seen l ≡ stage e → seen (items_on W result l (enclosed (plan j b.rest))) ≡ stage f) →
      seen k ≡ stage d → seen (rest_course T H K b k) ≡ stage f
  rest_seen k W result j ls d e f u v w x begun going same =
      let S : (List LocalIn → World) → Option Ty → Jumps → List LocalIn → Type 0 = λ X o i ms. seen (part_on X o i b.rest ms k) ≡ stage f in
      subst (λ X. S X (result_of T b.method) (method_jumps T b.method) (param_scope T b.method)) u
      (subst (λ o. S W o (method_jumps T b.method) (param_scope T b.method)) v
      (subst (λ i. S W result i (param_scope T b.method)) w (subst (λ ms. S W result j ms) x (part_seen W result j b.rest ls k d e f same begun going))))

  pub rest_unbroken : (k : Counted) → Unbroken (rest_course T H K b k) → Unbroken k
  rest_unbroken k e = part_unbroken spot (result_of T b.method) (method_jumps T b.method) b.rest (param_scope T b.method) k e

  -- its statement
  pub rest_made : (xs : List Answer) (place : Place) (j : Jumps) (s : Stmt) → place ≡ method_place T b.method → j ≡ method_jumps T b.method →
      s ≡ stmt place (Block (assemble place.file j b.rest xs).it) →
      s ≡ stmt (method_place T b.method) (Block (assemble (method_place T b.method).file (method_jumps T b.method) b.rest xs).it)
  rest_made xs place j s e f g =
      let S : Place → Jumps → Type 0 = λ p i. s ≡ stmt p (Block (assemble p.file i b.rest xs).it) in
      subst (λ i. S (method_place T b.method) i) f (subst (λ p. S p j) e g)
