-- What it says of a body that the least of its breaks was found, or none.
use Rattle.std.proofs.Common.{◌≡◌, inl, refl, ap, sym, ◌∙◌, subst, List, [], ◌∷◌, ◌++◌, Option, Some, None}
use Rattle.std.specs.Prelude.{Result, Ok, Err, IfErr}
use Rattle.jc_rules.specs.declared.rule.Refusal.{Refusal}
use Rattle.jc_rules.specs.declared.stop.Stop.{Stop}
use Rattle.jc_rules.specs.declared.stop.Stop.TheVariants as stop_of
use Rattle.jc_types.specs.declared.table.Table.{Table}
use Rattle.jc_types.specs.Breaks.{IsLeast, IsOf, LeastOf, least}
use Rattle.jc_types.proofs.Least.{least_append, least_of}
use Rattle.jc_declares.specs.declared.heads.Heads.{Heads}
use Rattle.jc_declares.specs.Looking.{Knowledge}
use Rattle.jc_bridges_spec.specs.Entering.{entry_checks}
use Rattle.jc_typed.specs.declared.nodes.Node.{Node}
use Rattle.jc_typed.specs.declared.program.Body.{Body}
use Rattle.jc_typed.specs.declared.program.TypedMethod.{TypedMethod}
use Rattle.jc_exprs_nodes_spec.specs.Told.{Standing}
use Rattle.jc_exprs_nodes.specs.Walks.{now}
use Rattle.jc_exprs_nodes.specs.declared.walk.Walk.{Walk}
use Rattle.jc_stmts_spec.specs.Bodies.{MethodBody}
use Rattle.jc_stmts_spec.specs.Typed.{BreaksBody, HasStmts, IsBody, body_breaks, cycle_breaks, whole}
use Rattle.jc_stmts_course.specs.Steps.{Stage, broken_more}
use Rattle.jc_stmts_course.proofs.Resuming.{least_later}
use Rattle.jc_stmts_whole.specs.Parts.{IsWhole}
use Rattle.jc_stmts_whole.specs.declared.whole.Whole.{Whole}
use Rattle.jc_stmts_whole.proofs.Going.{found_seen}
use Rattle.jc_stmts.specs.Stops.{IsBodyStop, IsFoundStop}

pub err_weaker : {A E : Type 0} (r : Result A E) (P Q : E → Type 0) → ((e : E) → P e → Q e) → IfErr r P → IfErr r Q
err_weaker (Ok x) P Q f p = tt
err_weaker (Err e) P Q f p = f e p

none_least : (bs : List Refusal) → least None bs ≡ None → bs ≡ []
none_least [] e = refl
none_least (b ∷ bs) e = absurd (subst (λ o. LeastOf (λ c. IsOf c (b ∷ bs)) o) e (least_of (b ∷ bs)) b (inl refl))

some_least : (bs : List Refusal) (b : Refusal) → least None bs ≡ Some b → IsLeast (λ c. IsOf c bs) b
some_least bs b e = subst (λ o. LeastOf (λ c. IsOf c bs) o) e (least_of bs)

module _ (T : Table) (H : Heads) (K : Knowledge) (calls : List MethodBody) (b : MethodBody) (w : Whole) (n : Walk)
    (is : IsWhole (whole T H K b) w) (noted : broken_more (now w.course.walk) (cycle_breaks T H K calls b b.begins) ≡ now n) where
  found_all : least None (body_breaks T H K calls b) ≡ n.found
  found_all =
      least_append None (whole T H K b).course.broken (cycle_breaks T H K calls b b.begins)
      ∙ ap (λ f. least f (cycle_breaks T H K calls b b.begins)) (found_seen (whole T H K b).course w.course is.course)
      ∙ ap (λ (s : Standing). s.found) noted

  pub refused_stop : (stop : Stop Refusal) → IsFoundStop n.found stop → IsBodyStop T H K calls b stop
  refused_stop (stop_of.Refused r) e = some_least (body_breaks T H K calls b) r (found_all ∙ e)
  refused_stop stop_of.WantOfMemory e = tt

  unfound : n.found ≡ None → w.course.walk.found ≡ None
  unfound e = least_later w.course.walk.found (cycle_breaks T H K calls b b.begins) (ap (λ (s : Standing). s.found) noted ∙ e)

  pub typed_body : (m : TypedMethod) → n.found ≡ None → n.nodes ≡ w.course.walk.nodes → m.id ≡ b.method → m.locals ≡ w.course.all → m.captured.bounds ≡ n.env.bounds →
      m.nodes ≡ n.nodes → m.body ≡ Some w.body → m.entry_checks ≡ entry_checks T b.method → IsBody T H K calls b m
  typed_body m none nodes id locals captured arena body checks =
      let whole_there : w.course.walk.found ≡ None = unfound none in
      let there : HasStmts w.course.walk.nodes (Some w.body) (whole T H K b) = (is.call whole_there, is.initialisers whole_there, is.rest whole_there) in
      record {
        unbroken = none_least (body_breaks T H K calls b) (found_all ∙ none);
        id = id;
        locals = locals ∙ sym (ap (λ (s : Stage). s.all) is.course);
        captured = captured ∙ sym (ap (λ (s : Standing). s.env) noted) ∙ sym (ap (λ (s : Stage). s.standing.env) is.course);
        stmts = subst (λ (ns : List Node). HasStmts ns m.body (whole T H K b)) (sym (arena ∙ nodes)) (subst (λ (o : Option Body). HasStmts w.course.walk.nodes o (whole T H K b)) (sym body) there);
        checks = checks;
      }
