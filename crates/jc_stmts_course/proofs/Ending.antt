-- What an item makes of the code's state, once the walk has gone through the parts of the item.
use Rattle.std.proofs.Common.{◌≡◌, refl, ap, sym, ◌∙◌, ℕ, not, Bool, List, [], ◌∷◌, ◌++◌, Option, length}
use Rattle.jc_rules.specs.declared.rule.Place.{Place}
use Rattle.jc_rules.specs.declared.rule.Refusal.{Refusal}
use Rattle.jc_types.specs.declared.form.Ty.{Ty}
use Rattle.jc_typed.specs.Parts.{Grows}
use Rattle.jc_typed.specs.Trees.{Operand}
use Rattle.jc_exprs_nodes_spec.specs.Told.{Ran, Standing, unless}
use Rattle.jc_exprs_nodes.specs.Walks.{now}
use Rattle.jc_exprs_nodes.specs.declared.walk.Walk.{Walk}
use Rattle.jc_stmts_spec.specs.Plans.{Want}
use Rattle.jc_stmts_spec.specs.Courses.{Answer, AKey, ALocal, Elements, Key, Scope, below_top, is_declared, keys_of, top_of}
use Rattle.jc_stmts_answers.specs.Answers.{answers_of}
use Rattle.jc_stmts_wants.specs.Wanting.{scope_of}
use Rattle.jc_stmts_wants.specs.declared.answers.Scope.{Scope as ScopeIn}
use Rattle.jc_stmts_course.specs.declared.course.Course.{Course}
use Rattle.jc_stmts_course.specs.Laws.{Later, resumed}
use Rattle.jc_stmts_course.specs.Nows.{IsCourse, kept_label, scopes_on, stage, told, with_walk}
use Rattle.jc_stmts_course.specs.Steps.{Stage, answer_if, answered, asked, broken_more, declared, gone_over, labelled, with_local}
use Rattle.jc_stmts_course.proofs.Lasting.{while_none}
use Rattle.jc_stmts_course.proofs.Resuming.{answered_on, asked_on, gone_over_on, least_later, stage_on}

same_run : {A : Type 0} (r : Ran A) (s : Standing) (o : Option A) → r.state ≡ s → r.has ≡ o → r ≡ told s o
same_run r s o e f = rw (← e, ← f) refl

found_same : (s r : Standing) → s ≡ r → s.found ≡ r.found
found_same s r e = ap (λ (x : Standing). x.found) e

module _ (c : Course) (v : Walk) (b : IsCourse c) (g : Grows c.walk.nodes v.nodes) where
  -- the walk stands as a run says
  later_there : (s : Standing) → s ≡ now v → Later (now v) s
  later_there s e n = sym (found_same s (now v) e) ∙ n

  later_here : (s : Standing) → s ≡ now v → Later (now c.walk) s → Later (now c.walk) (now v)
  later_here s e l n = l (found_same s (now v) e ∙ n)

  stage_there : (s : Standing) → s ≡ now v → Later (now c.walk) s → resumed (now v) (stage c) ≡ stage (with_walk v c)
  stage_there s e l = sym (stage_on c v b g (later_here s e l))

  pub asked_at : (w : Want) (r : Ran Operand) (o : Option Operand) → Later (now c.walk) r.state → r.state ≡ now v → r.has ≡ o →
      asked w r (stage c) ≡ asked w (told (now v) o) (stage (with_walk v c))
  asked_at w r o l e f =
      sym (asked_on w r (now v) (stage c) (later_there r.state e))
      ∙ ap (asked w r) (stage_there r.state e l)
      ∙ ap (λ (q : Ran Operand). asked w q (stage (with_walk v c))) (same_run r (now v) o e f)

  pub gone_over_at : (r : Ran Elements) (o : Option Elements) → Later (now c.walk) r.state → r.state ≡ now v → r.has ≡ o →
      gone_over r (stage c) ≡ gone_over (told (now v) o) (stage (with_walk v c))
  gone_over_at r o l e f =
      sym (gone_over_on r (now v) (stage c) (later_there r.state e))
      ∙ ap (gone_over r) (stage_there r.state e l)
      ∙ ap (λ (q : Ran Elements). gone_over q (stage (with_walk v c))) (same_run r (now v) o e f)

  -- a rule is broken, and there is an answer more
  pub broken_at : (bs : List Refusal) (xs : List Answer) → broken_more (now c.walk) bs ≡ now v →
      answered (broken_more (now c.walk) bs) xs (stage c) ≡ answered (now v) xs (stage (with_walk v c))
  broken_at bs xs e =
      ap (λ (s : Standing). answered s xs (stage c)) e
      ∙ sym (answered_on (now v) (now v) xs (stage c) (λ n. n))
      ∙ ap (answered (now v) xs) (stage_there (broken_more (now c.walk) bs) e (λ n. least_later c.walk.found bs n))

-- with no answer the state is as it was
pub unanswered : (c : Course) → answered (now c.walk) [] (stage c) ≡ stage c
unanswered c = ap (λ (xs : List Answer). record (stage c) { answers = xs }) (while_none c.walk.found (answers_of c.walk.nodes c.answers))

pub answered_twice : (s : Standing) (xs : List Answer) (c : Stage) → answered s xs (answered s [] c) ≡ answered s xs c
answered_twice s xs c = answered_on s s xs c (λ n. n)

-- a walk that has found more that is broken, over the same arena
pub noted : (c : Course) (v : Walk) → IsCourse c → Grows c.walk.nodes v.nodes → (bs : List Refusal) → broken_more (now c.walk) bs ≡ now v →
    answered (broken_more (now c.walk) bs) [] (stage c) ≡ stage (with_walk v c)
noted c v b g bs e = broken_at c v b g bs [] e ∙ unanswered (with_walk v c)

-- a rule is broken, and then there is an answer more
pub answered_behind : (d e f : Stage) (s : Standing) (xs : List Answer) → answered s [] d ≡ e → answered e.standing xs e ≡ f → answered s xs d ≡ f
answered_behind d e f s xs p q =
    sym (answered_twice s xs d) ∙ ap (answered s xs) p ∙ ap (λ (r : Standing). answered r xs e) (ap (λ (x : Stage). x.standing) p) ∙ q

pub declared_by : (d e f : Stage) (place : Place) (name : List ℕ) (ty : Ty) (is_final : Bool) (number : ℕ) →
    answered (broken_more d.standing (unless (not (is_declared name d.locals)) 616 place)) [] d ≡ e → answered e.standing (ALocal place number ∷ []) e ≡ f → number ≡ length d.all →
    declared place name ty is_final d ≡ with_local place name ty is_final number f
declared_by d e f place name ty is_final number p q n =
    let bs = unless (not (is_declared name d.locals)) 616 place in
    ap (λ m. with_local place name ty is_final m (answered (broken_more d.standing bs) (ALocal place m ∷ []) d)) (sym n)
    ∙ ap (with_local place name ty is_final number) (answered_behind d e f (broken_more d.standing bs) (ALocal place number ∷ []) p q)

-- ---- labels

kept_on : (scope : Scope) (r : Ran Key) (s : Standing) (c : Stage) → Later s r.state → kept_label scope r (resumed s c) ≡ kept_label scope r c
kept_on scope r s c h =
    ap (λ (d : Stage). record d { scopes = record scope { keys = scope.keys ++ keys_of r.has } ∷ d.scopes })
    (answered_on s r.state (answer_if (λ (k : Key). AKey k.value k.named) r.has) c h)

abbrev with_scopes : List ScopeIn → Course → Course
with_scopes ss c = record c { scopes = ss }

-- the label of a scope that was taken off
taken_off : (r : Ran Key) (scope : Scope) (below : List Scope) (c : Stage) → scope ≡ top_of c.scopes → below ≡ below_top c.scopes →
    kept_label scope r (record c { scopes = below }) ≡ labelled r c
taken_off r scope below c e f = rw (e, f) refl

pub labelled_at : (c : Course) (ss : List ScopeIn) (scope : ScopeIn) (v : Walk) → IsCourse c → Grows c.walk.nodes v.nodes →
    (r : Ran Key) (o : Option Key) → Later (now c.walk) r.state → r.state ≡ now v → r.has ≡ o →
    scope_of scope ≡ top_of (scopes_on c.scopes []) → scopes_on ss [] ≡ below_top (scopes_on c.scopes []) →
    labelled r (stage c) ≡ kept_label (scope_of scope) (told (now v) o) (stage (with_walk v (with_scopes ss c)))
labelled_at c ss scope v b g r o l e f top below =
    let d = with_scopes ss c in
    sym (taken_off r (scope_of scope) (scopes_on ss []) (stage c) top below)
    ∙ sym (kept_on (scope_of scope) r (now v) (stage d) (later_there d v b g r.state e))
    ∙ ap (kept_label (scope_of scope) r) (stage_there d v b g r.state e l)
    ∙ ap (λ (q : Ran Key). kept_label (scope_of scope) q (stage (with_walk v d))) (same_run r (now v) o e f)
