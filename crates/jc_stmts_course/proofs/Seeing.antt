-- The steps of a walk stand to the definition's state as they say.
use Rattle.std.proofs.Common.{◌≡◌, refl, ap, sym, ◌∙◌, ℕ, not, Bool, List, [], ◌∷◌, ◌++◌, length, Option, None}
use Rattle.std.proofs.lemmas.List.{append-nil}
use Rattle.jc_rules.specs.declared.rule.Place.{Place}
use Rattle.jc_rules.specs.declared.rule.Refusal.{Refusal}
use Rattle.jc_types.specs.declared.environment.Bounds.{Bounds}
use Rattle.jc_types.specs.declared.form.Ty.{Ty}
use Rattle.jc_types.specs.declared.table.Table.{Table}
use Rattle.jc_types.specs.Breaks.{least}
use Rattle.jc_types.proofs.Least.{least_append}
use Rattle.jc_overriding.specs.Viewing.{with_dims}
use Rattle.jc_typed.specs.Trees.{Operand}
use Rattle.jc_exprs_nodes_spec.specs.Told.{Told, Fine, Broken, Run, Standing, breaking, breaks, onward, ran, standing, typed, unless}
use Rattle.jc_exprs_parts_spec.specs.Worlds.{World, LocalIn, at, written}
use Rattle.jc_exprs_spec.specs.Typing.{initialised, typing}
use Rattle.jc_stmts_spec.specs.Plans.{Item, Enter, Leave, Declare, Fill, Ask, Label, Each, Caught, Parameter, Fault, Want, Effect, Truth, Result, Nowhere, Selector, Thrown}
use Rattle.jc_stmts_spec.specs.Courses as course
use Rattle.jc_stmts_spec.specs.Courses.{Answer, AnOperand, ALocal, AKey, AnEach, SomeTypes, Course, Key, below_top, caught_breaks, caught_type, each, is_declared, item_on, keys_of, label_of, last_type, top_of, types_caught, wanted}
use Rattle.jc_stmts_course.specs.Laws.{StepsAreSeen}
use Rattle.jc_stmts_course.specs.Steps as step
use Rattle.jc_stmts_course.specs.Steps.{Stage, answer_if, answered, asked, behind, keeping, seen, step_on, steps_on, while_whole}
use Rattle.jc_stmts_course.proofs.Lasting.{while_later}
use Rattle.jc_stmts_course.proofs.Resuming.{least_later}

by_parts : (c : Stage) (s r : Standing) (xs ys : List Answer) → s ≡ r → xs ≡ ys → (let x : Stage = record c { standing = s; answers = xs } in x) ≡ record c { standing = r; answers = ys }
by_parts c s r xs ys e f = rw (e, f) refl

-- more that is broken, and more answers
pub more_seen : (c : Course) (env : List Bounds) (bs : List Refusal) (xs : List Answer) →
    seen (record c { env = env; broken = c.broken ++ bs; answers = c.answers ++ xs }) ≡ answered (standing env (least (least None c.broken) bs)) xs (seen c)
more_seen c env bs xs =
    let f = least None c.broken in
    let e : least None (c.broken ++ bs) ≡ least f bs = least_append None c.broken bs in
    by_parts (seen c) (standing env (least None (c.broken ++ bs))) (standing env (least f bs)) (while_whole (least None (c.broken ++ bs)) (c.answers ++ xs)) (while_whole (least f bs) (while_whole f c.answers ++ xs))
    (ap (λ g. standing env g) e)
    (ap (λ g. while_whole g (c.answers ++ xs)) e ∙ sym (while_later f (least f bs) c.answers xs (least_later f bs)))

answers_same : {A : Type 0} (f : A → Answer) (t : Told A) → course.answers_of f t ≡ answer_if f (typed t)
answers_same f (Fine a) = refl
answers_same f (Broken b bs) = refl

pub behind_seen : {A : Type 0} (f : A → Answer) (m : Run A) (c : Course) → seen (course.behind f (m c.env) c) ≡ behind f (ran m (seen c).standing) (seen c)
unfolding ran
behind_seen f m c =
    let o = m c.env in
    more_seen c o.env (breaks o.told) (course.answers_of f o.told)
    ∙ ap (λ xs. answered (standing o.env (least (least None c.broken) (breaks o.told))) xs (seen c)) (answers_same f o.told)

declared_seen : (place : Place) (name : List ℕ) (ty : Ty) (is_final : Bool) (c : Course) →
    seen (course.declared place name ty is_final c) ≡ step.declared place name ty is_final (seen c)
declared_seen place name ty is_final c =
    ap (step.with_local place name ty is_final (length c.all)) (more_seen c c.env (unless (not (is_declared name c.locals)) 616 place) (ALocal place (length c.all) ∷ []))

filled_seen : (T : Table) (m : Run Operand) (c : Course) → seen (course.filled_by T (m c.env) c) ≡ step.filled T (ran m (seen c).standing) (seen c)
unfolding ran
filled_seen T m c =
    ap (step.with_value T (typed (m c.env).told)) (behind_seen (λ x. AnOperand x) m c)

asked_seen : (w : Want) (m : Run Operand) (c : Course) → seen (course.asked_for w (m c.env) c) ≡ asked w (ran m (seen c).standing) (seen c)
unfolding ran
asked_seen Selector m c = ap (keeping (typed (m c.env).told)) (behind_seen (λ x. AnOperand x) m c)
asked_seen Effect m c = behind_seen (λ x. AnOperand x) m c
asked_seen Truth m c = behind_seen (λ x. AnOperand x) m c
asked_seen Result m c = behind_seen (λ x. AnOperand x) m c
asked_seen Nowhere m c = behind_seen (λ x. AnOperand x) m c
asked_seen (Thrown n) m c = behind_seen (λ x. AnOperand x) m c

labelled_seen : (m : Run Key) (c : Course) → seen (course.labelled (m c.env) c) ≡ step.labelled (ran m (seen c).standing) (seen c)
unfolding ran
labelled_seen m c =
    ap (λ (d : Stage). record d { scopes = record (top_of d.scopes) { keys = (top_of d.scopes).keys ++ keys_of (typed (m c.env).told) } ∷ below_top d.scopes })
    (behind_seen (λ (k : Key). AKey k.value k.named) m c)

caught_seen : (T : Table) (place : Place) (ts : List Ty) (c : Course) →
    seen (record c { caught = ts; broken = c.broken ++ caught_breaks T place ts; answers = c.answers ++ SomeTypes ts ∷ [] }) ≡ step.caught T place ts (seen c)
caught_seen T place ts c = ap (λ (d : Stage). record d { caught = ts }) (more_seen c c.env (caught_breaks T place ts) (SomeTypes ts ∷ []))

fault_seen : (rule : ℕ) (place : Place) (c : Course) → seen (record c { broken = c.broken ++ breaking rule place ∷ [] }) ≡ step.faulty rule place (seen c)
fault_seen rule place c =
    ap (λ xs. seen (record c { broken = c.broken ++ breaking rule place ∷ []; answers = xs })) (sym (append-nil c.answers))
    ∙ more_seen c c.env (breaking rule place ∷ []) []

item_seen : (W : List LocalIn → World) (result : Option Ty) (c : Course) (i : Item) → seen (item_on W result c i) ≡ step_on W result (seen c) i
item_seen W result c Enter = refl
item_seen W result c Leave = refl
item_seen W result c (Declare name ty dims is_final) =
    declared_seen (at (W c.locals) name.at) name.text (with_dims dims (written (W c.locals) ty)) is_final c
item_seen W result c (Fill i) = filled_seen (W c.locals).table (initialised (W c.locals) (last_type c.locals) i) c
item_seen W result c (Ask e w) = asked_seen w (wanted (W c.locals) result e w) c
item_seen W result c (Label n e) =
    labelled_seen (onward (typing (W c.locals) None e) (label_of (W c.locals).table (at (W c.locals) n) (top_of c.scopes))) c
item_seen W result c (Each e ty dims) = behind_seen (λ x. AnEach x) (each (W c.locals) e (with_dims dims (written (W c.locals) ty))) c
item_seen W result c (Caught n first more) = caught_seen (W c.locals).table (at (W c.locals) n) (types_caught (W c.locals) first more) c
item_seen W result c (Parameter name is_final) =
    declared_seen (at (W c.locals) name.at) name.text (caught_type (W c.locals).table c.env c.caught) is_final c
item_seen W result c (Fault rule n) = fault_seen rule (at (W c.locals) n) c

pub steps_seen : StepsAreSeen
steps_seen W result c [] = refl
steps_seen W result c (i ∷ is) = steps_seen W result (item_on W result c i) is ∙ ap (λ (d : Stage). steps_on W result d is) (item_seen W result c i)
