-- The state of a walk through the items of a body, which keeps the least break in place of all, and answers only as long as nothing is broken: what each item
-- makes of it.
use Rattle.std.specs.Prelude.{ℕ, not, Bool, List, [], ◌∷◌, ◌++◌, length, take, Option, Some, None}
use Rattle.jc_rules.specs.declared.rule.Place.{Place}
use Rattle.jc_rules.specs.declared.rule.Refusal.{Refusal}
use Rattle.jc_types.specs.Breaks.{least}
use Rattle.jc_types.specs.declared.form.Ty.{Ty}
use Rattle.jc_types.specs.declared.table.Table.{Table}
use Rattle.jc_overriding.specs.Viewing.{with_dims}
use Rattle.jc_typed.specs.declared.program.Local.{Local}
use Rattle.jc_typed.specs.Trees.{Operand}
use Rattle.jc_exprs_nodes_spec.specs.Told.{Ran, Standing, breaking, onward, ran, standing, unless}
use Rattle.jc_exprs_parts_spec.specs.Worlds.{World, LocalIn, at, written}
use Rattle.jc_exprs_spec.specs.Typing.{initialised, typing}
use Rattle.jc_stmts_spec.specs.Plans.{Item, Enter, Leave, Declare, Fill, Ask, Label, Each, Caught, Parameter, Fault, Want, Selector}
use Rattle.jc_stmts_spec.specs.Courses.{Answer, AnOperand, ALocal, AKey, AnEach, SomeTypes, Course, Elements, Key, Scope, below_top, caught_breaks, caught_type, each, is_declared, keys_of, known_in_operand, label_of, last_type, last_with, local_in_scope, selector_type, top_of, types_caught, wanted}

pub record Stage : Type 0 where
  pub locals : List LocalIn
  pub all : List Local
  pub scopes : List Scope
  pub caught : List Ty
  pub standing : Standing
  pub answers : List Answer

-- answers are there only as long as nothing is broken
abbrev pub while_whole : Option Refusal → List Answer → List Answer
while_whole None xs = xs
while_whole (Some b) xs = []

-- what a walk has of the definition's state
abbrev pub seen : Course → Stage
seen c =
    record {
      locals = c.locals;
      all = c.all;
      scopes = c.scopes;
      caught = c.caught;
      standing = standing c.env (least None c.broken);
      answers = while_whole (least None c.broken) c.answers;
    }

-- ---- steps

abbrev pub broken_more : Standing → List Refusal → Standing
broken_more s bs = standing s.env (least s.found bs)

-- at another standing of the walk, with answers behind the others
abbrev pub answered : Standing → List Answer → Stage → Stage
answered s xs c = record c { standing = s; answers = while_whole s.found (c.answers ++ xs) }

abbrev pub answer_if : {A : Type 0} → (A → Answer) → Option A → List Answer
answer_if f None = []
answer_if f (Some a) = f a ∷ []

abbrev pub behind : {A : Type 0} → (A → Answer) → Ran A → Stage → Stage
behind f r c = answered r.state (answer_if f r.has) c

abbrev pub entered : Stage → Stage
entered c = record c { scopes = record { size = length c.locals; selector = None; keys = [] } ∷ c.scopes }

abbrev pub left : Stage → Stage
left c = record c { locals = take (top_of c.scopes).size c.locals; scopes = below_top c.scopes }

-- a local of this number, in scope and among all of the method
abbrev pub local_named : Place → List ℕ → Ty → Bool → Local
local_named place name ty is_final = record { place = place; name = name; ty = ty; is_final = is_final }

abbrev pub with_local : Place → List ℕ → Ty → Bool → ℕ → Stage → Stage
with_local place name ty is_final number c =
    record c {
      locals = c.locals ++ local_in_scope name number ty is_final ∷ [];
      all = c.all ++ local_named place name ty is_final ∷ [];
    }

abbrev pub declared : Place → List ℕ → Ty → Bool → Stage → Stage
declared place name ty is_final c =
    with_local place name ty is_final (length c.all) (answered (broken_more c.standing (unless (not (is_declared name c.locals)) 616 place)) (ALocal place (length c.all) ∷ []) c)

-- the local that was declared last has the value of its initialiser
abbrev pub with_value : Table → Option Operand → Stage → Stage
with_value T o c = record c { locals = last_with T (known_in_operand o) c.locals }

abbrev pub filled : Table → Ran Operand → Stage → Stage
filled T r c = with_value T r.has (behind (λ x. AnOperand x) r c)

abbrev pub keeping : Option Operand → Stage → Stage
keeping o c = record c { scopes = record (top_of c.scopes) { selector = selector_type o } ∷ below_top c.scopes }

abbrev pub asked : Want → Ran Operand → Stage → Stage
asked Selector r c = keeping r.has (behind (λ x. AnOperand x) r c)
asked w r c = behind (λ x. AnOperand x) r c

abbrev pub labelled : Ran Key → Stage → Stage
labelled r c =
    let d = behind (λ (k : Key). AKey k.value k.named) r c in
    record d { scopes = record (top_of d.scopes) { keys = (top_of d.scopes).keys ++ keys_of r.has } ∷ below_top d.scopes }

abbrev pub gone_over : Ran Elements → Stage → Stage
gone_over r c = behind (λ x. AnEach x) r c

abbrev pub caught : Table → Place → List Ty → Stage → Stage
caught T place ts c = let d = answered (broken_more c.standing (caught_breaks T place ts)) (SomeTypes ts ∷ []) c in record d { caught = ts }

abbrev pub faulty : ℕ → Place → Stage → Stage
faulty rule place c = answered (broken_more c.standing (breaking rule place ∷ [])) [] c

-- ---- item by item, in a world whose locals are those in scope

abbrev pub step_on : (List LocalIn → World) → Option Ty → Stage → Item → Stage
step_on W result c Enter = entered c
step_on W result c Leave = left c
step_on W result c (Declare name ty dims is_final) =
    declared (at (W c.locals) name.at) name.text (with_dims dims (written (W c.locals) ty)) is_final c
step_on W result c (Fill i) = filled (W c.locals).table (ran (initialised (W c.locals) (last_type c.locals) i) c.standing) c
step_on W result c (Ask e w) = asked w (ran (wanted (W c.locals) result e w) c.standing) c
step_on W result c (Label n e) =
    labelled (ran (onward (typing (W c.locals) None e) (label_of (W c.locals).table (at (W c.locals) n) (top_of c.scopes))) c.standing) c
step_on W result c (Each e ty dims) = gone_over (ran (each (W c.locals) e (with_dims dims (written (W c.locals) ty))) c.standing) c
step_on W result c (Caught n first more) = caught (W c.locals).table (at (W c.locals) n) (types_caught (W c.locals) first more) c
step_on W result c (Parameter name is_final) =
    declared (at (W c.locals) name.at) name.text (caught_type (W c.locals).table c.standing.env c.caught) is_final c
step_on W result c (Fault rule n) = faulty rule (at (W c.locals) n) c

abbrev pub steps_on : (List LocalIn → World) → Option Ty → Stage → List Item → Stage
steps_on W result c [] = c
steps_on W result c (i ∷ is) = steps_on W result (step_on W result c i) is
