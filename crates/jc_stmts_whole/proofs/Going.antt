-- Items that follow one another: what is seen behind them, and that what is broken stays broken.
use Rattle.std.proofs.Common.{◌≡◌, refl, ap, sym, ◌∙◌, ℕ, not, List, [], ◌∷◌, ◌++◌, Option, None}
use Rattle.jc_rules.specs.declared.rule.Refusal.{Refusal}
use Rattle.jc_types.specs.declared.form.Ty.{Ty}
use Rattle.jc_types.specs.Breaks.{least}
use Rattle.jc_types.proofs.Least.{least_append}
use Rattle.jc_overriding.specs.Viewing.{with_dims}
use Rattle.jc_typed.specs.Trees.{Operand}
use Rattle.jc_exprs_nodes_spec.specs.Told.{Out, breaking, breaks, onward, unless}
use Rattle.jc_exprs_parts_spec.specs.Worlds.{World, LocalIn, at, written}
use Rattle.jc_exprs_spec.specs.Typing.{initialised, typing}
use Rattle.jc_stmts_spec.specs.Plans.{Item, Enter, Leave, Declare, Fill, Ask, Label, Each, Caught, Parameter, Fault, Want, Effect, Truth, Result, Nowhere, Selector, Thrown, enclosed}
use Rattle.jc_stmts_spec.specs.Courses as course
use Rattle.jc_stmts_spec.specs.Courses.{Course as Counted, asked_for, caught_breaks, each, is_declared, item_on, items_on, label_of, last_type, top_of, types_caught, wanted}
use Rattle.jc_stmts_course.specs.declared.course.Course.{Course}
use Rattle.jc_stmts_course.specs.Nows.{stage}
use Rattle.jc_stmts_course.specs.Steps.{Stage, entered, left, seen, while_whole}
use Rattle.jc_stmts_course.proofs.Resuming.{least_later}

-- ---- what is seen

pub items_more : (W : List LocalIn → World) (result : Option Ty) (c : Counted) (xs ys : List Item) → items_on W result c (xs ++ ys) ≡ items_on W result (items_on W result c xs) ys
items_more W result c [] ys = refl
items_more W result c (x ∷ xs) ys = items_more W result (item_on W result c x) xs ys

-- items in a scope of their own
pub enclosed_seen : (W : List LocalIn → World) (result : Option Ty) (c : Counted) (xs : List Item) (s t u v : Stage) →
    seen c ≡ s → entered s ≡ t → ((d : Counted) → seen d ≡ t → seen (items_on W result d xs) ≡ u) → left u ≡ v → seen (items_on W result c (enclosed xs)) ≡ v
enclosed_seen W result c xs s t u v same e f g =
    ap seen (items_more W result (course.entered c) xs (Leave ∷ []))
    ∙ ap left (f (course.entered c) (ap entered same ∙ e))
    ∙ g

pub found_seen : (c : Counted) (d : Course) → seen c ≡ stage d → least None c.broken ≡ d.walk.found
found_seen c d same = ap (λ (s : Stage). s.standing.found) same

-- the answers as long as nothing is broken
pub answers_seen : (c : Counted) (d : Course) → seen c ≡ stage d → d.walk.found ≡ None → c.answers ≡ (stage d).answers
answers_seen c d same n =
    sym (ap (λ f. while_whole f c.answers) (found_seen c d same ∙ n)) ∙ ap (λ (s : Stage). s.answers) same

-- ---- what is broken

pub broken_before : (xs ys : List Refusal) → least None (xs ++ ys) ≡ None → least None xs ≡ None
broken_before xs ys e = least_later (least None xs) ys (sym (least_append None xs ys) ∙ e)

abbrev pub Unbroken : Counted → Type 0
Unbroken c = least None c.broken ≡ None

asked_unbroken : (w : Want) (o : Out Operand) (c : Counted) → Unbroken (asked_for w o c) → Unbroken c
asked_unbroken Selector o c e = broken_before c.broken (breaks o.told) e
asked_unbroken Effect o c e = broken_before c.broken (breaks o.told) e
asked_unbroken Truth o c e = broken_before c.broken (breaks o.told) e
asked_unbroken Result o c e = broken_before c.broken (breaks o.told) e
asked_unbroken Nowhere o c e = broken_before c.broken (breaks o.told) e
asked_unbroken (Thrown n) o c e = broken_before c.broken (breaks o.told) e

item_unbroken : (W : List LocalIn → World) (result : Option Ty) (c : Counted) (i : Item) → Unbroken (item_on W result c i) → Unbroken c
item_unbroken W result c Enter e = e
item_unbroken W result c Leave e = e
item_unbroken W result c (Declare name ty dims is_final) e =
    broken_before c.broken (unless (not (is_declared name.text c.locals)) 616 (at (W c.locals) name.at)) e
item_unbroken W result c (Fill i) e = broken_before c.broken (breaks (initialised (W c.locals) (last_type c.locals) i c.env).told) e
item_unbroken W result c (Ask x w) e = asked_unbroken w (wanted (W c.locals) result x w c.env) c e
item_unbroken W result c (Label n x) e =
    broken_before c.broken (breaks (onward (typing (W c.locals) None x) (label_of (W c.locals).table (at (W c.locals) n) (top_of c.scopes)) c.env).told) e
item_unbroken W result c (Each x ty dims) e =
    broken_before c.broken (breaks (each (W c.locals) x (with_dims dims (written (W c.locals) ty)) c.env).told) e
item_unbroken W result c (Caught n first more) e =
    broken_before c.broken (caught_breaks (W c.locals).table (at (W c.locals) n) (types_caught (W c.locals) first more)) e
item_unbroken W result c (Parameter name is_final) e =
    broken_before c.broken (unless (not (is_declared name.text c.locals)) 616 (at (W c.locals) name.at)) e
item_unbroken W result c (Fault rule n) e = broken_before c.broken (breaking rule (at (W c.locals) n) ∷ []) e

pub items_unbroken : (W : List LocalIn → World) (result : Option Ty) (c : Counted) (is : List Item) → Unbroken (items_on W result c is) → Unbroken c
items_unbroken W result c [] e = e
items_unbroken W result c (i ∷ is) e = item_unbroken W result c i (items_unbroken W result (item_on W result c i) is e)
