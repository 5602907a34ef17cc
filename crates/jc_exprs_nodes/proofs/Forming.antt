-- Types after capture, and what is formed of them, in an arena that grows.
use Rattle.std.proofs.Common.{◌≡◌, refl, ap, sym, ◌∙◌, ◌<◌, List, [], Option, None, Some, length}
use Rattle.jc_types.specs.declared.form.Ty.{Ty}
use Rattle.jc_types.specs.declared.table.Table.{Table}
use Rattle.jc_typed.specs.declared.nodes.Node.{Node}
use Rattle.jc_typed.specs.Parts.{BelowForm, FormsStay, Grows, form_over, parts, steps_of}
use Rattle.jc_exprs_nodes_spec.specs.Told.{Ran, Standing, fine, ran}
use Rattle.jc_exprs_nodes_spec.specs.Gates.{gated, stopped}
use Rattle.jc_exprs_nodes_spec.specs.Typeds.{Kind, Typed, captured, capturing, of_kind}
use Rattle.jc_exprs_nodes_spec.proofs.Runs.{ran_fine, ran_onward}
use Rattle.jc_exprs_nodes.specs.declared.walk.Formed.{Formed}
use Rattle.jc_exprs_nodes.specs.Walks.{formed_in, has_behind}

-- nothing stands before the variables of a capture by itself
pub behind_none : (k : Option Kind) → has_behind [] k ≡ k
behind_none None = refl
behind_none (Some k) = refl

by_parts : (s r : Standing) (o q : Option Typed) → s ≡ r → o ≡ q → (let x : Ran Typed = record { state = s; has = o } in x) ≡ record { state = r; has = q }
by_parts s r o q e f = rw (e, f) refl

-- what is formed stays
pub formed_stays : FormsStay → (ms ns : List Node) (f : Formed) (k : Kind) → Grows ms ns → BelowForm (length ms) f.form → f.lead < length ms → formed_in ns f k ≡ formed_in ms f k
formed_stays h ms ns f k g b l = rw (h ms ns f.form g b, g.kept f.lead l) refl

-- an expression of a type that is captured
pub captured_some : FormsStay → (T : Table) (t : Ty) (ms ns : List Node) (f : Formed) (k : Kind) (s r : Standing) → Grows ms ns → BelowForm (length ms) f.form → f.lead < length ms →
    (ran (capturing T f.place t) s).state ≡ r → (ran (capturing T f.place t) s).has ≡ Some k →
    ran (captured T f.place t (form_over (parts ms) f.form) (steps_of ms f.lead)) s ≡ record { state = r; has = Some (formed_in ns f k) }
captured_some h T t ms ns f k s r g b l es eh =
    let m = capturing T f.place t in
    let form = form_over (parts ms) f.form in
    let lead = steps_of ms f.lead in
    let first : ran (captured T f.place t form lead) s ≡ gated (λ j. fine (of_kind f.place form lead j)) (ran m s).has (ran m s).state = ran_onward (λ j. fine (of_kind f.place form lead j)) m s in
    let second : gated (λ j. fine (of_kind f.place form lead j)) (ran m s).has (ran m s).state ≡ ran (fine (of_kind f.place form lead k)) (ran m s).state = rw eh refl in
    let third : ran (fine (of_kind f.place form lead k)) (ran m s).state ≡ record { state = (ran m s).state; has = Some (formed_in ms f k) } = ran_fine (of_kind f.place form lead k) (ran m s).state in
    let fourth : Some (formed_in ms f k) ≡ Some (formed_in ns f k) = ap Some (sym (formed_stays h ms ns f k g b l)) in
    first ∙ second ∙ third ∙ by_parts (ran m s).state r (Some (formed_in ms f k)) (Some (formed_in ns f k)) es fourth

pub captured_none : (T : Table) (t : Ty) (ms : List Node) (f : Formed) (s r : Standing) → (ran (capturing T f.place t) s).state ≡ r → (ran (capturing T f.place t) s).has ≡ None →
    ran (captured T f.place t (form_over (parts ms) f.form) (steps_of ms f.lead)) s ≡ stopped r
captured_none T t ms f s r es eh =
    let m = capturing T f.place t in
    let form = form_over (parts ms) f.form in
    let lead = steps_of ms f.lead in
    let first : ran (captured T f.place t form lead) s ≡ gated (λ j. fine (of_kind f.place form lead j)) (ran m s).has (ran m s).state = ran_onward (λ j. fine (of_kind f.place form lead j)) m s in
    let second : gated (λ j. fine (of_kind f.place form lead j)) (ran m s).has (ran m s).state ≡ stopped (ran m s).state = rw eh refl in
    first ∙ second ∙ ap stopped es

pub ruleset kinds = (captured_some, captured_none)
