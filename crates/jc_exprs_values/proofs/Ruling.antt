-- What a walk makes of a node by which of its premises fail.
use Rattle.std.proofs.Common.{◌≡◌, ℕ, refl, ap, sym, ◌∙◌, ◌||◌, true, false, List, [], ◌∷◌, ◌++◌, Option, None, Some}
use Rattle.jc_rules.specs.declared.rule.Place.{Place}
use Rattle.jc_rules.specs.declared.rule.Refusal.{Refusal}
use Rattle.jc_types.specs.declared.environment.Bounds.{Bounds}
use Rattle.jc_types.specs.declared.form.Primitive.TheVariants.{Boolean}
use Rattle.jc_types.specs.declared.form.Ty.{Ty}
use Rattle.jc_types.specs.declared.form.Ty.TheVariants.{Prim}
use Rattle.jc_types.specs.declared.table.Table.{Table}
use Rattle.jc_types.specs.Arrays.{element}
use Rattle.jc_types.specs.Reifying.{reifiable}
use Rattle.jc_types.proofs.Least.{least_append}
use Rattle.jc_convert.specs.declared.answer.Converts.{Converts}
use Rattle.jc_convert.specs.Casting.{cast}
use Rattle.jc_convert.specs.Converting.{assignment, invocation}
use Rattle.jc_typed.specs.declared.nodes.Node.{Node}
use Rattle.jc_typed.specs.Parts.{operand_of}
use Rattle.jc_typed.specs.Trees.{ArrayOf, NewArray, NoOperands, Operand}
use Rattle.jc_exprs_nodes_spec.specs.Told.{Run, Spanned, Standing, fine, provided, ran, standing, unless}
use Rattle.jc_exprs_nodes_spec.specs.Gates.{stopped}
use Rattle.jc_exprs_nodes_spec.specs.Typeds.{Typed, constant_of, converted, known_of, node, operands_of, type_of, unconverted}
use Rattle.jc_exprs_nodes.specs.Walks.{as_breaks, broken_by}
use Rattle.jc_exprs_gathering.specs.Gathered.{has_operand, if_given}
use Rattle.jc_exprs_parts_spec.specs.Values.{assigned, assigned_by, cast_by, cast_known, cast_to, cast_typed, choice_by, choice_typed, chosen, chosen_type, known_choice, length_breaks, lengths, listed, listed_breaks, sized}
use Rattle.jc_exprs_values.specs.Noted.{is_broken, noted}

module _ {A : Type 0} where
  pub provided_broken : (bs : List Refusal) (m : Run A) (s : Standing) → is_broken bs ≡ true → ran (provided bs m) s ≡ stopped (noted s bs)
  unfolding ran
  provided_broken [] m s e = absurd (cc e)
  provided_broken (b ∷ bs) m s e = refl

  pub provided_fine : (bs : List Refusal) (m : Run A) (s : Standing) → is_broken bs ≡ false → ran (provided bs m) s ≡ ran m s
  unfolding ran
  provided_fine [] m s e = refl
  provided_fine (b ∷ bs) m s e = absurd (cc e)

  -- a premise that may fail
  pub provided_one : (bs : List Refusal) (m : Run A) (s : Standing) (o : Option Refusal) (b : Refusal) → as_breaks o ≡ bs → o ≡ Some b → ran (provided bs m) s ≡ ran (broken_by b) s
  unfolding ran
  provided_one bs m s o b e h = let f : bs ≡ b ∷ [] = cc in rw f refl

  pub provided_none : (bs : List Refusal) (m : Run A) (s : Standing) (o : Option Refusal) → as_breaks o ≡ bs → o ≡ None → ran (provided bs m) s ≡ ran m s
  unfolding ran
  provided_none bs m s o e h = let f : bs ≡ [] = cc in rw f refl

pub noted_fine : (bs : List Refusal) (s : Standing) → is_broken bs ≡ false → noted s bs ≡ s
noted_fine [] s e = refl
noted_fine (b ∷ bs) s e = absurd (cc e)

pub noted_both : (s : Standing) (xs bs : List Refusal) → noted s (xs ++ bs) ≡ noted (noted s xs) bs
noted_both s xs bs = ap (λ x. standing s.env x) (least_append s.found xs bs)

pub broken_both : (xs bs : List Refusal) → is_broken (xs ++ bs) ≡ (is_broken xs || is_broken bs)
broken_both [] bs = refl
broken_both (a ∷ xs) bs = refl

pub ruleset noting = (noted_both, broken_both)

-- ---- creations of arrays

abbrev pub sized_breaks : Table → Place → Ty → List Typed → List Bounds → List Refusal
sized_breaks T place t ts env = unless (reifiable T t) 612 place ++ length_breaks T env ts

pub sized_broken : (T : Table) (place : Place) (t : Ty) (ts : List Typed) (s r : Standing) (bs : List Refusal) → bs ≡ sized_breaks T place t ts s.env → is_broken bs ≡ true → noted s bs ≡ r →
    ran (sized T place t ts) s ≡ stopped r
unfolding ran sized
sized_broken T place t ts s r bs e h n = rw (← n, e) (provided_broken (sized_breaks T place t ts s.env) (fine (node place t (NewArray (operands_of (lengths T s.env ts) NoOperands)))) s (ap is_broken (sym e) ∙ h))

pub sized_fine : (T : Table) (place : Place) (t : Ty) (ts : List Typed) (s r : Standing) (bs : List Refusal) → bs ≡ sized_breaks T place t ts s.env → is_broken bs ≡ false → noted s bs ≡ r →
    ran (sized T place t ts) s ≡ ran (fine (node place t (NewArray (operands_of (lengths T s.env ts) NoOperands)))) r
unfolding ran sized
sized_fine T place t ts s r bs e h n =
    let f : s ≡ r = rw (noted_fine bs s h) at n in
    provided_fine (sized_breaks T place t ts s.env) (fine (node place t (NewArray (operands_of (lengths T s.env ts) NoOperands)))) s (ap is_broken (sym e) ∙ h) ∙ ap (λ q. ran (fine (node place t (NewArray (operands_of (lengths T s.env ts) NoOperands)))) q) f

-- ---- array initialisers

pub ran_assigned : (T : Table) (to : Ty) (t : Typed) (s : Standing) → ran (assigned T to t) s ≡ ran (assigned_by T s.env t (assignment T s.env (type_of t) (constant_of t) to)) s
unfolding ran assigned
ran_assigned T to t s = refl

pub given_converted : (ns : List Node) (at : ℕ) (T : Table) (env : List Bounds) (t : Typed) (c : Converts) → operand_of ns at ≡ converted T env t c → Some (converted T env t c) ≡ has_operand ns at
given_converted ns at T env t c e = ap if_given (sym e)

pub ruleset giving = (given_converted)

pub listed_one : (T : Table) (place : Place) (t : Ty) (os : List Operand) (s : Standing) (o : Option Refusal) (b : Refusal) → as_breaks o ≡ listed_breaks T place t (element t) → o ≡ Some b →
    ran (listed T place t os) s ≡ ran (broken_by b) s
unfolding listed
listed_one T place t os s o b e h = provided_one (listed_breaks T place t (element t)) (fine (node place t (ArrayOf (operands_of os NoOperands)))) s o b e h

pub listed_none : (T : Table) (place : Place) (t : Ty) (os : List Operand) (s : Standing) (o : Option Refusal) → as_breaks o ≡ listed_breaks T place t (element t) → o ≡ None →
    ran (listed T place t os) s ≡ ran (fine (node place t (ArrayOf (operands_of os NoOperands)))) s
unfolding listed
listed_none T place t os s o e h = provided_none (listed_breaks T place t (element t)) (fine (node place t (ArrayOf (operands_of os NoOperands)))) s o e h

pub ruleset listing = (listed_one, listed_none)

-- ---- casts

ran_cast : (T : Table) (place : Place) (t : Ty) (e : Typed) (s : Standing) → ran (cast_to T place t e) s ≡ ran (cast_by T s.env place t e (cast T s.env (type_of e) t)) s
unfolding ran cast_to
ran_cast T place t e s = refl

pub cast_one : (T : Table) (place : Place) (t : Ty) (e : Typed) (s : Standing) (c : Converts) (o : Option Refusal) (b : Refusal) → c ≡ cast T s.env (type_of e) t → as_breaks o ≡ unconverted 608 place c → o ≡ Some b →
    ran (cast_to T place t e) s ≡ ran (broken_by b) s
cast_one T place t e s c o b ec eo h =
    ran_cast T place t e s ∙ ap (λ d. ran (cast_by T s.env place t e d) s) (sym ec) ∙ provided_one (unconverted 608 place c) (cast_typed T s.env place t e c (cast_known T place t (known_of e))) s o b eo h

pub cast_none : (T : Table) (place : Place) (t : Ty) (e : Typed) (s : Standing) (c : Converts) (o : Option Refusal) → c ≡ cast T s.env (type_of e) t → as_breaks o ≡ unconverted 608 place c → o ≡ None →
    ran (cast_to T place t e) s ≡ ran (cast_typed T s.env place t e c (cast_known T place t (known_of e))) s
cast_none T place t e s c o ec eo h =
    ran_cast T place t e s ∙ ap (λ d. ran (cast_by T s.env place t e d) s) (sym ec) ∙ provided_none (unconverted 608 place c) (cast_typed T s.env place t e c (cast_known T place t (known_of e))) s o eo h

pub ruleset casting = (cast_one, cast_none)

-- ---- conditionals

abbrev pub choice_rest : Table → List Bounds → Typed → Spanned (Typed × Typed) → Converts → Run Typed
choice_rest T env c ab k = choice_typed T env c ab k (chosen_type T env ab.it.0 ab.it.1) (known_choice (known_of c) (known_of ab.it.0) (known_of ab.it.1))

ran_choice : (T : Table) (c : Typed) (ab : Spanned (Typed × Typed)) (s : Standing) → ran (chosen T c ab) s ≡ ran (choice_by T s.env c ab (invocation T s.env (type_of c) (Prim Boolean))) s
unfolding ran chosen
ran_choice T c ab s = refl

pub choice_one : (T : Table) (c : Typed) (ab : Spanned (Typed × Typed)) (s : Standing) (k : Converts) (o : Option Refusal) (b : Refusal) → k ≡ invocation T s.env (type_of c) (Prim Boolean) →
    as_breaks o ≡ unconverted 607 c.start k → o ≡ Some b → ran (chosen T c ab) s ≡ ran (broken_by b) s
choice_one T c ab s k o b ek eo h = ran_choice T c ab s ∙ ap (λ d. ran (choice_by T s.env c ab d) s) (sym ek) ∙ provided_one (unconverted 607 c.start k) (choice_rest T s.env c ab k) s o b eo h

pub choice_none : (T : Table) (c : Typed) (ab : Spanned (Typed × Typed)) (s : Standing) (k : Converts) (o : Option Refusal) → k ≡ invocation T s.env (type_of c) (Prim Boolean) →
    as_breaks o ≡ unconverted 607 c.start k → o ≡ None → ran (chosen T c ab) s ≡ ran (choice_rest T s.env c ab k) s
choice_none T c ab s k o ek eo h = ran_choice T c ab s ∙ ap (λ d. ran (choice_by T s.env c ab d) s) (sym ek) ∙ provided_none (unconverted 607 c.start k) (choice_rest T s.env c ab k) s o eo h

pub ruleset choosing = (choice_one, choice_none)
