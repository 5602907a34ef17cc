-- Written types without faults.
use Rattle.std.proofs.Common.{◌≡◌, ℕ, suc, ◌+◌, ◌==◌, Bool, true, false, ◌||◌, if◌then◌else◌, inl, inr, List, [], ◌∷◌, ◌++◌, length, Option, Some, None, refl, sym, ap, ◌∙◌, arith}
use Rattle.std.proofs.lemmas.Bool.{or_parts}
use Rattle.jc_rules.specs.declared.rule.Place.{Place}
use Rattle.jc_rules.specs.declared.rule.Refusal.{Refusal}
use Rattle.jc_types.specs.declared.declarations.ClassDecl.{ClassDecl}
use Rattle.jc_types.specs.declared.declarations.FieldDecl.{FieldDecl}
use Rattle.jc_types.specs.declared.declarations.MethodDecl.{MethodDecl}
use Rattle.jc_types.specs.declared.declarations.TypePlaces.{TypePlaces}
use Rattle.jc_types.specs.declared.declarations.VariableDecl.{VariableDecl}
use Rattle.jc_types.specs.declared.declarations.Written.{Written}
use Rattle.jc_types.specs.declared.environment.Bounds.{Bounds}
use Rattle.jc_types.specs.declared.form.Arg.{Arg, out-Arg}
use Rattle.jc_types.specs.declared.form.Ty.{Ty, Ty-F, out-Ty}
use Rattle.jc_types.specs.declared.ids.VarId.{VarId}
use Rattle.jc_types.specs.declared.scopes.Use.{Use}
use Rattle.jc_types.specs.declared.table.Table.{Table}
use Rattle.jc_types.specs.Accessors.{vars_of}
use Rattle.jc_types.specs.Inside.{inside}
use Rattle.jc_judge.specs.declared.faults.TypeFault.{TypeFault}
use Rattle.jc_judge.specs.declared.faults.TypeFault.TheVariants as fault
use Rattle.jc_judge.specs.declared.question.Answer.{Answer}
use Rattle.jc_judge.specs.declared.question.Answer.TheVariants.{Yes, No, Deep}
use Rattle.jc_judge.specs.declared.question.Part.{Part}
use Rattle.jc_judge.specs.Capturing.{captured_args, fresh_args, meets_at, next_at, put_bounds}
use Rattle.jc_judge.specs.Deciding.{answer_of, every_answer, part_answer}
use Rattle.jc_judge.specs.Forming.{IsWellFormed, all_bare, all_captured, all_faults, all_formed_answer, all_hold, arg_faults, args_faults, bare_parts, captured_parts, class_faults, counted_faults, counted_needs, faults_at, faults_of_arg, fault_if, formed_answer, is_deep, is_no, needs, needs_answer, needs_at, reference_faults}
use Rattle.jc_judge.specs.Kinds.{Layer}
use Rattle.jc_judge.specs.Trees.{both}
use Rattle.jc_judge.specs.WellFormed.{bare, is_primitive_arg, lower_parts, upper_parts}
use Rattle.jc_judge_laws.proofs.Decides.{formed_right}
use Rattle.jc_header_rules.specs.Checked.{IsAmong}
use Rattle.jc_header_rules.specs.Places.{broken_if, of_each, of_written}
use Rattle.jc_header_rules.specs.Types.{bounds_broken, class_broken, depends_on_itself, class_types_broken, faults_broken, field_broken, has_wildcard_at, kind_broken, method_broken, supertype_broken, type_broken, types_breaks, types_broken, use_broken, variable_broken, written_broken}
use Rattle.jc_header_laws.specs.Facts.{IsNumber, IsPair, IsThere, IsWritten}
use Rattle.jc_header_laws.proofs.Lists.{each_unbroken, fore, not_broken, rear, some_number}

less_one : {m n : ℕ} → suc m ≡ suc n → m ≡ n
less_one l = grind (arith)

-- ---- no fault of a type at a place: no fault of the types inside it

no_fault : (p : Place) (fs : List TypeFault) → faults_broken p fs ≡ [] → fs ≡ []
no_fault p [] e = refl
no_fault p (f ∷ fs) e = absurd cc

no_faults : (T : Table) (ts : List Ty) (ps : List Place) → length ps ≡ length ts → class_types_broken T ts ps ≡ [] → all_faults T [] ts ≡ []
no_faults T [] ps l e = refl
no_faults T (t ∷ ts) [] l e = absurd cc
no_faults T (t ∷ ts) (p ∷ ps) l e =
    ap (λ fs. fs ++ all_faults T [] ts) (no_fault p (class_faults T [] t) (fore (faults_broken p (class_faults T [] t)) _ e))
    ∙ no_faults T ts ps (less_one l) (rear (faults_broken p (class_faults T [] t)) _ e)

-- ---- and they are well formed

both_yes : (a b : Answer) → a ≡ Yes → b ≡ Yes → both a b ≡ Yes
both_yes a b h g = ap (λ x. both x b) h ∙ g

never : (b : Answer) → both Deep b ≡ Yes → ⊥
never Yes q = cc
never No q = cc
never Deep q = cc

joined_at : (f : Part → Answer) (p : Part) (a : Answer) → f p ≡ a → (rest more : Answer) → both a rest ≡ Yes → (rest ≡ Yes → more ≡ Yes) → both (f p) more ≡ Yes
joined_at f p Yes is rest more k go = both_yes (f p) more is (go k)
joined_at f p No is rest more k go = absurd cc
joined_at f p Deep is rest more k go = absurd (never rest k)

every_joined : (f : Part → Answer) (ps qs : List Part) → every_answer f ps ≡ Yes → every_answer f qs ≡ Yes → every_answer f (ps ++ qs) ≡ Yes
every_joined f [] qs h g = g
every_joined f (p ∷ ps) qs h g = joined_at f p (f p) refl (every_answer f ps) (every_answer f (ps ++ qs)) h (λ k. every_joined f ps qs k g)

is_yes : (a : Answer) → is_no a ≡ false → is_deep a ≡ false → a ≡ Yes
is_yes Yes h g = refl
is_yes No h g = absurd cc
is_yes Deep h g = absurd cc

not_one : (b : Bool) (f : TypeFault) → fault_if b f ≡ [] → b ≡ false
not_one false f e = refl
not_one true f e = absurd cc

reference_yes : (i : ℕ) (upper lower : Answer) (meets : Bool) → reference_faults i upper lower meets ≡ [] → (upper ≡ Yes) × (lower ≡ Yes)
reference_yes i upper lower meets e =
    let three : (fault_if (is_no upper) (fault.Bound i) ++ fault_if (is_no lower) (fault.SuperBound i)) ++ fault_if meets (fault.ClassesMeet i) ≡ [] = fore _ (fault_if (is_deep upper || is_deep lower) fault.Deep) e in
    let two : fault_if (is_no upper) (fault.Bound i) ++ fault_if (is_no lower) (fault.SuperBound i) ≡ [] = fore _ (fault_if meets (fault.ClassesMeet i)) three in
    let below : is_no upper ≡ false = not_one (is_no upper) (fault.Bound i) (fore _ (fault_if (is_no lower) (fault.SuperBound i)) two) in
    let above : is_no lower ≡ false = not_one (is_no lower) (fault.SuperBound i) (rear (fault_if (is_no upper) (fault.Bound i)) _ two) in
    let deep : (is_deep upper ≡ false) × (is_deep lower ≡ false) =
    or_parts (is_deep upper) (is_deep lower)
    (not_one (is_deep upper || is_deep lower) fault.Deep (rear ((fault_if (is_no upper) (fault.Bound i) ++ fault_if (is_no lower) (fault.SuperBound i)) ++ fault_if meets (fault.ClassesMeet i)) _ e)) in
    (is_yes upper below deep.0, is_yes lower above deep.1)

module _ (T : Table) (full plain : List Bounds) where
  kind_yes : (bounds : List Ty) (i : ℕ) (s : Ty) (a : Arg) (b : Bool) → faults_of_arg T full plain bounds i s a b ≡ []
      → (all_hold T 64 full (if b then [] else upper_parts s bounds) ≡ Yes) × (all_hold T 64 plain (if b then [] else lower_parts (out-Arg a) bounds) ≡ Yes)
  kind_yes bounds i s a true e = absurd cc
  kind_yes bounds i s a false e = reference_yes i (all_hold T 64 full (upper_parts s bounds)) (all_hold T 64 plain (lower_parts (out-Arg a) bounds)) (meets_at T bounds (out-Arg a)) e

  args_yes : (vars : List VarId) (by : List Ty) (i : ℕ) (ps : List VarId) (ss : List Ty) (args : List Arg) → length ss ≡ length args → args_faults T full plain vars by i ps ss args ≡ []
      → (all_hold T 64 full (all_captured T vars by ps ss args) ≡ Yes) × (all_hold T 64 plain (all_bare T vars by ps args) ≡ Yes)
  args_yes vars by i [] ss args l e = (refl, refl)
  args_yes vars by i (p ∷ ps) [] [] l e = (refl, refl)
  args_yes vars by i (p ∷ ps) [] (a ∷ args) l e = absurd cc
  args_yes vars by i (p ∷ ps) (s ∷ ss) [] l e = absurd cc
  args_yes vars by i (p ∷ ps) (s ∷ ss) (a ∷ args) l e =
      let bounds : List Ty = put_bounds T vars by p in
      let here : _ = kind_yes bounds i s a (is_primitive_arg (out-Arg a)) (fore (arg_faults T full plain bounds i s a) _ e) in
      let rest : _ = args_yes vars by (i + 1) ps ss args (less_one l) (rear (arg_faults T full plain bounds i s a) _ e) in (
        every_joined (part_answer (answer_of T 64 full)) (captured_parts s (out-Arg a) bounds) (all_captured T vars by ps ss args) here.0 rest.0,
        every_joined (part_answer (answer_of T 64 plain)) (bare_parts (out-Arg a) bounds) (all_bare T vars by ps args) here.1 rest.1,
      )

captured_count : (args : List Arg) (n : ℕ) → length (captured_args n args) ≡ length args
captured_count [] n = refl
captured_count (a ∷ args) n = ap suc (captured_count args (next_at n (out-Arg a)))

counted_yes : (T : Table) (env : List Bounds) (vars : List VarId) (args : List Arg) (b : Bool) → counted_faults T env vars args b ≡ [] → needs_answer T 64 (counted_needs T env vars args b) ≡ Yes
counted_yes T env vars args false e = absurd cc
counted_yes T env vars args true e =
    let by : List Ty = captured_args (length env) args in
    let fresh : List Bounds = fresh_args T vars by vars args in
    let yes : _ = args_yes T (env ++ fresh) (env ++ bare fresh) vars by 0 vars by args (captured_count args (length env)) e in
    both_yes _ _ yes.0 yes.1

layer_yes : (T : Table) (env : List Bounds) (l : Layer) → faults_at T env l ≡ [] → needs_answer T 64 (needs_at T env l) ≡ Yes
layer_yes T env (Ty-F.Class id args) e = counted_yes T env (vars_of T id) args (length args == length (vars_of T id)) e
layer_yes T env _ e = refl

own_yes : (T : Table) (env : List Bounds) (t : Ty) → class_faults T env t ≡ [] → needs_answer T 64 (needs T env t) ≡ Yes
unfolding class_faults needs
own_yes T env t e = layer_yes T env (out-Ty t) e

all_yes : (T : Table) (env : List Bounds) (ts : List Ty) → all_faults T env ts ≡ [] → all_formed_answer T 64 env ts ≡ Yes
all_yes T env [] e = refl
all_yes T env (t ∷ ts) e =
    both_yes (needs_answer T 64 (needs T env t)) (all_formed_answer T 64 env ts) (own_yes T env t (fore (class_faults T env t) _ e)) (all_yes T env ts (rear (class_faults T env t) _ e))

formed_yes : (T : Table) (t : Ty) → all_faults T [] (inside t) ≡ [] → formed_answer T 64 [] t ≡ Yes
unfolding formed_answer
formed_yes T t e = all_yes T [] (inside t) e

formed : (T : Table) (t : Ty) (places : TypePlaces) → length places.classes ≡ length (inside t) → type_broken T t places ≡ [] → IsWellFormed T 64 [] t
formed T t places l e = (formed_right T 64 [] t).yes.0 (formed_yes T t (no_faults T (inside t) places.classes l e))

-- ---- each written type

of_pair : (f : Ty → TypePlaces → List Refusal) (t : Ty) (p : TypePlaces) (ts : List Ty) (ps : List TypePlaces) → of_written f ts ps ≡ [] → IsPair t p ts ps → f t p ≡ []
of_pair f t p [] ps e h = absurd h
of_pair f t p (u ∷ us) [] e h = absurd h
of_pair f t p (u ∷ us) (q ∷ qs) e (inl h) = ap (λ x. f x p) h.0 ∙ ap (f u) h.1 ∙ fore (f u q) (of_written f us qs) e
of_pair f t p (u ∷ us) (q ∷ qs) e (inr h) = of_pair f t p us qs (rear (f u q) (of_written f us qs) e) h

of_option : (T : Table) (t : Ty) (p : TypePlaces) (o : Option Written) → written_broken T o ≡ [] → IsThere t p o → type_broken T t p ≡ []
of_option T t p None e h = absurd h
of_option T t p (Some w) e h = ap (λ x. type_broken T x p) h.0 ∙ ap (type_broken T w.ty) h.1 ∙ e

-- the breaks of the stage, kind by kind
abbrev classes : Table → List Refusal
classes T = of_each (class_broken T) 0 T.classes

abbrev methods : Table → List Refusal
methods T = of_each (method_broken T) 0 T.methods

abbrev fields : Table → List Refusal
fields T = of_each (field_broken T) 0 T.fields

abbrev variables : Table → List Refusal
variables T = of_each (variable_broken T) 0 T.variables

abbrev uses : Table → List Refusal
uses T = of_each (use_broken T) 0 T.uses

module _ (T : Table) (unbroken : types_breaks T ≡ []) where
  four : ((classes T ++ methods T) ++ fields T) ++ variables T ≡ []
  four = fore (((classes T ++ methods T) ++ fields T) ++ variables T) (uses T) unbroken

  three : (classes T ++ methods T) ++ fields T ≡ []
  three = fore ((classes T ++ methods T) ++ fields T) (variables T) four

  two : classes T ++ methods T ≡ []
  two = fore (classes T ++ methods T) (fields T) three

  at_number : (n : ℕ) (c : ClassDecl) → IsNumber 0 n c T.classes → types_broken T c.supers ++ of_written supertype_broken c.supers.types c.supers.places ≡ []
  at_number n c h = each_unbroken (class_broken T) 0 n c T.classes (fore (classes T) (methods T) two) h

  at_class : (c : ClassDecl) → IsAmong c T.classes → types_broken T c.supers ++ of_written supertype_broken c.supers.types c.supers.places ≡ []
  at_class c h = let r = some_number 0 c T.classes h in at_number r.0 c r.1

  at_method : (m : MethodDecl) → IsAmong m T.methods → (types_broken T m.params ++ written_broken T m.result) ++ types_broken T m.thrown ≡ []
  at_method m h = let r = some_number 0 m T.methods h in each_unbroken (method_broken T) 0 r.0 m T.methods (rear (classes T) (methods T) two) r.1

  at_field : (f : FieldDecl) → IsAmong f T.fields → type_broken T f.ty.ty f.ty.places ≡ []
  at_field f h = let r = some_number 0 f T.fields h in each_unbroken (field_broken T) 0 r.0 f T.fields (rear (classes T ++ methods T) (fields T) three) r.1

  at_variable : (v : VariableDecl) → IsAmong v T.variables → types_broken T v.bounds ≡ []
  at_variable v h =
      let r = some_number 0 v T.variables h in
      let id : VarId = record { 0 = r.0 } in
      let bounds : List Refusal = bounds_broken T v.bounds.types v.bounds.places in
      let all : (types_broken T v.bounds ++ broken_if (depends_on_itself T id) 407 v.place) ++ bounds ≡ [] =
      each_unbroken (variable_broken T) 0 r.0 v T.variables (rear ((classes T ++ methods T) ++ fields T) (variables T) four) r.1 in
      fore (types_broken T v.bounds) (broken_if (depends_on_itself T id) 407 v.place) (fore (types_broken T v.bounds ++ broken_if (depends_on_itself T id) 407 v.place) bounds all)

  at_use : (u : Use) → IsAmong u T.uses → kind_broken T u.kind u.ty ≡ []
  at_use u h = let r = some_number 0 u T.uses h in each_unbroken (use_broken T) 0 r.0 u T.uses (rear (((classes T ++ methods T) ++ fields T) ++ variables T) (uses T) unbroken) r.1

  written : (t : Ty) (p : TypePlaces) → IsWritten T t p → type_broken T t p ≡ []
  written t p (IsWritten.InSupers c h g) = of_pair (type_broken T) t p c.supers.types c.supers.places (fore (types_broken T c.supers) (of_written supertype_broken c.supers.types c.supers.places) (at_class c h)) g
  written t p (IsWritten.InParameters m h g) = of_pair (type_broken T) t p m.params.types m.params.places (fore (types_broken T m.params) (written_broken T m.result) (fore (types_broken T m.params ++ written_broken T m.result) (types_broken T m.thrown) (at_method m h))) g
  written t p (IsWritten.InResult m h g) = of_option T t p m.result (rear (types_broken T m.params) (written_broken T m.result) (fore (types_broken T m.params ++ written_broken T m.result) (types_broken T m.thrown) (at_method m h))) g
  written t p (IsWritten.InThrown m h g) =
      of_pair (type_broken T) t p m.thrown.types m.thrown.places (rear (types_broken T m.params ++ written_broken T m.result) (types_broken T m.thrown) (at_method m h)) g
  written t p (IsWritten.InField f h g k) = ap (λ x. type_broken T x p) g ∙ ap (type_broken T f.ty.ty) k ∙ at_field f h
  written t p (IsWritten.InBounds v h g) = of_pair (type_broken T) t p v.bounds.types v.bounds.places (at_variable v h) g
  written t p (IsWritten.InBody u h kind g k) =
      ap (λ x. type_broken T x p) g ∙ ap (type_broken T u.ty.ty) k ∙ (ap (λ x. kind_broken T x u.ty) (sym kind) ∙ at_use u h)

pub well_formed : (T : Table) → types_breaks T ≡ [] → (t : Ty) (places : TypePlaces) → IsWritten T t places → length places.classes ≡ length (inside t) → IsWellFormed T 64 [] t
well_formed T unbroken t places h l = formed T t places l (written T unbroken t places h)

pub exact : (T : Table) → types_breaks T ≡ [] → (n : ℕ) (c : ClassDecl) → IsNumber 0 n c T.classes → (t : Ty) (places : TypePlaces) → IsPair t places c.supers.types c.supers.places → has_wildcard_at (out-Ty t) ≡ false
exact T unbroken n c at t places h =
    let supers : of_written supertype_broken c.supers.types c.supers.places ≡ [] = rear (types_broken T c.supers) (of_written supertype_broken c.supers.types c.supers.places) (at_number T unbroken n c at) in
    not_broken (has_wildcard_at (out-Ty t)) 408 places.first (of_pair supertype_broken t places c.supers.types c.supers.places supers h)

-- a written supertype has no fault
pub super_faultless : (T : Table) → types_breaks T ≡ [] → (n : ℕ) (c : ClassDecl) → IsNumber 0 n c T.classes → (t : Ty) (places : TypePlaces) → IsPair t places c.supers.types c.supers.places
    → length places.classes ≡ length (inside t) → all_faults T [] (inside t) ≡ []
super_faultless T unbroken n c at t places h l =
    let supers : types_broken T c.supers ≡ [] = fore (types_broken T c.supers) (of_written supertype_broken c.supers.types c.supers.places) (at_number T unbroken n c at) in
    no_faults T (inside t) places.classes l (of_pair (type_broken T) t places c.supers.types c.supers.places supers h)
