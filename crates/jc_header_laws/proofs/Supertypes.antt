-- Written supertypes have an exact argument for each parameter of their class, or are raw.
use Rattle.std.proofs.Common.{◌≡◌, ◌≢◌, ℕ, suc, ◌==◌, Bool, true, false, ◌||◌, Some, List, [], ◌∷◌, length, map, arith, refl, sym, ap, ◌∙◌}
use Rattle.std.specs.List.{list_any}
use Rattle.std.proofs.lemmas.Bool.{or_parts}
use Rattle.jc_rules.proofs.Truths.{equal_numbers}
use Rattle.jc_types.specs.declared.declarations.ClassDecl.{ClassDecl}
use Rattle.jc_types.specs.declared.declarations.TypePlaces.{TypePlaces}
use Rattle.jc_types.specs.declared.form.Arg.{Arg, Arg-F, out-Arg, roll-Arg, roll-out-Arg}
use Rattle.jc_types.specs.declared.form.Arg.TheVariants.{Exact, rolls-Exact}
use Rattle.jc_types.specs.declared.form.Ty.{Ty, Ty-F, out-Ty, roll-Ty, roll-out-Ty}
use Rattle.jc_types.specs.declared.form.Ty.TheVariants.{Class, Raw, outs-Class, rolls-Class, rolls-Raw}
use Rattle.jc_types.specs.declared.ids.ClassId.{ClassId}
use Rattle.jc_types.specs.declared.ids.VarId.{VarId}
use Rattle.jc_types.specs.declared.table.Table.{Table}
use Rattle.jc_types.specs.Accessors.{vars_of}
use Rattle.jc_types.specs.Inside.{inside, inside_args}
use Rattle.jc_types.proofs.Insides.{inside-Class}
use Rattle.jc_judge.specs.Forming.{all_faults, class_faults, counted_faults, faults_at}
use Rattle.jc_judge.specs.Kinds.{ArgLayer, Layer, class_at, class_of}
use Rattle.jc_header_rules.specs.Checked.{IsSupertype, with_arguments, without}
use Rattle.jc_header_rules.specs.Types.{has_wildcard_at, is_wildcard_at, types_breaks}
use Rattle.jc_header_laws.specs.Facts.{IsNumber, IsPair}
use Rattle.jc_header_laws.proofs.Forming.{exact, super_faultless}
use Rattle.jc_header_laws.proofs.Lists.{fore}

-- ---- arguments without wildcards

exact_first : (a : Arg) (l : ArgLayer) → out-Arg a ≡ l → (b : Bool) → (is_wildcard_at l || b) ≡ false → (t : Ty) × (a ≡ Exact t)
exact_first a (Arg-F.Exact t) e b f = (t, sym (roll-out-Arg a) ∙ ap roll-Arg e ∙ rolls-Exact t)
exact_first a Arg-F.Any e b f = absurd cc
exact_first a (Arg-F.Extends t) e b f = absurd cc
exact_first a (Arg-F.Super t) e b f = absurd cc

abbrev has_wildcard : List Arg → Bool
has_wildcard args = list_any (λ a. is_wildcard_at (out-Arg a)) args

all_exact : (args : List Arg) → has_wildcard args ≡ false → (types : List Ty) × (args ≡ map Exact types)
all_exact [] e = ([], refl)
all_exact (a ∷ args) e =
    let first = exact_first a (out-Arg a) refl (has_wildcard args) e in
    let rest = all_exact args (or_parts (is_wildcard_at (out-Arg a)) (has_wildcard args) e).1 in
    (first.0 ∷ rest.0, ap (λ (b : Arg). b ∷ args) first.1 ∙ ap (λ (bs : List Arg). Exact first.0 ∷ bs) rest.1)

-- ---- as many as there are parameters

counted : (T : Table) (vars : List VarId) (args : List Arg) (b : Bool) → counted_faults T [] vars args b ≡ [] → b ≡ true
counted T vars args true e = refl
counted T vars args false e = absurd cc

class_counted : (T : Table) (id : ClassId) (args : List Arg) → class_faults T [] (Class id args) ≡ [] → length args ≡ length (vars_of T id)
unfolding class_faults
class_counted T id args e =
    equal_numbers (length args) (length (vars_of T id))
    (counted T (vars_of T id) args (length args == length (vars_of T id)) (ap (faults_at T []) (sym (outs-Class id args)) ∙ e))

mapped_count : (types : List Ty) → length (map Exact types) ≡ length types
mapped_count [] = refl
mapped_count (t ∷ types) = ap (λ (n : ℕ). suc n) (mapped_count types)

-- ---- supertypes

module _ (T : Table) (t : Ty) (k : ClassId) where
  with_class : (id : ClassId) (args : List Arg) → out-Ty t ≡ Ty-F.Class id args → all_faults T [] (inside t) ≡ [] → has_wildcard args ≡ false → IsSupertype T t
  with_class id args e faults exacts =
      let is : t ≡ Class id args = sym (roll-out-Ty t) ∙ ap roll-Ty e ∙ rolls-Class id args in
      let types = all_exact args exacts in
      let none : all_faults T [] (Class id args ∷ inside_args args) ≡ [] = ap (all_faults T []) (sym (inside-Class id args)) ∙ ap (λ (u : Ty). all_faults T [] (inside u)) (sym is) ∙ faults in
      let count : length args ≡ length (vars_of T id) = class_counted T id args (fore (class_faults T [] (Class id args)) (all_faults T [] (inside_args args)) none) in
      with_arguments types.0 (is ∙ ap (λ (as_ : List Arg). Class id as_) types.1) (sym (mapped_count types.0) ∙ ap (λ (as_ : List Arg). length as_) (sym types.1) ∙ count)

  raw_class : (id : ClassId) → out-Ty t ≡ Ty-F.Raw id → id ≡ k → (t ≡ Raw k → vars_of T k ≢ []) → IsSupertype T t
  raw_class id e same generic =
      let is : t ≡ Raw k = sym (roll-out-Ty t) ∙ ap roll-Ty e ∙ rolls-Raw id ∙ ap (λ (i : ClassId). Raw i) same in without is (generic is)

  by_layer : (l : Layer) → out-Ty t ≡ l → class_at l ≡ Some k → all_faults T [] (inside t) ≡ [] → has_wildcard_at l ≡ false → (t ≡ Raw k → vars_of T k ≢ []) → IsSupertype T t
  by_layer (Ty-F.Class id args) e at faults exacts generic = with_class id args e faults exacts
  by_layer (Ty-F.Raw id) e at faults exacts generic = raw_class id e (let g : id ≡ k = cc in g) generic
  by_layer (Ty-F.Prim p) e at faults exacts generic = absurd cc
  by_layer (Ty-F.Array u n) e at faults exacts generic = absurd cc
  by_layer (Ty-F.Variable v) e at faults exacts generic = absurd cc
  by_layer (Ty-F.Captured v) e at faults exacts generic = absurd cc
  by_layer (Ty-F.Meet ts) e at faults exacts generic = absurd cc
  by_layer Ty-F.NullTy e at faults exacts generic = absurd cc

  of_class : class_of t ≡ Some k → class_at (out-Ty t) ≡ Some k
  unfolding class_of
  of_class e = e

  pub supertype : types_breaks T ≡ [] → (n : ℕ) (c : ClassDecl) → IsNumber 0 n c T.classes → (places : TypePlaces) → IsPair t places c.supers.types c.supers.places
      → length places.classes ≡ length (inside t) → class_of t ≡ Some k → (t ≡ Raw k → vars_of T k ≢ []) → IsSupertype T t
  supertype unbroken n c at places h l e generic =
      by_layer (out-Ty t) refl (of_class e) (super_faultless T unbroken n c at t places h l) (exact T unbroken n c at t places h) generic
