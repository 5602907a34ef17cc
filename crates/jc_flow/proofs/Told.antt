-- What it says that no break was found.
use Rattle.std.proofs.Common.{◌≡◌, inl, Bool, true, false, not, ◌&&◌, Option, Some, None, is_some, List, [], ◌∷◌, ◌++◌, ℕ, zero, suc, refl, sym, subst, arith}
use Rattle.std.specs.Prelude.{All, IsSome}
use Rattle.jc_rules.specs.declared.rule.Place.{Place}
use Rattle.jc_rules.specs.declared.rule.Refusal.{Refusal}
use Rattle.jc_types.specs.declared.form.Ty.{Ty}
use Rattle.jc_types.specs.declared.table.Table.{Table}
use Rattle.jc_types.specs.declared.environment.Bounds.{Bounds}
use Rattle.jc_types.specs.Accessors.{method_place_of, result_of, thrown_of}
use Rattle.jc_types.specs.Breaks.{IsLeast, IsOf, LeastOf, least}
use Rattle.jc_types.proofs.Least.{least_of}
use Rattle.jc_typed.specs.declared.program.Body.{Body}
use Rattle.jc_typed.specs.declared.program.TypedMethod.{TypedMethod}
use Rattle.jc_flow_spec.specs.declared.flow.Thrown.{Thrown}
use Rattle.jc_flow_spec.specs.Throwing.{is_below_any, is_checked, is_undeclared}
use Rattle.jc_flow_spec.specs.States.{break_of}
use Rattle.jc_flow_spec.specs.Methods.{BreaksFlow, end_of, flow_breaks, flow_breaks_in, place_or_none, uncaught_breaks}
use Rattle.jc_flow.specs.Checked.{MayBeThrown, ReturnsAlways, ThrowsDeclared}

pub none_least : (bs : List Refusal) → least None bs ≡ None → bs ≡ []
none_least [] e = refl
none_least (b ∷ bs) e = absurd (subst (λ o. LeastOf (λ c. IsOf c (b ∷ bs)) o) e (least_of (b ∷ bs)) b (inl refl))

some_least : (bs : List Refusal) (b : Refusal) → least None bs ≡ Some b → IsLeast (λ c. IsOf c bs) b
some_least bs b e = subst (λ o. LeastOf (λ c. IsOf c bs) o) e (least_of bs)

pub refused_least : (T : Table) (m : TypedMethod) (b : Refusal) → least None (flow_breaks T m) ≡ Some b → IsLeast (BreaksFlow T m) b
refused_least T m b e = some_least (flow_breaks T m) b e

left_none : {A : Type 0} (xs ys : List A) → xs ++ ys ≡ [] → xs ≡ []
left_none [] ys e = refl
left_none (x ∷ xs) ys e = cc

right_none : {A : Type 0} (xs ys : List A) → xs ++ ys ≡ [] → ys ≡ []
right_none [] ys e = e
right_none (x ∷ xs) ys e = cc

not_broken : (b : Bool) (rule : ℕ) (p : Place) → break_of b rule p ≡ [] → b ≡ false
not_broken true rule p e = cc
not_broken false rule p e = refl

none_live : (r : Option Ty) (live : Bool) → (is_some r && live) ≡ false → IsSome r → live ≡ false
none_live None live e h = cc
none_live (Some t) live e h = e

pub returns_always : (T : Table) (m : TypedMethod) (b : Option Body) → flow_breaks_in T m b ≡ [] → ReturnsAlways T m b
returns_always T m None e = tt
returns_always T m (Some b) e =
    none_live (result_of T m.id) (end_of T m b).live
    (not_broken _ 702 (place_or_none (method_place_of T m.id)) (right_none (end_of T m b).broken _ (left_none _ (uncaught_breaks T m.captured.bounds (thrown_of T m.id) (end_of T m b).ways.thrown) e)))

declared_if : (checked below : Bool) → (checked && not below) ≡ false → checked ≡ true → below ≡ true
declared_if true true e h = refl
declared_if true false e h = sym e
declared_if false below e h = cc

all_declared : (T : Table) (env : List Bounds) (declared : List Ty) (xs : List Thrown) → uncaught_breaks T env declared xs ≡ [] → All (MayBeThrown T env declared) xs
all_declared T env declared [] e k d h c = absurd (omega (arith, h))
all_declared T env declared (x ∷ xs) e zero d h c =
    declared_if (is_checked T env x.ty) (is_below_any T env x.ty declared) (not_broken (is_undeclared T env declared x.ty) 703 x.place (left_none (break_of (is_undeclared T env declared x.ty) 703 x.place) (uncaught_breaks T env declared xs) e)) c
all_declared T env declared (x ∷ xs) e (suc k) d h c =
    all_declared T env declared xs (right_none (break_of (is_undeclared T env declared x.ty) 703 x.place) (uncaught_breaks T env declared xs) e) k d (omega (arith, h)) c

pub throws_declared : (T : Table) (m : TypedMethod) (b : Option Body) → flow_breaks_in T m b ≡ [] → ThrowsDeclared T m b
throws_declared T m None e = tt
throws_declared T m (Some b) e = all_declared T m.captured.bounds (thrown_of T m.id) (end_of T m b).ways.thrown (right_none _ _ e)

pub ruleset told = (none_least, returns_always, throws_declared)
