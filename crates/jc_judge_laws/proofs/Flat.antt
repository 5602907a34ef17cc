-- A greatest lower bound has no intersection as a part.
use Rattle.std.proofs.Common.{◌≡◌, Bool, true, false, cond, List, [], ◌∷◌, ◌++◌, length, nat_lt, filter, if◌then◌else◌, refl, sym, subst}
use Rattle.std.specs.Prelude.{not}
use Rattle.jc_types.specs.declared.form.Ty.{Ty, Ty-F, out-Ty}
use Rattle.jc_types.specs.declared.form.Ty.TheVariants.{outs-Class, outs-Meet}
use Rattle.jc_types.specs.declared.table.Table.{Table}
use Rattle.jc_judge.specs.Kinds.{Layer, is_object}
use Rattle.jc_judge.specs.Meeting.{as_one, parts_at, flattened, is_listed, distinct, without_object, is_covered, uncovered, glb_parts, glb}
use Rattle.jc_judge_laws.specs.Hierarchy.{IsNoMeet_at, AreNoMeets, IsFlat_at, IsFlat, AreFlat}

joined : (ts us : List Ty) → AreNoMeets ts → AreNoMeets us → AreNoMeets (ts ++ us)
joined [] us h k = k
joined (t ∷ ts) us h k = (h.0, joined ts us h.1 k)

alone : (t : Ty) (l : Layer) → out-Ty t ≡ l → IsNoMeet_at l → AreNoMeets (t ∷ [])
alone t l e h = (subst (λ l. IsNoMeet_at l) (sym e) h, tt)

parts_of : (t : Ty) (l : Layer) → out-Ty t ≡ l → IsFlat_at l → AreNoMeets (parts_at t l)
parts_of t (Ty-F.Meet parts) e h = h
parts_of t (Ty-F.Prim p) e h = alone t (Ty-F.Prim p) e tt
parts_of t (Ty-F.Class id args) e h = alone t (Ty-F.Class id args) e tt
parts_of t (Ty-F.Raw id) e h = alone t (Ty-F.Raw id) e tt
parts_of t (Ty-F.Array u n) e h = alone t (Ty-F.Array u n) e tt
parts_of t (Ty-F.Variable v) e h = alone t (Ty-F.Variable v) e tt
parts_of t (Ty-F.Captured c) e h = alone t (Ty-F.Captured c) e tt
parts_of t Ty-F.NullTy e h = alone t Ty-F.NullTy e tt

own_parts : (t : Ty) → IsFlat t → AreNoMeets (parts_at t (out-Ty t))
unfolding IsFlat
own_parts t h = parts_of t (out-Ty t) refl h

all_parts : (ts : List Ty) → AreFlat ts → AreNoMeets (flattened ts)
all_parts [] h = tt
all_parts (t ∷ ts) h = joined (parts_at t (out-Ty t)) (flattened ts) (own_parts t h.0) (all_parts ts h.1)

kept_if : (b : Bool) (kept : List Ty) (t : Ty) → AreNoMeets kept → IsNoMeet_at (out-Ty t) → AreNoMeets (if b then kept else kept ++ t ∷ [])
kept_if true kept t h k = h
kept_if false kept t h k = joined kept (t ∷ []) h (k, tt)

all_distinct : (ts kept : List Ty) → AreNoMeets kept → AreNoMeets ts → AreNoMeets (distinct kept ts)
all_distinct [] kept h k = h
all_distinct (t ∷ ts) kept h k = all_distinct ts (if is_listed t kept then kept else kept ++ t ∷ []) (kept_if (is_listed t kept) kept t h k.0) k.1

one_more : (b : Bool) (t : Ty) (ts : List Ty) → IsNoMeet_at (out-Ty t) → AreNoMeets ts → AreNoMeets (cond b (t ∷ ts) ts)
one_more true t ts h k = (h, k)
one_more false t ts h k = k

all_filtered : (p : Ty → Bool) (ts : List Ty) → AreNoMeets ts → AreNoMeets (filter p ts)
all_filtered p [] h = tt
all_filtered p (t ∷ ts) h = one_more (p t) t (filter p ts) h.0 (all_filtered p ts h.1)

filtered_if : (b : Bool) (ts us : List Ty) → AreNoMeets ts → AreNoMeets us → AreNoMeets (if b then us else ts)
filtered_if true ts us h k = k
filtered_if false ts us h k = h

others : (ts : List Ty) → AreNoMeets ts → AreNoMeets (without_object ts)
others ts h = filtered_if (nat_lt 1 (length ts)) ts (filter (λ t. not (is_object t)) ts) h (all_filtered (λ t. not (is_object t)) ts h)

left_if : (b : Bool) (t : Ty) (ts : List Ty) → IsNoMeet_at (out-Ty t) → AreNoMeets ts → AreNoMeets (if b then ts else t ∷ ts)
left_if true t ts h k = k
left_if false t ts h k = (h, k)

all_left : (T : Table) (all ts : List Ty) → AreNoMeets ts → AreNoMeets (uncovered T all ts)
all_left T all [] h = tt
all_left T all (t ∷ ts) h = left_if (is_covered T t all) t (uncovered T all ts) h.0 (all_left T all ts h.1)

bound_parts : (T : Table) (ts : List Ty) → AreFlat ts → AreNoMeets (glb_parts T ts)
unfolding glb_parts
bound_parts T ts h =
    let kept = without_object (distinct [] (flattened ts)) in
    all_left T kept kept (others (distinct [] (flattened ts)) (all_distinct (flattened ts) [] tt (all_parts ts h)))

no_meet_flat : (l : Layer) → IsNoMeet_at l → IsFlat_at l
no_meet_flat (Ty-F.Meet parts) h = absurd h
no_meet_flat (Ty-F.Prim p) h = tt
no_meet_flat (Ty-F.Class id args) h = tt
no_meet_flat (Ty-F.Raw id) h = tt
no_meet_flat (Ty-F.Array u n) h = tt
no_meet_flat (Ty-F.Variable v) h = tt
no_meet_flat (Ty-F.Captured c) h = tt
no_meet_flat Ty-F.NullTy h = tt

one_flat : (ts : List Ty) → AreNoMeets ts → IsFlat (as_one ts)
unfolding IsFlat
one_flat [] h = subst (λ l. IsFlat_at l) (sym (outs-Class (record { 0 = 0 }) [])) tt
one_flat (t ∷ []) h = no_meet_flat (out-Ty t) h.0
one_flat (t ∷ u ∷ ts) h = subst (λ l. IsFlat_at l) (sym (outs-Meet (t ∷ u ∷ ts))) h

pub bound_is_flat : (T : Table) (ts : List Ty) → AreFlat ts → IsFlat (glb T ts)
bound_is_flat T ts h = one_flat (glb_parts T ts) (bound_parts T ts h)
