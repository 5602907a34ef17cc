-- A marked class has none of the methods.
use Rattle.std.proofs.Common.{◌≡◌, inl, inr, ℕ, zero, suc, ◌+◌, ◌-◌, ◌<◌, arith, Bool, true, false, not, ◌&&◌, ◌||◌, cond, Option, Some, None, List, [], ◌∷◌, ◌++◌, length, add-one, refl, sym, ap, subst, ◌∙◌}
use Rattle.std.proofs.lemmas.Bool.{and_right, and_parts}
use Rattle.jc_rules.proofs.Truths.{not_both, not_false}
use Rattle.jc_rules.specs.declared.rule.Place.{Place}
use Rattle.jc_rules.specs.declared.rule.Refusal.{Refusal}
use Rattle.jc_types.specs.declared.form.Ty.{Ty}
use Rattle.jc_types.specs.declared.form.Ty.TheVariants.{outs-Class}
use Rattle.jc_types.specs.declared.ids.ClassId.{ClassId}
use Rattle.jc_types.specs.declared.ids.MethodId.{MethodId}
use Rattle.jc_types.specs.declared.table.Table.{Table}
use Rattle.jc_types.specs.Accessors.{method_owner_of, supers_of}
use Rattle.jc_types.specs.Breaks.{least}
use Rattle.jc_judge.specs.Kinds.{class_at, class_of}
use Rattle.jc_judge.specs.Supers.{numbered}
use Rattle.jc_overriding.specs.Overriding.{is_inheritable, is_method, is_viewed, or_object, owner, same_class}
use Rattle.jc_overriding.specs.Viewing.{own_type, view_of_owner}
use Rattle.jc_clashes.specs.Climbing.{AllIn, ClassIn, IsClosed, IsNumberIn}
use Rattle.jc_members.specs.Listing.{has_method}
use Rattle.jc_clashes.proofs.Climbed.{outside}
use Rattle.jc_clashes.specs.declared.shapes.Shape.{Shape}
use Rattle.jc_clashes.specs.Clashing.{belongs, beside_broken, group_broken, groups_broken, is_replaced, passed_over}
use Rattle.jc_clashes.specs.Marks.{is_marked}
use Rattle.jc_clashes.specs.Clear.{AreClear, all_apart, all_clear, class_clear, keeps_clear, none_clear, stays_from}

-- ---- one class further

turn : (T : Table) (marks : List Bool) (i n : ℕ) → i < n → stays_from T marks i (n - i) ≡ (keeps_clear T marks i && stays_from T marks (i + 1) (n - (i + 1)))
turn T marks i n lt =
    let count : n - i ≡ suc (n - (i + 1)) = omega arith in
    ap (stays_from T marks i) count ∙ ap (λ j. keeps_clear T marks i && stays_from T marks j (n - (i + 1))) (sym (add-one i))

pub clear_further : (T : Table) (marks : List Bool) (i n : ℕ) (whole : Bool) → i < n → true ≡ keeps_clear T marks i → stays_from T marks i (n - i) ≡ whole → stays_from T marks (i + 1) (n - (i + 1)) ≡ whole
clear_further T marks i n whole lt e f = ap (λ b. b && stays_from T marks (i + 1) (n - (i + 1))) e ∙ sym (turn T marks i n lt) ∙ f

pub clear_here : (T : Table) (marks : List Bool) (i n : ℕ) (whole : Bool) → i < n → false ≡ keeps_clear T marks i → stays_from T marks i (n - i) ≡ whole → false ≡ whole
clear_here T marks i n whole lt e f = ap (λ b. b && stays_from T marks (i + 1) (n - (i + 1))) e ∙ sym (turn T marks i n lt) ∙ f

-- ---- no marks

apart_none : (T : Table) (ss : List Shape) → none_clear T [] ss ≡ true
apart_none T [] = refl
apart_none T (s ∷ ss) = apart_none T ss

apart_all : (T : Table) (gs : List (List Shape)) → all_apart T [] gs ≡ true
apart_all T [] = refl
apart_all T (g ∷ gs) = ap (λ b. b && all_apart T [] gs) (apart_none T g) ∙ apart_all T gs

pub none_marked : (T : Table) (gs : List (List Shape)) → AreClear T [] gs
none_marked T gs = record { stay = refl; apart = apart_all T gs }

-- ---- the marked classes, listed

listed : List Bool → ℕ → List ℕ
listed [] i = []
listed (b ∷ bs) i = cond b (i ∷ []) [] ++ listed bs (suc i)

number_right : (x : ℕ) (b : Bool) (i : ℕ) (xs : List ℕ) → IsNumberIn x xs → IsNumberIn x (cond b (i ∷ []) [] ++ xs)
number_right x true i xs m = inr m
number_right x false i xs m = m

clear_listed : (bs : List Bool) (i j x : ℕ) → is_marked bs j ≡ true → x ≡ i + j → IsNumberIn x (listed bs i)
unfolding listed
clear_listed [] i j x e is = cc
clear_listed (b ∷ bs) i zero x e is = subst (λ c. IsNumberIn x (cond c (i ∷ []) [] ++ listed bs (suc i))) (sym e) (inl (omega arith))
clear_listed (b ∷ bs) i (suc j) x e is = number_right x b i (listed bs (suc i)) (clear_listed bs (suc i) j x e (omega arith))

listed_clear : (bs : List Bool) (i x : ℕ) → IsNumberIn x (listed bs i) → (j : ℕ) × (x ≡ i + j) × (is_marked bs j ≡ true) × (j < length bs)
unfolding listed
listed_clear [] i x m = absurd m
listed_clear (b ∷ bs) i x m = by b refl m (λ m. listed_clear bs (suc i) x m)
  where
    next : (j : ℕ) × (x ≡ suc i + j) × (is_marked bs j ≡ true) × (j < length bs) → (j : ℕ) × (x ≡ i + j) × (is_marked (b ∷ bs) j ≡ true) × (j < length (b ∷ bs))
    next h = let is : x ≡ suc i + h.0 = h.1 in let low : h.0 < length bs = h.3 in (suc h.0, omega arith, h.2, omega arith)

    by : (c : Bool) → b ≡ c → IsNumberIn x (cond c (i ∷ []) [] ++ listed bs (suc i)) → (IsNumberIn x (listed bs (suc i)) → (j : ℕ) × (x ≡ suc i + j) × (is_marked bs j ≡ true) × (j < length bs))
        → (j : ℕ) × (x ≡ i + j) × (is_marked (b ∷ bs) j ≡ true) × (j < length (b ∷ bs))
    by true e (inl is) g = (zero, omega arith, e, omega arith)
    by true e (inr m) g = next (g m)
    by false e m g = next (g m)

keeps_at : (T : Table) (marks : List Bool) (i n j : ℕ) → stays_from T marks i n ≡ true → j < n → keeps_clear T marks (i + j) ≡ true
keeps_at T marks i zero j e lt = absurd (omega arith)
keeps_at T marks i (suc n) zero e lt = let is : i + 0 ≡ i = omega arith in ap (keeps_clear T marks) is ∙ (and_parts (keeps_clear T marks i) (stays_from T marks (suc i) n) e).0
keeps_at T marks i (suc n) (suc j) e lt =
    let is : i + suc j ≡ suc i + j = omega arith in
    ap (keeps_clear T marks) is ∙ keeps_at T marks (suc i) n j (and_parts (keeps_clear T marks i) (stays_from T marks (suc i) n) e).1 (omega arith)

module _ (T : Table) (marks : List Bool) (gs : List (List Shape)) (clear : AreClear T marks gs) where
  abbrev cs : List ℕ
  cs = listed marks 0

  all_in : (ts : List Ty) → all_clear marks ts ≡ true → AllIn cs ts
  all_in [] e = tt
  all_in (t ∷ ts) e = let both = and_parts (class_clear marks (class_of t)) (all_clear marks ts) e in (by (class_of t) both.0, all_in ts both.1)
    where
      by : (o : Option ClassId) → class_clear marks o ≡ true → ClassIn cs o
      by None e = cc
      by (Some k) e = clear_listed marks 0 k.0 k.0 e (omega arith)

  supers_clear : (x : ℕ) → IsNumberIn x cs → AllIn cs (supers_of T (numbered x))
  unfolding keeps_clear
  supers_clear x m = by (listed_clear marks 0 x m)
    where
      or_second : (a b : Bool) → a ≡ true → (not a || b) ≡ true → b ≡ true
      or_second true b e f = f
      or_second false b e f = cc

      by : (j : ℕ) × (x ≡ 0 + j) × (is_marked marks j ≡ true) × (j < length marks) → AllIn cs (supers_of T (numbered x))
      by h =
          let is : 0 + h.0 ≡ x = sym h.1 in
          let same : h.0 ≡ x = omega arith in
          let kept : keeps_clear T marks x ≡ true = subst (λ y. keeps_clear T marks y ≡ true) is (keeps_at T marks 0 (length marks) h.0 clear.stay h.3) in
          let marked : is_marked marks x ≡ true = subst (λ y. is_marked marks y ≡ true) same h.2 in
          all_in (supers_of T (numbered x)) (or_second (is_marked marks x) (all_clear marks (supers_of T (numbered x))) marked kept)

  module _ (k : ClassId) (here : is_marked marks k.0 ≡ true) where
    closed : IsClosed T k.0 cs
    closed = record { first = clear_listed marks 0 k.0 k.0 here (omega arith); above = supers_clear }

    class_own : class_of (own_type T k) ≡ Some k
    unfolding class_of
    class_own = ap class_at (outs-Class k _)

    out : (l : ℕ) → is_marked marks l ≡ false → IsNumberIn l cs → ⊥
    out l e m =
        let h = listed_clear marks 0 l m in
        let is : l ≡ 0 + h.0 = h.1 in
        let same : h.0 ≡ l = omega arith in
        not_both (is_marked marks l) (subst (λ y. is_marked marks y ≡ true) same h.2) e

    none_there : (m : MethodId) → is_marked marks (owner T m).0 ≡ false → has_method T (own_type T k) m ≡ false
    none_there m e = by (method_owner_of T m) e
      where
        by : (o : Option ClassId) → is_marked marks (or_object o).0 ≡ false → is_viewed (view_of_owner T (own_type T k) o) ≡ false
        by None e = refl
        by (Some l) e = ap is_viewed (outside T k.0 l.0 cs closed (out l.0 e) (own_type T k) class_own)

    none_belongs : (m : MethodId) → is_marked marks (owner T m).0 ≡ false → belongs T k m ≡ false
    none_belongs m e = and_right (is_method T m && (same_class k (owner T m) || is_inheritable T k m)) (has_method T (own_type T k) m) (none_there m e)

    nothing_in : (place : Place) (all ss : List Shape) → none_clear T marks ss ≡ true → group_broken T k place all ss ≡ []
    nothing_in place all [] e = refl
    nothing_in place all (s ∷ ss) e =
        let both = and_parts (not (is_marked marks (owner T s.id).0)) (none_clear T marks ss) e in
        let apart : belongs T k s.id ≡ false = none_belongs s.id (not_false (is_marked marks (owner T s.id).0) both.0) in
        ap (λ b. cond (b && not (is_replaced T k s)) (beside_broken T k place s (passed_over T k s) all) [] ++ group_broken T k place all ss) apart ∙ nothing_in place all ss both.1

    nothing_broken : (place : Place) (fs : List (List Shape)) → all_apart T marks fs ≡ true → groups_broken T k place fs ≡ []
    nothing_broken place [] e = refl
    nothing_broken place (g ∷ fs) e =
        let both = and_parts (none_clear T marks g) (all_apart T marks fs) e in
        ap (λ bs. bs ++ groups_broken T k place fs) (nothing_in place g g both.0) ∙ nothing_broken place fs both.1

pub clear_told : (T : Table) (marks : List Bool) (gs : List (List Shape)) (k : ClassId) (place : Place) (found : Option Refusal) → AreClear T marks gs → is_marked marks k.0 ≡ true
    → least found (groups_broken T k place gs) ≡ found
clear_told T marks gs k place found clear here = ap (least found) (nothing_broken T marks gs clear k here place gs clear.apart)
