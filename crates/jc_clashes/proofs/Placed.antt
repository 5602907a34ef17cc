-- Where a clash is told, by the methods of a name.
use Rattle.std.proofs.Common.{◌≡◌, ℕ, suc, ◌+◌, Bool, true, false, ◌&&◌, cond, Option, Some, None, List, [], ◌∷◌, ◌++◌, length, if◌then◌else◌, refl, sym, ap, ◌∙◌}
use Rattle.std.proofs.Math.Numerals.{add-one}
use Rattle.std.proofs.lemmas.Bool.{and_right}
use Rattle.std.specs.Str.{bytes_eq}
use Rattle.jc_rules.proofs.Truths.{not_both, own_bytes}
use Rattle.jc_rules.specs.declared.rule.Place.{Place}
use Rattle.jc_types.specs.declared.declarations.MethodDecl.{MethodDecl}
use Rattle.jc_types.specs.declared.ids.ClassId.{ClassId}
use Rattle.jc_types.specs.declared.ids.MethodId.{MethodId}
use Rattle.jc_types.specs.declared.table.Table.{Table}
use Rattle.jc_types.specs.Accessors.{method_name_of}
use Rattle.jc_overriding.specs.Overriding.{has_name, owner, same_class}
use Rattle.jc_header_rules.specs.Clashes.{clash_place, clash_place_or, own_replacing, place_of_some}
use Rattle.jc_members.specs.Below.{replaces}
use Rattle.jc_members.specs.Named.{all_named, named_from}
use Rattle.jc_clashes.specs.Clashing.{own_among, shape_place}
use Rattle.jc_clashes.specs.Shapes.{above_in, shape_of}
use Rattle.jc_clashes.proofs.Reaching.{replaces_named}

module _ (T : Table) (k : ClassId) (x : List ℕ) (n : MethodId) (named : method_name_of T n ≡ x) where
  abbrev own : MethodId → Bool
  own m = same_class (owner T m) k

  abbrev at : ℕ → MethodId
  at i = record { 0 = i }

  -- what overrides or hides n has its name
  unnamed : (m : MethodId) → has_name T x m ≡ false → replaces T m n ≡ false
  unnamed m e = by (replaces T m n) refl
    where
      by : (b : Bool) → replaces T m n ≡ b → replaces T m n ≡ false
      by false f = f
      by true f = absurd (not_both (has_name T x m) (ap (λ y. bytes_eq y x) (replaces_named T m n f ∙ named) ∙ own_bytes x) e)

  -- a method of the name before others
  beside : (i : ℕ) (r : Bool) (ms : List MethodId) (o : Option MethodId) → own_among T k ms ≡ o → own_among T k (cond r (at i ∷ []) [] ++ ms) ≡ (if own (at i) && r then Some (at i) else o)
  beside i true ms o e = by (own (at i))
    where
      by : (b : Bool) → (if b then Some (at i) else own_among T k ms) ≡ (if b && true then Some (at i) else o)
      by true = refl
      by false = e
  beside i false ms o e = e ∙ ap (λ b. if b then Some (at i) else o) (sym (and_right (own (at i)) false refl))

  -- any method before others
  before : (i : ℕ) (b : Bool) (ms : List MethodId) (o : Option MethodId) → has_name T x (at i) ≡ b → own_among T k (above_in T n ms) ≡ o
      → own_among T k (above_in T n (cond b (at i ∷ []) [] ++ ms)) ≡ (if own (at i) && replaces T (at i) n then Some (at i) else o)
  before i true ms o f e = beside i (replaces T (at i) n) (above_in T n ms) o e
  before i false ms o f e = e ∙ ap (λ b. if b then Some (at i) else o) (sym (and_right (own (at i)) (replaces T (at i) n) (unnamed (at i) f)))

  own_from : (i : ℕ) (ds : List MethodDecl) → own_among T k (above_in T n (named_from T x i (length ds))) ≡ own_replacing T k n i ds
  own_from i [] = refl
  own_from i (d ∷ ds) =
      before i (has_name T x (at i)) (named_from T x (suc i) (length ds)) (own_replacing T k n (i + 1) ds) refl
      (own_from (suc i) ds ∙ ap (λ j. own_replacing T k n j ds) (sym (add-one i)))

  pub place_told : (place : Place) (m : MethodId) → shape_place T k place m (shape_of T (all_named T x) n) ≡ clash_place T k place m n
  place_told place m = ap (λ o. clash_place_or T k place m n (place_of_some T place o)) (own_from 0 T.methods)
