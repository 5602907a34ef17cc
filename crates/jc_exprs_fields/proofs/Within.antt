-- The fields of a name that a class has, in so many steps upwards.
use Rattle.std.proofs.Common.{◌≡◌, ◌↔◌, IsTrue, ℕ, suc, Bool, true, false, refl, sym, ap, ◌∙◌, List, [], ◌∷◌}
use Rattle.jc_types.specs.declared.ids.ClassId.{ClassId}
use Rattle.jc_types.specs.declared.ids.FieldId.{FieldId}
use Rattle.jc_types.specs.declared.table.Table.{Table}
use Rattle.jc_types.specs.Accessors.{fields_of, supers_of}
use Rattle.jc_exprs_parts_spec.specs.Fields.{fields_above, fields_within, named_fields, of_supers, own_or}

pub none_within : (T : Table) (n : List ℕ) (s : ℕ) (k : ClassId) → s ≡ 0 → fields_within T n s k ≡ []
unfolding fields_within
none_within T n s k h = rw h refl

more_within : (T : Table) (n : List ℕ) (d : ℕ) (k : ClassId) →
    fields_within T n (suc d) k ≡ own_or (named_fields T n (fields_of T k)) (of_supers T (fields_above (fields_within T n d)) k (supers_of T k) [])
unfolding fields_within
more_within T n d k = refl

pub some_within : (T : Table) (n : List ℕ) (s d : ℕ) (k : ClassId) → s ≡ suc d →
    fields_within T n s k ≡ own_or (named_fields T n (fields_of T k)) (of_supers T (fields_above (fields_within T n d)) k (supers_of T k) [])
some_within T n s d k h = rw h (more_within T n d k)

-- its own fields hide others
pub own_within : (T : Table) (n : List ℕ) (s d : ℕ) (k : ClassId) (xs : List FieldId) → s ≡ suc d → xs ≡ named_fields T n (fields_of T k) → (xs ≡ [] → ⊥) → xs ≡ fields_within T n s k
own_within T n s d k [] h e o = absurd (o refl)
own_within T n s d k (x ∷ xs) h e o = sym (some_within T n s d k h ∙ ap (λ ys. own_or ys (of_supers T (fields_above (fields_within T n d)) k (supers_of T k) [])) (sym e))

pub others_within : (T : Table) (n : List ℕ) (s d : ℕ) (k : ClassId) → s ≡ suc d → [] ≡ named_fields T n (fields_of T k) →
    of_supers T (fields_above (fields_within T n d)) k (supers_of T k) [] ≡ fields_within T n s k
others_within T n s d k h e = sym (some_within T n s d k h ∙ ap (λ ys. own_or ys (of_supers T (fields_above (fields_within T n d)) k (supers_of T k) [])) (sym e))

pub ruleset within_laws = (none_within)

pub some_told : (b : Bool) (xs : List FieldId) → IsTrue b ↔ (xs ≡ []) → b ≡ false → xs ≡ [] → ⊥
some_told true xs i h e = absurd (cc h)
some_told false xs i h e = absurd (cc (i.1 e))

pub empty_told : (b : Bool) (xs : List FieldId) → IsTrue b ↔ (xs ≡ []) → b ≡ true → xs ≡ []
empty_told true xs i h = i.0 refl
empty_told false xs i h = absurd (cc h)
