-- How a walk goes through the parts of what is found.
use Rattle.std.proofs.Common.{◌≡◌, refl, ap, ◌∙◌, ℕ, true, false, List, Option, None, Some}
use Rattle.jc_rules.specs.declared.rule.Place.{Place}
use Rattle.jc_types.specs.declared.constant.Constant.{Constant}
use Rattle.jc_types.specs.declared.form.Primitive.TheVariants.{Int}
use Rattle.jc_types.specs.declared.form.Ty.TheVariants.{Prim}
use Rattle.jc_types.specs.declared.table.Table.{Table}
use Rattle.jc_convert.specs.Converting.{invocation}
use Rattle.jc_exprs_nodes_spec.specs.Gates.{gated, stopped}
use Rattle.jc_exprs_nodes_spec.specs.Told.{Run, Standing, fine, onward, ran}
use Rattle.jc_exprs_nodes_spec.specs.Typeds.{Settled, Typed, one_operand, plain, settled, type_of}
use Rattle.jc_exprs_nodes_spec.proofs.Runs.{ran_onward}
use Rattle.jc_exprs_parts_spec.specs.Fields.{member_fields}
use Rattle.jc_exprs_parts_spec.specs.Names.{FieldAt, array_length, constant_at, element_by, indexed, is_length, member_of, one_field, value_member}
use Rattle.jc_exprs_parts_spec.specs.Worlds.{World}

-- ---- constants behind the reads of their fields

pub through : (m : Run Typed) (f : FieldAt) (k : Constant) (s r : Standing) (t : Typed) → (ran m s).state ≡ r → (ran m s).has ≡ Some t →
    ran (onward m (λ u. fine (constant_at f k (one_operand (plain u))))) s ≡ ran (fine (constant_at f k (one_operand (plain t)))) r
through m f k s r t p q = ran_onward (λ u. fine (constant_at f k (one_operand (plain u)))) m s ∙ rw (q, p) refl

pub stopping : {A B : Type 0} (f : A → Run B) (m : Run A) (s r : Standing) → (ran m s).state ≡ r → (ran m s).has ≡ None → ran (onward m f) s ≡ stopped r
stopping f m s r p q = ran_onward f m s ∙ rw (q, p) refl

-- ---- members and elements

pub member_gated : (W : World) (T : Table) (n : List ℕ) (v : Typed) (place : Place) (s r : Standing) (o : Option Settled) → W.table ≡ T → v.start ≡ place →
    (ran (settled T v) s).state ≡ r → (ran (settled T v) s).has ≡ o → ran (value_member W n v) s ≡ gated (member_of W place n) o r
unfolding value_member
member_gated W T n v place s r o t e p q =
    ap (λ (U : Table). ran (onward (settled U v) (member_of W v.start n)) s) t
    ∙ ran_onward (member_of W v.start n) (settled T v) s
    ∙ ap (λ x. gated (member_of W x n) (ran (settled T v) s).has (ran (settled T v) s).state) e
    ∙ rw (q, p) refl

module _ (W : World) (place : Place) (n : List ℕ) (s : Settled) (st : Standing) where
  pub length_found : is_length s.ty n ≡ true → ran (member_of W place n s) st ≡ ran (array_length W st.env place s) st
  unfolding ran
  length_found h = rw h refl

  pub field_found : is_length s.ty n ≡ false → ran (member_of W place n s) st ≡ ran (one_field W st.env place s (member_fields W.table s.ty s.by_bounds n)) st
  unfolding ran
  field_found h = rw h refl

pub index_asked : (T : Table) (a i : Typed) (st : Standing) → ran (indexed T a i) st ≡ ran (element_by T st.env a i (invocation T st.env (type_of i) (Prim Int))) st
unfolding ran
index_asked T a i st = refl
