-- Rounds know more and more, and all that they ever know where a further one tells nothing new.
use Rattle.std.proofs.Common.{◌≡◌, ◌⊎◌, ℕ, zero, suc, ◌+◌, ◌≤◌, List, [], ◌∷◌, length, Option, Some, None, slice_get, set, replicate, refl, sym, ap, subst, ◌∙◌, inl, inr, add-one, arith}
use Rattle.jc_types.specs.declared.constant.Constant.{Constant}
use Rattle.jc_types.specs.declared.declarations.FieldDecl.{FieldDecl}
use Rattle.jc_types.specs.declared.declarations.FieldValue.{FieldValue}
use Rattle.jc_types.specs.declared.declarations.FieldValue.TheVariants as value
use Rattle.jc_types.specs.declared.ids.ClassId.{ClassId}
use Rattle.jc_types.specs.declared.ids.FieldId.{FieldId}
use Rattle.jc_types.specs.declared.table.Table.{Table}
use Rattle.jc_declares.specs.declared.heads.Heads.{Heads}
use Rattle.jc_declares.specs.Looking.{Knowledge}
use Rattle.jc_exprs_parts_spec.specs.Constants.{assigned_constant, constant_named, constants_of, constants_within, field_value, field_values, field_world, from_some, valued}
use Rattle.jc_exprs_parts_spec.specs.Senses.{Sense, OfField, OfClass, OfPackage, OfNothing, next_sense, next_senses, simple_sense}
use Rattle.jc_exprs_parts_spec.specs.Worlds.{constant_field}
use Rattle.jc_exprs_known_fields.specs.Rounds.{Below, Raised, field_in_sense, field_named, known_at}
use Rattle.jc_exprs_known_fields.proofs.Growing.{Gives, from_some_grows, valued_grows}
use Rattle.jc_exprs_known_fields.proofs.Named.{by_field}

-- ---- lists of what is known

pub none_below : (cs : List (Option Constant)) → Below [] cs
none_below cs = λ k c h. absurd (cc h)

same_head : (a b : Option Constant) → Gives a b → Gives b a → a ≡ b
same_head None None f g = refl
same_head None (Some d) f g = g d refl
same_head (Some c) b f g = sym (f c refl)

pub same_known : (cs ds : List (Option Constant)) → length cs ≡ length ds → Below cs ds → Below ds cs → cs ≡ ds
same_known [] [] e f g = refl
same_known [] (d ∷ ds) e f g = absurd (omega arith)
same_known (c ∷ cs) [] e f g = absurd (omega arith)
same_known (c ∷ cs) (d ∷ ds) e f g =
    let head : c ≡ d = same_head c d (λ x h. f zero x h) (λ x h. g zero x h) in
    let tail : cs ≡ ds = same_known cs ds (omega arith) (λ k x h. f (suc k) x h) (λ k x h. g (suc k) x h) in
    cc

pub set_told : (cs : List (Option Constant)) (i : ℕ) (v : Option Constant) (k : ℕ) (c : Constant) → known_at (set cs i v) k ≡ Some c → (known_at cs k ≡ Some c) ⊎ ((k ≡ i) × (v ≡ Some c))
set_told [] i v k c h = absurd (cc h)
set_told (x ∷ cs) zero v zero c h = inr (refl, h)
set_told (x ∷ cs) zero v (suc k) c h = inl h
set_told (x ∷ cs) (suc i) v zero c h = inl h
set_told (x ∷ cs) (suc i) v (suc k) c h = elim (set_told cs i v k c h) [ inl a ↦ inl a | inr b ↦ inr (ap suc b.0, b.1) ]

pub set_past : {A : Type 0} (xs : List A) (i : ℕ) (x : A) → length xs ≤ i → set xs i x ≡ xs
set_past [] i x l = refl
set_past (y ∷ xs) zero x l = absurd (omega arith)
set_past (y ∷ xs) (suc i) x l = ap (λ ys. y ∷ ys) (set_past xs i x (omega arith))

pub blank_below : (n k : ℕ) (c : Constant) → known_at (replicate n None) k ≡ Some c → known_at [] k ≡ Some c
blank_below zero k c h = absurd (cc h)
blank_below (suc n) zero c h = absurd (cc h)
blank_below (suc n) (suc k) c h = blank_below n k c h

-- ---- in one program

module _ (T : Table) (H : Heads) (K : Knowledge) where
  -- names mean the same whatever is known
  same_next : (cs ds : List (Option Constant)) (k : ClassId) (scope : ℕ) (n : List ℕ) (s : Sense) → next_sense (field_world T H K cs k scope) n s ≡ next_sense (field_world T H K ds k scope) n s
  same_next cs ds k scope n (OfField j o fs) = refl
  same_next cs ds k scope n (OfClass j) = refl
  same_next cs ds k scope n (OfPackage p) = refl
  same_next cs ds k scope n OfNothing = refl

  same_senses : (cs ds : List (Option Constant)) (k : ClassId) (scope : ℕ) (ns : List (List ℕ)) (s : Sense) → next_senses (field_world T H K cs k scope) s ns ≡ next_senses (field_world T H K ds k scope) s ns
  same_senses cs ds k scope [] s = refl
  same_senses cs ds k scope (n ∷ ns) s =
      same_senses cs ds k scope ns (next_sense (field_world T H K cs k scope) n s)
      ∙ ap (λ (s : Sense). next_senses (field_world T H K ds k scope) s ns) (same_next cs ds k scope n s)

  same_simple : (cs ds : List (Option Constant)) (k : ClassId) (scope : ℕ) (n : List ℕ) → simple_sense (field_world T H K cs k scope) n ≡ simple_sense (field_world T H K ds k scope) n
  unfolding simple_sense
  same_simple cs ds k scope n = refl

  same_field : (cs ds : List (Option Constant)) (k : ClassId) (scope : ℕ) (ps : List (List ℕ)) → field_named (field_world T H K cs k scope) ps ≡ field_named (field_world T H K ds k scope) ps
  same_field cs ds k scope [] = refl
  same_field cs ds k scope (n ∷ ns) =
      ap field_in_sense (same_senses cs ds k scope ns (simple_sense (field_world T H K cs k scope) n)
      ∙ ap (λ (s : Sense). next_senses (field_world T H K ds k scope) s ns) (same_simple cs ds k scope n))

  field_grows : (cs ds : List (Option Constant)) (k : ClassId) (scope : ℕ) → Below cs ds → (f : Option FieldId) → Gives (from_some f (constant_field (field_world T H K cs k scope))) (from_some f (constant_field (field_world T H K ds k scope)))
  field_grows cs ds k scope b None = λ c h. h
  field_grows cs ds k scope b (Some f) = λ c h. b f.0 c h

  named_grows : (cs ds : List (Option Constant)) (k : ClassId) (scope : ℕ) → Below cs ds → (ps : List (List ℕ)) → Gives (constant_named (field_world T H K cs k scope) ps) (constant_named (field_world T H K ds k scope) ps)
  named_grows cs ds k scope b ps = λ c h.
      by_field (field_world T H K ds k scope) ps
      ∙ ap (λ (f : Option FieldId). from_some f (constant_field (field_world T H K ds k scope))) (sym (same_field cs ds k scope ps))
      ∙ field_grows cs ds k scope b (field_named (field_world T H K cs k scope) ps) c (sym (by_field (field_world T H K cs k scope) ps) ∙ h)

  value_grows : (cs ds : List (Option Constant)) → Below cs ds → (f : FieldDecl) (v : FieldValue) → Gives (field_value T H K cs f v) (field_value T H K ds f v)
  value_grows cs ds b f value.Unknown = λ c h. h
  value_grows cs ds b f (value.Known x) = λ c h. h
  value_grows cs ds b f (value.Initialiser scope e) =
      from_some_grows (valued (constant_named (field_world T H K cs f.class scope.0)) e) (valued (constant_named (field_world T H K ds f.class scope.0)) e) (assigned_constant T f.ty.ty) (assigned_constant T f.ty.ty)
      (valued_grows (constant_named (field_world T H K cs f.class scope.0)) (constant_named (field_world T H K ds f.class scope.0)) (named_grows cs ds f.class scope.0 b) e)
      (λ x y h. h)

  values_grow : (cs ds : List (Option Constant)) → Below cs ds → (fs : List FieldDecl) (k : ℕ) (c : Constant) → known_at (field_values T H K cs fs) k ≡ Some c → known_at (field_values T H K ds fs) k ≡ Some c
  values_grow cs ds b [] k c h = h
  values_grow cs ds b (f ∷ fs) zero c h = value_grows cs ds b f f.value c h
  values_grow cs ds b (f ∷ fs) (suc k) c h = values_grow cs ds b fs k c h

  -- what a field's initialiser gives
  pub value_told : (cs : List (Option Constant)) (fs : List FieldDecl) (k : ℕ) (f : FieldDecl) → Some f ≡ slice_get fs k → known_at (field_values T H K cs fs) k ≡ field_value T H K cs f f.value
  value_told cs [] k f h = absurd (cc h)
  value_told cs (g ∷ fs) zero f h = let same : g ≡ f = cc in ap (λ (x : FieldDecl). field_value T H K cs x x.value) same
  value_told cs (g ∷ fs) (suc k) f h = value_told cs fs k f h

  pub same_raised : (cs : List (Option Constant)) → Raised T H K cs cs
  same_raised cs = λ k c h. inl h

  -- one field's value is put in its place
  pub put_raised : (cs ds : List (Option Constant)) (i : ℕ) (f : FieldDecl) (v : Option Constant) → Some f ≡ slice_get T.fields i → v ≡ field_value T H K cs f f.value → ds ≡ set cs i v → Raised T H K cs ds
  put_raised cs ds i f v e w d = λ k c h. put_at k c (set_told cs i v k c (sym (ap (λ (x : List (Option Constant)). known_at x k) d) ∙ h))
    where
      put_at : (k : ℕ) (c : Constant) → (known_at cs k ≡ Some c) ⊎ ((k ≡ i) × (v ≡ Some c)) → (known_at cs k ≡ Some c) ⊎ (known_at (field_values T H K cs T.fields) k ≡ Some c)
      put_at k c (inl h) = inl h
      put_at k c (inr h) = inr (ap (λ (j : ℕ). known_at (field_values T H K cs T.fields) j) h.0 ∙ value_told cs T.fields i f e ∙ sym w ∙ h.1)

  -- ---- rounds

  pub rounds_grow : (n : ℕ) → Below (constants_within T H K n) (constants_within T H K (suc n))
  unfolding constants_within
  rounds_grow zero = none_below (constants_within T H K (suc zero))
  rounds_grow (suc n) = values_grow (constants_within T H K n) (constants_within T H K (suc n)) (rounds_grow n) T.fields

  pub none_within : (cs : List (Option Constant)) → Below cs [] → Below cs (constants_within T H K zero)
  unfolding constants_within
  none_within cs b = b

  -- what initialisers give of what a round knows is known in the next one
  pub raised_stays : (cs ds : List (Option Constant)) (n : ℕ) → Below cs (constants_within T H K n) → Raised T H K cs ds → Below ds (constants_within T H K (suc n))
  unfolding constants_within
  raised_stays cs ds n b r = λ k c h. elim (r k c h) [ inl a ↦ rounds_grow n k c (b k c a) | inr a ↦ values_grow cs (constants_within T H K n) b T.fields k c a ]

  pub raised_more : (cs ds : List (Option Constant)) (n : ℕ) → Below cs (constants_within T H K n) → Raised T H K cs ds → Below ds (constants_within T H K (n + 1))
  raised_more cs ds n b r = subst (λ (k : ℕ). Below ds (constants_within T H K k)) (sym (add-one n)) (raised_stays cs ds n b r)

  pub no_round : constants_within T H K 0 ≡ []
  unfolding constants_within
  no_round = refl

  pub round_more : (n : ℕ) → field_values T H K (constants_within T H K n) T.fields ≡ constants_within T H K (n + 1)
  unfolding constants_within
  round_more n = ap (λ (k : ℕ). constants_within T H K k) (sym (add-one n))

  pub all_rounds : constants_within T H K (length T.fields) ≡ constants_of T H K
  unfolding constants_of
  all_rounds = refl

  rounds_below : (cs : List (Option Constant)) → cs ≡ field_values T H K cs T.fields → (n : ℕ) → Below (constants_within T H K n) cs
  unfolding constants_within
  rounds_below cs e zero = none_below cs
  rounds_below cs e (suc n) = subst (λ (x : List (Option Constant)). Below (constants_within T H K (suc n)) x) (sym e) (values_grow (constants_within T H K n) cs (rounds_below cs e n) T.fields)

  values_length : (cs : List (Option Constant)) (fs : List FieldDecl) → length (field_values T H K cs fs) ≡ length fs
  values_length cs [] = refl
  values_length cs (f ∷ fs) = let tail : length (field_values T H K cs fs) ≡ length fs = values_length cs fs in omega arith

  within_length : (n : ℕ) → length T.fields ≡ n → length (constants_within T H K n) ≡ length T.fields
  unfolding constants_within
  within_length zero e = sym e
  within_length (suc n) e = values_length (constants_within T H K n) T.fields

  pub settled : (cs : List (Option Constant)) → cs ≡ field_values T H K cs T.fields → length cs ≡ length T.fields → Below cs (constants_of T H K) → cs ≡ constants_of T H K
  unfolding constants_of
  settled cs e l b = same_known cs (constants_within T H K (length T.fields)) (l ∙ sym (within_length (length T.fields) refl)) b (rounds_below cs e (length T.fields))

pub ruleset rounds = (no_round, round_more, all_rounds)
