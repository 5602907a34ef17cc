-- The more names have a value, the more expressions have one, and the same.
use Rattle.std.proofs.Common.{◌≡◌, ℕ, List, [], ◌∷◌, map, Option, Some, None, refl, sym, ap, subst, ◌∙◌}
use Rattle.jc_types.specs.declared.constant.Constant.{Constant}
use Rattle.jc_types.specs.declared.constant.ConstantExpr.{ConstantExpr, ConstantExpr-F, fold-roll-ConstantExpr, ind-ConstantExpr, map-ConstantExpr, roll-ConstantExpr}
use Rattle.jc_types.specs.declared.constant.ConstantPart.{ConstantPart, ConstantPart-F, fold-roll-ConstantPart, map-ConstantPart, roll-ConstantPart}
use Rattle.jc_types.specs.declared.constant.Op.{Op}
use Rattle.jc_folding.specs.Folding.{fold}
use Rattle.jc_exprs_parts_spec.specs.Constants.{Right, cast_of, chained, conditional_constant, constant_step, from_some, prefixed_constant, prefixes, right_step, valued}
use Rattle.jc_exprs_known_fields.specs.Rounds.{right_of}

-- what the first gives the second gives
abbrev pub Gives : {X : Type 0} → Option X → Option X → Type 0
Gives {X} a b = (x : X) → a ≡ Some x → b ≡ Some x

pub from_some_grows : {X Y : Type 0} (a b : Option X) (f g : X → Option Y) → Gives a b → ((x : X) → Gives (f x) (g x)) → Gives (from_some a f) (from_some b g)
from_some_grows None b f g k l y h = absurd (cc h)
from_some_grows (Some x) b f g k l y h = ap (λ o. from_some o g) (k x refl) ∙ l x y h

prefixes_grow : (os : List Op) (a b : Option Constant) → Gives a b → Gives (prefixes os a) (prefixes os b)
prefixes_grow [] a b k = k
prefixes_grow (o ∷ os) a b k = from_some_grows (prefixes os a) (prefixes os b) (prefixed_constant o) (prefixed_constant o) (prefixes_grow os a b k) (λ x y h. h)

module _ (n m : List (List ℕ) → Option Constant) (k : (ps : List (List ℕ)) → Gives (n ps) (m ps)) where
  abbrev Grows : ConstantExpr → Type 0
  Grows e = Gives (valued n e) (valued m e)

  abbrev GrowsPart : ConstantPart → Type 0
  GrowsPart p = ((right_of n p).op ≡ (right_of m p).op) × Gives (right_of n p).operand (right_of m p).operand

  abbrev SomeExpr : Type 0
  SomeExpr = (e : ConstantExpr) × Grows e

  abbrev SomePart : Type 0
  SomePart = (p : ConstantPart) × GrowsPart p

  abbrev plain : ConstantExpr-F SomeExpr SomePart → ConstantExpr-F ConstantExpr ConstantPart
  plain y = map-ConstantExpr SomeExpr SomePart ConstantExpr ConstantPart (λ z. z.0) (λ z. z.0) y

  abbrev plain_part : ConstantPart-F SomeExpr SomePart → ConstantPart-F ConstantExpr ConstantPart
  plain_part y = map-ConstantPart SomeExpr SomePart ConstantExpr ConstantPart (λ z. z.0) (λ z. z.0) y

  abbrev stepped : (List (List ℕ) → Option Constant) → ConstantExpr-F ConstantExpr ConstantPart → Option Constant
  stepped names l = constant_step names (map-ConstantExpr ConstantExpr ConstantPart (Option Constant) Right (valued names) (right_of names) l)

  joined_grows : (r s : Right) (a b : Option Constant) → r.op ≡ s.op → Gives r.operand s.operand → Gives a b →
      Gives (from_some a (λ x. from_some r.operand (λ y. fold r.op x y))) (from_some b (λ x. from_some s.operand (λ y. fold s.op x y)))
  joined_grows r s a b e j i =
      from_some_grows a b (λ x. from_some r.operand (λ y. fold r.op x y)) (λ x. from_some s.operand (λ y. fold s.op x y)) i
      (λ x. from_some_grows r.operand s.operand (λ y. fold r.op x y) (λ y. fold s.op x y) j (λ y z h. ap (λ (o : Op). fold o x y) (sym e) ∙ h))

  chained_grows : (zs : List SomePart) (a b : Option Constant) → Gives a b → Gives (chained a (map (right_of n) (map (λ z. z.0) zs))) (chained b (map (right_of m) (map (λ z. z.0) zs)))
  chained_grows [] a b i = i
  chained_grows (z ∷ zs) a b i = chained_grows zs _ _ (joined_grows (right_of n z.0) (right_of m z.0) a b z.1.0 z.1.1 i)

  layer_grows : (y : ConstantExpr-F SomeExpr SomePart) → Gives (stepped n (plain y)) (stepped m (plain y))
  layer_grows (ConstantExpr-F.Literal c) = λ x h. h
  layer_grows (ConstantExpr-F.Name place parts) = k parts
  layer_grows (ConstantExpr-F.Cast t z) = from_some_grows (valued n z.0) (valued m z.0) (cast_of t) (cast_of t) z.1 (λ x y h. h)
  layer_grows (ConstantExpr-F.Prefix ops z) = prefixes_grow ops (valued n z.0) (valued m z.0) z.1
  layer_grows (ConstantExpr-F.Chain z zs) = chained_grows zs (valued n z.0) (valued m z.0) z.1
  layer_grows (ConstantExpr-F.Conditional t a b) =
      from_some_grows (valued n t.0) (valued m t.0) (λ t. from_some (valued n a.0) (λ x. from_some (valued n b.0) (conditional_constant t x))) (λ t. from_some (valued m a.0) (λ x. from_some (valued m b.0) (conditional_constant t x))) t.1
      (λ t. from_some_grows (valued n a.0) (valued m a.0) (λ x. from_some (valued n b.0) (conditional_constant t x)) (λ x. from_some (valued m b.0) (conditional_constant t x)) a.1
      (λ x. from_some_grows (valued n b.0) (valued m b.0) (conditional_constant t x) (conditional_constant t x) b.1 (λ y z h. h)))

  rolled : (names : List (List ℕ) → Option Constant) (l : ConstantExpr-F ConstantExpr ConstantPart) → valued names (roll-ConstantExpr l) ≡ stepped names l
  unfolding valued right_of
  rolled names l = fold-roll-ConstantExpr (Option Constant) Right (constant_step names) right_step l

  part_rolled : (names : List (List ℕ) → Option Constant) (l : ConstantPart-F ConstantExpr ConstantPart) → right_of names (roll-ConstantPart l) ≡ record { op = l.op; operand = valued names l.operand }
  unfolding valued right_of
  part_rolled names l = fold-roll-ConstantPart (Option Constant) Right (constant_step names) right_step l

  rolled_grows : (y : ConstantExpr-F SomeExpr SomePart) → Grows (roll-ConstantExpr (plain y))
  rolled_grows y = λ c h. rolled m (plain y) ∙ layer_grows y c (sym (rolled n (plain y)) ∙ h)

  part_grows : (y : ConstantPart-F SomeExpr SomePart) → GrowsPart (roll-ConstantPart (plain_part y))
  part_grows y = (
    ap (λ (r : Right). r.op) (part_rolled n (plain_part y)) ∙ sym (ap (λ (r : Right). r.op) (part_rolled m (plain_part y))),
    λ c h. ap (λ (r : Right). r.operand) (part_rolled m (plain_part y)) ∙ y.operand.1 c (sym (ap (λ (r : Right). r.operand) (part_rolled n (plain_part y))) ∙ h),
  )

  pub valued_grows : (e : ConstantExpr) → Gives (valued n e) (valued m e)
  valued_grows = ind-ConstantExpr Grows GrowsPart
      (λ x y is. subst (λ (x : ConstantExpr-F ConstantExpr ConstantPart). Grows (roll-ConstantExpr x)) is (rolled_grows y))
      (λ x y is. subst (λ (x : ConstantPart-F ConstantExpr ConstantPart). GrowsPart (roll-ConstantPart x)) is (part_grows y))
