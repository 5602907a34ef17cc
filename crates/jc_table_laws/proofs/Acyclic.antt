-- A path from a class to itself makes it need itself.
use Rattle.std.proofs.Common.{◌≡◌, ◌⊎◌, inl, inr, ℕ, Some, List, [], ◌∷◌, slice_get, refl, sym, subst, ◌∙◌}
use Rattle.jc_rules.specs.declared.rule.Refusal.{Refusal}
use Rattle.jc_types.specs.declared.form.Ty.{Ty}
use Rattle.jc_types.specs.Accessors.{supers_of}
use Rattle.jc_declares.specs.declared.heads.ClassHead.{ClassHead}
use Rattle.jc_declares.specs.Breaks.{BreaksNames}
use Rattle.jc_declares.specs.HeadBreaks.{IsCycle}
use Rattle.jc_declares.specs.Heads.{heads_of, class_head}
use Rattle.jc_declares.specs.Knowing.{Needs, needed, further}
use Rattle.jc_declares.specs.Making.{table_of}
use Rattle.jc_declares.specs.Sites.{Sites, ClassSite}
use Rattle.jc_judge.specs.Supers.{Path, IsIn, IsSuper, HasNoCycle, numbered}
use Rattle.jc_table_laws.proofs.Edges.{declared, edge}

module _ (S : Sites) (object : supers_of (table_of S) (numbered 0) ≡ []) where
  none_above_object : (a b : ℕ) → a ≡ 0 → IsSuper (table_of S) a b → ⊥
  none_above_object a b z e = subst (λ (ts : List Ty). IsIn e.0 ts) object (subst (λ (n : ℕ). IsIn e.0 (supers_of (table_of S) (numbered n))) z e.1)

  from_object : (xs : List ℕ) (a b : ℕ) → a ≡ 0 → Path (IsSuper (table_of S)) xs a b → b ≡ 0
  from_object [] a b z p = sym p ∙ z
  from_object (x ∷ xs) a b z p = absurd (none_above_object a p.1 z p.2)

  along : (xs : List ℕ) (a b c : ℕ) → Needs (heads_of S) a b → Path (IsSuper (table_of S)) xs b c → (c ≡ 0) ⊎ Needs (heads_of S) a c
  along [] a b c n p = inr (subst (Needs (heads_of S) a) p n)
  along (x ∷ xs) a b c n p =
      elim (edge S b p.1 p.2) [
        | inl z ↦ inl (from_object xs p.1 c z p.3)
        | inr h ↦ along xs a p.1 c (further b p.1 n h) p.3
      ]

  back : (x : ℕ) (xs : List ℕ) (a : ℕ) → Path (IsSuper (table_of S)) (x ∷ xs) a a → (a ≡ 0) ⊎ Needs (heads_of S) a a
  back x xs a p =
      elim (edge S a p.1 p.2) [
        | inl z ↦ inl (from_object xs p.1 a z p.3)
        | inr h ↦ along xs a p.1 a (needed p.1 h) p.3
      ]

  pub acyclic : ((broken : Refusal) → BreaksNames S broken → ⊥) → HasNoCycle (table_of S)
  acyclic unbroken x xs a p =
      elim (back x xs a p) [
        | inl z ↦ none_above_object a p.1 z p.2
        | inr n ↦
            (let here : (s : ClassSite) × (slice_get (heads_of S).classes a ≡ Some (class_head s)) = declared S a p.1 p.2 in
            let head : ClassHead = class_head here.0 in
            let broken : Refusal = record { rule = 304; place = record { file = head.file; at = head.at }; have = 0 } in
            let cycle : IsCycle (heads_of S) broken = record { class = a; head = head; declared = here.1; cyclic = n; says = refl } in
            unbroken broken (inr cycle))
      ]
