-- The chain of scopes in a table is that of the declarations.
use Rattle.std.proofs.Common.{◌≡◌, ◌+◌, ℕ, zero, suc, Some, List, [], ◌∷◌, slice_get, arith, refl, sym, ap, subst, ◌∙◌}
use Rattle.jc_types.specs.declared.declarations.ClassDecl.{ClassDecl}
use Rattle.jc_declares.specs.declared.heads.Heads.{Heads}
use Rattle.jc_declares.specs.declared.heads.ScopeHead.{ScopeHead}
use Rattle.jc_declares.specs.declared.unit.SourceUnit.{SourceUnit}
use Rattle.jc_declares.specs.Heads.{heads_of, unit_in, unit_package}
use Rattle.jc_declares.specs.Knowing.{known}
use Rattle.jc_declares.specs.Looking.{Knowledge}
use Rattle.jc_declares.specs.Making.{class_decl, scope_decl, numbered, table_of}
use Rattle.jc_declares.specs.Sites.{Sites, ClassSite, sites_of}
use Rattle.jc_table_laws.specs.Chains.{EndsAtUnit, here, outwards}
use Rattle.jc_table_laws.proofs.Leading.{Leads, at_unit, further, AllLead, all_lead}
use Rattle.jc_table_laws.proofs.Edges.{head_at}

pub made_at : {X Y : Type 0} (f : ℕ → X → Y) (i : ℕ) (xs : List X) (a : ℕ) (x : X) → slice_get xs a ≡ Some x → slice_get (numbered f i xs) a ≡ Some (f (i + a) x)
made_at f i [] zero x e = cc
made_at f i [] (suc a) x e = cc
made_at f i (y ∷ xs) zero x e = let g : y ≡ x = cc in ap (λ z. Some (f i z)) g ∙ ap (λ n. Some (f n x)) (let z : i ≡ i + 0 = omega arith in z)
made_at f i (y ∷ xs) (suc a) x e = made_at f (suc i) xs a x e ∙ ap (λ n. Some (f n x)) (let z : suc i + a ≡ i + suc a = omega arith in z)

pub from_at : {X Y : Type 0} (f : ℕ → X → Y) (i : ℕ) (xs : List X) (a : ℕ) (y : Y) → slice_get (numbered f i xs) a ≡ Some y → (x : X) × (slice_get xs a ≡ Some x) × (f (i + a) x ≡ y)
from_at f i [] zero y e = absurd (let n : ⊥ = cc in n)
from_at f i [] (suc a) y e = absurd (let n : ⊥ = cc in n)
from_at f i (x ∷ xs) zero y e = (x, refl, ap (λ n. f n x) (let z : i + 0 ≡ i = omega arith in z) ∙ (let g : f i x ≡ y = cc in g))
from_at f i (x ∷ xs) (suc a) y e =
    let rest = from_at f (suc i) xs a y e in
    (rest.0, rest.1, ap (λ n. f n rest.0) (let z : i + suc a ≡ suc i + a = omega arith in z) ∙ rest.2)

from_zero : (n : ℕ) → 0 + n ≡ n
from_zero n = omega arith

module _ (H : Heads) (K : Knowledge) where
  ends : (u s : ℕ) → Leads H.scopes u s → EndsAtUnit (numbered (scope_decl H K) 0 H.scopes) (unit_package H u) s
  ends u _ (at_unit s e) = here s _ _ (made_at (scope_decl H K) 0 H.scopes s _ e)
  ends u _ (further s o form e l) = outwards s (record { 0 = o }) _ (made_at (scope_decl H K) 0 H.scopes s _ e) (ends u o l)

leads_at : (scopes : List ScopeHead) (cs : List ClassSite) (a : ℕ) (c : ClassSite) → AllLead scopes cs → slice_get cs a ≡ Some c → Leads scopes c.unit c.scope
leads_at scopes [] zero c all e = cc
leads_at scopes [] (suc a) c all e = cc
leads_at scopes (x ∷ cs) zero c all e = subst (λ (y : ClassSite). Leads scopes y.unit y.scope) (let g : x ≡ c = cc in g) all.0
leads_at scopes (x ∷ cs) (suc a) c all e = leads_at scopes cs a c all.1 e

pub chains_end : (units : List SourceUnit) (c : ℕ) (class : ClassDecl) → slice_get (table_of (sites_of units)).classes c ≡ Some class
    → EndsAtUnit (table_of (sites_of units)).scopes class.«package» class.scope.0
chains_end units c class e =
    let S : Sites = sites_of units in let H : Heads = heads_of S in let K : Knowledge = known H in
    let found = from_at (class_decl H K) 0 S.classes c class e in
    let is : class_decl H K c found.0 ≡ class = ap (λ n. class_decl H K n found.0) (sym (from_zero c)) ∙ found.2 in
    let unit : unit_in (slice_get H.classes c) ≡ found.0.unit = ap unit_in (head_at S.classes c found.0 found.1) in
    let lead : EndsAtUnit (table_of S).scopes (unit_package H found.0.unit) found.0.scope = ends H K found.0.unit found.0.scope (leads_at S.scopes S.classes c found.0 (all_lead units) found.1) in
    let named : EndsAtUnit (table_of S).scopes (unit_package H (unit_in (slice_get H.classes c))) found.0.scope = subst (λ (u : ℕ). EndsAtUnit (table_of S).scopes (unit_package H u) found.0.scope) (sym unit) lead in
    subst (λ (d : ClassDecl). EndsAtUnit (table_of S).scopes d.«package» d.scope.0) is named
