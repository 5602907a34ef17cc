-- What is said of a chosen member.
use Rattle.std.specs.Prelude.{◌≡◌, ◌⊎◌, true, List, [], ◌∷◌}
use Rattle.jc_types.specs.declared.environment.Bounds.{Bounds}
use Rattle.jc_types.specs.declared.ids.MethodId.{MethodId}
use Rattle.jc_types.specs.declared.table.Table.{Table}
use Rattle.jc_overriding.specs.declared.view.MethodView.{MethodView}
use Rattle.jc_resolve.specs.declared.applied.Applied.TheVariants.{Applies}
use Rattle.jc_resolve.specs.declared.applied.Candidate.{Candidate}
use Rattle.jc_resolve.specs.declared.choice.Chosen.{Chosen}
use Rattle.jc_resolve.specs.declared.site.CallSite.{CallSite}
use Rattle.jc_resolve.specs.Applying.{applicable, candidate}
use Rattle.jc_resolve.specs.Choosing.{equivalent, told}

-- x is one of these
abbrev pub IsAmong : {X : Type 0} → List X → X → Type 0
IsAmong [] x = ⊥
IsAmong (y ∷ ys) x = (x ≡ y) ⊎ IsAmong ys x

-- The member is one of the call's members, and applicable in the phase with these type arguments and these types to which the arguments go; the parameters, the result and the
-- thrown types are those of the member with these type arguments, or erased (JLS 15.12.2.6)
pub record IsApplicable (T : Table) (env : List Bounds) (site : CallSite) (c : Chosen) : Type 0 where
  pub among : IsAmong site.members c.member
  pub applies : applicable T env site c.phase c.member ≡ Applies c.type_args c.formals c.unchecked
  pub parts : c ≡ told T env c.phase (candidate c.member c.type_args c.formals c.unchecked)

-- the signatures are override-equivalent, in either order
abbrev pub AreEquivalent : Table → MethodView → MethodView → Type 0
AreEquivalent T a b = (equivalent T a b ≡ true) ⊎ (equivalent T b a ≡ true)

-- a candidate is the member of this id, or has a signature that is override-equivalent to that member's (JLS 8.4.2)
pub data StandsBeside (T : Table) (cs : List Candidate) (id : MethodId) (c : Candidate) : Type 0 where
  itself : c.member.id ≡ id → StandsBeside T cs id c
  another : (d : Candidate) → IsAmong cs d → d.member.id ≡ id → AreEquivalent T c.member d.member → StandsBeside T cs id c
