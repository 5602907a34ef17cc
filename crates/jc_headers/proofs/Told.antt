-- What a least break tells of a stage.
use Rattle.std.proofs.Common.{◌≡◌, inl, inr, Option, Some, None, List, [], ◌∷◌, refl, sym, subst}
use Rattle.jc_rules.specs.declared.rule.Refusal.{Refusal}
use Rattle.jc_types.specs.declared.table.Table.{Table}
use Rattle.jc_types.specs.Breaks.{IsOf, LeastOf, least}
use Rattle.jc_types.proofs.Least.{least_of}
use Rattle.jc_header_rules.specs.Clashes.{headers_breaks}
use Rattle.jc_header_rules.specs.Types.{types_breaks}
use Rattle.jc_headers.specs.Stages.{IsFirst}

least_told : (bs : List Refusal) (r : Option Refusal) → r ≡ least None bs → LeastOf (λ b. IsOf b bs) r
least_told bs r e = subst (LeastOf (λ b. IsOf b bs)) (sym e) (least_of bs)

none_of : (bs : List Refusal) → None ≡ least None bs → bs ≡ []
none_of bs e = by bs (least_told bs None e)
  where
    by : (cs : List Refusal) → ((c : Refusal) → IsOf c cs → ⊥) → cs ≡ []
    by [] h = refl
    by (c ∷ cs) h = absurd (h c (inl refl))

pub types_first : (T : Table) (r : Refusal) → Some r ≡ least None (types_breaks T) → IsFirst T (Some r)
types_first T r e = inl (least_told (types_breaks T) (Some r) e)

pub headers_next : (T : Table) (r : Option Refusal) → None ≡ least None (types_breaks T) → r ≡ least None (headers_breaks T) → IsFirst T r
headers_next T None e f = record { types = none_of (types_breaks T) e; headers = none_of (headers_breaks T) f }
headers_next T (Some r) e f = inr (none_of (types_breaks T) e, least_told (headers_breaks T) (Some r) f)

pub ruleset first_told = (types_first, headers_next)
