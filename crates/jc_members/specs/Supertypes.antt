-- The supertypes of a type, by their classes.
use Rattle.std.specs.Prelude.{◌≡◌, ℕ, true, nat_eq, Some, None}
use Rattle.std.specs.HashMap.{get}
use Rattle.jc_types.specs.declared.form.Ty.{Ty}
use Rattle.jc_types.specs.declared.table.Table.{Table}
use Rattle.jc_judge.specs.Supers.{numbered}
use Rattle.jc_judge.specs.Views.{view}
use Rattle.jc_members.specs.declared.supertypes.Supertypes.{Supertypes}

-- what is found is the view as that class, and where all are there nothing else has one
pub record IsSupertypes (T : Table) (s : Supertypes) : Type 0 where
  pub kept : (l : ℕ) (v : Ty) → get nat_eq s.views l ≡ Some v → view T (numbered l) s.of ≡ Some v
  pub whole : s.is_whole ≡ true → (l : ℕ) → get nat_eq s.views l ≡ None → view T (numbered l) s.of ≡ None
