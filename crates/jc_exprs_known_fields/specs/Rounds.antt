-- What rounds of evaluation know of fields, and which fields constant expressions name.
use Rattle.std.specs.Prelude.{◌≡◌, ◌⊎◌, ℕ, List, [], ◌∷◌, Option, Some, None, slice_get}
use Rattle.jc_types.specs.declared.constant.Constant.{Constant}
use Rattle.jc_types.specs.declared.constant.ConstantPart.{ConstantPart, fold-ConstantPart}
use Rattle.jc_types.specs.declared.ids.FieldId.{FieldId}
use Rattle.jc_types.specs.declared.table.Table.{Table}
use Rattle.jc_declares.specs.declared.heads.Heads.{Heads}
use Rattle.jc_declares.specs.Looking.{Knowledge}
use Rattle.jc_exprs_parts_spec.specs.Constants.{Right, constant_step, field_values, right_step}
use Rattle.jc_exprs_parts_spec.specs.Senses.{Sense, OfField, next_senses, simple_sense}
use Rattle.jc_exprs_parts_spec.specs.Worlds.{World, or_unknown}

-- ---- names

-- the field, where there is no other
abbrev pub only_field : List FieldId → Option FieldId
only_field (f ∷ []) = Some f
only_field _ = None

-- the one field that is meant
abbrev pub field_in_sense : Sense → Option FieldId
field_in_sense (OfField k is_own fs) = only_field fs
field_in_sense _ = None

abbrev pub field_named : World → List (List ℕ) → Option FieldId
field_named W [] = None
field_named W (n ∷ ns) = field_in_sense (next_senses W (simple_sense W n) ns)

-- ---- a further operand of a chain, where the values of names are known

unfoldable pub right_of : (List (List ℕ) → Option Constant) → ConstantPart → Right
right_of names p = fold-ConstantPart (Option Constant) Right (constant_step names) right_step p

-- ---- what is known of fields

abbrev pub known_at : List (Option Constant) → ℕ → Option Constant
known_at cs k = or_unknown (slice_get cs k)

-- what is known by the first is known by the second, and the same
abbrev pub Below : List (Option Constant) → List (Option Constant) → Type 0
Below cs ds = (k : ℕ) (c : Constant) → known_at cs k ≡ Some c → known_at ds k ≡ Some c

-- what is known besides is given by the initialisers
abbrev pub Raised : Table → Heads → Knowledge → List (Option Constant) → List (Option Constant) → Type 0
Raised T H K cs ds = (k : ℕ) (c : Constant) → known_at ds k ≡ Some c → (known_at cs k ≡ Some c) ⊎ (known_at (field_values T H K cs T.fields) k ≡ Some c)
