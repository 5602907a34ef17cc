-- The class file (JVMS 4.1): which bytes are the file of which class.
use Rattle.std.specs.Prelude.{◌≡◌, ◌<◌, ℕ, ◌-◌, ◌/◌, ◌%◌, Bool, not, ◌||◌, ◌==◌, List, [], length, codes, Option, Some, None, Result, Ok, Err, if◌then◌else◌}
use Rattle.std.specs.Int.{w16, w32}
use Rattle.std.specs.List.{All}
use Rattle.jc_class_out.specs.declared.format.Slot.{Slot}
use Rattle.jc_class_out.specs.declared.format.Flaw.{Flaw}
use Rattle.jc_class_out.specs.declared.format.Flaw.TheVariants.{Magic, Version, Trailing}
use Rattle.jc_class_out.specs.declared.model.ClassModel.{ClassModel}
use Rattle.jc_class_out.specs.declared.model.CodeModel.{CodeModel}
use Rattle.jc_class_out.specs.declared.model.FieldModel.{FieldModel}
use Rattle.jc_class_out.specs.declared.model.InnerModel.{InnerModel}
use Rattle.jc_class_out.specs.declared.model.MethodModel.{MethodModel}
use Rattle.jc_class_out.specs.declared.model.Item.{Item}
use Rattle.jc_class_out.specs.Reading.{◌>>=◌, wants, number_at, listed}
use Rattle.jc_class_out.specs.Descriptors.{is_field_descriptor, is_method_descriptor, entry_locals}
use Rattle.jc_class_out.specs.Pool.{pool_at, named_at, class_named_at, class_or_none_at, name_or_none_at, descriptor_at}
use Rattle.jc_class_out.specs.Code.{attribute_at, attribute_ends, no_more_at, code_at}

-- Java SE 7
abbrev pub major : ℕ
major = 51

-- ---- fields and methods (JVMS 4.5, 4.6)

-- A field has no attributes.
unfoldable pub field_at : List Slot → List ℕ → Result (FieldModel × List ℕ) Flaw
field_at pool bytes = do
  flags ← number_at w16 bytes
  name ← named_at pool flags.1
  descriptor ← descriptor_at is_field_descriptor pool name.1
  n ← number_at w16 descriptor.1
  more ← no_more_at pool n.0 n.1
  Ok (record { flags = flags.0; name = name.0; descriptor = descriptor.0 }, more.1)

-- native or abstract: then there is no Code, and else there is one
abbrev pub is_bodiless : ℕ → Bool
is_bodiless flags = (flags / 0x100 % 2 == 1) || (flags / 0x400 % 2 == 1)

-- the attribute Code, whose length has to be met
unfoldable pub code_attribute_at : List Slot → List Item → List ℕ → Result (CodeModel × List ℕ) Flaw
code_attribute_at pool entry bytes = do
  n ← attribute_at pool (codes "Code") bytes
  code ← code_at pool entry n.1
  _ ← attribute_ends n.0 (length n.1) (length code.1)
  Ok code

-- the Code of a method that has one, and no more
unfoldable pub with_code_at : List Slot → List Item → List ℕ → Result (Option CodeModel × List ℕ) Flaw
with_code_at pool entry bytes = do
  n ← number_at w16 bytes
  _ ← wants (not (n.0 == 0)) (length bytes)
  code ← code_attribute_at pool entry n.1
  more ← no_more_at pool (n.0 - 1) code.1
  Ok (Some code.0, more.1)

-- no attribute at all
unfoldable pub without_code_at : List Slot → List ℕ → Result (Option CodeModel × List ℕ) Flaw
without_code_at pool bytes = do
  n ← number_at w16 bytes
  more ← no_more_at pool n.0 n.1
  Ok (None, more.1)

-- `class` is the name of the class
unfoldable pub method_at : List Slot → List ℕ → List ℕ → Result (MethodModel × List ℕ) Flaw
method_at pool class bytes = do
  flags ← number_at w16 bytes
  name ← named_at pool flags.1
  descriptor ← descriptor_at is_method_descriptor pool name.1
  code ← (if is_bodiless flags.0 then without_code_at pool descriptor.1 else with_code_at pool (entry_locals class flags.0 name.0 descriptor.0) descriptor.1)
  Ok (record { flags = flags.0; name = name.0; descriptor = descriptor.0; code = code.0 }, code.1)

-- ---- InnerClasses (JVMS 4.7.6)

-- a member type: its class, then the class around it and its name, each of which may be 0, and its flags
unfoldable pub inner_at : List Slot → List ℕ → Result (InnerModel × List ℕ) Flaw
inner_at pool bytes = do
  inner ← class_named_at pool bytes
  outer ← class_or_none_at pool inner.1
  name ← name_or_none_at pool outer.1
  flags ← number_at w16 name.1
  Ok (record { inner = inner.0; outer = outer.0; name = name.0; flags = flags.0 }, flags.1)

unfoldable pub inners_at : List Slot → List ℕ → Result (List InnerModel × List ℕ) Flaw
inners_at pool bytes = do
  n ← attribute_at pool (codes "InnerClasses") bytes
  rows ← listed (inner_at pool) n.1
  _ ← attribute_ends n.0 (length n.1) (length rows.1)
  Ok rows

-- none, or the attribute InnerClasses alone
unfoldable pub class_attributes_at : List Slot → List ℕ → Result (List InnerModel × List ℕ) Flaw
class_attributes_at pool bytes = do
  n ← number_at w16 bytes
  if n.0 == 0 then Ok ([], n.1) else
      (inners_at pool n.1 >>= λ rows. no_more_at pool (n.0 - 1) rows.1 >>= λ more. Ok (rows.0, more.1))

-- ---- the class

-- magic, minor and major version
unfoldable pub head_at : List ℕ → Result (List Slot × List ℕ) Flaw
head_at bytes = do
  magic ← number_at w32 bytes
  if not (magic.0 == 0xCAFEBABE) then Err Magic else
      (number_at w16 magic.1 >>= λ minor. if not (minor.0 == 0) then Err Version else
      (number_at w16 minor.1 >>= λ version. if not (version.0 == major) then Err Version else pool_at version.1))

-- what stands behind the pool (JVMS 4.1)
unfoldable pub members_at : List Slot → List ℕ → Result (ClassModel × List ℕ) Flaw
members_at pool bytes = do
  flags ← number_at w16 bytes
  name ← class_named_at pool flags.1
  super ← class_or_none_at pool name.1
  interfaces ← listed (class_named_at pool) super.1
  fields ← listed (field_at pool) interfaces.1
  methods ← listed (method_at pool name.0) fields.1
  inner ← class_attributes_at pool methods.1
  Ok (record { flags = flags.0; name = name.0; superclass = super.0; interfaces = interfaces.0; fields = fields.0; methods = methods.0; inner = inner.0 }, inner.1)

-- the class of which the bytes are the file, or the first flaw
unfoldable pub read : List ℕ → Result ClassModel Flaw
read bytes = do
  pool ← head_at bytes
  class ← members_at pool.0 pool.1
  if length class.1 == 0 then Ok class.0 else Err (Trailing (length class.1))

-- The bytes are the file of the class. A list of bytes is the file of at most one class, since it is read in one way.
pub record IsClassFile (bytes : List ℕ) (class : ClassModel) : Type 0 where
  pub in_range : All (λ b. b < 256) bytes
  pub reads : read bytes ≡ Ok class

-- some bytes are the file of the class
abbrev pub HasClassFile : ClassModel → Type 0
HasClassFile class = (bytes : List ℕ) × IsClassFile bytes class
