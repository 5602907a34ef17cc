-- The attribute Code (JVMS 4.7.3).
use Rattle.std.specs.Prelude.{ℕ, zero, suc, ◌+◌, ◌-◌, Bool, true, false, not, ◌||◌, ◌&&◌, ◌==◌, List, [], ◌∷◌, ◌++◌, length, codes, replicate, Result, Ok, Err, nat_lt, nat_le, if◌then◌else◌}
use Rattle.std.specs.Int.{w16, w32}
use Rattle.std.specs.Str.{bytes_eq}
use Rattle.jc_class_out.specs.declared.format.Slot.{Slot}
use Rattle.jc_class_out.specs.declared.format.Flaw.{Flaw}
use Rattle.jc_class_out.specs.declared.format.Flaw.TheVariants.{Tag}
use Rattle.jc_class_out.specs.declared.model.CodeModel.{CodeModel}
use Rattle.jc_class_out.specs.declared.model.Frame.{Frame}
use Rattle.jc_class_out.specs.declared.model.Handler.{Handler}
use Rattle.jc_class_out.specs.declared.model.Ins.{Ins}
use Rattle.jc_class_out.specs.declared.model.Item.{Item}
use Rattle.jc_class_out.specs.declared.model.SwitchCase.{SwitchCase}
use Rattle.jc_class_out.specs.declared.model.Operand.{Operand}
use Rattle.jc_class_out.specs.declared.model.Operand.TheVariants as op
use Rattle.jc_class_out.specs.Reading.{◌>>=◌, wants, number_at, listed}
use Rattle.jc_class_out.specs.Pool.{named_at, class_or_none_at}
use Rattle.jc_class_out.specs.Instructions.{padding, ins_at, ins_size}
use Rattle.jc_class_out.specs.Frames.{begins, table_at}

-- ---- attributes (JVMS 4.7)

-- the name, which has to be the wanted one, and the length
unfoldable pub attribute_at : List Slot → List ℕ → List ℕ → Result (ℕ × List ℕ) Flaw
attribute_at pool word bytes = do
  name ← named_at pool bytes
  if bytes_eq name.0 word then number_at w32 name.1 else Err (Tag (length bytes))

-- The length is tested where the content ends. It stands in the four bytes before the content.
abbrev pub attribute_ends : ℕ → ℕ → ℕ → Result ℕ Flaw
attribute_ends length-told start end = wants (start - end == length-told) (start + 4)

-- No attribute more: a further one stands at a wrong place, whatever its name.
unfoldable pub no_more_at : List Slot → ℕ → List ℕ → Result (ℕ × List ℕ) Flaw
no_more_at pool n bytes = if n == 0 then Ok (0, bytes) else (named_at pool bytes >>= λ name. Err (Tag (length bytes)))

-- ---- instructions

-- Instructions, until their bytes reach the length. The last number is how many there are at most.
unfoldable pub code_on : List Slot → ℕ → ℕ → ℕ → List ℕ → Result (List Ins × List ℕ) Flaw
code_on pool start len zero bytes = Ok ([], bytes)
code_on pool start len (suc n) bytes =
    if nat_le len (start - length bytes) then Ok ([], bytes) else
    (ins_at pool (start - length bytes) bytes >>= λ i. code_on pool start len n i.1 >>= λ more. Ok (i.0 ∷ more.0, more.1))

-- of each byte of the code, whether an instruction begins there
unfoldable pub marks_from : ℕ → List Ins → List Bool
marks_from at [] = []
marks_from at (i ∷ is) = true ∷ (replicate (ins_size at i - 1) false ++ marks_from (at + ins_size at i) is)

-- of the whole code, from place 0
abbrev pub marks_of : List Ins → List Bool
marks_of ins = marks_from 0 ins

-- how many bytes the instructions take from a place on
unfoldable pub size_from : ℕ → List Ins → ℕ
size_from at [] = 0
size_from at (i ∷ is) = ins_size at i + size_from (at + ins_size at i) is

-- `left` is counted from the first key on; each offset stands four bytes behind its key
unfoldable pub cases_land : List Bool → ℕ → List SwitchCase → Result ℕ Flaw
cases_land marks left [] = Ok 0
cases_land marks left (c ∷ cs) = wants (begins marks c.at) (left - 4) >>= λ _. cases_land marks (left - 8) cs

-- an offset of a jump stands behind the opcode; those of a switch stand behind the padding, and behind each key
abbrev pub lands : List Bool → ℕ → ℕ → Operand → Result ℕ Flaw
lands marks left at (op.Jump to) = wants (begins marks to) (left - 1)
lands marks left at (op.Switch otherwise cases) = wants (begins marks otherwise) (left - 1 - padding at) >>= λ _. cases_land marks (left - 9 - padding at) cases
lands marks left at _ = Ok 0

-- `left` is counted from the first of the instructions on, and `at` is its place
unfoldable pub all_land : List Bool → ℕ → ℕ → List Ins → Result ℕ Flaw
all_land marks left at [] = Ok 0
all_land marks left at (i ∷ is) = lands marks left at i.operand >>= λ _. all_land marks (left - ins_size at i) (at + ins_size at i) is

-- code_length is from 1 to 65535 and is met; it is tested where the code ends, and then the jumps
unfoldable pub body_at : List Slot → List ℕ → Result (List Ins × List ℕ) Flaw
body_at pool bytes = do
  n ← number_at w32 bytes
  is ← code_on pool (length n.1) n.0 n.0 n.1
  _ ← wants (not (n.0 == 0) && nat_le n.0 65535 && (length n.1 - length is.1 == n.0)) (length bytes)
  _ ← all_land (marks_of is.0) (length n.1) 0 is.0
  Ok is

-- ---- exception table

-- the code ends behind its last byte
abbrev pub ends : List Bool → ℕ → Bool
ends marks to = begins marks to || (to == length marks)

-- an entry of the exception table (JVMS 4.7.3): the covered part isn't empty, and class 0 catches all
unfoldable pub handler_at : List Slot → List Bool → List ℕ → Result (Handler × List ℕ) Flaw
handler_at pool marks bytes = do
  from ← number_at w16 bytes
  _ ← wants (begins marks from.0) (length bytes)
  to ← number_at w16 from.1
  _ ← wants (ends marks to.0 && nat_lt from.0 to.0) (length from.1)
  at ← number_at w16 to.1
  _ ← wants (begins marks at.0) (length to.1)
  class ← class_or_none_at pool at.1
  Ok (record { from = from.0; to = to.0; at = at.0; class = class.0 }, class.1)

-- ---- the attribute

-- none, or the attribute StackMapTable alone
unfoldable pub frames_of_at : List Slot → List Bool → List Item → List ℕ → Result (List Frame × List ℕ) Flaw
frames_of_at pool marks entry bytes = do
  n ← attribute_at pool (codes "StackMapTable") bytes
  frames ← table_at pool marks entry n.1
  _ ← attribute_ends n.0 (length n.1) (length frames.1)
  Ok frames

-- the attributes in Code: no other name is read
unfoldable pub code_attributes_at : List Slot → List Bool → List Item → List ℕ → Result (List Frame × List ℕ) Flaw
code_attributes_at pool marks entry bytes = do
  n ← number_at w16 bytes
  if n.0 == 0 then Ok ([], n.1) else
      (frames_of_at pool marks entry n.1 >>= λ frames. no_more_at pool (n.0 - 1) frames.1 >>= λ more. Ok (frames.0, more.1))

-- `entry` is the locals at the method's entry
unfoldable pub code_at : List Slot → List Item → List ℕ → Result (CodeModel × List ℕ) Flaw
code_at pool entry bytes = do
  stack ← number_at w16 bytes
  locals ← number_at w16 stack.1
  is ← body_at pool locals.1
  handlers ← listed (handler_at pool (marks_of is.0)) is.1
  frames ← code_attributes_at pool (marks_of is.0) entry handlers.1
  Ok (record { stack = stack.0; locals = locals.0; ins = is.0; handlers = handlers.0; frames = frames.0 }, frames.1)
