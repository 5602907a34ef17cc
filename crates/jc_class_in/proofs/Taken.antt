-- How many bytes an instruction takes that was read.
use Rattle.std.proofs.Common.{◌≡◌, ◌≤◌, ◌==◌, ℕ, ℤ, pos, zero, suc, ◌+◌, ◌-◌, ◌*◌, ◌^◌, Bool, true, false, List, [], ◌∷◌, length, Option, Some, None, Result, Ok, Err, refl, ap, subst, ◌∙◌, arith}
use Rattle.std.specs.Prelude.{nat_lt, nat_le, not, if◌then◌else◌}
use Rattle.std.specs.Int.{Width, w8, w16, w32, byte_len, cast_signed}
use Rattle.std.proofs.lemmas.Bool.{ltb-false}
use Rattle.std.proofs.lemmas.List.{length-drop}
use Rattle.jc_class_out.specs.declared.format.Flaw.{Flaw}
use Rattle.jc_class_out.specs.declared.format.Flaw.TheVariants.{Tag, Index}
use Rattle.jc_class_out.specs.declared.format.Kind.{Kind}
use Rattle.jc_class_out.specs.declared.format.Kind.TheVariants.{Plain, Byte, Short, ArrayOf, Load, LoadWide, LoadLong, Local, Step, Jump, Switch, Field, Method, Interface, Class, Dims, Unknown}
use Rattle.jc_class_out.specs.declared.format.Slot.{Slot}
use Rattle.jc_class_out.specs.declared.model.Ins.{Ins}
use Rattle.jc_class_out.specs.declared.model.Operand.{Operand}
use Rattle.jc_class_out.specs.declared.model.Operand.TheVariants as op
use Rattle.jc_class_out.specs.declared.model.SwitchCase.{SwitchCase}
use Rattle.jc_class_out.specs.Reading.{◌>>=◌, or_flaw, wants, u8_at, number_at}
use Rattle.jc_class_out.specs.Pool.{known_of, class_of, class_named_at}
use Rattle.jc_class_out.specs.Instructions.{kind_of, is_array_code, target, wide_target, loaded_by, loaded_long_by, field_by, method_by, interface_by, load_op, load_wide_op, load_long_op, field_op, method_op, interface_op, class_op, dims_op, byte_op, short_op, array_op, local_op, step_op, jump_op, padding, zeros_at, is_above, case_at, cases_at, switch_op, operand_at, wide_operand_at, wide_at, narrow_at, ins_at, operand_size, wide_size, ins_size}
use Rattle.jc_class_out.specs.Code.{code_on, size_from}

-- what holds of all that a reading can give
pub record Good {A : Type 0} (P : A → Type 0) (r : Result A Flaw) : Type 0 where
  pub holds : (x : A) → r ≡ Ok x → P x

good_ok : {A : Type 0} (P : A → Type 0) (x : A) → P x → Good P (Ok x)
good_ok P x p = record { holds = λ y e. let same : x ≡ y = cc in subst P same p }

good_err : {A : Type 0} (P : A → Type 0) (e : Flaw) → Good P (Err e)
good_err P e = record { holds = λ y h. absurd cc }

good_bind : {A B : Type 0} (Q : A → Type 0) (P : B → Type 0) (r : Result A Flaw) (f : A → Result B Flaw) → Good Q r → ((a : A) → Q a → Good P (f a)) → Good P (r >>= f)
good_bind Q P (Ok a) f h g = g a (h.holds a refl)
good_bind Q P (Err e) f h g = good_err P e

good_after : {A B : Type 0} (P : B → Type 0) (r : Result A Flaw) (f : A → Result B Flaw) → ((a : A) → Good P (f a)) → Good P (r >>= f)
good_after P (Ok a) f g = g a
good_after P (Err e) f g = good_err P e

good_wants : {A : Type 0} (P : A → Type 0) (b : Bool) (left : ℕ) (r : Result A Flaw) → Good P r → Good P (wants b left >>= λ _. r)
good_wants P true left r h = h
good_wants P false left r h = good_err P (Index left)

good_cond : {A : Type 0} (P : A → Type 0) (b : Bool) (x y : Result A Flaw) → (b ≡ true → Good P x) → (b ≡ false → Good P y) → Good P (if b then x else y)
good_cond P true x y h g = h refl
good_cond P false x y h g = g refl

-- so many bytes less are left
abbrev Takes : {A : Type 0} → List ℕ → (A → ℕ) → A × List ℕ → Type 0
Takes bytes size x = length bytes ≡ size x.0 + length x.1

abbrev Num : List ℕ → ℕ → ℕ × List ℕ → Type 0
Num bytes n x = length bytes ≡ n + length x.1

abbrev Op : List ℕ → ℕ → Operand × List ℕ → Type 0
Op bytes n x = length bytes ≡ n + length x.1

u8_takes : (bytes : List ℕ) → Good (Num bytes 1) (u8_at bytes)
u8_takes [] = good_err _ _
u8_takes (b ∷ rest) = good_ok (Num (b ∷ rest) 1) (b, rest) (omega arith)

number_takes : (w : Width) (bytes : List ℕ) → Good (Num bytes (byte_len w)) (number_at w bytes)
number_takes w bytes =
    good_cond (Num bytes (byte_len w)) (nat_lt (length bytes) (byte_len w)) _ _ (λ e. good_err _ _)
    (λ e. let le = ltb-false (length bytes) (byte_len w) e in good_ok _ _ (omega (arith, length-drop (byte_len w) bytes, le)))

two_takes : (bytes : List ℕ) → Good (Num bytes 2) (number_at w16 bytes)
two_takes bytes = number_takes w16 bytes

four_takes : (bytes : List ℕ) → Good (Num bytes 4) (number_at w32 bytes)
four_takes bytes = number_takes w32 bytes

class_takes : (pool : List Slot) (bytes : List ℕ) → Good (λ (c : List ℕ × List ℕ). length bytes ≡ 2 + length c.1) (class_named_at pool bytes)
unfolding class_named_at
class_takes pool bytes =
    let P = λ (c : List ℕ × List ℕ). length bytes ≡ 2 + length c.1 in
    good_bind (Num bytes 2) P (number_at w16 bytes) (λ i. or_flaw (class_of pool i.0) (Index (length bytes)) >>= λ t. Ok (t, i.1)) (two_takes bytes)
    (λ i h. good_after P (or_flaw (class_of pool i.0) (Index (length bytes))) (λ t. Ok (t, i.1)) (λ t. good_ok P (t, i.1) h))

load_takes : (pool : List Slot) (bytes : List ℕ) → Good (Op bytes 1) (load_op pool bytes)
unfolding load_op
load_takes pool bytes =
    let P = Op bytes 1 in
    good_bind (Num bytes 1) P (u8_at bytes) (λ i. loaded_by (known_of pool i.0) (Index (length bytes)) >>= λ l. Ok (op.Load l, i.1)) (u8_takes bytes)
    (λ i h. good_after P (loaded_by (known_of pool i.0) (Index (length bytes))) (λ l. Ok (op.Load l, i.1)) (λ l. good_ok P (op.Load l, i.1) h))

load_wide_takes : (pool : List Slot) (bytes : List ℕ) → Good (Op bytes 2) (load_wide_op pool bytes)
unfolding load_wide_op
load_wide_takes pool bytes =
    let P = Op bytes 2 in
    good_bind (Num bytes 2) P (number_at w16 bytes) (λ i. loaded_by (known_of pool i.0) (Index (length bytes)) >>= λ l. Ok (op.Load l, i.1)) (two_takes bytes)
    (λ i h. good_after P (loaded_by (known_of pool i.0) (Index (length bytes))) (λ l. Ok (op.Load l, i.1)) (λ l. good_ok P (op.Load l, i.1) h))

load_long_takes : (pool : List Slot) (bytes : List ℕ) → Good (Op bytes 2) (load_long_op pool bytes)
unfolding load_long_op
load_long_takes pool bytes =
    let P = Op bytes 2 in
    good_bind (Num bytes 2) P (number_at w16 bytes) (λ i. loaded_long_by (known_of pool i.0) (Index (length bytes)) >>= λ l. Ok (op.Load l, i.1)) (two_takes bytes)
    (λ i h. good_after P (loaded_long_by (known_of pool i.0) (Index (length bytes))) (λ l. Ok (op.Load l, i.1)) (λ l. good_ok P (op.Load l, i.1) h))

field_takes : (pool : List Slot) (bytes : List ℕ) → Good (Op bytes 2) (field_op pool bytes)
unfolding field_op
field_takes pool bytes =
    let P = Op bytes 2 in
    good_bind (Num bytes 2) P (number_at w16 bytes) (λ i. field_by (known_of pool i.0) (Index (length bytes)) >>= λ o. Ok (o, i.1)) (two_takes bytes)
    (λ i h. good_after P (field_by (known_of pool i.0) (Index (length bytes))) (λ o. Ok (o, i.1)) (λ o. good_ok P (o, i.1) h))

method_takes : (pool : List Slot) (bytes : List ℕ) → Good (Op bytes 2) (method_op pool bytes)
unfolding method_op
method_takes pool bytes =
    let P = Op bytes 2 in
    good_bind (Num bytes 2) P (number_at w16 bytes) (λ i. method_by (known_of pool i.0) (Index (length bytes)) >>= λ o. Ok (o, i.1)) (two_takes bytes)
    (λ i h. good_after P (method_by (known_of pool i.0) (Index (length bytes))) (λ o. Ok (o, i.1)) (λ o. good_ok P (o, i.1) h))

-- behind the number of the entry
interface_tail : List ℕ → Operand × ℕ → Result (Operand × List ℕ) Flaw
interface_tail bytes o = u8_at bytes >>= λ count. wants (count.0 == o.1 + 1) (length bytes) >>= λ _. u8_at count.1 >>= λ zeros. wants (zeros.0 == 0) (length count.1) >>= λ _. Ok (o.0, zeros.1)

tail_takes : (bytes : List ℕ) (o : Operand × ℕ) → Good (Op bytes 2) (interface_tail bytes o)
unfolding interface_tail
tail_takes bytes o =
    let P = Op bytes 2 in
    good_bind (Num bytes 1) P (u8_at bytes) (λ count. wants (count.0 == o.1 + 1) (length bytes) >>= λ _. u8_at count.1 >>= λ zeros. wants (zeros.0 == 0) (length count.1) >>= λ _. Ok (o.0, zeros.1)) (u8_takes bytes)
    (λ count h. good_wants P (count.0 == o.1 + 1) (length bytes) (u8_at count.1 >>= λ zeros. wants (zeros.0 == 0) (length count.1) >>= λ _. Ok (o.0, zeros.1))
    (good_bind (Num count.1 1) P (u8_at count.1) (λ zeros. wants (zeros.0 == 0) (length count.1) >>= λ _. Ok (o.0, zeros.1)) (u8_takes count.1)
    (λ zeros g. good_wants P (zeros.0 == 0) (length count.1) (Ok (o.0, zeros.1)) (good_ok P (o.0, zeros.1) (omega (arith, h, g))))))

interface_takes : (pool : List Slot) (bytes : List ℕ) → Good (Op bytes 4) (interface_op pool bytes)
unfolding interface_op interface_tail
interface_takes pool bytes =
    let P = Op bytes 4 in
    good_bind (Num bytes 2) P (number_at w16 bytes) (λ i. interface_by (known_of pool i.0) (Index (length bytes)) >>= λ o. interface_tail i.1 o) (two_takes bytes)
    (λ i h. good_after P (interface_by (known_of pool i.0) (Index (length bytes))) (λ o. interface_tail i.1 o)
    (λ o. record { holds = λ x e. let t = (tail_takes i.1 o).holds x e in omega (arith, h, t) }))

class_op_takes : (pool : List Slot) (bytes : List ℕ) → Good (Op bytes 2) (class_op pool bytes)
unfolding class_op
class_op_takes pool bytes =
    let P = Op bytes 2 in
    good_bind (λ (c : List ℕ × List ℕ). length bytes ≡ 2 + length c.1) P (class_named_at pool bytes) (λ c. Ok (op.Class c.0, c.1)) (class_takes pool bytes) (λ c h. good_ok P (op.Class c.0, c.1) h)

dims_takes : (pool : List Slot) (bytes : List ℕ) → Good (Op bytes 3) (dims_op pool bytes)
unfolding dims_op
dims_takes pool bytes =
    let P = Op bytes 3 in
    good_bind (λ (c : List ℕ × List ℕ). length bytes ≡ 2 + length c.1) P (class_named_at pool bytes) (λ c. u8_at c.1 >>= λ n. wants (not (n.0 == 0)) (length c.1) >>= λ _. Ok (op.Dims c.0 n.0, n.1)) (class_takes pool bytes)
    (λ c h. good_bind (Num c.1 1) P (u8_at c.1) (λ n. wants (not (n.0 == 0)) (length c.1) >>= λ _. Ok (op.Dims c.0 n.0, n.1)) (u8_takes c.1)
    (λ n g. good_wants P (not (n.0 == 0)) (length c.1) (Ok (op.Dims c.0 n.0, n.1)) (good_ok P (op.Dims c.0 n.0, n.1) (omega (arith, h, g)))))

byte_takes : (bytes : List ℕ) → Good (Op bytes 1) (byte_op bytes)
unfolding byte_op
byte_takes bytes = let P = Op bytes 1 in good_bind (Num bytes 1) P (u8_at bytes) (λ n. Ok (op.Number (cast_signed w8 n.0), n.1)) (u8_takes bytes) (λ n h. good_ok P (op.Number (cast_signed w8 n.0), n.1) h)

short_takes : (bytes : List ℕ) → Good (Op bytes 2) (short_op bytes)
unfolding short_op
short_takes bytes = let P = Op bytes 2 in good_bind (Num bytes 2) P (number_at w16 bytes) (λ n. Ok (op.Number (cast_signed w16 n.0), n.1)) (two_takes bytes) (λ n h. good_ok P (op.Number (cast_signed w16 n.0), n.1) h)

array_takes : (bytes : List ℕ) → Good (Op bytes 1) (array_op bytes)
unfolding array_op
array_takes bytes =
    let P = Op bytes 1 in
    good_bind (Num bytes 1) P (u8_at bytes) (λ n. if is_array_code n.0 then Ok (op.Number (pos n.0), n.1) else Err (Tag (length bytes))) (u8_takes bytes)
    (λ n h. good_cond P (is_array_code n.0) (Ok (op.Number (pos n.0), n.1)) (Err (Tag (length bytes))) (λ e. good_ok P (op.Number (pos n.0), n.1) h) (λ e. good_err P (Tag (length bytes))))

local_takes : (bytes : List ℕ) → Good (Op bytes 1) (local_op bytes)
unfolding local_op
local_takes bytes = let P = Op bytes 1 in good_bind (Num bytes 1) P (u8_at bytes) (λ n. Ok (op.Local n.0, n.1)) (u8_takes bytes) (λ n h. good_ok P (op.Local n.0, n.1) h)

step_takes : (bytes : List ℕ) → Good (Op bytes 2) (step_op bytes)
unfolding step_op
step_takes bytes =
    let P = Op bytes 2 in
    good_bind (Num bytes 1) P (u8_at bytes) (λ n. u8_at n.1 >>= λ by. Ok (op.Step n.0 (cast_signed w8 by.0), by.1)) (u8_takes bytes)
    (λ n h. good_bind (Num n.1 1) P (u8_at n.1) (λ by. Ok (op.Step n.0 (cast_signed w8 by.0), by.1)) (u8_takes n.1) (λ by g. good_ok P (op.Step n.0 (cast_signed w8 by.0), by.1) (omega (arith, h, g))))

jump_takes : (at : ℕ) (bytes : List ℕ) → Good (Op bytes 2) (jump_op at bytes)
unfolding jump_op
jump_takes at bytes = let P = Op bytes 2 in good_bind (Num bytes 2) P (number_at w16 bytes) (λ by. Ok (op.Jump (target at by.0), by.1)) (two_takes bytes) (λ by h. good_ok P (op.Jump (target at by.0), by.1) h)

zeros_takes : (n : ℕ) (bytes : List ℕ) → Good (Num bytes n) (zeros_at n bytes)
unfolding zeros_at
zeros_takes zero bytes = good_ok (Num bytes 0) (0, bytes) (omega arith)
zeros_takes (suc n) bytes =
    let P = Num bytes (suc n) in
    good_bind (Num bytes 1) P (u8_at bytes) (λ b. wants (b.0 == 0) (length bytes) >>= λ _. zeros_at n b.1) (u8_takes bytes)
    (λ b h. good_wants P (b.0 == 0) (length bytes) (zeros_at n b.1) (record { holds = λ x e. let t = (zeros_takes n b.1).holds x e in omega (arith, h, t) }))

abbrev Case : List ℕ → SwitchCase × List ℕ → Type 0
Case bytes c = length bytes ≡ 8 + length c.1

case_takes : (at : ℕ) (before : Option ℤ) (bytes : List ℕ) → Good (Case bytes) (case_at at before bytes)
unfolding case_at
case_takes at before bytes =
    let P = Case bytes in
    good_bind (Num bytes 4) P (number_at w32 bytes) (λ key. wants (is_above before (cast_signed w32 key.0)) (length bytes) >>= λ _. number_at w32 key.1 >>= λ by. Ok (record { key = cast_signed w32 key.0; at = wide_target at by.0 }, by.1)) (four_takes bytes)
    (λ key h. good_wants P (is_above before (cast_signed w32 key.0)) (length bytes) (number_at w32 key.1 >>= λ by. Ok (record { key = cast_signed w32 key.0; at = wide_target at by.0 }, by.1))
    (good_bind (Num key.1 4) P (number_at w32 key.1) (λ by. Ok (record { key = cast_signed w32 key.0; at = wide_target at by.0 }, by.1)) (four_takes key.1)
    (λ by g. good_ok P (record { key = cast_signed w32 key.0; at = wide_target at by.0 }, by.1) (omega (arith, h, g)))))

abbrev Cases : List ℕ → List SwitchCase × List ℕ → Type 0
Cases bytes c = length bytes ≡ 8 * length c.0 + length c.1

cases_take : (n at : ℕ) (before : Option ℤ) (bytes : List ℕ) → Good (Cases bytes) (cases_at n at before bytes)
unfolding cases_at
cases_take zero at before bytes = good_ok (Cases bytes) ([], bytes) (omega arith)
cases_take (suc n) at before bytes =
    let P = Cases bytes in
    good_bind (Case bytes) P (case_at at before bytes) (λ c. cases_at n at (Some (c.0.key)) c.1 >>= λ more. Ok (c.0 ∷ more.0, more.1)) (case_takes at before bytes)
    (λ c h. good_bind (Cases c.1) P (cases_at n at (Some (c.0.key)) c.1) (λ more. Ok (c.0 ∷ more.0, more.1)) (cases_take n at (Some (c.0.key)) c.1)
    (λ more g. good_ok P (c.0 ∷ more.0, more.1) (omega (arith, h, g))))

abbrev SwitchOp : ℕ → List ℕ → Operand × List ℕ → Type 0
SwitchOp at bytes x = length bytes ≡ operand_size at Switch x.0 + length x.1

-- behind the padding
switch_tail : ℕ → List ℕ → Result (Operand × List ℕ) Flaw
switch_tail at bytes = number_at w32 bytes >>= λ by. number_at w32 by.1 >>= λ n. wants (nat_lt n.0 (2 ^ 31)) (length by.1) >>= λ _. cases_at n.0 at None n.1 >>= λ cs. Ok (op.Switch (wide_target at by.0) cs.0, cs.1)

abbrev TailOp : ℕ → List ℕ → Operand × List ℕ → Type 0
TailOp at bytes x = length bytes + padding at ≡ operand_size at Switch x.0 + length x.1

switch_tail_takes : (at : ℕ) (bytes : List ℕ) → Good (TailOp at bytes) (switch_tail at bytes)
unfolding switch_tail operand_size
switch_tail_takes at bytes =
    let P = TailOp at bytes in
    good_bind (Num bytes 4) P (number_at w32 bytes) (λ by. number_at w32 by.1 >>= λ n. wants (nat_lt n.0 (2 ^ 31)) (length by.1) >>= λ _. cases_at n.0 at None n.1 >>= λ cs. Ok (op.Switch (wide_target at by.0) cs.0, cs.1)) (four_takes bytes)
    (λ by h. good_bind (Num by.1 4) P (number_at w32 by.1) (λ n. wants (nat_lt n.0 (2 ^ 31)) (length by.1) >>= λ _. cases_at n.0 at None n.1 >>= λ cs. Ok (op.Switch (wide_target at by.0) cs.0, cs.1)) (four_takes by.1)
    (λ n g. good_wants P (nat_lt n.0 (2 ^ 31)) (length by.1) (cases_at n.0 at None n.1 >>= λ cs. Ok (op.Switch (wide_target at by.0) cs.0, cs.1))
    (good_bind (Cases n.1) P (cases_at n.0 at None n.1) (λ cs. Ok (op.Switch (wide_target at by.0) cs.0, cs.1)) (cases_take n.0 at None n.1)
    (λ cs f. good_ok P (op.Switch (wide_target at by.0) cs.0, cs.1) (omega (arith, h, g, f))))))

switch_takes : (at : ℕ) (bytes : List ℕ) → Good (SwitchOp at bytes) (switch_op at bytes)
unfolding switch_op switch_tail
switch_takes at bytes =
    let P = SwitchOp at bytes in
    good_bind (Num bytes (padding at)) P (zeros_at (padding at) bytes) (λ z. switch_tail at z.1) (zeros_takes (padding at) bytes)
    (λ z h. record { holds = λ x e. let t = (switch_tail_takes at z.1).holds x e in omega (arith, h, t) })

abbrev OperandTakes : ℕ → Kind → List ℕ → Operand × List ℕ → Type 0
OperandTakes at k bytes x = length bytes ≡ operand_size at k x.0 + length x.1

operand_takes : (pool : List Slot) (left at : ℕ) (k : Kind) (bytes : List ℕ) → Good (OperandTakes at k bytes) (operand_at pool left at k bytes)
unfolding operand_at operand_size
operand_takes pool left at Plain bytes = good_ok (OperandTakes at Plain bytes) (op.Nothing, bytes) (omega arith)
operand_takes pool left at Byte bytes = byte_takes bytes
operand_takes pool left at Short bytes = short_takes bytes
operand_takes pool left at ArrayOf bytes = array_takes bytes
operand_takes pool left at Load bytes = load_takes pool bytes
operand_takes pool left at LoadWide bytes = load_wide_takes pool bytes
operand_takes pool left at LoadLong bytes = load_long_takes pool bytes
operand_takes pool left at Local bytes = local_takes bytes
operand_takes pool left at Step bytes = step_takes bytes
operand_takes pool left at Jump bytes = jump_takes at bytes
operand_takes pool left at Switch bytes = switch_takes at bytes
operand_takes pool left at Field bytes = field_takes pool bytes
operand_takes pool left at Method bytes = method_takes pool bytes
operand_takes pool left at Interface bytes = interface_takes pool bytes
operand_takes pool left at Class bytes = class_op_takes pool bytes
operand_takes pool left at Dims bytes = dims_takes pool bytes
operand_takes pool left at Unknown bytes = good_err (OperandTakes at Unknown bytes) _

abbrev WideTakes : List ℕ → Operand × List ℕ → Type 0
WideTakes bytes x = length bytes ≡ wide_size x.0 + length x.1

wide_operand_takes : (left : ℕ) (k : Kind) (bytes : List ℕ) → Good (WideTakes bytes) (wide_operand_at left k bytes)
unfolding wide_operand_at
wide_operand_takes left Local bytes =
    let P = WideTakes bytes in
    good_bind (Num bytes 2) P (number_at w16 bytes) (λ n. Ok (op.Local n.0, n.1)) (two_takes bytes) (λ n h. good_ok P (op.Local n.0, n.1) h)
wide_operand_takes left Step bytes =
    let P = WideTakes bytes in
    good_bind (Num bytes 2) P (number_at w16 bytes) (λ n. number_at w16 n.1 >>= λ by. Ok (op.Step n.0 (cast_signed w16 by.0), by.1)) (two_takes bytes)
    (λ n h. good_bind (Num n.1 2) P (number_at w16 n.1) (λ by. Ok (op.Step n.0 (cast_signed w16 by.0), by.1)) (two_takes n.1) (λ by g. good_ok P (op.Step n.0 (cast_signed w16 by.0), by.1) (omega (arith, h, g))))
wide_operand_takes left _ bytes = good_err (WideTakes bytes) _

-- behind the opcode
abbrev InsTakes : ℕ → List ℕ → Ins × List ℕ → Type 0
InsTakes at bytes x = length bytes ≡ ins_size at x.0 + length x.1

wide_takes : (at : ℕ) (bytes all : List ℕ) → length all ≡ 1 + length bytes → Good (InsTakes at all) (wide_at bytes)
unfolding wide_at
wide_takes at bytes all all_is =
    let P = InsTakes at all in
    good_bind (Num bytes 1) P (u8_at bytes) (λ code. wide_operand_at (length bytes) (kind_of code.0) code.1 >>= λ o. Ok (record { code = code.0; wide = true; operand = o.0 }, o.1)) (u8_takes bytes)
    (λ code h. good_bind (WideTakes code.1) P (wide_operand_at (length bytes) (kind_of code.0) code.1) (λ o. Ok (record { code = code.0; wide = true; operand = o.0 }, o.1)) (wide_operand_takes (length bytes) (kind_of code.0) code.1)
    (λ o g. good_ok P (record { code = code.0; wide = true; operand = o.0 }, o.1) (omega (arith, all_is, h, g))))

narrow_takes : (pool : List Slot) (left at code : ℕ) (bytes all : List ℕ) → length all ≡ 1 + length bytes → Good (InsTakes at all) (narrow_at pool left at code bytes)
unfolding narrow_at
narrow_takes pool left at code bytes all all_is =
    let P = InsTakes at all in
    good_bind (OperandTakes at (kind_of code) bytes) P (operand_at pool left at (kind_of code) bytes) (λ o. Ok (record { code = code; wide = false; operand = o.0 }, o.1)) (operand_takes pool left at (kind_of code) bytes)
    (λ o g. good_ok P (record { code = code; wide = false; operand = o.0 }, o.1) (omega (arith, all_is, g)))

ins_takes : (pool : List Slot) (at : ℕ) (bytes : List ℕ) → Good (InsTakes at bytes) (ins_at pool at bytes)
unfolding ins_at
ins_takes pool at bytes =
    let P = InsTakes at bytes in
    good_bind (Num bytes 1) P (u8_at bytes) (λ code. if code.0 == 0xc4 then wide_at code.1 else narrow_at pool (length bytes) at code.0 code.1) (u8_takes bytes)
    (λ code h. good_cond P (code.0 == 0xc4) (wide_at code.1) (narrow_at pool (length bytes) at code.0 code.1) (λ e. wide_takes at code.1 bytes h) (λ e. narrow_takes pool (length bytes) at code.0 code.1 bytes h))

abbrev CodeTakes : ℕ → List ℕ → List Ins × List ℕ → Type 0
CodeTakes start bytes x = length bytes ≡ size_from (start - length bytes) x.0 + length x.1

code_takes : (pool : List Slot) (start len n : ℕ) (bytes : List ℕ) → length bytes ≤ start → Good (CodeTakes start bytes) (code_on pool start len n bytes)
unfolding code_on size_from
code_takes pool start len zero bytes le = good_ok (CodeTakes start bytes) ([], bytes) (omega arith)
code_takes pool start len (suc n) bytes le =
    let P = CodeTakes start bytes in
    let go : Ins × List ℕ → Result (List Ins × List ℕ) Flaw = λ i. code_on pool start len n i.1 >>= λ more. Ok (i.0 ∷ more.0, more.1) in
    good_cond P (nat_le len (start - length bytes)) (Ok ([], bytes)) (ins_at pool (start - length bytes) bytes >>= go) (λ e. good_ok P ([], bytes) (omega arith))
    (λ e. good_bind (InsTakes (start - length bytes) bytes) P (ins_at pool (start - length bytes) bytes) go (ins_takes pool (start - length bytes) bytes)
    (λ i h. good_bind (CodeTakes start i.1) P (code_on pool start len n i.1) (λ more. Ok (i.0 ∷ more.0, more.1)) (code_takes pool start len n i.1 (omega (arith, le, h)))
    (λ more g. good_ok P (i.0 ∷ more.0, more.1)
    (let same : start - length i.1 ≡ start - length bytes + ins_size (start - length bytes) i.0 = omega (arith, le, h) in
    let later : length i.1 ≡ size_from (start - length bytes + ins_size (start - length bytes) i.0) more.0 + length more.1 = rw (← same) g in
    omega (arith, h, later)))))

-- a code that was read takes the bytes that it took
pub code_size : (pool : List Slot) (len : ℕ) (bytes : List ℕ) (list : List Ins) (rest : List ℕ) → code_on pool (length bytes) len len bytes ≡ Ok (list, rest) → length bytes ≡ size_from 0 list + length rest
code_size pool len bytes list rest is =
    let t = (code_takes pool (length bytes) len len bytes (omega arith)).holds (list, rest) is in
    let none : length bytes - length bytes ≡ 0 = omega arith in
    t ∙ ap (λ (at : ℕ). size_from at list + length rest) none
