-- The instructions of a program.
use Rattle.std.specs.Prelude.{ℕ, nat_le, false, List, [], ◌∷◌, ◌++◌, flat_map, if◌then◌else◌, codes, pos, ◌+◌}
use Rattle.std.specs.declared.option.Option.TheVariants.{Some}
use Rattle.jc_class_out.specs.declared.model.ClassModel.{ClassModel}
use Rattle.jc_class_out.specs.declared.model.MethodModel.{MethodModel}
use Rattle.jc_class_out.specs.declared.model.Ins.{Ins}
use Rattle.jc_class_out.specs.declared.model.Loaded.TheVariants.{Whole}
use Rattle.jc_class_out.specs.declared.model.Operand.{Operand}
use Rattle.jc_class_out.specs.declared.model.Operand.TheVariants.{Nothing, Number, Local, Load, Member}
use Rattle.jc_small.specs.Small.{Program}

-- an instruction without the prefix `wide`
abbrev pub ins : ℕ → Operand → Ins
ins code operand = record { code = code; wide = false; operand = operand }

-- the instruction that pushes an int that isn't negative: iconst, bipush, sipush or, from 32768 on, ldc_w
abbrev pub const_ins : ℕ → Ins
const_ins n =
    if nat_le n 5 then ins (n + 3) Nothing else
    if nat_le n 127 then ins 0x10 (Number (pos n)) else
    if nat_le n 32767 then ins 0x11 (Number (pos n)) else ins 0x13 (Load (Whole (pos n)))

-- getstatic of System.out, and invokevirtual of its write(int) (JVMS 6.5)
abbrev pub out_ins : Ins
out_ins = ins 0xb2 (Member (codes "java/lang/System") (codes "out") (codes "Ljava/io/PrintStream;"))

abbrev pub write_ins : Ins
write_ins = ins 0xb6 (Member (codes "java/io/PrintStream") (codes "write") (codes "(I)V"))

-- each number is pushed and added with iadd to the sum on the stack
abbrev pub more_code : List ℕ → List Ins
more_code [] = []
more_code (n ∷ ns) = const_ins n ∷ ins 0x60 Nothing ∷ more_code ns

-- the first number is pushed, and the others are added to it
abbrev pub sum_code : List ℕ → List Ins
sum_code [] = []
sum_code (n ∷ ns) = const_ins n ∷ more_code ns

-- the code of one statement: the low byte of the sum is written to System.out
abbrev pub write_code : List ℕ → List Ins
write_code ns = out_ins ∷ (sum_code ns ++ write_ins ∷ [])

-- the code of main: statement by statement, then return
abbrev pub main_code : Program → List Ins
main_code program = flat_map write_code program ++ ins 0xb1 Nothing ∷ []

-- `public static void main(String[])`; the stack holds the stream, the sum and the next number at most
abbrev pub main_method : Program → MethodModel
main_method program = record {
  flags = 9;
  name = codes "main";
  descriptor = codes "([Ljava/lang/String;)V";
  code = Some (record { stack = 3; locals = 1; ins = main_code program; handlers = []; frames = [] });
}

-- the implied constructor calls that of Object and returns (JLS 8.8.9)
abbrev pub init_code : List Ins
init_code = ins 0x19 (Local 0) ∷ ins 0xb7 (Member (codes "java/lang/Object") (codes "<init>") (codes "()V")) ∷ ins 0xb1 Nothing ∷ []

-- that constructor, which has no parameter, and whose only local is `this`
abbrev pub init_method : MethodModel
init_method = record {
  flags = 0;
  name = codes "<init>";
  descriptor = codes "()V";
  code = Some (record { stack = 1; locals = 1; ins = init_code; handlers = []; frames = [] });
}

-- the class of a program
abbrev pub main_class : Program → ClassModel
main_class program = record {
  flags = 0x20;
  name = codes "Main";
  superclass = Some (codes "java/lang/Object");
  interfaces = [];
  fields = [];
  methods = init_method ∷ main_method program ∷ [];
  inner = [];
}
