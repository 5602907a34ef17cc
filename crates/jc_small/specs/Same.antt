-- A class shows what its source shows, at every number of steps.
use Rattle.std.specs.Prelude.{◌≡◌, ℕ, ◌+◌, ◌*◌, ◌≤◌, List, [], ◌∷◌, codes}
use Rattle.std.specs.declared.option.Option.TheVariants.{Some}
use Rattle.jc_class_out.specs.declared.model.ClassModel.{ClassModel}
use Rattle.jc_class_out.specs.declared.model.MethodModel.{MethodModel}
use Rattle.jc_class_out.specs.Format.{HasClassFile}
use Rattle.jc_lexer.specs.declared.token.Token.{Token}
use Rattle.jc_machine.specs.declared.machine.Ran.{Ran}
use Rattle.jc_machine.specs.declared.machine.Ran.TheVariants.{StepsReached, Ended as RanEnded}
use Rattle.jc_machine.specs.Table.{State}
use Rattle.jc_machine.specs.Runs.{Seen, run_of}
use Rattle.jc_machine.specs.Start.{start_of}
use Rattle.jc_small.specs.Small.{Program, IsProgram}
use Rattle.jc_small.specs.Meaning.{Ending, Going, Ended, Shown, source_shows}

-- a run has the ending of the source
abbrev pub EndsAs : Ending → Ran → Type 0
EndsAs Going ran = ran ≡ StepsReached
EndsAs Ended ran = ran ≡ RanEnded

-- a run shows what the source shows; no row of the machine takes input yet
pub record Matches (shown : Shown) (seen : Seen) : Type 0 where
  pub output : seen.output ≡ shown.output
  pub taken : shown.taken ≡ 0
  pub ending : EndsAs shown.ending seen.ending

-- the machine takes at most so many steps for each unit of the source, so that no code idles
abbrev pub steps_per_unit : ℕ
steps_per_unit = 262144

-- the run of a class from its main
abbrev pub run_from : ClassModel → State → ℕ → Seen
run_from class start steps = run_of (class ∷ []) steps start

-- From this state the class shows what the source shows: at every number of units the run shows the same within the steps that
-- these units allow, and whatever the run shows at any number of steps the source shows at some number of units. So the
-- machine never stops for want of a rule.
pub record ShowsSame (program : Program) (class : ClassModel) (start : State) : Type 0 where
  pub forwards : (units : ℕ) → (steps : ℕ) × (steps ≤ steps_per_unit * (units + 1)) × Matches (source_shows program units) (run_from class start steps)
  pub backwards : (steps : ℕ) → (units : ℕ) × Matches (source_shows program units) (run_from class start steps)

-- a method of this name, descriptor and flags
pub record IsDeclared (name descriptor : List ℕ) (flags : ℕ) (method : MethodModel) : Type 0 where
  pub name_is : method.name ≡ name
  pub descriptor_is : method.descriptor ≡ descriptor
  pub flags_are : method.flags ≡ flags

-- The members of the class: its implied constructor, and `public static void main(String[])`. It stands below
-- java/lang/Object, and has no interface, field or member type (JLS 8.1.4, 8.8.9; JVMS 4.1).
pub record HasMembers (class : ClassModel) : Type 0 where
  pub constructor : MethodModel
  pub main : MethodModel
  pub is_constructor : IsDeclared (codes "<init>") (codes "()V") 0 constructor
  pub is_main : IsDeclared (codes "main") (codes "([Ljava/lang/String;)V") 0x0009 main
  pub methods : class.methods ≡ constructor ∷ main ∷ []
  pub name : class.name ≡ codes "Main"
  pub flags : class.flags ≡ 0x0020
  pub superclass : class.superclass ≡ Some (codes "java/lang/Object")
  pub interfaces : class.interfaces ≡ []
  pub fields : class.fields ≡ []
  pub inner : class.inner ≡ []

-- the class is that of the program: it has its members, and from its main it shows the same, whatever the arguments are
pub record Same (program : Program) (class : ClassModel) : Type 0 where
  pub members : HasMembers class
  pub start : State
  pub starts : (arguments : List (List ℕ)) → start_of (class ∷ []) (codes "Main") arguments ≡ Some start
  pub shows : ShowsSame program class start

-- the tokens are a program, and this class is one of it, which has a class file
pub record Compiled (tokens : List Token) (class : ClassModel) : Type 0 where
  pub program : Program
  pub is_program : IsProgram tokens program
  pub same : Same program class
  pub has_file : HasClassFile class
