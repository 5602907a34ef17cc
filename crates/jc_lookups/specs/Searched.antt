-- A search for a field: what its tasks find, the next task first, and what they say of their classes.
use Rattle.std.specs.Prelude.{◌≡◌, ℕ, ◌-◌, List, [], ◌∷◌, drop, option_and_then, slice_index}
use Rattle.std.specs.declared.option.Option.{Option}
use Rattle.std.specs.declared.option.Option.TheVariants.{Some, None}
use Rattle.jc_class_out.specs.declared.model.ClassModel.{ClassModel}
use Rattle.jc_jvm.specs.Classes.{class_named, field_on, or_else, super_of}
use Rattle.jc_lookups.specs.Interfaces.{among_names, interface_names}
use Rattle.jc_lookups.specs.declared.seeking.Task.{Task}
use Rattle.jc_lookups.specs.declared.seeking.Task.TheVariants.{Visit, Climb, Leave}

-- a class is visited next, if there is one
abbrev pub visited_next : ℕ → Option ℕ → List Task → List Task
visited_next steps (Some class) tasks = Visit steps class ∷ tasks
visited_next steps None tasks = tasks

-- what is found above a class, from this superinterface on
abbrev pub found_above : List ClassModel → List ℕ → List ℕ → ℕ → ℕ → ℕ → Option (ℕ × ℕ)
found_above classes name descriptor steps class at =
    or_else (among_names (field_on classes name descriptor (steps - 1)) (class_named classes) (drop at (interface_names classes class)))
    (option_and_then (field_on classes name descriptor (steps - 1)) (super_of classes class))

-- a task that leaves a class finds nothing; of several tasks the first that finds something counts
abbrev pub task_finds : List ClassModel → List ℕ → List ℕ → Task → Option (ℕ × ℕ)
task_finds classes name descriptor (Visit steps class) = field_on classes name descriptor steps class
task_finds classes name descriptor (Climb steps class at) = found_above classes name descriptor steps class at
task_finds classes name descriptor (Leave steps class) = None

abbrev pub tasks_find : List ClassModel → List ℕ → List ℕ → List Task → Option (ℕ × ℕ)
tasks_find classes name descriptor [] = None
tasks_find classes name descriptor (t ∷ ts) = or_else (task_finds classes name descriptor t) (tasks_find classes name descriptor ts)

-- what is known of a task's class, where nothing was found before the task
abbrev pub Says : List ClassModel → List ℕ → List ℕ → Option (ℕ × ℕ) → Task → Type 0
Says classes name descriptor before (Visit steps class) = Unit {0}
Says classes name descriptor before (Climb steps class at) = before ≡ None → field_on classes name descriptor steps class ≡ found_above classes name descriptor steps class at
Says classes name descriptor before (Leave steps class) = before ≡ None → field_on classes name descriptor steps class ≡ None

-- the same of tasks one after the other, each behind what the earlier ones find
abbrev pub AllSay : List ClassModel → List ℕ → List ℕ → Option (ℕ × ℕ) → List Task → Type 0
AllSay classes name descriptor before [] = Unit {0}
AllSay classes name descriptor before (t ∷ ts) = Says classes name descriptor before t × AllSay classes name descriptor (or_else before (task_finds classes name descriptor t)) ts

-- each class is known not to have the field over so many steps
abbrev pub AreWithout : List ClassModel → List ℕ → List ℕ → List ℕ → Type 0
AreWithout classes name descriptor known = (k : ℕ) → field_on classes name descriptor (slice_index known k) k ≡ None

-- where a search stands that is to give this answer
pub record Stands (classes : List ClassModel) (name descriptor known : List ℕ) (tasks : List Task) (answer : Option (ℕ × ℕ)) : Type 0 where
  pub without : AreWithout classes name descriptor known
  pub say : AllSay classes name descriptor None tasks
  pub find : tasks_find classes name descriptor tasks ≡ answer

-- it stands so, or has found the answer
abbrev pub TurnsTo : List ClassModel → List ℕ → List ℕ → List ℕ → List Task → Option (ℕ × ℕ) → Option (ℕ × ℕ) → Type 0
TurnsTo classes name descriptor known tasks answer None = Stands classes name descriptor known tasks answer
TurnsTo classes name descriptor known tasks answer (Some found) = answer ≡ Some found

-- one turn, whatever the answer is to be
abbrev pub Turn : List ClassModel → List ℕ → List ℕ → List ℕ → List Task → List ℕ → List Task → Option (ℕ × ℕ) → Type 0
Turn classes name descriptor known tasks after left found =
    (answer : Option (ℕ × ℕ)) → Stands classes name descriptor known tasks answer → TurnsTo classes name descriptor after left answer found
