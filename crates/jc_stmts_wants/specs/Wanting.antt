-- What the items of a body have in the arena, and the rules of expressions by what they are wanted for. An operand, a label's constant or the elements of an
-- enhanced `for` are told as an `Option`: there is none where a rule is broken.
use Rattle.std.specs.Prelude.{ℕ, ◌<◌, Bool, false, List, Option, Some, None}
use Rattle.jc_rules.specs.declared.rule.Place.{Place}
use Rattle.jc_convert.specs.declared.answer.Converts.{Converts}
use Rattle.jc_types.specs.declared.environment.Bounds.{Bounds}
use Rattle.jc_types.specs.declared.form.Ty.{Ty}
use Rattle.jc_types.specs.declared.form.Ty.TheVariants.{NullTy}
use Rattle.jc_types.specs.declared.table.Table.{Table}
use Rattle.jc_types.specs.Erasing.{object}
use Rattle.jc_typed.specs.declared.nodes.Node.{Node}
use Rattle.jc_typed.specs.Trees.{Operand, Step}
use Rattle.jc_typed.specs.Parts.{constant_of, names_of, operand_of, places_of}
use Rattle.jc_exprs_nodes_spec.specs.Told.{Run, fine, onward}
use Rattle.jc_exprs_nodes_spec.specs.Typeds.{Kind, Known, Settled, Typed, bare, plain, read_guard, settled}
use Rattle.jc_exprs_parts_spec.specs.Worlds.{World}
use Rattle.jc_stmts_spec.specs.Plans.{Want, Effect, Truth, Result, Nowhere, Selector, Thrown}
use Rattle.jc_stmts_spec.specs.Courses.{each_by, each_of, Elements, Key, Scope, each_type, iterable_operand, iterated, result_target, returned, selected, thrown, truth}
use Rattle.jc_stmts_answers.specs.declared.answers.ElementsAt.{ElementsAt}
use Rattle.jc_stmts_answers.specs.Answers.{ElementsBelow, elements_of}
use Rattle.jc_stmts_wants.specs.declared.answers.KeyAt.{KeyAt}
use Rattle.jc_stmts_wants.specs.declared.answers.Scope.{Scope as ScopeIn}
use Rattle.jc_stmts_wants.specs.declared.constants.FixedAt.{FixedAt}

-- an operand
abbrev pub has_operand : List Node → Option ℕ → Option Operand
has_operand ns None = None
has_operand ns (Some at) = Some (operand_of ns at)

abbrev pub OperandBelow : ℕ → Option ℕ → Type 0
OperandBelow n None = Unit {0}
OperandBelow n (Some at) = at < n

-- the constant of a label
abbrev pub key_of : List Node → KeyAt → Key
key_of ns k = record { value = k.value; named = names_of ns k.named }

abbrev pub has_key : List Node → Option KeyAt → Option Key
has_key ns None = None
has_key ns (Some k) = Some (key_of ns k)

abbrev pub KeyBelow : ℕ → Option KeyAt → Type 0
KeyBelow n None = Unit {0}
KeyBelow n (Some k) = k.named < n

-- what an enhanced `for` goes over
abbrev pub has_elements : List Node → Option ElementsAt → Option Elements
has_elements ns None = None
has_elements ns (Some e) = Some (elements_of ns e)

abbrev pub SomeElementsBelow : ℕ → Option ElementsAt → Type 0
SomeElementsBelow n None = Unit {0}
SomeElementsBelow n (Some e) = ElementsBelow n e

-- a folded constant
abbrev pub known_at : List Node → Option FixedAt → Option Known
known_at ns None = None
known_at ns (Some f) = Some (record { value = constant_of ns f.value; named = names_of ns f.named; casts = places_of ns f.casts })

abbrev pub FixedBelow : ℕ → Option FixedAt → Type 0
FixedBelow n None = Unit {0}
FixedBelow n (Some f) = (f.value < n) × (f.named < n) × (f.casts < n)

-- a scope, as the definition has it
abbrev pub scope_of : ScopeIn → Scope
scope_of s = record { size = s.size; selector = s.selector; keys = s.keys }

-- ---- rules

-- of an expression by what it is wanted for, in a file; `result` is the type of the method's result
abbrev pub place_in : ℕ → ℕ → Place
place_in file n = record { file = file; at = n }

abbrev pub wanted_by : Table → Option Ty → ℕ → Want → Typed → Run Operand
wanted_by T result file Effect t = fine (bare t)
wanted_by T result file Truth t = truth T t
wanted_by T result file Result t = returned T (result_target result) t
wanted_by T result file Nowhere t = fine (plain t)
wanted_by T result file Selector t = selected T t
wanted_by T result file (Thrown n) t = thrown T (place_in file n) t

-- of what an enhanced `for` goes over
abbrev pub each_by_type : World → Ty → Typed → Run Elements
each_by_type W to t = onward (settled W.table t) (each_type W to)

-- .. of an Iterable, seen as that
abbrev pub each_in_view : Table → List Bounds → Settled → Ty → Ty → Run Elements
each_in_view T env s to v = each_of T s.it false (iterable_operand T env s) to (read_guard T env object (iterated T v)) (iterated T v)

-- .. once its elements have a conversion: the type that they go to isn't asked any more
abbrev pub each_converted : Table → List Bounds → Typed → Bool → Operand → List Step → Kind → Converts → Run Elements
each_converted T env t is_array of_it guards k c = each_by T env t is_array of_it NullTy guards k c
