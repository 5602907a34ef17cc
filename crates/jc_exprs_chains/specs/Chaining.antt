-- What a walk has of a chain of binary operators, and of prefix operators, in its arena.
use Rattle.std.specs.Prelude.{◌≡◌, ◌<◌, List, Option, Some, None, length, reverse}
use Rattle.jc_rules.specs.declared.rule.Place.{Place}
use Rattle.jc_tree.specs.declared.expression.BinaryOp.{BinaryOp}
use Rattle.jc_types.specs.declared.environment.Bounds.{Bounds}
use Rattle.jc_types.specs.Breaks.{least}
use Rattle.jc_types.specs.declared.form.Primitive.{Primitive}
use Rattle.jc_types.specs.declared.form.Ty.{Ty}
use Rattle.jc_types.specs.declared.table.Table.{Table}
use Rattle.jc_typed.specs.declared.nodes.Node.{Node}
use Rattle.jc_typed.specs.Trees.{Operand}
use Rattle.jc_typed.specs.Parts.{Grows, links_of, operand_of, operands_of, type_of}
use Rattle.jc_exprs_nodes_spec.specs.Told.{Told, Run, Ran, Standing, Spanned, both, breaks, fine, onward, ran, spanned, standing, typed}
use Rattle.jc_exprs_nodes_spec.specs.Gates.{gated, gated_two}
use Rattle.jc_exprs_nodes_spec.specs.Typeds.{Typed, fixed, known_of, stepped, type_of as counted_type}
use Rattle.jc_exprs_nodes.specs.Walks.{IsPart, known}
use Rattle.jc_exprs_nodes.specs.Laws.{span_of}
use Rattle.jc_exprs_parts_spec.specs.Chains.{Joined, Whole, Linked, Listed, Signed, Unsigned, Under, folded, join_on, joined_start, joined_type, joining, known_or, known_so_far, op_of, signed, steps_to, whole}
use Rattle.jc_exprs_operators.specs.Knowns.{KnownBelow, MentionsBelow, folded_in, known_at}
use Rattle.jc_exprs_operators.specs.Takings.{joint_of, result_in, takes_in, wanted}
use Rattle.jc_exprs_operators.specs.declared.taking.Taking.{Taking}
use Rattle.jc_exprs_chains.specs.declared.joined.JoinedAt.{JoinedAt}
use Rattle.jc_exprs_chains.specs.declared.joined.JoinedForm.{JoinedForm}
use Rattle.jc_exprs_chains.specs.declared.joined.JoinedForm.TheVariants as made
use Rattle.jc_exprs_chains.specs.declared.joined.Right.{Right}
use Rattle.jc_exprs_chains.specs.declared.joining.Last.{Last}
use Rattle.jc_exprs_chains.specs.declared.signed.SignedAt.{SignedAt}
use Rattle.jc_exprs_chains.specs.declared.signed.SignedAt.TheVariants as signs

-- ---- a chain of binary operators

abbrev pub joined_in : List Node → Place → Ty → JoinedForm → Joined
joined_in ns start t (made.Whole p) = Whole (known ns p.at)
joined_in ns start t (made.Fixed f) = Whole (fixed start t (folded_in ns f))
joined_in ns start t (made.Linked first links) = Linked start t (operand_of ns first) (links_of ns links)
joined_in ns start t (made.Listed is_and os from up_to) = Listed start is_and (operands_of ns os) from up_to

abbrev pub joined_at : List Node → JoinedAt → Joined
joined_at ns j = joined_in ns j.start (type_of ns j.ty) j.form

abbrev pub has_joined : List Node → Option JoinedAt → Option Joined
has_joined ns None = None
has_joined ns (Some j) = Some (joined_at ns j)

abbrev pub FormIn : List Node → JoinedForm → Type 0
FormIn ns (made.Whole p) = IsPart ns p
FormIn ns (made.Fixed f) = MentionsBelow (length ns) f.mentions
FormIn ns (made.Linked first links) = (first < length ns) × (links < length ns)
FormIn ns (made.Listed is_and os from up_to) = os < length ns

-- its first token, its type and its parts stand in the arena
pub record IsJoined (ns : List Node) (j : JoinedAt) : Type 0 where
  pub start : joined_start (joined_at ns j) ≡ j.start
  pub ty : joined_type (joined_at ns j) ≡ type_of ns j.ty
  pub below : j.ty < length ns
  pub form : FormIn ns j.form

abbrev pub JoinedIn : List Node → Option JoinedAt → Type 0
JoinedIn ns None = Unit {0}
JoinedIn ns (Some j) = IsJoined ns j

-- a right operand
abbrev pub right_in : List Node → Right → Spanned Typed
right_in ns r = record { it = known ns r.part.at; from = r.from; up_to = r.up_to }

-- an operand with the steps to the type that is wanted
abbrev pub operand_for : Table → List Bounds → Typed → Option Primitive → Operand
operand_for T env t to = stepped t (steps_to T env (counted_type t) (wanted (counted_type t) to))

-- what an operator makes of what is joined so far and of a right operand, where it takes them: without folding, and with it
abbrev pub join_with : Table → List Bounds → BinaryOp → Taking → Joined → Spanned Typed → Joined
join_with T env o taking j r = join_on T env o j (takes_in T (joined_type j) (counted_type r.it) taking) r

abbrev pub joined_by_taking : Table → List Bounds → BinaryOp → Taking → Joined → Spanned Typed → Joined
joined_by_taking T env o taking j r =
    known_or (joined_start j) (result_in T taking) (folded (op_of (joint_of taking)) (known_so_far j) (known_of r.it)) (join_with T env o taking j r)

-- a right operand that is a constant
pub record IsLast (ns : List Node) (l : Last) : Type 0 where
  pub part : IsPart ns l.right.part
  pub known : known_of (known ns l.right.part.at) ≡ Some (known_at ns l.known)
  pub below : KnownBelow (length ns) (Some l.known)

-- ---- prefix operators

abbrev pub signed_in : List Node → SignedAt → Signed
signed_in ns (signs.Unsigned p) = Unsigned (known ns p.at)
signed_in ns (signs.Under place to ops of_it) = Under place to (reverse ops) (operand_of ns of_it)

abbrev pub has_signed : List Node → Option SignedAt → Option Signed
has_signed ns None = None
has_signed ns (Some s) = Some (signed_in ns s)

abbrev pub IsSigned : List Node → SignedAt → Type 0
IsSigned ns (signs.Unsigned p) = IsPart ns p
IsSigned ns (signs.Under place to ops of_it) = of_it < length ns

abbrev pub SignedIn : List Node → Option SignedAt → Type 0
SignedIn ns None = Unit {0}
SignedIn ns (Some s) = IsSigned ns s

-- what a walk has of what is told at once
abbrev pub ran_told : {A : Type 0} → Told A → Standing → Ran A
ran_told t s = record { state = standing s.env (least s.found (breaks t)); has = typed t }

-- ---- the beginning and the end of a chain, and of prefix operators

abbrev pub as_first : Option Typed → Option Joined
as_first None = None
as_first (Some t) = Some (Whole t)

abbrev pub as_whole : Option Joined → Option Typed
as_whole None = None
as_whole (Some j) = Some (whole j)

abbrev pub as_unsigned : Option Typed → Option Signed
as_unsigned None = None
as_unsigned (Some t) = Some (Unsigned t)

abbrev pub as_signed : Option Signed → Option Typed
as_signed None = None
as_signed (Some s) = Some (signed s)

-- ---- laws

-- the first operand, and the chain as one expression
abbrev pub FirstJoined : Type 0
FirstJoined = (m : Run Typed) (s : Standing) → ran (onward m (λ t. fine (Whole t))) s ≡ record { state = (ran m s).state; has = as_first (ran m s).has }

abbrev pub Finished : Type 0
Finished = (m : Run Joined) (s : Standing) → ran (onward m (λ j. fine (whole j))) s ≡ record { state = (ran m s).state; has = as_whole (ran m s).has }

-- the operand, and it with its prefix operators as one expression
abbrev pub FirstSigned : Type 0
FirstSigned = (m : Run Typed) (s : Standing) → ran (onward m (λ t. fine (Unsigned t))) s ≡ record { state = (ran m s).state; has = as_unsigned (ran m s).has }

abbrev pub SignsFinished : Type 0
SignsFinished = (m : Run Signed) (s : Standing) → ran (onward m (λ g. fine (signed g))) s ≡ record { state = (ran m s).state; has = as_signed (ran m s).has }

-- a step of `instanceof`, and a prefix operator
abbrev pub TestedStep : Type 0
TestedStep = (f : Joined → Run Joined) (m : Run Joined) (s : Standing) → ran (onward m f) s ≡ gated f (ran m s).has (ran m s).state

abbrev pub SignedStep : Type 0
SignedStep = (f : Signed → Run Signed) (m : Run Signed) (s : Standing) → ran (onward m f) s ≡ gated f (ran m s).has (ran m s).state

-- what is joined stays where the arena grows
abbrev pub JoinedStays : Type 0
JoinedStays = (old new : List Node) (j : Option JoinedAt) → Grows old new → JoinedIn old j → has_joined new j ≡ has_joined old j

abbrev pub JoinedStaysIn : Type 0
JoinedStaysIn = (old new : List Node) (j : Option JoinedAt) → Grows old new → JoinedIn old j → JoinedIn new j

abbrev pub SignedStays : Type 0
SignedStays = (old new : List Node) (s : Option SignedAt) → Grows old new → SignedIn old s → has_signed new s ≡ has_signed old s

abbrev pub SignedStaysIn : Type 0
SignedStaysIn = (old new : List Node) (s : Option SignedAt) → Grows old new → SignedIn old s → SignedIn new s

-- a step of a chain: the right operand is asked behind what is joined so far, with the captured variables before it and behind it
abbrev pub JoinedStep : Type 0
JoinedStep =
    (T : Table) (o : BinaryOp) (m : Run Joined) (r : Run Typed) (s : Standing) →
    ran (onward (both m (spanned r)) (λ p. joining T o p.0 p.1)) s
    ≡ gated_two (joining T o) (ran m s).has (span_of (ran r (ran m s).state).has (length (ran m s).state.env) (length (ran r (ran m s).state).state.env)) (ran r (ran m s).state).state
