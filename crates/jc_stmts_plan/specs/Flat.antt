-- The items of statements, each by its own parts, as the walk makes them.
use Rattle.std.specs.Prelude.{ℕ, ◌||◌, Bool, false, List, [], ◌∷◌, ◌++◌, Option}
use Rattle.jc_tree.specs.declared.statement.Clause.{Clause, Clause-F, out-Clause}
use Rattle.jc_tree.specs.declared.statement.Declaration.{Declaration}
use Rattle.jc_tree.specs.declared.statement.ForHead.{ForHead}
use Rattle.jc_tree.specs.declared.statement.ForHead.TheVariants as for_head
use Rattle.jc_tree.specs.declared.statement.Member.{Member}
use Rattle.jc_tree.specs.declared.statement.ModifierWord.TheVariants as word_of
use Rattle.jc_tree.specs.declared.statement.Stmt.{Stmt}
use Rattle.jc_declares.specs.Words.{says}
use Rattle.jc_stmts_spec.specs.Plans.{Item, Jumps, Each, Declare, Effect, Truth, planned, of_init, ask_if, asks, head_items, is_default, enclosed}

-- of a statement, by where jumps go
unfoldable pub items_of : Stmt → Jumps → List Item
items_of s j = (planned s).items j

-- the loop that a statement is
unfoldable pub loop_of : Stmt → Option ℕ
loop_of s = (planned s).loop

abbrev pub all_items : List Stmt → Jumps → List Item
all_items [] j = []
all_items (s ∷ ss) j = items_of s j ++ all_items ss j

-- of a part of a statement, where it is told whether a `default` stood before it
abbrev pub ClauseLayer : Type 0
ClauseLayer = Clause-F Member Stmt Clause Declaration

abbrev pub part_at : Bool → ClauseLayer → Jumps → List Item
part_at had c j = head_items c.at had c.head ++ all_items c.items j

abbrev pub part_items : Bool → Clause → Jumps → List Item
part_items had c j = part_at had (out-Clause c) j

abbrev pub has_default : Clause → Bool
has_default c = is_default (out-Clause c).head

-- of the arms of an `if`, the parts of a `switch` and the clauses of a `try`
abbrev pub arms_items : List Clause → Jumps → List Item
arms_items [] j = []
arms_items (c ∷ cs) j = part_items false c j ++ arms_items cs j

abbrev pub groups_items : Bool → List Clause → Jumps → List Item
groups_items had [] j = []
groups_items had (c ∷ cs) j = part_items had c j ++ groups_items (had || has_default c) cs j

abbrev pub catches_items : List Clause → Jumps → List Item
catches_items [] j = []
catches_items (c ∷ cs) j = enclosed (part_items false c j) ++ catches_items cs j

-- what stands in the head of a `for`, before its body
abbrev pub for_begun : ForHead → List Item
for_begun (for_head.Basic init test update) = of_init init ++ ask_if Truth test ++ asks Effect update
for_begun (for_head.Enhanced modifiers ty name dims iterable) = Each iterable ty dims ∷ Declare name ty dims (says word_of.Final modifiers) ∷ []
