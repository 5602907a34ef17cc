-- Which constructor each constructor of a class calls by `this`, as the code has it.
use Rattle.std.specs.Prelude.{◌≡◌, nat_eq, cond, Bool, Option, Some, None}
use Rattle.std.specs.HashMap.{get}
use Rattle.jc_types.specs.declared.ids.MethodId.{MethodId}
use Rattle.jc_types.specs.declared.table.Table.{Table}
use Rattle.jc_declares.specs.declared.heads.Heads.{Heads}
use Rattle.jc_declares.specs.Looking.{Knowledge}
use Rattle.jc_typed.specs.Trees.{StmtForm, Construct}
use Rattle.jc_stmts_spec.specs.Typed.{next_in}
use Rattle.jc_stmts.specs.declared.calls.ThisCalls.{ThisCalls}

abbrev pub target_if : Option StmtForm → Option MethodId
target_if (Some (Construct m args phase thrown is_raw)) = Some m
target_if _ = None

-- what was found first counts
abbrev pub or_next : Option (Option MethodId) → Option MethodId → Option MethodId
or_next None y = y
or_next (Some x) y = x

abbrev pub or_none : Option (Option MethodId) → Option MethodId
or_none o = or_next o None

abbrev pub first_of : Option (Option MethodId) → Bool → Option MethodId → Option (Option MethodId)
first_of None b t = cond b (Some t) None
first_of (Some x) b t = Some x

-- the constructor that one calls
abbrev pub next_of : ThisCalls → MethodId → Option MethodId
next_of c m = or_none (get nat_eq c.targets m.0)

-- it is the definition's
abbrev pub AreThisCalls : Table → Heads → Knowledge → ThisCalls → Type 0
AreThisCalls T H K c = (m : MethodId) → next_of c m ≡ next_in T H K c.calls.now m
