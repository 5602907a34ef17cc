-- What the code's items and rounds are in the definition.
use Rattle.std.specs.Prelude.{ℕ}
use Rattle.jc_stmts_spec.specs.Plans as plan
use Rattle.jc_stmts_plan.specs.declared.items.Broken.{Broken}
use Rattle.jc_stmts_plan.specs.declared.items.Broken.TheVariants as broken
use Rattle.jc_stmts_plan.specs.declared.items.Item.{Item}
use Rattle.jc_stmts_plan.specs.declared.items.Item.TheVariants as item
use Rattle.jc_stmts_plan.specs.declared.items.Want.{Want}
use Rattle.jc_stmts_plan.specs.declared.items.Want.TheVariants as want
use Rattle.jc_stmts_plan.specs.declared.jumps.Returns.{Returns}
use Rattle.jc_stmts_plan.specs.declared.jumps.Returns.TheVariants as returns
use Rattle.jc_stmts_plan.specs.declared.jumps.RoundForm.{RoundForm}
use Rattle.jc_stmts_plan.specs.declared.jumps.RoundForm.TheVariants as round

abbrev pub want_seen : Want → plan.Want
want_seen want.Effect = plan.Effect
want_seen want.Truth = plan.Truth
want_seen want.Result = plan.Result
want_seen want.Nowhere = plan.Nowhere
want_seen want.Selector = plan.Selector
want_seen (want.Thrown at) = plan.Thrown at

abbrev pub rule_of : Broken → ℕ
rule_of broken.Jump = 615
rule_of broken.Default = 614
rule_of broken.Return = 619

-- an item, with the trees that it borrows
abbrev pub item_seen : Item → plan.Item
item_seen item.Enter = plan.Enter
item_seen item.Leave = plan.Leave
item_seen (item.Declare name ty dims is_final) = plan.Declare name.now ty.now dims is_final
item_seen (item.Fill init) = plan.Fill init.now
item_seen (item.Ask expr w) = plan.Ask expr.now (want_seen w)
item_seen (item.Label at expr) = plan.Label at expr.now
item_seen (item.Each over ty dims) = plan.Each over.now ty.now dims
item_seen (item.Caught at first more) = plan.Caught at first.now more.now
item_seen (item.Parameter name is_final) = plan.Parameter name.now is_final
item_seen (item.Fault b at) = plan.Fault (rule_of b) at

abbrev pub round_seen : RoundForm → plan.Round
round_seen (round.Loop at) = plan.OfLoop at
round_seen (round.Switch at) = plan.OfSwitch at
round_seen (round.Label label before) = plan.OfLabel label.now.at label.now.text before

abbrev pub returns_seen : Returns → plan.Returns
returns_seen returns.Never = plan.Never
returns_seen returns.NoValue = plan.NoValue
returns_seen returns.AValue = plan.AValue
