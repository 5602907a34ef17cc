use Rattle.std.proofs.Common.{rules, arith, ◌≡◌, length}
use Rattle.jc_class_out.specs.Spelling.{knowns, spell_code}
use Rattle.jc_class_out.proofs.Codes.{code_goes_on, code_done}
use Rattle.jc_class_out.proofs.writing.put_code.Goals as goal

pub loop-ins-preserved : goal.loop-ins-preserved
loop-ins-preserved c =
    let l : c.len.result ≡ length c.loop-ins.out.items = search rules in
    code_goes_on (knowns c.args.pool.now.keys) c.args.list.now c.loop-ins.ins-index c.ins-item.result c.len.result c.loop-ins.out.items c.put_ins.new.out.items (spell_code (knowns c.args.pool.now.keys) 0 c.args.list.now) c.loop-ins-test.true c.ins-item.is l c.in_ok-put_ins.ensures c.loop-ins.invariant

pub returns : goal.returns
returns c = code_done (knowns c.args.pool.now.keys) c.args.list.now c.loop-ins.ins-index c.loop-ins.out.items (spell_code (knowns c.args.pool.now.keys) 0 c.args.list.now) (omega arith) c.loop-ins.invariant
