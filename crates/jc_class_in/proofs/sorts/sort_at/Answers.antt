use Rattle.std.proofs.Common.{◌≡◌, ◌-◌, rules, arith}
use Rattle.jc_class_out.specs.Descriptors.{is_field_descriptor, is_method_descriptor}
use Rattle.jc_class_in.proofs.Sorted.{sorted_field, sorted_method, sorted_none, sorted_zero}
use Rattle.jc_class_in.proofs.sorts.sort_at.Goals as goal

pub returns-then-index-eq0-clause-field : goal.returns-then-index-eq0-clause-field
returns-then-index-eq0-clause-field c = sorted_zero is_field_descriptor c.args.pool.now c.args.index c.if-index-eq0.true

pub returns-then-index-eq0-clause-method : goal.returns-then-index-eq0-clause-method
returns-then-index-eq0-clause-method c = sorted_zero is_method_descriptor c.args.pool.now c.args.index c.if-index-eq0.true

pub returns-in-Some-clause-field : goal.returns-in-Some-clause-field
returns-in-Some-clause-field c =
    let from : c.from.result ≡ c.args.index = search rules in
    sorted_field c.args.sorts.now c.args.pool.now c.args.index (c.from.result - 1) c.in-Some.sort c.requires (omega arith) (omega arith) c.in-Some.ensures

pub returns-in-Some-clause-method : goal.returns-in-Some-clause-method
returns-in-Some-clause-method c =
    let from : c.from.result ≡ c.args.index = search rules in
    sorted_method c.args.sorts.now c.args.pool.now c.args.index (c.from.result - 1) c.in-Some.sort c.requires (omega arith) (omega arith) c.in-Some.ensures

pub returns-in-None-clause-field : goal.returns-in-None-clause-field
returns-in-None-clause-field c =
    let from : c.from.result ≡ c.args.index = search rules in
    sorted_none is_field_descriptor c.args.sorts.now c.args.pool.now c.args.index (c.from.result - 1) c.requires (omega arith) (omega arith) c.in-None.ensures

pub returns-in-None-clause-method : goal.returns-in-None-clause-method
returns-in-None-clause-method c =
    let from : c.from.result ≡ c.args.index = search rules in
    sorted_none is_method_descriptor c.args.sorts.now c.args.pool.now c.args.index (c.from.result - 1) c.requires (omega arith) (omega arith) c.in-None.ensures
