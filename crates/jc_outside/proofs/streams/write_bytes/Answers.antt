use Rattle.std.proofs.Common.{◌≡◌, ◌-◌, ℕ, length, take, drop, arith, length-drop, ap, ◌∙◌, sym}
use Rattle.std.proofs.Math.Seq.{take-length}
use Rattle.jc_outside.proofs.Known.{Gets-more}
use Rattle.jc_outside.proofs.streams.write_bytes.Goals as goal

pub loop-preserved : goal.loop-preserved
loop-preserved g c =
    let rest = drop c.loop.written c.args.bytes.now in
    let all : take (length c.args.bytes.now - c.loop.written) rest ≡ rest =
    ap (λ (n : ℕ). take n rest) (sym (length-drop c.loop.written c.args.bytes.now)) ∙ take-length rest in
    let wrote = rw all at c.in-Some.ensures in
    record {
      within = omega (arith, wrote.0, length-drop c.loop.written c.args.bytes.now);
      so_far = Gets-more _ _ _ _ _ _ c.loop.invariant.so_far wrote.1;
    }
