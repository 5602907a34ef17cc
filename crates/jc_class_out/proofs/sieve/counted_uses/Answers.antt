use Rattle.std.proofs.Common.{arith, ◌≡◌, ◌∙◌, ap, sym, ℕ}
use Rattle.std.specs.List.{filter}
use Rattle.jc_class_out.specs.Spelling.{uses}
use Rattle.jc_class_out.specs.Fitting.{places}
use Rattle.jc_class_out.proofs.Sieves.{is_below, next_bucket, no_bucket, each_bucket, bucket_whole}
use Rattle.jc_class_out.proofs.sieve.counted_uses.Goals as goal

pub loop-bucket-init : goal.loop-bucket-init
loop-bucket-init c = record { counted = sym (no_bucket (uses c.args.class.now)); few = omega arith }

pub loop-bucket-preserved : goal.loop-bucket-preserved
loop-bucket-preserved c =
    let whole = bucket_whole c.loop-bucket.bucket (uses c.args.class.now) c.sifted_uses-count.result c.sifted_uses-count.ensures (omega (arith, c.if-count-ge-ROOM.false)) in
    record {
      counted = omega (arith, whole, c.loop-bucket.invariant.counted, next_bucket c.loop-bucket.bucket (uses c.args.class.now));
      few = omega (arith, c.loop-bucket.invariant.few, c.if-count-ge-ROOM.false);
    }

pub returns : goal.returns
returns c =
    let last : c.loop-bucket.bucket ≡ 128 = omega arith in
    c.loop-bucket.invariant.counted ∙ ap (λ (b : ℕ). places (filter (is_below b) (uses c.args.class.now))) last ∙ ap places (each_bucket (uses c.args.class.now))
