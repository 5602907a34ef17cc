-- A class fits exactly where it has a class file.
use Rattle.std.proofs.Common.{◌≡◌, ◌<◌, ℕ, true, List, length, eqb}
use Rattle.std.proofs.lemmas.List.Elements.{All-from_recursion, recursion_from_All}
use Rattle.jc_class_out.specs.declared.format.Flaw.TheVariants as flaw
use Rattle.jc_class_out.specs.declared.model.ClassModel.{ClassModel}
use Rattle.jc_class_out.specs.Format.{head_at, members_at, read, HasClassFile}
use Rattle.jc_class_out.specs.Spelling.{file_of}
use Rattle.jc_class_out.specs.Fitting.{fits_of}
use Rattle.jc_class_out.proofs.FileAgain.{file_again}
use Rattle.jc_class_out.proofs.Good.{Good, good_ok, good_err, good_bind, good_if, Ranged}
use Rattle.jc_class_out.proofs.PoolGood.{Kept, PoolOk}
use Rattle.jc_class_out.proofs.ClassGood.{ClassOk, head_good, members_good, class_fits}
use Rattle.jc_class_out.proofs.Ranges.{file_ranged}

read_good : (bytes : List ℕ) → Ranged bytes → Good (λ (c : ClassModel). fits_of c ≡ true) (read bytes)
unfolding read
read_good bytes r =
    let Q : ClassModel → Type 0 = λ (c : ClassModel). fits_of c ≡ true in
    good_bind (Kept PoolOk) Q (head_at bytes) _ (head_good bytes r)
    (λ pool pp. good_bind (λ (x : ClassModel × List ℕ). ClassOk pool.0 x.0) Q (members_at pool.0 pool.1) _ (members_good pool.0 pp.of pool.1 pp.ranged)
    (λ c pc. good_if Q (eqb (length c.1) 0) _ _ (λ h. good_ok Q c.0 (class_fits pool.0 pp.of c.0 pc)) (λ h. good_err Q (flaw.Trailing (length c.1)))))

-- what has a file fits
pub file_fits : (c : ClassModel) → HasClassFile c → fits_of c ≡ true
file_fits c f = (read_good f.0 (recursion_from_All (λ (b : ℕ). b < 256) f.0 f.1.in_range)).holds c f.1.reads

-- what fits has a file: the one that is written
pub spelled : (c : ClassModel) → fits_of c ≡ true → HasClassFile c
spelled c h = (file_of c, record { in_range = All-from_recursion (λ (b : ℕ). b < 256) (file_of c) (file_ranged c h); reads = file_again c h })
