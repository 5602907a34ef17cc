use Rattle.jc_selecting.proofs.map.+branch_with.Given as goal

abbrev pub decreases-branch_with : goal.decreases-branch_with
decreases-branch_with l = l.key
