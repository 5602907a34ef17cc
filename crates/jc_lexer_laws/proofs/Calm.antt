-- What ends a whole literal that is read alone: the end of the text, or the literal's `L` or `l`.
use Rattle.std.proofs.Common.{◌≡◌, ℕ, Bool, false, ◌⊎◌, inl, inr, ap, ◌∙◌}
use Rattle.jc_lexer.specs.declared.symbol.TheConstants.{END}

pub record IsCalm (c : ℕ) : Type 0 where
  pub cases : (c ≡ END) ⊎ ((c ≡ 76) ⊎ (c ≡ 108))

from : (P : ℕ → Bool) (c : ℕ) → P END ≡ false → P 76 ≡ false → P 108 ≡ false → (c ≡ END) ⊎ ((c ≡ 76) ⊎ (c ≡ 108)) → P c ≡ false
from P c p q r (inl e) = ap P e ∙ p
from P c p q r (inr (inl e)) = ap P e ∙ q
from P c p q r (inr (inr e)) = ap P e ∙ r

-- a test that none of them passes
pub calm : (P : ℕ → Bool) (c : ℕ) → IsCalm c → P END ≡ false → P 76 ≡ false → P 108 ≡ false → P c ≡ false
calm P c k p q r = from P c p q r k.cases
