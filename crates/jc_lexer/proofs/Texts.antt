-- The loop that decodes a text, turn by turn.
use Rattle.std.proofs.Common.{◌≡◌, ℕ, zero, suc, ◌+◌, ◌-◌, ◌<◌, ◌≤◌, Bool, false, List, [], ◌∷◌, ◌++◌, length, drop, refl, sym, ap, ◌∙◌, arith, length-drop, append_assoc}
use Rattle.jc_lexer.specs.Decoding.{text_of, text_from, text_after, character}
use Rattle.jc_lexer.specs.declared.decode.Reading.{Reading}
use Rattle.jc_lexer.specs.declared.decode.Reading.TheVariants.{Read}
use Rattle.jc_lexer.specs.declared.symbol.Symbol.{Symbol}
use Rattle.jc_lexer.specs.declared.symbol.TheConstants.{END}

-- a turn: what stands first, and what is left
pub text_turn : (m at : ℕ) (odd : Bool) (bytes : List ℕ) → 0 < length bytes → length bytes ≤ m → (r : Reading) → r ≡ character bytes odd →
    (k : ℕ) × (m ≡ suc k) × (text_from m at odd bytes ≡ text_after (λ len next. text_from k (at + len) next (drop len bytes)) at r)
unfolding text_from
text_turn zero at odd bytes z l r e = absurd (omega arith)
text_turn (suc k) at odd [] z l r e = absurd (omega arith)
text_turn (suc k) at odd (b ∷ bytes) z l r e =
    (k, refl, ap (λ (x : Reading). text_after (λ len next. text_from k (at + len) next (drop len (b ∷ bytes))) at x) (sym e))

-- the end
pub text_end : (m at : ℕ) (odd : Bool) (bytes : List ℕ) → length bytes ≤ 0 → text_from m at odd bytes ≡ record { code = END; from = at } ∷ []
unfolding text_from
text_end zero at odd bytes l = refl
text_end (suc k) at odd [] l = refl
text_end (suc k) at odd (b ∷ bytes) l = absurd (omega arith)

-- the bytes' text is what is read so far, and then the text of the rest
pub record IsReadTo (bytes : List ℕ) (items : List Symbol) (at : ℕ) (odd : Bool) (rest : List ℕ) : Type 0 where
  pub bound : ℕ
  pub enough : length rest ≤ bound
  pub same : text_of bytes ≡ items ++ text_from bound at odd rest

pub begins_read : (bytes : List ℕ) → IsReadTo bytes [] 0 false bytes
begins_read bytes = record { bound = length bytes; enough = omega arith; same = refl }

pub reads_on : (bytes : List ℕ) (items more : List Symbol) (at len code : ℕ) (odd next : Bool) (rest behind : List ℕ) →
    IsReadTo bytes items at odd rest → 0 < length rest → Read code len next ≡ character rest odd → 0 < len → len ≤ length rest →
    more ≡ items ++ (record { code = code; from = at } ∷ []) → behind ≡ drop len rest → IsReadTo bytes more (at + len) next behind
reads_on bytes items more at len code odd next rest behind h z r some fits grown cut =
    let t = text_turn h.bound at odd rest z h.enough (Read code len next) r in
    let tail = text_from t.0 (at + len) next (drop len rest) in
    let shorter : length (drop len rest) ≡ length rest - len = length-drop len rest in
    let bound : length behind ≤ t.0 = omega (arith, t.1, h.enough, shorter, ap length cut) in
    let joined : text_of bytes ≡ more ++ tail =
    h.same ∙ ap (λ l. items ++ l) t.2 ∙ sym (append_assoc items (record { code = code; from = at } ∷ []) tail) ∙ ap (λ l. l ++ tail) (sym grown) in
    record { bound = t.0; enough = bound; same = joined ∙ ap (λ l. more ++ text_from t.0 (at + len) next l) (sym cut) }

-- the text ends where the reading stops
pub stops_at : (bytes : List ℕ) (items more : List Symbol) (at : ℕ) (odd : Bool) (rest : List ℕ) (r : Reading) (mark : Symbol) →
    IsReadTo bytes items at odd rest → 0 < length rest → r ≡ character rest odd → ((f : ℕ → Bool → List Symbol) → text_after f at r ≡ mark ∷ []) →
    more ≡ items ++ (mark ∷ []) → more ≡ text_of bytes
stops_at bytes items more at odd rest r mark h z e stop grown =
    let t = text_turn h.bound at odd rest z h.enough r e in
    grown ∙ sym (h.same ∙ ap (λ l. items ++ l) (t.2 ∙ stop _))

pub ends_at : (bytes : List ℕ) (items more : List Symbol) (at : ℕ) (odd : Bool) (rest : List ℕ) →
    IsReadTo bytes items at odd rest → length rest ≤ 0 → more ≡ items ++ (record { code = END; from = at } ∷ []) → more ≡ text_of bytes
ends_at bytes items more at odd rest h l grown = grown ∙ sym (h.same ∙ ap (λ l. items ++ l) (text_end h.bound at odd rest l))
