-- The loop over the files, turn by turn.
use Rattle.std.proofs.Common.{◌≡◌, ℕ, ◌+◌, ◌<◌, ◌≤◌, List, [], ◌∷◌, ◌++◌, Ok, Err, length, get_or, drop, refl, sym, ap, ◌∙◌, append_assoc}
use Rattle.std.specs.Prelude.{Result}
use Rattle.std.proofs.lemmas.List.{append-nil, drop_more, drop_all}
use Rattle.jc_rules.specs.declared.rule.Refusal.{Refusal}
use Rattle.jc_lexer.specs.declared.token.Token.{Token}
use Rattle.jc_lexer.specs.Files.{lexed_file, lexed_files, then_files, with_list, IsFileRefusal, IsRefusal}
use Rattle.jc_rules.specs.declared.stop.Stop.{Stop}
use Rattle.jc_rules.specs.declared.stop.Stop.TheVariants.{Refused, WantOfMemory}

-- lists before those of files
abbrev pub with_lists : List (List Token) → Result (List (List Token)) Refusal → Result (List (List Token)) Refusal
with_lists lists (Ok more) = Ok (lists ++ more)
with_lists lists (Err refused) = Err refused

with_more : (lists : List (List Token)) (list : List Token) (r : Result (List (List Token)) Refusal) → with_lists lists (with_list list r) ≡ with_lists (lists ++ (list ∷ [])) r
with_more lists list (Ok more) = ap (λ l. Ok l) (sym (append_assoc lists (list ∷ []) more))
with_more lists list (Err refused) = refl

with_none : (r : Result (List (List Token)) Refusal) → with_lists [] r ≡ r
with_none (Ok more) = refl
with_none (Err refused) = refl

-- the files' lists are those so far, and then those of the files from this place on
pub record AreFilesTo (files : List (List ℕ)) (lists : List (List Token)) (n before : ℕ) : Type 0 where
  pub same : lexed_files 1 0 files ≡ with_lists lists (lexed_files (n + 1) before (drop n files))

turn : (n before : ℕ) (bytes : List ℕ) (files : List (List ℕ)) → lexed_files n before (bytes ∷ files) ≡ then_files (lexed_file n before bytes) (lexed_files (n + 1) (before + length bytes) files)
unfolding lexed_files
turn n before bytes files = refl

module _ (files : List (List ℕ)) (lists : List (List Token)) (n before : ℕ) (h : AreFilesTo files lists n before) (within : n < length files) (bytes : List ℕ) (b : bytes ≡ get_or files n []) where
  at : lexed_files (n + 1) before (drop n files) ≡ then_files (lexed_file (n + 1) before bytes) (lexed_files (n + 1 + 1) (before + length bytes) (drop (n + 1) files))
  at = ap (lexed_files (n + 1) before) (drop_more files n [] within ∙ ap (λ (f : List ℕ). f ∷ drop (n + 1) files) (sym b)) ∙ turn (n + 1) before bytes (drop (n + 1) files)

  pub file_on : (list : List Token) (more : List (List Token)) (size : ℕ) → lexed_file (n + 1) before bytes ≡ Ok list → more ≡ lists ++ (list ∷ []) → size ≡ length bytes →
      AreFilesTo files more (n + 1) (before + size)
  file_on list more size e grown long =
      let rest = λ (k : ℕ). lexed_files (n + 1 + 1) (before + k) (drop (n + 1) files) in
      record {
        same = h.same ∙ ap (with_lists lists) (at ∙ ap (λ (r : Result (List Token) Refusal). then_files r (rest (length bytes))) e) ∙ with_more lists list (rest (length bytes))
            ∙ ap (λ (l : List (List Token)). with_lists l (rest (length bytes))) (sym grown) ∙ ap (λ (k : ℕ). with_lists more (rest k)) (sym long);
      }

  pub file_stops : (stop : Stop Refusal) → IsFileRefusal (n + 1) before bytes stop → IsRefusal files stop
  file_stops (Refused refused) e =
      let rest = lexed_files (n + 1 + 1) (before + length bytes) (drop (n + 1) files) in
      h.same ∙ ap (with_lists lists) (at ∙ ap (λ (r : Result (List Token) Refusal). then_files r rest) e)
  file_stops WantOfMemory e = tt

pub files_end : (files : List (List ℕ)) (lists : List (List Token)) (n before : ℕ) → AreFilesTo files lists n before → length files ≤ n → lexed_files 1 0 files ≡ Ok lists
unfolding lexed_files
files_end files lists n before h l =
    h.same ∙ ap (λ (r : List (List ℕ)). with_lists lists (lexed_files (n + 1) before r)) (drop_all n files l) ∙ ap (λ l. Ok l) (append-nil lists)
