-- The lexical stage: the tokens of all sources, or the first lexical rule that one of them breaks.
use Rattle.std.specs.Prelude.{◌≡◌, ℕ, ◌+◌, List, [], ◌∷◌, length, nat_lt, Result, Ok, Err, if◌then◌else◌}
use Rattle.jc_rules.specs.declared.rule.Refusal.{Refusal}
use Rattle.jc_rules.specs.declared.stop.Stop.{Stop}
use Rattle.jc_rules.specs.declared.stop.Stop.TheVariants.{Refused, WantOfMemory}
use Rattle.jc_lexer.specs.declared.fault.LexFault.{LexFault}
use Rattle.jc_lexer.specs.declared.files.TheConstants.{MOST_BYTES}
use Rattle.jc_lexer.specs.declared.token.Token.{Token}
use Rattle.jc_lexer.specs.Faults.{rule_of, place_of}
use Rattle.jc_lexer.specs.Lexing.{lexed}

-- a file breaks a rule at an offset in bytes; no lexical rule has a quantity, so that `have` is 0
abbrev pub refusal : ℕ → ℕ → ℕ → Refusal
refusal rule file at = record { rule = rule; place = record { file = file; at = at }; have = 0 }

-- the tokens of a file, or its fault as the break of a rule in this file
abbrev pub file_result : ℕ → Result (List Token) LexFault → Result (List Token) Refusal
file_result file (Ok list) = Ok list
file_result file (Err fault) = Err (refusal (rule_of fault) file (place_of fault))

-- the tokens of a file before which there are so many bytes
-- rule 101 is broken where those and its own are more than `MOST_BYTES` together
unfoldable pub lexed_file : ℕ → ℕ → List ℕ → Result (List Token) Refusal
lexed_file file before bytes =
    if nat_lt MOST_BYTES (before + length bytes) then Err (refusal 101 file 0) else file_result file (lexed bytes)

-- the tokens of a file before those of the files behind it, or the refusal of one of these
abbrev pub with_list : List Token → Result (List (List Token)) Refusal → Result (List (List Token)) Refusal
with_list list (Ok lists) = Ok (list ∷ lists)
with_list list (Err refused) = Err refused

-- a file's own refusal goes before those of the files behind it
abbrev pub then_files : Result (List Token) Refusal → Result (List (List Token)) Refusal → Result (List (List Token)) Refusal
then_files (Ok list) rest = with_list list rest
then_files (Err refused) rest = Err refused

-- the tokens of files that count from a number, and before which there are so many bytes
unfoldable pub lexed_files : ℕ → ℕ → List (List ℕ) → Result (List (List Token)) Refusal
lexed_files file before [] = Ok []
lexed_files file before (bytes ∷ files) =
    then_files (lexed_file file before bytes) (lexed_files (file + 1) (before + length bytes) files)

-- a call that is stopped by a refusal is stopped by that of the file; nothing is said of one that lacks memory
abbrev pub IsFileRefusal : ℕ → ℕ → List ℕ → Stop Refusal → Type 0
IsFileRefusal file before bytes (Refused refused) = lexed_file file before bytes ≡ Err refused
IsFileRefusal file before bytes WantOfMemory = Unit {0}

-- a call that is stopped by a refusal is stopped by that of the files
abbrev pub IsRefusal : List (List ℕ) → Stop Refusal → Type 0
IsRefusal files (Refused refused) = lexed_files 1 0 files ≡ Err refused
IsRefusal files WantOfMemory = Unit {0}
