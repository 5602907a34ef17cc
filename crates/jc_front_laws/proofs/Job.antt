-- The units of sources that break no rule are those of a job, and what their table is.
use Rattle.std.proofs.Common.{◌≡◌, ◌<◌, ◌≤◌, ◌+◌, ℕ, suc, Bool, true, false, List, [], ◌∷◌, ◌++◌, length, Result, Ok, Err, if◌then◌else◌, arith, refl, sym, subst}
use Rattle.std.specs.Prelude.{nat_lt}
use Rattle.jc_rules.specs.declared.rule.Refusal.{Refusal}
use Rattle.jc_lexer.specs.declared.fault.LexFault.{LexFault}
use Rattle.jc_lexer.specs.declared.token.Token.{Token}
use Rattle.jc_lexer.specs.declared.files.TheConstants.{MOST_BYTES}
use Rattle.jc_lexer.specs.Files.{refusal, file_result, lexed_file, then_files, lexed_files}
use Rattle.jc_lexer.specs.Lexing.{lexed}
use Rattle.jc_lexer_laws.specs.TokensAreTold.{AreInOrder}
use Rattle.jc_lexer_laws.proofs.Telling.{tokens_are_told}
use Rattle.jc_tree.specs.declared.statement.SourceFile.{SourceFile}
use Rattle.jc_types.specs.declared.table.Table.{Table}
use Rattle.jc_types.specs.Accessors.{supers_of}
use Rattle.jc_types.specs.Tables.{IsTable}
use Rattle.jc_judge.specs.Supers.{HasNoCycle}
use Rattle.jc_syntax.specs.Stage.{HaveUnits}
use Rattle.jc_prelude.specs.Texts.{texts as library_texts}
use Rattle.jc_declares.specs.declared.unit.SourceUnit.{SourceUnit}
use Rattle.jc_declares.specs.Sites.{sites_of}
use Rattle.jc_order_laws.specs.Order.{Ascend, next_file, AreJob, IdsAscend}
use Rattle.jc_order_laws.proofs.Ascending.{ids_ascend}
use Rattle.jc_table_laws.proofs.Acyclic.{acyclic}
use Rattle.jc_table_laws.proofs.IdsFit.{ids_are}
use Rattle.jc_table_laws.proofs.Indexed.{indexed}
use Rattle.jc_table_laws.proofs.PlacesFit.{places_are}
use Rattle.jc_front.specs.declared.reading.Sources.{Sources}
use Rattle.jc_front.specs.Library.{AreUnitsOf}
use Rattle.jc_front.specs.Stages.{numbered_from, HaveTrees, AreSources}

-- ---- tokens of sources come in their order

ascend_by : (tokens : List Token) → AreInOrder tokens → Ascend tokens
ascend_by [] a = tt
ascend_by (t ∷ []) a = tt
ascend_by (t ∷ next ∷ tokens) a = (omega (arith, a.0.0, a.0.1), ascend_by (next ∷ tokens) a.1)

abbrev AllAscend : List (List Token) → Type 0
AllAscend [] = Unit {0}
AllAscend (list ∷ lists) = Ascend list × AllAscend lists

no_error : {A B P : Type 0} {e : A} {x : B} → Err e ≡ Ok x → P
no_error e = cc

same_ok : {A E : Type 0} (x y : A) → let a : Result A E = Ok x in let b : Result A E = Ok y in a ≡ b → x ≡ y
same_ok x y e = cc

by_bytes : (bytes : List ℕ) (list : List Token) → lexed bytes ≡ Ok list → Ascend list
by_bytes bytes list e = ascend_by list (tokens_are_told.in_order bytes list e)

by_result : (file : ℕ) (bytes : List ℕ) (list : List Token) (r : Result (List Token) LexFault) → lexed bytes ≡ r → file_result file r ≡ Ok list → Ascend list
by_result file bytes list (Ok own) e f = subst Ascend (same_ok own list f) (by_bytes bytes own e)
by_result file bytes list (Err fault) e f = no_error f

by_size : (file : ℕ) (bytes : List ℕ) (list : List Token) (b : Bool) → (if b then Err (refusal 101 file 0) else file_result file (lexed bytes)) ≡ Ok list → Ascend list
by_size file bytes list true e = no_error e
by_size file bytes list false e = by_result file bytes list (lexed bytes) refl e

file_ascends : (file before : ℕ) (bytes : List ℕ) (list : List Token) → lexed_file file before bytes ≡ Ok list → Ascend list
unfolding lexed_file
file_ascends file before bytes list e = by_size file bytes list (nat_lt MOST_BYTES (before + length bytes)) e

two_results : (file before : ℕ) (bytes : List ℕ) (lists : List (List Token)) (r : Result (List Token) Refusal) (s : Result (List (List Token)) Refusal) → lexed_file file before bytes ≡ r → ((more : List (List Token)) → s ≡ Ok more → AllAscend more)
    → then_files r s ≡ Ok lists → AllAscend lists
two_results file before bytes lists (Err refused) s e f g = no_error g
two_results file before bytes lists (Ok list) (Err refused) e f g = no_error g
two_results file before bytes lists (Ok list) (Ok more) e f g = subst AllAscend (same_ok (list ∷ more) lists g) (file_ascends file before bytes list e, f more refl)

files_ascend : (file before : ℕ) (texts : List (List ℕ)) (lists : List (List Token)) → lexed_files file before texts ≡ Ok lists → AllAscend lists
unfolding lexed_files
files_ascend file before [] lists e = subst AllAscend (same_ok [] lists e) tt
files_ascend file before (bytes ∷ texts) lists e =
    two_results file before bytes lists (lexed_file file before bytes) (lexed_files (file + 1) (before + length bytes) texts) refl (λ more f. files_ascend (file + 1) (before + length bytes) texts more f) e

-- ---- units

same_least : (n : ℕ) → n ≤ n
same_least n = omega arith

from_nothing : (n : ℕ) → 0 ≤ n
from_nothing n = omega arith

lower_least : (a b c : ℕ) → a ≤ b → b ≤ c → a ≤ c
lower_least a b c l k = omega (arith, l, k)

no_source : {P : Type 0} (n : ℕ) → n ≡ 0 → 0 < n → P
no_source n e l = absurd (omega (arith, e, l))

one_on : (n : ℕ) → suc (suc n) ≡ suc n + 1
one_on n = omega arith

job_lower : (least more : ℕ) (us : List SourceUnit) → least ≤ more → AreJob more us → AreJob least us
job_lower least more [] l j = tt
job_lower least more (u ∷ us) l j = (lower_least least more u.file l j.0, j.1, j.2)

sources_job : (n : ℕ) (lists : List (List Token)) (files : List SourceFile) → HaveUnits lists files → AllAscend lists → AreJob (suc n) (numbered_from (suc n) files)
sources_job n [] [] h a = tt
sources_job n [] (f ∷ files) h a = absurd h
sources_job n (list ∷ lists) [] h a = absurd h
sources_job n (list ∷ lists) (f ∷ files) h a = (
  same_least (suc n),
  (λ some. record { tokens = list; told = h.0.1.2; ascend = a.0 }),
  subst (λ (k : ℕ). AreJob (suc (suc n)) (numbered_from k files)) (one_on n) (sources_job (suc n) lists files h.1 a.1),
)

library_job : (before : ℕ) (texts : List (List ℕ)) (us rest : List SourceUnit) → AreUnitsOf before texts us → AreJob 0 rest → AreJob 0 (us ++ rest)
library_job before [] [] rest h j = j
library_job before [] (u ∷ us) rest h j = absurd h
library_job before (text ∷ texts) [] rest h j = absurd h
library_job before (text ∷ texts) (u ∷ us) rest h j =
    (from_nothing u.file, (λ some. no_source u.file h.0 some), subst (λ (f : ℕ). AreJob (next_file f) (us ++ rest)) (sym h.0) (library_job (before + length text) texts us rest h.2 j))

pub are_job : (texts : List (List ℕ)) (lists : List (List Token)) (units : List SourceUnit) → HaveTrees texts lists units → AreJob 0 units
are_job texts lists units h =
    subst (AreJob 0) (sym h.all)
    (library_job 0 library_texts h.library (numbered_from 1 h.files) h.is_library (job_lower 0 1 (numbered_from 1 h.files) (from_nothing 1) (sources_job 0 lists h.files h.trees (files_ascend 1 0 texts lists h.tokens))))

-- ---- tables

pub have_table : (texts : List (List ℕ)) (sources : Sources) → AreSources texts sources → IsTable sources.table
have_table texts sources a =
    subst IsTable (sym a.declared.names.is_table) (record { index = indexed (sites_of sources.units); ids = ids_are sources.units; places = places_are sources.units a.declared.names.unbroken })

pub have_no_cycle : (texts : List (List ℕ)) (sources : Sources) → AreSources texts sources → HasNoCycle sources.table
have_no_cycle texts sources a =
    subst HasNoCycle (sym a.declared.names.is_table)
    (acyclic (sites_of sources.units) (subst (λ (t : Table). supers_of t (record { 0 = 0 }) ≡ []) a.declared.names.is_table a.declared.object.supers) a.declared.names.unbroken)

pub have_order : (texts : List (List ℕ)) (sources : Sources) → AreSources texts sources → IdsAscend sources.table
have_order texts sources a = subst IdsAscend (sym a.declared.names.is_table) (ids_ascend sources.units (are_job texts sources.tokens sources.units a.declared.trees))
