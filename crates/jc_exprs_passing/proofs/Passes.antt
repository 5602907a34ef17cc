-- Arguments one by one.
use Rattle.std.proofs.Common.{◌≡◌, refl, ap, sym, subst, ◌∙◌, ℕ, ◌-◌, ◌<◌, ◌≤◌, List, [], ◌∷◌, drop, length, map, arith}
use Rattle.std.proofs.lemmas.List.{append-nil, take_all}
use Rattle.std.specs.Prelude.{slice_index_or, take}
use Rattle.jc_rules.specs.declared.rule.Place.{Place}
use Rattle.jc_types.specs.declared.environment.Bounds.{Bounds}
use Rattle.jc_types.specs.declared.erased.Erased.{Erased}
use Rattle.jc_types.specs.declared.form.Ty.{Ty}
use Rattle.jc_types.specs.declared.table.Table.{Table}
use Rattle.jc_typed.specs.declared.nodes.Node.{Node}
use Rattle.jc_typed.specs.Parts.{Grows}
use Rattle.jc_typed.specs.Trees.{Operands, MoreOperands}
use Rattle.jc_exprs_nodes_spec.specs.Typeds.{Typed, plain, stepped}
use Rattle.jc_exprs_nodes.specs.Walks.{known}
use Rattle.jc_exprs_nodes.proofs.Staying.{known_stays}
use Rattle.jc_exprs_gathering.specs.Gathered.{AllParts}
use Rattle.jc_exprs_spec.specs.Calls.{elements_to, erasures_of, packed, passed, passed_to}
use Rattle.jc_exprs_passing.specs.Passing.{packed_last, passed_one}

pub erasures_behind : (T : Table) (ts : List Ty) → erasures_of T (drop 1 ts) ≡ drop 1 (erasures_of T ts)
erasures_behind T [] = refl
erasures_behind T (t ∷ ts) = refl

module _ (T : Table) (env : List Bounds) where
  -- where no parameter is left, it doesn't matter what is declared
  passed_plain : (before : Operands) (ts : List Typed) (es fs : List Erased) → passed T env before ts [] es ≡ passed T env before ts [] fs
  passed_plain before [] es fs = refl
  passed_plain before (t ∷ ts) es fs = passed_plain (MoreOperands before (plain t)) ts es fs

  -- one argument more
  pub passed_more : (before : Operands) (t : Typed) (ts : List Typed) (ps : List Ty) (es : List Erased) →
      passed T env before (t ∷ ts) ps es ≡ passed T env (MoreOperands before (passed_one T env t ps es)) ts (drop 1 ps) (drop 1 es)
  passed_more before t ts [] es = passed_plain (MoreOperands before (plain t)) ts es (drop 1 es)
  passed_more before t ts (p ∷ ps) [] = ap (λ ss. passed T env (MoreOperands before (stepped t ss)) ts ps []) (sym (append-nil (passed_to T env t p)))
  passed_more before t ts (p ∷ ps) (e ∷ es) = refl

  -- one argument more where a parameter stands behind the next
  pub packed_more : (place : Place) (before : Operands) (t : Typed) (ts : List Typed) (ps : List Ty) (es : List Erased) → 2 ≤ length ps →
      packed T env place before (t ∷ ts) ps es ≡ packed T env place (MoreOperands before (passed_one T env t ps es)) ts (drop 1 ps) (drop 1 es)
  packed_more place before t ts [] es l = absurd (omega (arith, l))
  packed_more place before t ts (p ∷ []) es l = absurd (omega (arith, l))
  packed_more place before t ts (p ∷ q ∷ ps) es l = refl

  -- no argument is left
  pub packed_none : (place : Place) (before : Operands) (ps : List Ty) (es : List Erased) → 2 ≤ length ps → packed T env place before [] ps es ≡ before
  packed_none place before [] es l = refl
  packed_none place before (p ∷ []) es l = absurd (omega (arith, l))
  packed_none place before (p ∷ q ∷ ps) es l = refl

  -- behind all parameters but the last
  pub packed_end : (place : Place) (before : Operands) (ts : List Typed) (ps : List Ty) (es : List Erased) → length ps < 2 →
      packed T env place before ts ps es ≡ packed_last T env place before ts ps es
  packed_end place before ts [] es l = refl
  packed_end place before ts (p ∷ []) es l = refl
  packed_end place before ts (p ∷ q ∷ ps) es l = absurd (omega (arith, l))

pub ruleset passes = (passed_more, erasures_behind)

pub ruleset packs = (packed_end, packed_more, packed_none, erasures_behind)

-- ---- a turn of a loop over arguments

rest_whole : (x : ℕ) (xs : List ℕ) → take (length (x ∷ xs) - 1) (drop 1 (x ∷ xs)) ≡ xs
rest_whole x xs = take_all (length (x ∷ xs) - 1) xs (omega arith)

pub parts_turn : (ns : List Node) (rest : List ℕ) → 1 ≤ length rest → AllParts ns rest → AllParts ns (take (length rest - 1) (drop 1 rest))
parts_turn ns [] l p = absurd (omega (arith, l))
parts_turn ns (x ∷ xs) l p = subst (AllParts ns) (sym (rest_whole x xs)) p.1

module _ (T : Table) (env : List Bounds) (old now : List Node) where
  pub elements_turn : (p : Ty) (before after : Operands) (rest : List ℕ) → 1 ≤ length rest → Grows old now → AllParts old rest →
      after ≡ MoreOperands before (stepped (known now (slice_index_or rest 0 0)) (passed_to T env (known now (slice_index_or rest 0 0)) p)) →
      elements_to T env after (map (known old) (take (length rest - 1) (drop 1 rest))) p ≡ elements_to T env before (map (known old) rest) p
  elements_turn p before after [] l g a e = absurd (omega (arith, l))
  elements_turn p before after (x ∷ xs) l g a e =
      ap (λ ys. elements_to T env after (map (known old) ys) p) (rest_whole x xs)
      ∙ ap (λ os. elements_to T env os (map (known old) xs) p) (e ∙ ap (λ t. MoreOperands before (stepped t (passed_to T env t p))) (known_stays old now x g a.0.below))

  pub passed_turn : (before after : Operands) (rest : List ℕ) (ps qs ds fs : List Ty) → 1 ≤ length rest → Grows old now → AllParts old rest →
      after ≡ MoreOperands before (passed_one T env (known now (slice_index_or rest 0 0)) ps (erasures_of T ds)) → qs ≡ drop 1 ps → fs ≡ drop 1 ds →
      passed T env after (map (known old) (take (length rest - 1) (drop 1 rest))) qs (erasures_of T fs) ≡ passed T env before (map (known old) rest) ps (erasures_of T ds)
  passed_turn before after [] ps qs ds fs l g a e u v = absurd (omega (arith, l))
  passed_turn before after (x ∷ xs) ps qs ds fs l g a e u v =
      let k = known old in
      ap (λ ys. passed T env after (map k ys) qs (erasures_of T fs)) (rest_whole x xs)
      ∙ ap (λ us. passed T env after (map k xs) us (erasures_of T fs)) u
      ∙ ap (λ es. passed T env after (map k xs) (drop 1 ps) es) (ap (erasures_of T) v ∙ erasures_behind T ds)
      ∙ ap (λ os. passed T env os (map k xs) (drop 1 ps) (drop 1 (erasures_of T ds)))
      (e ∙ ap (λ t. MoreOperands before (passed_one T env t ps (erasures_of T ds))) (known_stays old now x g a.0.below))
      ∙ sym (passed_more T env before (k x) (map k xs) ps (erasures_of T ds))

  pub packed_turn : (place : Place) (before after : Operands) (rest : List ℕ) (ps qs ds fs : List Ty) → 2 ≤ length ps → 1 ≤ length rest → Grows old now → AllParts old rest →
      after ≡ MoreOperands before (passed_one T env (known now (slice_index_or rest 0 0)) ps (erasures_of T ds)) → qs ≡ drop 1 ps → fs ≡ drop 1 ds →
      packed T env place after (map (known old) (take (length rest - 1) (drop 1 rest))) qs (erasures_of T fs) ≡ packed T env place before (map (known old) rest) ps (erasures_of T ds)
  packed_turn place before after [] ps qs ds fs m l g a e u v = absurd (omega (arith, l))
  packed_turn place before after (x ∷ xs) ps qs ds fs m l g a e u v =
      let k = known old in
      ap (λ ys. packed T env place after (map k ys) qs (erasures_of T fs)) (rest_whole x xs)
      ∙ ap (λ us. packed T env place after (map k xs) us (erasures_of T fs)) u
      ∙ ap (λ es. packed T env place after (map k xs) (drop 1 ps) es) (ap (erasures_of T) v ∙ erasures_behind T ds)
      ∙ ap (λ os. packed T env place os (map k xs) (drop 1 ps) (drop 1 (erasures_of T ds)))
      (e ∙ ap (λ t. MoreOperands before (passed_one T env t ps (erasures_of T ds))) (known_stays old now x g a.0.below))
      ∙ sym (packed_more T env place before (k x) (map k xs) ps (erasures_of T ds) m)

-- no argument is left
pub packed_empty : (T : Table) (env : List Bounds) (k : ℕ → Typed) (place : Place) (before : Operands) (rest : List ℕ) (ps : List Ty) (es : List Erased) → length rest < 1 → 2 ≤ length ps →
    packed T env place before (map k rest) ps es ≡ before
packed_empty T env k place before [] ps es l m = packed_none T env place before ps es m
packed_empty T env k place before (x ∷ xs) ps es l m = absurd (omega (arith, l))
