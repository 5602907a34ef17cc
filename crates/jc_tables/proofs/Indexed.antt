-- The index of a table with one class more.
use Rattle.std.proofs.Common.{◌≡◌, ℕ, ◌+◌, Bool, true, false, Option, Some, None, is_none, List, [], ◌∷◌, ◌++◌, length, if◌then◌else◌, arith, refl, sym, ap, ◌∙◌}
use Rattle.std.specs.Str.{bytes_eq}
use Rattle.std.proofs.lemmas.Slice.Eq.{bytes_eq-Decides}
use Rattle.jc_types.specs.declared.declarations.ClassDecl.{ClassDecl}
use Rattle.jc_types.specs.Names.{named}
use Rattle.jc_types.specs.Tables.{first_named}
use Rattle.jc_tables.specs.Making.{indexed}

abbrev if_same : Bool → ℕ → Option ℕ
if_same b i = if b then Some i else None

abbrev or_next : Option ℕ → Option ℕ → Option ℕ
or_next None o = o
or_next (Some i) o = Some i

next_none : (o : Option ℕ) → or_next o None ≡ o
next_none None = refl
next_none (Some i) = refl

choose : (b : Bool) (i : ℕ) (o p : Option ℕ) → or_next (if b then Some i else o) p ≡ (if b then Some i else or_next o p)
choose true i o p = refl
choose false i o p = refl

named_pushed : (name b : List ℕ) (i : ℕ) (ns : List (List ℕ × ℕ)) → named name (ns ++ (b, i) ∷ []) ≡ or_next (named name ns) (if_same (bytes_eq name b) i)
named_pushed name b i [] = refl
named_pushed name b i (e ∷ ns) =
    ap (λ o. if bytes_eq name e.0 then Some e.1 else o) (named_pushed name b i ns) ∙ sym (choose (bytes_eq name e.0) e.1 (named name ns) (if_same (bytes_eq name b) i))

first_pushed : (name : List ℕ) (c : ClassDecl) (i : ℕ) (cs : List ClassDecl) → first_named name i (cs ++ c ∷ []) ≡ or_next (first_named name i cs) (if_same (bytes_eq name c.binary) (i + length cs))
first_pushed name c i [] = ap (λ n. if_same (bytes_eq name c.binary) n) (let e : i ≡ i + 0 = omega arith in e)
first_pushed name c i (d ∷ cs) =
    ap (λ o. if bytes_eq name d.binary then Some i else o)
    (first_pushed name c (i + 1) cs ∙ ap (λ n. or_next (first_named name (i + 1) cs) (if_same (bytes_eq name c.binary) n)) (let e : (i + 1) + length cs ≡ i + length (d ∷ cs) = omega arith in e))
    ∙ sym (choose (bytes_eq name d.binary) i (first_named name (i + 1) cs) (if_same (bytes_eq name c.binary) (i + length (d ∷ cs))))

module _ (c : ClassDecl) (cs : List ClassDecl) (ns : List (List ℕ × ℕ)) (agree : (name : List ℕ) → named name ns ≡ first_named name 0 cs) where
  -- a class of a new name
  new_name : (name : List ℕ) → named name (ns ++ (c.binary, length cs) ∷ []) ≡ first_named name 0 (cs ++ c ∷ [])
  new_name name =
      named_pushed name c.binary (length cs) ns ∙ ap (λ o. or_next o (if_same (bytes_eq name c.binary) (length cs))) (agree name)
      ∙ ap (λ n. or_next (first_named name 0 cs) (if_same (bytes_eq name c.binary) n)) (let e : length cs ≡ 0 + length cs = omega arith in e) ∙ sym (first_pushed name c 0 cs)

  -- a class of a name that is there
  passed : (name : List ℕ) (j : ℕ) (b : Bool) → (b ≡ true → name ≡ c.binary) → named c.binary ns ≡ Some j → first_named name 0 cs ≡ or_next (first_named name 0 cs) (if_same b (0 + length cs))
  passed name j false told e = sym (next_none (first_named name 0 cs))
  passed name j true told e =
      let found : first_named name 0 cs ≡ Some j = sym (agree name) ∙ ap (λ n. named n ns) (told refl) ∙ e in
      found ∙ sym (ap (λ o. or_next o (if_same true (0 + length cs))) found)

  known_name : (name : List ℕ) (j : ℕ) → named c.binary ns ≡ Some j → named name ns ≡ first_named name 0 (cs ++ c ∷ [])
  known_name name j e = agree name ∙ passed name j (bytes_eq name c.binary) (bytes_eq-Decides name c.binary).0 e ∙ sym (first_pushed name c 0 cs)

  by_find : (name : List ℕ) (o : Option ℕ) → named c.binary ns ≡ o → named name (if is_none o then ns ++ (c.binary, length cs) ∷ [] else ns) ≡ first_named name 0 (cs ++ c ∷ [])
  by_find name None e = new_name name
  by_find name (Some j) e = known_name name j e

  pub index_kept : (name : List ℕ) → named name (indexed c.binary (length cs) ns) ≡ first_named name 0 (cs ++ c ∷ [])
  index_kept name = by_find name (named c.binary ns) refl
