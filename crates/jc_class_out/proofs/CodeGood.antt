-- What holds of code and of its exception table that were read.
use Rattle.std.proofs.Common.{◌≡◌, ◌<◌, ◌≤◌, ◌^◌, ℕ, zero, suc, ◌+◌, ◌-◌, ◌*◌, Bool, true, eqb, List, [], ◌∷◌, ◌++◌, length, Option, refl, ap, subst, arith}
use Rattle.std.specs.Prelude.{◌&&◌, not, nat_lt, nat_le}
use Rattle.std.specs.Int.{w16, w32}
use Rattle.std.specs.List.{flat_map, list_all, AllByRecursion}
use Rattle.std.specs.Str.{bytes_eq}
use Rattle.std.proofs.lemmas.Bool.{leb-true, leb-false, eqb-true, eqb-false, lt-ltb, not-true, and_parts}
use Rattle.std.proofs.lemmas.Slice.Eq.{bytes_eq-Decides}
use Rattle.jc_class_out.specs.declared.format.Flaw.TheVariants as flaw
use Rattle.jc_class_out.specs.declared.format.Slot.{Slot}
use Rattle.jc_class_out.specs.declared.model.Handler.{Handler}
use Rattle.jc_class_out.specs.declared.model.Ins.{Ins}
use Rattle.jc_class_out.specs.declared.model.Operand.{Operand}
use Rattle.jc_class_out.specs.declared.model.Operand.TheVariants as op
use Rattle.jc_class_out.specs.declared.model.SwitchCase.{SwitchCase}
use Rattle.jc_class_out.specs.Reading.{wants, number_at}
use Rattle.jc_class_out.specs.Pool.{KnownText, named_at, class_or_none_at}
use Rattle.jc_class_out.specs.Instructions.{padding, ins_at, ins_size}
use Rattle.jc_class_out.specs.Frames.{begins}
use Rattle.jc_class_out.specs.Code.{attribute_at, attribute_ends, no_more_at, code_on, marks_of, size_from, cases_land, lands, all_land, body_at, ends, handler_at}
use Rattle.jc_class_out.specs.Spelling.{class_or_none_uses, ins_uses, ins_first_uses, handler_uses}
use Rattle.jc_class_out.specs.Fitting.{all_fit, case_lands, operand_lands, ins_lands, ins_all_fit, handler_fits}
use Rattle.jc_class_out.proofs.Good.{Good, good_ok, good_err, good_bind, good_more, good_if, good_wants, good_any, Ranged, Got, Numbered, Reads, Each, u2_good, u4_good}
use Rattle.jc_class_out.proofs.PoolGood.{PoolOk}
use Rattle.jc_class_out.proofs.Stands.{StandsBelow, Stands, Stand}
use Rattle.jc_class_out.proofs.InsGood.{Uses, text_uses, named_good, class_or_none_good, Low, InsOk, ins_good}

pub all_append : {A : Type 0} (P : A → Type 0) (xs ys : List A) → AllByRecursion P xs → AllByRecursion P ys → AllByRecursion P (xs ++ ys)
all_append P [] ys h g = g
all_append P (x ∷ xs) ys h g = (h.0, all_append P xs ys h.1 g)

-- ---- instructions one after the other

pub record CodeOk (pool : List Slot) (at : ℕ) (is : List Ins) (n : ℕ) : Type 0 where
  pub fits : all_fit at is ≡ true
  pub size : n ≡ size_from at is
  pub uses : Stand pool (flat_map ins_uses is)
  pub loads : Low pool (flat_map ins_first_uses is)

code_none : (pool : List Slot) (at : ℕ) → CodeOk pool at [] 0
unfolding all_fit size_from
code_none pool at = record { fits = refl; size = refl; uses = tt; loads = tt }

code_more : (pool : List Slot) (at next : ℕ) (i : Ins) (is : List Ins) (n m : ℕ) → InsOk pool at i n → next ≡ at + n → CodeOk pool next is m → CodeOk pool at (i ∷ is) (n + m)
unfolding all_fit size_from
code_more pool at next i is n m one e more =
    let there : next ≡ at + ins_size at i = omega (arith, e, one.size) in
    record {
      fits = rw one.fits (subst (λ (x : ℕ). all_fit x is ≡ true) there more.fits);
      size = omega (arith, one.size, more.size, ap (λ (x : ℕ). size_from x is) there);
      uses = all_append (Stands pool) (ins_uses i) (flat_map ins_uses is) one.uses more.uses;
      loads = all_append (StandsBelow pool 255) (ins_first_uses i) (flat_map ins_first_uses is) one.loads more.loads;
    }

code_good : (pool : List Slot) → PoolOk pool → (start len : ℕ) → len ≤ 65535 → (fuel : ℕ) (bytes : List ℕ) → length bytes ≤ start → Ranged bytes → Good (Got (CodeOk pool (start - length bytes)) bytes) (code_on pool start len fuel bytes)
unfolding code_on
code_good pool ok start len small zero bytes le r = good_ok (Got (CodeOk pool (start - length bytes)) bytes) ([], bytes) (record { n = 0; of = code_none pool (start - length bytes); took = omega arith; ranged = r })
code_good pool ok start len small (suc fuel) bytes le r =
    let Q : List Ins × List ℕ → Type 0 = Got (CodeOk pool (start - length bytes)) bytes in
    good_if Q (nat_le len (start - length bytes)) _ _ (λ h. good_ok Q ([], bytes) (record { n = 0; of = code_none pool (start - length bytes); took = omega arith; ranged = r }))
    (λ h.
    let lt = leb-false len (start - length bytes) h in
    good_bind (Got (InsOk pool (start - length bytes)) bytes) Q (ins_at pool (start - length bytes) bytes) _ (ins_good pool ok (start - length bytes) (omega (arith, lt, small)) bytes r)
    (λ i pi. good_bind (Got (CodeOk pool (start - length i.1)) i.1) Q (code_on pool start len fuel i.1) _ (code_good pool ok start len small fuel i.1 (omega (arith, le, pi.took)) pi.ranged)
    (λ is pis. good_ok Q (i.0 ∷ is.0, is.1) (record {
      n = pi.n + pis.n;
      of = code_more pool (start - length bytes) (start - length i.1) i.0 is.0 pi.n pis.n pi.of (omega (arith, le, pi.took)) pis.of;
      took = omega (arith, pi.took, pis.took);
      ranged = pis.ranged;
    }))))

-- ---- jumps

cases_good : (marks : List Bool) (left : ℕ) (cs : List SwitchCase) → Good (λ (k : ℕ). list_all (case_lands marks) cs ≡ true) (cases_land marks left cs)
unfolding cases_land
cases_good marks left [] = good_ok (λ (k : ℕ). true ≡ true) 0 refl
cases_good marks left (c ∷ cs) =
    let Q : ℕ → Type 0 = λ (k : ℕ). list_all (case_lands marks) (c ∷ cs) ≡ true in
    good_bind (λ (k : ℕ). begins marks (c.at) ≡ true) Q (wants (begins marks (c.at)) (left - 4)) _ (good_wants (begins marks (c.at)) (left - 4))
    (λ k h. good_more (λ (j : ℕ). list_all (case_lands marks) cs ≡ true) Q (cases_land marks (left - 8) cs) (cases_good marks (left - 8) cs) (λ j g. rw h g))

lands_good : (marks : List Bool) (left at : ℕ) (o : Operand) → Good (λ (k : ℕ). operand_lands marks o ≡ true) (lands marks left at o)
lands_good marks left at (op.Jump to) = good_wants (begins marks to) (left - 1)
lands_good marks left at (op.Switch otherwise cases) =
    let Q : ℕ → Type 0 = λ (k : ℕ). (begins marks otherwise && list_all (case_lands marks) cases) ≡ true in
    good_bind (λ (k : ℕ). begins marks otherwise ≡ true) Q (wants (begins marks otherwise) (left - 1 - padding at)) _ (good_wants (begins marks otherwise) (left - 1 - padding at))
    (λ k h. good_more (λ (j : ℕ). list_all (case_lands marks) cases ≡ true) Q (cases_land marks (left - 9 - padding at) cases) (cases_good marks (left - 9 - padding at) cases) (λ j g. rw h g))
lands_good marks left at _ = good_ok (λ (k : ℕ). true ≡ true) 0 refl

all_land_good : (marks : List Bool) (left at : ℕ) (is : List Ins) → Good (λ (k : ℕ). list_all (ins_lands marks) is ≡ true) (all_land marks left at is)
unfolding all_land
all_land_good marks left at [] = good_ok (λ (k : ℕ). true ≡ true) 0 refl
all_land_good marks left at (i ∷ is) =
    let Q : ℕ → Type 0 = λ (k : ℕ). list_all (ins_lands marks) (i ∷ is) ≡ true in
    good_bind (λ (k : ℕ). operand_lands marks (i.operand) ≡ true) Q (lands marks left at (i.operand)) _ (lands_good marks left at (i.operand))
    (λ k h. good_more (λ (j : ℕ). list_all (ins_lands marks) is ≡ true) Q (all_land marks (left - ins_size at i) (at + ins_size at i) is) (all_land_good marks (left - ins_size at i) (at + ins_size at i) is) (λ j g. rw h g))

-- ---- the body

pub record BodyOk (pool : List Slot) (is : List Ins) (n : ℕ) : Type 0 where
  pub fits : ins_all_fit is ≡ true
  pub size : n ≡ 4 + size_from 0 is
  pub small : size_from 0 is < 65536
  pub uses : Stand pool (flat_map ins_uses is)
  pub loads : Low pool (flat_map ins_first_uses is)

body_ok : (pool : List Slot) (is : List Ins) (told size : ℕ) → CodeOk pool 0 is size → told ≡ size → ((not (eqb told 0) && nat_le told 65535) ≡ true) → list_all (ins_lands (marks_of is)) is ≡ true → BodyOk pool is (4 + size)
unfolding ins_all_fit
body_ok pool is told size code e h g =
    let p = and_parts (not (eqb told 0)) (nat_le told 65535) h in
    let ne = eqb-false told 0 (not-true (eqb told 0) p.0) in
    let le = leb-true told 65535 p.1 in
    record {
      fits = rw (lt-ltb 0 (size_from 0 is) (omega (arith, ne, e, code.size)), lt-ltb (size_from 0 is) 65536 (omega (arith, le, e, code.size)), code.fits) g;
      size = omega (arith, code.size);
      small = omega (arith, le, e, code.size);
      uses = code.uses;
      loads = code.loads;
    }

pub body_good : (pool : List Slot) → PoolOk pool → Reads (BodyOk pool) (body_at pool)
unfolding body_at
body_good pool ok bytes r =
    let Q : List Ins × List ℕ → Type 0 = Got (BodyOk pool) bytes in
    good_bind (Got (Numbered (2 ^ 32) 4) bytes) Q (number_at w32 bytes) _ (u4_good bytes r)
    (λ n pn. good_bind (λ (x : List Ins × List ℕ). n.0 ≤ 65535 → Got (CodeOk pool (length n.1 - length n.1)) n.1 x) Q (code_on pool (length n.1) n.0 n.0 n.1) _
    (record { holds = λ x e small. (code_good pool ok (length n.1) n.0 small n.0 n.1 (omega arith) pn.ranged).holds x e })
    (λ is pis. good_bind (λ (k : ℕ). (not (eqb n.0 0) && nat_le n.0 65535 && eqb (length n.1 - length is.1) n.0) ≡ true) Q (wants (not (eqb n.0 0) && nat_le n.0 65535 && eqb (length n.1 - length is.1) n.0) (length bytes)) _
    (good_wants (not (eqb n.0 0) && nat_le n.0 65535 && eqb (length n.1 - length is.1) n.0) (length bytes))
    (λ k h.
    let p = and_parts (not (eqb n.0 0) && nat_le n.0 65535) (eqb (length n.1 - length is.1) n.0) h in
    let small = leb-true n.0 65535 (and_parts (not (eqb n.0 0)) (nat_le n.0 65535) p.0).1 in
    let code = pis small in
    let met = eqb-true (length n.1 - length is.1) n.0 p.1 in
    let start : length n.1 - length n.1 ≡ 0 = omega arith in
    good_bind (λ (j : ℕ). list_all (ins_lands (marks_of is.0)) is.0 ≡ true) Q (all_land (marks_of is.0) (length n.1) 0 is.0) _ (all_land_good (marks_of is.0) (length n.1) 0 is.0)
    (λ j g. good_ok Q is (record {
      n = 4 + code.n;
      of = body_ok pool is.0 n.0 code.n (subst (λ (x : ℕ). CodeOk pool x is.0 code.n) start code.of) (omega (arith, met, code.took)) p.0 g;
      took = omega (arith, pn.took, pn.of.1, code.took);
      ranged = code.ranged;
    })))))

-- ---- handlers

pub record HandlerOk (pool : List Slot) (marks : List Bool) (h : Handler) (n : ℕ) : Type 0 where
  pub fits : handler_fits marks h ≡ true
  pub size : n ≡ 8
  pub uses : Stand pool (handler_uses h)

handler_fit : (marks : List Bool) (from to at : ℕ) (class : Option (List ℕ)) → begins marks from ≡ true → (ends marks to && nat_lt from to) ≡ true → begins marks at ≡ true → handler_fits marks (record { from = from; to = to; at = at; class = class }) ≡ true
unfolding handler_fits
handler_fit marks from to at class h g i = let p = and_parts (ends marks to) (nat_lt from to) g in rw (h, p.0, p.1, i) refl

pub handler_good : (pool : List Slot) (marks : List Bool) → Reads (HandlerOk pool marks) (handler_at pool marks)
unfolding handler_at
handler_good pool marks bytes r =
    let Q : Handler × List ℕ → Type 0 = Got (HandlerOk pool marks) bytes in
    good_bind (Got (Numbered 65536 2) bytes) Q (number_at w16 bytes) _ (u2_good bytes r)
    (λ from pf. good_bind (λ (k : ℕ). begins marks from.0 ≡ true) Q (wants (begins marks from.0) (length bytes)) _ (good_wants (begins marks from.0) (length bytes))
    (λ k1 h1. good_bind (Got (Numbered 65536 2) from.1) Q (number_at w16 from.1) _ (u2_good from.1 pf.ranged)
    (λ to pt. good_bind (λ (k : ℕ). (ends marks to.0 && nat_lt from.0 to.0) ≡ true) Q (wants (ends marks to.0 && nat_lt from.0 to.0) (length from.1)) _ (good_wants (ends marks to.0 && nat_lt from.0 to.0) (length from.1))
    (λ k2 h2. good_bind (Got (Numbered 65536 2) to.1) Q (number_at w16 to.1) _ (u2_good to.1 pt.ranged)
    (λ at pa. good_bind (λ (k : ℕ). begins marks at.0 ≡ true) Q (wants (begins marks at.0) (length to.1)) _ (good_wants (begins marks at.0) (length to.1))
    (λ k3 h3. good_bind (Got (Uses pool class_or_none_uses 2) at.1) Q (class_or_none_at pool at.1) _ (class_or_none_good pool at.1 pa.ranged)
    (λ class pc. good_ok Q (record { from = from.0; to = to.0; at = at.0; class = class.0 }, class.1) (record {
      n = 8;
      of = record { fits = handler_fit marks from.0 to.0 at.0 class.0 h1 h2 h3; size = refl; uses = pc.of.0 };
      took = omega (arith, pf.took, pf.of.1, pt.took, pt.of.1, pa.took, pa.of.1, pc.took, pc.of.1);
      ranged = pc.ranged;
    }))))))))

-- what holds of a list of them
pub record HandlersOk (pool : List Slot) (marks : List Bool) (hs : List Handler) (n : ℕ) : Type 0 where
  pub fits : list_all (handler_fits marks) hs ≡ true
  pub size : n ≡ 8 * length hs
  pub uses : Stand pool (flat_map handler_uses hs)

pub handlers_ok : (pool : List Slot) (marks : List Bool) (hs : List Handler) (n : ℕ) → Each (HandlerOk pool marks) hs n → HandlersOk pool marks hs n
handlers_ok pool marks [] n e = record { fits = refl; size = omega (arith, e); uses = tt }
handlers_ok pool marks (h ∷ hs) n e =
    let one = e.2 in
    let more = handlers_ok pool marks hs e.1 e.3 in
    record { fits = rw one.fits more.fits; size = omega (arith, one.size, more.size, e.4); uses = all_append (Stands pool) (handler_uses h) (flat_map handler_uses hs) one.uses more.uses }

-- ---- attributes

abbrev pub AttributeOk : List Slot → List ℕ → ℕ → ℕ → Type 0
AttributeOk pool word told n = Stands pool (KnownText word) × (told < 2 ^ 32) × (n ≡ 6)

pub attribute_good : (pool : List Slot) (word : List ℕ) → Reads (AttributeOk pool word) (attribute_at pool word)
unfolding attribute_at
attribute_good pool word bytes r =
    let Q : ℕ × List ℕ → Type 0 = Got (AttributeOk pool word) bytes in
    good_bind (Got (Uses pool text_uses 2) bytes) Q (named_at pool bytes) _ (named_good pool bytes r)
    (λ name pn. good_if Q (bytes_eq name.0 word) _ _
    (λ h. good_more (Got (Numbered (2 ^ 32) 4) name.1) Q (number_at w32 name.1) (u4_good name.1 pn.ranged)
    (λ x px. record { n = 6; of = (subst (λ (t : List ℕ). Stands pool (KnownText t)) ((bytes_eq-Decides name.0 word).0 h) pn.of.0.0, px.of.0, refl); took = omega (arith, pn.took, pn.of.1, px.took, px.of.1); ranged = px.ranged }))
    (λ h. good_err Q (flaw.Tag (length bytes))))

pub ends_good : (told start end : ℕ) → Good (λ (k : ℕ). start - end ≡ told) (attribute_ends told start end)
ends_good told start end = good_more (λ (k : ℕ). eqb (start - end) told ≡ true) (λ (k : ℕ). start - end ≡ told) (wants (eqb (start - end) told) (start + 4)) (good_wants (eqb (start - end) told) (start + 4)) (λ k h. eqb-true (start - end) told h)

pub none_more_good : (pool : List Slot) (n : ℕ) (bytes : List ℕ) → Good (λ (x : ℕ × List ℕ). x.1 ≡ bytes) (no_more_at pool n bytes)
unfolding no_more_at
none_more_good pool n bytes =
    let Q : ℕ × List ℕ → Type 0 = λ (x : ℕ × List ℕ). x.1 ≡ bytes in
    good_if Q (eqb n 0) _ _ (λ h. good_ok Q (0, bytes) refl) (λ h. good_bind (λ (x : List ℕ × List ℕ). Unit {0}) Q (named_at pool bytes) _ (good_any (named_at pool bytes)) (λ x u. good_err Q (flaw.Tag (length bytes))))
