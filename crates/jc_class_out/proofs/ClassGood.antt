-- A class that was read fits.
use Rattle.std.proofs.Common.{◌≡◌, ◌<◌, ◌≤◌, ◌^◌, ℕ, ◌+◌, ◌-◌, Bool, true, false, cond, eqb, List, [], ◌∷◌, ◌++◌, length, Option, Some, None, refl, sym, ap, subst, arith}
use Rattle.std.specs.Prelude.{not, codes}
use Rattle.std.specs.Int.{w16, w32}
use Rattle.std.specs.List.{flat_map, list_all}
use Rattle.std.proofs.lemmas.Bool.{lt-ltb, le-leb}
use Rattle.jc_class_out.specs.declared.format.Flaw.TheVariants as flaw
use Rattle.jc_class_out.specs.declared.format.Slot.{Slot}
use Rattle.jc_class_out.specs.declared.model.ClassModel.{ClassModel}
use Rattle.jc_class_out.specs.declared.model.CodeModel.{CodeModel}
use Rattle.jc_class_out.specs.declared.model.FieldModel.{FieldModel}
use Rattle.jc_class_out.specs.declared.model.InnerModel.{InnerModel}
use Rattle.jc_class_out.specs.declared.model.Item.{Item}
use Rattle.jc_class_out.specs.declared.model.MethodModel.{MethodModel}
use Rattle.jc_class_out.specs.Reading.{wants, number_at, listed}
use Rattle.jc_class_out.specs.Descriptors.{is_field_descriptor, is_method_descriptor, entry_locals}
use Rattle.jc_class_out.specs.Pool.{Known, KnownText, named_at, class_named_at, class_or_none_at, name_or_none_at, descriptor_at}
use Rattle.jc_class_out.specs.Code.{attribute_at, attribute_ends, no_more_at, marks_of, body_at, handler_at, code_attributes_at, code_at}
use Rattle.jc_class_out.specs.Format.{major, field_at, is_bodiless, code_attribute_at, with_code_at, without_code_at, method_at, inner_at, inners_at, class_attributes_at, head_at, members_at}
use Rattle.jc_class_out.specs.Spelling.{class_uses, class_or_none_uses, name_or_none_uses, ins_uses, ins_first_uses, handler_uses, table_uses, code_uses, code_or_none_uses, entry_of_method, method_uses, code_first_uses, method_first_uses, field_uses, inner_uses, inners_uses, members_uses, loads_of, uses}
use Rattle.jc_class_out.specs.Fitting.{known_fits, places, tables_fit, frames_room, code_fits, code_or_none_fits, method_fits, field_fits, inner_fits, counts_fit, members_fit, pool_fits, fits_of}
use Rattle.jc_class_out.proofs.Good.{Good, good_ok, good_err, good_bind, good_if, good_wants, Ranged, Got, Numbered, Reads, Each, Listed, listed_good, u2_good, u4_good}
use Rattle.jc_class_out.proofs.PoolGood.{Kept, PoolOk, pool_good}
use Rattle.jc_class_out.proofs.Stands.{StandsBelow, Stands, Stand, known_at, stands_fits, below_stands}
use Rattle.jc_class_out.proofs.InsGood.{Uses, text_uses, named_good, class_named_good, class_or_none_good, name_or_none_good, Tested, descriptor_good, Low}
use Rattle.jc_class_out.proofs.CodeGood.{all_append, BodyOk, body_good, HandlerOk, handler_good, HandlersOk, handlers_ok, AttributeOk, attribute_good, ends_good, none_more_good}
use Rattle.jc_class_out.proofs.FramesGood.{TableOk, code_attributes_good}
use Rattle.jc_class_out.proofs.Distinct.{few_places}
use Rattle.jc_class_out.proofs.FileAgain.{parts_by}

-- ---- code

-- its length is told by four bytes
record CodeOk (pool : List Slot) (entry : List Item) (c : CodeModel) (n : ℕ) : Type 0 where
  fits : n < 2 ^ 32 → code_fits entry c ≡ true
  uses : Stand pool (code_uses entry c)
  loads : Low pool (flat_map ins_first_uses (c.ins))

code_ok : (pool : List Slot) (entry : List Item) (c : CodeModel) (body handlers attributes : ℕ) → c.stack < 65536 → c.locals < 65536 → BodyOk pool (c.ins) body → HandlersOk pool (marks_of (c.ins)) (c.handlers) handlers → length (c.handlers) < 65536
    → TableOk pool (marks_of (c.ins)) entry 10 (c.frames) attributes → CodeOk pool entry c (4 + (body + ((2 + handlers) + attributes)))
unfolding code_fits tables_fit code_uses
code_ok pool entry c body handlers attributes l1 l2 b h few t = record {
  fits = λ lt.
      let within = t.size (frames_room c) (omega (arith, lt, b.size, h.size)) in
      rw (lt-ltb c.stack 65536 l1, lt-ltb c.locals 65536 l2, b.fits, lt-ltb (length c.handlers) 65536 few, h.fits, t.few, t.fits) within;
  uses = all_append (Stands pool) (flat_map ins_uses (c.ins)) (flat_map handler_uses (c.handlers) ++ table_uses entry (c.frames)) b.uses (all_append (Stands pool) (flat_map handler_uses (c.handlers)) (table_uses entry (c.frames)) h.uses t.uses);
  loads = b.loads;
}

code_good : (pool : List Slot) → PoolOk pool → (entry : List Item) → Reads (CodeOk pool entry) (code_at pool entry)
unfolding code_at
code_good pool ok entry bytes r =
    let Q : CodeModel × List ℕ → Type 0 = Got (CodeOk pool entry) bytes in
    good_bind (Got (Numbered 65536 2) bytes) Q (number_at w16 bytes) _ (u2_good bytes r)
    (λ stack ps. good_bind (Got (Numbered 65536 2) stack.1) Q (number_at w16 stack.1) _ (u2_good stack.1 ps.ranged)
    (λ locals pl. good_bind (Got (BodyOk pool) locals.1) Q (body_at pool locals.1) _ (body_good pool ok locals.1 pl.ranged)
    (λ is pi. good_bind (Got (Listed (HandlerOk pool (marks_of is.0))) is.1) Q (listed (handler_at pool (marks_of is.0)) is.1) _ (listed_good (HandlerOk pool (marks_of is.0)) (handler_at pool (marks_of is.0)) (handler_good pool (marks_of is.0)) is.1 pi.ranged)
    (λ hs ph. good_bind (Got (TableOk pool (marks_of is.0) entry 10) hs.1) Q (code_attributes_at pool (marks_of is.0) entry hs.1) _ (code_attributes_good pool (marks_of is.0) entry hs.1 ph.ranged)
    (λ fs pf.
    let c : CodeModel = record { stack = stack.0; locals = locals.0; ins = is.0; handlers = hs.0; frames = fs.0 } in
    let handlers = handlers_ok pool (marks_of is.0) hs.0 ph.of.1 ph.of.2 in
    good_ok Q (record { stack = stack.0; locals = locals.0; ins = is.0; handlers = hs.0; frames = fs.0 }, fs.1) (record {
      n = 4 + (pi.n + ((2 + ph.of.1) + pf.n));
      of = code_ok pool entry c pi.n ph.of.1 pf.n ps.of.0 pl.of.0 pi.of handlers ph.of.0 pf.of;
      took = omega (arith, ps.took, ps.of.1, pl.took, pl.of.1, pi.took, ph.took, ph.of.3, pf.took);
      ranged = pf.ranged;
    }))))))

-- ---- methods

record CodeRead (pool : List Slot) (bodiless : Bool) (entry : List Item) (o : Option CodeModel) (n : ℕ) : Type 0 where
  fits : code_or_none_fits bodiless entry o ≡ true
  uses : Stand pool (code_or_none_uses entry o)
  loads : Low pool (code_first_uses o)

record CodeWhole (pool : List Slot) (entry : List Item) (c : CodeModel) (n : ℕ) : Type 0 where
  fits : code_fits entry c ≡ true
  named : Stands pool (KnownText (codes "Code"))
  uses : Stand pool (code_uses entry c)
  loads : Low pool (flat_map ins_first_uses (c.ins))

code_attribute_good : (pool : List Slot) → PoolOk pool → (entry : List Item) → Reads (CodeWhole pool entry) (code_attribute_at pool entry)
unfolding code_attribute_at
code_attribute_good pool ok entry bytes r =
    let Q : CodeModel × List ℕ → Type 0 = Got (CodeWhole pool entry) bytes in
    good_bind (Got (AttributeOk pool (codes "Code")) bytes) Q (attribute_at pool (codes "Code") bytes) _ (attribute_good pool (codes "Code") bytes r)
    (λ n pn. good_bind (Got (CodeOk pool entry) n.1) Q (code_at pool entry n.1) _ (code_good pool ok entry n.1 pn.ranged)
    (λ c pc. good_bind (λ (k : ℕ). length n.1 - length c.1 ≡ n.0) Q (attribute_ends n.0 (length n.1) (length c.1)) _ (ends_good n.0 (length n.1) (length c.1))
    (λ k met. good_ok Q c (record {
      n = 6 + pc.n;
      of = record { fits = pc.of.fits (omega (arith, met, pc.took, pn.of.1)); named = pn.of.0; uses = pc.of.uses; loads = pc.of.loads };
      took = omega (arith, pn.took, pn.of.2, pc.took);
      ranged = pc.ranged;
    }))))

with_code_good : (pool : List Slot) → PoolOk pool → (entry : List Item) → Reads (CodeRead pool false entry) (with_code_at pool entry)
unfolding with_code_at
with_code_good pool ok entry bytes r =
    let Q : Option CodeModel × List ℕ → Type 0 = Got (CodeRead pool false entry) bytes in
    good_bind (Got (Numbered 65536 2) bytes) Q (number_at w16 bytes) _ (u2_good bytes r)
    (λ n pn. good_bind (λ (k : ℕ). not (eqb n.0 0) ≡ true) Q (wants (not (eqb n.0 0)) (length bytes)) _ (good_wants (not (eqb n.0 0)) (length bytes))
    (λ k h. good_bind (Got (CodeWhole pool entry) n.1) Q (code_attribute_at pool entry n.1) _ (code_attribute_good pool ok entry n.1 pn.ranged)
    (λ c pc. good_bind (λ (x : ℕ × List ℕ). x.1 ≡ c.1) Q (no_more_at pool (n.0 - 1) c.1) _ (none_more_good pool (n.0 - 1) c.1)
    (λ more same. good_ok Q (Some c.0, more.1) (record {
      n = 2 + pc.n;
      of = record { fits = pc.of.fits; uses = (pc.of.named, pc.of.uses); loads = pc.of.loads };
      took = omega (arith, pn.took, pn.of.1, pc.took, ap (length {A = ℕ}) same);
      ranged = subst Ranged (sym same) pc.ranged;
    })))))

without_code_good : (pool : List Slot) (entry : List Item) → Reads (CodeRead pool true entry) (without_code_at pool)
unfolding without_code_at
without_code_good pool entry bytes r =
    let Q : Option CodeModel × List ℕ → Type 0 = Got (CodeRead pool true entry) bytes in
    good_bind (Got (Numbered 65536 2) bytes) Q (number_at w16 bytes) _ (u2_good bytes r)
    (λ n pn. good_bind (λ (x : ℕ × List ℕ). x.1 ≡ n.1) Q (no_more_at pool n.0 n.1) _ (none_more_good pool n.0 n.1)
    (λ more same. good_ok Q (None, more.1) (record {
      n = 2;
      of = record { fits = refl; uses = tt; loads = tt };
      took = omega (arith, pn.took, pn.of.1, ap (length {A = ℕ}) same);
      ranged = subst Ranged (sym same) pn.ranged;
    })))

some_code_good : (pool : List Slot) → PoolOk pool → (entry : List Item) (bodiless : Bool) (bytes : List ℕ) → Ranged bytes → Good (Got (CodeRead pool bodiless entry) bytes) (cond bodiless (without_code_at pool bytes) (with_code_at pool entry bytes))
some_code_good pool ok entry true bytes r = without_code_good pool entry bytes r
some_code_good pool ok entry false bytes r = with_code_good pool ok entry bytes r

record MethodOk (pool : List Slot) (class : List ℕ) (m : MethodModel) (n : ℕ) : Type 0 where
  fits : method_fits class m ≡ true
  uses : Stand pool (method_uses class m)
  loads : Low pool (method_first_uses m)

method_ok : (pool : List Slot) (class : List ℕ) (m : MethodModel) (n k : ℕ) → m.flags < 65536 → is_method_descriptor (m.descriptor) ≡ true → Stands pool (KnownText (m.name)) → Stands pool (KnownText (m.descriptor)) → CodeRead pool (is_bodiless (m.flags)) (entry_of_method class m) (m.code) k → MethodOk pool class m n
unfolding method_fits method_uses
method_ok pool class m n k lt d s t c = record { fits = rw (lt-ltb m.flags 65536 lt, d) c.fits; uses = (s, (t, c.uses)); loads = c.loads }

method_good : (pool : List Slot) → PoolOk pool → (class : List ℕ) → Reads (MethodOk pool class) (method_at pool class)
unfolding method_at
method_good pool ok class bytes r =
    let Q : MethodModel × List ℕ → Type 0 = Got (MethodOk pool class) bytes in
    good_bind (Got (Numbered 65536 2) bytes) Q (number_at w16 bytes) _ (u2_good bytes r)
    (λ flags pf. good_bind (Got (Uses pool text_uses 2) flags.1) Q (named_at pool flags.1) _ (named_good pool flags.1 pf.ranged)
    (λ name pn. good_bind (Got (Tested pool is_method_descriptor) name.1) Q (descriptor_at is_method_descriptor pool name.1) _ (descriptor_good pool is_method_descriptor name.1 pn.ranged)
    (λ d pd. good_bind (Got (CodeRead pool (is_bodiless flags.0) (entry_locals class flags.0 name.0 d.0)) d.1) Q
    (cond (is_bodiless flags.0) (without_code_at pool d.1) (with_code_at pool (entry_locals class flags.0 name.0 d.0) d.1)) _ (some_code_good pool ok (entry_locals class flags.0 name.0 d.0) (is_bodiless flags.0) d.1 pd.ranged)
    (λ c pc.
    let m : MethodModel = record { flags = flags.0; name = name.0; descriptor = d.0; code = c.0 } in
    good_ok Q (record { flags = flags.0; name = name.0; descriptor = d.0; code = c.0 }, c.1) (record {
      n = 6 + pc.n;
      of = method_ok pool class m (6 + pc.n) pc.n pf.of.0 pd.of.1 pn.of.0.0 pd.of.0.0 pc.of;
      took = omega (arith, pf.took, pf.of.1, pn.took, pn.of.1, pd.took, pd.of.2, pc.took);
      ranged = pc.ranged;
    })))))

-- ---- fields and inner classes

record FieldOk (pool : List Slot) (f : FieldModel) (n : ℕ) : Type 0 where
  fits : field_fits f ≡ true
  uses : Stand pool (field_uses f)

field_ok : (pool : List Slot) (f : FieldModel) (n : ℕ) → f.flags < 65536 → is_field_descriptor (f.descriptor) ≡ true → Stands pool (KnownText (f.name)) → Stands pool (KnownText (f.descriptor)) → FieldOk pool f n
unfolding field_fits field_uses
field_ok pool f n lt d s t = record { fits = rw (lt-ltb f.flags 65536 lt) d; uses = (s, (t, tt)) }

field_good : (pool : List Slot) → Reads (FieldOk pool) (field_at pool)
unfolding field_at
field_good pool bytes r =
    let Q : FieldModel × List ℕ → Type 0 = Got (FieldOk pool) bytes in
    good_bind (Got (Numbered 65536 2) bytes) Q (number_at w16 bytes) _ (u2_good bytes r)
    (λ flags pf. good_bind (Got (Uses pool text_uses 2) flags.1) Q (named_at pool flags.1) _ (named_good pool flags.1 pf.ranged)
    (λ name pn. good_bind (Got (Tested pool is_field_descriptor) name.1) Q (descriptor_at is_field_descriptor pool name.1) _ (descriptor_good pool is_field_descriptor name.1 pn.ranged)
    (λ d pd. good_bind (Got (Numbered 65536 2) d.1) Q (number_at w16 d.1) _ (u2_good d.1 pd.ranged)
    (λ n pm. good_bind (λ (x : ℕ × List ℕ). x.1 ≡ n.1) Q (no_more_at pool n.0 n.1) _ (none_more_good pool n.0 n.1)
    (λ more same.
    let f : FieldModel = record { flags = flags.0; name = name.0; descriptor = d.0 } in
    good_ok Q (record { flags = flags.0; name = name.0; descriptor = d.0 }, more.1) (record {
      n = 8;
      of = field_ok pool f 8 pf.of.0 pd.of.1 pn.of.0.0 pd.of.0.0;
      took = omega (arith, pf.took, pf.of.1, pn.took, pn.of.1, pd.took, pd.of.2, pm.took, pm.of.1, ap (length {A = ℕ}) same);
      ranged = subst Ranged (sym same) pm.ranged;
    }))))))

record InnerOk (pool : List Slot) (i : InnerModel) (n : ℕ) : Type 0 where
  fits : inner_fits i ≡ true
  uses : Stand pool (inner_uses i)

inner_ok : (pool : List Slot) (i : InnerModel) (n : ℕ) → i.flags < 65536 → Stand pool (class_uses (i.inner)) → Stand pool (class_or_none_uses (i.outer)) → Stand pool (name_or_none_uses (i.name)) → InnerOk pool i n
unfolding inner_uses
inner_ok pool i n lt a b c = record {
  fits = lt-ltb i.flags 65536 lt;
  uses = all_append (Stands pool) (class_uses (i.inner)) (class_or_none_uses (i.outer) ++ name_or_none_uses (i.name)) a (all_append (Stands pool) (class_or_none_uses (i.outer)) (name_or_none_uses (i.name)) b c);
}

inner_good : (pool : List Slot) → Reads (InnerOk pool) (inner_at pool)
unfolding inner_at
inner_good pool bytes r =
    let Q : InnerModel × List ℕ → Type 0 = Got (InnerOk pool) bytes in
    good_bind (Got (Uses pool class_uses 2) bytes) Q (class_named_at pool bytes) _ (class_named_good pool bytes r)
    (λ inner pi. good_bind (Got (Uses pool class_or_none_uses 2) inner.1) Q (class_or_none_at pool inner.1) _ (class_or_none_good pool inner.1 pi.ranged)
    (λ outer po. good_bind (Got (Uses pool name_or_none_uses 2) outer.1) Q (name_or_none_at pool outer.1) _ (name_or_none_good pool outer.1 po.ranged)
    (λ name pn. good_bind (Got (Numbered 65536 2) name.1) Q (number_at w16 name.1) _ (u2_good name.1 pn.ranged)
    (λ flags pf.
    let i : InnerModel = record { inner = inner.0; outer = outer.0; name = name.0; flags = flags.0 } in
    good_ok Q (record { inner = inner.0; outer = outer.0; name = name.0; flags = flags.0 }, flags.1) (record {
      n = 8;
      of = inner_ok pool i 8 pf.of.0 pi.of.0 po.of.0 pn.of.0;
      took = omega (arith, pi.took, pi.of.1, po.took, po.of.1, pn.took, pn.of.1, pf.took, pf.of.1);
      ranged = pf.ranged;
    })))))

-- ---- lists of members

record Members {A : Type 0} (pool : List Slot) (test : A → Bool) (uses : A → List Known) (xs : List A) : Type 0 where
  fits : list_all test xs ≡ true
  stand : Stand pool (flat_map uses xs)

fields_ok : (pool : List Slot) (fs : List FieldModel) (n : ℕ) → Each (FieldOk pool) fs n → Members pool field_fits field_uses fs
fields_ok pool [] n e = record { fits = refl; stand = tt }
fields_ok pool (f ∷ fs) n e =
    let more = fields_ok pool fs e.1 e.3 in
    record { fits = rw e.2.fits more.fits; stand = all_append (Stands pool) (field_uses f) (flat_map field_uses fs) e.2.uses more.stand }

inners_ok : (pool : List Slot) (is : List InnerModel) (n : ℕ) → Each (InnerOk pool) is n → Members pool inner_fits inner_uses is
inners_ok pool [] n e = record { fits = refl; stand = tt }
inners_ok pool (i ∷ is) n e =
    let more = inners_ok pool is e.1 e.3 in
    record { fits = rw e.2.fits more.fits; stand = all_append (Stands pool) (inner_uses i) (flat_map inner_uses is) e.2.uses more.stand }

methods_ok : (pool : List Slot) (class : List ℕ) (ms : List MethodModel) (n : ℕ) → Each (MethodOk pool class) ms n → Members pool (method_fits class) (method_uses class) ms
methods_ok pool class [] n e = record { fits = refl; stand = tt }
methods_ok pool class (m ∷ ms) n e =
    let more = methods_ok pool class ms e.1 e.3 in
    record { fits = rw e.2.fits more.fits; stand = all_append (Stands pool) (method_uses class m) (flat_map (method_uses class) ms) e.2.uses more.stand }

methods_low : (pool : List Slot) (class : List ℕ) (ms : List MethodModel) (n : ℕ) → Each (MethodOk pool class) ms n → Low pool (flat_map method_first_uses ms)
methods_low pool class [] n e = tt
methods_low pool class (m ∷ ms) n e = all_append (StandsBelow pool 255) (method_first_uses m) (flat_map method_first_uses ms) e.2.loads (methods_low pool class ms e.1 e.3)

names_stand : (pool : List Slot) (ns : List (List ℕ)) (n : ℕ) → Each (Uses pool class_uses 2) ns n → Stand pool (flat_map class_uses ns)
names_stand pool [] n e = tt
names_stand pool (t ∷ ns) n e = all_append (Stands pool) (class_uses t) (flat_map class_uses ns) e.2.0 (names_stand pool ns e.1 e.3)

-- ---- the class

record InnersRead (pool : List Slot) (is : List InnerModel) (n : ℕ) : Type 0 where
  few : length is < 65536
  fits : list_all inner_fits is ≡ true
  uses : Stand pool (inners_uses is)

inners_named : (pool : List Slot) (is : List InnerModel) → Stands pool (KnownText (codes "InnerClasses")) → Stand pool (flat_map inner_uses is) → Stand pool (inners_uses is)
inners_named pool [] h g = tt
inners_named pool (i ∷ is) h g = (h, g)

inners_good : (pool : List Slot) → Reads (InnersRead pool) (inners_at pool)
unfolding inners_at
inners_good pool bytes r =
    let Q : List InnerModel × List ℕ → Type 0 = Got (InnersRead pool) bytes in
    good_bind (Got (AttributeOk pool (codes "InnerClasses")) bytes) Q (attribute_at pool (codes "InnerClasses") bytes) _ (attribute_good pool (codes "InnerClasses") bytes r)
    (λ n pn. good_bind (Got (Listed (InnerOk pool)) n.1) Q (listed (inner_at pool) n.1) _ (listed_good (InnerOk pool) (inner_at pool) (inner_good pool) n.1 pn.ranged)
    (λ rows pr. good_bind (λ (k : ℕ). length n.1 - length rows.1 ≡ n.0) Q (attribute_ends n.0 (length n.1) (length rows.1)) _ (ends_good n.0 (length n.1) (length rows.1))
    (λ k met.
    let all = inners_ok pool rows.0 pr.of.1 pr.of.2 in
    good_ok Q rows (record {
      n = 6 + pr.n;
      of = record { few = pr.of.0; fits = all.fits; uses = inners_named pool rows.0 pn.of.0 all.stand };
      took = omega (arith, pn.took, pn.of.2, pr.took);
      ranged = pr.ranged;
    }))))

class_attributes_good : (pool : List Slot) → Reads (InnersRead pool) (class_attributes_at pool)
unfolding class_attributes_at
class_attributes_good pool bytes r =
    let Q : List InnerModel × List ℕ → Type 0 = Got (InnersRead pool) bytes in
    good_bind (Got (Numbered 65536 2) bytes) Q (number_at w16 bytes) _ (u2_good bytes r)
    (λ n pn. good_if Q (eqb n.0 0) _ _ (λ h. good_ok Q ([], n.1) (record { n = 2; of = record { few = omega arith; fits = refl; uses = tt }; took = omega (arith, pn.took, pn.of.1); ranged = pn.ranged }))
    (λ h. good_bind (Got (InnersRead pool) n.1) Q (inners_at pool n.1) _ (inners_good pool n.1 pn.ranged)
    (λ rows pr. good_bind (λ (x : ℕ × List ℕ). x.1 ≡ rows.1) Q (no_more_at pool (n.0 - 1) rows.1) _ (none_more_good pool (n.0 - 1) rows.1)
    (λ more same. good_ok Q (rows.0, more.1) (record {
      n = 2 + pr.n;
      of = record { few = pr.of.few; fits = pr.of.fits; uses = pr.of.uses };
      took = omega (arith, pn.took, pn.of.1, pr.took, ap (length {A = ℕ}) same);
      ranged = subst Ranged (sym same) pr.ranged;
    })))))

pub record ClassOk (pool : List Slot) (c : ClassModel) : Type 0 where
  fits : members_fit c ≡ true
  uses : Stand pool (members_uses c)
  loads : Low pool (loads_of c)

class_ok : (pool : List Slot) (c : ClassModel) → c.flags < 65536 → length (c.interfaces) < 65536 → length (c.fields) < 65536 → length (c.methods) < 65536 → length (c.inner) < 65536
    → Members pool field_fits field_uses (c.fields) → Members pool (method_fits (c.name)) (method_uses (c.name)) (c.methods) → list_all inner_fits (c.inner) ≡ true
    → Stand pool (class_uses (c.name)) → Stand pool (class_or_none_uses (c.superclass)) → Stand pool (flat_map class_uses (c.interfaces)) → Stand pool (inners_uses (c.inner)) → Low pool (flat_map method_first_uses (c.methods)) → ClassOk pool c
unfolding members_fit counts_fit members_uses loads_of
class_ok pool c l0 l1 l2 l3 l4 fs ms is n s i r low =
    let us5 = inners_uses (c.inner) in
    let us4 = flat_map (method_uses (c.name)) (c.methods) ++ inners_uses (c.inner) in
    let us3 = flat_map field_uses (c.fields) ++ us4 in
    let us2 = flat_map class_uses (c.interfaces) ++ us3 in
    let us1 = class_or_none_uses (c.superclass) ++ us2 in
    let p = Stands pool in
    record {
      fits = rw (lt-ltb c.flags 65536 l0, lt-ltb (length c.interfaces) 65536 l1, lt-ltb (length c.fields) 65536 l2, lt-ltb (length c.methods) 65536 l3, lt-ltb (length c.inner) 65536 l4, fs.fits, ms.fits) is;
      uses = all_append p (class_uses (c.name)) us1 n (all_append p (class_or_none_uses (c.superclass)) us2 s (all_append p (flat_map class_uses (c.interfaces)) us3 i
          (all_append p (flat_map field_uses (c.fields)) us4 fs.stand (all_append p (flat_map (method_uses (c.name)) (c.methods)) us5 ms.stand r))));
      loads = low;
    }

pub members_good : (pool : List Slot) → PoolOk pool → (bytes : List ℕ) → Ranged bytes → Good (λ (x : ClassModel × List ℕ). ClassOk pool x.0) (members_at pool bytes)
unfolding members_at
members_good pool ok bytes r =
    let Q : ClassModel × List ℕ → Type 0 = λ (x : ClassModel × List ℕ). ClassOk pool x.0 in
    good_bind (Got (Numbered 65536 2) bytes) Q (number_at w16 bytes) _ (u2_good bytes r)
    (λ flags pf. good_bind (Got (Uses pool class_uses 2) flags.1) Q (class_named_at pool flags.1) _ (class_named_good pool flags.1 pf.ranged)
    (λ name pn. good_bind (Got (Uses pool class_or_none_uses 2) name.1) Q (class_or_none_at pool name.1) _ (class_or_none_good pool name.1 pn.ranged)
    (λ super ps. good_bind (Got (Listed (Uses pool class_uses 2)) super.1) Q (listed (class_named_at pool) super.1) _ (listed_good (Uses pool class_uses 2) (class_named_at pool) (class_named_good pool) super.1 ps.ranged)
    (λ is pi. good_bind (Got (Listed (FieldOk pool)) is.1) Q (listed (field_at pool) is.1) _ (listed_good (FieldOk pool) (field_at pool) (field_good pool) is.1 pi.ranged)
    (λ fs pd. good_bind (Got (Listed (MethodOk pool name.0)) fs.1) Q (listed (method_at pool name.0) fs.1) _ (listed_good (MethodOk pool name.0) (method_at pool name.0) (method_good pool ok name.0) fs.1 pd.ranged)
    (λ ms pm. good_bind (Got (InnersRead pool) ms.1) Q (class_attributes_at pool ms.1) _ (class_attributes_good pool ms.1 pm.ranged)
    (λ inner pr.
    let c : ClassModel = record { flags = flags.0; name = name.0; superclass = super.0; interfaces = is.0; fields = fs.0; methods = ms.0; inner = inner.0 } in
    good_ok Q (record { flags = flags.0; name = name.0; superclass = super.0; interfaces = is.0; fields = fs.0; methods = ms.0; inner = inner.0 }, inner.1)
    (class_ok pool c pf.of.0 pi.of.0 pd.of.0 pm.of.0 pr.of.few (fields_ok pool fs.0 pd.of.1 pd.of.2) (methods_ok pool name.0 ms.0 pm.of.1 pm.of.2) pr.of.fits pn.of.0 ps.of.0 (names_stand pool is.0 pi.of.1 pi.of.2) pr.of.uses (methods_low pool name.0 ms.0 pm.of.1 pm.of.2)))))))))

pub head_good : (bytes : List ℕ) → Ranged bytes → Good (Kept PoolOk) (head_at bytes)
unfolding head_at
head_good bytes r =
    let Q : List Slot × List ℕ → Type 0 = Kept PoolOk in
    good_bind (Got (Numbered (2 ^ 32) 4) bytes) Q (number_at w32 bytes) _ (u4_good bytes r)
    (λ magic pm. good_if Q (not (eqb magic.0 0xCAFEBABE)) _ _ (λ h. good_err Q flaw.Magic)
    (λ h. good_bind (Got (Numbered 65536 2) magic.1) Q (number_at w16 magic.1) _ (u2_good magic.1 pm.ranged)
    (λ minor pn. good_if Q (not (eqb minor.0 0)) _ _ (λ g. good_err Q flaw.Version)
    (λ g. good_bind (Got (Numbered 65536 2) minor.1) Q (number_at w16 minor.1) _ (u2_good minor.1 pn.ranged)
    (λ version pv. good_if Q (not (eqb version.0 major)) _ _ (λ i. good_err Q flaw.Version) (λ i. pool_good version.1 pv.ranged))))))

-- ---- it fits

all_known_fit : (pool : List Slot) → PoolOk pool → (us : List Known) → Stand pool us → list_all known_fits us ≡ true
all_known_fit pool ok [] s = refl
all_known_fit pool ok (u ∷ us) s = rw (stands_fits pool ok (length pool) u s.0) (all_known_fit pool ok us s.1)

low_stand : (pool : List Slot) (ks : List Known) → Low pool ks → Stand pool ks
low_stand pool [] l = tt
low_stand pool (k ∷ ks) l = (below_stands pool 255 k l.0, low_stand pool ks l.1)

pub class_fits : (pool : List Slot) → PoolOk pool → (c : ClassModel) → ClassOk pool c → fits_of c ≡ true
unfolding fits_of pool_fits uses
class_fits pool ok c h =
    let all : Stand pool (loads_of c ++ members_uses c) = all_append (Stands pool) (loads_of c) (members_uses c) (low_stand pool (loads_of c) h.loads) h.uses in
    let few_loads : places (loads_of c) ≤ 255 = few_places (known_at pool) 255 (loads_of c) (λ k t. parts_by (loads_of c) (StandsBelow pool 255) h.loads k t) in
    let few_uses : places (loads_of c ++ members_uses c) ≤ length pool = few_places (known_at pool) (length pool) (loads_of c ++ members_uses c) (λ k t. parts_by (loads_of c ++ members_uses c) (Stands pool) all k t) in
    rw (h.fits, all_known_fit pool ok (loads_of c ++ members_uses c) all, le-leb (places (loads_of c)) 255 few_loads, le-leb (places (loads_of c ++ members_uses c)) 65534 (omega (arith, few_uses, ok.short))) refl
