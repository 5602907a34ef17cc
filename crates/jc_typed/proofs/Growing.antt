-- Laws of arenas that grow.
use Rattle.std.proofs.Common.{◌≡◌, refl, ◌∙◌, ℕ, List, ◌<◌, length, arith}
use Rattle.jc_typed.specs.declared.nodes.Node.{Node}
use Rattle.jc_typed.specs.declared.expressions.ExprForm.TheVariants as f
use Rattle.jc_typed.specs.Parts.{FormsStayAbove, Grows, part_of}

pub grows_none : (ps : List Node) → Grows ps ps
grows_none ps = record { longer = omega arith; kept = λ i h. refl }

pub grows_both : (ps qs rs : List Node) → Grows ps qs → Grows qs rs → Grows ps rs
grows_both ps qs rs g h = record {
  longer = omega (arith, g.longer, h.longer);
  kept = λ i l. h.kept i (omega (arith, l, g.longer)) ∙ g.kept i l;
}

pub within : (ps qs : List Node) (i : ℕ) → Grows ps qs → i < length ps → i < length qs
within ps qs i g l = omega (arith, l, g.longer)

-- what stood at a place stands there still
pub kept : (ps qs : List Node) (i : ℕ) → Grows ps qs → i < length ps → part_of qs i ≡ part_of ps i
kept ps qs i g l = g.kept i l

-- a form over fewer nodes is one over more
pub forms_stay_above : FormsStayAbove
forms_stay_above ps qs (f.Constant before value named casts) g b = (within ps qs before g (b.0), within ps qs value g (b.1), within ps qs named g (b.2), within ps qs casts g (b.3))
forms_stay_above ps qs f.Null g b = b
forms_stay_above ps qs (f.Local local) g b = b
forms_stay_above ps qs f.This g b = b
forms_stay_above ps qs (f.StaticField before field is_simple) g b = within ps qs before g b
forms_stay_above ps qs (f.Field of_it field) g b = within ps qs of_it g b
forms_stay_above ps qs (f.Element array index) g b = (within ps qs array g (b.0), within ps qs index g (b.1))
forms_stay_above ps qs (f.Length array) g b = within ps qs array g b
forms_stay_above ps qs (f.Prefix ops of_it) g b = (within ps qs ops g (b.0), within ps qs of_it g (b.1))
forms_stay_above ps qs (f.Chain first links) g b = (within ps qs first g (b.0), within ps qs links g (b.1))
forms_stay_above ps qs (f.AllOf operands from up_to) g b = within ps qs operands g b
forms_stay_above ps qs (f.AnyOf operands from up_to) g b = within ps qs operands g b
forms_stay_above ps qs (f.InstanceOf of_it to) g b = within ps qs of_it g b
forms_stay_above ps qs (f.Conditional test then other from up_to) g b = (within ps qs test g (b.0), within ps qs then g (b.1), within ps qs other g (b.2))
forms_stay_above ps qs (f.Assign variable value store) g b = (within ps qs variable g (b.0), within ps qs value g (b.1), within ps qs store g (b.2))
forms_stay_above ps qs (f.Compound variable joint left right into) g b = (within ps qs variable g (b.0), within ps qs left g (b.1), within ps qs right g (b.2), within ps qs into g (b.3))
forms_stay_above ps qs (f.Change variable op from into is_prefix) g b = (within ps qs variable g (b.0), within ps qs from g (b.1), within ps qs into g (b.2))
forms_stay_above ps qs (f.Call kind receiver method type_args args phase thrown is_raw) g b = (within ps qs receiver g (b.0), within ps qs type_args g (b.1), within ps qs args g (b.2), within ps qs thrown g (b.3))
forms_stay_above ps qs (f.New constructor args phase thrown is_raw) g b = (within ps qs args g (b.0), within ps qs thrown g (b.1))
forms_stay_above ps qs (f.NewArray lengths) g b = within ps qs lengths g b
forms_stay_above ps qs (f.ArrayOf elements) g b = within ps qs elements g b
forms_stay_above ps qs (f.Cast of_it to steps is_below) g b = (within ps qs of_it g (b.0), within ps qs to g (b.1), within ps qs steps g (b.2))

pub ruleset growing = (grows_none, grows_both, within, kept)
