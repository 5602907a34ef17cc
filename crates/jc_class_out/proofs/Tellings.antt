-- Visitors that are told constants.
use Rattle.std.proofs.Common.{◌≡◌, ◌<◌, ℕ, ◌+◌, List, [], ◌∷◌, ◌++◌, length, take, get_or, refl, sym, ap, subst, ◌∙◌, append_assoc}
use Rattle.std.specs.List.{flat_map}
use Rattle.std.proofs.lemmas.List.{take_more}
use Rattle.std.proofs.lemmas.List.Concat.{flat_map-append}
use Rattle.std.proofs.lemmas.List.{append-nil}
use Rattle.jc_class_out.specs.declared.model.Frame.{Frame}
use Rattle.jc_class_out.specs.declared.model.Item.{Item}
use Rattle.jc_class_out.specs.Forms.{form_of}
use Rattle.jc_class_out.specs.Pool.{Known}
use Rattle.jc_class_out.specs.Spelling.{Told, add, adds, form_uses, frames_uses}

pub told_append : {S : Type 0} (sees : S → Known → S → Type 0) (s m t : S) (us vs : List Known) → Told sees s us m → Told sees m vs t → Told sees s (us ++ vs) t
told_append sees s m t [] vs h g = subst (λ (x : _). Told sees x vs t) (sym h) g
told_append sees s m t (u ∷ us) vs h g = (h.0, h.1, told_append sees h.0 m t us vs h.2 g)

-- a loop's step
pub told_more : {S X : Type 0} (sees : S → Known → S → Type 0) (uses : X → List Known) (xs : List X) (i : ℕ) (x : X) (s m t : S)
    → i < length xs → x ≡ get_or xs i x → Told sees s (flat_map uses (take i xs)) m → Told sees m (uses x) t → Told sees s (flat_map uses (take (i + 1) xs)) t
told_more sees uses xs i x s m t lt is h g =
    let e : flat_map uses (take (i + 1) xs) ≡ flat_map uses (take i xs) ++ uses x =
    ap (flat_map uses) (take_more xs i x lt ∙ ap (λ (y : _). take i xs ++ y ∷ []) (sym is)) ∙ flat_map-append uses (take i xs) (x ∷ []) ∙ ap (λ (y : List Known). flat_map uses (take i xs) ++ y) (append-nil (uses x)) in
    subst (λ (us : List Known). Told sees s us t) (sym e) (told_append sees s m t (flat_map uses (take i xs)) (uses x) h g)

-- who gathers them
pub told_adds : {S : Type 0} (view : S → List Known) (s t : S) (us : List Known) → Told (λ (x : S) (k : Known) (y : S). view y ≡ add (view x) k) s us t → view t ≡ adds (view s) us
unfolding adds
told_adds view s t [] h = ap view (sym h)
told_adds view s t (u ∷ us) h = told_adds view h.0 t us h.2 ∙ ap (λ (x : List Known). adds x us) h.1

-- ---- frames, each seen from the one before it

-- the locals before the next frame
abbrev pub seen_after : List Item → List Frame → List Item
seen_after seen [] = seen
seen_after seen (f ∷ fs) = seen_after f.locals fs

seen_push : (seen : List Item) (fs : List Frame) (f : Frame) → seen_after seen (fs ++ f ∷ []) ≡ f.locals
seen_push seen [] f = refl
seen_push seen (x ∷ fs) f = seen_push x.locals fs f

frames_push : (seen : List Item) (fs : List Frame) (f : Frame) → frames_uses seen (fs ++ f ∷ []) ≡ frames_uses seen fs ++ form_uses f (form_of (seen_after seen fs) f)
unfolding frames_uses
frames_push seen [] f = append-nil (form_uses f (form_of seen f))
frames_push seen (x ∷ fs) f = ap (λ (us : List Known). form_uses x (form_of seen x) ++ us) (frames_push x.locals fs f) ∙ sym (append_assoc (form_uses x (form_of seen x)) (frames_uses x.locals fs) (form_uses f (form_of (seen_after x.locals fs) f)))

next_frames : (fs : List Frame) (i : ℕ) (f : Frame) → i < length fs → f ≡ get_or fs i f → take (i + 1) fs ≡ take i fs ++ f ∷ []
next_frames fs i f lt is = take_more fs i f lt ∙ ap (λ (y : Frame). take i fs ++ y ∷ []) (sym is)

pub seen_next : (seen : List Item) (fs : List Frame) (i : ℕ) (f : Frame) → i < length fs → f ≡ get_or fs i f → f.locals ≡ seen_after seen (take (i + 1) fs)
seen_next seen fs i f lt is = sym (ap (seen_after seen) (next_frames fs i f lt is) ∙ seen_push seen (take i fs) f)

pub told_frame : {S : Type 0} (sees : S → Known → S → Type 0) (entry seen : List Item) (fs : List Frame) (i : ℕ) (f : Frame) (s m t : S)
    → i < length fs → f ≡ get_or fs i f → seen ≡ seen_after entry (take i fs) → Told sees s (frames_uses entry (take i fs)) m → Told sees m (form_uses f (form_of seen f)) t → Told sees s (frames_uses entry (take (i + 1) fs)) t
told_frame sees entry seen fs i f s m t lt is before h g =
    let e : frames_uses entry (take (i + 1) fs) ≡ frames_uses entry (take i fs) ++ form_uses f (form_of seen f) =
    ap (frames_uses entry) (next_frames fs i f lt is) ∙ frames_push entry (take i fs) f ∙ ap (λ (x : List Item). frames_uses entry (take i fs) ++ form_uses f (form_of x f)) (sym before) in
    subst (λ (us : List Known). Told sees s us t) (sym e) (told_append sees s m t (frames_uses entry (take i fs)) (form_uses f (form_of seen f)) h g)
