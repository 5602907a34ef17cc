-- The offsets of what a program declares stand in the tokens of its sources, in the order of the declarations.
use Rattle.std.proofs.Common.{◌≡◌, ◌+◌, ℕ, zero, suc, Bool, true, false, Some, List, [], ◌∷◌, ◌++◌, map, length, slice_get, arith, refl, sym, ap, subst, ◌∙◌}
use Rattle.std.specs.Prelude.{cond}
use Rattle.jc_lexer.specs.declared.token.Key.TheVariants as key_of
use Rattle.jc_lexer.specs.declared.token.Sign.TheVariants as sign_of
use Rattle.jc_tree.specs.declared.statement.Clause.{Clause}
use Rattle.jc_tree.specs.declared.statement.Declaration.{Declaration, Declaration-F, fold-roll-Declaration, ind-Declaration, map-Declaration, roll-Declaration}
use Rattle.jc_tree.specs.declared.statement.DeclarationHead.{DeclarationHead}
use Rattle.jc_tree.specs.declared.statement.Import.{Import}
use Rattle.jc_tree.specs.declared.statement.LocalVars.{LocalVars}
use Rattle.jc_tree.specs.declared.statement.Member.{Member, Member-F, fold-roll-Member, map-Member, roll-Member}
use Rattle.jc_tree.specs.declared.statement.MethodHead.{MethodHead}
use Rattle.jc_tree.specs.declared.statement.Package.{Package}
use Rattle.jc_tree.specs.declared.statement.Stmt.{Stmt}
use Rattle.jc_tree.specs.declared.statement.TopLevel.{TopLevel}
use Rattle.jc_tree.specs.declared.statement.TopLevel.TheVariants as top_of
use Rattle.jc_tree.specs.declared.statement.TypeParam.{TypeParam}
use Rattle.jc_tree.specs.declared.statement.Var.{Var}
use Rattle.jc_tree.specs.Offsets.{first_offset_of_head, first_offset_of_method}
use Rattle.jc_types.specs.declared.declarations.Owner.{Owner}
use Rattle.jc_types.specs.declared.declarations.Owner.TheVariants as owner
use Rattle.jc_declares.specs.declared.heads.ScopeForm.TheVariants as scope_of
use Rattle.jc_declares.specs.declared.heads.ScopeHead.{ScopeHead}
use Rattle.jc_declares.specs.declared.heads.Standing.{Standing}
use Rattle.jc_declares.specs.declared.unit.SourceUnit.{SourceUnit}
use Rattle.jc_declares.specs.Words.{says_static}
use Rattle.jc_declares.specs.Sites.{Sites, ClassSite, MethodSite, FieldSite, VariableSite, UseSite, MethodForm, Headed, ImpliedConstructor, StaticInitialiser, Counts, Walk, Uses, Membered, no_sites, joined, behind, innermost, used_at, only_uses, uses_of_lists, uses_in_each, uses_of_var, is_constructor_implied, is_static_initialiser_implied, walked, within, field_sites, variable_sites, listed_params, params_of_head, class_sites, implied_sites, implied_forms, declaration_walk, declaration_sites, member_sites, stmt_uses, clause_uses, membered, uses_of_stmt, uses_of_clause, sites_of_declaration, sites_of_top, unit_front, sites_of_unit}
use Rattle.jc_grammar.specs.Told.{Told, Spelled, sign, sign_at, ident, key, key_at, each}
use Rattle.jc_grammar.specs.Parts.{if_some, local_tokens, head_tokens, method_tokens}
use Rattle.jc_grammar.specs.Statements.{braced, braced_at, member_told, stmt_told, clause_told, declaration_told, stmt_tokens, member_tokens, clause_tokens, declaration_tokens, package_tokens, static_tokens, on_demand_tokens, import_tokens, top_tokens, file_tokens}
use Rattle.jc_grammar.specs.Firsts.{BeginsAt}
use Rattle.jc_grammar.proofs.Framed.{Frames, nothing, token, seq, all_frame, each_frames, names_frame, if_some_frames}
use Rattle.jc_grammar.proofs.FramedParts.{head_frames, method_frames, locals_frame}
use Rattle.jc_grammar.proofs.FramedStatements.{stmt_frames}
use Rattle.jc_order_laws.proofs.Picks.{Goes, both, framed, first_picked, again_first, head_begins, method_begins, param_offsets, head_params_picked, method_params_picked, var_offsets, locals_picked}

-- ---- lists

abbrev pub Each : {X : Type 0} → (X → Type 0) → List X → Type 0
Each P [] = Unit {0}
Each P (x ∷ xs) = P x × Each P xs

pub each_joined : {X : Type 0} (P : X → Type 0) (xs ys : List X) → Each P xs → Each P ys → Each P (xs ++ ys)
each_joined P [] ys a b = b
each_joined P (x ∷ xs) ys a b = (a.0, each_joined P xs ys a.1 b)

pub each_given : {X Y : Type 0} (f : X → Y) (Q : Y → Type 0) (xs : List X) → ((x : X) → Q (f x)) → Each Q (map f xs)
each_given f Q [] g = tt
each_given f Q (x ∷ xs) g = (g x, each_given f Q xs g)

map_joined : {X Y : Type 0} (f : X → Y) (xs ys : List X) → map f (xs ++ ys) ≡ map f xs ++ map f ys
map_joined f [] ys = refl
map_joined f (x ∷ xs) ys = ap (λ zs. f x ∷ zs) (map_joined f xs ys)

kept : {X : Type 0} (xs ys : List X) (n : ℕ) (x : X) → slice_get xs n ≡ Some x → slice_get (xs ++ ys) n ≡ Some x
kept [] ys zero x e = cc
kept [] ys (suc n) x e = cc
kept (y ∷ xs) ys zero x e = e
kept (y ∷ xs) ys (suc n) x e = kept xs ys n x e

shifted : {X : Type 0} (xs ys : List X) (n : ℕ) (x : X) → slice_get ys n ≡ Some x → slice_get (xs ++ ys) (length xs + n) ≡ Some x
shifted [] ys n x e = subst (λ (k : ℕ). slice_get ys k ≡ Some x) (let g : n ≡ 0 + n = omega arith in g) e
shifted (y ∷ xs) ys n x e = subst (λ (k : ℕ). slice_get (y ∷ (xs ++ ys)) k ≡ Some x) (let g : suc (length xs + n) ≡ suc (length xs) + n = omega arith in g) (shifted xs ys n x e)

together : {X : Type 0} (weak : Bool) (off : X → ℕ) (xs ys : List X) (d e r : List Told) → Goes weak (map off xs) d e → Goes weak (map off ys) e r → Goes weak (map off (xs ++ ys)) d r
together weak off xs ys d e r g h = subst (λ (zs : List ℕ). Goes weak zs d r) (sym (map_joined off xs ys)) (both weak (map off xs) (map off ys) d e r g h)

-- ---- the files, offsets and classes by their numbers

module _ (file_of offset_of class_of : ℕ → ℕ) where
  abbrev pub owner_file : Owner → ℕ
  owner_file (owner.Class c) = file_of c.0
  owner_file (owner.Method m) = file_of (class_of m.0)

  abbrev pub class_offset : ClassSite → ℕ
  class_offset s = first_offset_of_head s.head

  abbrev pub form_offset : ℕ → MethodForm → ℕ
  form_offset c (Headed head has_block) = first_offset_of_method head
  form_offset c ImpliedConstructor = offset_of c
  form_offset c StaticInitialiser = offset_of c

  abbrev pub method_offset : MethodSite → ℕ
  method_offset m = form_offset m.class m.form

  abbrev pub field_offset : FieldSite → ℕ
  field_offset f = f.var.name.at

  abbrev pub variable_offset : VariableSite → ℕ
  variable_offset v = v.param.name.at

  -- they are those of these declarations, behind so many
  pub record Agrees (n : Counts) (s : Sites) : Type 0 where
    pub classes : (k : ℕ) (c : ClassSite) → slice_get s.classes k ≡ Some c → (file_of (n.classes + k) ≡ c.file) × (offset_of (n.classes + k) ≡ first_offset_of_head c.head)
    pub methods : (k : ℕ) (m : MethodSite) → slice_get s.methods k ≡ Some m → class_of (n.methods + k) ≡ m.class

  pub agrees_left : (n : Counts) (a b : Sites) → Agrees n (joined a b) → Agrees n a
  agrees_left n a b g =
      record { classes = λ k c e. g.classes k c (kept a.classes b.classes k c e); methods = λ k m e. g.methods k m (kept a.methods b.methods k m e) }

  moved : (n l k : ℕ) → n + (l + k) ≡ n + l + k
  moved n l k = omega arith

  pub agrees_right : (n : Counts) (a b : Sites) → Agrees n (joined a b) → Agrees (behind n a) b
  agrees_right n a b g =
      record {
        classes = λ k c e. subst (λ (i : ℕ). (file_of i ≡ c.file) × (offset_of i ≡ first_offset_of_head c.head)) (moved n.classes (length a.classes) k) (g.classes (length a.classes + k) c (shifted a.classes b.classes k c e));
        methods = λ k m e. subst (λ (i : ℕ). class_of i ≡ m.class) (moved n.methods (length a.methods) k) (g.methods (length a.methods + k) m (shifted a.methods b.methods k m e));
      }

  -- all of one file
  pub record InFile (file : ℕ) (s : Sites) : Type 0 where
    pub classes : Each (λ (c : ClassSite). c.file ≡ file) s.classes
    pub methods : Each (λ (m : MethodSite). file_of m.class ≡ file) s.methods
    pub fields : Each (λ (f : FieldSite). file_of f.class ≡ file) s.fields
    pub variables : Each (λ (v : VariableSite). owner_file v.owner ≡ file) s.variables

  pub none_in_file : (file : ℕ) → InFile file no_sites
  none_in_file file = record { classes = tt; methods = tt; fields = tt; variables = tt }

  pub in_file_joined : (file : ℕ) (a b : Sites) → InFile file a → InFile file b → InFile file (joined a b)
  in_file_joined file a b f g =
      record {
        classes = each_joined (λ (c : ClassSite). c.file ≡ file) a.classes b.classes f.classes g.classes;
        methods = each_joined (λ (m : MethodSite). file_of m.class ≡ file) a.methods b.methods f.methods g.methods;
        fields = each_joined (λ (x : FieldSite). file_of x.class ≡ file) a.fields b.fields f.fields g.fields;
        variables = each_joined (λ (v : VariableSite). owner_file v.owner ≡ file) a.variables b.variables f.variables g.variables;
      }

  -- their offsets stand in the tokens between these two, each in its turn
  pub record Stand (s : Sites) (d r : List Told) : Type 0 where
    pub classes : Goes false (map class_offset s.classes) d r
    pub methods : Goes true (map method_offset s.methods) d r
    pub fields : Goes false (map field_offset s.fields) d r
    pub variables : Goes false (map variable_offset s.variables) d r

  pub stand_joined : (a b : Sites) (d e r : List Told) → Stand a d e → Stand b e r → Stand (joined a b) d r
  stand_joined a b d e r f g =
      record {
        classes = together false class_offset a.classes b.classes d e r f.classes g.classes;
        methods = together true method_offset a.methods b.methods d e r f.methods g.methods;
        fields = together false field_offset a.fields b.fields d e r f.fields g.fields;
        variables = together false variable_offset a.variables b.variables d e r f.variables g.variables;
      }

  none_stand : (f : Spelled) → Frames f → (r : List Told) → Stand no_sites (f r) r
  none_stand f h r = record { classes = framed false f h r; methods = framed true f h r; fields = framed false f h r; variables = framed false f h r }

  -- ---- walks: inside of a class, and anywhere

  pub record Reads (file : ℕ) (s : Sites) (f : Spelled) : Type 0 where
    pub in_file : InFile file s
    pub stand : (r : List Told) → Stand s (f r) r

  reads_joined : (file : ℕ) (a b : Sites) (f g : Spelled) → Reads file a f → Reads file b g → Reads file (joined a b) (λ r. f (g r))
  reads_joined file a b f g x y = record { in_file = in_file_joined file a b x.in_file y.in_file; stand = λ r. stand_joined a b (f (g r)) (g r) r (x.stand (g r)) (y.stand r) }

  none_reads : (file : ℕ) (f : Spelled) → Frames f → Reads file no_sites f
  none_reads file f h = record { in_file = none_in_file file; stand = none_stand f h }

  abbrev Goes_inside : Walk → Spelled → Type 0
  Goes_inside w f = (at : Standing) (n : Counts) → Agrees n (w at n) → file_of (innermost at.round) ≡ at.file → Reads at.file (w at n) f

  abbrev Goes_free : Walk → Spelled → Type 0
  Goes_free w f = (at : Standing) (n : Counts) → Agrees n (w at n) → Reads at.file (w at n) f

  -- walks, each with what it spells
  abbrev AllInside : List Walk → List Spelled → Type 0
  AllInside [] [] = Unit {0}
  AllInside [] (f ∷ fs) = ⊥
  AllInside (w ∷ ws) [] = ⊥
  AllInside (w ∷ ws) (f ∷ fs) = Goes_inside w f × AllInside ws fs

  abbrev AllFree : List Walk → List Spelled → Type 0
  AllFree [] [] = Unit {0}
  AllFree [] (f ∷ fs) = ⊥
  AllFree (w ∷ ws) [] = ⊥
  AllFree (w ∷ ws) (f ∷ fs) = Goes_free w f × AllFree ws fs

  walked_inside : (ws : List Walk) (fs : List Spelled) → AllInside ws fs → Goes_inside (walked ws) (each fs)
  walked_inside [] [] g at n a i = none_reads at.file (λ r. r) nothing
  walked_inside [] (f ∷ fs) g at n a i = absurd g
  walked_inside (w ∷ ws) [] g at n a i = absurd g
  walked_inside (w ∷ ws) (f ∷ fs) g at n a i =
      let s : Sites = w at n in let t : Sites = walked ws at (behind n s) in
      reads_joined at.file s t f (each fs) (g.0 at n (agrees_left n s t a) i) (walked_inside ws fs g.1 at (behind n s) (agrees_right n s t a) i)

  walked_free : (ws : List Walk) (fs : List Spelled) → AllFree ws fs → Goes_free (walked ws) (each fs)
  walked_free [] [] g at n a = none_reads at.file (λ r. r) nothing
  walked_free [] (f ∷ fs) g at n a = absurd g
  walked_free (w ∷ ws) [] g at n a = absurd g
  walked_free (w ∷ ws) (f ∷ fs) g at n a =
      let s : Sites = w at n in let t : Sites = walked ws at (behind n s) in
      reads_joined at.file s t f (each fs) (g.0 at n (agrees_left n s t a)) (walked_free ws fs g.1 at (behind n s) (agrees_right n s t a))

  -- ---- members

  variables_in : (file : ℕ) (o : Owner) (ps : List TypeParam) → owner_file o ≡ file → Each (λ (v : VariableSite). owner_file v.owner ≡ file) (variable_sites o ps)
  variables_in file o ps e = each_given _ (λ (v : VariableSite). owner_file v.owner ≡ file) ps (λ p. e)

  variable_offsets_are : (o : Owner) (ps : List TypeParam) → map variable_offset (variable_sites o ps) ≡ param_offsets ps
  variable_offsets_are o [] = refl
  variable_offsets_are o (p ∷ ps) = ap (λ (xs : List ℕ). p.name.at ∷ xs) (variable_offsets_are o ps)

  field_offsets_are : (at : Standing) (vars : LocalVars) (list : List Var) → map field_offset (field_sites at vars list) ≡ var_offsets list
  field_offsets_are at vars [] = refl
  field_offsets_are at vars (v ∷ list) = ap (λ (xs : List ℕ). v.name.at ∷ xs) (field_offsets_are at vars list)

  empty_picks : {weak : Bool} (f : Spelled) → Frames f → (r : List Told) → Goes weak [] (f r) r
  empty_picks {weak} f h r = framed weak f h r

  uses_read : (file : ℕ) (uses : List UseSite) (f : Spelled) → Frames f → Reads file (only_uses uses) f
  uses_read file uses f h =
      record {
        in_file = record { classes = tt; methods = tt; fields = tt; variables = tt };
        stand = λ r. record { classes = framed false f h r; methods = framed true f h r; fields = framed false f h r; variables = framed false f h r };
      }

  nothing_more : (xs : List ℕ) → xs ++ [] ≡ xs
  nothing_more [] = refl
  nothing_more (x ∷ xs) = ap (λ ys. x ∷ ys) (nothing_more xs)

  then_framed : (weak : Bool) (xs : List ℕ) (g : Spelled) → Frames g → (d r : List Told) → Goes weak xs d (g r) → Goes weak xs d r
  then_framed weak xs g h d r p = subst (λ (ys : List ℕ). Goes weak ys d r) (nothing_more xs) (both weak xs [] d (g r) r p (framed weak g h r))

  fields_read : (at : Standing) (vars : LocalVars) (uses : List UseSite) → file_of (innermost at.round) ≡ at.file
      → Reads at.file (record { units = []; classes = []; methods = []; fields = field_sites at vars (vars.first ∷ vars.more); variables = []; scopes = []; uses = uses }) (λ r. local_tokens vars (sign sign_of.Semicolon ∷ r))
  fields_read at vars uses i =
      let f : Spelled = λ (r : List Told). local_tokens vars (sign sign_of.Semicolon ∷ r) in
      let h : Frames f = seq (locals_frame vars) (token (sign sign_of.Semicolon)) in
      record {
        in_file = record { classes = tt; methods = tt; fields = each_given _ (λ (x : FieldSite). file_of x.class ≡ at.file) (vars.first ∷ vars.more) (λ v. i); variables = tt };
        stand = λ r. record {
          classes = framed false f h r;
          methods = framed true f h r;
          fields =
              subst (λ (xs : List ℕ). Goes false xs (f r) r) (sym (field_offsets_are at vars (vars.first ∷ vars.more)))
              (then_framed false (var_offsets (vars.first ∷ vars.more)) (λ r. sign sign_of.Semicolon ∷ r) (token (sign sign_of.Semicolon)) (f r) r (locals_picked vars (sign sign_of.Semicolon ∷ r)));
          variables = framed false f h r;
        };
      }

  method_read : (at : Standing) (n : Counts) (head : MethodHead) (has_block : Bool) (scopes : List ScopeHead) (uses : List UseSite) (g : Spelled) → Frames g
      → file_of (innermost at.round) ≡ at.file
      → class_of (n.methods + 0) ≡ innermost at.round
      → Reads at.file (record { units = []; classes = []; methods = record { class = innermost at.round; scope = n.scopes; form = Headed head has_block } ∷ []; fields = []; variables = variable_sites (owner.Method (record { 0 = n.methods })) (listed_params head.params); scopes = scopes; uses = uses })
      (λ r. method_tokens head (g r))
  method_read at n head has_block scopes uses g k i c =
      let f : Spelled = λ (r : List Told). method_tokens head (g r) in
      let h : Frames f = seq (method_frames head) k in
      let own : file_of (class_of n.methods) ≡ at.file = ap (λ (m : ℕ). file_of (class_of m)) (let z : n.methods ≡ n.methods + 0 = omega arith in z) ∙ ap file_of c ∙ i in
      record {
        in_file = record { classes = tt; methods = (i, tt); fields = tt; variables = variables_in at.file (owner.Method (record { 0 = n.methods })) (listed_params head.params) own };
        stand = λ r. record {
          classes = framed false f h r;
          methods = first_picked true f h (first_offset_of_method head) (method_begins head (g [])) r;
          fields = framed false f h r;
          variables =
              subst (λ (xs : List ℕ). Goes false xs (f r) r) (sym (variable_offsets_are (owner.Method (record { 0 = n.methods })) (listed_params head.params)))
              (then_framed false (param_offsets (listed_params head.params)) g k (f r) r (method_params_picked head (g r)));
        };
      }

  -- ---- what no source writes, behind a head

  -- what is declared behind a head: its methods may stand at the head too
  record Behind (file : ℕ) (s : Sites) (h g : Spelled) : Type 0 where
    in_file : InFile file s
    classes : (r : List Told) → Goes false (map class_offset s.classes) (g r) r
    methods : (r : List Told) → Goes true (map method_offset s.methods) (h (g r)) r
    fields : (r : List Told) → Goes false (map field_offset s.fields) (g r) r
    variables : (r : List Told) → Goes false (map variable_offset s.variables) (g r) r

  abbrev NotWritten : MethodForm → Type 0
  NotWritten (Headed head has_block) = ⊥
  NotWritten ImpliedConstructor = Unit {0}
  NotWritten StaticInitialiser = Unit {0}

  form_is : (c x : ℕ) → offset_of c ≡ x → (form : MethodForm) → NotWritten form → form_offset c form ≡ x
  form_is c x e (Headed head has_block) w = absurd w
  form_is c x e ImpliedConstructor w = e
  form_is c x e StaticInitialiser w = e

  implied_behind : (forms : List MethodForm) → Each NotWritten forms → (ws : List Walk) (fs : List Spelled) → AllInside ws fs → (h : Spelled) → Frames h → (x : ℕ) → ((r : List Told) → BeginsAt x (h r))
      → (at : Standing) (n : Counts) → Agrees n (walked (map implied_sites forms ++ ws) at n) → file_of (innermost at.round) ≡ at.file → offset_of (innermost at.round) ≡ x
      → Behind at.file (walked (map implied_sites forms ++ ws) at n) h (each fs)
  implied_behind [] q ws fs g h k x b at n a i o =
      let w : Reads at.file (walked ws at n) (each fs) = walked_inside ws fs g at n a i in
      record {
        in_file = w.in_file;
        classes = λ r. (w.stand r).classes;
        methods = λ r. both true [] (map method_offset (walked ws at n).methods) (h (each fs r)) (each fs r) r (framed true h k (each fs r)) (w.stand r).methods;
        fields = λ r. (w.stand r).fields;
        variables = λ r. (w.stand r).variables;
      }
  implied_behind (form ∷ forms) q ws fs g h k x b at n a i o =
      let s : Sites = implied_sites form at n in
      let t : Sites = walked (map implied_sites forms ++ ws) at (behind n s) in
      let rest : Behind at.file t h (each fs) = implied_behind forms q.1 ws fs g h k x b at (behind n s) (agrees_right n s t a) i o in
      record {
        in_file = record { classes = rest.in_file.classes; methods = (i, rest.in_file.methods); fields = rest.in_file.fields; variables = rest.in_file.variables };
        classes = rest.classes;
        methods = λ r.
            again_first (form_offset (innermost at.round) form) (map method_offset t.methods) (h (each fs r)) r
            (subst (λ (y : ℕ). BeginsAt y (h (each fs r))) (sym (form_is (innermost at.round) x o form q.0)) (b (each fs r))) (rest.methods r);
        fields = rest.fields;
        variables = rest.variables;
      }

  if_static : (b : Bool) → Each NotWritten (cond b (StaticInitialiser ∷ []) [])
  if_static true = (tt, tt)
  if_static false = tt

  if_constructor : (b : Bool) → Each NotWritten (cond b (ImpliedConstructor ∷ []) [])
  if_constructor true = (tt, tt)
  if_constructor false = tt

  forms_not_written : (head : DeclarationHead) (members : List Membered) → Each NotWritten (implied_forms head members)
  forms_not_written head members =
      each_joined NotWritten (cond (is_static_initialiser_implied head members) (StaticInitialiser ∷ []) []) (cond (is_constructor_implied head members) (ImpliedConstructor ∷ []) [])
      (if_static (is_static_initialiser_implied head members)) (if_constructor (is_constructor_implied head members))

  -- ---- a declaration

  abbrev opened : DeclarationHead → Spelled
  opened head r = head_tokens head (sign sign_of.LeftBrace ∷ r)

  opened_frames : (head : DeclarationHead) → Frames (opened head)
  opened_frames head = seq (head_frames head) (token (sign sign_of.LeftBrace))

  abbrev closed : Spelled
  closed r = sign sign_of.RightBrace ∷ r

  closed_frames : Frames closed
  closed_frames = token (sign sign_of.RightBrace)

  declaration_reads : (head : DeclarationHead) (members : List Membered) (fs : List Spelled) → AllInside (map (λ (m : Membered). m.walk) members) fs → Goes_free (declaration_walk head members) (λ r. head_tokens head (braced fs r))
  declaration_reads head members fs g at n a =
      let own : Sites = class_sites head at n in
      let ws : List Walk = map (λ (m : Membered). m.walk) members in
      let w : Sites = walked (map implied_sites (implied_forms head members) ++ ws) (within head at n) (behind n own) in
      let x : ℕ = first_offset_of_head head in
      let zero_more : n.classes + 0 ≡ n.classes = omega arith in
      let own_class = a.classes 0 (record { file = at.file; unit = at.unit; round = at.round; of_interface = at.of_interface; scope = n.scopes; head = head }) refl in
      let file_is : file_of n.classes ≡ at.file = ap file_of (sym zero_more) ∙ own_class.0 in
      let offset_is : offset_of n.classes ≡ x = ap offset_of (sym zero_more) ∙ own_class.1 in
      let h : Spelled = opened head in
      let k : Frames h = opened_frames head in
      let behind_it : Behind at.file w h (each fs) =
      implied_behind (implied_forms head members) (forms_not_written head members) ws fs g h k x (λ r. head_begins head (sign sign_of.LeftBrace ∷ r)) (within head at n) (behind n own) (agrees_right n own w a) file_is offset_is in
      record {
        in_file = in_file_joined at.file own w
            (record { classes = (refl, tt); methods = tt; fields = tt; variables = variables_in at.file (owner.Class (record { 0 = n.classes })) (params_of_head head) file_is }) behind_it.in_file;
        stand = λ r. declared_stand head at n w fs behind_it r;
      }
    where
      declared_stand : (head : DeclarationHead) (at : Standing) (n : Counts) (w : Sites) (fs : List Spelled) → Behind at.file w (opened head) (each fs) → (r : List Told) → Stand (joined (class_sites head at n) w) (head_tokens head (braced fs r)) r
      declared_stand head at n w fs b r =
          let own : Sites = class_sites head at n in
          let h : Spelled = opened head in
          let k : Frames h = opened_frames head in
          let body : List Told = each fs (closed r) in
          record {
            classes =
                together false class_offset own.classes w.classes (h body) body r (first_picked false h k (first_offset_of_head head) (head_begins head (sign sign_of.LeftBrace ∷ [])) body)
                (then_framed false (map class_offset w.classes) closed closed_frames body r (b.classes (closed r)));
            methods = then_framed true (map method_offset w.methods) closed closed_frames (h body) r (b.methods (closed r));
            fields =
                both false [] (map field_offset w.fields) (h body) body r (framed false h k body) (then_framed false (map field_offset w.fields) closed closed_frames body r (b.fields (closed r)));
            variables =
                together false variable_offset own.variables w.variables (h body) body r
                (subst (λ (xs : List ℕ). Goes false xs (h body) body) (sym (variable_offsets_are (owner.Class (record { 0 = n.classes })) (params_of_head head)))
                (then_framed false (param_offsets (params_of_head head)) (λ r. sign sign_of.LeftBrace ∷ r) (token (sign sign_of.LeftBrace)) (h body) body (head_params_picked head (sign sign_of.LeftBrace ∷ body))))
                (then_framed false (map variable_offset w.variables) closed closed_frames body r (b.variables (closed r)));
          }

  -- ---- declarations

  abbrev MemberReads : Member → Type 0
  MemberReads x = Goes_inside (membered x).walk (member_tokens x)

  abbrev DeclarationReads : Declaration → Type 0
  DeclarationReads x = Goes_free (sites_of_declaration x) (declaration_tokens x)

  abbrev SomeMember : Type 0
  SomeMember = (x : Member) × MemberReads x

  abbrev SomeStmt : Type 0
  SomeStmt = (x : Stmt) × Unit {0}

  abbrev SomeClause : Type 0
  SomeClause = (x : Clause) × Unit {0}

  abbrev SomeDeclaration : Type 0
  SomeDeclaration = (x : Declaration) × DeclarationReads x

  abbrev plain_member : Member-F SomeMember SomeStmt SomeClause SomeDeclaration → Member-F Member Stmt Clause Declaration
  plain_member y = map-Member SomeMember SomeStmt SomeClause SomeDeclaration Member Stmt Clause Declaration (λ z. z.0) (λ z. z.0) (λ z. z.0) (λ z. z.0) y

  braced_frame : (items : List Stmt) → Frames (braced (map stmt_tokens items))
  braced_frame items = seq (token (sign sign_of.LeftBrace)) (seq (each_frames (all_frame stmt_tokens stmt_frames items)) (token (sign sign_of.RightBrace)))

  braced_at_frame : (at : ℕ) (items : List Stmt) → Frames (braced_at at (map stmt_tokens items))
  braced_at_frame at items = seq (token (sign_at sign_of.LeftBrace at)) (seq (each_frames (all_frame stmt_tokens stmt_frames items)) (token (sign sign_of.RightBrace)))

  abbrev plain_items : List SomeStmt → List Stmt
  plain_items items = map (λ (z : SomeStmt). z.0) items

  member_layer : (y : Member-F SomeMember SomeStmt SomeClause SomeDeclaration)
      → Goes_inside (member_sites (map-Member Member Stmt Clause Declaration Membered Uses Uses Walk membered uses_of_stmt uses_of_clause sites_of_declaration (plain_member y))).walk
      (member_told (map-Member Member Stmt Clause Declaration Spelled Spelled Spelled Spelled member_tokens stmt_tokens clause_tokens declaration_tokens (plain_member y)))
  member_layer (Member-F.Semicolon at) = λ s n a i. none_reads s.file (λ r. sign_at sign_of.Semicolon at ∷ r) (token (sign_at sign_of.Semicolon at))
  member_layer (Member-F.Initialiser at true items) =
      λ s n a i. uses_read s.file (used_at s s.scope true (uses_of_lists (map uses_of_stmt (plain_items items)))) (λ r. key_at key_of.Static at ∷ braced (map stmt_tokens (plain_items items)) r) (seq (token (key_at key_of.Static at)) (braced_frame (plain_items items)))
  member_layer (Member-F.Initialiser at false items) =
      λ s n a i. uses_read s.file (used_at s s.scope false (uses_of_lists (map uses_of_stmt (plain_items items)))) (braced_at at (map stmt_tokens (plain_items items))) (braced_at_frame at (plain_items items))
  member_layer (Member-F.Fields vars) = λ s n a i. fields_read s vars (used_at s s.scope (says_static vars.modifiers) (uses_in_each uses_of_var (vars.first ∷ vars.more))) i
  member_layer (Member-F.Bare head) =
      λ s n a i.
      method_read s n head false (record { outer = Some s.scope; form = scope_of.Method n.methods } ∷ []) (used_at s n.scopes (says_static head.modifiers) []) (λ r. sign sign_of.Semicolon ∷ r) (token (sign sign_of.Semicolon)) i
      (a.methods 0 (record { class = innermost s.round; scope = n.scopes; form = Headed head false }) refl)
  member_layer (Member-F.Method head items) =
      λ s n a i.
      method_read s n head true (record { outer = Some s.scope; form = scope_of.Method n.methods } ∷ []) (used_at s n.scopes (says_static head.modifiers) (uses_of_lists (map uses_of_stmt (plain_items items))))
      (braced (map stmt_tokens (plain_items items))) (braced_frame (plain_items items)) i (a.methods 0 (record { class = innermost s.round; scope = n.scopes; form = Headed head true }) refl)
  member_layer (Member-F.Nested d) = λ s n a i. d.1 s n a

  inside_along : (v w : Walk) (f g : Spelled) → v ≡ w → f ≡ g → Goes_inside w g → Goes_inside v f
  inside_along v w f g e k p = subst (λ (x : Walk). Goes_inside x f) (sym e) (subst (λ (y : Spelled). Goes_inside w y) (sym k) p)

  free_along : (v w : Walk) (f g : Spelled) → v ≡ w → f ≡ g → Goes_free w g → Goes_free v f
  free_along v w f g e k p = subst (λ (x : Walk). Goes_free x f) (sym e) (subst (λ (y : Spelled). Goes_free w y) (sym k) p)

  member_rolled : (y : Member-F SomeMember SomeStmt SomeClause SomeDeclaration) → MemberReads (roll-Member (plain_member y))
  unfolding membered uses_of_stmt uses_of_clause sites_of_declaration member_tokens stmt_tokens clause_tokens declaration_tokens
  member_rolled y =
      inside_along _ _ _ _ (ap (λ (m : Membered). m.walk) (fold-roll-Member Membered Uses Uses Walk member_sites stmt_uses clause_uses declaration_sites (plain_member y)))
      (fold-roll-Member Spelled Spelled Spelled Spelled member_told stmt_told clause_told declaration_told (plain_member y)) (member_layer y)

  abbrev plain_declaration : Declaration-F SomeMember SomeStmt SomeClause SomeDeclaration → Declaration-F Member Stmt Clause Declaration
  plain_declaration y = map-Declaration SomeMember SomeStmt SomeClause SomeDeclaration Member Stmt Clause Declaration (λ z. z.0) (λ z. z.0) (λ z. z.0) (λ z. z.0) y

  all_given : (zs : List SomeMember) → AllInside (map (λ (m : Membered). m.walk) (map membered (map (λ (z : SomeMember). z.0) zs))) (map member_tokens (map (λ (z : SomeMember). z.0) zs))
  all_given [] = tt
  all_given (z ∷ zs) = (z.1, all_given zs)

  declaration_layer : (y : Declaration-F SomeMember SomeStmt SomeClause SomeDeclaration)
      → Goes_free (declaration_sites (map-Declaration Member Stmt Clause Declaration Membered Uses Uses Walk membered uses_of_stmt uses_of_clause sites_of_declaration (plain_declaration y)))
      (declaration_told (map-Declaration Member Stmt Clause Declaration Spelled Spelled Spelled Spelled member_tokens stmt_tokens clause_tokens declaration_tokens (plain_declaration y)))
  declaration_layer y = declaration_reads y.head (map membered (map (λ (z : SomeMember). z.0) y.members)) (map member_tokens (map (λ (z : SomeMember). z.0) y.members)) (all_given y.members)

  declaration_rolled : (y : Declaration-F SomeMember SomeStmt SomeClause SomeDeclaration) → DeclarationReads (roll-Declaration (plain_declaration y))
  unfolding membered uses_of_stmt uses_of_clause sites_of_declaration member_tokens stmt_tokens clause_tokens declaration_tokens
  declaration_rolled y =
      free_along _ _ _ _ (fold-roll-Declaration Membered Uses Uses Walk member_sites stmt_uses clause_uses declaration_sites (plain_declaration y))
      (fold-roll-Declaration Spelled Spelled Spelled Spelled member_told stmt_told clause_told declaration_told (plain_declaration y)) (declaration_layer y)

  declared_reads : (x : Declaration) → DeclarationReads x
  declared_reads = ind-Declaration MemberReads (λ x. Unit {0}) (λ x. Unit {0}) DeclarationReads
      (λ x y is. subst (λ (x : Member-F Member Stmt Clause Declaration). MemberReads (roll-Member x)) is (member_rolled y))
      (λ x y is. tt)
      (λ x y is. tt)
      (λ x y is. subst (λ (x : Declaration-F Member Stmt Clause Declaration). DeclarationReads (roll-Declaration x)) is (declaration_rolled y))

  -- ---- units

  top_reads : (t : TopLevel) → Goes_free (sites_of_top t) (top_tokens t)
  top_reads (top_of.Declaration d) = declared_reads d
  top_reads (top_of.Semicolon at) = λ s n a. none_reads s.file (λ r. sign_at sign_of.Semicolon at ∷ r) (token (sign_at sign_of.Semicolon at))

  tops_read : (ts : List TopLevel) → AllFree (map sites_of_top ts) (map top_tokens ts)
  tops_read [] = tt
  tops_read (t ∷ ts) = (top_reads t, tops_read ts)

  package_frames : (p : Package) → Frames (package_tokens p)
  package_frames p = seq (token (key_at key_of.Package p.at)) (seq (token (ident p.first)) (seq (names_frame p.more) (token (sign sign_of.Semicolon))))

  static_frames : (b : Bool) → Frames (static_tokens b)
  static_frames true = token (key key_of.Static)
  static_frames false = nothing

  on_demand_frames : (b : Bool) → Frames (on_demand_tokens b)
  on_demand_frames true = seq (token (sign sign_of.Dot)) (token (sign sign_of.Star))
  on_demand_frames false = nothing

  import_frames : (i : Import) → Frames (import_tokens i)
  import_frames i =
      seq (token (key_at key_of.Import i.at)) (seq (static_frames i.is_static) (seq (token (ident i.first)) (seq (names_frame i.more) (seq (on_demand_frames i.on_demand) (token (sign sign_of.Semicolon))))))

  abbrev front : SourceUnit → Spelled
  front u r = if_some package_tokens u.unit.package (each (map import_tokens u.unit.imports) r)

  front_frames : (u : SourceUnit) → Frames (front u)
  front_frames u = seq (if_some_frames package_tokens package_frames u.unit.package) (each_frames (all_frame import_tokens import_frames u.unit.imports))

  pub unit_reads : (u : SourceUnit) (unit : ℕ) (n : Counts) → Agrees n (sites_of_unit u unit n) → Reads u.file (sites_of_unit u unit n) (file_tokens u.unit)
  unit_reads u unit n a =
      let own : Sites = unit_front u unit n.scopes in
      let at : Standing = record { file = u.file; unit = unit; round = []; of_interface = false; scope = n.scopes } in
      let t : Sites = walked (map sites_of_top u.unit.types) at (behind n own) in
      reads_joined u.file own t (front u) (each (map top_tokens u.unit.types))
      (record {
        in_file = record { classes = tt; methods = tt; fields = tt; variables = tt };
        stand = λ r. record { classes = framed false (front u) (front_frames u) r; methods = framed true (front u) (front_frames u) r; fields = framed false (front u) (front_frames u) r; variables = framed false (front u) (front_frames u) r };
      })
      (walked_free (map sites_of_top u.unit.types) (map top_tokens u.unit.types) (tops_read u.unit.types) at (behind n own) (agrees_right n own t a))
