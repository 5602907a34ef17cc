-- A character or string literal, read alone, is the literal (JLS 3.10.4, 3.10.5).
use Rattle.std.proofs.Common.{◌≡◌, ℕ, zero, suc, ◌+◌, ◌-◌, ◌*◌, ◌/◌, ◌%◌, ◌<◌, ◌≤◌, Bool, true, false, cond, List, [], ◌∷◌, ◌++◌, length, take, drop, length-drop, Option, Some, None, refl, sym, ap, ◌∙◌, subst, arith}
use Rattle.std.specs.Prelude.{◌&&◌, ◌==◌, nat_lt, not}
use Rattle.std.proofs.lemmas.Bool.Decides.{nat_tests}
use Rattle.std.proofs.lemmas.List.{drop-take}
use Rattle.jc_lexer.specs.declared.literal.CharBody.{CharBody}
use Rattle.jc_lexer.specs.declared.literal.CharBody.TheVariants.{Shut, Amiss}
use Rattle.jc_lexer.specs.declared.literal.Element.{Element}
use Rattle.jc_lexer.specs.declared.literal.Element.TheVariants.{Unit as One, Pair, Flawed}
use Rattle.jc_lexer.specs.declared.literal.Flaw.TheVariants.{Wrong, Open, Torn}
use Rattle.jc_lexer.specs.declared.literal.StringBody.{StringBody}
use Rattle.jc_lexer.specs.declared.literal.StringBody.TheVariants.{Closed, Broken}
use Rattle.jc_lexer.specs.declared.symbol.Symbol.{Symbol}
use Rattle.jc_lexer.specs.declared.symbol.TheConstants.{END}
use Rattle.jc_lexer.specs.Literals.{is_octal, flaw_at, simple_escape, octal_escape, escaped, escape_sequence, element_at, char_after, char_body, with_units, string_after, string_from}
use Rattle.jc_lexer.specs.Symbols.{code_at, is_break, is_line_end}
use Rattle.jc_lexer_laws.proofs.Slices.{no, yes, code_take, there}

-- a text has the codes of another one, so many
pub record Like (a u : List Symbol) (n : ℕ) : Type 0 where
  pub code : (k : ℕ) → k < n → code_at u k ≡ code_at a k

pub part_is_like : (n : ℕ) (a : List Symbol) → Like a (take n a) n
part_is_like n a = record { code = λ k l. code_take n k a l }

-- a code is no end where it is another one
quoted : (c d : ℕ) → (c == d) ≡ true → (d == END) ≡ false → (c == END) ≡ false
quoted c d e f = let same : c ≡ d = grind (arith, nat_tests) in ap (λ (k : ℕ). k == END) same ∙ f

-- escape sequences

abbrev octal_of : ℕ → ℕ → ℕ → Element
octal_of a b c =
    let first = a - 48 in
    cond (not (is_octal b)) (One first 2) (cond (nat_lt first 4 && is_octal c) (One ((first * 8 + (b - 48)) * 8 + (c - 48)) 4) (One (first * 8 + (b - 48)) 3))

octal_is : (a : List Symbol) → octal_escape a ≡ octal_of (code_at a 1) (code_at a 2) (code_at a 3)
unfolding octal_escape
octal_is a = refl

two_or_more : (a b c unit l : ℕ) → octal_of a b c ≡ One unit l → 1 < l
two_or_more a b c unit l e = by_tests (not (is_octal b)) (nat_lt (a - 48) 4 && is_octal c) e
  where
    by_tests : (p q : Bool) → cond p (One (a - 48) 2) (cond q (One (((a - 48) * 8 + (b - 48)) * 8 + (c - 48)) 4) (One ((a - 48) * 8 + (b - 48)) 3)) ≡ One unit l → 1 < l
    by_tests true q e = let f : One (a - 48) 2 ≡ One unit l = e in let g : 2 ≡ l = cc in omega (arith, g)
    by_tests false true e = let f : One (((a - 48) * 8 + (b - 48)) * 8 + (c - 48)) 4 ≡ One unit l = e in let g : 4 ≡ l = cc in omega (arith, g)
    by_tests false false e = let f : One ((a - 48) * 8 + (b - 48)) 3 ≡ One unit l = e in let g : 3 ≡ l = cc in omega (arith, g)

-- the third digit is looked at only behind two others
third_free : (a b c d unit l : ℕ) → octal_of a b c ≡ One unit l → (2 < l → d ≡ c) → octal_of a b d ≡ One unit l
third_free a b c d unit l e same = by_test (not (is_octal b)) refl e
  where
    rest : ℕ → Element
    rest k = cond (nat_lt (a - 48) 4 && is_octal k) (One (((a - 48) * 8 + (b - 48)) * 8 + (k - 48)) 4) (One ((a - 48) * 8 + (b - 48)) 3)

    longer : (q : Bool) → cond q (One (((a - 48) * 8 + (b - 48)) * 8 + (c - 48)) 4) (One ((a - 48) * 8 + (b - 48)) 3) ≡ One unit l → 2 < l
    longer true e = let f : One (((a - 48) * 8 + (b - 48)) * 8 + (c - 48)) 4 ≡ One unit l = e in let g : 4 ≡ l = cc in omega (arith, g)
    longer false e = let f : One ((a - 48) * 8 + (b - 48)) 3 ≡ One unit l = e in let g : 3 ≡ l = cc in omega (arith, g)

    by_test : (p : Bool) → not (is_octal b) ≡ p → cond p (One (a - 48) 2) (rest c) ≡ One unit l → octal_of a b d ≡ One unit l
    by_test true q e = yes _ _ _ q ∙ e
    by_test false q e = no (not (is_octal b)) (One (a - 48) 2) (rest d) q ∙ (ap rest (same (longer (nat_lt (a - 48) 4 && is_octal c) e)) ∙ e)

octal_alike : (a u : List Symbol) (n unit l : ℕ) → Like a u n → octal_escape a ≡ One unit l → l < n → (octal_escape u ≡ One unit l) × (1 < l)
octal_alike a u n unit l w e h =
    let is : octal_of (code_at a 1) (code_at a 2) (code_at a 3) ≡ One unit l = sym (octal_is a) ∙ e in
    let two : 1 < l = two_or_more (code_at a 1) (code_at a 2) (code_at a 3) unit l is in
    let one_same : code_at u 1 ≡ code_at a 1 = w.code 1 (omega (arith, two, h)) in
    let two_same : code_at u 2 ≡ code_at a 2 = w.code 2 (omega (arith, two, h)) in (
      octal_is u ∙ (ap (λ (k : ℕ). octal_of k (code_at u 2) (code_at u 3)) one_same ∙ (ap (λ (k : ℕ). octal_of (code_at a 1) k (code_at u 3)) two_same ∙
          third_free (code_at a 1) (code_at a 2) (code_at a 3) (code_at u 3) unit l is (λ m. w.code 3 (omega (arith, m, h))))),
      two,
    )

simple_len : (letter : ℕ) (o : Option ℕ) (unit l : ℕ) → escaped letter o ≡ One unit l → l ≡ 2
simple_len letter None unit l e = absurd (let f : Flawed (flaw_at letter) ≡ One unit l = e in cc)
simple_len letter (Some k) unit l e = let f : One k 2 ≡ One unit l = e in cc

escape_alike : (a u : List Symbol) (n unit l : ℕ) → Like a u n → escape_sequence a ≡ One unit l → l < n → (escape_sequence u ≡ One unit l) × (1 < l)
unfolding escape_sequence
escape_alike a u n unit l w e h = by_test (is_octal (code_at a 1)) refl e
  where
    by_test : (p : Bool) → is_octal (code_at a 1) ≡ p → cond p (octal_escape a) (escaped (code_at a 1) (simple_escape (code_at a 1))) ≡ One unit l → (escape_sequence u ≡ One unit l) × (1 < l)
    by_test true q e =
        let p = octal_alike a u n unit l w e h in
        (yes (is_octal (code_at u 1)) _ _ (ap is_octal (w.code 1 (omega (arith, p.1, h))) ∙ q) ∙ p.0, p.1)
    by_test false q e =
        let two : l ≡ 2 = simple_len (code_at a 1) (simple_escape (code_at a 1)) unit l e in
        let same : code_at u 1 ≡ code_at a 1 = w.code 1 (omega (arith, two, h)) in
        (no (is_octal (code_at u 1)) _ _ (ap is_octal same ∙ q) ∙ (ap (λ (k : ℕ). escaped k (simple_escape k)) same ∙ e), omega (arith, two))

not_pair : (a : List Symbol) (high low : ℕ) → escape_sequence a ≡ Pair high low → ⊥
unfolding escape_sequence octal_escape
not_pair a high low e = by_test (is_octal (code_at a 1)) (not (is_octal (code_at a 2))) (nat_lt (code_at a 1 - 48) 4 && is_octal (code_at a 3)) (simple_escape (code_at a 1)) e
  where
    by_test : (p q r : Bool) (o : Option ℕ) → cond p (cond q (One (code_at a 1 - 48) 2) (cond r (One (((code_at a 1 - 48) * 8 + (code_at a 2 - 48)) * 8 + (code_at a 3 - 48)) 4) (One ((code_at a 1 - 48) * 8 + (code_at a 2 - 48)) 3))) (escaped (code_at a 1) o) ≡ Pair high low → ⊥
    by_test true true r o e = let f : One (code_at a 1 - 48) 2 ≡ Pair high low = e in cc
    by_test true false true o e = let f : One (((code_at a 1 - 48) * 8 + (code_at a 2 - 48)) * 8 + (code_at a 3 - 48)) 4 ≡ Pair high low = e in cc
    by_test true false false o e = let f : One ((code_at a 1 - 48) * 8 + (code_at a 2 - 48)) 3 ≡ Pair high low = e in cc
    by_test false q r None e = let f : Flawed (flaw_at (code_at a 1)) ≡ Pair high low = e in cc
    by_test false q r (Some k) e = let f : One k 2 ≡ Pair high low = e in cc

-- elements

abbrev element_by : Bool → Bool → Bool → Bool → Element → ℕ → Element
element_by ended broken slash short escape c =
    cond ended (Flawed Open) (cond broken (Flawed Torn) (cond slash escape (cond short (One c 1) (Pair (0xD800 + (c - 0x10000) / 1024 % 1024) (0xDC00 + (c - 0x10000) % 1024)))))

element_is : (a : List Symbol) → element_at a ≡ element_by (is_line_end (code_at a 0)) (is_break (code_at a 0)) (code_at a 0 == 92) (nat_lt (code_at a 0) 0x10000) (escape_sequence a) (code_at a 0)
unfolding element_at
element_is a = refl

element_alike_by : (ended broken slash short : Bool) (c unit l n : ℕ) (a u : List Symbol) → Like a u n → element_by ended broken slash short (escape_sequence a) c ≡ One unit l → l < n →
    (element_by ended broken slash short (escape_sequence u) c ≡ One unit l) × (0 < l)
element_alike_by true broken slash short c unit l n a u w e h = absurd (let f : Flawed Open ≡ One unit l = e in cc)
element_alike_by false true slash short c unit l n a u w e h = absurd (let f : Flawed Torn ≡ One unit l = e in cc)
element_alike_by false false true short c unit l n a u w e h = let p = escape_alike a u n unit l w e h in (p.0, omega (arith, p.1))
element_alike_by false false false true c unit l n a u w e h = (e, (let f : One c 1 ≡ One unit l = e in let g : 1 ≡ l = cc in omega (arith, g)))
element_alike_by false false false false c unit l n a u w e h = absurd (let f : Pair (0xD800 + (c - 0x10000) / 1024 % 1024) (0xDC00 + (c - 0x10000) % 1024) ≡ One unit l = e in cc)

pair_alike_by : (ended broken slash short : Bool) (c high low : ℕ) (a u : List Symbol) → element_by ended broken slash short (escape_sequence a) c ≡ Pair high low →
    element_by ended broken slash short (escape_sequence u) c ≡ Pair high low
pair_alike_by true broken slash short c high low a u e = e
pair_alike_by false true slash short c high low a u e = e
pair_alike_by false false true short c high low a u e = absurd (not_pair a high low e)
pair_alike_by false false false short c high low a u e = e

abbrev element_with : List Symbol → ℕ → Element
element_with t c = element_by (is_line_end c) (is_break c) (c == 92) (nat_lt c 0x10000) (escape_sequence t) c

element_alike : (a u : List Symbol) (n unit l : ℕ) → Like a u n → element_at a ≡ One unit l → l < n → (element_at u ≡ One unit l) × (0 < l)
element_alike a u n unit l w e h =
    let c = code_at a 0 in
    let same : code_at u 0 ≡ code_at a 0 = w.code 0 (omega (arith, h)) in
    let p = element_alike_by (is_line_end c) (is_break c) (c == 92) (nat_lt c 0x10000) c unit l n a u w (sym (element_is a) ∙ e) h in
    (element_is u ∙ (ap (element_with u) same ∙ p.0), p.1)

pair_alike : (a u : List Symbol) (n high low : ℕ) → Like a u n → element_at a ≡ Pair high low → 0 < n → element_at u ≡ Pair high low
pair_alike a u n high low w e h =
    let c = code_at a 0 in
    let same : code_at u 0 ≡ code_at a 0 = w.code 0 h in
    element_is u ∙ (ap (element_with u) same ∙ pair_alike_by (is_line_end c) (is_break c) (c == 92) (nat_lt c 0x10000) c high low a u (sym (element_is a) ∙ e))

-- an element is some symbols
element_some : (a : List Symbol) (unit l : ℕ) → element_at a ≡ One unit l → 0 < l
element_some a unit l e = (element_alike a a (l + 1) unit l (record { code = λ k h. refl }) e (omega arith)).1

-- character literals

shut_by : (b : Bool) (unit l : ℕ) (f : CharBody) (value n : ℕ) → cond b (Shut unit (l + 1)) f ≡ Shut value n → (f ≡ Shut value n → ⊥) → (b ≡ true) × (unit ≡ value) × (l + 1 ≡ n)
shut_by true unit l f value n e no_shut = let g : Shut unit (l + 1) ≡ Shut value n = e in (refl, cc, cc)
shut_by false unit l f value n e no_shut = absurd (no_shut e)

pub char_alone : (a : List Symbol) (value n : ℕ) → char_body a ≡ Shut value n → (char_body (take n a) ≡ Shut value n) × (n ≤ length a)
unfolding char_body
char_alone a value n e = by_quote (code_at a 0 == 39) refl e
  where
    by_element : (x : Element) → (code_at a 0 == 39) ≡ false → element_at a ≡ x → char_after x a ≡ Shut value n → (char_body (take n a) ≡ Shut value n) × (n ≤ length a)
    by_element (One unit l) q is e =
        let p = shut_by (code_at a l == 39) unit l (Amiss (flaw_at (code_at a l))) value n e (λ f. let g : Amiss (flaw_at (code_at a l)) ≡ Shut value n = f in cc) in
        let more : l < n = omega (arith, p.2) in
        let w = part_is_like n a in
        let first : code_at (take n a) 0 ≡ code_at a 0 = w.code 0 (omega (arith, more)) in
        let last : code_at (take n a) l ≡ code_at a l = w.code l more in
        let same = element_alike a (take n a) n unit l w is more in
        let shut : Shut unit (l + 1) ≡ Shut value n = let v_is : unit ≡ value = p.1 in let n_is : l + 1 ≡ n = p.2 in cc in
        let inside : l < length a = there a l (quoted (code_at a l) 39 p.0 refl) in
        (no (code_at (take n a) 0 == 39) _ _ (ap (λ (k : ℕ). k == 39) first ∙ q) ∙ (ap (λ (x : Element). char_after x (take n a)) same.0 ∙ (yes (code_at (take n a) l == 39) _ _ (ap (λ (k : ℕ). k == 39) last ∙ p.0) ∙ shut)), omega (arith, inside, p.2))
    by_element (Pair high low) q is e = absurd (let f : Amiss Wrong ≡ Shut value n = e in cc)
    by_element (Flawed flaw) q is e = absurd (let f : Amiss flaw ≡ Shut value n = e in cc)

    by_quote : (b : Bool) → (code_at a 0 == 39) ≡ b → cond b (Amiss Wrong) (char_after (element_at a) a) ≡ Shut value n → (char_body (take n a) ≡ Shut value n) × (n ≤ length a)
    by_quote true q e = absurd (let f : Amiss Wrong ≡ Shut value n = e in cc)
    by_quote false q e = by_element (element_at a) q refl e

-- string literals

-- some units, and then a string's body
unit_first : (units : List ℕ) (l : ℕ) (rest : StringBody) (all : List ℕ) (len : ℕ) → with_units units l rest ≡ Closed all len → (more : List ℕ) × (k : ℕ) × (rest ≡ Closed more k) × (units ++ more ≡ all) × (l + k ≡ len)
unit_first units l (Closed more k) all len e = let f : Closed (units ++ more) (l + k) ≡ Closed all len = e in (more, k, refl, cc, cc)
unit_first units l (Broken flaw) all len e = absurd (let f : Broken flaw ≡ Closed all len = e in cc)

pub record Again (m : ℕ) (a : List Symbol) (units : List ℕ) (len : ℕ) : Type 0 where
  pub body : string_from m (take len a) ≡ Closed units len
  pub some : 0 < len
  pub within : len ≤ length a

shut_at_once : (m : ℕ) (a : List Symbol) → (code_at a 0 == 34) ≡ true → Again (suc m) a [] 1
unfolding string_from
shut_at_once m a q =
    let inside : 0 < length a = there a 0 (quoted (code_at a 0) 34 q refl) in
    record { body = yes (code_at (take 1 a) 0 == 34) _ _ (ap (λ (k : ℕ). k == 34) (code_take 1 0 a (omega arith)) ∙ q); some = omega arith; within = omega (arith, inside) }

one_further : (m : ℕ) (a : List Symbol) (unit l k : ℕ) (more : List ℕ) → (code_at a 0 == 34) ≡ false → element_at a ≡ One unit l → Again m (drop l a) more k → Again (suc m) a (unit ∷ more) (l + k)
unfolding string_from
one_further m a unit l k more q is again =
    let n = l + k in
    let z = again.some in
    let w = part_is_like n a in
    let first : code_at (take n a) 0 ≡ code_at a 0 = w.code 0 (omega (arith, z)) in
    let same = element_alike a (take n a) n unit l w is (omega (arith, z)) in
    let behind : length (drop l a) ≡ length a - l = length-drop l a in
    let near = again.within in
    record {
      body = no (code_at (take n a) 0 == 34) _ _ (ap (λ (c : ℕ). c == 34) first ∙ q) ∙
          (ap (string_after (λ d. string_from m (drop d (take n a)))) same.0 ∙
          (ap (λ (t : List Symbol). with_units (unit ∷ []) l (string_from m t)) (drop-take l k a) ∙ ap (with_units (unit ∷ []) l) again.body));
      some = omega (arith, z);
      within = omega (arith, z, behind, near);
    }

two_further : (m : ℕ) (a : List Symbol) (high low k : ℕ) (more : List ℕ) → (code_at a 0 == 34) ≡ false → element_at a ≡ Pair high low → Again m (drop 1 a) more k → Again (suc m) a (high ∷ low ∷ more) (1 + k)
unfolding string_from
two_further m a high low k more q is again =
    let n = 1 + k in
    let z = again.some in
    let w = part_is_like n a in
    let first : code_at (take n a) 0 ≡ code_at a 0 = w.code 0 (omega (arith, z)) in
    let same = pair_alike a (take n a) n high low w is (omega (arith, z)) in
    let behind : length (drop 1 a) ≡ length a - 1 = length-drop 1 a in
    let near = again.within in
    record {
      body = no (code_at (take n a) 0 == 34) _ _ (ap (λ (c : ℕ). c == 34) first ∙ q) ∙
          (ap (string_after (λ d. string_from m (drop d (take n a)))) same ∙
          (ap (λ (t : List Symbol). with_units (high ∷ low ∷ []) 1 (string_from m t)) (drop-take 1 k a) ∙ ap (with_units (high ∷ low ∷ []) 1) again.body));
      some = omega (arith, z);
      within = omega (arith, z, behind, near);
    }

module _ (n : ℕ) (ih : (m : ℕ) (a : List Symbol) (units : List ℕ) (len : ℕ) → string_from n a ≡ Closed units len → len ≤ m → Again m a units len) where
  after_element : (m : ℕ) (a : List Symbol) (units : List ℕ) (len : ℕ) (x : Element) → (code_at a 0 == 34) ≡ false → element_at a ≡ x → string_after (λ d. string_from n (drop d a)) x ≡ Closed units len → len ≤ suc m →
      Again (suc m) a units len
  after_element m a units len (One unit l) q is e h =
      let p = unit_first (unit ∷ []) l (string_from n (drop l a)) units len e in
      let z : 0 < l = element_some a unit l is in
      let again = ih m (drop l a) p.0 p.1 p.2 (omega (arith, z, h, p.4)) in
      subst (Again (suc m) a units) p.4 (subst (λ (us : List ℕ). Again (suc m) a us (l + p.1)) p.3 (one_further m a unit l p.1 p.0 q is again))
  after_element m a units len (Pair high low) q is e h =
      let p = unit_first (high ∷ low ∷ []) 1 (string_from n (drop 1 a)) units len e in
      let again = ih m (drop 1 a) p.0 p.1 p.2 (omega (arith, h, p.4)) in
      subst (Again (suc m) a units) p.4 (subst (λ (us : List ℕ). Again (suc m) a us (1 + p.1)) p.3 (two_further m a high low p.1 p.0 q is again))
  after_element m a units len (Flawed flaw) q is e h = absurd (let f : Broken flaw ≡ Closed units len = e in cc)

  by_quote : (m : ℕ) (a : List Symbol) (units : List ℕ) (len : ℕ) (b : Bool) → (code_at a 0 == 34) ≡ b → cond b (Closed [] 1) (string_after (λ d. string_from n (drop d a)) (element_at a)) ≡ Closed units len → len ≤ suc m →
      Again (suc m) a units len
  by_quote m a units len true q e h =
      let f : Closed [] 1 ≡ Closed units len = e in
      let none : [] ≡ units = cc in
      let one : 1 ≡ len = cc in
      subst (Again (suc m) a units) one (subst (λ (us : List ℕ). Again (suc m) a us 1) none (shut_at_once m a q))
  by_quote m a units len false q e h = after_element m a units len (element_at a) q refl e h

  some_units : (m : ℕ) (a : List Symbol) (units : List ℕ) (len : ℕ) (b : Bool) → cond b (Closed [] 1) (string_after (λ d. string_from n (drop d a)) (element_at a)) ≡ Closed units len → 0 < len
  some_units m a units len true e = let f : Closed [] 1 ≡ Closed units len = e in let one : 1 ≡ len = cc in omega (arith, one)
  some_units m a units len false e = by_element (element_at a) refl e
    where
      by_element : (x : Element) → element_at a ≡ x → string_after (λ d. string_from n (drop d a)) x ≡ Closed units len → 0 < len
      by_element (One unit l) is e =
          let p = unit_first (unit ∷ []) l (string_from n (drop l a)) units len e in
          let z : 0 < l = element_some a unit l is in
          omega (arith, z, p.4)
      by_element (Pair high low) is e = let p = unit_first (high ∷ low ∷ []) 1 (string_from n (drop 1 a)) units len e in omega (arith, p.4)
      by_element (Flawed flaw) is e = absurd (let f : Broken flaw ≡ Closed units len = e in cc)

pub string_alone : (n m : ℕ) (a : List Symbol) (units : List ℕ) (len : ℕ) → string_from n a ≡ Closed units len → len ≤ m → Again m a units len
unfolding string_from
string_alone zero m a units len e h = absurd (let f : Broken Open ≡ Closed units len = e in cc)
string_alone (suc n) zero a units len e h = absurd (let z : 0 < len = some_units n (string_alone n) 0 a units len (code_at a 0 == 34) e in omega (arith, z, h))
string_alone (suc n) (suc m) a units len e h = by_quote n (string_alone n) m a units len (code_at a 0 == 34) refl e h
