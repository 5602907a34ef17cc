-- Which statement or member is read, by what stands at the front.
use Rattle.std.proofs.Common.{◌≡◌, ℕ, true, false, List, [], ◌∷◌, ◌∙◌}
use Rattle.jc_lexer.specs.declared.token.Key.TheVariants as key_of
use Rattle.jc_lexer.specs.declared.token.Sign.TheVariants as sign_of
use Rattle.jc_lexer.specs.declared.token.Token.{Token}
use Rattle.jc_reading.specs.Kinds.{key_code, one_of, sign_code}
use Rattle.jc_expr_laws.specs.ExprReading.{exprs}
use Rattle.jc_unit_laws.specs.UnitReading.{or_others, block_run, body_run, break_run, case_item_run, continue_run, do_run, empty_run, for_run, if_run, local_run, other_run, plain_run, return_run, statement_codes, switch_run, throw_run, try_run, while_run, word_run}
use Rattle.jc_unit_laws.specs.MemberReading.{item_run, levels, moded_item_run}
use Rattle.jc_parse_heads.specs.Beginnings.{declaration_codes, modifier_codes}
use Rattle.jc_parse_heads.specs.UnitCode.{keyed_run, simply_run}
use Rattle.jc_parse_heads.proofs.Joinings.{or_this, or_that}

pub body_if : (h : ℕ) (ts : List Token) → one_of (key_code key_of.If ∷ []) ts ≡ true → body_run exprs h (levels exprs h) ts ≡ if_run exprs h (levels exprs h) ts
unfolding body_run other_run simply_run
body_if h ts e0 = or_this (key_code key_of.If ∷ []) (if_run exprs h (levels exprs h)) (other_run exprs h (levels exprs h)) ts e0

pub body_other : (h : ℕ) (ts : List Token) → one_of (key_code key_of.If ∷ []) ts ≡ false → body_run exprs h (levels exprs h) ts ≡ other_run exprs h (levels exprs h) ts
unfolding body_run other_run simply_run
body_other h ts e0 = or_that (key_code key_of.If ∷ []) (if_run exprs h (levels exprs h)) (other_run exprs h (levels exprs h)) ts e0

pub other_simple : (h : ℕ) (ts : List Token) → one_of statement_codes ts ≡ true → other_run exprs h (levels exprs h) ts ≡ simply_run h ts
unfolding other_run simply_run
other_simple h ts e0 = or_this statement_codes (simply_run h) (plain_run exprs h (levels exprs h)) ts e0

pub other_plain : (h : ℕ) (ts : List Token) → one_of statement_codes ts ≡ false → other_run exprs h (levels exprs h) ts ≡ plain_run exprs h (levels exprs h) ts
unfolding other_run simply_run
other_plain h ts e0 = or_that statement_codes (simply_run h) (plain_run exprs h (levels exprs h)) ts e0

pub case_if : (h : ℕ) (ts : List Token) → one_of (key_code key_of.If ∷ []) ts ≡ true → case_item_run exprs h (levels exprs h) ts ≡ if_run exprs h (levels exprs h) ts
unfolding case_item_run simply_run
case_if h ts e0 = or_this (key_code key_of.If ∷ []) (if_run exprs h (levels exprs h)) (or_others statement_codes (simply_run h) (or_others modifier_codes (local_run exprs h) (word_run exprs h (levels exprs h)))) ts e0

pub case_simple : (h : ℕ) (ts : List Token) → one_of (key_code key_of.If ∷ []) ts ≡ false → one_of statement_codes ts ≡ true → case_item_run exprs h (levels exprs h) ts ≡ simply_run h ts
unfolding case_item_run simply_run
case_simple h ts e0 e1 = or_that (key_code key_of.If ∷ []) (if_run exprs h (levels exprs h)) (or_others statement_codes (simply_run h) (or_others modifier_codes (local_run exprs h) (word_run exprs h (levels exprs h)))) ts e0 ∙ or_this statement_codes (simply_run h) (or_others modifier_codes (local_run exprs h) (word_run exprs h (levels exprs h))) ts e1

pub case_local : (h : ℕ) (ts : List Token) → one_of (key_code key_of.If ∷ []) ts ≡ false → one_of statement_codes ts ≡ false → one_of modifier_codes ts ≡ true → case_item_run exprs h (levels exprs h) ts ≡ local_run exprs h ts
unfolding case_item_run simply_run
case_local h ts e0 e1 e2 = or_that (key_code key_of.If ∷ []) (if_run exprs h (levels exprs h)) (or_others statement_codes (simply_run h) (or_others modifier_codes (local_run exprs h) (word_run exprs h (levels exprs h)))) ts e0 ∙ or_that statement_codes (simply_run h) (or_others modifier_codes (local_run exprs h) (word_run exprs h (levels exprs h))) ts e1 ∙ or_this modifier_codes (local_run exprs h) (word_run exprs h (levels exprs h)) ts e2

pub case_word : (h : ℕ) (ts : List Token) → one_of (key_code key_of.If ∷ []) ts ≡ false → one_of statement_codes ts ≡ false → one_of modifier_codes ts ≡ false → case_item_run exprs h (levels exprs h) ts ≡ word_run exprs h (levels exprs h) ts
unfolding case_item_run simply_run
case_word h ts e0 e1 e2 = or_that (key_code key_of.If ∷ []) (if_run exprs h (levels exprs h)) (or_others statement_codes (simply_run h) (or_others modifier_codes (local_run exprs h) (word_run exprs h (levels exprs h)))) ts e0 ∙ or_that statement_codes (simply_run h) (or_others modifier_codes (local_run exprs h) (word_run exprs h (levels exprs h))) ts e1 ∙ or_that modifier_codes (local_run exprs h) (word_run exprs h (levels exprs h)) ts e2

pub item_if : (h : ℕ) (ts : List Token) → one_of (key_code key_of.If ∷ []) ts ≡ true → item_run exprs h (levels exprs h) ts ≡ if_run exprs h (levels exprs h) ts
unfolding item_run simply_run
item_if h ts e0 = or_this (key_code key_of.If ∷ []) (if_run exprs h (levels exprs h)) (or_others statement_codes (simply_run h) (or_others declaration_codes (moded_item_run exprs h (levels exprs h)) (word_run exprs h (levels exprs h)))) ts e0

pub item_simple : (h : ℕ) (ts : List Token) → one_of (key_code key_of.If ∷ []) ts ≡ false → one_of statement_codes ts ≡ true → item_run exprs h (levels exprs h) ts ≡ simply_run h ts
unfolding item_run simply_run
item_simple h ts e0 e1 = or_that (key_code key_of.If ∷ []) (if_run exprs h (levels exprs h)) (or_others statement_codes (simply_run h) (or_others declaration_codes (moded_item_run exprs h (levels exprs h)) (word_run exprs h (levels exprs h)))) ts e0 ∙ or_this statement_codes (simply_run h) (or_others declaration_codes (moded_item_run exprs h (levels exprs h)) (word_run exprs h (levels exprs h))) ts e1

pub item_moded : (h : ℕ) (ts : List Token) → one_of (key_code key_of.If ∷ []) ts ≡ false → one_of statement_codes ts ≡ false → one_of declaration_codes ts ≡ true → item_run exprs h (levels exprs h) ts ≡ moded_item_run exprs h (levels exprs h) ts
unfolding item_run simply_run
item_moded h ts e0 e1 e2 = or_that (key_code key_of.If ∷ []) (if_run exprs h (levels exprs h)) (or_others statement_codes (simply_run h) (or_others declaration_codes (moded_item_run exprs h (levels exprs h)) (word_run exprs h (levels exprs h)))) ts e0 ∙ or_that statement_codes (simply_run h) (or_others declaration_codes (moded_item_run exprs h (levels exprs h)) (word_run exprs h (levels exprs h))) ts e1 ∙ or_this declaration_codes (moded_item_run exprs h (levels exprs h)) (word_run exprs h (levels exprs h)) ts e2

pub item_word : (h : ℕ) (ts : List Token) → one_of (key_code key_of.If ∷ []) ts ≡ false → one_of statement_codes ts ≡ false → one_of declaration_codes ts ≡ false → item_run exprs h (levels exprs h) ts ≡ word_run exprs h (levels exprs h) ts
unfolding item_run simply_run
item_word h ts e0 e1 e2 = or_that (key_code key_of.If ∷ []) (if_run exprs h (levels exprs h)) (or_others statement_codes (simply_run h) (or_others declaration_codes (moded_item_run exprs h (levels exprs h)) (word_run exprs h (levels exprs h)))) ts e0 ∙ or_that statement_codes (simply_run h) (or_others declaration_codes (moded_item_run exprs h (levels exprs h)) (word_run exprs h (levels exprs h))) ts e1 ∙ or_that declaration_codes (moded_item_run exprs h (levels exprs h)) (word_run exprs h (levels exprs h)) ts e2

pub simple_block : (h : ℕ) (ts : List Token) → one_of (sign_code sign_of.LeftBrace ∷ []) ts ≡ true → simply_run h ts ≡ block_run exprs h (levels exprs h) ts
unfolding simply_run keyed_run
simple_block h ts e0 = or_this (sign_code sign_of.LeftBrace ∷ []) (block_run exprs h (levels exprs h)) (or_others (sign_code sign_of.Semicolon ∷ []) (empty_run exprs h (levels exprs h)) (or_others (key_code key_of.While ∷ []) (while_run exprs h (levels exprs h)) (or_others (key_code key_of.Do ∷ []) (do_run exprs h (levels exprs h)) (keyed_run h)))) ts e0

pub simple_empty : (h : ℕ) (ts : List Token) → one_of (sign_code sign_of.LeftBrace ∷ []) ts ≡ false → one_of (sign_code sign_of.Semicolon ∷ []) ts ≡ true → simply_run h ts ≡ empty_run exprs h (levels exprs h) ts
unfolding simply_run keyed_run
simple_empty h ts e0 e1 = or_that (sign_code sign_of.LeftBrace ∷ []) (block_run exprs h (levels exprs h)) (or_others (sign_code sign_of.Semicolon ∷ []) (empty_run exprs h (levels exprs h)) (or_others (key_code key_of.While ∷ []) (while_run exprs h (levels exprs h)) (or_others (key_code key_of.Do ∷ []) (do_run exprs h (levels exprs h)) (keyed_run h)))) ts e0 ∙ or_this (sign_code sign_of.Semicolon ∷ []) (empty_run exprs h (levels exprs h)) (or_others (key_code key_of.While ∷ []) (while_run exprs h (levels exprs h)) (or_others (key_code key_of.Do ∷ []) (do_run exprs h (levels exprs h)) (keyed_run h))) ts e1

pub simple_while : (h : ℕ) (ts : List Token) → one_of (sign_code sign_of.LeftBrace ∷ []) ts ≡ false → one_of (sign_code sign_of.Semicolon ∷ []) ts ≡ false → one_of (key_code key_of.While ∷ []) ts ≡ true → simply_run h ts ≡ while_run exprs h (levels exprs h) ts
unfolding simply_run keyed_run
simple_while h ts e0 e1 e2 = or_that (sign_code sign_of.LeftBrace ∷ []) (block_run exprs h (levels exprs h)) (or_others (sign_code sign_of.Semicolon ∷ []) (empty_run exprs h (levels exprs h)) (or_others (key_code key_of.While ∷ []) (while_run exprs h (levels exprs h)) (or_others (key_code key_of.Do ∷ []) (do_run exprs h (levels exprs h)) (keyed_run h)))) ts e0 ∙ or_that (sign_code sign_of.Semicolon ∷ []) (empty_run exprs h (levels exprs h)) (or_others (key_code key_of.While ∷ []) (while_run exprs h (levels exprs h)) (or_others (key_code key_of.Do ∷ []) (do_run exprs h (levels exprs h)) (keyed_run h))) ts e1 ∙ or_this (key_code key_of.While ∷ []) (while_run exprs h (levels exprs h)) (or_others (key_code key_of.Do ∷ []) (do_run exprs h (levels exprs h)) (keyed_run h)) ts e2

pub simple_do : (h : ℕ) (ts : List Token) → one_of (sign_code sign_of.LeftBrace ∷ []) ts ≡ false → one_of (sign_code sign_of.Semicolon ∷ []) ts ≡ false → one_of (key_code key_of.While ∷ []) ts ≡ false → one_of (key_code key_of.Do ∷ []) ts ≡ true → simply_run h ts ≡ do_run exprs h (levels exprs h) ts
unfolding simply_run keyed_run
simple_do h ts e0 e1 e2 e3 = or_that (sign_code sign_of.LeftBrace ∷ []) (block_run exprs h (levels exprs h)) (or_others (sign_code sign_of.Semicolon ∷ []) (empty_run exprs h (levels exprs h)) (or_others (key_code key_of.While ∷ []) (while_run exprs h (levels exprs h)) (or_others (key_code key_of.Do ∷ []) (do_run exprs h (levels exprs h)) (keyed_run h)))) ts e0 ∙ or_that (sign_code sign_of.Semicolon ∷ []) (empty_run exprs h (levels exprs h)) (or_others (key_code key_of.While ∷ []) (while_run exprs h (levels exprs h)) (or_others (key_code key_of.Do ∷ []) (do_run exprs h (levels exprs h)) (keyed_run h))) ts e1 ∙ or_that (key_code key_of.While ∷ []) (while_run exprs h (levels exprs h)) (or_others (key_code key_of.Do ∷ []) (do_run exprs h (levels exprs h)) (keyed_run h)) ts e2 ∙ or_this (key_code key_of.Do ∷ []) (do_run exprs h (levels exprs h)) (keyed_run h) ts e3

pub simple_keyed : (h : ℕ) (ts : List Token) → one_of (sign_code sign_of.LeftBrace ∷ []) ts ≡ false → one_of (sign_code sign_of.Semicolon ∷ []) ts ≡ false → one_of (key_code key_of.While ∷ []) ts ≡ false → one_of (key_code key_of.Do ∷ []) ts ≡ false → simply_run h ts ≡ keyed_run h ts
unfolding simply_run keyed_run
simple_keyed h ts e0 e1 e2 e3 = or_that (sign_code sign_of.LeftBrace ∷ []) (block_run exprs h (levels exprs h)) (or_others (sign_code sign_of.Semicolon ∷ []) (empty_run exprs h (levels exprs h)) (or_others (key_code key_of.While ∷ []) (while_run exprs h (levels exprs h)) (or_others (key_code key_of.Do ∷ []) (do_run exprs h (levels exprs h)) (keyed_run h)))) ts e0 ∙ or_that (sign_code sign_of.Semicolon ∷ []) (empty_run exprs h (levels exprs h)) (or_others (key_code key_of.While ∷ []) (while_run exprs h (levels exprs h)) (or_others (key_code key_of.Do ∷ []) (do_run exprs h (levels exprs h)) (keyed_run h))) ts e1 ∙ or_that (key_code key_of.While ∷ []) (while_run exprs h (levels exprs h)) (or_others (key_code key_of.Do ∷ []) (do_run exprs h (levels exprs h)) (keyed_run h)) ts e2 ∙ or_that (key_code key_of.Do ∷ []) (do_run exprs h (levels exprs h)) (keyed_run h) ts e3

pub keyed_for : (h : ℕ) (ts : List Token) → one_of (key_code key_of.For ∷ []) ts ≡ true → keyed_run h ts ≡ for_run exprs h (levels exprs h) ts
unfolding keyed_run
keyed_for h ts e0 = or_this (key_code key_of.For ∷ []) (for_run exprs h (levels exprs h)) (or_others (key_code key_of.Switch ∷ []) (switch_run exprs h (levels exprs h)) (or_others (key_code key_of.Return ∷ []) (return_run exprs h (levels exprs h)) (or_others (key_code key_of.Break ∷ []) (break_run exprs h (levels exprs h)) (or_others (key_code key_of.Continue ∷ []) (continue_run exprs h (levels exprs h)) (or_others (key_code key_of.Throw ∷ []) (throw_run exprs h (levels exprs h)) (try_run exprs h (levels exprs h))))))) ts e0

pub keyed_switch : (h : ℕ) (ts : List Token) → one_of (key_code key_of.For ∷ []) ts ≡ false → one_of (key_code key_of.Switch ∷ []) ts ≡ true → keyed_run h ts ≡ switch_run exprs h (levels exprs h) ts
unfolding keyed_run
keyed_switch h ts e0 e1 = or_that (key_code key_of.For ∷ []) (for_run exprs h (levels exprs h)) (or_others (key_code key_of.Switch ∷ []) (switch_run exprs h (levels exprs h)) (or_others (key_code key_of.Return ∷ []) (return_run exprs h (levels exprs h)) (or_others (key_code key_of.Break ∷ []) (break_run exprs h (levels exprs h)) (or_others (key_code key_of.Continue ∷ []) (continue_run exprs h (levels exprs h)) (or_others (key_code key_of.Throw ∷ []) (throw_run exprs h (levels exprs h)) (try_run exprs h (levels exprs h))))))) ts e0 ∙ or_this (key_code key_of.Switch ∷ []) (switch_run exprs h (levels exprs h)) (or_others (key_code key_of.Return ∷ []) (return_run exprs h (levels exprs h)) (or_others (key_code key_of.Break ∷ []) (break_run exprs h (levels exprs h)) (or_others (key_code key_of.Continue ∷ []) (continue_run exprs h (levels exprs h)) (or_others (key_code key_of.Throw ∷ []) (throw_run exprs h (levels exprs h)) (try_run exprs h (levels exprs h)))))) ts e1

pub keyed_return : (h : ℕ) (ts : List Token) → one_of (key_code key_of.For ∷ []) ts ≡ false → one_of (key_code key_of.Switch ∷ []) ts ≡ false → one_of (key_code key_of.Return ∷ []) ts ≡ true → keyed_run h ts ≡ return_run exprs h (levels exprs h) ts
unfolding keyed_run
keyed_return h ts e0 e1 e2 = or_that (key_code key_of.For ∷ []) (for_run exprs h (levels exprs h)) (or_others (key_code key_of.Switch ∷ []) (switch_run exprs h (levels exprs h)) (or_others (key_code key_of.Return ∷ []) (return_run exprs h (levels exprs h)) (or_others (key_code key_of.Break ∷ []) (break_run exprs h (levels exprs h)) (or_others (key_code key_of.Continue ∷ []) (continue_run exprs h (levels exprs h)) (or_others (key_code key_of.Throw ∷ []) (throw_run exprs h (levels exprs h)) (try_run exprs h (levels exprs h))))))) ts e0 ∙ or_that (key_code key_of.Switch ∷ []) (switch_run exprs h (levels exprs h)) (or_others (key_code key_of.Return ∷ []) (return_run exprs h (levels exprs h)) (or_others (key_code key_of.Break ∷ []) (break_run exprs h (levels exprs h)) (or_others (key_code key_of.Continue ∷ []) (continue_run exprs h (levels exprs h)) (or_others (key_code key_of.Throw ∷ []) (throw_run exprs h (levels exprs h)) (try_run exprs h (levels exprs h)))))) ts e1 ∙ or_this (key_code key_of.Return ∷ []) (return_run exprs h (levels exprs h)) (or_others (key_code key_of.Break ∷ []) (break_run exprs h (levels exprs h)) (or_others (key_code key_of.Continue ∷ []) (continue_run exprs h (levels exprs h)) (or_others (key_code key_of.Throw ∷ []) (throw_run exprs h (levels exprs h)) (try_run exprs h (levels exprs h))))) ts e2

pub keyed_break : (h : ℕ) (ts : List Token) → one_of (key_code key_of.For ∷ []) ts ≡ false → one_of (key_code key_of.Switch ∷ []) ts ≡ false → one_of (key_code key_of.Return ∷ []) ts ≡ false → one_of (key_code key_of.Break ∷ []) ts ≡ true → keyed_run h ts ≡ break_run exprs h (levels exprs h) ts
unfolding keyed_run
keyed_break h ts e0 e1 e2 e3 = or_that (key_code key_of.For ∷ []) (for_run exprs h (levels exprs h)) (or_others (key_code key_of.Switch ∷ []) (switch_run exprs h (levels exprs h)) (or_others (key_code key_of.Return ∷ []) (return_run exprs h (levels exprs h)) (or_others (key_code key_of.Break ∷ []) (break_run exprs h (levels exprs h)) (or_others (key_code key_of.Continue ∷ []) (continue_run exprs h (levels exprs h)) (or_others (key_code key_of.Throw ∷ []) (throw_run exprs h (levels exprs h)) (try_run exprs h (levels exprs h))))))) ts e0 ∙ or_that (key_code key_of.Switch ∷ []) (switch_run exprs h (levels exprs h)) (or_others (key_code key_of.Return ∷ []) (return_run exprs h (levels exprs h)) (or_others (key_code key_of.Break ∷ []) (break_run exprs h (levels exprs h)) (or_others (key_code key_of.Continue ∷ []) (continue_run exprs h (levels exprs h)) (or_others (key_code key_of.Throw ∷ []) (throw_run exprs h (levels exprs h)) (try_run exprs h (levels exprs h)))))) ts e1 ∙ or_that (key_code key_of.Return ∷ []) (return_run exprs h (levels exprs h)) (or_others (key_code key_of.Break ∷ []) (break_run exprs h (levels exprs h)) (or_others (key_code key_of.Continue ∷ []) (continue_run exprs h (levels exprs h)) (or_others (key_code key_of.Throw ∷ []) (throw_run exprs h (levels exprs h)) (try_run exprs h (levels exprs h))))) ts e2 ∙ or_this (key_code key_of.Break ∷ []) (break_run exprs h (levels exprs h)) (or_others (key_code key_of.Continue ∷ []) (continue_run exprs h (levels exprs h)) (or_others (key_code key_of.Throw ∷ []) (throw_run exprs h (levels exprs h)) (try_run exprs h (levels exprs h)))) ts e3

pub keyed_continue : (h : ℕ) (ts : List Token) → one_of (key_code key_of.For ∷ []) ts ≡ false → one_of (key_code key_of.Switch ∷ []) ts ≡ false → one_of (key_code key_of.Return ∷ []) ts ≡ false → one_of (key_code key_of.Break ∷ []) ts ≡ false → one_of (key_code key_of.Continue ∷ []) ts ≡ true → keyed_run h ts ≡ continue_run exprs h (levels exprs h) ts
unfolding keyed_run
keyed_continue h ts e0 e1 e2 e3 e4 = or_that (key_code key_of.For ∷ []) (for_run exprs h (levels exprs h)) (or_others (key_code key_of.Switch ∷ []) (switch_run exprs h (levels exprs h)) (or_others (key_code key_of.Return ∷ []) (return_run exprs h (levels exprs h)) (or_others (key_code key_of.Break ∷ []) (break_run exprs h (levels exprs h)) (or_others (key_code key_of.Continue ∷ []) (continue_run exprs h (levels exprs h)) (or_others (key_code key_of.Throw ∷ []) (throw_run exprs h (levels exprs h)) (try_run exprs h (levels exprs h))))))) ts e0 ∙ or_that (key_code key_of.Switch ∷ []) (switch_run exprs h (levels exprs h)) (or_others (key_code key_of.Return ∷ []) (return_run exprs h (levels exprs h)) (or_others (key_code key_of.Break ∷ []) (break_run exprs h (levels exprs h)) (or_others (key_code key_of.Continue ∷ []) (continue_run exprs h (levels exprs h)) (or_others (key_code key_of.Throw ∷ []) (throw_run exprs h (levels exprs h)) (try_run exprs h (levels exprs h)))))) ts e1 ∙ or_that (key_code key_of.Return ∷ []) (return_run exprs h (levels exprs h)) (or_others (key_code key_of.Break ∷ []) (break_run exprs h (levels exprs h)) (or_others (key_code key_of.Continue ∷ []) (continue_run exprs h (levels exprs h)) (or_others (key_code key_of.Throw ∷ []) (throw_run exprs h (levels exprs h)) (try_run exprs h (levels exprs h))))) ts e2 ∙ or_that (key_code key_of.Break ∷ []) (break_run exprs h (levels exprs h)) (or_others (key_code key_of.Continue ∷ []) (continue_run exprs h (levels exprs h)) (or_others (key_code key_of.Throw ∷ []) (throw_run exprs h (levels exprs h)) (try_run exprs h (levels exprs h)))) ts e3 ∙ or_this (key_code key_of.Continue ∷ []) (continue_run exprs h (levels exprs h)) (or_others (key_code key_of.Throw ∷ []) (throw_run exprs h (levels exprs h)) (try_run exprs h (levels exprs h))) ts e4

pub keyed_throw : (h : ℕ) (ts : List Token) → one_of (key_code key_of.For ∷ []) ts ≡ false → one_of (key_code key_of.Switch ∷ []) ts ≡ false → one_of (key_code key_of.Return ∷ []) ts ≡ false → one_of (key_code key_of.Break ∷ []) ts ≡ false → one_of (key_code key_of.Continue ∷ []) ts ≡ false → one_of (key_code key_of.Throw ∷ []) ts ≡ true → keyed_run h ts ≡ throw_run exprs h (levels exprs h) ts
unfolding keyed_run
keyed_throw h ts e0 e1 e2 e3 e4 e5 = or_that (key_code key_of.For ∷ []) (for_run exprs h (levels exprs h)) (or_others (key_code key_of.Switch ∷ []) (switch_run exprs h (levels exprs h)) (or_others (key_code key_of.Return ∷ []) (return_run exprs h (levels exprs h)) (or_others (key_code key_of.Break ∷ []) (break_run exprs h (levels exprs h)) (or_others (key_code key_of.Continue ∷ []) (continue_run exprs h (levels exprs h)) (or_others (key_code key_of.Throw ∷ []) (throw_run exprs h (levels exprs h)) (try_run exprs h (levels exprs h))))))) ts e0 ∙ or_that (key_code key_of.Switch ∷ []) (switch_run exprs h (levels exprs h)) (or_others (key_code key_of.Return ∷ []) (return_run exprs h (levels exprs h)) (or_others (key_code key_of.Break ∷ []) (break_run exprs h (levels exprs h)) (or_others (key_code key_of.Continue ∷ []) (continue_run exprs h (levels exprs h)) (or_others (key_code key_of.Throw ∷ []) (throw_run exprs h (levels exprs h)) (try_run exprs h (levels exprs h)))))) ts e1 ∙ or_that (key_code key_of.Return ∷ []) (return_run exprs h (levels exprs h)) (or_others (key_code key_of.Break ∷ []) (break_run exprs h (levels exprs h)) (or_others (key_code key_of.Continue ∷ []) (continue_run exprs h (levels exprs h)) (or_others (key_code key_of.Throw ∷ []) (throw_run exprs h (levels exprs h)) (try_run exprs h (levels exprs h))))) ts e2 ∙ or_that (key_code key_of.Break ∷ []) (break_run exprs h (levels exprs h)) (or_others (key_code key_of.Continue ∷ []) (continue_run exprs h (levels exprs h)) (or_others (key_code key_of.Throw ∷ []) (throw_run exprs h (levels exprs h)) (try_run exprs h (levels exprs h)))) ts e3 ∙ or_that (key_code key_of.Continue ∷ []) (continue_run exprs h (levels exprs h)) (or_others (key_code key_of.Throw ∷ []) (throw_run exprs h (levels exprs h)) (try_run exprs h (levels exprs h))) ts e4 ∙ or_this (key_code key_of.Throw ∷ []) (throw_run exprs h (levels exprs h)) (try_run exprs h (levels exprs h)) ts e5

pub keyed_try : (h : ℕ) (ts : List Token) → one_of (key_code key_of.For ∷ []) ts ≡ false → one_of (key_code key_of.Switch ∷ []) ts ≡ false → one_of (key_code key_of.Return ∷ []) ts ≡ false → one_of (key_code key_of.Break ∷ []) ts ≡ false → one_of (key_code key_of.Continue ∷ []) ts ≡ false → one_of (key_code key_of.Throw ∷ []) ts ≡ false → keyed_run h ts ≡ try_run exprs h (levels exprs h) ts
unfolding keyed_run
keyed_try h ts e0 e1 e2 e3 e4 e5 = or_that (key_code key_of.For ∷ []) (for_run exprs h (levels exprs h)) (or_others (key_code key_of.Switch ∷ []) (switch_run exprs h (levels exprs h)) (or_others (key_code key_of.Return ∷ []) (return_run exprs h (levels exprs h)) (or_others (key_code key_of.Break ∷ []) (break_run exprs h (levels exprs h)) (or_others (key_code key_of.Continue ∷ []) (continue_run exprs h (levels exprs h)) (or_others (key_code key_of.Throw ∷ []) (throw_run exprs h (levels exprs h)) (try_run exprs h (levels exprs h))))))) ts e0 ∙ or_that (key_code key_of.Switch ∷ []) (switch_run exprs h (levels exprs h)) (or_others (key_code key_of.Return ∷ []) (return_run exprs h (levels exprs h)) (or_others (key_code key_of.Break ∷ []) (break_run exprs h (levels exprs h)) (or_others (key_code key_of.Continue ∷ []) (continue_run exprs h (levels exprs h)) (or_others (key_code key_of.Throw ∷ []) (throw_run exprs h (levels exprs h)) (try_run exprs h (levels exprs h)))))) ts e1 ∙ or_that (key_code key_of.Return ∷ []) (return_run exprs h (levels exprs h)) (or_others (key_code key_of.Break ∷ []) (break_run exprs h (levels exprs h)) (or_others (key_code key_of.Continue ∷ []) (continue_run exprs h (levels exprs h)) (or_others (key_code key_of.Throw ∷ []) (throw_run exprs h (levels exprs h)) (try_run exprs h (levels exprs h))))) ts e2 ∙ or_that (key_code key_of.Break ∷ []) (break_run exprs h (levels exprs h)) (or_others (key_code key_of.Continue ∷ []) (continue_run exprs h (levels exprs h)) (or_others (key_code key_of.Throw ∷ []) (throw_run exprs h (levels exprs h)) (try_run exprs h (levels exprs h)))) ts e3 ∙ or_that (key_code key_of.Continue ∷ []) (continue_run exprs h (levels exprs h)) (or_others (key_code key_of.Throw ∷ []) (throw_run exprs h (levels exprs h)) (try_run exprs h (levels exprs h))) ts e4 ∙ or_that (key_code key_of.Throw ∷ []) (throw_run exprs h (levels exprs h)) (try_run exprs h (levels exprs h)) ts e5
