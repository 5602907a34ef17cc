-- Expressions of each level and height are read near.
use Rattle.std.proofs.Common.{ℕ, zero, suc, Bool, true, false, List, [], ◌∷◌, length, None, arith}
use Rattle.jc_lexer.specs.declared.token.Key.TheVariants as key_of
use Rattle.jc_lexer.specs.declared.token.Sign.{Sign}
use Rattle.jc_lexer.specs.declared.token.Sign.TheVariants as sign_of
use Rattle.jc_tree.specs.declared.types.TypeTree.{TypeTree}
use Rattle.jc_tree.specs.declared.expression.ArrayInit.{ArrayInit}
use Rattle.jc_tree.specs.declared.expression.BinaryOp.{BinaryOp}
use Rattle.jc_tree.specs.declared.expression.PrefixOp.{PrefixOp}
use Rattle.jc_tree.specs.declared.expression.Expr.{Expr}
use Rattle.jc_grammar.specs.Shapes.{is_primitive}
use Rattle.jc_reading.specs.Kinds.{sign_code, key_code, one_of}
use Rattle.jc_reading.specs.Reading.{Stopped, Run, in_turn, perhaps, any_number, either, of_kind, at_kind}
use Rattle.jc_reading.specs.Further.{either_one}
use Rattle.jc_reading.specs.Reach.{Near}
use Rattle.jc_reading.proofs.Nears.{near_as, near_by_value, near_turn, near_perhaps, near_any, near_either, near_picking, near_kind, near_place, near_prefer, near_followed, within_cond, within_then}
use Rattle.jc_parse_type.specs.TypeReading.{type_run}
use Rattle.jc_parse_type.proofs.CodeSteps.{within_type}
use Rattle.jc_expr_laws.specs.LevelReading.{picks_touching, touching_run, or_else_op, and_also_op, or_op, xor_op, and_op, equal_op, less_op, shift_op, plus_op, times_op, less_run, shift_run, or_else_run, and_also_run, or_run, xor_run, and_run, equal_run, plus_run, times_run, is_tall, chain_made, chain_run, picks_prefix, prefix_op_run, plain_op, plain_op_run, prefix_made, prefix_codes, prefix_run, plain_run, unary_run, operand_for, cast_run, bare_made, bare_run, conditional_made, conditional_run, touched_assign_run, assign_op, assign_run, no_target, assign_made, expr_run, Levels, next_levels, none_at, no_levels}
use Rattle.jc_expr_laws.specs.CompareReading.{links, barring, comparison_run, barred, behind_part, next_comparison_run, comparisons_run, compared_made, compare_run, touched_before}
use Rattle.jc_expr_laws.specs.PrimeReading.{init_run}
use Rattle.jc_expr_laws.specs.ExprReading.{Readers, next_readers, readers}
use Rattle.jc_parse_expr.proofs.PrimeNears.{near_init, near_array, near_post}

-- operators

near_touching : Near touching_run
near_touching = near_picking picks_touching

near_less : Near less_run
unfolding less_run
near_less =
    near_as less_op _ (near_either (sign_code sign_of.Less ∷ []) _ _ (near_kind (sign_code sign_of.Less)) (near_either (sign_code sign_of.LessEqual ∷ []) _ _ (near_kind (sign_code sign_of.LessEqual))
    (near_prefer _ _ (near_turn touching_run _ near_touching (near_kind (sign_code sign_of.Assign))) (near_kind (sign_code sign_of.Greater)))))

near_shift : Near shift_run
unfolding shift_run
near_shift =
    near_as shift_op _ (near_either (sign_code sign_of.ShiftLeft ∷ []) _ _ (near_kind (sign_code sign_of.ShiftLeft))
    (near_turn touching_run _ near_touching (near_prefer _ _ (near_turn touching_run _ near_touching (near_kind (sign_code sign_of.Greater))) (near_kind (sign_code sign_of.Greater)))))

near_or_else : Near or_else_run
unfolding or_else_run
near_or_else = near_as or_else_op _ (near_kind (sign_code sign_of.OrOr))

near_and_also : Near and_also_run
unfolding and_also_run
near_and_also = near_as and_also_op _ (near_kind (sign_code sign_of.AndAnd))

near_or : Near or_run
unfolding or_run
near_or = near_as or_op _ (near_kind (sign_code sign_of.Or))

near_xor : Near xor_run
unfolding xor_run
near_xor = near_as xor_op _ (near_kind (sign_code sign_of.Caret))

near_and : Near and_run
unfolding and_run
near_and = near_as and_op _ (near_kind (sign_code sign_of.And))

near_equal : Near equal_run
unfolding equal_run
near_equal = near_as equal_op _ (near_either (sign_code sign_of.Equal ∷ []) _ _ (near_kind (sign_code sign_of.Equal)) (near_kind (sign_code sign_of.NotEqual)))

near_plus : Near plus_run
unfolding plus_run
near_plus = near_as plus_op _ (near_either (sign_code sign_of.Plus ∷ []) _ _ (near_kind (sign_code sign_of.Plus)) (near_kind (sign_code sign_of.Minus)))

near_times_op : Near times_run
unfolding times_run
near_times_op =
    near_as times_op _ (near_either (sign_code sign_of.Star ∷ []) _ _ (near_kind (sign_code sign_of.Star))
    (near_either (sign_code sign_of.Slash ∷ []) _ _ (near_kind (sign_code sign_of.Slash)) (near_kind (sign_code sign_of.Percent))))

near_prefix_op : Near prefix_op_run
near_prefix_op = near_picking picks_prefix

near_plain_op : Near plain_op_run
unfolding plain_op_run
near_plain_op = near_as plain_op _ (near_either (sign_code sign_of.Not ∷ []) _ _ (near_place (sign_code sign_of.Not)) (near_place (sign_code sign_of.Tilde)))

near_touched : Near touched_assign_run
near_touched =
    near_turn touching_run _ near_touching (near_turn touching_run _ near_touching (near_either (sign_code sign_of.Assign ∷ []) _ _ (near_kind (sign_code sign_of.Assign)) (near_turn touching_run _ near_touching (near_kind (sign_code sign_of.Assign)))))

sign_or : {B : Type 0} (s : Sign) (n : Run B) → Near n → Near (either (sign_code s ∷ []) (of_kind (sign_code s)) n)
sign_or s n w = near_either (sign_code s ∷ []) (of_kind (sign_code s)) n (near_kind (sign_code s)) w

near_assign : Near assign_run
unfolding assign_run
near_assign =
    let m0 = either (sign_code sign_of.ShiftLeftAssign ∷ []) (of_kind (sign_code sign_of.ShiftLeftAssign)) (touched_assign_run) in
    let n0 : Near m0 = sign_or sign_of.ShiftLeftAssign touched_assign_run near_touched in
    let m1 = either (sign_code sign_of.CaretAssign ∷ []) (of_kind (sign_code sign_of.CaretAssign)) m0 in
    let n1 : Near m1 = sign_or sign_of.CaretAssign m0 n0 in
    let m2 = either (sign_code sign_of.OrAssign ∷ []) (of_kind (sign_code sign_of.OrAssign)) m1 in
    let n2 : Near m2 = sign_or sign_of.OrAssign m1 n1 in
    let m3 = either (sign_code sign_of.AndAssign ∷ []) (of_kind (sign_code sign_of.AndAssign)) m2 in
    let n3 : Near m3 = sign_or sign_of.AndAssign m2 n2 in
    let m4 = either (sign_code sign_of.PercentAssign ∷ []) (of_kind (sign_code sign_of.PercentAssign)) m3 in
    let n4 : Near m4 = sign_or sign_of.PercentAssign m3 n3 in
    let m5 = either (sign_code sign_of.SlashAssign ∷ []) (of_kind (sign_code sign_of.SlashAssign)) m4 in
    let n5 : Near m5 = sign_or sign_of.SlashAssign m4 n4 in
    let m6 = either (sign_code sign_of.StarAssign ∷ []) (of_kind (sign_code sign_of.StarAssign)) m5 in
    let n6 : Near m6 = sign_or sign_of.StarAssign m5 n5 in
    let m7 = either (sign_code sign_of.MinusAssign ∷ []) (of_kind (sign_code sign_of.MinusAssign)) m6 in
    let n7 : Near m7 = sign_or sign_of.MinusAssign m6 n6 in
    let m8 = either (sign_code sign_of.PlusAssign ∷ []) (of_kind (sign_code sign_of.PlusAssign)) m7 in
    let n8 : Near m8 = sign_or sign_of.PlusAssign m7 n7 in
    let m9 = either (sign_code sign_of.Assign ∷ []) (of_kind (sign_code sign_of.Assign)) m8 in
    let n9 : Near m9 = sign_or sign_of.Assign m8 n8 in
    near_as assign_op m9 n9

-- levels

near_chain : (h : ℕ) (op : Run BinaryOp) (first next : Run Expr) → Near op → Near first → Near next → Near (chain_run h op first next)
unfolding chain_run
near_chain zero op first next o f n = f
near_chain (suc k) op first next o f n = near_as chain_made _ (near_followed (is_tall (suc k)) [] first (any_number (in_turn op next)) f (near_any (in_turn op next) (near_turn op next o n)))

near_prefix : (first : Run PrefixOp) (bare : Run Expr) → Near first → Near bare → Near (prefix_run first bare)
near_prefix first bare f b = near_as prefix_made _ (near_turn first _ f (near_turn (any_number prefix_op_run) bare (near_any prefix_op_run near_prefix_op) b))

near_plainly : (h : ℕ) (bare lower : Run Expr) → Near bare → Near lower → Near (plain_run h bare lower)
unfolding plain_run
near_plainly zero bare lower b l = b
near_plainly (suc k) bare lower b l = near_as either_one _ (near_either (sign_code sign_of.Not ∷ sign_code sign_of.Tilde ∷ []) (prefix_run plain_op_run lower) bare (near_prefix plain_op_run lower near_plain_op l) b)

near_unary : (h : ℕ) (bare lower : Run Expr) → Near bare → Near lower → Near (unary_run h bare lower)
unfolding unary_run
near_unary zero bare lower b l = b
near_unary (suc k) bare lower b l = near_as either_one _ (near_either prefix_codes (prefix_run prefix_op_run lower) bare (near_prefix prefix_op_run lower near_prefix_op l) b)

near_operand : (b : Bool) (unary plain : Run Expr) → Near unary → Near plain → Near (operand_for b unary plain)
near_operand true unary plain u p = u
near_operand false unary plain u p = p

near_cast : (h : ℕ) (unary plain : Run Expr) → Near unary → Near plain → Near (cast_run h unary plain)
near_cast h unary plain u p =
    near_turn (at_kind (sign_code sign_of.LeftParen)) _ (near_place (sign_code sign_of.LeftParen))
    (near_by_value (in_turn (type_run h) (of_kind (sign_code sign_of.RightParen))) (λ (q : TypeTree × Unit {0}). operand_for (is_primitive q.0) unary plain) (near_turn (type_run h) (of_kind (sign_code sign_of.RightParen)) (within_type h) (near_kind (sign_code sign_of.RightParen)))
    (λ q. near_operand (is_primitive q.0) unary plain u p))

near_bare : (h : ℕ) (unary plain post : Run Expr) → Near unary → Near plain → Near post → Near (bare_run h unary plain post)
unfolding bare_run
near_bare zero unary plain post u p o = o
near_bare (suc k) unary plain post u p o = near_as bare_made _ (near_prefer (cast_run (suc k) unary plain) post (near_cast (suc k) unary plain u p) o)

near_conditional : (h : ℕ) (test expr conditional : Run Expr) → Near test → Near expr → Near conditional → Near (conditional_run h test expr conditional)
unfolding conditional_run
near_conditional zero test expr conditional t e c = t
near_conditional (suc k) test expr conditional t e c =
    near_as conditional_made _ (near_followed (is_tall (suc k)) None test _ t (near_perhaps _ (near_turn (of_kind (sign_code sign_of.Question)) _ (near_kind (sign_code sign_of.Question))
    (near_turn expr _ e (near_turn (of_kind (sign_code sign_of.Colon)) conditional (near_kind (sign_code sign_of.Colon)) c)))))

near_whole : (h : ℕ) (conditional expr : Run Expr) → Near conditional → Near expr → Near (expr_run h conditional expr)
unfolding expr_run
near_whole zero conditional expr c e = c
near_whole (suc k) conditional expr c e = near_as assign_made _ (near_followed (no_target (suc k)) None conditional (perhaps (in_turn assign_run expr)) c (near_perhaps (in_turn assign_run expr) (near_turn assign_run expr near_assign e)))

-- comparisons

near_links : {V P : Type 0} (n : ℕ) (make : V → P → V) (part : V → Bool → Run P) (v : V) (b : Bool) → ((v : V) (b : Bool) → Near (part v b)) → Near (links n make part v b)
unfolding links
near_links zero make part v b w ts = (omega arith, omega arith)
near_links (suc n) make part v b w ts = within_then ts (part v b ts) (λ p q. links n make part (make v p) (touched_before ts (length q)) q) (w v b ts) (λ p q. near_links n make part (make v p) (touched_before ts (length q)) w q)

near_barring : {A : Type 0} (codes : List ℕ) (m : Run A) → Near m → Near (barring codes m)
near_barring codes m w ts = within_cond (length ts) (one_of codes ts) (Stopped (length ts)) (m ts) (omega arith) (w ts)

near_comparison : (h : ℕ) (next : Run Expr) → Near next → Near (comparison_run h next)
near_comparison h next w =
    near_either (key_code key_of.Instanceof ∷ []) _ _ (near_turn (of_kind (key_code key_of.Instanceof)) (type_run h) (near_kind (key_code key_of.Instanceof)) (within_type h)) (near_turn less_run next near_less w)

near_compare : (h : ℕ) (first next : Run Expr) → Near first → Near next → Near (compare_run h first next)
unfolding compare_run comparisons_run
near_compare zero first next f n = f
near_compare (suc k) first next f n =
    near_as compared_made _ (near_followed (is_tall (suc k)) [] first (comparisons_run (suc k) next) f
    (λ ts. near_links (length ts) behind_part (next_comparison_run (suc k) next) false false (λ v b. near_barring (barred v b) (comparison_run (suc k) next) (near_comparison (suc k) next n)) ts))

-- at each height

pub record NearLevels (l : Levels) : Type 0 where
  pub bare : Near l.bare
  pub plain : Near l.plain
  pub unary : Near l.unary
  pub times : Near l.times
  pub plus : Near l.plus
  pub shift : Near l.shift
  pub compared : Near l.compared
  pub equal : Near l.equal
  pub bit_and : Near l.bit_and
  pub bit_xor : Near l.bit_xor
  pub bit_or : Near l.bit_or
  pub and_also : Near l.and_also
  pub or_else : Near l.or_else
  pub conditional : Near l.conditional
  pub expr : Near l.expr

near_none : (A : Type 0) → Near (none_at {A = A})
near_none A ts = omega arith

none_near : NearLevels no_levels
none_near = record {
  bare = near_none Expr;
  plain = near_none Expr;
  unary = near_none Expr;
  times = near_none Expr;
  plus = near_none Expr;
  shift = near_none Expr;
  compared = near_none Expr;
  equal = near_none Expr;
  bit_and = near_none Expr;
  bit_xor = near_none Expr;
  bit_or = near_none Expr;
  and_also = near_none Expr;
  or_else = near_none Expr;
  conditional = near_none Expr;
  expr = near_none Expr;
}

next_near : (h : ℕ) (low : Levels) (post : Run Expr) → NearLevels low → Near post → NearLevels (next_levels compare_run h low post)
unfolding next_levels
next_near h low post n p =
    let bare = near_bare h low.unary low.plain post n.unary n.plain p in
    let unary = near_unary h _ low.bare bare n.bare in
    let times = near_chain h times_run _ low.unary near_times_op unary n.unary in
    let plus = near_chain h plus_run _ low.times near_plus times n.times in
    let shift = near_chain h shift_run _ low.plus near_shift plus n.plus in
    let compared = near_compare h _ low.shift shift n.shift in
    let equal = near_chain h equal_run _ low.compared near_equal compared n.compared in
    let bit_and = near_chain h and_run _ low.equal near_and equal n.equal in
    let bit_xor = near_chain h xor_run _ low.bit_and near_xor bit_and n.bit_and in
    let bit_or = near_chain h or_run _ low.bit_xor near_or bit_xor n.bit_xor in
    let and_also = near_chain h and_also_run _ low.bit_or near_and_also bit_or n.bit_or in
    let or_else = near_chain h or_else_run _ low.and_also near_or_else and_also n.and_also in
    let conditional = near_conditional h _ low.expr low.conditional or_else n.expr n.conditional in
    record {
      bare = bare;
      plain = near_plainly h _ low.bare bare n.bare;
      unary = unary;
      times = times;
      plus = plus;
      shift = shift;
      compared = compared;
      equal = equal;
      bit_and = bit_and;
      bit_xor = bit_xor;
      bit_or = bit_or;
      and_also = and_also;
      or_else = or_else;
      conditional = conditional;
      expr = near_whole h _ low.expr conditional n.expr;
    }

pub record NearReaders (r : Readers) : Type 0 where
  pub post : Near r.post
  pub levels : NearLevels r.levels
  pub array : Near r.array

pub near_readers : (h : ℕ) → NearReaders (readers h)
unfolding readers next_readers
near_readers zero = record { post = near_none Expr; levels = none_near; array = near_none ArrayInit }
near_readers (suc h) =
    let n = near_readers h in
    let low = readers h in
    let post = near_post h low.levels.expr low.array n.levels.expr n.array in
    record { post = post; levels = next_near h low.levels _ n.levels post; array = near_array (init_run low.levels.expr low.array) (near_init low.levels.expr low.array n.levels.expr n.array) }

pub near_expr : (h : ℕ) → Near (readers h).levels.expr
near_expr h = (near_readers h).levels.expr

pub near_array_of : (h : ℕ) → Near (readers h).array
near_array_of h = (near_readers h).array
