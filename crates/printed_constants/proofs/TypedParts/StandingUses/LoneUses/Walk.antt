-- No two names among the parts of a declaration have one span, where the parts of its tree stand one behind the other.
use Rattle.std.proofs.Common.{ℕ, List, [], ◌∷◌, Option, Some, None, refl}
use Rattle.go_tree.specs.declared.spans.Span.{Span}
use Rattle.go_tree.specs.Tree.{TypeExpr, named, pointer, slice_type, map_type, struct_type, Fields, no_fields, field, Param, Sig, Expr, ident, int_lit, rune_lit, str_lit, composite, selector, index, slice, call, func_lit, type_operand, unary, binary, star, Exprs, no_exprs, expr_and, ExprOption, no_expr, some_expr, Elems, no_elems, elem, Value, plain, braced, ValueOption, no_value, some_value, Stmt, const_decl, var_decl, empty, eval, step, assign, define, return_, break_, continue_, inner, if_, for_, range_, switch, defer, label, Stmts, no_stmts, stmt_and, StmtOption, no_stmt, some_stmt, BlockOption, no_block, some_block, RangeLeft, nothing, assigns, defines, Arms, no_arms, arm, Cases, no_cases, case, ValueSpecs, no_specs, spec}
use Rattle.go_tree.specs.File.{TypeSpec, Receiver, Decl, values, types, func}
use Rattle.run_rules.specs.Sites.{an_expr, a_type_part}
use Rattle.order_runs.proofs.RunSteps.TokenPlaces.{itself}
use Rattle.order_runs.proofs.RunSteps.SpanPlaces.{ExprIn, ExprsIn, OptionIn, ElemsIn, KeyIn, ValueIn, StmtIn, StmtsIn, FirstIn, BlockIn, LeftIn, ArmsIn, CasesIn, SpecsIn, DeclIn}
use Rattle.member_uses.specs.PossibleUses.Candidates.{plain_part, key_of, receiver_part}
use Rattle.member_uses.specs.PossibleUses.Written.{inner_written, keys_written}
use Rattle.member_uses.specs.PossibleUses.Parts.{after_arms, after_block_option, after_cases, after_decl, after_elems, after_expr, after_expr_option, after_exprs, after_fields, after_key, after_left, after_params, after_receiver, after_sig, after_specs, after_stmt, after_stmt_option, after_stmts, after_type, after_type_option, after_types, after_value}
use Rattle.printed_constants.proofs.TypedParts.StandingUses.LoneUses.Grown.{C, Free, Grows, free_none, free_put, free_both, stays, wider, one, two, behind, before, leaf, short}

-- ---- types name nothing

mutual
  pub type_free : (t : TypeExpr Span) (xs : List C) → Free xs (after_type t xs)
  type_free (named s p n) xs = free_put (plain_part (a_type_part (named s p n))) xs refl
  type_free (pointer s t) xs = type_free t xs
  type_free (slice_type s t) xs = type_free t xs
  type_free (map_type s k t) xs = free_both (type_free k xs) (type_free t (after_type k xs))
  type_free (struct_type s fs) xs = fields_free fs xs

  fields_free : (fs : Fields Span) (xs : List C) → Free xs (after_fields fs xs)
  fields_free no_fields xs = free_none xs
  fields_free (field s n t fs) xs = free_both (type_free t xs) (fields_free fs (after_type t xs))

pub type_option_free : (t : Option (TypeExpr Span)) (xs : List C) → Free xs (after_type_option t xs)
type_option_free None xs = free_none xs
type_option_free (Some t) xs = type_free t xs

params_free : (ps : List (Param Span)) (xs : List C) → Free xs (after_params ps xs)
params_free [] xs = free_none xs
params_free (p ∷ ps) xs = free_both (type_free p.of xs) (params_free ps (after_type p.of xs))

pub sig_free : (g : Sig Span) (xs : List C) → Free xs (after_sig g xs)
sig_free g xs = free_both (params_free g.params xs) (params_free g.results (after_params g.params xs))

pub types_free : (ts : List (TypeSpec Span)) (xs : List C) → Free xs (after_types ts xs)
types_free [] xs = free_none xs
types_free (t ∷ ts) xs = free_both (type_free t.of xs) (types_free ts (after_type t.of xs))

pub receiver_free : (r : Option (Receiver Span)) (xs : List C) → Free xs (after_receiver r xs)
receiver_free None xs = free_none xs
receiver_free (Some r) xs = free_put (plain_part (receiver_part r.of)) xs refl

-- ---- expressions and statements

mutual
  expr : (e : Expr Span) {lo hi : ℕ} (xs : List C) → ExprIn lo hi e → Grows lo hi xs (after_expr e xs)
  expr (ident s n) xs h = leaf (plain_part (an_expr (ident s n))) xs s refl h
  expr (int_lit s n) xs h = stays
  expr (rune_lit s n) xs h = stays
  expr (str_lit s n) xs h = stays
  expr (composite s t es) xs h = behind (type_free t xs) (wider h.1.above itself (one h.1.it (λ a b k. elems (Some t) es (after_type t xs) k)))
  expr (selector s b n) xs h = short (plain_part (an_expr (selector s b n))) s refl h.0 h.1.before h.1.below (one h.1.it (λ a c k. expr b xs k))
  expr (index s b i) xs h = two h.1.both (λ a c k. one k (λ v w q. expr b xs q)) (λ a c k. one k (λ v w q. expr i (after_expr b xs) q))
  expr (slice s b i j) xs h =
      two h.1.both (λ a c k. one k (λ v w q. expr b xs q))
      (λ a c k. one k (λ v w q. two q (λ d e m. option i (after_expr b xs) m) (λ d e m. option j (after_expr_option i (after_expr b xs)) m)))
  expr (call s f es r) xs h =
      before (two h.1.both (λ a c k. one k (λ v w q. expr f xs q)) (λ a c k. one k (λ v w q. exprs es (after_expr f xs) q)))
      (free_put (plain_part (an_expr (call s f es r))) (after_exprs es (after_expr f xs)) refl)
  expr (func_lit s g z b) xs h = behind (sig_free g xs) (wider h.1.above itself (one h.1.it (λ v w q. stmts b (after_sig g xs) q)))
  expr (type_operand s t) xs h = behind (type_free t xs) stays
  expr (unary s o e) xs h = wider h.1.above itself (one h.1.it (λ v w q. expr e xs q))
  expr (binary s o a b) xs h = two h.1.both (λ l m k. one k (λ v w q. expr a xs q)) (λ l m k. one k (λ v w q. expr b (after_expr a xs) q))
  expr (star s e) xs h = wider h.1.above itself (one h.1.it (λ v w q. expr e xs q))

  exprs : (es : Exprs Span) {lo hi : ℕ} (xs : List C) → ExprsIn lo hi es → Grows lo hi xs (after_exprs es xs)
  exprs no_exprs xs h = stays
  exprs (expr_and e es) xs h = two h (λ a b k. one k (λ v w q. expr e xs q)) (λ a b k. exprs es (after_expr e xs) k)

  option : (e : ExprOption Span) {lo hi : ℕ} (xs : List C) → OptionIn lo hi e → Grows lo hi xs (after_expr_option e xs)
  option no_expr xs h = stays
  option (some_expr e) xs h = one h (λ v w q. expr e xs q)

  elems : (w : Option (TypeExpr Span)) (es : Elems Span) {lo hi : ℕ} (xs : List C) → ElemsIn lo hi es → Grows lo hi xs (after_elems w es xs)
  elems w no_elems xs h = stays
  elems w (elem s k v es) xs h =
      two h (λ a b q. two q (λ c d m. key w k xs m) (λ c d m. value (inner_written w) v (after_key w k xs) m)) (λ a b q. elems w es (after_value (inner_written w) v (after_key w k xs)) q)

  key : (w : Option (TypeExpr Span)) (k : ValueOption Span) {lo hi : ℕ} (xs : List C) → KeyIn lo hi k → Grows lo hi xs (after_key w k xs)
  key w no_value xs h = stays
  key w (some_value (plain (ident s n))) xs h = one h (λ v m q. leaf (key_of w (ident s n)) xs s refl q)
  key w (some_value (plain e)) xs h = value (keys_written w) (plain e) xs h
  key w (some_value (braced s es)) xs h = value (keys_written w) (braced s es) xs h

  value : (w : Option (TypeExpr Span)) (v : Value Span) {lo hi : ℕ} (xs : List C) → ValueIn lo hi v → Grows lo hi xs (after_value w v xs)
  value w (plain e) xs h = one h (λ v m q. expr e xs q)
  value w (braced s es) xs h = one h (λ v m q. elems w es xs q)

  stmt : (s : Stmt Span) {lo hi : ℕ} (xs : List C) → StmtIn lo hi s → Grows lo hi xs (after_stmt s xs)
  stmt (const_decl s g ss) xs h = one h (λ v w q. specs ss xs q)
  stmt (var_decl s g ss) xs h = one h (λ v w q. specs ss xs q)
  stmt (empty s) xs h = stays
  stmt (eval s e) xs h = one h (λ v w q. expr e xs q)
  stmt (step s e b) xs h = one h (λ v w q. expr e xs q)
  stmt (assign s ls o bs) xs h = two h (λ v w q. exprs ls xs q) (λ v w q. exprs bs (after_exprs ls xs) q)
  stmt (define s ns es) xs h = wider h.above itself (exprs es xs h.two)
  stmt (return_ s es) xs h = one h (λ v w q. exprs es xs q)
  stmt (break_ s n) xs h = stays
  stmt (continue_ s n) xs h = stays
  stmt (inner s b) xs h = one h (λ v w q. stmts b xs q)
  stmt (if_ s bs z) xs h = two h (λ v w q. arms bs xs q) (λ v w q. block z (after_arms bs xs) q)
  stmt (for_ s i t q z b) xs h =
      one h (λ v w k. two k
      (λ c d m. two m (λ e f n. two n (λ x y j. first i xs j) (λ x y j. option t (after_stmt_option i xs) j)) (λ e f n. first q (after_expr_option t (after_stmt_option i xs)) n))
      (λ c d m. one m (λ x y j. stmts b (after_stmt_option q (after_expr_option t (after_stmt_option i xs))) j)))
  stmt (range_ s x e z b) xs h =
      one h (λ v w k. two k (λ c d m. two m (λ f g n. left x xs n) (λ f g n. one n (λ l r j. expr e (after_left x xs) j)))
      (λ c d m. one m (λ l r j. stmts b (after_expr e (after_left x xs)) j)))
  stmt (switch s i t cs) xs h =
      one h (λ v w k. two k (λ c d m. two m (λ f g n. first i xs n) (λ f g n. option t (after_stmt_option i xs) n))
      (λ c d m. cases cs (after_expr_option t (after_stmt_option i xs)) m))
  stmt (defer s e) xs h = one h (λ v w q. expr e xs q)
  stmt (label s n x) xs h = one h (λ v w q. stmt x xs q)

  stmts : (ss : Stmts Span) {lo hi : ℕ} (xs : List C) → StmtsIn lo hi ss → Grows lo hi xs (after_stmts ss xs)
  stmts no_stmts xs h = stays
  stmts (stmt_and s ss) xs h = two h (λ v w q. stmt s xs q) (λ v w q. stmts ss (after_stmt s xs) q)

  first : (s : StmtOption Span) {lo hi : ℕ} (xs : List C) → FirstIn lo hi s → Grows lo hi xs (after_stmt_option s xs)
  first no_stmt xs h = stays
  first (some_stmt s) xs h = one h (λ v w q. stmt s xs q)

  block : (z : BlockOption Span) {lo hi : ℕ} (xs : List C) → BlockIn lo hi z → Grows lo hi xs (after_block_option z xs)
  block no_block xs h = stays
  block (some_block s b) xs h = one h (λ v w q. stmts b xs q)

  left : (x : RangeLeft Span) {lo hi : ℕ} (xs : List C) → LeftIn lo hi x → Grows lo hi xs (after_left x xs)
  left nothing xs h = stays
  left (assigns es) xs h = one h (λ v w q. exprs es xs q)
  left (defines ns) xs h = stays

  arms : (bs : Arms Span) {lo hi : ℕ} (xs : List C) → ArmsIn lo hi bs → Grows lo hi xs (after_arms bs xs)
  arms no_arms xs h = stays
  arms (arm s i t z b r) xs h =
      two h (λ v w k. one k (λ x y m. two m (λ c d n. two n (λ e f j. first i xs j) (λ e f j. one j (λ l r q. expr t (after_stmt_option i xs) q)))
      (λ c d n. one n (λ l r q. stmts b (after_expr t (after_stmt_option i xs)) q))))
      (λ v w k. arms r (after_stmts b (after_expr t (after_stmt_option i xs))) k)

  cases : (cs : Cases Span) {lo hi : ℕ} (xs : List C) → CasesIn lo hi cs → Grows lo hi xs (after_cases cs xs)
  cases no_cases xs h = stays
  cases (case s es b cs) xs h =
      two h (λ v w k. one k (λ x y m. two m (λ c d n. exprs es xs n) (λ c d n. stmts b (after_exprs es xs) n))) (λ v w k. cases cs (after_stmts b (after_exprs es xs)) k)

  specs : (ss : ValueSpecs Span) {lo hi : ℕ} (xs : List C) → SpecsIn lo hi ss → Grows lo hi xs (after_specs ss xs)
  specs no_specs xs h = stays
  specs (spec s ns t es ss) xs h =
      two h (λ v w k. behind (type_option_free t xs) (one k (λ c d q. exprs es (after_type_option t xs) q))) (λ v w k. specs ss (after_exprs es (after_type_option t xs)) k)

-- ---- declarations

pub decl_grows : (d : Decl Span) {lo hi : ℕ} (xs : List C) → DeclIn lo hi d → Grows lo hi xs (after_decl d xs)
decl_grows (values (const_decl s g ss)) xs h = one h (λ v w q. specs ss xs q)
decl_grows (values (var_decl s g ss)) xs h = one h (λ v w q. specs ss xs q)
decl_grows (values s) xs h = stays
decl_grows (types s g ts) xs h = behind (types_free ts xs) stays
decl_grows (func f) xs h = behind (free_both (receiver_free f.receiver xs) (sig_free f.sig (after_receiver f.receiver xs))) (one h (λ v w q. stmts f.body (after_sig f.sig (after_receiver f.receiver xs)) q))
