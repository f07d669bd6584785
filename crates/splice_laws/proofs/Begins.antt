-- The layout of a new node has a first piece.
use Rattle.std.proofs.Common.{◌≡◌, ℕ, Bool, true, false, ◌||◌, List, [], ◌∷◌, refl}
use Rattle.go_tree.specs.declared.tokens.TokenKind.{TokenKind}
use Rattle.go_scan.proofs.Derivatives.{or_left, or_right}
use Rattle.go_tree.specs.Tree.{TypeExpr, named, pointer, slice_type, map_type, struct_type, Expr, Stmt, ident, int_lit, rune_lit, str_lit, composite, selector, index, slice, call, func_lit, type_operand, unary, binary, star, const_decl, var_decl, empty, eval, step, assign, define, return_, break_, continue_, inner, if_, for_, range_, switch, defer, label, no_stmt, some_stmt, no_arms, arm}
use Rattle.go_tree.specs.Bare.{bare_type, bare_expr, bare_stmt}
use Rattle.go_tree.specs.GoWords.Tokens.Pieces.{Piece}
use Rattle.go_layout.specs.Layouts.{Layout, no_text, a_token, gap, line, ◌⊕◌, within}
use Rattle.go_layout.specs.TypeLayout.{type_layout}
use Rattle.go_layout.specs.Parens.{needs_parens, header_within, closed_within}
use Rattle.go_layout.specs.TreeLayout.{expr_layout, stmt_layout}
use Rattle.go_layout.specs.LayoutLaws.Formed.{FormedStmt}
use Rattle.go_layout.specs.LayoutLaws.LayoutPieces.{pieces_of}
use Rattle.splice_laws.specs.Swaps.{Swap, an_operand, a_callee, a_type, a_literal_type, a_stmt, a_deferred}
use Rattle.splice_laws.specs.Forms.{takes_parens, new_layout, FormedNew}
use Rattle.splice_laws.proofs.Grafts.{U}

abbrev pub has_any : List Piece → Bool
has_any [] = false
has_any (p ∷ ps) = true

-- the layout has a token
has_token : Layout → Bool
has_token no_text = false
has_token (a_token k w) = true
has_token gap = false
has_token (line _ _) = false
has_token (a ⊕ b) = has_token a || has_token b

any_on : (a : Layout) (ps : List Piece) → has_any ps ≡ true → has_any (pieces_of a ps) ≡ true
any_on no_text ps h = h
any_on (a_token k w) ps h = refl
any_on gap ps h = refl
any_on (line ends i) ps h = refl
any_on (a ⊕ b) ps h = any_on a (pieces_of b ps) (any_on b ps h)

token_any : (a : Layout) (ps : List Piece) → has_token a ≡ true → has_any (pieces_of a ps) ≡ true
unfolding has_token
token_any no_text ps h = absurd cc
token_any (a_token k w) ps h = refl
token_any gap ps h = absurd cc
token_any (line ends i) ps h = absurd cc
token_any (a ⊕ b) ps h = by_first (has_token a) refl h (λ q. token_any a (pieces_of b ps) q) (λ q. any_on a (pieces_of b ps) (token_any b ps q))
  where
    by_first : (x : Bool) → has_token a ≡ x → x || has_token b ≡ true → (has_token a ≡ true → has_any (pieces_of a (pieces_of b ps)) ≡ true) → (has_token b ≡ true → has_any (pieces_of a (pieces_of b ps)) ≡ true) → has_any (pieces_of a (pieces_of b ps)) ≡ true
    by_first true e q f g = f e
    by_first false e q f g = g q

t : (k : TokenKind) (w : List ℕ) → has_token (a_token k w) ≡ true
unfolding has_token
t k w = refl

now : (a b : Layout) → has_token a ≡ true → has_token (a ⊕ b) ≡ true
unfolding has_token
now a b h = or_left (has_token a) (has_token b) h

later : (a b : Layout) → has_token b ≡ true → has_token (a ⊕ b) ≡ true
unfolding has_token
later a b h = or_right (has_token a) (has_token b) h

placed : (p : Bool) (a : Layout) → has_token a ≡ true → has_token (within p a) ≡ true
placed true a h = now _ _ (t _ _)
placed false a h = h

type_begins : (u : TypeExpr U) → has_token (type_layout u) ≡ true
type_begins (named s p n) = later _ _ (t _ _)
type_begins (pointer s u) = now _ _ (t _ _)
type_begins (slice_type s u) = now _ _ (t _ _)
type_begins (map_type s k u) = now _ _ (t _ _)
type_begins (struct_type s fs) = now _ _ (t _ _)

expr_begins : (e : Expr U) (i : List ℕ) (h c : Bool) → has_token (expr_layout i h c e) ≡ true
expr_begins (ident s n) i h c = t _ _
expr_begins (int_lit s n) i h c = t _ _
expr_begins (rune_lit s n) i h c = t _ _
expr_begins (str_lit s n) i h c = t _ _
expr_begins (composite s u es) i h c = later _ _ (now _ _ (t _ _))
expr_begins (selector s e n) i h c = later _ _ (now _ _ (t _ _))
expr_begins (index s e at) i h c = later _ _ (now _ _ (t _ _))
expr_begins (slice s e from to) i h c = later _ _ (now _ _ (t _ _))
expr_begins (call s f xs _) i h c = later _ _ (now _ _ (t _ _))
expr_begins (func_lit s g b body) i h c = now _ _ (t _ _)
expr_begins (type_operand s u) i h c = type_begins u
expr_begins (unary s o e) i h c = now _ _ (t _ _)
expr_begins (binary s o a b) i h c = later _ _ (now _ _ (later _ _ (now _ _ (t _ _))))
expr_begins (star s e) i h c = now _ _ (t _ _)

placed_begins : (p : Bool) (e : Expr U) (i : List ℕ) (h c : Bool) → has_token (within p (expr_layout i h c e)) ≡ true
placed_begins p e i h c = placed p (expr_layout i h c e) (expr_begins e i h c)

stmt_begins : (x : Stmt U) → FormedStmt x → (i : List ℕ) (h : Bool) → has_token (stmt_layout i h x) ≡ true
stmt_begins (const_decl s g ss) f i h = now _ _ (t _ _)
stmt_begins (var_decl s g ss) f i h = now _ _ (t _ _)
stmt_begins (empty s) f i h = t _ _
stmt_begins (eval s e) f i h = placed_begins (needs_parens 1 h false e) e i (header_within (needs_parens 1 h false e) h) (closed_within (needs_parens 1 h false e) false)
stmt_begins (step s e up) f i h = later _ _ (t _ _)
stmt_begins (assign s xs o ys) f i h = later _ _ (now _ _ (later _ _ (now _ _ (t _ _))))
stmt_begins (define s ns ys) f i h = later _ _ (now _ _ (later _ _ (now _ _ (t _ _))))
stmt_begins (return_ s xs) f i h = now _ _ (t _ _)
stmt_begins (break_ s n) f i h = now _ _ (t _ _)
stmt_begins (continue_ s n) f i h = now _ _ (t _ _)
stmt_begins (inner s body) f i h = now _ _ (t _ _)
stmt_begins (if_ s no_arms last) f i h = absurd f.0
stmt_begins (if_ s (arm s2 j c b xs more) last) f i h = now _ _ (now _ _ (t _ _))
stmt_begins (for_ s no_stmt c no_stmt b body) f i h = now _ _ (t _ _)
stmt_begins (for_ s (some_stmt j) c no_stmt b body) f i h = now _ _ (t _ _)
stmt_begins (for_ s no_stmt c (some_stmt p) b body) f i h = now _ _ (t _ _)
stmt_begins (for_ s (some_stmt j) c (some_stmt p) b body) f i h = now _ _ (t _ _)
stmt_begins (range_ s left e b body) f i h = now _ _ (t _ _)
stmt_begins (switch s j c cs) f i h = now _ _ (t _ _)
stmt_begins (defer s e) f i h = now _ _ (t _ _)
stmt_begins (label s n x) f i h = now _ _ (t _ _)

module _ {S : Type 0} where
  pub new_begins : (w : Swap S) (i : List ℕ) (dotted wrapped : Bool) → FormedNew dotted w → has_any (pieces_of (new_layout i dotted wrapped w) []) ≡ true
  new_begins (an_operand l h e f) i dotted wrapped form = let p = takes_parens l h dotted wrapped (bare_expr f) in token_any (new_layout i dotted wrapped (an_operand l h e f)) [] (placed_begins p (bare_expr f) i (header_within p h) (closed_within p false))
  new_begins (a_callee h e f) i dotted wrapped form = let p = needs_parens 7 h true (bare_expr f) in token_any (new_layout i dotted wrapped (a_callee h e f)) [] (placed_begins p (bare_expr f) i (header_within p h) (closed_within p true))
  new_begins (a_type t u) i dotted wrapped form = token_any (new_layout i dotted wrapped (a_type t u)) [] (type_begins (bare_type u))
  new_begins (a_literal_type h t u) i dotted wrapped form = token_any (new_layout i dotted wrapped (a_literal_type h t u)) [] (type_begins (bare_type u))
  new_begins (a_deferred e f) i dotted wrapped form = token_any (new_layout i dotted wrapped (a_deferred e f)) [] (expr_begins (bare_expr f) i false false)
  new_begins (a_stmt x y) i dotted wrapped form = token_any (new_layout i dotted wrapped (a_stmt x y)) [] (stmt_begins (bare_stmt y) form.0 i false)
