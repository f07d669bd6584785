-- What reading declarations and a file gives, by the tokens that stand first.
use Rattle.std.proofs.Common.{◌≡◌, ◌≢◌, ℕ, Bool, true, false, List, [], ◌∷◌, Option, Some, None, refl, sym, ap, subst, ◌∙◌}
use Rattle.std.specs.Prelude.{option_and_then, if◌then◌else◌}
use Rattle.go_tree.specs.declared.spans.Span.{Span}
use Rattle.go_tree.specs.Tree.{NameAt, ValueSpecs, const_decl, var_decl}
use Rattle.go_tree.specs.File.{ImportDecl, Decl, File, values, types}
use Rattle.go_tree.specs.GoWords.Terminals.{lex, ident, semicolon, paren, key_const, key_func, key_package, key_type, key_var}
use Rattle.go_read.specs.SpellsSpans.{span_to}
use Rattle.go_read.specs.SpellsTypes.{Lexemes, name_here}
use Rattle.go_read.specs.SpellsFiles.{is_blank}
use Rattle.go_read.specs.Goals.{read_decl, read_type_specs, read_receiver, read_import, read_imports, read_top, read_tops, read_front}
use Rattle.go_read.specs.ReadFiles.{func_step, top_step, imports_after, imports_step, tops_after, tops_step, front_step}
use Rattle.go_read.specs.Programs.{give, ask, run, unless}
use Rattle.go_read.specs.Reading.{at}
use Rattle.go_read.proofs.Sound.{at_is}
use Rattle.go_tree.specs.declared.go_words.terminals.Terminal.{Terminal}
use Rattle.go_tree.specs.declared.go_words.terminals.Terminal.TheVariants as code
use Rattle.go_productions.specs.Parts.{const_decl_at, var_decl_at}
use Rattle.go_productions.specs.Terminals.{first_of, rest_of, name_of}
use Rattle.go_statements.specs.StmtParts.{valued}
use Rattle.go_parse.specs.Parts.{ended, and_before, func_at, grouped_types_at, single_type_at, type_decl_at, method_at, func_decl_at}
use Rattle.go_parse.proofs.Firsts.{by_first, apart}
use Rattle.go_parse.proofs.Lists.{closes, IsRow}

-- ---- declarations

pub const_on : (ts : Lexemes) → first_of ts ≡ code.Const → at span_to read_top ts ≡ valued (const_decl_at ts)
unfolding top_step const_decl_at
const_on ts e = by_first (λ ts. at span_to read_top ts ≡ valued (const_decl_at ts)) code.Const ts e refl
    (λ s w r. at_is span_to read_top (lex s key_const ∷ r) ∙ each s r (at span_to (read_decl true) r))
  where
    each : (s : Span) (r : Lexemes) (o : Option ((Bool × ValueSpecs Span) × Lexemes)) → option_and_then (λ x. Some (values (const_decl (span_to (lex s key_const ∷ r) x.1) x.0.0 x.0.1), x.1)) o
        ≡ valued (option_and_then (λ x. Some (const_decl (span_to (lex s key_const ∷ r) x.1) x.0.0 x.0.1, x.1)) o)
    each s r None = refl
    each s r (Some x) = refl

pub var_on : (ts : Lexemes) → first_of ts ≡ code.Var → at span_to read_top ts ≡ valued (var_decl_at ts)
unfolding top_step var_decl_at
var_on ts e = by_first (λ ts. at span_to read_top ts ≡ valued (var_decl_at ts)) code.Var ts e refl
    (λ s w r. at_is span_to read_top (lex s key_var ∷ r) ∙ each s r (at span_to (read_decl false) r))
  where
    each : (s : Span) (r : Lexemes) (o : Option ((Bool × ValueSpecs Span) × Lexemes)) → option_and_then (λ x. Some (values (var_decl (span_to (lex s key_var ∷ r) x.1) x.0.0 x.0.1), x.1)) o
        ≡ valued (option_and_then (λ x. Some (var_decl (span_to (lex s key_var ∷ r) x.1) x.0.0 x.0.1, x.1)) o)
    each s r None = refl
    each s r (Some x) = refl

pub type_on : (ts : Lexemes) → first_of ts ≡ code.Type → at span_to read_top ts ≡ type_decl_at ts
unfolding top_step type_decl_at grouped_types_at single_type_at
type_on ts e = by_first (λ ts. at span_to read_top ts ≡ type_decl_at ts) code.Type ts e refl (λ s w r. go s r)
  where
    go : (s : Span) (r : Lexemes) → at span_to read_top (lex s key_type ∷ r) ≡ type_decl_at (lex s key_type ∷ r)
    go s [] = at_is span_to read_top (lex s key_type ∷ [])
    go s (lex b paren ∷ us) = at_is span_to read_top (lex s key_type ∷ lex b paren ∷ us)
        ∙ closes (λ xs r. give (types (span_to (lex s key_type ∷ lex b paren ∷ us) r) true xs) r) (at span_to read_type_specs us)
    go s (lex b t ∷ us) = at_is span_to read_top (lex s key_type ∷ lex b t ∷ us)

pub func_on : (ts : Lexemes) → first_of ts ≡ code.Func → at span_to read_top ts ≡ func_decl_at ts
unfolding top_step func_decl_at method_at func_at
func_on ts e = by_first (λ ts. at span_to read_top ts ≡ func_decl_at ts) code.Func ts e refl (λ s w r. go s r)
  where
    go : (s : Span) (r : Lexemes) → at span_to read_top (lex s key_func ∷ r) ≡ func_decl_at (lex s key_func ∷ r)
    go s [] = at_is span_to read_top (lex s key_func ∷ [])
    go s (lex b paren ∷ us) = at_is span_to read_top (lex s key_func ∷ lex b paren ∷ us)
        ∙ closes (λ v r. func_step span_to (lex s key_func ∷ lex b paren ∷ us) (Some v) r) (at span_to read_receiver us)
    go s (lex b t ∷ us) = at_is span_to read_top (lex s key_func ∷ lex b t ∷ us)

top_off : (ts : Lexemes) → first_of ts ≢ code.Const → first_of ts ≢ code.Var → first_of ts ≢ code.Type → first_of ts ≢ code.Func → at span_to read_top ts ≡ None
unfolding top_step
top_off [] a b c d = at_is span_to read_top []
top_off (lex s key_const ∷ r) a b c d = absurd (a refl)
top_off (lex s key_var ∷ r) a b c d = absurd (b refl)
top_off (lex s key_type ∷ r) a b c d = absurd (c refl)
top_off (lex s key_func ∷ r) a b c d = absurd (d refl)
top_off (lex s t ∷ r) a b c d = at_is span_to read_top (lex s t ∷ r)

pub top_none : (ts : Lexemes) (k : Terminal) → first_of ts ≡ k → (k ≡ code.Const → ⊥) → (k ≡ code.Var → ⊥) → (k ≡ code.Type → ⊥) → (k ≡ code.Func → ⊥) → at span_to read_top ts ≡ None
top_none ts k e a b c d = top_off ts (apart ts k code.Const e a) (apart ts k code.Var e b) (apart ts k code.Type e c) (apart ts k code.Func e d)

-- ---- rows of them

imports_end : (ts : Lexemes) (o : Option (ImportDecl Span × Lexemes)) → ended o ≡ None → run (at span_to) (imports_after span_to ts o) ≡ Some ([], ts)
imports_end ts None e = refl
imports_end ts (Some (d, [])) e = refl
imports_end ts (Some (d, lex c semicolon ∷ r)) e = absurd (cc)
imports_end ts (Some (d, lex c _ ∷ r)) e = refl

imports_go : (ts : Lexemes) (o : Option (ImportDecl Span × Lexemes)) (p : ImportDecl Span × Lexemes) → ended o ≡ Some p → run (at span_to) (imports_after span_to ts o) ≡ and_before p.0 (at span_to read_imports p.1)
imports_go ts None p e = absurd (cc)
imports_go ts (Some (d, [])) p e = absurd (cc)
imports_go ts (Some (d, lex c semicolon ∷ r)) p e = let same : p ≡ (d, r) = cc in subst (λ (q : ImportDecl Span × Lexemes). and_before d (at span_to read_imports r) ≡ and_before q.0 (at span_to read_imports q.1)) (sym same) refl
imports_go ts (Some (d, lex c _ ∷ r)) p e = absurd (cc)

pub imports_row : IsRow (at span_to read_import) (at span_to read_imports)
unfolding imports_step
imports_row = record {
  ends = λ ts e. at_is span_to read_imports ts ∙ imports_end ts (at span_to read_import ts) e;
  goes = λ ts x r e. at_is span_to read_imports ts ∙ imports_go ts (at span_to read_import ts) (x, r) e;
}

tops_end : (ts : Lexemes) (o : Option (Decl Span × Lexemes)) → ended o ≡ None → run (at span_to) (tops_after span_to ts o) ≡ Some ([], ts)
tops_end ts None e = refl
tops_end ts (Some (d, [])) e = refl
tops_end ts (Some (d, lex c semicolon ∷ r)) e = absurd (cc)
tops_end ts (Some (d, lex c _ ∷ r)) e = refl

tops_go : (ts : Lexemes) (o : Option (Decl Span × Lexemes)) (p : Decl Span × Lexemes) → ended o ≡ Some p → run (at span_to) (tops_after span_to ts o) ≡ and_before p.0 (at span_to read_tops p.1)
tops_go ts None p e = absurd (cc)
tops_go ts (Some (d, [])) p e = absurd (cc)
tops_go ts (Some (d, lex c semicolon ∷ r)) p e = let same : p ≡ (d, r) = cc in subst (λ (q : Decl Span × Lexemes). and_before d (at span_to read_tops r) ≡ and_before q.0 (at span_to read_tops q.1)) (sym same) refl
tops_go ts (Some (d, lex c _ ∷ r)) p e = absurd (cc)

pub tops_row : IsRow (at span_to read_top) (at span_to read_tops)
unfolding tops_step
tops_row = record {
  ends = λ ts e. at_is span_to read_tops ts ∙ tops_end ts (at span_to read_top ts) e;
  goes = λ ts x r e. at_is span_to read_tops ts ∙ tops_go ts (at span_to read_top ts) (x, r) e;
}

-- ---- files

-- the imports and declarations of a file
body_at : NameAt Span → Lexemes → Option (File Span × Lexemes)
body_at n ts = option_and_then (λ x. option_and_then (λ y. Some (record { package_name = n; imports = x.0; decls = y.0 }, y.1)) (at span_to read_tops x.1)) (at span_to read_imports ts)

front_on : (ts : Lexemes) → first_of ts ≡ code.Package → first_of (rest_of ts) ≡ code.Ident → first_of (rest_of (rest_of ts)) ≡ code.Semicolon
    → at span_to read_front ts ≡ (if is_blank (name_of (rest_of ts)).name then None else body_at (name_of (rest_of ts)) (rest_of (rest_of (rest_of ts))))
unfolding front_step body_at
front_on ts e f g = by_first (λ ts. first_of (rest_of ts) ≡ code.Ident → first_of (rest_of (rest_of ts)) ≡ code.Semicolon
    → at span_to read_front ts ≡ (if is_blank (name_of (rest_of ts)).name then None else body_at (name_of (rest_of ts)) (rest_of (rest_of (rest_of ts))))) code.Package ts e refl
    (λ s w r f g. by_first (λ r. first_of (rest_of r) ≡ code.Semicolon → at span_to read_front (lex s key_package ∷ r) ≡ (if is_blank (name_of r).name then None else body_at (name_of r) (rest_of (rest_of r)))) code.Ident r f refl
    (λ c n us g. by_first (λ us. at span_to read_front (lex s key_package ∷ lex c (ident n) ∷ us) ≡ (if is_blank n then None else body_at (name_of (lex c (ident n) ∷ us)) (rest_of us))) code.Semicolon us g refl
    (λ d v vs. at_is span_to read_front (lex s key_package ∷ lex c (ident n) ∷ lex d semicolon ∷ vs) ∙ each (is_blank n) s c d n vs)) g) f g
  where
    each : (b : Bool) (s c d : Span) (n : List ℕ) (vs : Lexemes) → run (at span_to) (unless b (ask read_imports vs (λ is mid. ask read_tops mid (λ ds r. give (record { package_name = name_here span_to c n (lex d semicolon ∷ vs); imports = is; decls = ds }) r))))
        ≡ (if b then None else body_at (name_of (lex c (ident n) ∷ lex d semicolon ∷ vs)) vs)
    each true s c d n vs = refl
    each false s c d n vs = refl

package_off : (ts : Lexemes) → first_of ts ≢ code.Package → at span_to read_front ts ≡ None
unfolding front_step
package_off [] a = at_is span_to read_front []
package_off (lex s key_package ∷ r) a = absurd (a refl)
package_off (lex s t ∷ r) a = at_is span_to read_front (lex s t ∷ r)

name_off : (ts : Lexemes) → first_of ts ≡ code.Package → first_of (rest_of ts) ≢ code.Ident → at span_to read_front ts ≡ None
unfolding front_step
name_off ts e f = by_first (λ ts. first_of (rest_of ts) ≢ code.Ident → at span_to read_front ts ≡ None) code.Package ts e refl (λ s w r f. go s r f) f
  where
    go : (s : Span) (r : Lexemes) → first_of r ≢ code.Ident → at span_to read_front (lex s key_package ∷ r) ≡ None
    go s [] f = at_is span_to read_front (lex s key_package ∷ [])
    go s (lex c (ident n) ∷ r) f = absurd (f refl)
    go s (lex c t ∷ r) f = at_is span_to read_front (lex s key_package ∷ lex c t ∷ r)

semicolon_off : (ts : Lexemes) → first_of ts ≡ code.Package → first_of (rest_of ts) ≡ code.Ident → first_of (rest_of (rest_of ts)) ≢ code.Semicolon → at span_to read_front ts ≡ None
unfolding front_step
semicolon_off ts e f g = by_first (λ ts. first_of (rest_of ts) ≡ code.Ident → first_of (rest_of (rest_of ts)) ≢ code.Semicolon → at span_to read_front ts ≡ None) code.Package ts e refl
    (λ s w r f g. by_first (λ r. first_of (rest_of r) ≢ code.Semicolon → at span_to read_front (lex s key_package ∷ r) ≡ None) code.Ident r f refl (λ c n us g. go s c n us g) g) f g
  where
    go : (s c : Span) (n : List ℕ) (us : Lexemes) → first_of us ≢ code.Semicolon → at span_to read_front (lex s key_package ∷ lex c (ident n) ∷ us) ≡ None
    go s c n [] g = at_is span_to read_front (lex s key_package ∷ lex c (ident n) ∷ [])
    go s c n (lex d semicolon ∷ vs) g = absurd (g refl)
    go s c n (lex d t ∷ vs) g = at_is span_to read_front (lex s key_package ∷ lex c (ident n) ∷ lex d t ∷ vs)

pub without_package : (ts : Lexemes) (k : Terminal) → first_of ts ≡ k → (k ≡ code.Package → ⊥) → at span_to read_front ts ≡ None
without_package ts k e f = package_off ts (apart ts k code.Package e f)

pub without_name : (ts r : Lexemes) (k : Terminal) → first_of ts ≡ code.Package → r ≡ rest_of ts → first_of r ≡ k → (k ≡ code.Ident → ⊥) → at span_to read_front ts ≡ None
without_name ts r k e er f g = name_off ts e (λ i. apart r k code.Ident f g (ap first_of er ∙ i))

pub without_semicolon : (ts r us : Lexemes) (k : Terminal) → first_of ts ≡ code.Package → r ≡ rest_of ts → first_of r ≡ code.Ident → us ≡ rest_of r → first_of us ≡ k → (k ≡ code.Semicolon → ⊥) → at span_to read_front ts ≡ None
without_semicolon ts r us k e er f eu g h =
    semicolon_off ts e (ap first_of (sym er) ∙ f) (λ i. apart us k code.Semicolon g h (ap first_of (eu ∙ ap rest_of er) ∙ i))

clause_of : (ts r us vs : Lexemes) (n : NameAt Span) → first_of ts ≡ code.Package → r ≡ rest_of ts → first_of r ≡ code.Ident → us ≡ rest_of r → first_of us ≡ code.Semicolon → vs ≡ rest_of us → n ≡ name_of r
    → at span_to read_front ts ≡ (if is_blank n.name then None else body_at n vs)
clause_of ts r us vs n e er f eu g ev en =
    let there : us ≡ rest_of (rest_of ts) = eu ∙ ap rest_of er in
    let named : n ≡ name_of (rest_of ts) = en ∙ ap name_of er in
    front_on ts e (ap first_of (sym er) ∙ f) (ap first_of (sym there) ∙ g)
    ∙ ap (λ (n : NameAt Span). if is_blank n.name then None else body_at n (rest_of (rest_of (rest_of ts)))) (sym named)
    ∙ ap (λ (vs : Lexemes). if is_blank n.name then None else body_at n vs) (sym (ev ∙ ap rest_of there))

pub blank_none : (ts r us : Lexemes) (n : NameAt Span) → first_of ts ≡ code.Package → r ≡ rest_of ts → first_of r ≡ code.Ident → us ≡ rest_of r → first_of us ≡ code.Semicolon → n ≡ name_of r → is_blank n.name ≡ true
    → at span_to read_front ts ≡ None
blank_none ts r us n e er f eu g en blank =
    clause_of ts r us (rest_of us) n e er f eu g refl en ∙ ap (λ (b : Bool). if b then None else body_at n (rest_of us)) blank

pub front_some : (ts r us vs : Lexemes) (n : NameAt Span) (is : List (ImportDecl Span)) (mid : Lexemes) (ds : List (Decl Span)) (left : Lexemes)
    → first_of ts ≡ code.Package → r ≡ rest_of ts → first_of r ≡ code.Ident → us ≡ rest_of r → first_of us ≡ code.Semicolon → vs ≡ rest_of us → n ≡ name_of r → is_blank n.name ≡ false
    → at span_to read_imports vs ≡ Some (is, mid) → at span_to read_tops mid ≡ Some (ds, left) → at span_to read_front ts ≡ Some (record { package_name = n; imports = is; decls = ds }, left)
unfolding body_at
front_some ts r us vs n is mid ds left e er f eu g ev en blank i d =
    clause_of ts r us vs n e er f eu g ev en ∙ ap (λ (b : Bool). if b then None else body_at n vs) blank
    ∙ ap (λ (o : Option (List (ImportDecl Span) × Lexemes)). option_and_then (λ x. option_and_then (λ y. Some (record { package_name = n; imports = x.0; decls = y.0 }, y.1)) (at span_to read_tops x.1)) o) i
    ∙ ap (λ (o : Option (List (Decl Span) × Lexemes)). option_and_then (λ y. Some (record { package_name = n; imports = is; decls = y.0 }, y.1)) o) d
