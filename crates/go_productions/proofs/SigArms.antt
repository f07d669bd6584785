-- What the reader gives for a signature and its parts.
use Rattle.std.proofs.Common.{◌≡◌, ◌≢◌, ℕ, Bool, true, false, List, [], ◌∷◌, Option, Some, None, refl, sym, ap, ◌∙◌}
use Rattle.std.specs.Prelude.{option_and_then}
use Rattle.go_tree.specs.declared.spans.Span.{Span}
use Rattle.go_tree.specs.declared.operators.BinOp.TheVariants.{Mul}
use Rattle.go_tree.specs.Tree.{TypeExpr, named, Param}
use Rattle.go_tree.specs.GoWords.Terminals.{lex, ident, binary_op, comma, dot, ellipsis, paren, end_paren, bracket, brace, key_map, key_struct}
use Rattle.go_read.specs.SpellsSpans.{span_to}
use Rattle.go_read.specs.SpellsTypes.{Lexemes, name_here, unnamed}
use Rattle.go_read.specs.Goals.{read_type, read_entries, read_named, read_unnamed, read_params, read_sig}
use Rattle.go_read.specs.Programs.{ask}
use Rattle.go_read.specs.ReadTypes.{sig_step, results_step, params_step, params_either, named_step, unnamed_step, unnamed_after, entries_step, type_step}
use Rattle.go_read.specs.Reading.{at}
use Rattle.go_read.proofs.Finds.{Runs, gives, asks, looks, finish}
use Rattle.go_tree.specs.declared.go_words.terminals.Terminal.{Terminal}
use Rattle.go_tree.specs.declared.go_words.terminals.Terminal.TheVariants as code
use Rattle.go_productions.specs.Terminals.{first_of, rest_of}
use Rattle.go_productions.specs.Parts.{begins_type, has_names, params_at, results_at}
use Rattle.go_productions.proofs.Fronts.{then_some, then_none}
use Rattle.go_productions.proofs.Steps.{fails, lacks}

-- ---- signatures

pub sig_open : (v : Bool) (ts : Lexemes) → at span_to (read_params v) ts ≡ None → at span_to (read_sig v) ts ≡ None
unfolding sig_step
sig_open v ts e = finish span_to (read_sig v) ts (lacks e)

results_run : (ps : List (Param Span)) (mid r : Lexemes) (rs : List (Param Span)) → results_at mid ≡ Some (rs, r) → Runs span_to (results_step span_to ps mid) (Some (record { params = ps; results = rs }, r))
results_run ps (lex s paren ∷ ts) r rs e = asks span_to e (gives span_to)
results_run ps (lex s brace ∷ ts) r rs e = record { is = ap (option_and_then (λ x. Some (record { params = ps; results = x.0 }, x.1))) e }
results_run ps ts r rs e =
    let q = then_some (λ x. (unnamed x.0 ∷ [], x.1)) (at span_to read_type ts) (rs, r) e in
    record { is = ap (option_and_then (λ x. Some (record { params = ps; results = unnamed x.0 ∷ [] }, x.1))) q.1 ∙ ap (λ (y : List (Param Span) × Lexemes). Some (record { params = ps; results = y.0 }, y.1)) q.2 }

results_lost : (ps : List (Param Span)) (mid : Lexemes) → results_at mid ≡ None → Runs span_to (results_step span_to ps mid) None
results_lost ps (lex s paren ∷ ts) e = lacks e
results_lost ps (lex s brace ∷ ts) e = absurd cc
results_lost ps ts e = lacks (then_none (λ x. (unnamed x.0 ∷ [], x.1)) (at span_to read_type ts) e)

pub sig_none : (v : Bool) (ts mid : Lexemes) (ps : List (Param Span)) → at span_to (read_params v) ts ≡ Some (ps, mid) → results_at mid ≡ None → at span_to (read_sig v) ts ≡ None
unfolding sig_step
sig_none v ts mid ps e h = finish span_to (read_sig v) ts (asks span_to e (results_lost ps mid h))

pub sig_some : (v : Bool) (ts mid r : Lexemes) (ps rs : List (Param Span)) → at span_to (read_params v) ts ≡ Some (ps, mid) → results_at mid ≡ Some (rs, r) → at span_to (read_sig v) ts ≡ Some (record { params = ps; results = rs }, r)
unfolding sig_step
sig_some v ts mid r ps rs e h = finish span_to (read_sig v) ts (asks span_to e (results_run ps mid r rs h))

-- ---- results

pub results_paren : (ts : Lexemes) → first_of ts ≡ code.Paren → results_at ts ≡ at span_to (read_params false) ts
results_paren (lex s paren ∷ ts) h = refl
results_paren _ h = absurd cc

pub results_brace : (ts : Lexemes) → first_of ts ≡ code.Brace → results_at ts ≡ Some ([], ts)
results_brace (lex s brace ∷ ts) h = refl
results_brace _ h = absurd cc

pub results_some : (ts r : Lexemes) (k : Terminal) (t : TypeExpr Span) → first_of ts ≡ k → k ≢ code.Paren → k ≢ code.Brace → at span_to read_type ts ≡ Some (t, r) → results_at ts ≡ Some (unnamed t ∷ [], r)
results_some (lex s paren ∷ ts) r k t h a b e = absurd (a (sym h))
results_some (lex s brace ∷ ts) r k t h a b e = absurd (b (sym h))
results_some ts r k t h a b e = ap (option_and_then (λ x. Some (unnamed x.0 ∷ [], x.1))) e

pub results_none : (ts : Lexemes) (k : Terminal) → first_of ts ≡ k → k ≢ code.Paren → k ≢ code.Brace → at span_to read_type ts ≡ None → results_at ts ≡ None
results_none (lex s paren ∷ ts) k h a b e = absurd (a (sym h))
results_none (lex s brace ∷ ts) k h a b e = absurd (b (sym h))
results_none ts k h a b e = ap (option_and_then (λ x. Some (unnamed x.0 ∷ [], x.1))) e

-- ---- parameters

pub params_open : (v : Bool) (ts : Lexemes) (k : Terminal) → first_of ts ≡ k → k ≢ code.Paren → at span_to (read_params v) ts ≡ None
unfolding params_step
params_open v (lex s paren ∷ ts) k h a = absurd (a (sym h))
params_open v ts k h a = finish span_to (read_params v) ts fails

pub params_empty : (v : Bool) (ts us vs : Lexemes) → first_of ts ≡ code.Paren → us ≡ rest_of ts → first_of us ≡ code.EndParen → vs ≡ rest_of us → at span_to (read_params v) ts ≡ Some ([], vs)
unfolding params_step
params_empty v (lex s paren ∷ lex e end_paren ∷ ts) us vs h u f w = finish span_to (read_params v) (lex s paren ∷ lex e end_paren ∷ ts) (gives span_to) ∙ ap (λ (ws : Lexemes). Some ([], ws)) (sym (w ∙ ap rest_of u))
params_empty v (lex s paren ∷ ts) us vs h u f w = let z = sym f ∙ ap first_of u in absurd cc
params_empty v _ us vs h u f w = absurd cc

no_type : (ts : Lexemes) → begins_type (first_of ts) ≡ false → at span_to read_type ts ≡ None
unfolding type_step
no_type (lex s (ident n) ∷ ts) h = absurd cc
no_type (lex s (binary_op Mul) ∷ ts) h = absurd cc
no_type (lex s bracket ∷ ts) h = absurd cc
no_type (lex s key_map ∷ ts) h = absurd cc
no_type (lex s key_struct ∷ ts) h = absurd cc
no_type (lex s paren ∷ ts) h = absurd cc
no_type (lex s ellipsis ∷ ts) h = absurd cc
no_type ts h = finish span_to read_type ts fails

-- where no type follows the names, none of them has one
nameless : (ts : Lexemes) → has_names ts ≡ false → at span_to read_entries ts ≡ None
unfolding entries_step
nameless (lex s (ident n) ∷ lex c comma ∷ ts) h = finish span_to read_entries (lex s (ident n) ∷ lex c comma ∷ ts) (lacks (nameless ts h))
nameless (lex s (ident n) ∷ ts) h = finish span_to read_entries (lex s (ident n) ∷ ts) (lacks (no_type ts h))
nameless ts h = finish span_to read_entries ts fails

typed_follows : (v : Bool) (t : TypeExpr Span) (ts : Lexemes) → begins_type (first_of ts) ≡ true → Runs span_to (unnamed_after span_to v t ts) None
typed_follows v t (lex e end_paren ∷ ts) h = absurd cc
typed_follows v t (lex c comma ∷ ts) h = absurd cc
typed_follows v t ts h = record { is = refl }

named_follows : (v : Bool) (t : TypeExpr Span) (c : Span) (ts : Lexemes) → has_names ts ≡ true → at span_to (read_unnamed v) ts ≡ None → Runs span_to (unnamed_after span_to v t (lex c comma ∷ ts)) None
named_follows v t c (lex e end_paren ∷ ts) h x = absurd cc
named_follows v t c ts h x = lacks x

-- what begins with a name is no variadic parameter without one
unnamed_first : (v : Bool) (s : Span) (n : List ℕ) (ts : Lexemes) {o : Option (List (Param Span) × Lexemes)} → Runs span_to (ask read_type (lex s (ident n) ∷ ts) (λ t r. unnamed_after span_to v t r)) o → at span_to (read_unnamed v) (lex s (ident n) ∷ ts) ≡ o
unfolding unnamed_step
unnamed_first true s n ts x = finish span_to (read_unnamed true) (lex s (ident n) ∷ ts) x
unnamed_first false s n ts x = finish span_to (read_unnamed false) (lex s (ident n) ∷ ts) x

-- where one follows, they are not types themselves
nameful : (v : Bool) (ts : Lexemes) → has_names ts ≡ true → at span_to (read_unnamed v) ts ≡ None
unfolding type_step
nameful v (lex s (ident n) ∷ lex c comma ∷ ts) h =
    unnamed_first v s n (lex c comma ∷ ts) (asks span_to (finish span_to read_type (lex s (ident n) ∷ lex c comma ∷ ts) (gives span_to)) (named_follows v (named (span_to (lex s (ident n) ∷ lex c comma ∷ ts) (lex c comma ∷ ts)) None (name_here span_to s n (lex c comma ∷ ts))) c ts h (nameful v ts h)))
nameful v (lex s (ident n) ∷ lex d dot ∷ ts) h = absurd cc
nameful v (lex s (ident n) ∷ ts) h =
    unnamed_first v s n ts (asks span_to (finish span_to read_type (lex s (ident n) ∷ ts) (gives span_to)) (typed_follows v (named (span_to (lex s (ident n) ∷ ts) ts) None (name_here span_to s n ts)) ts h))
nameful v _ h = absurd cc

-- where no type follows the names, none of the parameters has one
nameless_list : (v : Bool) (ts : Lexemes) → has_names ts ≡ false → at span_to (read_named v) ts ≡ None
unfolding named_step
nameless_list true (lex s (ident n) ∷ lex d ellipsis ∷ ts) h = absurd cc
nameless_list true ts h = finish span_to (read_named true) ts (lacks (nameless ts h))
nameless_list false ts h = finish span_to (read_named false) ts (lacks (nameless ts h))

either_named : (v : Bool) (ts : Lexemes) → has_names ts ≡ true → (o : Option (List (Param Span) × Lexemes)) → Runs span_to (params_either span_to v ts o) o
either_named v ts h (Some x) = gives span_to
either_named v ts h None = lacks (nameful v ts h)

same_answer : (o : Option (List (Param Span) × Lexemes)) → option_and_then (λ x. Some (x.0, x.1)) o ≡ o
same_answer (Some x) = refl
same_answer None = refl

pub params_listed : (v : Bool) (ts us : Lexemes) (k : Terminal) (b : Bool) → first_of ts ≡ code.Paren → us ≡ rest_of ts → first_of us ≡ k → k ≢ code.EndParen → has_names us ≡ b → at span_to (read_params v) ts ≡ params_at v b us
unfolding params_step
params_listed v (lex s paren ∷ lex e end_paren ∷ ts) us k b h u f n m = absurd (n (sym f ∙ ap first_of u))
params_listed v (lex s paren ∷ ts) us k true h u f n m =
    let p : has_names ts ≡ true = ap has_names (sym u) ∙ m in
    finish span_to (read_params v) (lex s paren ∷ ts) (looks span_to refl (either_named v ts p (at span_to (read_named v) ts))) ∙ ap (params_at v true) (sym u)
params_listed v (lex s paren ∷ ts) us k false h u f n m =
    let p : has_names ts ≡ false = ap has_names (sym u) ∙ m in
    finish span_to (read_params v) (lex s paren ∷ ts) (looks span_to (nameless_list v ts p) (record { is = same_answer (at span_to (read_unnamed v) ts) })) ∙ ap (params_at v false) (sym u)
params_listed v _ us k b h u f n m = absurd cc
