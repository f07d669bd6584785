-- The names that a file declares stand one behind the other.
use Rattle.std.proofs.Common.{◌<◌, ℕ, Bool, List, [], ◌∷◌, ◌++◌, map, Option, sym, subst, arith}
use Rattle.std.proofs.lemmas.List.{map-append}
use Rattle.go_tree.specs.declared.spans.Span.{Span}
use Rattle.go_tree.specs.declared.tokens.Token.{Token}
use Rattle.go_tree.specs.Tree.{NameAt, TypeExpr, Exprs, ValueSpecs}
use Rattle.go_tree.specs.File.{TypeSpec, Decl, File}
use Rattle.go_tree.specs.GoWords.Terminals.{Terminal, Lexeme, lex, lexemes}
use Rattle.go_read.specs.SpellsSpans.{span_to}
use Rattle.go_read.specs.SpellsTypes.{Lexemes, SpellsNames, last_name_rule, more_names_rule}
use Rattle.go_read.specs.Spells.{SpellsDecl, SpellsSpecs, SpellsSpec, single_rule, group_rule, no_specs_rule, last_spec_rule, more_specs_rule, repeated_rule, typed_var_rule, values_rule, typed_values_rule}
use Rattle.go_read.specs.SpellsFiles.{SpellsTypeSpec, SpellsTypeSpecs, SpellsTop, SpellsTops, SpellsFront, SpellsFile, type_spec_rule, alias_spec_rule, no_type_specs_rule, last_type_spec_rule, more_type_specs_rule, top_const_rule, top_var_rule, top_type_rule, top_type_group_rule, top_func_rule, top_method_rule, no_tops_rule, more_tops_rule, front_rule}
use Rattle.go_read.proofs.Suffixes.{Suffix, whole, after, type_suffix, sig_suffix, exprs_suffix, block_suffix, receiver_suffix, imports_suffix}
use Rattle.pkg_graph.specs.Members.{specs_names, decl_names}
use Rattle.order_runs.proofs.RunSteps.TokenPlaces.{Behind, Rises, rise}

-- the places are those of some of the tokens before the rest, in their order
data Picks : List ℕ → Lexemes → Lexemes → Type 0 where
  no_picks : {r : Lexemes} → Picks [] r r
  passed : {t : Lexeme} {xs : List ℕ} {ts r : Lexemes} → Picks xs ts r → Picks xs (t ∷ ts) r
  picked : {s : Span} {word : Terminal} {xs : List ℕ} {ts r : Lexemes} → Picks xs ts r → Picks (s.start ∷ xs) (lex s word ∷ ts) r

of_suffix : {r ts : Lexemes} → Suffix r ts → Picks [] ts r
of_suffix whole = no_picks
of_suffix (after k) = passed (of_suffix k)

before : {xs : List ℕ} {ts mid r : Lexemes} → Picks xs ts mid → Suffix r mid → Picks xs ts r
before no_picks k = of_suffix k
before (passed p) k = passed (before p k)
before (picked p) k = picked (before p k)

joined : {xs ys : List ℕ} {ts mid r : Lexemes} → Picks xs ts mid → Picks ys mid r → Picks (xs ++ ys) ts r
joined no_picks q = q
joined (passed p) q = passed (joined p q)
joined (picked p) q = picked (joined p q)

-- ---- names

abbrev pub name_place : NameAt Span → ℕ
name_place n = n.span.start

-- the names that declarations declare
abbrev pub all_names : List (Decl Span) → List (NameAt Span)
all_names [] = []
all_names (d ∷ ds) = decl_names d ++ all_names ds

both : (xs ys : List (NameAt Span)) {ts mid r : Lexemes} → Picks (map name_place xs) ts mid → Picks (map name_place ys) mid r → Picks (map name_place (xs ++ ys)) ts r
both xs ys {ts = ts} {r = r} p q = subst (λ ns. Picks ns ts r) (sym (map-append name_place xs ys)) (joined p q)

names_pick : {ns : List (NameAt Span)} {ts r : Lexemes} → SpellsNames span_to ns ts r → Picks (map name_place ns) ts r
names_pick last_name_rule = picked no_picks
names_pick (more_names_rule d) = picked (passed (names_pick d))

spec_pick : {c : Bool} {ns : List (NameAt Span)} {t : Option (TypeExpr Span)} {xs : Exprs Span} {ts r : Lexemes} → SpellsSpec span_to c ns t xs ts r → Picks (map name_place ns) ts r
spec_pick (repeated_rule d) = names_pick d
spec_pick (typed_var_rule d k) = before (names_pick d) (type_suffix span_to k)
spec_pick (values_rule d k) = before (names_pick d) (after (exprs_suffix span_to k))
spec_pick (typed_values_rule d k l) = before (before (names_pick d) (type_suffix span_to k)) (after (exprs_suffix span_to l))

type_spec_pick : {x : TypeSpec Span} {ts r : Lexemes} → SpellsTypeSpec span_to x ts r → Picks (name_place x.name ∷ []) ts r
type_spec_pick (type_spec_rule d) = picked (of_suffix (type_suffix span_to d))
type_spec_pick (alias_spec_rule d) = picked (passed (of_suffix (type_suffix span_to d)))

type_specs_pick : {xs : List (TypeSpec Span)} {ts r : Lexemes} → SpellsTypeSpecs span_to xs ts r → Picks (map name_place (map (λ s. s.name) xs)) ts r
type_specs_pick no_type_specs_rule = no_picks
type_specs_pick (last_type_spec_rule d) = type_spec_pick d
type_specs_pick (more_type_specs_rule d k) = joined (type_spec_pick d) (passed (type_specs_pick k))

specs_pick : {c : Bool} {ss : ValueSpecs Span} {ts r : Lexemes} → SpellsSpecs span_to c ss ts r → Picks (map name_place (specs_names ss)) ts r
specs_pick no_specs_rule = no_picks
specs_pick (last_spec_rule {ns = ns} d) = both ns [] (spec_pick d) no_picks
specs_pick (more_specs_rule {ns = ns} {ss = ss} d k) = both ns (specs_names ss) (spec_pick d) (passed (specs_pick k))

decl_pick : {c g : Bool} {ss : ValueSpecs Span} {ts r : Lexemes} → SpellsDecl span_to c g ss ts r → Picks (map name_place (specs_names ss)) ts r
decl_pick (single_rule {ns = ns} d) = both ns [] (spec_pick d) no_picks
decl_pick (group_rule d) = passed (before (specs_pick d) (after whole))

top_pick : {d : Decl Span} {ts r : Lexemes} → SpellsTop span_to d ts r → Picks (map name_place (decl_names d)) ts r
top_pick (top_const_rule d) = passed (decl_pick d)
top_pick (top_var_rule d) = passed (decl_pick d)
top_pick (top_type_rule d) = passed (type_spec_pick d)
top_pick (top_type_group_rule d) = passed (passed (before (type_specs_pick d) (after whole)))
top_pick (top_func_rule d k) = passed (picked (before (of_suffix (sig_suffix span_to d)) (block_suffix span_to k)))
top_pick (top_method_rule v d k) = passed (passed (joined (of_suffix (receiver_suffix span_to v)) (passed (picked (before (of_suffix (sig_suffix span_to d)) (block_suffix span_to k))))))

tops_pick : {ds : List (Decl Span)} {ts r : Lexemes} → SpellsTops span_to ds ts r → Picks (map name_place (all_names ds)) ts r
tops_pick no_tops_rule = no_picks
tops_pick (more_tops_rule {d = d} {ds = ds} p k) = both (decl_names d) (all_names ds) (top_pick p) (passed (tops_pick k))

front_pick : {f : File Span} {ts r : Lexemes} → SpellsFront span_to f ts r → Picks (map name_place (all_names f.decls)) ts r
front_pick (front_rule b i d) = passed (passed (passed (joined (of_suffix (imports_suffix span_to i)) (tops_pick d))))

-- ---- one behind the other

-- each is more than the one before it
abbrev pub Above : ℕ → List ℕ → Type 0
Above k [] = Unit {0}
Above k (x ∷ xs) = (k < x) × Above x xs

abbrev pub Climbs : List ℕ → Type 0
Climbs [] = Unit {0}
Climbs (x ∷ xs) = Above x xs

-- the first of the tokens begins behind it
abbrev Past : ℕ → Lexemes → Type 0
Past k [] = Unit {0}
Past k (lex s x ∷ ts) = k < s.start

past_of : (s : Span) (ts : Lexemes) → Behind s ts → Past s.start ts
past_of s [] b = tt
past_of s (lex u x ∷ ts) b = b.0

past_over : (k : ℕ) (s : Span) (ts : Lexemes) → k < s.start → Behind s ts → Past k ts
past_over k s [] h b = tt
past_over k s (lex u x ∷ ts) h b = let c : s.start < u.start = b.0 in omega (arith, h, c)

picks_above : {xs : List ℕ} {ts r : Lexemes} (k : ℕ) → Picks xs ts r → Rises ts → Past k ts → Above k xs
picks_above k no_picks g h = tt
picks_above k (passed p) (rise {s = s} {ts = ts} a b g) h = picks_above k p g (past_over k s ts h b)
picks_above k (picked p) (rise {s = s} {ts = ts} a b g) h = (h, picks_above s.start p g (past_of s ts b))

picks_climb : {xs : List ℕ} {ts r : Lexemes} → Picks xs ts r → Rises ts → Climbs xs
picks_climb no_picks g = tt
picks_climb (passed p) (rise a b g) = picks_climb p g
picks_climb (picked p) (rise {s = s} {ts = ts} a b g) = picks_above s.start p g (past_of s ts b)

pub names_climb : (tokens : List Token) (file : File Span) → Rises (lexemes tokens) → SpellsFile tokens file → Climbs (map name_place (all_names file.decls))
names_climb tokens file g s = picks_climb (front_pick s) g
