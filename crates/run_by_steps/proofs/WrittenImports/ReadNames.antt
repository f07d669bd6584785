-- The packages of a module that reads have identifiers as their names and paths of octets, and steps keep them.
use Rattle.std.proofs.Common.{◌≡◌, ◌∙◌, refl, sym, ap, subst, ℕ, zero, suc, ◌+◌, ◌==◌, Bool, true, false, not, ◌||◌, if◌then◌else◌, bytes_eq, List, [], ◌∷◌, ◌++◌, map, filter, Option, Some, None, arith}
use Rattle.std.specs.Prelude.{encode_utf8_all}
use Rattle.std.specs.Str.{all_scalars}
use Rattle.std.specs.List.{list_any, list_all}
use Rattle.std.proofs.lemmas.Bool.{or_left, or_right, and_parts}
use Rattle.std.proofs.lemmas.Slice.Eq.{bytes_eq-Decides}
use Rattle.go_tree.specs.declared.spans.Span.{Span}
use Rattle.go_tree.specs.declared.tokens.Token.{Token}
use Rattle.go_tree.specs.declared.tokens.Comment.{Comment}
use Rattle.go_tree.specs.declared.tokens.TokenKind.{TokenKind}
use Rattle.go_tree.specs.declared.tokens.TokenKind.TheVariants.{Ident, Keyword, Operator, Integer, Float, Imaginary, Rune, Str, Inserted}
use Rattle.go_tree.specs.File.{File}
use Rattle.go_tree.specs.GoWords.Terminals.{Terminal, Lexeme, lex, ident, found_in, keywords, operators, terminal_of, lexemes}
use Rattle.go_tree.specs.GoWords.Tokens.{TokensOf, tokens_from, tokens_at, inserted, due_after, after_mark, mark_size, size_of}
use Rattle.go_tree.specs.GoWords.Tokens.Characters.{byte_order_mark, is_listed, each}
use Rattle.go_tree.specs.GoWords.Tokens.Pieces.{PieceKind, blanks, remark, token, Piece, IsPiece, CutsTo}
use Rattle.go_read.specs.SpellsSpans.{span_to}
use Rattle.go_read.specs.SpellsFiles.{SpellsFront, front_rule}
use Rattle.splice_laws.specs.ImportSplices.AddedFile.{is_byte, IsName}
use Rattle.splice_laws.proofs.Splices.{scalars_parts}
use Rattle.pkg_graph.specs.Package.{SourceTree, Package, first_seen, home_of, first_name, package_of, packages_of}
use Rattle.pkg_graph.specs.Reads.{Source, AreTrees, none, file, go_files, selected_files, is_at}
use Rattle.pkg_graph.specs.ModuleFiles.Selected.{is_selected, module_file}
use Rattle.run_rules.specs.Respanned.{packages_with}
use Rattle.run_rules.specs.Steps.{change_nth}
use Rattle.run_rules.specs.Run.{as_read, ends, goes_on}
use Rattle.run_rules.specs.Inlining.{IsSourceFile}
use Rattle.run_by_steps.specs.WrittenImports.Laws.{AreNamed, ReadPackagesAreNamed, RunsKeepPackagesNamed}
use Rattle.run_by_steps.proofs.WrittenImports.Octets.{AllOctets, home_octets, seen_octets, module_octets}

never : {A : Type 0} → false ≡ true → A
never e = absurd (grind (arith, e))

-- ---- a name among a text's tokens is an identifier

abbrev is_ident : Terminal → Bool
is_ident (ident n) = true
is_ident t = false

abbrev name_in : Terminal → List ℕ
name_in (ident n) = n
name_in t = []

no_names : (rows : List (List ℕ × Terminal)) → list_all (λ r. not (is_ident r.1)) rows ≡ true → (s n : List ℕ) → found_in rows s ≡ ident n → ⊥
no_names [] h s n e = never (ap is_ident e)
no_names (r ∷ rows) h s n e = by (bytes_eq r.0 s) e (no_names rows a.1 s n)
  where
    a : (not (is_ident r.1) ≡ true) × (list_all (λ r. not (is_ident r.1)) rows ≡ true)
    a = and_parts (not (is_ident r.1)) (list_all (λ r. not (is_ident r.1)) rows) h

    by : (b : Bool) → (if b then r.1 else found_in rows s) ≡ ident n → (found_in rows s ≡ ident n → ⊥) → ⊥
    by true e f = never (ap (λ (b : Bool). not b) (sym (ap is_ident e)) ∙ a.0)
    by false e f = f e

no_keywords : list_all (λ r. not (is_ident r.1)) keywords ≡ true
no_keywords = refl

no_operators : list_all (λ r. not (is_ident r.1)) operators ≡ true
no_operators = refl

-- where it stands for a name, that is an identifier
abbrev pub NamesWell : Token → Type 0
NamesWell t = (n : List ℕ) → terminal_of t.kind t.spelling ≡ ident n → IsName n

abbrev pub AllNameWell : List Token → Type 0
AllNameWell [] = Unit {0}
AllNameWell (t ∷ ts) = NamesWell t × AllNameWell ts

token_names : (k : TokenKind) (w : List ℕ) → all_scalars w ≡ true → IsPiece (token k) w → (n : List ℕ) → terminal_of k (encode_utf8_all w) ≡ ident n → IsName n
token_names Ident w s p n e = (w, ap name_in e, p, s)
token_names Keyword w s p n e = absurd (no_names keywords no_keywords (encode_utf8_all w) n e)
token_names Operator w s p n e = absurd (no_names operators no_operators (encode_utf8_all w) n e)
token_names Integer w s p n e = never (ap is_ident e)
token_names Float w s p n e = never (ap is_ident e)
token_names Imaginary w s p n e = never (ap is_ident e)
token_names Rune w s p n e = never (ap is_ident e)
token_names Str w s p n e = never (ap is_ident e)
token_names Inserted w s p n e = absurd p

due_names : (due : Option ℕ) (ts : List Token) → AllNameWell ts → AllNameWell (inserted due ++ ts)
due_names None ts h = h
due_names (Some at) ts h = ((λ n e. never (ap is_ident e)), h)

at_names : (at : ℕ) (due : Option ℕ) (k : PieceKind) (w : List ℕ) (ts : List Token) → all_scalars w ≡ true → IsPiece k w → AllNameWell ts → AllNameWell (tokens_at at due k w ++ ts)
at_names at due (token k) w ts s p h = (token_names k w s p, h)
at_names at due blanks w ts s p h = by (is_listed w 10)
  where
    by : (b : Bool) → AllNameWell ((if b then inserted due else []) ++ ts)
    by true = due_names due ts h
    by false = h
at_names at due remark w ts s p h = by (is_listed w 10)
  where
    by : (b : Bool) → AllNameWell ((if b then inserted due else []) ++ ts)
    by true = due_names due ts h
    by false = h

pieces_name : (at : ℕ) (due : Option ℕ) (text : List ℕ) (ps : List Piece) → all_scalars text ≡ true → CutsTo text ps [] → AllNameWell (tokens_from at due ps)
unfolding tokens_from
pieces_name at None text [] s c = tt
pieces_name at (Some d) text [] s c = ((λ n e. never (ap is_ident e)), tt)
pieces_name at due text (p ∷ ps) s c =
    let both = scalars_parts p.word c.0 (subst (λ (v : List ℕ). all_scalars v ≡ true) c.1.parts s) in
    at_names at due p.kind p.word (tokens_from (at + size_of p.word) (due_after at due p.kind p.word) ps) both.0 c.1.spelled
    (pieces_name (at + size_of p.word) (due_after at due p.kind p.word) c.0 ps both.1 c.2)

mark_scalars : (cs : List ℕ) → all_scalars cs ≡ true → all_scalars (after_mark cs) ≡ true
mark_scalars [] h = h
mark_scalars (c ∷ cs) h = by (c == byte_order_mark) (scalars_parts (c ∷ []) cs h).1
  where
    by : (b : Bool) → all_scalars cs ≡ true → all_scalars (if b then cs else c ∷ cs) ≡ true
    by true r = r
    by false r = h

pub text_names : (text : List ℕ) (tokens : List Token) (comments : List Comment) → TokensOf text tokens comments → AllNameWell tokens
text_names text tokens comments t =
    subst AllNameWell (sym t.tokens_are) (pieces_name (mark_size t.characters) None (after_mark t.characters) t.pieces (mark_scalars t.characters t.scalars) t.cut)

-- ---- the package clause of a file

abbrev terminal_in : Lexeme → Terminal
terminal_in (lex s t) = t

abbrev second : Terminal → List Lexeme → Terminal
second t (a ∷ b ∷ ms) = terminal_in b
second t ms = t

second_names : (ts : List Token) (x : Lexeme) (c : Span) (n : List ℕ) (more : List Lexeme) → AllNameWell ts → lexemes ts ≡ x ∷ lex c (ident n) ∷ more → IsName n
second_names [] x c n more h e = absurd (grind (arith, e))
second_names (t ∷ []) x c n more h e = absurd (grind (arith, e))
second_names (t ∷ u ∷ ts) x c n more h e = h.1.0 n (ap (second (terminal_in x)) e)

file_names : (ts : List Token) (all : List Lexeme) (f : File Span) → AllNameWell ts → lexemes ts ≡ all → SpellsFront span_to f all [] → IsName f.package_name.name
file_names ts _ _ h e (front_rule {s = s} {c = c} {d = d} {n = n} blank is tops) = second_names ts _ c n _ h e

source_names : (text : List ℕ) (f : File Span) → IsSourceFile text f → IsName f.package_name.name
source_names text f r = file_names r.tokens (lexemes r.tokens) f (text_names text r.tokens r.comments r.reads.scans) refl r.reads.spells

-- ---- files

abbrev AllPaths : List Source → Type 0
AllPaths [] = Unit {0}
AllPaths (f ∷ fs) = (each is_byte f.path ≡ true) × AllPaths fs

all_paths : (fs : List Source) → list_all (λ f. each is_byte f.path) fs ≡ true → AllPaths fs
all_paths [] h = tt
all_paths (f ∷ fs) h = let a = and_parts (each is_byte f.path) (list_all (λ f. each is_byte f.path) fs) h in (a.0, all_paths fs a.1)

kept_paths : (P : Source → Bool) (fs : List Source) → AllPaths fs → AllPaths (filter P fs)
kept_paths P [] h = tt
kept_paths P (f ∷ fs) h = by (P f) (kept_paths P fs h.1)
  where
    by : (b : Bool) → AllPaths (filter P fs) → AllPaths (if b then f ∷ filter P fs else filter P fs)
    by true r = (h.0, r)
    by false r = r

abbrev NamedTrees : List (SourceTree Span) → Type 0
NamedTrees [] = Unit {0}
NamedTrees (f ∷ fs) = IsName f.tree.package_name.name × (each is_byte f.path ≡ true) × NamedTrees fs

trees_named : {files : List Source} {trees : List (SourceTree Span)} → AreTrees IsSourceFile files trees → AllPaths files → NamedTrees trees
trees_named none h = tt
trees_named (file f tree fs trees s r) h = (source_names f.text tree s, h.0, trees_named r h.1)

-- ---- packages

module _ (home : List ℕ) (octets : each is_byte home ≡ true) where
  abbrev at_home : List ℕ → SourceTree Span → Bool
  at_home path f = bytes_eq path (home_of home f)

  first_of_home : (path : List ℕ) (fs : List (SourceTree Span)) → NamedTrees fs → list_any (at_home path) fs ≡ true → IsName (first_name (filter (at_home path) fs))
  first_of_home path [] h e = never e
  first_of_home path (f ∷ fs) h e = by (at_home path f) e (first_of_home path fs h.2)
    where
      by : (b : Bool) → (b || list_any (at_home path) fs) ≡ true → (list_any (at_home path) fs ≡ true → IsName (first_name (filter (at_home path) fs))) → IsName (first_name (if b then f ∷ filter (at_home path) fs else filter (at_home path) fs))
      by true e k = h.0
      by false e k = k e

  -- each of the paths is that of a file
  abbrev EachHome : List (SourceTree Span) → List (List ℕ) → Type 0
  EachHome fs [] = Unit {0}
  EachHome fs (p ∷ ps) = (list_any (at_home p) fs ≡ true) × EachHome fs ps

  more_homes : (f : SourceTree Span) (fs : List (SourceTree Span)) (ps : List (List ℕ)) → EachHome fs ps → EachHome (f ∷ fs) ps
  more_homes f fs [] h = tt
  more_homes f fs (p ∷ ps) h = (or_right (at_home p f) (list_any (at_home p) fs) h.0, more_homes f fs ps h.1)

  all_homes : (fs : List (SourceTree Span)) → EachHome fs (map (home_of home) fs)
  all_homes [] = tt
  all_homes (f ∷ fs) = (or_left (at_home (home_of home f) f) (list_any (at_home (home_of home f)) fs) ((bytes_eq-Decides (home_of home f) (home_of home f)).1 refl), more_homes f fs (map (home_of home) fs) (all_homes fs))

  kept_homes : (fs : List (SourceTree Span)) (P : List ℕ → Bool) (ps : List (List ℕ)) → EachHome fs ps → EachHome fs (filter P ps)
  kept_homes fs P [] h = tt
  kept_homes fs P (p ∷ ps) h = by (P p) (kept_homes fs P ps h.1)
    where
      by : (b : Bool) → EachHome fs (filter P ps) → EachHome fs (if b then p ∷ filter P ps else filter P ps)
      by true k = (h.0, k)
      by false k = k

  seen_homes : (fs : List (SourceTree Span)) (ps : List (List ℕ)) → EachHome fs ps → EachHome fs (first_seen ps)
  seen_homes fs [] h = tt
  seen_homes fs (p ∷ ps) h = (h.0, kept_homes fs (λ y. not (bytes_eq p y)) (first_seen ps) (seen_homes fs ps h.1))

  homes_octets : (fs : List (SourceTree Span)) → NamedTrees fs → AllOctets (map (home_of home) fs)
  homes_octets [] h = tt
  homes_octets (f ∷ fs) h = (home_octets home f octets h.1, homes_octets fs h.2)

  packages_named : (fs : List (SourceTree Span)) (ps : List (List ℕ)) → NamedTrees fs → EachHome fs ps → AllOctets ps → AreNamed (map (package_of home fs) ps)
  packages_named fs [] o h k = tt
  packages_named fs (p ∷ ps) o h k = (first_of_home p fs o h.0, k.0, packages_named fs ps o h.1 k.1)

  program_named : (fs : List (SourceTree Span)) → NamedTrees fs → AreNamed (packages_of home fs)
  program_named fs o =
      packages_named fs (first_seen (map (home_of home) fs)) o (seen_homes fs (map (home_of home) fs) (all_homes fs)) (seen_octets (map (home_of home) fs) (homes_octets fs o))

respanned_named : {S T : Type 0} (m : S → T) (ps : List (Package S)) → AreNamed ps → AreNamed (packages_with m ps)
respanned_named m [] h = tt
respanned_named m (p ∷ ps) h = (h.0, h.1, respanned_named m ps h.2)

pub read_packages_are_named : ReadPackagesAreNamed
read_packages_are_named files ps texts m e =
    let r = m.reads in let home = r.program.path in
    let paths : AllPaths (go_files files) = kept_paths (λ f. not (is_at module_file f)) (selected_files files) (kept_paths (λ f. is_selected (map (λ g. g.path) files) f.path) files (all_paths files e)) in
    respanned_named as_read ps
    (subst AreNamed (sym r.program.packages_are) (program_named home (module_octets r.program.module_text.text home r.program.path_is) r.trees (trees_named r.trees_are paths)))

-- ---- steps

pub changed_named : {S : Type 0} (F : Package S → Package S) → ((p : Package S) → IsName p.name → IsName (F p).name) → ((p : Package S) → each is_byte p.path ≡ true → each is_byte (F p).path ≡ true) → (k : ℕ) (ps : List (Package S)) → AreNamed ps → AreNamed (change_nth k F ps)
changed_named F f g k [] h = tt
changed_named F f g zero (p ∷ ps) h = (f p h.0, g p h.1, h.2)
changed_named F f g (suc k) (p ∷ ps) h = (h.0, h.1, changed_named F f g k ps h.2)

pub runs_keep_packages_named : RunsKeepPackagesNamed
runs_keep_packages_named marks _ _ _ (ends st e) h = h
runs_keep_packages_named marks _ _ _ (goes_on st next last l more n r) h =
    runs_keep_packages_named marks next more last r
    (subst AreNamed (sym n.packages_are) (changed_named _ (λ p o. o) (λ p o. o) n.found.site.at.number st.packages h))
