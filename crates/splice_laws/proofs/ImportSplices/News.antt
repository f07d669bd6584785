-- The parts of added imports, and what they spell (Go specification, Import declarations).
use Rattle.std.proofs.Common.{◌≡◌, ℕ, Bool, true, false, List, [], ◌∷◌, ◌++◌, Option, Some, None, codes, refl, sym, ap, subst, ◌∙◌}
use Rattle.std.specs.Prelude.{encode_utf8_all, if◌then◌else◌}
use Rattle.std.specs.Str.{all_scalars}
use Rattle.std.proofs.lemmas.List.{append_assoc, append-nil}
use Rattle.std.proofs.lemmas.Str.{encodes-append}
use Rattle.go_tree.specs.declared.spans.Span.{Span}
use Rattle.go_tree.specs.declared.tokens.TokenKind.TheVariants.{Ident, Keyword, Str}
use Rattle.go_tree.specs.File.{ImportSpec, ImportDecl}
use Rattle.go_tree.specs.GoWords.Terminals.{Terminal, lex, ident, str_lit, semicolon, key_import}
use Rattle.go_tree.specs.GoWords.Texts.{text_value}
use Rattle.go_tree.specs.GoWords.Tokens.Characters.{each}
use Rattle.go_tree.specs.GoWords.Tokens.Pieces.{token, Piece, is_blanks, IsPiece}
use Rattle.go_read.specs.SpellsTypes.{Lexemes}
use Rattle.go_read.specs.SpellsFiles.{SpellsImportSpec, SpellsImports, path_rule, named_path_rule, import_rule, more_imports_rule}
use Rattle.go_read.specs.Bareness.{nowhere}
use Rattle.run_rules.specs.declared.import_rules.new_import.NewImport.{NewImport}
use Rattle.run_rules.specs.ImportRules.SpecText.{quoted, spec_text}
use Rattle.run_rules.specs.ImportRules.Added.{each_within}
use Rattle.splice_laws.specs.Joints.{words_of, InnerEnd, LastEnds}
use Rattle.splice_laws.specs.ImportTexts.{IsNewName, a_piece, spec_pieces, new_name}
use Rattle.splice_laws.specs.Edited.{terminals}
use Rattle.splice_laws.proofs.AddImports.{words_both, blank_ends, text_before, import_is, z}
use Rattle.splice_laws.proofs.Joins.{token_before_blank}
use Rattle.splice_laws.proofs.Splices.{scalars_on}
use Rattle.splice_laws.specs.ImportSplices.AddedFile.{is_byte, IsName, AreWritable, added_spec, added_decls}
use Rattle.splice_laws.proofs.ImportSplices.Terms.{terms}
use Rattle.splice_laws.proofs.ImportSplices.Bytes.{bytes_of, bytes_then}
use Rattle.splice_laws.proofs.ImportSplices.Quotes.{low_all, Literal, literal}

-- ---- a spec

pub record SpecOf (i : NewImport) : Type 0 where
  pub name : Option (List ℕ)
  pub is_name : IsNewName name
  pub text : IsPiece (token Str) (quoted i.path)
  pub scalars : all_scalars (words_of (spec_pieces name (quoted i.path))) ≡ true
  pub bytes : bytes_of (spec_pieces name (quoted i.path)) ≡ spec_text i
  pub tree : added_spec i ≡ record { span = tt; name = new_name name; path = text_value (encode_utf8_all (quoted i.path)) }

pub spec_of : (i : NewImport) → (i.spelled ≡ true → IsName i.name) → each is_byte i.path ≡ true → SpecOf i
spec_of i named h = by i.spelled refl
  where
    l : Literal i.path
    l = literal i.path h

    of_path : i.path ≡ text_value (encode_utf8_all (quoted i.path))
    of_path = sym (ap text_value l.bytes ∙ l.value)

    own : encode_utf8_all (quoted i.path ++ []) ≡ quoted i.path
    own = ap encode_utf8_all (append-nil (quoted i.path)) ∙ l.bytes

    by : (b : Bool) → i.spelled ≡ b → SpecOf i
    by false e = record {
      name = None;
      is_name = tt;
      text = l.piece;
      scalars = scalars_on (quoted i.path) [] l.scalars refl;
      bytes = own ∙ ap (λ (b : Bool). if b then i.name ++ (codes " " ++ quoted i.path) else quoted i.path) (sym e);
      tree = ap (λ (b : Bool). record { span = tt; name = if b then Some (record { span = tt; name = i.name }) else None; path = i.path }) e ∙ ap (λ (p : List ℕ). record { span = tt; name = None; path = p }) of_path;
    }
    by true e =
        let n = named e in
        record {
          name = Some n.0;
          is_name = (n.2, n.3);
          text = l.piece;
          scalars = scalars_on n.0 (32 ∷ (quoted i.path ++ [])) n.3 (scalars_on (32 ∷ []) (quoted i.path ++ []) refl (scalars_on (quoted i.path) [] l.scalars refl));
          bytes = encodes-append n.0 (32 ∷ (quoted i.path ++ [])) ∙ ap (λ (v : List ℕ). v ++ encode_utf8_all (32 ∷ (quoted i.path ++ []))) n.1
              ∙ ap (λ (v : List ℕ). i.name ++ v) (encodes-append (32 ∷ []) (quoted i.path ++ []) ∙ ap (λ (v : List ℕ). v ++ encode_utf8_all (quoted i.path ++ [])) (low_all (32 ∷ []) refl) ∙ ap (λ (v : List ℕ). 32 ∷ v) own)
              ∙ ap (λ (b : Bool). if b then i.name ++ (codes " " ++ quoted i.path) else quoted i.path) (sym e);
          tree = ap (λ (b : Bool). record { span = tt; name = if b then Some (record { span = tt; name = i.name }) else None; path = i.path }) e ∙ ap (λ (p : List ℕ). record { span = tt; name = Some (record { span = tt; name = i.name }); path = p }) of_path
              ∙ ap (λ (v : List ℕ). record { span = tt; name = Some (record { span = tt; name = v }); path = text_value (encode_utf8_all (quoted i.path)) }) (sym n.1);
        }

-- ---- what stands around it

unfoldable key_piece : Piece
key_piece = record { kind = token Keyword; word = codes "import" }

-- `import` and the spec, before others
abbrev spoken : Option (List ℕ) → List ℕ → List Piece → List Piece
spoken n l rest = key_piece ∷ a_piece (codes " ") ∷ (spec_pieces n l ++ rest)

pub blank_inner : (w : List ℕ) (rest : List Piece) → is_blanks w ≡ true → InnerEnd rest → InnerEnd (a_piece w ∷ rest)
blank_inner w [] h x = tt
blank_inner w (p ∷ rest) h x = (blank_ends w p.word h, x)

pub blank_last : (w : List ℕ) (rest : List Piece) → is_blanks w ≡ true → (next : List ℕ) → LastEnds rest next → LastEnds (a_piece w ∷ rest) next
blank_last w [] h next x = blank_ends w next h
blank_last w (p ∷ rest) h next x = x

module _ (l : List ℕ) (is_text : IsPiece (token Str) l) where
  text_inner : (rest : List Piece) → InnerEnd rest → InnerEnd (record { kind = token Str; word = l } ∷ rest)
  text_inner [] x = tt
  text_inner (p ∷ rest) x = (text_before l p.word is_text, x)

  text_last : (rest : List Piece) (next : List ℕ) → LastEnds rest next → LastEnds (record { kind = token Str; word = l } ∷ rest) next
  text_last [] next x = text_before l next is_text
  text_last (p ∷ rest) next x = x

  pub spec_inner : (n : Option (List ℕ)) → IsNewName n → (rest : List Piece) → InnerEnd rest → InnerEnd (spec_pieces n l ++ rest)
  spec_inner None h rest x = text_inner rest x
  spec_inner (Some n) h rest x = ((λ more. token_before_blank Ident n more h.0), (blank_ends (codes " ") l refl, text_inner rest x))

  pub spec_last : (n : Option (List ℕ)) (rest : List Piece) (next : List ℕ) → LastEnds rest next → LastEnds (spec_pieces n l ++ rest) next
  spec_last None rest next x = text_last rest next x
  spec_last (Some n) rest next x = text_last rest next x

  spoken_inner : (n : Option (List ℕ)) → IsNewName n → (rest : List Piece) → InnerEnd rest → InnerEnd (spoken n l rest)
  unfolding key_piece
  spoken_inner None h rest x = (λ more. token_before_blank Keyword (codes "import") more import_is, (blank_ends (codes " ") l refl, text_inner rest x))
  spoken_inner (Some n) h rest x = (λ more. token_before_blank Keyword (codes "import") more import_is, (blank_ends (codes " ") n refl, spec_inner (Some n) h rest x))

  spoken_last : (n : Option (List ℕ)) (rest : List Piece) (next : List ℕ) → LastEnds rest next → LastEnds (spoken n l rest) next
  spoken_last None rest next x = text_last rest next x
  spoken_last (Some n) rest next x = text_last rest next x

abbrev pub name_terminals : Option (List ℕ) → List Terminal
name_terminals None = []
name_terminals (Some n) = ident (encode_utf8_all n) ∷ []

abbrev pub name_lexemes : Option (List ℕ) → Lexemes
name_lexemes None = []
name_lexemes (Some n) = lex z (ident (encode_utf8_all n)) ∷ []

-- the lexemes of a spec, before others
abbrev pub spec_lexemes : Option (List ℕ) → List ℕ → Lexemes → Lexemes
spec_lexemes n l r = name_lexemes n ++ lex z (str_lit (encode_utf8_all l)) ∷ r

pub spec_terminals : (n : Option (List ℕ)) (l : List ℕ) (r : Lexemes) → terminals (spec_lexemes n l r) ≡ name_terminals n ++ str_lit (encode_utf8_all l) ∷ terminals r
spec_terminals None l r = refl
spec_terminals (Some n) l r = refl

pub spec_spells : (n : Option (List ℕ)) (l : List ℕ) (r : Lexemes) → SpellsImportSpec nowhere (record { span = tt; name = new_name n; path = text_value (encode_utf8_all l) }) (spec_lexemes n l r) r
spec_spells None l r = path_rule
spec_spells (Some n) l r = named_path_rule

line_terms : (n : Option (List ℕ)) (l : List ℕ) (rest : List Piece) → terms false (spoken n l (a_piece (codes "\n") ∷ rest)) ≡ key_import ∷ (name_terminals n ++ str_lit (encode_utf8_all l) ∷ semicolon ∷ terms false rest)
unfolding terms lib.Utf8.encode key_piece
line_terms None l rest = refl
line_terms (Some n) l rest = refl

-- ---- lines before the first declaration

pub record Lines (added : List NewImport) : Type 0 where
  pub ns : List Piece
  pub inner : InnerEnd ns
  pub closed : (next : List ℕ) → LastEnds ns next
  pub scalars : all_scalars (words_of ns) ≡ true
  pub bytes : bytes_of ns ≡ each_within (codes "import ") (codes "\n") added
  pub vs : Lexemes
  pub own : (qs : List Piece) → terms false (ns ++ qs) ≡ terminals vs ++ terms false qs
  pub spells : (js : List (ImportDecl (Unit {0}))) (us r : Lexemes) → SpellsImports nowhere js us r → SpellsImports nowhere (added_decls added ++ js) (vs ++ us) r

pub lines : (added : List NewImport) → AreWritable added → Lines added
unfolding terms key_piece
lines [] h = record { ns = []; inner = tt; closed = λ next. tt; scalars = refl; bytes = refl; vs = []; own = λ qs. refl; spells = λ js us r s. s }
lines (i ∷ is) h = more (spec_of i h.0 h.1) (lines is h.2)
  where
    more : SpecOf i → Lines is → Lines (i ∷ is)
    more x later = let l : List ℕ = quoted i.path in record {
      ns = spoken x.name l (a_piece (codes "\n") ∷ later.ns);
      inner = spoken_inner l x.text x.name x.is_name (a_piece (codes "\n") ∷ later.ns) (blank_inner (codes "\n") later.ns refl later.inner);
      closed = λ next. spoken_last l x.text x.name (a_piece (codes "\n") ∷ later.ns) next (blank_last (codes "\n") later.ns refl next (later.closed next));
      scalars = scalars_on (codes "import ") (words_of (spec_pieces x.name l ++ (a_piece (codes "\n") ∷ later.ns))) refl (subst (λ (v : List ℕ). all_scalars v ≡ true) (sym (words_both (spec_pieces x.name l) (a_piece (codes "\n") ∷ later.ns)))
          (scalars_on (words_of (spec_pieces x.name l)) (10 ∷ words_of later.ns) x.scalars (scalars_on (10 ∷ []) (words_of later.ns) refl later.scalars)));
      bytes = encodes-append (codes "import ") (words_of (spec_pieces x.name l ++ (a_piece (codes "\n") ∷ later.ns))) ∙ ap (λ (v : List ℕ). v ++ bytes_of (spec_pieces x.name l ++ (a_piece (codes "\n") ∷ later.ns))) (low_all (codes "import ") refl)
          ∙ ap (λ (v : List ℕ). codes "import " ++ v) (bytes_then (spec_pieces x.name l) (a_piece (codes "\n") ∷ later.ns) ∙ ap (λ (v : List ℕ). v ++ bytes_of (a_piece (codes "\n") ∷ later.ns)) x.bytes
          ∙ ap (λ (v : List ℕ). spec_text i ++ v) (encodes-append (codes "\n") (words_of later.ns) ∙ ap (λ (v : List ℕ). v ++ bytes_of later.ns) (low_all (codes "\n") refl) ∙ ap (λ (v : List ℕ). codes "\n" ++ v) later.bytes));
      vs = lex z key_import ∷ spec_lexemes x.name l (lex z semicolon ∷ later.vs);
      own = owns x later;
      spells = λ js us r s. spelled x later js us r s;
    }
      where
        owns : (x : SpecOf i) (later : Lines is) (qs : List Piece) → terms false (spoken x.name (quoted i.path) (a_piece (codes "\n") ∷ later.ns) ++ qs) ≡ terminals (lex z key_import ∷ spec_lexemes x.name (quoted i.path) (lex z semicolon ∷ later.vs)) ++ terms false qs
        owns x later qs =
            let l : List ℕ = quoted i.path in
            ap (λ (us : List Piece). terms false (key_piece ∷ a_piece (codes " ") ∷ us)) (append_assoc (spec_pieces x.name l) (a_piece (codes "\n") ∷ later.ns) qs)
            ∙ line_terms x.name l (later.ns ++ qs) ∙ ap (λ (ts : List Terminal). key_import ∷ (name_terminals x.name ++ str_lit (encode_utf8_all l) ∷ semicolon ∷ ts)) (later.own qs)
            ∙ ap (λ (ts : List Terminal). key_import ∷ ts) (sym (append_assoc (name_terminals x.name) (str_lit (encode_utf8_all l) ∷ semicolon ∷ terminals later.vs) (terms false qs)) ∙ ap (λ (ts : List Terminal). ts ++ terms false qs) (sym (spec_terminals x.name l (lex z semicolon ∷ later.vs))))

        spelled : (x : SpecOf i) (later : Lines is) (js : List (ImportDecl (Unit {0}))) (us r : Lexemes) → SpellsImports nowhere js us r → SpellsImports nowhere (added_decls (i ∷ is) ++ js) ((lex z key_import ∷ spec_lexemes x.name (quoted i.path) (lex z semicolon ∷ later.vs)) ++ us) r
        spelled x later js us r s =
            let l : List ℕ = quoted i.path in
            subst (λ (ws : Lexemes). SpellsImports nowhere (added_decls (i ∷ is) ++ js) (lex z key_import ∷ ws) r) (sym (append_assoc (name_lexemes x.name) (lex z (str_lit (encode_utf8_all l)) ∷ lex z semicolon ∷ later.vs) us))
            (subst (λ (y : ImportSpec (Unit {0})). SpellsImports nowhere (record { span = tt; grouped = false; specs = y ∷ [] } ∷ (added_decls is ++ js)) (lex z key_import ∷ spec_lexemes x.name l (lex z semicolon ∷ (later.vs ++ us))) r) (sym x.tree)
            (more_imports_rule {c = z} (import_rule (spec_spells x.name l (lex z semicolon ∷ (later.vs ++ us)))) (later.spells js us r s)))

-- ---- lines behind the package name

next_terms : (n : Option (List ℕ)) (l : List ℕ) (rest : List Piece) → terms true (a_piece (codes "\n") ∷ spoken n l rest) ≡ semicolon ∷ key_import ∷ (name_terminals n ++ str_lit (encode_utf8_all l) ∷ terms true rest)
unfolding terms lib.Utf8.encode key_piece
next_terms None l rest = refl
next_terms (Some n) l rest = refl

abbrev pub is_some : List NewImport → Bool
is_some [] = false
is_some (i ∷ is) = true

pub record NextLines (added : List NewImport) : Type 0 where
  pub ns : List Piece
  pub inner : InnerEnd ns
  pub ends : (next : List ℕ) → LastEnds ns next
  pub scalars : all_scalars (words_of ns) ≡ true
  pub bytes : bytes_of ns ≡ each_within (codes "\nimport ") [] added
  pub vs : Lexemes
  pub own : (qs : List Piece) → terms true (ns ++ qs) ≡ terminals vs ++ terms true qs
  pub apart : is_some added ≡ true → (qs : List Piece) → terms true (a_piece (codes "\n") ∷ (ns ++ qs)) ≡ terms true (ns ++ qs)
  pub spells : (d : Span) (js : List (ImportDecl (Unit {0}))) (us r : Lexemes) → SpellsImports nowhere js us r → (e : Span) × (ts : Lexemes) × (vs ++ (lex d semicolon ∷ us) ≡ lex e semicolon ∷ ts) × SpellsImports nowhere (added_decls added ++ js) ts r

pub next_lines : (added : List NewImport) → AreWritable added → NextLines added
unfolding terms key_piece
next_lines [] h = record { ns = []; inner = tt; ends = λ next. tt; scalars = refl; bytes = refl; vs = []; own = λ qs. refl; apart = λ h. absurd (nope h); spells = λ d js us r s. (d, us, refl, s) }
  where
    nope : false ≡ true → ⊥
    nope e = cc
next_lines (i ∷ is) h = more (spec_of i h.0 h.1) (next_lines is h.2)
  where
    more : SpecOf i → NextLines is → NextLines (i ∷ is)
    more x later = let l : List ℕ = quoted i.path in record {
      ns = a_piece (codes "\n") ∷ spoken x.name l later.ns;
      inner = blank_inner (codes "\n") (spoken x.name l later.ns) refl (spoken_inner l x.text x.name x.is_name later.ns later.inner);
      ends = λ next. spoken_last l x.text x.name later.ns next (later.ends next);
      scalars = scalars_on (codes "\nimport ") (words_of (spec_pieces x.name l ++ later.ns)) refl (subst (λ (v : List ℕ). all_scalars v ≡ true) (sym (words_both (spec_pieces x.name l) later.ns)) (scalars_on (words_of (spec_pieces x.name l)) (words_of later.ns) x.scalars later.scalars));
      bytes = encodes-append (codes "\nimport ") (words_of (spec_pieces x.name l ++ later.ns)) ∙ ap (λ (v : List ℕ). v ++ bytes_of (spec_pieces x.name l ++ later.ns)) (low_all (codes "\nimport ") refl)
          ∙ ap (λ (v : List ℕ). codes "\nimport " ++ v) (bytes_then (spec_pieces x.name l) later.ns ∙ ap (λ (v : List ℕ). v ++ bytes_of later.ns) x.bytes ∙ ap (λ (v : List ℕ). spec_text i ++ v) later.bytes);
      vs = lex z semicolon ∷ lex z key_import ∷ spec_lexemes x.name l later.vs;
      own = owns x later;
      apart = λ h qs. refl;
      spells = λ d js us r s. spelled x later d js us r (later.spells d js us r s);
    }
      where
        owns : (x : SpecOf i) (later : NextLines is) (qs : List Piece) → terms true ((a_piece (codes "\n") ∷ spoken x.name (quoted i.path) later.ns) ++ qs) ≡ terminals (lex z semicolon ∷ lex z key_import ∷ spec_lexemes x.name (quoted i.path) later.vs) ++ terms true qs
        owns x later qs =
            let l : List ℕ = quoted i.path in
            ap (λ (us : List Piece). terms true (a_piece (codes "\n") ∷ key_piece ∷ a_piece (codes " ") ∷ us)) (append_assoc (spec_pieces x.name l) later.ns qs)
            ∙ next_terms x.name l (later.ns ++ qs) ∙ ap (λ (ts : List Terminal). semicolon ∷ key_import ∷ (name_terminals x.name ++ str_lit (encode_utf8_all l) ∷ ts)) (later.own qs)
            ∙ ap (λ (ts : List Terminal). semicolon ∷ key_import ∷ ts) (sym (append_assoc (name_terminals x.name) (str_lit (encode_utf8_all l) ∷ terminals later.vs) (terms true qs)) ∙ ap (λ (ts : List Terminal). ts ++ terms true qs) (sym (spec_terminals x.name l later.vs)))

        spelled : (x : SpecOf i) (later : NextLines is) (d : Span) (js : List (ImportDecl (Unit {0}))) (us r : Lexemes) → (e : Span) × (ts : Lexemes) × (later.vs ++ (lex d semicolon ∷ us) ≡ lex e semicolon ∷ ts) × SpellsImports nowhere (added_decls is ++ js) ts r
            → (e : Span) × (ts : Lexemes) × ((lex z semicolon ∷ lex z key_import ∷ spec_lexemes x.name (quoted i.path) later.vs) ++ (lex d semicolon ∷ us) ≡ lex e semicolon ∷ ts) × SpellsImports nowhere (added_decls (i ∷ is) ++ js) ts r
        spelled x later d js us r s =
            let l : List ℕ = quoted i.path in (
              z,
              lex z key_import ∷ spec_lexemes x.name l (lex s.0 semicolon ∷ s.1),
              ap (λ (ws : Lexemes). lex z semicolon ∷ lex z key_import ∷ ws) (append_assoc (name_lexemes x.name) (lex z (str_lit (encode_utf8_all l)) ∷ later.vs) (lex d semicolon ∷ us) ∙ ap (spec_lexemes x.name l) s.2),
              subst (λ (y : ImportSpec (Unit {0})). SpellsImports nowhere (record { span = tt; grouped = false; specs = y ∷ [] } ∷ (added_decls is ++ js)) (lex z key_import ∷ spec_lexemes x.name l (lex s.0 semicolon ∷ s.1)) r) (sym x.tree)
                  (more_imports_rule {c = s.0} (import_rule (spec_spells x.name l (lex s.0 semicolon ∷ s.1))) s.3),
            )
