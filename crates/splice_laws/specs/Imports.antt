-- Imports of a file removed and added, and the tokens of the file then (Go specification, Import declarations).
use Rattle.std.specs.Prelude.{◌≡◌, ◌⊎◌, true, List, [], ◌∷◌, ◌++◌}
use Rattle.go_tree.specs.declared.spans.Span.{Span}
use Rattle.go_tree.specs.Tree.{NameAt}
use Rattle.go_tree.specs.File.{ImportSpec, ImportDecl, Decl, File}
use Rattle.go_tree.specs.GoWords.Terminals.{lex, semicolon}
use Rattle.go_read.specs.SpellsTypes.{Lexemes}
use Rattle.go_read.specs.SpellsFiles.{SpellsImportSpec, SpellsImport}
use Rattle.go_read.specs.Bareness.{nowhere}

-- ---- trees

module _ {S : Type 0} where
  -- the second list is the first without one spec, which has this for its span
  pub data SpecsWithout (m : S) : List (ImportSpec S) → List (ImportSpec S) → Type 0 where
    without_spec : {x : ImportSpec S} {xs : List (ImportSpec S)} → x.span ≡ m → SpecsWithout m (x ∷ xs) xs
    without_later_spec : {x : ImportSpec S} {xs ys : List (ImportSpec S)} → SpecsWithout m xs ys
        → SpecsWithout m (x ∷ xs) (x ∷ ys)

  -- without one declaration, or without one spec of a group
  pub data ImportsWithout (m : S) : List (ImportDecl S) → List (ImportDecl S) → Type 0 where
    without_import : {d : ImportDecl S} {ds : List (ImportDecl S)} → d.span ≡ m → ImportsWithout m (d ∷ ds) ds
    without_spec_of : {s : S} {xs ys : List (ImportSpec S)} {ds : List (ImportDecl S)} → SpecsWithout m xs ys
        → ImportsWithout m (record { span = s; grouped = true; specs = xs } ∷ ds)
        (record { span = s; grouped = true; specs = ys } ∷ ds)
    without_later : {d : ImportDecl S} {ds es : List (ImportDecl S)} → ImportsWithout m ds es
        → ImportsWithout m (d ∷ ds) (d ∷ es)

  -- the second file is the first without one import, which has this for its span
  pub data FileWithout (m : S) : File S → File S → Type 0 where
    without : {n : NameAt S} {is js : List (ImportDecl S)} {ds : List (Decl S)} → ImportsWithout m is js
        → FileWithout m (record { package_name = n; imports = is; decls = ds })
        (record { package_name = n; imports = js; decls = ds })

  -- with one spec more at the end of the group that is the last declaration
  pub data ImportsWithSpec (x : ImportSpec S) : List (ImportDecl S) → List (ImportDecl S) → Type 0 where
    with_last_spec : {s : S} {xs : List (ImportSpec S)}
        → ImportsWithSpec x (record { span = s; grouped = true; specs = xs } ∷ [])
        (record { span = s; grouped = true; specs = xs ++ x ∷ [] } ∷ [])
    with_later : {d : ImportDecl S} {ds es : List (ImportDecl S)} → ImportsWithSpec x ds es
        → ImportsWithSpec x (d ∷ ds) (d ∷ es)

  -- the second file is the first with one import more, at the end of its last group
  pub data FileWithSpec (x : ImportSpec S) : File S → File S → Type 0 where
    with_spec : {n : NameAt S} {is js : List (ImportDecl S)} {ds : List (Decl S)} → ImportsWithSpec x is js
        → FileWithSpec x (record { package_name = n; imports = is; decls = ds })
        (record { package_name = n; imports = js; decls = ds })

  -- with one declaration more before the first
  abbrev pub with_import : ImportDecl S → File S → File S
  with_import d f = record f { imports = d ∷ f.imports }

-- ---- tokens

-- one semicolon, or nothing
abbrev pub IsEnd : Lexemes → Type 0
IsEnd ts = (ts ≡ []) ⊎ ((s : Span) × (ts ≡ lex s semicolon ∷ []))

-- The tokens of the spec or declaration with this span stand somewhere in these, and without them and the semicolon
-- behind them, if there is one, the tokens are so.
pub record Shortened {S : Type 0} (mark : Lexemes → Lexemes → S) (m : S) (ts : Lexemes) (are : Lexemes → Type 0) :
    Type 0 where
  pub front : Lexemes
  pub node : Lexemes
  pub end : Lexemes
  pub rest : Lexemes
  pub tokens : ts ≡ front ++ (node ++ (end ++ rest))
  pub marked : m ≡ mark (node ++ (end ++ rest)) (end ++ rest)
  pub is_end : IsEnd end
  pub shorter : are (front ++ rest)

-- Where tokens that spell a declaration, and a semicolon, stand before the imports, all are so.
pub record TakesImport (d : ImportDecl (Unit {0})) (ts : Lexemes) (are : Lexemes → Type 0) : Type 0 where
  pub front : Lexemes
  pub rest : Lexemes
  pub tokens : ts ≡ front ++ rest
  pub new : (others : Lexemes) (s : Span) → SpellsImport nowhere d others (lex s semicolon ∷ rest)
      → are (front ++ others)

-- Where tokens that spell a spec, and a semicolon, stand before the `)` of a group, all are so; before them a
-- semicolon, if the last spec has none.
pub record TakesSpec (x : ImportSpec (Unit {0})) (ts : Lexemes) (are : Lexemes → Type 0) : Type 0 where
  pub front : Lexemes
  pub end : Lexemes
  pub rest : Lexemes
  pub tokens : ts ≡ front ++ rest
  pub is_end : IsEnd end
  pub new : (others : Lexemes) (s : Span) → SpellsImportSpec nowhere x others (lex s semicolon ∷ rest)
      → are (front ++ (end ++ others))
