-- Where imports are added, and as which bytes (Go specification, Import declarations; Source file organization).
use Rattle.std.specs.Prelude.{ℕ, ◌-◌, Bool, false, not, ◌&&◌, if◌then◌else◌, List, [], ◌∷◌}
use Rattle.std.specs.Prelude.{◌++◌, take, drop, codes}
use Rattle.std.specs.List.{list_all}
use Rattle.go_tree.specs.declared.spans.Span.{Span}
use Rattle.go_tree.specs.declared.tokens.Token.{Token}
use Rattle.go_tree.specs.declared.tokens.Comment.{Comment}
use Rattle.go_tree.specs.File.{ImportSpec, ImportDecl, File}
use Rattle.go_tree.specs.GoWords.Tokens.Characters.{is_blank}
use Rattle.run_rules.specs.declared.import_rules.new_import.NewImport.{NewImport}
use Rattle.run_rules.specs.ImportRules.SpecText.{spec_text}
use Rattle.run_rules.specs.ImportRules.Removed.{line_start, goes, goes_whole, decl_range, spec_range}

-- each spec after a text, and before another
abbrev pub each_within : List ℕ → List ℕ → List NewImport → List ℕ
each_within before behind [] = []
each_within before behind (i ∷ is) = before ++ (spec_text i ++ (behind ++ each_within before behind is))

-- the last byte of a group is its `)`
abbrev pub closing : ImportDecl Span → ℕ
closing d = d.span.end - 1

-- only blanks stand before the `)` of a group on its line
abbrev pub is_open_group : List ℕ → ImportDecl Span → Bool
is_open_group text d = d.grouped && list_all is_blank (drop (line_start text (closing d)) (take (closing d) text))

-- specs are added to the last import declaration
abbrev pub adds_to_group : List ℕ → List (ImportDecl Span) → Bool
adds_to_group text [] = false
adds_to_group text (d ∷ []) = is_open_group text d
adds_to_group text (d ∷ e ∷ ds) = adds_to_group text (e ∷ ds)

-- where the last declaration's `)` stands
abbrev pub last_closing : List (ImportDecl Span) → ℕ
last_closing [] = 0
last_closing (d ∷ []) = closing d
last_closing (d ∷ e ∷ ds) = last_closing (e ∷ ds)

-- where imports are added, and as which bytes
pub record Addition : Type 0 where
  pub at : ℕ
  pub text : List ℕ

module _ (text : List ℕ) (tokens : List Token) (comments : List Comment) (unused : List Span) where
  -- the same of one that isn't removed as a group
  abbrev pub single_start : ImportDecl Span → List (ImportSpec Span) → ℕ
  single_start d [] = d.span.start
  single_start d (s ∷ ss) =
      if not d.grouped && goes text tokens comments unused s
      then (spec_range text tokens comments unused d s).start else d.span.start

  -- the start of a declaration, or of what is removed with it
  abbrev pub front_of : ImportDecl Span → ℕ
  front_of d =
      if goes_whole text tokens comments unused false d
      then (decl_range text tokens comments unused d).start else single_start d d.specs

  -- by the declarations, and the end of the package name
  abbrev pub addition_among : ℕ → List (ImportDecl Span) → List NewImport → Addition
  addition_among end [] added = record { at = end; text = codes "\n" ++ each_within (codes "\nimport ") [] added }
  addition_among end (d ∷ ds) added =
      if adds_to_group text (d ∷ ds)
      then record { at = last_closing (d ∷ ds); text = each_within (codes "\t") (codes "\n") added }
      else record { at = front_of d; text = each_within (codes "import ") (codes "\n") added }

  -- within the group that is the last import declaration, or before the first one, or after the package clause
  abbrev pub addition : File Span → List NewImport → Addition
  addition file added = addition_among file.package_name.span.end file.imports added
