-- The layout of a file (Go specification, Source file organization; go/printer of the Go standard library): its package
-- clause, its imports and its declarations, with an empty line before each of them. They begin without an indent, and a
-- newline ends the last.
use Rattle.std.specs.Prelude.{ℕ, ◌/◌, ◌%◌, Bool, true, false, not, ◌&&◌, nat_lt, nat_eq}
use Rattle.std.specs.Prelude.{if◌then◌else◌, List, [], ◌∷◌, ◌++◌, Option, Some, None, codes}
use Rattle.std.specs.Char.{digit_char}
use Rattle.go_tree.specs.declared.tokens.TokenKind.TheVariants.{Str}
use Rattle.go_tree.specs.File.{ImportSpec, ImportDecl, TypeSpec, Receiver, Func, Decl, values, types, func, File}
use Rattle.go_layout.specs.Layouts.{Layout, no_text, a_token, gap, line, ◌⊕◌, key, op, name_layout, deeper}
use Rattle.go_layout.specs.TypeLayout.{type_layout, param_name_layout, sig_layout}
use Rattle.go_layout.specs.TreeLayout.{spaced, stmt_layout, block_layout}

-- a byte that stands for itself between double quotes: 0x20 to 0x7e other than `"` and `\`
abbrev pub is_plain : ℕ → Bool
is_plain byte = nat_lt 31 byte && nat_lt byte 127 && not (nat_eq byte 34) && not (nat_eq byte 92)

-- every other byte is `\x` and two lower-case hexadecimal digits
abbrev pub quoted_byte : ℕ → List ℕ
quoted_byte byte =
    if is_plain byte then byte ∷ [] else codes "\\x" ++ digit_char (byte / 16) ∷ digit_char (byte % 16) ∷ []

-- bytes as they stand between double quotes
abbrev pub quoted_bytes : List ℕ → List ℕ
quoted_bytes [] = []
quoted_bytes (byte ∷ bytes) = quoted_byte byte ++ quoted_bytes bytes

-- an import path as a string literal
abbrev pub path_spelling : List ℕ → List ℕ
path_spelling path = codes "\"" ++ quoted_bytes path ++ codes "\""

-- the indent of a declaration's specs: one stands after the keyword, those of a group one tab deeper
abbrev pub specs_indent : Bool → List ℕ
specs_indent false = []
specs_indent true = deeper []

module _ {A : Type 0} where
  -- the parenthesis that opens a group, and the line on which its first spec stands
  abbrev pub opening : Bool → List A → Layout
  opening false xs = no_text
  opening true [] = op (codes "(")
  opening true (x ∷ xs) = op (codes "(") ⊕ line false (specs_indent true)

  -- the parenthesis that ends a group, on a line of its own where there are specs
  abbrev pub closing : Bool → List A → Layout
  closing false xs = no_text
  closing true [] = op (codes ")")
  closing true (x ∷ xs) = line true [] ⊕ op (codes ")")

  -- what stands between an entry and those after it
  abbrev pub line_before : List ℕ → List A → Layout
  line_before indent [] = no_text
  line_before indent (x ∷ xs) = line true indent

  -- the specs of a declaration, each on a line of its own
  abbrev pub lines_layout : (A → Layout) → List ℕ → List A → Layout
  lines_layout entry indent [] = no_text
  lines_layout entry indent (x ∷ xs) = entry x ⊕ line_before indent xs ⊕ lines_layout entry indent xs

  -- the specs of a declaration, within parentheses where it is a group
  abbrev pub group_layout : (A → Layout) → Bool → List A → Layout
  group_layout entry grouped xs =
      opening grouped xs ⊕ lines_layout entry (specs_indent grouped) xs ⊕ closing grouped xs

  -- declarations of the file, an empty line before each
  abbrev pub paragraphs_layout : (A → Layout) → List A → Layout
  paragraphs_layout entry [] = no_text
  paragraphs_layout entry (x ∷ xs) = line false [] ⊕ entry x ⊕ line true [] ⊕ paragraphs_layout entry xs

-- before the type of a spec
abbrev pub alias_layout : Bool → Layout
alias_layout false = gap
alias_layout true = spaced (codes "=")

-- before the name of a receiver's type
abbrev pub pointer_layout : Bool → Layout
pointer_layout false = no_text
pointer_layout true = op (codes "*")

module _ {S : Type 0} where
  -- `name "path"`
  abbrev pub import_spec_layout : ImportSpec S → Layout
  import_spec_layout s = param_name_layout s.name ⊕ a_token Str (path_spelling s.path)

  -- an import declaration
  abbrev pub import_layout : ImportDecl S → Layout
  import_layout d = key (codes "import") ⊕ gap ⊕ group_layout import_spec_layout d.grouped d.specs

  -- `T int`, or `T = int` where it is an alias
  abbrev pub type_spec_layout : TypeSpec S → Layout
  type_spec_layout s = name_layout s.name ⊕ alias_layout s.alias ⊕ type_layout s.of

  -- `(r *T) `
  abbrev pub receiver_layout : Option (Receiver S) → Layout
  receiver_layout None = no_text
  receiver_layout (Some r) =
      op (codes "(") ⊕ param_name_layout r.name ⊕ pointer_layout r.pointer ⊕ name_layout r.of ⊕ op (codes ")") ⊕ gap

  -- a function or a method
  abbrev pub func_layout : Func S → Layout
  func_layout f =
      key (codes "func") ⊕ gap ⊕ receiver_layout f.receiver ⊕ name_layout f.name ⊕ sig_layout f.sig ⊕ gap
      ⊕ block_layout [] f.body

  -- a declaration
  abbrev pub declaration_layout : Decl S → Layout
  declaration_layout (values s) = stmt_layout [] false s
  declaration_layout (types _ grouped specs) =
      key (codes "type") ⊕ gap ⊕ group_layout type_spec_layout grouped specs
  declaration_layout (func f) = func_layout f

  -- a file: the package clause, the imports and the declarations
  abbrev pub file_layout : File S → Layout
  file_layout f =
      key (codes "package") ⊕ gap ⊕ name_layout f.package_name ⊕ line true []
      ⊕ paragraphs_layout import_layout f.imports ⊕ paragraphs_layout declaration_layout f.decls
