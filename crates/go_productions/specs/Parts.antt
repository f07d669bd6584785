-- Parts of the grammar that no goal of the reader is for.
use Rattle.std.specs.Prelude.{Bool, true, false, List, [], ◌∷◌, ◌++◌, map, Option, Some, None}
use Rattle.std.specs.Prelude.{option_and_then}
use Rattle.std.specs.Option.{option_map}
use Rattle.go_tree.specs.declared.exprs.Rest.{Rest}
use Rattle.go_tree.specs.declared.exprs.Rest.TheVariants.{Plain, Whole}
use Rattle.go_tree.specs.declared.spans.Span.{Span}
use Rattle.go_tree.specs.declared.operators.BinOp.TheVariants.{Mul}
use Rattle.go_tree.specs.Tree.{NameAt, TypeExpr, Fields, field, Param, Stmt, const_decl, var_decl}
use Rattle.go_tree.specs.GoWords.Terminals.{lex, ident, comma, dot, ellipsis, paren, end_paren, brace}
use Rattle.go_read.specs.SpellsSpans.{span_to}
use Rattle.go_read.specs.SpellsTypes.{Lexemes, unnamed}
use Rattle.go_read.specs.Goals.{read_type, read_entries, read_named, read_unnamed, read_params, read_decl}
use Rattle.go_read.specs.Reading.{at}
use Rattle.go_tree.specs.declared.go_words.terminals.Terminal.{Terminal}
use Rattle.go_tree.specs.declared.go_words.terminals.Terminal.TheVariants as code
use Rattle.go_productions.specs.declared.arguments.ArgsEnd.{ArgsEnd}
use Rattle.go_productions.specs.Cursors.{ahead}
use Rattle.go_productions.specs.Terminals.{first_of, rest_of, name_of}

-- ---- lists

-- these in front of a list that is built by `cons`
abbrev pub onto : {A L : Type 0} → (A → L → L) → List A → L → L
onto cons [] l = l
onto cons (x ∷ xs) l = cons x (onto cons xs l)

-- these in front of the list that is read
abbrev pub in_front : {A L : Type 0} → (A → L → L) → List A → Option (L × Lexemes) → Option (L × Lexemes)
in_front cons front None = None
in_front cons front (Some x) = Some (onto cons front x.0, x.1)

-- a field in front of fields
abbrev pub field_and : Span × NameAt Span × TypeExpr Span → Fields Span → Fields Span
field_and x fs = field x.0 x.1 x.2 fs

-- ---- names

-- the tokens after the names that stand first
abbrev pub skipped : Lexemes → Option Lexemes
skipped (lex s (ident n) ∷ lex c comma ∷ ts) = skipped ts
skipped (lex s (ident n) ∷ ts) = Some ts
skipped _ = None

-- a name, a dot and a name
abbrev pub is_qualified : Lexemes → Bool
is_qualified (lex s (ident p) ∷ lex d dot ∷ lex s2 (ident n) ∷ ts) = true
is_qualified _ = false

-- ---- parameters

-- a terminal that a parameter's type begins with, or the dots before that of a variadic one
abbrev pub begins_type : Terminal → Bool
begins_type code.Ellipsis = true
begins_type code.Ident = true
begins_type (code.Binary Mul) = true
begins_type code.Bracket = true
begins_type code.Map = true
begins_type code.Struct = true
begins_type code.Paren = true
begins_type _ = false

-- a span, a name and a type for each of the names that share it
abbrev pub shared : TypeExpr Span → List (Span × NameAt Span) → List (Span × NameAt Span × TypeExpr Span)
shared t [] = []
shared t (e ∷ es) = (e.0, e.1, t) ∷ shared t es

-- names and the type that they share, as they are read, after these
abbrev pub shared_read : List (Span × NameAt Span × TypeExpr Span) →
    (TypeExpr Span × List (Span × NameAt Span)) × Lexemes → List (Span × NameAt Span × TypeExpr Span) × Lexemes
shared_read front x = (front ++ shared x.0.0 x.0.1, x.1)

-- names and the type that they share, after these
abbrev pub shared_onto : List (Span × NameAt Span × TypeExpr Span) → Lexemes →
    Option (List (Span × NameAt Span × TypeExpr Span) × Lexemes)
shared_onto front ts = option_and_then (λ x. Some (shared_read front x)) (at span_to read_entries ts)

-- the parameter that a name and its type are
abbrev pub param_from : Span × NameAt Span × TypeExpr Span → Param Span
param_from x = record { span = x.0; name = Some x.1; rest = false; of = x.2 }

-- whether a variadic parameter stands first, where one may: its name, if parameters have names, and three dots
abbrev pub rest_here : Bool → Bool → Lexemes → Bool
rest_here true true (lex s (ident n) ∷ lex d ellipsis ∷ ts) = true
rest_here true false (lex d ellipsis ∷ ts) = true
rest_here _ _ _ = false

-- the variadic parameter with this type, with a name or without
abbrev pub rest_from : Span → Option (NameAt Span) → TypeExpr Span → Param Span
rest_from s n t = record { span = s; name = n; rest = true; of = t }

-- a variadic parameter that begins at `whole`, from its type on, after these
abbrev pub rest_onto : List (Param Span) → Lexemes → Option (NameAt Span) → Lexemes →
    Option (List (Param Span) × Lexemes)
rest_onto front whole n ts =
    option_and_then (λ x. Some (front ++ rest_from (span_to whole x.1) n x.0 ∷ [], x.1)) (at span_to read_type ts)

-- a variadic parameter, after these
abbrev pub rest_group : List (Param Span) → Lexemes → Option (List (Param Span) × Lexemes)
rest_group front (lex s (ident n) ∷ lex d ellipsis ∷ ts) =
    rest_onto front (lex s (ident n) ∷ lex d ellipsis ∷ ts) (Some (name_of (lex s (ident n) ∷ lex d ellipsis ∷ ts))) ts
rest_group front (lex d ellipsis ∷ ts) = rest_onto front (lex d ellipsis ∷ ts) None ts
rest_group front _ = None

-- parameters that share a type, or one without a name, or a variadic one, after these
abbrev pub group_onto : Bool → Bool → List (Param Span) → Lexemes → Option (List (Param Span) × Lexemes)
group_onto true named front ts = rest_group front ts
group_onto false true front ts =
    option_and_then (λ x. Some (front ++ map param_from (shared x.0.0 x.0.1), x.1)) (at span_to read_entries ts)
group_onto false false front ts = option_and_then (λ x. Some (front ++ unnamed x.0 ∷ [], x.1)) (at span_to read_type ts)

-- parameters with names or without, the last of which may be variadic or not, up to the closing parenthesis
abbrev pub params_at : Bool → Bool → Lexemes → Option (List (Param Span) × Lexemes)
params_at variadic true ts = at span_to (read_named variadic) ts
params_at variadic false ts = at span_to (read_unnamed variadic) ts

-- whether the parameters that stand here have names: a type begins after those that stand first
abbrev pub begins_after : Option Lexemes → Bool
begins_after None = false
begins_after (Some ts) = begins_type (first_of ts)

-- whether the parameters that stand here have names
abbrev pub has_names : Lexemes → Bool
has_names ts = begins_after (skipped ts)

-- the results of a function, before a block
abbrev pub results_at : Lexemes → Option (List (Param Span) × Lexemes)
results_at (lex s paren ∷ ts) = at span_to (read_params false) (lex s paren ∷ ts)
results_at (lex s brace ∷ ts) = Some ([], lex s brace ∷ ts)
results_at ts = option_and_then (λ x. Some (unnamed x.0 ∷ [], x.1)) (at span_to read_type ts)

-- ---- arguments

-- the tokens after the parenthesis that ends arguments, before which a comma may stand
abbrev pub args_closed : Lexemes → Option Lexemes
args_closed (lex e end_paren ∷ r) = Some r
args_closed (lex c comma ∷ lex e end_paren ∷ r) = Some r
args_closed _ = None

-- what stands after the last argument of a call, and the tokens after it: the parenthesis that ends them, or three dots
-- before it (Go specification, Calls)
abbrev pub args_end : Lexemes → Option (Rest × Lexemes)
args_end (lex e end_paren ∷ r) = Some (Plain, r)
args_end (lex d ellipsis ∷ ts) = option_map (λ r. (Whole, r)) (args_closed ts)
args_end _ = None

-- an end of arguments as the grammar tells it: what stands behind the last, and the tokens that are left
abbrev pub args_end_of : ArgsEnd → Rest × Lexemes
args_end_of x = (x.rest, ahead x.after)

-- ---- declarations

-- the declaration of constants that begins with the first token, its keyword (Go specification, Constant declarations)
unfoldable pub const_decl_at : Lexemes → Option (Stmt Span × Lexemes)
const_decl_at ts =
    option_and_then (λ x. Some (const_decl (span_to ts x.1) x.0.0 x.0.1, x.1))
    (at span_to (read_decl true) (rest_of ts))

-- that of variables (Go specification, Variable declarations)
unfoldable pub var_decl_at : Lexemes → Option (Stmt Span × Lexemes)
var_decl_at ts =
    option_and_then (λ x. Some (var_decl (span_to ts x.1) x.0.0 x.0.1, x.1)) (at span_to (read_decl false) (rest_of ts))
