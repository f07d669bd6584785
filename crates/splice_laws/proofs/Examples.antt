-- Forms in texts, by computation: each text is the row's, and the decisions at the joints.
use Rattle.std.proofs.Common.{◌≡◌, ℕ, Bool, true, false, ◌&&◌, List, [], ◌∷◌, Some, None, refl, ap, ◌∙◌}
use Rattle.std.specs.Prelude.{codes}
use Rattle.std.specs.Str.{chars}
use Rattle.std.proofs.lemmas.Str.{chars-encodes}
use Rattle.go_tree.specs.declared.exprs.Rest.TheVariants.{Plain}
use Rattle.go_tree.specs.declared.spans.Span.{Span}
use Rattle.go_tree.specs.declared.tokens.Token.{Token}
use Rattle.go_tree.specs.declared.tokens.TokenKind.TheVariants.{Ident, Operator, Integer, Float}
use Rattle.go_tree.specs.declared.operators.BinOp.TheVariants.{Sub, Add, Eq, Gt}
use Rattle.go_tree.specs.declared.operators.UnOp.TheVariants.{Minus}
use Rattle.go_tree.specs.Tree.{TypeExpr, Sig, named, pointer, struct_type, field, no_fields, defer, Expr, str_lit, composite, selector, slice, call, func_lit, unary, binary, no_exprs, no_expr, some_expr, no_elems, elem, plain, no_value, eval, define, return_, inner, if_, no_stmt, no_block, arm, no_arms, const_decl, no_specs, spec}
use Rattle.go_tree.specs.File.{values, func, File}
use Rattle.go_tree.specs.GoWords.Tokens.Pieces.{token, keyword_spellings}
use Rattle.go_scan.specs.Pieces.{piece_of, lexeme_of}
use Rattle.go_scan.specs.Automaton.{next_of, longest_from}
use Rattle.go_tree.specs.GoWords.Tokens.Characters.{is_letter, is_digit}
use Rattle.ucd_category.specs.GeneralCategory.{general_category}
use Rattle.ucd_category.specs.GeneralCategoryRows.{general_category_rows}
use Rattle.ucd_table.specs.Rows.{value_in}
use Rattle.go_read.specs.Goals.{read_operand}
use Rattle.go_read.proofs.Texts.{reading, var, num, name, type, list, block}
use Rattle.go_layout.specs.Layouts.{text_of}
use Rattle.splice_laws.specs.Joints.{dots_apart, left_comments}
use Rattle.splice_laws.specs.Swaps.{Swap, an_operand, a_type, a_stmt, a_deferred, TypeIn, this_type, inside_type, in_struct, in_field, in_later_fields, SigIn, in_named_params, in_results, in_unnamed, in_named, no_more_params, one_more_param, no_more_alike, in_named_rest, in_later_named, StmtsIn, this_deferred, this_operand, inside_operand, in_args, in_first_expr, in_eval, in_simple, inside_stmt, in_function, in_this_decl, in_later_decls, in_decls, FileIn, in_right, ArmsIn, in_arm_test}
use Rattle.splice_laws.specs.Dots.{UndottedExpr}
use Rattle.splice_laws.specs.Forms.{new_layout}
use Rattle.splice_laws.specs.Splice.{are_two, stays_apart, are_apart, first_word, spliced_text}
use Rattle.splice_laws.proofs.Grafts.{U}

abbrev S : Type 0
S = Swap U

tab : List ℕ
tab = 9 ∷ []

-- the text of a new node at an indent
abbrev new_text : List ℕ → Bool → Bool → S → List ℕ
new_text i dotted wrapped w = text_of (new_layout i dotted wrapped w)

abbrev at : ℕ → ℕ → Span
at a b = record { start = a; end = b }

x : Expr U
x = var (codes "x")

-- ---- a constant: the name of its value stands for its name

abbrev constant : S
constant = an_operand 1 false (var (codes "Ptr")) (var (codes "Pointer"))

constant_row : spliced_text (codes "package main\n\nconst Pointer = 1\n\n//go:fix inline\nconst Ptr = Pointer\n\nfunc main() {\n\tprintln(Ptr)\n}\n") (at 93 96) false (new_layout [] false false constant) ≡ codes "package main\n\nconst Pointer = 1\n\n//go:fix inline\nconst Ptr = Pointer\n\nfunc main() {\n\tprintln(Pointer)\n}\n"
constant_row = refl

-- at the end of a file without a last newline

last_line_row : spliced_text (codes "package main\n\nconst Ptr = 1\n\nfunc main() { println(Ptr) }") (at 51 54) false (new_layout [] false false constant) ≡ codes "package main\n\nconst Ptr = 1\n\nfunc main() { println(Pointer) }"
last_line_row = refl

-- ---- a call for a call

abbrev square : S
square = an_operand 1 false (call tt (selector tt (var (codes "old")) (name (codes "Square"))) (list (var (codes "x") ∷ [])) Plain) (call tt (selector tt (var (codes "pow")) (name (codes "Pow"))) (list (var (codes "x") ∷ num (codes "2") ∷ [])) Plain)

expression_row : spliced_text (codes "\tprintln(old.Square(x))\n") (at 9 22) false (new_layout (9 ∷ []) false false square) ≡ codes "\tprintln(pow.Pow(x, 2))\n"
expression_row = refl

-- ---- a literal of a function, called

abbrev increment : S
increment = an_operand 1 false (call tt (var (codes "Inc")) (list (num (codes "127") ∷ [])) Plain) (call tt (func_lit tt (record { params = record { span = tt; name = Some (name (codes "x")); rest = false; of = type (codes "int8") } ∷ []; results = record { span = tt; name = None; rest = false; of = type (codes "int8") } ∷ [] }) tt (block (return_ tt (list (binary tt Add (var (codes "x")) (num (codes "1")) ∷ [])) ∷ []))) (list (num (codes "127") ∷ [])) Plain)

literal_row : spliced_text (codes "\tprintln(Inc(127))\n") (at 9 17) false (new_layout (9 ∷ []) false false increment) ≡ codes "\tprintln(func(x int8) int8 {\n\t\treturn x + 1\n\t}(127))\n"
literal_row = refl

-- ---- a whole `return`, and a statement: blocks

abbrev split : S
split = a_stmt (return_ tt (list (call tt (var (codes "Split")) (list (var (codes "t") ∷ [])) Plain ∷ []))) (inner tt (block (
    if_ tt (arm tt no_stmt (binary tt Gt (call tt (var (codes "len")) (list (var (codes "t") ∷ [])) Plain) (num (codes "1"))) tt
    (block (return_ tt (list (slice tt (var (codes "t")) no_expr (some_expr (num (codes "1"))) ∷ slice tt (var (codes "t")) (some_expr (num (codes "1"))) no_expr ∷ [])) ∷ [])) no_arms) no_block
    ∷ return_ tt (list (var (codes "t") ∷ str_lit tt (codes "\"\"") ∷ [])) ∷ [])))

tail_row : spliced_text (codes "func Cut(t string) (string, string) {\n\treturn Split(t)\n}\n") (at 39 54) false (new_layout (9 ∷ []) false false split) ≡ codes "func Cut(t string) (string, string) {\n\t{\n\t\tif len(t) > 1 {\n\t\t\treturn t[:1], t[1:]\n\t\t}\n\t\treturn t, \"\"\n\t}\n}\n"
tail_row = refl

abbrev log : S
log = a_stmt (eval tt (call tt (var (codes "Log")) (list (call tt (var (codes "g")) no_exprs Plain ∷ call tt (var (codes "h")) no_exprs Plain ∷ [])) Plain)) (inner tt (block (
    define tt (name (codes "a") ∷ []) (list (call tt (var (codes "g")) no_exprs Plain ∷ [])) ∷ eval tt (call tt (var (codes "println")) (list (call tt (var (codes "h")) no_exprs Plain ∷ var (codes "a") ∷ [])) Plain) ∷ [])))

block_row : spliced_text (codes "func main() {\n\tLog(g(), h())\n}\n") (at 15 28) false (new_layout (9 ∷ []) false false log) ≡ codes "func main() {\n\t{\n\t\ta := g()\n\t\tprintln(h(), a)\n\t}\n}\n"
block_row = refl

-- ---- a header: a composite literal with a named type stands in parentheses

abbrev is_one : S
is_one = an_operand 1 true (call tt (var (codes "IsOne")) (list (var (codes "q") ∷ [])) Plain) (binary tt Eq (var (codes "q")) (composite tt (type (codes "P")) (elem tt no_value (plain (num (codes "1"))) no_elems)))

header_row : spliced_text (codes "func main() {\n\tq := P{1}\n\tif IsOne(q) {\n\t\tprintln(1)\n\t}\n}\n") (at 29 37) false (new_layout (9 ∷ []) false false is_one) ≡ codes "func main() {\n\tq := P{1}\n\tif q == (P{1}) {\n\t\tprintln(1)\n\t}\n}\n"
header_row = refl

-- without them the header would read otherwise

no_literal_in_header : reading (read_operand true) (codes "q == P { 1 }") ≡ None
unfolding reading
no_literal_in_header = refl

-- and the place of a header takes no form that is written for a place outside of one

abbrev outside : S
outside = an_operand 1 false (call tt (var (codes "IsOne")) (list (var (codes "q") ∷ [])) Plain) (binary tt Eq (var (codes "q")) (composite tt (type (codes "P")) (elem tt no_value (plain (num (codes "1"))) no_elems)))

header_kept : ArmsIn outside (arm tt no_stmt (call tt (var (codes "IsOne")) (list (var (codes "q") ∷ [])) Plain) tt (block []) no_arms)
    (arm tt no_stmt (binary tt Eq (var (codes "q")) (composite tt (type (codes "P")) (elem tt no_value (plain (num (codes "1"))) no_elems))) tt (block []) no_arms) → ⊥
header_kept (in_arm_test (this_operand e)) = cc
header_kept (in_arm_test (inside_operand p)) = elim p [ ]

-- ---- the joint

abbrev negative : S
negative = an_operand 5 false (call tt (var (codes "Neg")) (list (var (codes "b") ∷ [])) Plain) (unary tt Minus (var (codes "b")))

two_signs : are_two (codes "-") (first_word (new_layout [] false false negative)) ≡ false
unfolding are_two piece_of lexeme_of longest_from next_of keyword_spellings is_letter is_digit general_category general_category_rows value_in
two_signs = refl

blank_row : spliced_text (codes "package main\n\nfunc Neg(x int) int { return -x }\n\nfunc main() {\n\ta, b := 3, 4\n\tprintln(a-Neg(b))\n}\n") (at 88 94) true (new_layout (9 ∷ []) false false negative) ≡ codes "package main\n\nfunc Neg(x int) int { return -x }\n\nfunc main() {\n\ta, b := 3, 4\n\tprintln(a- -b)\n}\n"
blank_row = refl

-- without the blank the two signs are one token

one_sign : piece_of (codes "--b))") ≡ Some (token Operator, 2)
unfolding piece_of lexeme_of longest_from next_of keyword_spellings is_letter is_digit general_category general_category_rows value_in
one_sign = refl

-- so the law asks for one there

minus_chars : chars (codes "-") ≡ codes "-"
unfolding lib.Utf8.encode
minus_chars = chars-encodes (codes "-") refl

blank_needed : are_apart (record { span = at 0 1; kind = Ident; spelling = codes "a" } ∷ record { span = at 1 2; kind = Operator; spelling = codes "-" } ∷ []) 2 (first_word (new_layout [] false false negative)) ≡ false
unfolding stays_apart
blank_needed = ap (λ (v : List ℕ). (are_two v (first_word (new_layout [] false false negative)) && true) && true) minus_chars ∙ ap (λ (b : Bool). (b && true) && true) two_signs

under_minus : new_text [] false true (an_operand 6 false (var (codes "Ptr")) (unary tt Minus (num (codes "1")))) ≡ codes "(-1)"
under_minus = refl

return_number : are_two (codes "return") (codes "1") ≡ false
unfolding are_two piece_of lexeme_of longest_from next_of keyword_spellings is_letter is_digit general_category general_category_rows value_in
return_number = refl

paren_name : are_two (codes "(") (codes "Pointer") ≡ true
unfolding are_two piece_of lexeme_of longest_from next_of keyword_spellings is_letter is_digit general_category general_category_rows value_in
paren_name = refl

minus_paren : are_two (codes "-") (codes "(") ≡ true
unfolding are_two piece_of lexeme_of longest_from next_of keyword_spellings is_letter is_digit general_category general_category_rows value_in
minus_paren = refl

slash_star : are_two (codes "/") (codes "*") ≡ false
unfolding are_two piece_of lexeme_of longest_from next_of keyword_spellings is_letter is_digit general_category general_category_rows value_in
slash_star = refl

and_caret : are_two (codes "&") (codes "^") ≡ false
unfolding are_two piece_of lexeme_of longest_from next_of keyword_spellings is_letter is_digit general_category general_category_rows value_in
and_caret = refl

number_name : are_two (codes "1") (codes "x") ≡ false
unfolding are_two piece_of lexeme_of longest_from next_of keyword_spellings is_letter is_digit general_category general_category_rows value_in
number_name = refl

word_string : are_two (codes "return") (codes "\"s\"") ≡ true
unfolding are_two piece_of lexeme_of longest_from next_of keyword_spellings is_letter is_digit general_category general_category_rows value_in
word_string = refl

less_minus : are_two (codes "<") (codes "-") ≡ false
unfolding are_two piece_of lexeme_of longest_from next_of keyword_spellings is_letter is_digit general_category general_category_rows value_in
less_minus = refl

-- ---- before a dot

number_before_dot : new_text [] true false (an_operand 7 false (var (codes "Ptr")) (num (codes "1"))) ≡ codes "(1)"
number_before_dot = refl

name_before_dot : new_text [] true false (an_operand 7 false (var (codes "Ptr")) (var (codes "Pointer"))) ≡ codes "Pointer"
name_before_dot = refl

selected_row : spliced_text (codes "\tprintln(Ptr.x)\n") (at 9 12) false (new_layout [] true false (an_operand 7 false (var (codes "Ptr")) (var (codes "Pointer")))) ≡ codes "\tprintln(Pointer.x)\n"
selected_row = refl

-- ---- a case, a negative form under a sign, and a call that is deferred, as texts

case_row : spliced_text (codes "\tswitch n {\n\tcase Ptr:\n\t}\n") (at 18 21) false (new_layout [] false false constant) ≡ codes "\tswitch n {\n\tcase Pointer:\n\t}\n"
case_row = refl

negative_row : spliced_text (codes "\tprintln(-Ptr)\n") (at 10 13) false (new_layout [] false true (an_operand 6 false (var (codes "Ptr")) (unary tt Minus (num (codes "1"))))) ≡ codes "\tprintln(-(-1))\n"
negative_row = refl

-- ---- the comments that an edit leaves: `/**/ f(Ptr /**/) /**/`, with the argument and the comment behind it replaced

left_row : left_comments (record { span = at 7 15; text = codes "Pointer" }) (record { span = at 0 4 } ∷ record { span = at 11 15 } ∷ record { span = at 17 21 } ∷ []) ≡ record { span = at 0 4 } ∷ record { span = at 16 20 } ∷ []
left_row = refl

-- ---- an integer before a dot: `+` and `5` side by side are two tokens, but `0x1.ap+5` is one float

plus_number : are_two (codes "+") (codes "5") ≡ true
unfolding are_two piece_of lexeme_of longest_from next_of keyword_spellings is_letter is_digit general_category general_category_rows value_in
plus_number = refl

one_float : piece_of (codes "0x1.ap+5") ≡ Some (token Float, 8)
unfolding piece_of lexeme_of longest_from next_of keyword_spellings is_letter is_digit general_category general_category_rows value_in
one_float = refl

abbrev hex_selected : List Token
hex_selected = record { span = at 0 3; kind = Integer; spelling = codes "0x1" } ∷ record { span = at 3 4; kind = Operator; spelling = codes "." } ∷ record { span = at 4 6; kind = Ident; spelling = codes "ap" } ∷ record { span = at 6 7; kind = Operator; spelling = codes "+" } ∷ []

not_apart : dots_apart hex_selected ≡ false
not_apart = refl

-- ---- a place: the argument of a call that is a statement of a function's body

abbrev body_with : Expr U → File U
body_with e = record {
  package_name = name (codes "main");
  imports = [];
  decls = values (const_decl tt false (spec tt (name (codes "Ptr") ∷ []) None (list (num (codes "1") ∷ [])) no_specs))
      ∷ func (record { span = tt; receiver = None; name = name (codes "main"); sig = record { params = []; results = [] }; body_span = tt; body = block (eval tt (call tt (var (codes "println")) (list (e ∷ [])) Plain) ∷ []) })
      ∷ [];
}

argument : FileIn constant (body_with (var (codes "Ptr"))) (body_with (var (codes "Pointer")))
argument = in_decls (in_later_decls (in_this_decl (in_function (inside_stmt (in_simple (in_eval (inside_operand (in_args (in_first_expr (this_operand refl))))))))))

-- the right operand of `-` has the level 5, and no header is near
right_operand : FileIn negative (body_with (binary tt Sub (var (codes "a")) (call tt (var (codes "Neg")) (list (var (codes "b") ∷ [])) Plain))) (body_with (binary tt Sub (var (codes "a")) (unary tt Minus (var (codes "b")))))
right_operand = in_decls (in_later_decls (in_this_decl (in_function (inside_stmt (in_simple (in_eval (inside_operand (in_args (in_first_expr (inside_operand (in_right (this_operand refl))))))))))))

-- ---- a call that is deferred: `defer Ptr()` with a literal of a function in place of the name

deferred_call : Swap U
deferred_call = a_deferred (call tt (var (codes "Old")) no_exprs Plain) (call tt (func_lit tt (record { params = []; results = [] }) tt (block (eval tt (call tt (var (codes "g")) no_exprs Plain) ∷ []))) no_exprs Plain)

deferred_text : new_text [] false false deferred_call ≡ codes "func() {\n\tg()\n}()"
unfolding deferred_call
deferred_text = refl

deferred_row : spliced_text (codes "\tdefer Old()\n") (at 7 12) false (new_layout (9 ∷ []) false false deferred_call) ≡ codes "\tdefer func() {\n\t\tg()\n\t}()\n"
unfolding deferred_call
deferred_row = refl

deferred_place : StmtsIn deferred_call (block (defer tt (call tt (var (codes "Old")) no_exprs Plain) ∷ [])) (block (defer tt (call tt (func_lit tt (record { params = []; results = [] }) tt (block (eval tt (call tt (var (codes "g")) no_exprs Plain) ∷ []))) no_exprs Plain) ∷ []))
unfolding deferred_call
deferred_place = inside_stmt (this_deferred refl)

-- ---- the types of a signature and of a field: `func F(p *int, x Old) Old`, `struct { p *int; x Old }`

abbrev type_named : List ℕ → TypeExpr U
type_named n = named tt None (name n)

abbrev new_type : Swap U
new_type = a_type (type_named (codes "Old")) (type_named (codes "New"))

abbrev sig_with : TypeExpr U → TypeExpr U → Sig U
sig_with t u = record {
  params = record { span = tt; name = Some (name (codes "p")); rest = false; of = pointer tt (type_named (codes "int")) } ∷ record { span = tt; name = Some (name (codes "x")); rest = false; of = t } ∷ [];
  results = record { span = tt; name = None; rest = false; of = u } ∷ [];
}

param_type : SigIn new_type (sig_with (type_named (codes "Old")) (type_named (codes "Old"))) (sig_with (type_named (codes "New")) (type_named (codes "Old")))
param_type = in_named_params (in_later_named (in_named (λ e. cc) (this_type refl) (no_more_params tt)))

result_type : SigIn new_type (sig_with (type_named (codes "Old")) (type_named (codes "Old"))) (sig_with (type_named (codes "Old")) (type_named (codes "New")))
result_type = in_results (in_unnamed (this_type refl))

abbrev struct_with : TypeExpr U → TypeExpr U
struct_with t = struct_type tt (field tt (name (codes "p")) (pointer tt (type_named (codes "int"))) (field tt (name (codes "x")) t no_fields))

field_type : TypeIn new_type (struct_with (type_named (codes "Old"))) (struct_with (type_named (codes "New")))
field_type = inside_type (in_struct (in_later_fields (in_field (λ e. cc) (this_type refl) (no_more_alike tt))))

-- ---- a selector on an integer literal: in no file that is well typed

selected_number : UndottedExpr (binary tt Add (selector tt (num (codes "0x1")) (name (codes "ap"))) (var (codes "C"))) → ⊥
selected_number u = let x = u.0.0 in cc

selected_name : UndottedExpr (binary tt Add (selector tt (var (codes "x")) (name (codes "ap"))) (num (codes "5")))
selected_name = ((refl, tt), tt)

-- ---- one type that names share is swapped for each of them: `func F(a, b Old, xs ...Old)`, in two steps

abbrev shares : TypeExpr U → TypeExpr U → Sig U
shares t u = record {
  params = record { span = tt; name = Some (name (codes "a")); rest = false; of = pointer tt t } ∷ record { span = tt; name = Some (name (codes "b")); rest = false; of = pointer tt t }
      ∷ record { span = tt; name = Some (name (codes "xs")); rest = true; of = u } ∷ [];
  results = [];
}

abbrev pointers : Swap U
pointers = a_type (pointer tt (type_named (codes "Old"))) (pointer tt (type_named (codes "New")))

shared_type : SigIn pointers (shares (type_named (codes "Old")) (type_named (codes "Old"))) (shares (type_named (codes "New")) (type_named (codes "Old")))
shared_type = in_named_params (in_named tt (this_type refl) (one_more_param (no_more_params (λ e. cc))))

variadic_type : SigIn new_type (shares (type_named (codes "Old")) (type_named (codes "Old"))) (shares (type_named (codes "Old")) (type_named (codes "New")))
variadic_type = in_named_params (in_later_named (in_later_named (in_named_rest (this_type refl))))
