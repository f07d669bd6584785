-- The tokens behind a part, each where it has its span, stand at the end of those that it begins.
use Rattle.std.proofs.Common.{ℕ, Bool, List, Option}
use Rattle.go_tree.specs.declared.spans.Span.{Span}
use Rattle.go_tree.specs.Tree.{NameAt, TypeExpr, Fields, Param, Sig, Expr, Exprs, ExprOption, Elems, Value, ValueOption, Stmt, Stmts, StmtOption, BlockOption, RangeLeft, Arms, Cases, ValueSpecs}
use Rattle.go_tree.specs.File.{TypeSpec, Receiver, Decl}
use Rattle.go_tree.specs.declared.exprs.Rest.{Rest}
use Rattle.go_read.specs.SpellsTypes.{Lexemes, SpellsType, SpellsFields, SpellsEntries, SpellsRest, SpellsNamed, SpellsUnnamed, SpellsParams, SpellsResults, SpellsSig, SpellsNames}
use Rattle.go_read.specs.SpellsSpans.{span_to}
use Rattle.go_read.specs.Spells.{SpellsLiteralType, SpellsBare, SpellsExpr, SpellsOperand, SpellsOption, SpellsExprs, SpellsArgs, SpellsElems, SpellsElem, SpellsValue, SpellsSimple, SpellsPart, SpellsFirst, SpellsStmt, SpellsBlock, SpellsStmts, SpellsIf, SpellsArm, SpellsLeft, SpellsCases, SpellsDecl, SpellsSpecs, SpellsSpec}
use Rattle.go_read.specs.SpellsFiles.{SpellsTypeSpec, SpellsTypeSpecs, SpellsReceiver, SpellsTop, SpellsTops}
use Rattle.splice_laws.proofs.Grafts.{Within}
use Rattle.splice_laws.proofs.Pasts.{type_past, fields_past, entries_past, rest_past, named_past, unnamed_past, params_past, results_past, sig_past, names_past, literal_past, bare_past, expr_past, operand_past, option_past, exprs_past, args_past, elems_past, elem_past, value_past, simple_past, part_past, first_past, stmt_past, block_past, stmts_past, if_past, arm_past, left_past, cases_past, decl_past, specs_past, spec_past, type_spec_past, type_specs_past, receiver_past, top_past, tops_past}

pub type_by : {a0 : TypeExpr Span} {ts r whole : Lexemes} → SpellsType span_to a0 ts r → Within ts whole → Within r whole
type_by {whole = whole} d a = type_past span_to whole d a

pub fields_by : {a0 : Fields Span} {ts r whole : Lexemes} → SpellsFields span_to a0 ts r → Within ts whole → Within r whole
fields_by {whole = whole} d a = fields_past span_to whole d a

pub entries_by : {a0 : TypeExpr Span} {a1 : List (Span × NameAt Span)} {ts r whole : Lexemes} → SpellsEntries span_to a0 a1 ts r → Within ts whole → Within r whole
entries_by {whole = whole} d a = entries_past span_to whole d a

pub rest_by : {a0 : Bool} {a1 : Param Span} {ts r whole : Lexemes} → SpellsRest span_to a0 a1 ts r → Within ts whole → Within r whole
rest_by {whole = whole} d a = rest_past span_to whole d a

pub named_by : {a0 : Bool} {a1 : List (Param Span)} {ts r whole : Lexemes} → SpellsNamed span_to a0 a1 ts r → Within ts whole → Within r whole
named_by {whole = whole} d a = named_past span_to whole d a

pub unnamed_by : {a0 : Bool} {a1 : List (Param Span)} {ts r whole : Lexemes} → SpellsUnnamed span_to a0 a1 ts r → Within ts whole → Within r whole
unnamed_by {whole = whole} d a = unnamed_past span_to whole d a

pub params_by : {a0 : Bool} {a1 : List (Param Span)} {ts r whole : Lexemes} → SpellsParams span_to a0 a1 ts r → Within ts whole → Within r whole
params_by {whole = whole} d a = params_past span_to whole d a

pub results_by : {a0 : List (Param Span)} {ts r whole : Lexemes} → SpellsResults span_to a0 ts r → Within ts whole → Within r whole
results_by {whole = whole} d a = results_past span_to whole d a

pub sig_by : {a0 : Bool} {a1 : Sig Span} {ts r whole : Lexemes} → SpellsSig span_to a0 a1 ts r → Within ts whole → Within r whole
sig_by {whole = whole} d a = sig_past span_to whole d a

pub names_by : {a0 : List (NameAt Span)} {ts r whole : Lexemes} → SpellsNames span_to a0 ts r → Within ts whole → Within r whole
names_by {whole = whole} d a = names_past span_to whole d a

pub literal_by : {a0 : Bool} {a1 : TypeExpr Span} {ts r whole : Lexemes} → SpellsLiteralType span_to a0 a1 ts r → Within ts whole → Within r whole
literal_by {whole = whole} d a = literal_past span_to whole d a

pub bare_by : {a0 : ℕ} {a1 : Bool} {a2 : Expr Span} {ts r whole : Lexemes} → SpellsBare span_to a0 a1 a2 ts r → Within ts whole → Within r whole
bare_by {whole = whole} d a = bare_past span_to whole d a

pub expr_by : {a0 : ℕ} {a1 : Bool} {a2 : Expr Span} {ts r whole : Lexemes} → SpellsExpr span_to a0 a1 a2 ts r → Within ts whole → Within r whole
expr_by {whole = whole} d a = expr_past span_to whole d a

pub operand_by : {a0 : ℕ} {a1 : Bool} {a2 : Expr Span} {ts r whole : Lexemes} → SpellsOperand span_to a0 a1 a2 ts r → Within ts whole → Within r whole
operand_by {whole = whole} d a = operand_past span_to whole d a

pub option_by : {a0 : Bool} {a1 : ExprOption Span} {ts r whole : Lexemes} → SpellsOption span_to a0 a1 ts r → Within ts whole → Within r whole
option_by {whole = whole} d a = option_past span_to whole d a

pub exprs_by : {a0 : Bool} {a1 : Exprs Span} {ts r whole : Lexemes} → SpellsExprs span_to a0 a1 ts r → Within ts whole → Within r whole
exprs_by {whole = whole} d a = exprs_past span_to whole d a

pub args_by : {a0 : Exprs Span} {a1 : Rest} {ts r whole : Lexemes} → SpellsArgs span_to a0 a1 ts r → Within ts whole → Within r whole
args_by {whole = whole} d a = args_past span_to whole d a

pub elems_by : {a0 : Elems Span} {ts r whole : Lexemes} → SpellsElems span_to a0 ts r → Within ts whole → Within r whole
elems_by {whole = whole} d a = elems_past span_to whole d a

pub elem_by : {a0 : ValueOption Span} {a1 : Value Span} {ts r whole : Lexemes} → SpellsElem span_to a0 a1 ts r → Within ts whole → Within r whole
elem_by {whole = whole} d a = elem_past span_to whole d a

pub value_by : {a0 : Value Span} {ts r whole : Lexemes} → SpellsValue span_to a0 ts r → Within ts whole → Within r whole
value_by {whole = whole} d a = value_past span_to whole d a

pub simple_by : {a0 : Bool} {a1 : Stmt Span} {ts r whole : Lexemes} → SpellsSimple span_to a0 a1 ts r → Within ts whole → Within r whole
simple_by {whole = whole} d a = simple_past span_to whole d a

pub part_by : {a0 : StmtOption Span} {ts r whole : Lexemes} → SpellsPart span_to a0 ts r → Within ts whole → Within r whole
part_by {whole = whole} d a = part_past span_to whole d a

pub first_by : {a0 : StmtOption Span} {ts r whole : Lexemes} → SpellsFirst span_to a0 ts r → Within ts whole → Within r whole
first_by {whole = whole} d a = first_past span_to whole d a

pub stmt_by : {a0 : Stmt Span} {ts r whole : Lexemes} → SpellsStmt span_to a0 ts r → Within ts whole → Within r whole
stmt_by {whole = whole} d a = stmt_past span_to whole d a

pub block_by : {a0 : Span} {a1 : Stmts Span} {ts r whole : Lexemes} → SpellsBlock span_to a0 a1 ts r → Within ts whole → Within r whole
block_by {whole = whole} d a = block_past span_to whole d a

pub stmts_by : {a0 : Stmts Span} {ts r whole : Lexemes} → SpellsStmts span_to a0 ts r → Within ts whole → Within r whole
stmts_by {whole = whole} d a = stmts_past span_to whole d a

pub if_by : {a0 : Arms Span} {a1 : BlockOption Span} {ts r whole : Lexemes} → SpellsIf span_to a0 a1 ts r → Within ts whole → Within r whole
if_by {whole = whole} d a = if_past span_to whole d a

pub arm_by : {a0 : StmtOption Span} {a1 : Expr Span} {a2 : Span} {a3 : Stmts Span} {ts r whole : Lexemes} → SpellsArm span_to a0 a1 a2 a3 ts r → Within ts whole → Within r whole
arm_by {whole = whole} d a = arm_past span_to whole d a

pub left_by : {a0 : RangeLeft Span} {ts r whole : Lexemes} → SpellsLeft span_to a0 ts r → Within ts whole → Within r whole
left_by {whole = whole} d a = left_past span_to whole d a

pub cases_by : {a0 : Cases Span} {ts r whole : Lexemes} → SpellsCases span_to a0 ts r → Within ts whole → Within r whole
cases_by {whole = whole} d a = cases_past span_to whole d a

pub decl_by : {a0 : Bool} {a1 : Bool} {a2 : ValueSpecs Span} {ts r whole : Lexemes} → SpellsDecl span_to a0 a1 a2 ts r → Within ts whole → Within r whole
decl_by {whole = whole} d a = decl_past span_to whole d a

pub specs_by : {a0 : Bool} {a1 : ValueSpecs Span} {ts r whole : Lexemes} → SpellsSpecs span_to a0 a1 ts r → Within ts whole → Within r whole
specs_by {whole = whole} d a = specs_past span_to whole d a

pub spec_by : {a0 : Bool} {a1 : List (NameAt Span)} {a2 : Option (TypeExpr Span)} {a3 : Exprs Span} {ts r whole : Lexemes} → SpellsSpec span_to a0 a1 a2 a3 ts r → Within ts whole → Within r whole
spec_by {whole = whole} d a = spec_past span_to whole d a

pub type_spec_by : {a0 : TypeSpec Span} {ts r whole : Lexemes} → SpellsTypeSpec span_to a0 ts r → Within ts whole → Within r whole
type_spec_by {whole = whole} d a = type_spec_past span_to whole d a

pub type_specs_by : {a0 : List (TypeSpec Span)} {ts r whole : Lexemes} → SpellsTypeSpecs span_to a0 ts r → Within ts whole → Within r whole
type_specs_by {whole = whole} d a = type_specs_past span_to whole d a

pub receiver_by : {a0 : Receiver Span} {ts r whole : Lexemes} → SpellsReceiver span_to a0 ts r → Within ts whole → Within r whole
receiver_by {whole = whole} d a = receiver_past span_to whole d a

pub top_by : {a0 : Decl Span} {ts r whole : Lexemes} → SpellsTop span_to a0 ts r → Within ts whole → Within r whole
top_by {whole = whole} d a = top_past span_to whole d a

pub tops_by : {a0 : List (Decl Span)} {ts r whole : Lexemes} → SpellsTops span_to a0 ts r → Within ts whole → Within r whole
tops_by {whole = whole} d a = tops_past span_to whole d a
