-- The declarations of a file that reads from its text lie in their order.
use Rattle.std.proofs.Common.{ℕ, List, arith}
use Rattle.go_tree.specs.declared.spans.Span.{Span}
use Rattle.go_tree.specs.File.{TypeSpec, Receiver, Decl, File}
use Rattle.go_tree.specs.GoWords.Terminals.{lexemes}
use Rattle.go_read.specs.SpellsTypes.{Lexemes}
use Rattle.go_read.specs.SpellsSpans.{span_to}
use Rattle.go_read.specs.SpellsFiles.{SpellsTypeSpec, SpellsTypeSpecs, SpellsReceiver, SpellsTop, type_spec_rule, alias_spec_rule, no_type_specs_rule, last_type_spec_rule, more_type_specs_rule, receiver_rule, pointer_receiver_rule, named_receiver_rule, named_pointer_receiver_rule, top_const_rule, top_var_rule, top_type_rule, top_type_group_rule, top_func_rule, top_method_rule, SpellsTops, SpellsFront, no_tops_rule, more_tops_rule, front_rule}
use Rattle.splice_laws.proofs.Grafts.{Within, here, drop}
use Rattle.splice_laws.proofs.Pasts.{imports_past}
use Rattle.splice_laws.proofs.ImportSplices.ImportPlaces.TokensStand.{tokens_stand}
use Rattle.splice_laws.proofs.ImportSplices.ImportPlaces.ImportsStand.{all_lie}
use Rattle.run_rules.specs.Texts.{FileText}
use Rattle.run_rules.specs.Inlining.{ReadsAs}
use Rattle.splice_laws.proofs.RunLaws.NodeSpans.{AllType, AllTypeSpecs}
use Rattle.constant_steps.proofs.PlaceMeanings.Behinds.{type_by, sig_by, block_by, decl_by, type_spec_by, type_specs_by, receiver_by, top_by, tops_by}
use Rattle.constant_steps.proofs.PlaceMeanings.TypesLie.{type_lies, sig_lies}
use Rattle.constant_steps.proofs.PlaceMeanings.PartsNest.{block_nest, decl_nest}
use Rattle.constant_steps.proofs.PlaceMeanings.Nested.{Lies, NestDecl, NestDecls}
use Rattle.constant_steps.proofs.PlaceMeanings.Rooms.{Rises, rises_of, Room, room_of, cut, lowered, before, behind, skip, high, begins, raise}

type_spec_lies : {a0 : TypeSpec Span} {ts r : Lexemes} → SpellsTypeSpec span_to a0 ts r → (lo hi : ℕ) → Room lo hi ts r → AllType (Lies lo hi) a0.of
type_spec_lies (type_spec_rule d1) lo hi a = type_lies d1 _ _ (skip a (type_by d1 here))
type_spec_lies (alias_spec_rule d1) lo hi a = type_lies d1 _ _ (skip (skip a (type_by d1 (drop here))) (type_by d1 here))

type_specs_lies : {a0 : List (TypeSpec Span)} {ts r : Lexemes} → SpellsTypeSpecs span_to a0 ts r → (lo hi : ℕ) → Room lo hi ts r → AllTypeSpecs (Lies lo hi) a0
type_specs_lies no_type_specs_rule lo hi a = tt
type_specs_lies (last_type_spec_rule d1) lo hi a = (type_spec_lies d1 _ _ a, tt)
type_specs_lies (more_type_specs_rule d1 d2) lo hi a = (type_spec_lies d1 _ _ (before a (type_spec_by d1 here) (type_specs_by d2 (drop here))), type_specs_lies d2 _ _ (skip (behind a (type_spec_by d1 here) (type_specs_by d2 (drop here))) (type_specs_by d2 here)))

receiver_lies : {a0 : Receiver Span} {ts r : Lexemes} → SpellsReceiver span_to a0 ts r → (lo hi : ℕ) → Room lo hi ts r → Lies lo hi a0.of.span
receiver_lies receiver_rule lo hi a = let n = raise a (begins (λ e. cc) here) in n.lies
receiver_lies pointer_receiver_rule lo hi a = let n = raise (skip a (drop here)) (begins (λ e. cc) here) in n.lies
receiver_lies named_receiver_rule lo hi a = let n = raise (skip a (drop here)) (begins (λ e. cc) here) in n.lies
receiver_lies named_pointer_receiver_rule lo hi a = let n = raise (skip (skip a (drop (drop here))) (drop here)) (begins (λ e. cc) here) in n.lies

top_nest : {a0 : Decl Span} {ts r : Lexemes} → SpellsTop span_to a0 ts r → (lo hi : ℕ) → Room lo hi ts r → NestDecl a0 lo hi
top_nest (top_const_rule d1) lo hi a = decl_nest d1 _ _ (skip a (decl_by d1 here))
top_nest (top_var_rule d1) lo hi a = decl_nest d1 _ _ (skip a (decl_by d1 here))
top_nest (top_type_rule d1) lo hi a = (type_spec_lies d1 _ _ (skip a (type_spec_by d1 here)), tt)
top_nest (top_type_group_rule d1) lo hi a = type_specs_lies d1 _ _ (before (skip (skip a (drop (type_specs_by d1 (drop here)))) (drop (type_specs_by d1 here))) (type_specs_by d1 here) (drop here))
top_nest (top_func_rule d1 d2) lo hi a = let c = cut (skip (skip a (block_by d2 (sig_by d1 (drop here)))) (block_by d2 (sig_by d1 here))) (sig_by d1 here) (block_by d2 here) in record { mid = c.at; from = c.from; to = c.to; first = (tt, sig_lies d1 _ _ c.left); second = block_nest d2 _ _ c.right }
top_nest (top_method_rule d1 d2 d3) lo hi a = let c = cut (skip (skip a (block_by d3 (sig_by d2 (drop (drop (receiver_by d1 (drop here))))))) (block_by d3 (sig_by d2 (drop (drop (receiver_by d1 here)))))) (sig_by d2 (drop (drop (receiver_by d1 here)))) (block_by d3 here) in record { mid = c.at; from = c.from; to = c.to; first = (receiver_lies d1 _ _ (before c.left (receiver_by d1 here) (sig_by d2 (drop (drop here)))), sig_lies d2 _ _ (skip (skip (behind c.left (receiver_by d1 here) (sig_by d2 (drop (drop here)))) (sig_by d2 (drop here))) (sig_by d2 here))); second = block_nest d3 _ _ c.right }

tops_nest : {a0 : List (Decl Span)} {ts r : Lexemes} → SpellsTops span_to a0 ts r → (lo hi : ℕ) → Room lo hi ts r → NestDecls a0 lo hi
tops_nest no_tops_rule lo hi a = high a
tops_nest (more_tops_rule d1 d2) lo hi a = let c0 = cut a (top_by d1 here) (tops_by d2 (drop here)) in record { mid = c0.at; from = c0.from; to = c0.to; first = top_nest d1 _ _ c0.left; second = tops_nest d2 _ _ (skip c0.right (tops_by d2 here)) }

-- The declarations of a file that tokens spell lie in their order.
pub record FileNests (file : File Span) : Type 0 where
  pub end : ℕ
  pub nests : NestDecls file.decls 0 end

front_nest : {f : File Span} {ts r : Lexemes} → SpellsFront span_to f ts r → Rises 0 ts → FileNests f
front_nest (front_rule {ts = ts} {r = r} d1 d2 d3) h =
    let w : Within r ts = tops_by d3 (imports_past span_to ts d2 here) in
    let n = room_of (h.3.3.3) w in
    let m = behind n.room (imports_past span_to ts d2 here) (tops_by d3 here) in
    record { end = n.hi; nests = tops_nest d3 0 n.hi (lowered 0 m (omega arith)) }

pub file_nests : (text : FileText) (file : File Span) → ReadsAs text file → FileNests file
file_nests text file reads = front_nest reads.spells (rises_of text.text text.tokens 0 (lexemes text.tokens) (all_lie text.text text.tokens (tokens_stand text.text text.tokens text.comments reads.scans)))
