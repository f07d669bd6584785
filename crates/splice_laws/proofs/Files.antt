-- Tokens that spell a file, with those of one node replaced, spell the file with that node replaced.
use Rattle.std.proofs.Common.{◌≡◌, List, [], ◌++◌, map, sym, ap, subst, ◌∙◌}
use Rattle.go_tree.specs.declared.spans.Span.{Span}
use Rattle.go_tree.specs.File.{Decl, File}
use Rattle.go_tree.specs.FileBare.{bare_decl, bare_file}
use Rattle.go_read.specs.SpellsTypes.{Lexemes}
use Rattle.go_read.specs.SpellsFiles.{SpellsTops, SpellsFront}
use Rattle.go_read.specs.Bareness.{nowhere}
use Rattle.go_read.specs.SpellsSpans.{span_to}
use Rattle.go_read.proofs.SpansAside as aside
use Rattle.splice_laws.specs.Swaps.{Swap, an_operand, a_callee, a_type, a_literal_type, a_stmt, a_deferred, DeclsIn, FileIn}
use Rattle.splice_laws.specs.Fits.{SpellsOld}
use Rattle.splice_laws.specs.Replaced.{Replaced, starts_rise}
use Rattle.splice_laws.proofs.Grafts.{here, fronts, one_front, like_own}
use Rattle.splice_laws.proofs.Frames.{type_frame, literal_frame, bare_frame, stmt_frame}
use Rattle.splice_laws.proofs.Apart.{Differ}
use Rattle.splice_laws.proofs.PutsAt.{PutIn}
use Rattle.splice_laws.proofs.PutsFiles.{tops_put, file_put}
use Rattle.splice_laws.proofs.Rises.{spans_differ}

module _ {S : Type 0} (mark : Lexemes → Lexemes → S) where
  -- the old node's tokens stand before what follows
  old_front : (w : Swap S) (node rest : Lexemes) → SpellsOld mark w node rest → (own : Lexemes) × (node ≡ own ++ rest)
  old_front (an_operand l h e f) node rest d = let x = fronts (bare_frame (aside.bare_bare mark d.4) rest (like_own rest)).1 in (x.0, x.1)
  old_front (a_callee h e f) node rest d = let x = fronts (bare_frame (aside.bare_bare mark d.4) rest (like_own rest)).1 in (x.0, x.1)
  old_front (a_type t u) node rest d = let x = fronts (type_frame (aside.type_bare mark d) rest).1 in (x.0, x.1)
  old_front (a_literal_type h t u) node rest d = let x = fronts (literal_frame (aside.literal_bare mark d.2) rest (like_own rest)).1 in (x.0, x.1)
  old_front (a_stmt x y) node rest d = let x = fronts (stmt_frame (aside.stmt_bare mark d) rest (like_own rest)).1 in (x.0, x.1)
  old_front (a_deferred e f) node rest d = let x = fronts (bare_frame (aside.bare_bare mark d) rest (like_own rest)).1 in (x.0, x.1)

  -- what spells a list, with a node put into it
  pub put_replaced : (w : Swap S) (A : Lexemes → Lexemes → Type 0) (ts r : Lexemes) → PutIn mark w A ts r → Replaced mark w ts (λ us. A us r)
  put_replaced w A ts r x =
      let e = fronts x.ends.1 in
      let o = old_front w x.node x.rest x.old in
      record {
        front = e.0;
        node = o.0;
        rest = x.rest;
        tokens = e.1 ∙ ap (λ (us : Lexemes). e.0 ++ us) o.1;
        follows = x.follows;
        old = subst (λ (us : Lexemes). SpellsOld mark w us x.rest) o.1 x.old;
        marked = x.marked ∙ ap (λ (us : Lexemes). mark us x.rest) o.1;
        new = λ others fits.
            let z = x.new others fits in
            let i = fronts z.1 in
            let same : i.0 ≡ e.0 = one_front i.0 e.0 x.node (sym i.1 ∙ e.1) in
            subst (λ (us : Lexemes). A us r) (i.2 ∙ ap (λ (us : Lexemes). us ++ others) same) z.2;
      }

  replaced_at : (w : Swap S) (f g : File S) (ts : Lexemes) → SpellsFront mark f ts [] → Differ mark ts → FileIn w f g → Replaced mark w ts (λ us. SpellsFront nowhere (bare_file g) us [])
  replaced_at w f g ts d differ p = put_replaced w (SpellsFront nowhere (bare_file g)) ts [] (file_put mark ts differ w d here p)

pub replaced : (w : Swap Span) (f g : File Span) (ts : Lexemes) → SpellsFront span_to f ts [] → starts_rise ts → FileIn w f g → Replaced span_to w ts (λ us. SpellsFront nowhere (bare_file g) us [])
replaced w f g ts d a p = replaced_at span_to w f g ts d (spans_differ ts a) p

-- the same of declarations
pub tops_replaced : (w : Swap Span) (ds cs : List (Decl Span)) (ts : Lexemes) → SpellsTops span_to ds ts [] → starts_rise ts → DeclsIn w ds cs → Replaced span_to w ts (λ us. SpellsTops nowhere (map bare_decl cs) us [])
tops_replaced w ds cs ts d a p = put_replaced span_to w (SpellsTops nowhere (map bare_decl cs)) ts [] (tops_put span_to ts (spans_differ ts a) w d here p)
