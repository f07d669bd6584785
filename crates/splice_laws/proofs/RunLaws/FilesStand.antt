-- In a text whose tokens spell a file, each part of a declaration stands behind the imports.
use Rattle.std.proofs.Common.{◌≡◌, ◌≤◌, ℕ, List, [], ◌∷◌, length, refl, sym, subst, arith}
use Rattle.go_tree.specs.declared.spans.Span.{Span}
use Rattle.go_tree.specs.declared.tokens.Token.{Token}
use Rattle.go_tree.specs.declared.tokens.Comment.{Comment}
use Rattle.go_tree.specs.File.{ImportDecl, Decl, File}
use Rattle.go_tree.specs.GoWords.Tokens.{TokensOf}
use Rattle.go_tree.specs.GoWords.Terminals.{Lexeme, lex, ident, semicolon, key_const, key_var, key_type, key_func}
use Rattle.go_read.specs.SpellsTypes.{Lexemes}
use Rattle.go_read.specs.SpellsSpans.{start_of, span_to}
use Rattle.go_read.specs.SpellsFiles.{SpellsTop, SpellsTops, SpellsFront, SpellsFile, top_const_rule, top_var_rule, top_type_rule, top_type_group_rule, top_func_rule, top_method_rule, no_tops_rule, more_tops_rule, front_rule}
use Rattle.splice_laws.proofs.Grafts.{Within, here, later, both_within}
use Rattle.splice_laws.proofs.Pasts.{top_past}
use Rattle.run_rules.specs.ImportRules.Laid.{IsStart, DeclsLie, Laid}
use Rattle.run_rules.specs.Laws.{ImportsEndBy, LiesBehindImports}
use Rattle.splice_laws.proofs.RunLaws.NodeSpans.{AllDecl}
use Rattle.splice_laws.proofs.RunLaws.SpelledSpans.{top_all}
use Rattle.splice_laws.proofs.ImportSplices.ImportPlaces.TokensStand.{tokens_stand}
use Rattle.splice_laws.proofs.ImportSplices.ImportPlaces.ImportsStand.{IsWord, Lie, ImportsLie, last_end, all_lie, end_is, lie_lower, lie_past, ends_up, ends_within, imports_lie}
use Rattle.splice_laws.proofs.ImportSplices.ImportPlaces.FilesLaid.{imports_laid}

-- it holds of the parts of each declaration
abbrev pub AllDecls : (Span → Type 0) → List (Decl Span) → Type 0
AllDecls P [] = Unit {0}
AllDecls P (d ∷ ds) = AllDecl P d × AllDecls P ds

later_end : (m n : ℕ) (is : List (ImportDecl Span)) → m ≤ n → ImportsEndBy m is → ImportsEndBy n is
later_end m n [] le h = tt
later_end m n (i ∷ is) le h = (omega (arith, le, h.0), later_end m n is le h.1)

module _ (text : List ℕ) (all : List Token) where
  -- a part of tokens that isn't at their end
  record Part (first : ℕ) (s : Span) : Type 0 where
    behind : first ≤ s.start
    is_span : s.start ≤ s.end
    within : s.end ≤ length text

  part_of : (c : Lexeme) (back : Lexemes) (from : ℕ) (ts vs r : Lexemes) → Lie text all from ts → Within vs ts → Within r vs → Within (c ∷ back) vs → Part (start_of ts) (span_to vs r)
  part_of c back from ts [] r h v w q = absurd (none q)
    where
      none : Within (c ∷ back) [] → ⊥
      none x = elim x [ ]
  part_of c back from ts (lex u y ∷ vs) r h v w q =
      subst (λ (n : ℕ). Part (start_of ts) (record { start = u.start; end = n })) (sym (end_is u.start w))
      (record { behind = first ts from h v; is_span = ends_up text all u.start w own; within = ends_within text all u.start w (omega (arith, own.1, own.2)) own })
    where
      own : Lie text all u.start (lex u y ∷ vs)
      own = let a = lie_past text all from v h in (omega arith, a.1, a.2, a.3, a.4)

      first : (ts : Lexemes) (from : ℕ) → Lie text all from ts → Within (lex u y ∷ vs) ts → start_of ts ≤ u.start
      first _ from h here = omega arith
      first (lex s x ∷ us) from h (later w) =
          let a = lie_past text all s.end w h.4 in
          let b = ends_up text all s.end w h.4 in
          omega (arith, h.1, b, a.0)

  record Starts (from : ℕ) (ts : Lexemes) : Type 0 where
    from_is : from ≤ start_of ts
    starts : IsStart text all (start_of ts)

  top_starts : {d : Decl Span} {ts r : Lexemes} (from : ℕ) → SpellsTop span_to d ts r → Lie text all from ts → Starts from ts
  top_starts from (top_const_rule {s = s} d1) h = let k : IsWord text all s key_const = h.3 (λ e. cc) in record { from_is = h.0; starts = (k.inked.1, k.starts) }
  top_starts from (top_var_rule {s = s} d1) h = let k : IsWord text all s key_var = h.3 (λ e. cc) in record { from_is = h.0; starts = (k.inked.1, k.starts) }
  top_starts from (top_type_rule {s = s} d1) h = let k : IsWord text all s key_type = h.3 (λ e. cc) in record { from_is = h.0; starts = (k.inked.1, k.starts) }
  top_starts from (top_type_group_rule {s = s} d1) h = let k : IsWord text all s key_type = h.3 (λ e. cc) in record { from_is = h.0; starts = (k.inked.1, k.starts) }
  top_starts from (top_func_rule {s = s} d1 d2) h = let k : IsWord text all s key_func = h.3 (λ e. cc) in record { from_is = h.0; starts = (k.inked.1, k.starts) }
  top_starts from (top_method_rule {s = s} d1 d2 d3) h = let k : IsWord text all s key_func = h.3 (λ e. cc) in record { from_is = h.0; starts = (k.inked.1, k.starts) }

  module _ (file : File Span) where
    abbrev Behind : Span → Type 0
    Behind s = LiesBehindImports text all file s

    top_behind : {d : Decl Span} {ts : Lexemes} (c : Lexeme) (back : Lexemes) (from : ℕ) → SpellsTop span_to d ts (c ∷ back) → Lie text all from ts
        → file.package_name.span.end ≤ from → ImportsEndBy from file.imports → AllDecl (Behind) d
    top_behind {ts = ts} c back from d1 h name imports =
        top_all span_to ts (c ∷ back) (Behind) part d1 here here
      where
        s : Starts from ts
        s = top_starts from d1 h

        part : (vs r : Lexemes) → Within vs ts → Within r vs → Within (c ∷ back) r → Behind (span_to vs r)
        part vs r v w q =
            let x : Part (start_of ts) (span_to vs r) = part_of c back from ts vs r h v w (both_within q w) in
            record {
              token = start_of ts;
              starts = s.starts;
              name_before = omega (arith, name, s.from_is);
              imports_before = later_end from (start_of ts) file.imports s.from_is imports;
              behind = x.behind;
              is_span = x.is_span;
              within = x.within;
            }

    tops_behind : {ds : List (Decl Span)} {ts r : Lexemes} (from : ℕ) → SpellsTops span_to ds ts r → Lie text all from ts
        → file.package_name.span.end ≤ from → ImportsEndBy from file.imports → AllDecls (Behind) ds
    tops_behind from no_tops_rule h name imports = tt
    tops_behind {ts = ts} from (more_tops_rule {c = c} {ts = us} {mid = mid} d1 d2) h name imports =
        let w : Within (lex c semicolon ∷ mid) us = past d1 in
        let a = lie_past text all from w h in
        let up = ends_up text all from w h in (
          top_behind (lex c semicolon) mid from d1 h name imports,
          tops_behind c.end d2 a.4 (omega (arith, name, up, a.0, a.1)) (later_end from c.end file.imports (omega (arith, up, a.0, a.1)) imports),
        )
      where
        past : {d : Decl Span} {ts r : Lexemes} → SpellsTop span_to d ts r → Within r ts
        past {ts = ts} d = top_past span_to ts d here

  imports_up : (from : ℕ) (is : List (ImportDecl Span)) → DeclsLie text all from is → from ≤ last_end from is
  imports_up from [] h = omega arith
  imports_up from (d ∷ ds) h = let k = imports_up d.span.end ds h.2 in omega (arith, h.0, h.1.0.0, k)

  imports_end : (from at : ℕ) (is : List (ImportDecl Span)) → DeclsLie text all from is → last_end from is ≤ at → ImportsEndBy at is
  imports_end from at [] h le = tt
  imports_end from at (d ∷ ds) h le = let k = imports_up d.span.end ds h.2 in (omega (arith, k, le), imports_end d.span.end at ds h.2 le)

  front_behind : {f : File Span} {ts r : Lexemes} (from : ℕ) → SpellsFront span_to f ts r → Lie text all from ts → AllDecls (LiesBehindImports text all f) f.decls
  front_behind from (front_rule {s = s} {c = c} {d = d} {n = n} {is = is} {ds = ds} {ts = ts} {mid = mid} {r = r} d1 d2 d3) h =
      let one : Within (lex d semicolon ∷ ts) (lex c (ident n) ∷ lex d semicolon ∷ ts) = later here in
      let e : (span_to (lex c (ident n) ∷ lex d semicolon ∷ ts) (lex d semicolon ∷ ts)).end ≡ c.end = end_is c.start one in
      let own : Lie text all c.end ts = lie_lower text all c.end d.end ts (omega (arith, h.4.4.0, h.4.4.1)) h.4.4.4 in
      let i : ImportsLie text all c.end is mid = imports_lie text all c.end d2 own in
      tops_behind (record { package_name = record { span = span_to (lex c (ident n) ∷ lex d semicolon ∷ ts) (lex d semicolon ∷ ts); name = n }; imports = is; decls = ds }) (last_end c.end is) d3 i.rest
      (subst (λ (m : ℕ). m ≤ last_end c.end is) (sym e) (imports_up c.end is i.lie)) (imports_end c.end (last_end c.end is) is i.lie (omega arith))

-- ---- a file that is read

module _ (text : List ℕ) (tokens : List Token) (comments : List Comment) (file : File Span) (scans : TokensOf text tokens comments) (spells : SpellsFile tokens file) where
  pub file_laid : Laid text tokens file
  file_laid = imports_laid text tokens comments file scans (record { whole = file; spelled = spells; name_is = refl; imports_are = refl })

  pub decls_behind : AllDecls (LiesBehindImports text tokens file) file.decls
  decls_behind = front_behind text tokens 0 spells (all_lie text tokens (tokens_stand text tokens comments scans))
