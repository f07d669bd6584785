-- A text with its imports settled, also where a group takes the added ones.
use Rattle.std.proofs.Common.{◌≡◌, inr, ℕ, ◌+◌, ◌-◌, ◌<◌, Bool, true, false, cond, nat_le, List, [], ◌∷◌, ◌++◌, map, take, reverse, codes, refl, sym, ap, subst, ◌∙◌, arith}
use Rattle.std.specs.Prelude.{if◌then◌else◌}
use Rattle.std.proofs.lemmas.Bool.Decides.{nat_tests}
use Rattle.std.proofs.lemmas.List.{append_assoc, append-nil}
use Rattle.go_tree.specs.declared.spans.Span.{Span}
use Rattle.go_tree.specs.declared.tokens.Token.{Token}
use Rattle.go_tree.specs.declared.tokens.Comment.{Comment}
use Rattle.go_tree.specs.File.{ImportSpec, ImportDecl, Decl, File}
use Rattle.go_tree.specs.FileBare.{bare_import_spec, bare_file}
use Rattle.go_tree.specs.GoWords.Terminals.{Terminal, lex, str_lit, semicolon, paren, end_paren, key_import, lexemes}
use Rattle.go_tree.specs.GoWords.Tokens.{TokensOf, pieces_size}
use Rattle.go_tree.specs.GoWords.Tokens.Pieces.{Piece}
use Rattle.go_read.specs.SpellsTypes.{Lexemes}
use Rattle.go_read.specs.SpellsSpans.{span_to, start_of}
use Rattle.go_read.specs.SpellsFiles.{SpellsImportSpecs, SpellsImport, SpellsImports, SpellsTops, SpellsFile, no_import_specs_rule, last_import_spec_rule, more_import_specs_rule, import_rule, import_group_rule, no_imports_rule, more_imports_rule}
use Rattle.go_read.specs.Bareness.{nowhere}
use Rattle.text_edits.specs.declared.edit.Edit.{Edit}
use Rattle.text_edits.specs.Applied.{applied}
use Rattle.run_rules.specs.declared.import_rules.new_import.NewImport.{NewImport}
use Rattle.run_rules.specs.ImportRules.SpecText.{in_order}
use Rattle.run_rules.specs.ImportRules.Removed.{span_at, through_semicolon, stands_alone, line_start, line_end, bytes_to_newline, begins_line, widened, goes, goes_whole, spec_range, decl_range, specs_ranges, decl_ranges, ranges}
use Rattle.run_rules.specs.ImportRules.Added.{each_within, closing, adds_to_group, last_closing, front_of, addition_among}
use Rattle.run_rules.specs.ImportRules.Settled.{removal, insertion, put_edit, settled}
use Rattle.splice_laws.specs.Joints.{words_of}
use Rattle.splice_laws.specs.Replaced.{starts_rise}
use Rattle.splice_laws.specs.Dots.{UndottedFile}
use Rattle.splice_laws.specs.Splice.{ReadsAs}
use Rattle.splice_laws.proofs.Rises.{tokens_rise}
use Rattle.splice_laws.proofs.TokenDots.{tokens_apart}
use Rattle.splice_laws.proofs.TokenLists.{end_last}
use Rattle.splice_laws.proofs.Wholes.{span_of_node}
use Rattle.splice_laws.specs.ImportSplices.AddedFile.{AreWritable, added_spec, added_decls}
use Rattle.splice_laws.specs.ImportSplices.SettledFile.{left_specs, left_decl, left_decls, grown_decls, settled_decls, with_settled}
use Rattle.splice_laws.specs.ImportSplices.SettledReads.{SettledGo, SettledGoAgain, SettledStayUndotted}
use Rattle.splice_laws.proofs.ImportSplices.Nodes.{State}
use Rattle.splice_laws.proofs.ImportSplices.Steps.{opening}
use Rattle.splice_laws.proofs.ImportSplices.Outs.{Out, out_map, kept, put_in}
use Rattle.splice_laws.proofs.ImportSplices.Groups.{paren_wide, closing_not_open}
use Rattle.splice_laws.proofs.ImportSplices.SpecLines.{spec_lines}
use Rattle.splice_laws.proofs.ImportSplices.Walks.{SpecIs, spec_is, specs_front, ImportsThen, import_front, imports_front, span_same, Follows, again, goes_on, stays, stays_led, map_both, one_walk}
use Rattle.splice_laws.proofs.ImportSplices.Files.{start, Tail, tail_stays, file_from, left_go}
use Rattle.splice_laws.proofs.ImportSplices.News.{is_some}
use Rattle.splice_laws.proofs.ImportSplices.Adds.{some_go, order_writable, put_some}

-- a group from `import` through its `)`
group_span : (s o e c : Span) (mid : Lexemes) (xs : List (ImportSpec Span)) (ts : Lexemes) (sp : Span) → sp ≡ span_to (lex s key_import ∷ lex o paren ∷ ts) (lex c semicolon ∷ mid) → SpellsImportSpecs span_to xs ts (lex e end_paren ∷ lex c semicolon ∷ mid)
    → sp ≡ record { start = s.start; end = e.end }
group_span s o e c mid xs ts sp q specs =
    let f = specs_front specs in
    q ∙ ap (λ (us : Lexemes). span_to us (lex c semicolon ∷ mid)) (ap (λ (us : Lexemes). lex s key_import ∷ lex o paren ∷ us) f.1 ∙ sym (append_assoc (lex s key_import ∷ lex o paren ∷ f.0) (lex e end_paren ∷ []) (lex c semicolon ∷ mid)))
    ∙ span_of_node (lex s key_import ∷ lex o paren ∷ f.0) (lex c semicolon ∷ mid) e end_paren ∙ ap (λ (n : ℕ). record { start = s.start; end = n }) (end_last s.start (lex s key_import ∷ lex o paren ∷ f.0) e end_paren)

-- ---- the specs of the group, and the added ones

module _ (text : List ℕ) (tokens : List Token) (comments : List Comment) (unused : List Span) (added : List NewImport) (w : AreWritable added) where
  unfoldable tab_text : List ℕ
  tab_text = each_within (codes "\t") (codes "\n") added

  -- the added specs are put in at an offset
  abbrev put_at : ℕ → Edit
  put_at n = insertion (record { at = n; text = tab_text })

  module _ (P : Lexemes → Type 0) (c : Span) (mid : Lexemes) (es : List Edit) (js : List (ImportDecl (Unit {0}))) (later : Follows text tokens comments unused mid es (ImportsThen P js)) where
    -- what stands from `)` on
    abbrev Closing : Lexemes → Type 0
    Closing vs = (e2 : Span) × (ws : Lexemes) × (vs ≡ lex e2 end_paren ∷ lex c semicolon ∷ ws) × ImportsThen P js ws

    -- what spells specs before that
    abbrev Specs : List (ImportSpec (Unit {0})) → Lexemes → Type 0
    Specs xs us = (vs : Lexemes) × SpellsImportSpecs nowhere xs us vs × Closing vs

    nope : lex c semicolon ∷ [] ≡ [] → ⊥
    nope e = cc

    specs_added : (e : Span) (n : ℕ) → e.start ≡ n → (at : ℕ) (b : Bool) (ps : List Piece) (st : State text tokens at b ps (lex e end_paren ∷ lex c semicolon ∷ mid)) → Out text at b ps (put_at n ∷ es) (λ us. Specs (map added_spec added) us)
    unfolding tab_text
    specs_added e n q at b ps st =
        let old : Lexemes → Type 0 = λ us. Closing us in
        let new : Lexemes → Type 0 = λ us. Specs (map added_spec added) us in
        let led = stays_led text tokens comments unused [] e end_paren refl (lex c semicolon ∷ []) mid (inr (c, refl)) (λ z. absurd (nope z)) es old c refl (ImportsThen P js) later (λ us o. (e, us, refl, o)) at b ps st in
        let l = spec_lines added w in
        let o = put_in text tokens at b ps l.ns l.inner l.closed l.scalars l.vs l.own es new old led.out led.newline
        (λ us o. (us, subst (λ (xs : List (ImportSpec (Unit {0}))). SpellsImportSpecs nowhere xs (l.vs ++ us) us) (append-nil (map added_spec added)) (l.spells [] us us no_import_specs_rule), o)) in
        subst (λ (fs : List Edit). Out text at b ps fs new) (ap (λ (v : List ℕ). insertion (record { at = at + pieces_size led.out.front; text = v }) ∷ es) l.bytes ∙ ap (λ (k : ℕ). put_at k ∷ es) (led.up_to ∙ q)) o

    module _ (d : ImportDecl Span) (grouped : d.grouped ≡ true) (e : Span) (n : ℕ) (q : e.start ≡ n) (taken : begins_line text e.start ≡ true) where
      specs_grown : {xs : List (ImportSpec Span)} {ts : Lexemes} → SpellsImportSpecs span_to xs ts (lex e end_paren ∷ lex c semicolon ∷ mid)
          → Follows text tokens comments unused ts (map removal (specs_ranges text tokens comments unused d xs) ++ (put_at n ∷ es)) (λ us. Specs (left_specs text tokens comments unused xs ++ map added_spec added) us)
      specs_grown no_import_specs_rule at b ps st stop = specs_added e n q at b ps st
      specs_grown (last_import_spec_rule {x = x} {ts = ts} k) at b ps st stop = absurd (clash (sym taken ∙ closing_not_open text tokens at b ps i.n0 i.s i.p e (lex c semicolon ∷ mid) (again text tokens comments unused at b ps ts _ i.is st)))
        where
          i : SpecIs x ts (lex e end_paren ∷ lex c semicolon ∷ mid)
          i = spec_is k

          clash : true ≡ false → ⊥
          clash e = cc
      specs_grown (more_import_specs_rule {c = c2} {x = x} {xs = xs} {ts = ts} {mid = mid2} k l) at b ps st stop = by_goes (goes text tokens comments unused x) (λ at2 b2 ps2 st2 stop2. specs_grown l at2 b2 ps2 st2 stop2)
        where
          i : SpecIs x ts (lex c2 semicolon ∷ mid2)
          i = spec_is k

          some : lex c2 semicolon ∷ [] ≡ [] → ⊥
          some e = cc

          by_goes : (t : Bool) → Follows text tokens comments unused mid2 (map removal (specs_ranges text tokens comments unused d xs) ++ (put_at n ∷ es)) (λ us. Specs (left_specs text tokens comments unused xs ++ map added_spec added) us)
              → Out text at b ps (map removal (cond t (spec_range text tokens comments unused d x ∷ specs_ranges text tokens comments unused d xs) (specs_ranges text tokens comments unused d xs)) ++ (put_at n ∷ es))
              (λ us. Specs (cond t (left_specs text tokens comments unused xs) (bare_import_spec x ∷ left_specs text tokens comments unused xs) ++ map added_spec added) us)
          by_goes true more =
              goes_on text tokens comments unused i.n0 i.s (str_lit i.p) refl (lex c2 semicolon ∷ []) mid2 (inr (c2, refl)) (λ z. absurd (some z)) (map removal (specs_ranges text tokens comments unused d xs) ++ (put_at n ∷ es)) (λ us. Specs (left_specs text tokens comments unused xs ++ map added_spec added) us)
              (spec_range text tokens comments unused d x) (ranged i) (λ at b ps st stop. more at b ps st (stop some)) at b ps (again text tokens comments unused at b ps ts _ i.is st) stop
            where
              ranged : (i : SpecIs x ts (lex c2 semicolon ∷ mid2)) → spec_range text tokens comments unused d x ≡ widened text (span_at (start_of (i.n0 ++ lex i.s (str_lit i.p) ∷ (lex c2 semicolon ∷ mid2))) (through_semicolon tokens i.s.end))
              ranged i =
                  let sp = span_same x.span (start_of ts) i.s.end i.span_is in
                  ap (λ (c : Bool). widened text (span_at (cond c x.span.start d.span.start) (through_semicolon tokens x.span.end))) grouped
                  ∙ ap (λ (n : ℕ). widened text (span_at n (through_semicolon tokens x.span.end))) (sp.0 ∙ ap start_of i.is) ∙ ap (λ (n : ℕ). widened text (span_at (start_of (i.n0 ++ lex i.s (str_lit i.p) ∷ (lex c2 semicolon ∷ mid2))) (through_semicolon tokens n))) sp.1
          by_goes false more =
              stays text tokens comments unused i.n0 i.s (str_lit i.p) refl (lex c2 semicolon ∷ []) mid2 (inr (c2, refl)) (λ z. absurd (some z)) (map removal (specs_ranges text tokens comments unused d xs) ++ (put_at n ∷ es))
              (λ us. Specs (bare_import_spec x ∷ (left_specs text tokens comments unused xs ++ map added_spec added)) us) c2 refl (λ us. Specs (left_specs text tokens comments unused xs ++ map added_spec added) us) more
              (λ us o. (o.0, subst (λ (ws : Lexemes). SpellsImportSpecs nowhere (bare_import_spec x ∷ (left_specs text tokens comments unused xs ++ map added_spec added)) ws o.0) (sym (append_assoc (i.n0 ++ lex i.s (str_lit i.p) ∷ []) (lex c2 semicolon ∷ []) us)) (more_import_specs_rule {c = c2} (i.again (lex c2 semicolon ∷ us)) o.1), o.2))
              at b ps (again text tokens comments unused at b ps ts _ i.is st)

    -- ---- the group

    group_grown : (s o e : Span) (xs : List (ImportSpec Span)) (ts : Lexemes) (sp : Span) → sp ≡ span_to (lex s key_import ∷ lex o paren ∷ ts) (lex c semicolon ∷ mid) → SpellsImportSpecs span_to xs ts (lex e end_paren ∷ lex c semicolon ∷ mid)
        → begins_line text (closing (record { span = sp; grouped = true; specs = xs })) ≡ true
        → Follows text tokens comments unused (lex s key_import ∷ lex o paren ∷ ts) (map removal (specs_ranges text tokens comments unused (record { span = sp; grouped = true; specs = xs }) xs) ++ (put_at (closing (record { span = sp; grouped = true; specs = xs })) ∷ es))
        (ImportsThen P (record { span = tt; grouped = true; specs = left_specs text tokens comments unused xs ++ map added_spec added } ∷ js))
    group_grown s o e xs ts sp q specs taken at b ps st stop =
        let f = specs_front specs in
        let whole : lex s key_import ∷ lex o paren ∷ ts ≡ (lex s key_import ∷ lex o paren ∷ f.0) ++ lex e end_paren ∷ (lex c semicolon ∷ mid) = ap (λ (us : Lexemes). lex s key_import ∷ lex o paren ∷ us) f.1 in
        let close : e.start ≡ closing (record { span = sp; grouped = true; specs = xs }) =
        less e.start e.end sp.end (paren_wide text tokens at b ps (lex s key_import ∷ lex o paren ∷ f.0) e (lex c semicolon ∷ mid) (again text tokens comments unused at b ps (lex s key_import ∷ lex o paren ∷ ts) _ whole st)) (ap (λ (z : Span). z.end) (group_span s o e c mid xs ts sp q specs)) in
        let w = opening text tokens at b ps s o ts st in
        let inside =
        specs_grown (record { span = sp; grouped = true; specs = xs }) refl e (closing (record { span = sp; grouped = true; specs = xs })) close (ap (begins_line text) close ∙ taken) specs (at + (pieces_size w.gap + pieces_size w.body)) w.b2 w.left w.next (w.stops tt) in
        (kept text tokens at b ps (lex s key_import ∷ lex o paren ∷ ts) st (lex s key_import ∷ lex o paren ∷ []) s.start [] ts (Unit {0}) (λ next. Unit {0}) w tt
        (map removal (specs_ranges text tokens comments unused (record { span = sp; grouped = true; specs = xs }) xs) ++ (put_at (closing (record { span = sp; grouped = true; specs = xs })) ∷ es))
        (ImportsThen P (record { span = tt; grouped = true; specs = left_specs text tokens comments unused xs ++ map added_spec added } ∷ js))
        (λ us. Specs (left_specs text tokens comments unused xs ++ map added_spec added) us) inside (w.closed (words_of (inside.front ++ inside.new)) tt)
        (λ us o. (o.2.3.0, more_imports_rule {c = c} (import_group_rule (subst (λ (vs : Lexemes). SpellsImportSpecs nowhere (left_specs text tokens comments unused xs ++ map added_spec added) us vs) o.2.2 o.1)) o.2.3.1, o.2.3.2))).0
      where
        less : (a b k : ℕ) → b ≡ a + 1 → k ≡ b → a ≡ k - 1
        less a b k e f = omega (arith, e, f)

    one_grown : {d : ImportDecl Span} {ts : Lexemes} → SpellsImport span_to d ts (lex c semicolon ∷ mid) → adds_to_group text (d ∷ []) ≡ true
        → Follows text tokens comments unused ts (map removal (decl_ranges text tokens comments unused true d) ++ (put_at (closing d) ∷ es)) (ImportsThen P (record { span = tt; grouped = true; specs = left_specs text tokens comments unused d.specs ++ map added_spec added } ∷ js))
    one_grown (import_rule a) taken at b ps st stop = absurd (clash taken)
      where
        clash : false ≡ true → ⊥
        clash e = cc
    one_grown (import_group_rule {s = s} {b = o} {e = e} {xs = xs} {ts = ts} a) taken at b ps st stop = group_grown s o e xs ts (span_to (lex s key_import ∷ lex o paren ∷ ts) (lex c semicolon ∷ mid)) refl a taken at b ps st stop

  -- ---- the declarations

  grown_walk : (P : Lexemes → Type 0) (c : Span) {d : ImportDecl Span} {ds : List (ImportDecl Span)} {ts mid r : Lexemes} → SpellsImport span_to d ts (lex c semicolon ∷ mid) → SpellsImports span_to ds mid r → adds_to_group text (d ∷ ds) ≡ true
      → (es : List Edit) → Follows text tokens comments unused r es P
      → Follows text tokens comments unused ts (map removal (ranges text tokens comments unused true (d ∷ ds)) ++ (put_at (last_closing (d ∷ ds)) ∷ es)) (ImportsThen P (grown_decls text tokens comments unused added (d ∷ ds)))
  grown_walk P c {mid = mid} a no_imports_rule taken es last at b ps st stop =
      one_grown P c mid es [] (λ at b ps st stop. out_map text at b ps es _ _ (λ us o. (us, no_imports_rule, o)) (last at b ps st stop)) a taken at b ps st stop
  grown_walk P c {d = d} {mid = mid} a (more_imports_rule {c = c2} {d = d2} {ds = ds} {mid = mid2} a2 k) taken es last at b ps st stop =
      let fs : List Edit = put_at (last_closing (d2 ∷ ds)) ∷ es in
      let own : List Span = decl_ranges text tokens comments unused false d in
      let others : List Span = ranges text tokens comments unused true (d2 ∷ ds) in
      subst (λ (gs : List Edit). Out text at b ps gs (ImportsThen P (left_decl text tokens comments unused d ++ grown_decls text tokens comments unused added (d2 ∷ ds))))
      (sym (append_assoc (map removal own) (map removal others) fs) ∙ ap (λ (gs : List Edit). gs ++ fs) (sym (map_both own others)))
      (one_walk text tokens comments unused P c mid (map removal others ++ fs) (grown_decls text tokens comments unused added (d2 ∷ ds)) (grown_walk P c2 a2 k taken es last) a at b ps st stop).out

-- ---- the edits by place

-- each edit starts before an offset
abbrev Below : ℕ → List Edit → Type 0
Below n [] = Unit {0}
Below n (e ∷ es) = (e.span.start < n) × Below n es

put_last : (e : Edit) (fs : List Edit) → Below e.span.start fs → put_edit e fs ≡ fs ++ e ∷ []
put_last e [] h = refl
put_last e (f ∷ fs) h = ap (λ (c : Bool). if c then e ∷ f ∷ fs else f ∷ put_edit e fs) (past e.span.start f.span.start h.0) ∙ ap (λ (gs : List Edit). f ∷ gs) (put_last e fs h.1)
  where
    past : (m n : ℕ) → n < m → nat_le m n ≡ false
    past m n h = grind (arith, nat_tests, h)

below_both : (n : ℕ) (xs ys : List Edit) → Below n xs → Below n ys → Below n (xs ++ ys)
below_both n [] ys x y = y
below_both n (e ∷ xs) ys x y = (x.0, below_both n xs ys x.1 y)

rise_to : (s : Span) (x : Terminal) (m : Lexemes) (e : Span) (y : Terminal) (r : Lexemes) → starts_rise (lex s x ∷ (m ++ lex e y ∷ r)) → s.start < e.start
rise_to s x [] e y r h = h.0
rise_to s x (lex u z ∷ m) e y r h = let a = h.0 in let b = rise_to u z m e y r h.1 in omega (arith, a, b)

rise_past : (n0 : Lexemes) (s : Span) (x : Terminal) (m : Lexemes) (e : Span) (y : Terminal) (r : Lexemes) → starts_rise (n0 ++ lex s x ∷ (m ++ lex e y ∷ r)) → start_of (n0 ++ lex s x ∷ (m ++ lex e y ∷ r)) < e.start
rise_past [] s x m e y r h = rise_to s x m e y r h
rise_past (lex u z ∷ n0) s x m e y r h = rise_to u z (n0 ++ lex s x ∷ m) e y r (subst (λ (us : Lexemes). starts_rise (lex u z ∷ us)) (sym (append_assoc n0 (lex s x ∷ m) (lex e y ∷ r))) h)

pub rise_later : (m ts : Lexemes) → starts_rise (m ++ ts) → starts_rise ts
rise_later [] ts h = h
rise_later (lex s x ∷ []) [] h = tt
rise_later (lex s x ∷ []) (lex u y ∷ ts) h = h.1
rise_later (lex s x ∷ lex u y ∷ m) ts h = rise_later (lex u y ∷ m) ts h.1

module _ (text : List ℕ) (tokens : List Token) (comments : List Comment) (unused : List Span) where
  -- whole lines start no later
  widened_below : (s : Span) (n : ℕ) → s.start < n → (widened text s).start < n
  widened_below s n h = by (stands_alone text s)
    where
      under : (a k n : ℕ) → a < n → a - k < n
      under a k n h = omega (arith, h)

      by : (c : Bool) → (cond c (span_at (line_start text s.start) (line_end text s.end)) s).start < n
      by true = under s.start (bytes_to_newline (reverse (take s.start text))) n h
      by false = h

  module _ (e : Span) (y : Terminal) (r : Lexemes) where
    spec_below : (d : ImportDecl Span) → d.grouped ≡ true → {x : ImportSpec Span} {ts q : Lexemes} → (i : SpecIs x ts q) → (m : Lexemes) → q ≡ m ++ lex e y ∷ r → starts_rise ts → (spec_range text tokens comments unused d x).start < e.start
    spec_below d grouped {x} {ts} {q} i m at_end rise =
        let list : ts ≡ i.n0 ++ lex i.s (str_lit i.p) ∷ (m ++ lex e y ∷ r) = i.is ∙ ap (λ (us : Lexemes). i.n0 ++ lex i.s (str_lit i.p) ∷ us) at_end in
        let sp = span_same x.span (start_of ts) i.s.end i.span_is in
        subst (λ (c : Bool). (widened text (span_at (cond c x.span.start d.span.start) (through_semicolon tokens x.span.end))).start < e.start) (sym grouped)
        (widened_below (span_at x.span.start (through_semicolon tokens x.span.end)) e.start (subst (λ (n : ℕ). n < e.start) (sym (sp.0 ∙ ap start_of list)) (rise_past i.n0 i.s (str_lit i.p) m e y r (subst (λ (us : Lexemes). starts_rise us) list rise))))

    one_more : (t : Bool) (s : Span) (ss : List Span) → s.start < e.start → Below e.start (map removal ss) → Below e.start (map removal (cond t (s ∷ ss) ss))
    one_more true s ss h k = (h, k)
    one_more false s ss h k = k

    specs_below : (d : ImportDecl Span) → d.grouped ≡ true → {xs : List (ImportSpec Span)} {ts q : Lexemes} → SpellsImportSpecs span_to xs ts q → (m : Lexemes) → q ≡ m ++ lex e y ∷ r → starts_rise ts → Below e.start (map removal (specs_ranges text tokens comments unused d xs))
    specs_below d grouped no_import_specs_rule m at_end rise = tt
    specs_below d grouped (last_import_spec_rule {x = x} k) m at_end rise = one_more (goes text tokens comments unused x) (spec_range text tokens comments unused d x) [] (spec_below d grouped (spec_is k) m at_end rise) tt
    specs_below d grouped (more_import_specs_rule {c = c} {x = x} {xs = xs} {ts = ts} {mid = mid} k l) m at_end rise =
        let i = spec_is k in
        let f = specs_front l in
        let own : Lexemes = i.n0 ++ lex i.s (str_lit i.p) ∷ lex c semicolon ∷ [] in
        one_more (goes text tokens comments unused x) (spec_range text tokens comments unused d x) (specs_ranges text tokens comments unused d xs)
        (spec_below d grouped i (lex c semicolon ∷ (f.0 ++ m)) (ap (λ (us : Lexemes). lex c semicolon ∷ us) (f.1 ∙ ap (λ (us : Lexemes). f.0 ++ us) at_end ∙ sym (append_assoc f.0 m (lex e y ∷ r)))) rise)
        (specs_below d grouped l m at_end (rise_later own mid (subst (λ (us : Lexemes). starts_rise us) (i.is ∙ sym (append_assoc i.n0 (lex i.s (str_lit i.p) ∷ lex c semicolon ∷ []) mid)) rise)))

    decl_below : {d : ImportDecl Span} {ts q : Lexemes} → SpellsImport span_to d ts q → (m : Lexemes) → q ≡ m ++ lex e y ∷ r → starts_rise ts → Below e.start (map removal (decl_ranges text tokens comments unused false d))
    decl_below (import_rule {s = s} {x = x} {ts = ts} {r = q} a) m at_end rise = one_more (goes text tokens comments unused x) _ [] (widened_below (span_at s.start (through_semicolon tokens x.span.end)) e.start first) tt
      where
        i : SpecIs x ts q
        i = spec_is a

        first : s.start < e.start
        first = rise_past (lex s key_import ∷ i.n0) i.s (str_lit i.p) m e y r (subst (λ (us : Lexemes). starts_rise us) (ap (λ (us : Lexemes). lex s key_import ∷ us) (i.is ∙ ap (λ (us : Lexemes). i.n0 ++ lex i.s (str_lit i.p) ∷ us) at_end)) rise)
    decl_below (import_group_rule {s = s} {b = o} {e = e2} {xs = xs} {ts = ts} {r = q} a) m at_end rise = by (goes_whole text tokens comments unused false (record { span = span_to (lex s key_import ∷ lex o paren ∷ ts) q; grouped = true; specs = xs }))
      where
        d : ImportDecl Span
        d = record { span = span_to (lex s key_import ∷ lex o paren ∷ ts) q; grouped = true; specs = xs }

        f : (f0 : Lexemes) × (ts ≡ f0 ++ lex e2 end_paren ∷ q)
        f = specs_front a

        first : s.start < e.start
        first = rise_past [] s key_import (lex o paren ∷ (f.0 ++ lex e2 end_paren ∷ m)) e y r (subst (λ (us : Lexemes). starts_rise (lex s key_import ∷ lex o paren ∷ us))
            (f.1 ∙ ap (λ (us : Lexemes). f.0 ++ lex e2 end_paren ∷ us) at_end ∙ sym (append_assoc f.0 (lex e2 end_paren ∷ m) (lex e y ∷ r))) rise)

        by : (t : Bool) → Below e.start (map removal (cond t (decl_range text tokens comments unused (record { span = span_to (lex s key_import ∷ lex o paren ∷ ts) q; grouped = true; specs = xs }) ∷ []) (specs_ranges text tokens comments unused (record { span = span_to (lex s key_import ∷ lex o paren ∷ ts) q; grouped = true; specs = xs }) xs)))
        by true = (widened_below (span_at s.start (through_semicolon tokens (span_to (lex s key_import ∷ lex o paren ∷ ts) q).end)) e.start first, tt)
        by false = specs_below (record { span = span_to (lex s key_import ∷ lex o paren ∷ ts) q; grouped = true; specs = xs }) refl a (lex e2 end_paren ∷ m) (ap (λ (us : Lexemes). lex e2 end_paren ∷ us) at_end) (rise_later (lex s key_import ∷ lex o paren ∷ []) ts rise)

  -- the `)` of the last declaration, and that all that goes starts before it
  record Last (d : ImportDecl Span) (ds : List (ImportDecl Span)) (ts : Lexemes) : Type 0 where
    e : Span
    m : Lexemes
    rest : Lexemes
    is : ts ≡ m ++ lex e end_paren ∷ rest
    closing_is : last_closing (d ∷ ds) ≡ e.end - 1
    below : starts_rise ts → Below e.start (map removal (ranges text tokens comments unused true (d ∷ ds)))

  last_of : (c : Span) {d : ImportDecl Span} {ds : List (ImportDecl Span)} {ts mid r : Lexemes} → SpellsImport span_to d ts (lex c semicolon ∷ mid) → SpellsImports span_to ds mid r → adds_to_group text (d ∷ ds) ≡ true → Last d ds ts
  last_of c (import_rule a) no_imports_rule taken = absurd (clash taken)
    where
      clash : false ≡ true → ⊥
      clash e = cc
  last_of c {mid = mid} (import_group_rule {s = s} {b = o} {e = e} {xs = xs} {ts = ts} a) no_imports_rule taken =
      let sp : Span = span_to (lex s key_import ∷ lex o paren ∷ ts) (lex c semicolon ∷ mid) in
      let f = specs_front a in
      record {
        e = e;
        m = lex s key_import ∷ lex o paren ∷ f.0;
        rest = lex c semicolon ∷ mid;
        is = ap (λ (us : Lexemes). lex s key_import ∷ lex o paren ∷ us) f.1;
        closing_is = ap (λ (z : Span). z.end - 1) (group_span s o e c mid xs ts sp refl a);
        below = λ rise. specs_below e end_paren (lex c semicolon ∷ mid) (record { span = sp; grouped = true; specs = xs }) refl a [] refl (rise_later (lex s key_import ∷ lex o paren ∷ []) ts rise);
      }
  last_of c {d = d} {ts = ts} {mid = mid} a (more_imports_rule {c = c2} {d = d2} {ds = ds} a2 k) taken =
      let l = last_of c2 a2 k taken in
      let f = import_front a in
      let whole : ts ≡ (f.0 ++ lex c semicolon ∷ []) ++ mid = f.1 ∙ sym (append_assoc f.0 (lex c semicolon ∷ []) mid) in
      record {
        e = l.e;
        m = (f.0 ++ lex c semicolon ∷ []) ++ l.m;
        rest = l.rest;
        is = whole ∙ ap (λ (us : Lexemes). (f.0 ++ lex c semicolon ∷ []) ++ us) l.is ∙ sym (append_assoc (f.0 ++ lex c semicolon ∷ []) l.m (lex l.e end_paren ∷ l.rest));
        closing_is = l.closing_is;
        below = λ rise. subst (λ (es : List Edit). Below l.e.start es) (sym (map_both (decl_ranges text tokens comments unused false d) (ranges text tokens comments unused true (d2 ∷ ds))))
            (below_both l.e.start (map removal (decl_ranges text tokens comments unused false d)) (map removal (ranges text tokens comments unused true (d2 ∷ ds)))
            (decl_below l.e end_paren l.rest a (lex c semicolon ∷ l.m) (ap (λ (us : Lexemes). lex c semicolon ∷ us) l.is) rise)
            (l.below (rise_later (f.0 ++ lex c semicolon ∷ []) mid (subst (λ (us : Lexemes). starts_rise us) whole rise))));
      }

-- ---- the file

module _ (text : List ℕ) (tokens : List Token) (comments : List Comment) (file : File Span) (unused : List Span) (t : TokensOf text tokens comments) (d : SpellsFile tokens file) (u : UndottedFile (bare_file file)) (es : List Edit) (cs : List (Decl (Unit {0}))) (tail : Tail text tokens comments unused file es cs) where
  by_rule : (added : List NewImport) (w : AreWritable added) (i : ImportDecl Span) (is : List (ImportDecl Span)) → adds_to_group text (i ∷ is) ≡ true → (front us mid : Lexemes) → lexemes tokens ≡ front ++ us → starts_rise us → SpellsImports span_to (i ∷ is) us mid → SpellsTops span_to file.decls mid []
      → Follows text tokens comments unused us (put_edit (insertion (record { at = last_closing (i ∷ is); text = each_within (codes "\t") (codes "\n") added })) (map removal (ranges text tokens comments unused true (i ∷ is))) ++ es)
      (ImportsThen (λ vs. SpellsTops nowhere cs vs []) (grown_decls text tokens comments unused added (i ∷ is)))
  unfolding tab_text
  by_rule added w i is taken front us mid q rise (more_imports_rule {c = c} {mid = m} a k) b at bb ps st stop =
      let fs : List Edit = map removal (ranges text tokens comments unused true (i ∷ is)) in
      let ins : Edit = insertion (record { at = last_closing (i ∷ is); text = each_within (codes "\t") (codes "\n") added }) in
      let l = last_of text tokens comments unused c a k taken in
      let wide = paren_wide text tokens at bb ps l.m l.e l.rest (again text tokens comments unused at bb ps us _ l.is st) in
      let place : l.e.start ≡ last_closing (i ∷ is) = less l.e.start l.e.end (last_closing (i ∷ is)) wide l.closing_is in
      let f = imports_front (more_imports_rule {c = c} a k) in
      subst (λ (gs : List Edit). Out text at bb ps gs (ImportsThen (λ vs. SpellsTops nowhere cs vs []) (grown_decls text tokens comments unused added (i ∷ is))))
      (sym (append_assoc fs (ins ∷ []) es) ∙ ap (λ (gs : List Edit). gs ++ es) (sym (put_last ins fs (subst (λ (n : ℕ). Below n fs) place (l.below rise)))))
      (grown_walk text tokens comments unused added w (λ vs. SpellsTops nowhere cs vs []) c a k taken es (tail (front ++ f.0) mid (q ∙ ap (λ (vs : Lexemes). front ++ vs) f.1 ∙ sym (append_assoc front f.0 mid)) b) at bb ps st stop)
    where
      less : (a b k : ℕ) → b ≡ a + 1 → k ≡ b - 1 → a ≡ k
      less a b k e f = omega (arith, e, f)

  grown_go : (added : List NewImport) (w : AreWritable added) (i : ImportDecl Span) (is : List (ImportDecl Span)) → file.imports ≡ i ∷ is → adds_to_group text (i ∷ is) ≡ true
      → ReadsAs (applied text (put_edit (insertion (record { at = last_closing (i ∷ is); text = each_within (codes "\t") (codes "\n") added })) (map removal (ranges text tokens comments unused true (i ∷ is))) ++ es))
      (record (bare_file file) { imports = grown_decls text tokens comments unused added (i ∷ is); decls = cs })
  grown_go added w i is e taken =
      file_from text tokens comments file unused (grown_decls text tokens comments unused added (i ∷ is)) cs
      (put_edit (insertion (record { at = last_closing (i ∷ is); text = each_within (codes "\t") (codes "\n") added })) (map removal (ranges text tokens comments unused true (i ∷ is))) ++ es) (start text tokens comments t (tokens_apart text tokens comments file t d u)) (lexemes tokens) refl d
      (λ front us mid q a b. by_rule added w i is taken front us mid q (rise_later front us (subst (λ (ts : Lexemes). starts_rise ts) q (tokens_rise text tokens comments t))) (subst (λ (ds : List (ImportDecl Span)). SpellsImports span_to ds us mid) e a) b)

  settle : (added : List NewImport) (w : AreWritable added) → is_some added ≡ true → (is : List (ImportDecl Span)) → file.imports ≡ is → (c : Bool) → adds_to_group text is ≡ c
      → ReadsAs (applied text (put_edit (insertion (addition_among text tokens comments unused file.package_name.span.end is added)) (map removal (ranges text tokens comments unused (adds_to_group text is) is)) ++ es))
      (record (bare_file file) { imports = if c then grown_decls text tokens comments unused added is else added_decls added ++ left_decls text tokens comments unused is; decls = cs })
  settle added w some [] e false h = some_go text tokens comments file unused t d u es cs tail added w some [] e refl
  settle added w some [] e true h = absurd (clash h)
    where
      clash : false ≡ true → ⊥
      clash e = cc
  settle added w some (i ∷ is) e false h = some_go text tokens comments file unused t d u es cs tail added w some (i ∷ is) e h
  settle added w some (i ∷ is) e true h =
      subst (λ (c : Bool). ReadsAs (applied text (put_edit (insertion (if c then record { at = last_closing (i ∷ is); text = each_within (codes "\t") (codes "\n") added } else record { at = front_of text tokens comments unused i; text = each_within (codes "import ") (codes "\n") added }))
      (map removal (ranges text tokens comments unused c (i ∷ is))) ++ es)) (record (bare_file file) { imports = grown_decls text tokens comments unused added (i ∷ is); decls = cs })) (sym h) (grown_go added w i is e h)

  -- all edits that settle the imports, and others behind them
  pub all_go : (added : List NewImport) → AreWritable added → ReadsAs (applied text (settled text tokens comments file added unused ++ es)) (record (bare_file file) { imports = settled_decls text tokens comments unused added file.imports; decls = cs })
  all_go [] w = left_go text tokens comments file unused t d u es cs tail
  all_go (i ∷ is) w = settle (in_order (i ∷ is)) (order_writable (i ∷ is) w) (put_some i (in_order is)) file.imports refl (adds_to_group text file.imports) refl

pub settled_go : SettledGo
settled_go text tokens comments file added unused t d u w =
    subst (λ (es : List Edit). ReadsAs (applied text es) (with_settled text tokens comments unused added file)) (append-nil (settled text tokens comments file added unused))
    (all_go text tokens comments file unused t d u [] (bare_file file).decls (tail_stays text tokens comments unused file) added w)

pub settled_go_again : SettledGoAgain
settled_go_again text f r added unused u w = settled_go text r.tokens r.comments r.file added unused r.of_text r.spelled (subst (λ (g : File (Unit {0})). UndottedFile g) (sym r.same) u) w

pub settled_stay_undotted : SettledStayUndotted
settled_stay_undotted text tokens comments file added unused u = u
