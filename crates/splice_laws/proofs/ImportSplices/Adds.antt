-- A text with imports added and the unused ones removed.
use Rattle.std.proofs.Common.{◌≡◌, inr, ℕ, ◌+◌, ◌≤◌, Bool, true, false, not, nat_le, List, [], ◌∷◌, ◌++◌, length, map, codes, refl, sym, ap, subst, ◌∙◌, arith, length-append}
use Rattle.std.specs.Prelude.{slice_range, if◌then◌else◌}
use Rattle.std.specs.Str.{all_scalars}
use Rattle.std.proofs.lemmas.Bool.Decides.{nat_tests}
use Rattle.std.proofs.lemmas.List.{append_assoc}
use Rattle.std.proofs.lemmas.Str.{encodes-append}
use Rattle.go_tree.specs.declared.spans.Span.{Span}
use Rattle.go_tree.specs.declared.tokens.Token.{Token}
use Rattle.go_tree.specs.declared.tokens.Comment.{Comment}
use Rattle.go_tree.specs.File.{ImportDecl, Decl, File}
use Rattle.go_tree.specs.FileBare.{bare_file}
use Rattle.go_tree.specs.GoWords.Terminals.{Terminal, lex, ident, semicolon, key_package, ends_statement, lexemes}
use Rattle.go_tree.specs.GoWords.Tokens.{TokensOf, size_of, ends_line, pieces_size}
use Rattle.go_tree.specs.GoWords.Tokens.Pieces.{Piece, no_word_first}
use Rattle.go_read.specs.SpellsTypes.{Lexemes}
use Rattle.go_read.specs.SpellsSpans.{span_to}
use Rattle.go_read.specs.SpellsFiles.{SpellsImports, SpellsTops, SpellsFront, SpellsFile, no_imports_rule, more_imports_rule, front_rule}
use Rattle.go_read.specs.Bareness.{nowhere}
use Rattle.text_edits.specs.declared.edit.Edit.{Edit}
use Rattle.text_edits.specs.Applied.{applied, replaced_from}
use Rattle.run_rules.specs.declared.import_rules.new_import.NewImport.{NewImport}
use Rattle.run_rules.specs.ImportRules.SpecText.{is_before, put, in_order}
use Rattle.run_rules.specs.ImportRules.Removed.{ranges}
use Rattle.run_rules.specs.ImportRules.Added.{each_within, adds_to_group, last_closing, front_of, addition_among}
use Rattle.run_rules.specs.ImportRules.Settled.{removal, insertion, put_edit}
use Rattle.splice_laws.specs.Joints.{words_of, PartsTo, InnerEnd, LastEnds}
use Rattle.splice_laws.specs.Dots.{UndottedFile}
use Rattle.splice_laws.specs.Splice.{ReadsAs}
use Rattle.splice_laws.specs.ImportTexts.{a_piece}
use Rattle.splice_laws.specs.Edited.{terminals}
use Rattle.splice_laws.proofs.AddImports.{words_both, terminals_both, blank_ends}
use Rattle.splice_laws.proofs.Behinds.{blank_word}
use Rattle.splice_laws.proofs.Over.{parts_over}
use Rattle.splice_laws.proofs.Splices.{size_pieces, scalars_parts, scalars_on}
use Rattle.splice_laws.proofs.TokenDots.{tokens_apart}
use Rattle.splice_laws.proofs.TokenLists.{asks_ends}
use Rattle.splice_laws.proofs.Wholes.{span_of_node}
use Rattle.splice_laws.specs.ImportSplices.AddedFile.{AreWritable, added_decls}
use Rattle.splice_laws.specs.ImportSplices.SettledFile.{left_decls}
use Rattle.splice_laws.proofs.ImportSplices.Terms.{own, own_then, due, due_then, terms, terms_then, silent_none}
use Rattle.splice_laws.proofs.ImportSplices.Bytes.{bytes_of, bytes_then, bytes_size, slice_at, replaced_on, HeadFrom}
use Rattle.splice_laws.proofs.ImportSplices.Nodes.{State, Node, node}
use Rattle.splice_laws.proofs.ImportSplices.Steps.{inner_before, inner_later, step_with}
use Rattle.splice_laws.proofs.ImportSplices.Outs.{Out, slice_is, whole, put_in}
use Rattle.splice_laws.proofs.ImportSplices.Quotes.{low_all}
use Rattle.splice_laws.proofs.ImportSplices.News.{lines, is_some, NextLines, next_lines}
use Rattle.splice_laws.proofs.ImportSplices.Walks.{ImportsThen, imports_front, Follows, Led, lead_walk}
use Rattle.splice_laws.proofs.ImportSplices.Files.{Start, start, assembled, named, by_due, Tail, file_from}

-- ---- before the first declaration

put_first : (e : Edit) (fs : List Edit) → HeadFrom e.span.start fs → put_edit e fs ≡ e ∷ fs
put_first e [] h = refl
put_first e (f ∷ fs) h = ap (λ (c : Bool). if c then e ∷ f ∷ fs else f ∷ put_edit e fs) (le e.span.start f.span.start h)
  where
    le : (m n : ℕ) → m ≤ n → nat_le m n ≡ true
    le m n h = grind (arith, nat_tests, h)

heads_before : (n : ℕ) (es fs : List Edit) → HeadFrom n (es ++ fs) → HeadFrom n es
heads_before n [] fs h = tt
heads_before n (e ∷ es) fs h = h

module _ (text : List ℕ) (tokens : List Token) (comments : List Comment) (unused : List Span) (added : List NewImport) (w : AreWritable added) where
  unfoldable front_text : List ℕ
  front_text = each_within (codes "import ") (codes "\n") added

  front_walk : (P : Lexemes → Type 0) (es : List Edit) (d : ImportDecl Span) (ds : List (ImportDecl Span)) (us mid : Lexemes) → SpellsImports span_to (d ∷ ds) us mid → Follows text tokens comments unused mid es P
      → Follows text tokens comments unused us (put_edit (insertion (record { at = front_of text tokens comments unused d; text = each_within (codes "import ") (codes "\n") added })) (map removal (ranges text tokens comments unused false (d ∷ ds))) ++ es)
      (ImportsThen P (added_decls added ++ left_decls text tokens comments unused (d ∷ ds)))
  unfolding front_text
  front_walk P es d ds us mid a last at b ps st stop =
      let fs : List Edit = map removal (ranges text tokens comments unused false (d ∷ ds)) in
      let place : ℕ = front_of text tokens comments unused d in
      let old : Lexemes → Type 0 = ImportsThen P (left_decls text tokens comments unused (d ∷ ds)) in
      let new : Lexemes → Type 0 = ImportsThen P (added_decls added ++ left_decls text tokens comments unused (d ∷ ds)) in
      let led : Led text at b ps (fs ++ es) old place = lead_walk text tokens comments unused P a es last at b ps st stop in
      let n = lines added w in
      let o : Out text at b ps (insertion (record { at = at + pieces_size led.out.front; text = bytes_of n.ns }) ∷ (fs ++ es)) new =
      put_in text tokens at b ps n.ns n.inner n.closed n.scalars n.vs n.own (fs ++ es) new old led.out led.newline (λ ws s. (s.0, n.spells (left_decls text tokens comments unused (d ∷ ds)) ws s.0 s.1, s.2)) in
      subst (λ (gs : List Edit). Out text at b ps gs new)
      (ap (λ (v : List ℕ). insertion (record { at = at + pieces_size led.out.front; text = v }) ∷ (fs ++ es)) n.bytes ∙ ap (λ (k : ℕ). insertion (record { at = k; text = front_text }) ∷ (fs ++ es)) led.up_to
      ∙ ap (λ (gs : List Edit). gs ++ es) (sym (put_first (insertion (record { at = place; text = front_text })) fs (heads_before place fs es (subst (λ (k : ℕ). HeadFrom k (fs ++ es)) led.up_to led.out.heads))))) o

-- ---- behind the package name

last_later : (g : List Piece) (p : Piece) (h : List Piece) (next : List ℕ) → LastEnds (p ∷ h) next → LastEnds (g ++ (p ∷ h)) next
last_later [] p h next x = x
last_later (q ∷ []) p h next x = x
last_later (q ∷ r ∷ g) p h next x = last_later (r ∷ g) p h next x

unfoldable behind_text : List NewImport → List ℕ
behind_text added = codes "\n" ++ each_within (codes "\nimport ") [] added

module _ (text : List ℕ) (tokens : List Token) (at : ℕ) (ps : List Piece) (s c d : Span) (m : List ℕ) (ts : Lexemes) (st : State text tokens at false ps (lex s key_package ∷ lex c (ident m) ∷ lex d semicolon ∷ ts))
    (x : Node at ps (lex s key_package ∷ []) c (ident m) (lex d semicolon ∷ ts)) (added : List NewImport) (y : NextLines added) (some : is_some added ≡ true)
    (es : List Edit) (Q : List Piece) (q_parts : PartsTo (words_of Q) Q []) (q_scalars : all_scalars (words_of Q) ≡ true) (q_bytes : bytes_of Q ≡ replaced_from text (at + (pieces_size x.gap + pieces_size x.core)) es) (us : Lexemes) (q_terms : terms true Q ≡ semicolon ∷ terminals us) where
  unfoldable ns : List Piece
  ns = a_piece (codes "\n") ∷ y.ns

  unfoldable g : List Piece
  g = x.gap ++ x.core

  unfoldable E : ℕ
  E = at + pieces_size g

  split : ps ≡ g ++ x.behind
  unfolding g
  split = x.is ∙ sym (append_assoc x.gap x.core x.behind)

  end_is : c.end ≡ E
  unfolding E g
  end_is = x.end_is ∙ ap (λ (k : ℕ). at + k) (sym (size_pieces x.gap x.core))

  ns_inner : InnerEnd ns
  unfolding ns
  ns_inner = by y.ns y.inner
    where
      by : (rest : List Piece) → InnerEnd rest → InnerEnd (a_piece (codes "\n") ∷ rest)
      by [] h = tt
      by (p ∷ rest) h = (blank_ends (codes "\n") p.word refl, h)

  ns_last : (next : List ℕ) → LastEnds ns next
  unfolding ns
  ns_last next = by y.ns (y.ends next)
    where
      by : (rest : List Piece) → LastEnds rest next → LastEnds (a_piece (codes "\n") ∷ rest) next
      by [] h = blank_ends (codes "\n") next refl
      by (p ∷ rest) h = h

  ns_bytes : bytes_of ns ≡ behind_text added
  unfolding ns behind_text
  ns_bytes = encodes-append (codes "\n") (words_of y.ns) ∙ ap (λ (v : List ℕ). v ++ bytes_of y.ns) (low_all (codes "\n") refl) ∙ ap (λ (v : List ℕ). codes "\n" ++ v) y.bytes

  g_last : (next : List ℕ) → no_word_first next ≡ true → LastEnds g next
  unfolding g
  g_last next h = subst (λ (us : List Piece). LastEnds (x.gap ++ us) next) (sym x.first.3) (last_later x.gap _ x.first.2 next (subst (λ (us : List Piece). LastEnds us next) x.first.3 (named at ps (lex s key_package ∷ []) c m (lex d semicolon ∷ ts) x next h)))

  not_word : (v : List ℕ) → no_word_first (10 ∷ v) ≡ true
  not_word v = ap not (blank_word 10 refl)

  new_parts : PartsTo (words_of (g ++ (ns ++ Q))) (g ++ (ns ++ Q)) []
  unfolding ns
  new_parts =
      subst (λ (t : List ℕ). PartsTo t (g ++ (ns ++ Q)) []) (sym (words_both g (ns ++ Q)))
      (parts_over g (words_of (ns ++ Q)) (ns ++ Q) [] (inner_before g x.behind (subst (λ (us : List Piece). InnerEnd us) split st.inner)) (g_last (words_of (ns ++ Q)) (not_word (words_of (y.ns ++ Q))))
      (subst (λ (t : List ℕ). PartsTo t (ns ++ Q) []) (sym (words_both ns Q)) (parts_over ns (words_of Q) Q [] ns_inner (ns_last (words_of Q)) q_parts)))

  new_scalars : all_scalars (words_of (g ++ (ns ++ Q))) ≡ true
  unfolding ns
  new_scalars =
      let old = scalars_parts (words_of g) (words_of x.behind) (subst (λ (v : List ℕ). all_scalars v ≡ true) (ap words_of split ∙ words_both g x.behind) st.scalars) in
      subst (λ (v : List ℕ). all_scalars v ≡ true) (sym (words_both g (ns ++ Q))) (scalars_on (words_of g) (words_of (ns ++ Q)) old.0
      (subst (λ (v : List ℕ). all_scalars v ≡ true) (sym (words_both ns Q)) (scalars_on (words_of ns) (words_of Q) (scalars_on (10 ∷ []) (words_of y.ns) refl y.scalars) q_scalars)))

  new_bytes : bytes_of (g ++ (ns ++ Q)) ≡ replaced_from text (at + 0) (insertion (record { at = c.end; text = behind_text added }) ∷ es)
  unfolding E g
  new_bytes =
      let t : List ℕ = behind_text added in
      let front : slice_range text at E ≡ bytes_of g = slice_is text tokens at false ps (lex s key_package ∷ lex c (ident m) ∷ lex d semicolon ∷ ts) st g (words_of x.behind) (ap words_of split ∙ words_both g x.behind) in
      let back : replaced_from text E es ≡ bytes_of Q = ap (λ (k : ℕ). replaced_from text (at + k) es) (size_pieces x.gap x.core) ∙ sym q_bytes in
      bytes_then g (ns ++ Q) ∙ ap (λ (v : List ℕ). bytes_of g ++ v) (bytes_then ns Q ∙ ap (λ (v : List ℕ). v ++ bytes_of Q) ns_bytes) ∙ ap (λ (v : List ℕ). v ++ (t ++ bytes_of Q)) (sym front)
      ∙ ap (λ (v : List ℕ). slice_range text at E ++ (t ++ v)) (sym back) ∙ ap (λ (k : ℕ). replaced_from text at (insertion (record { at = k; text = t }) ∷ es)) (sym end_is)
      ∙ ap (λ (k : ℕ). replaced_from text k (insertion (record { at = c.end; text = t }) ∷ es)) zero
    where
      zero : at ≡ at + 0
      zero = omega arith

  unfoldable new_us : Lexemes
  new_us = lex s key_package ∷ lex c (ident m) ∷ (y.vs ++ (lex d semicolon ∷ us))

  new_terms : terms false (g ++ (ns ++ Q)) ≡ terminals new_us
  unfolding g ns new_us
  new_terms =
      let none = silent_none x.gap x.none in
      let line : ends_line x.kind x.word ≡ true = asks_ends x.kind x.word (ap ends_statement x.x_is) in
      let owns : own false (x.gap ++ x.core) ≡ key_package ∷ ident m ∷ [] = own_then x.gap x.core false ∙ ap (λ (us : List Terminal). us ++ own (due false x.gap) x.core) none.0 ∙ ap (λ (k : Bool). own k x.core) none.1 ∙ x.own_is in
      let dues : due false (x.gap ++ x.core) ≡ true = due_then x.gap x.core false ∙ ap (λ (k : Bool). due k x.core) none.1 ∙ x.due_is ∙ line in
      terms_then (x.gap ++ x.core) (ns ++ Q) false ∙ ap (λ (us : List Terminal). us ++ terms (due false (x.gap ++ x.core)) (ns ++ Q)) owns ∙ ap (λ (k : Bool). key_package ∷ ident m ∷ terms k (ns ++ Q)) dues
      ∙ ap (λ (us : List Terminal). key_package ∷ ident m ∷ us) (y.apart some Q ∙ y.own Q ∙ ap (λ (us : List Terminal). terminals y.vs ++ us) q_terms ∙ sym (terminals_both y.vs (lex d semicolon ∷ us)))

  behind_out : (are : Lexemes → Type 0) → are new_us → Out text at false ps (insertion (record { at = c.end; text = behind_text added }) ∷ es) are
  unfolding E
  behind_out are spelled = record {
    front = [];
    words = (words_of ps, refl);
    none = refl;
    inner = tt;
    closed = λ next. tt;
    new = g ++ (ns ++ Q);
    parts = new_parts;
    scalars = new_scalars;
    bytes = new_bytes;
    heads = subst (λ (k : ℕ). at + 0 ≤ k) (sym end_is) (within (pieces_size g));
    us = new_us;
    spelled = spelled;
    terms_are = new_terms;
    due = λ q. absurd (nope q);
  }
    where
      nope : false ≡ true → ⊥
      nope e = cc

      within : (k : ℕ) → at + 0 ≤ at + k
      within k = omega arith

none_are : (is : List (ImportDecl Span)) (us mid : Lexemes) → is ≡ [] → SpellsImports span_to is us mid → us ≡ mid
none_are is us mid e no_imports_rule = refl
none_are is us mid e (more_imports_rule a k) = absurd cc

-- parts that stay behind others, and then what the rest becomes
added_rest : (text : List ℕ) (tokens : List Token) (at : ℕ) (ps : List Piece) (ts : Lexemes) (st : State text tokens at false ps ts) (g more left : List Piece) → ps ≡ g ++ (more ++ left) → (es : List Edit) (R : List Piece) → PartsTo (words_of R) R [] → all_scalars (words_of R) ≡ true → LastEnds more (words_of R)
    → bytes_of R ≡ replaced_from text (at + pieces_size g + pieces_size more) es → HeadFrom (at + pieces_size g + pieces_size more) es
    → PartsTo (words_of (more ++ R)) (more ++ R) [] × (all_scalars (words_of (more ++ R)) ≡ true) × (bytes_of (more ++ R) ≡ replaced_from text (at + pieces_size g) es)
added_rest text tokens at ps ts st g more left split es R parts scalars last bytes heads =
    let own = scalars_parts (words_of more) (words_of left) (subst (λ (v : List ℕ). all_scalars v ≡ true) (words_both more left)
    (scalars_parts (words_of g) (words_of (more ++ left)) (subst (λ (v : List ℕ). all_scalars v ≡ true) (ap words_of split ∙ words_both g (more ++ left)) st.scalars)).1) in
    let inner : InnerEnd more = inner_before more left (inner_later g (more ++ left) (subst (λ (us : List Piece). InnerEnd us) split st.inner)) in
    let slice : slice_range text (at + pieces_size g) (at + pieces_size g + pieces_size more) ≡ bytes_of more =
    slice_at text (st.before ++ bytes_of g) (bytes_of more) (bytes_of left) (at + pieces_size g) (at + pieces_size g + pieces_size more)
    (st.text_is ∙ ap (λ (us : List Piece). st.before ++ bytes_of us) split ∙ ap (λ (v : List ℕ). st.before ++ v) (bytes_then g (more ++ left)) ∙ sym (append_assoc st.before (bytes_of g) (bytes_of (more ++ left))) ∙ ap (λ (v : List ℕ). (st.before ++ bytes_of g) ++ v) (bytes_then more left))
    (length-append st.before (bytes_of g) ∙ ap (λ (n : ℕ). n + length (bytes_of g)) st.size ∙ ap (λ (n : ℕ). at + n) (bytes_size g)) (ap (λ (n : ℕ). at + pieces_size g + n) (bytes_size more)) in (
      subst (λ (t : List ℕ). PartsTo t (more ++ R) []) (sym (words_both more R)) (parts_over more (words_of R) R [] inner last parts),
      subst (λ (t : List ℕ). all_scalars t ≡ true) (sym (words_both more R)) (scalars_on (words_of more) (words_of R) own.0 scalars),
      bytes_then more R ∙ ap (λ (v : List ℕ). v ++ bytes_of R) (sym slice) ∙ ap (λ (v : List ℕ). slice_range text (at + pieces_size g) (at + pieces_size g + pieces_size more) ++ v) bytes
          ∙ sym (replaced_on text (at + pieces_size g) (at + pieces_size g + pieces_size more) es (within (at + pieces_size g) (pieces_size more)) heads),
    )
  where
    within : (a m : ℕ) → a ≤ a + m
    within a m = omega arith

-- where parts end, the later ones do
last_part : (g h : List Piece) (next : List ℕ) → LastEnds (g ++ h) next → LastEnds h next
last_part [] h next x = x
last_part (p ∷ []) [] next x = tt
last_part (p ∷ []) (q ∷ h) next x = x
last_part (p ∷ r ∷ g) h next x = last_part (r ∷ g) h next x

behind_from : (text : List ℕ) (tokens : List Token) (comments : List Comment) (unused : List Span) (file : File Span) (added : List NewImport) (w : AreWritable added) → is_some added ≡ true → (es : List Edit) (cs : List (Decl (Unit {0}))) → Tail text tokens comments unused file es cs → (z : Start text tokens) (ts : Lexemes) → lexemes tokens ≡ ts
    → SpellsFront span_to file ts [] → file.imports ≡ [] → ReadsAs (applied text (insertion (record { at = file.package_name.span.end; text = behind_text added }) ∷ es)) (record (bare_file file) { imports = added_decls added ++ []; decls = cs })
unfolding new_us E
behind_from text tokens comments unused file added w some es cs tail z _ e (front_rule {s = s} {c = c} {d = d} {n = n} {is = is} {ds = ds} {ts = ts} {mid = mid} q a b) none =
    let at : ℕ = size_of z.mark in
    let st : State text tokens at false z.pieces (lex s key_package ∷ lex c (ident n) ∷ lex d semicolon ∷ ts) = subst (λ (us : Lexemes). State text tokens at false z.pieces us) e z.state in
    let x = node text tokens at false z.pieces (lex s key_package ∷ []) c (ident n) (lex d semicolon ∷ ts) st refl in
    let v = step_with text tokens at false z.pieces (lex s key_package ∷ []) c (ident n) (lex d semicolon ∷ []) ts st (refl, refl) x (λ next. LastEnds x.core next) (λ next ok. ok) (inr (d, refl)) (λ r. absurd (nope r)) in
    let to : ℕ = at + (pieces_size v.0.of.gap + pieces_size v.0.of.body) in
    let o = tail (lex s key_package ∷ lex c (ident n) ∷ lex d semicolon ∷ []) ts e (subst (λ (us : Lexemes). SpellsTops span_to ds us []) (sym (none_are is ts mid none a)) b) to v.0.of.b2 v.0.of.left v.0.of.next (v.0.of.stops nope) in
    let wh = whole text tokens to v.0.of.b2 v.0.of.left ts v.0.of.next es _ o in
    let R : List Piece = o.front ++ o.new in
    let split : z.pieces ≡ (x.gap ++ x.core) ++ (v.1 ++ v.0.of.left) =
    v.0.of.is ∙ ap (λ (us : List Piece). us ++ (v.0.of.body ++ v.0.of.left)) v.2 ∙ ap (λ (us : List Piece). x.gap ++ (us ++ v.0.of.left)) v.3 ∙ ap (λ (us : List Piece). x.gap ++ us) (append_assoc x.core v.1 v.0.of.left) ∙ sym (append_assoc x.gap x.core (v.1 ++ v.0.of.left)) in
    let closed : LastEnds v.0.of.body (words_of R) = by_due at z.pieces (lex s key_package ∷ []) c n (lex d semicolon ∷ ts) x v.0.of.b2 v.0.of.body (λ r next. v.0.of.shut r nope next) (λ next ok. v.0.of.closed next ok) R wh.parts o.due in
    let sp = added_rest text tokens at z.pieces _ st (x.gap ++ x.core) v.1 v.0.of.left split es R wh.parts wh.scalars
    (last_part x.core v.1 (words_of R) (subst (λ (us : List Piece). LastEnds us (words_of R)) v.3 closed))
    (subst (λ (k : ℕ). bytes_of R ≡ replaced_from text k es) (sizes v.0.of.gap x.gap v.0.of.body x.core v.1 v.2 v.3) wh.bytes)
    (subst (λ (k : ℕ). HeadFrom k es) (sizes v.0.of.gap x.gap v.0.of.body x.core v.1 v.2 v.3) wh.heads) in
    let owns = v.0.of.own nope R o.due in
    let rest : terms true (v.1 ++ R) ≡ semicolon ∷ terminals o.us = ended (sym (core_terms x v.1 R) ∙ ap (λ (us : List Piece). terms false (us ++ R)) (sym v.3) ∙ owns) ∙ ap (λ (us : List Terminal). semicolon ∷ us) wh.terms_are in
    let y = next_lines added w in
    let f : File (Unit {0}) = record (bare_file file) { imports = added_decls added ++ []; decls = cs } in
    let k = y.spells d [] o.us o.us no_imports_rule in
    let out = behind_out text tokens at z.pieces s c d n ts st x added y some es (v.1 ++ R) sp.0 sp.1 (sp.2 ∙ ap (λ (m : ℕ). replaced_from text (at + m) es) (size_pieces x.gap x.core)) o.us rest (λ us. SpellsFront nowhere f us [])
    (subst (λ (us : Lexemes). SpellsFront nowhere f (lex s key_package ∷ lex c (ident n) ∷ us) []) (sym k.2) (front_rule {s = s} {c = c} {d = k.0} q k.3 o.spelled)) in
    subst (λ (m : ℕ). ReadsAs (applied text (insertion (record { at = m; text = behind_text added }) ∷ es)) f) (sym (ap (λ (t : Span). t.end) (span_of_node [] (lex d semicolon ∷ ts) c (ident n))))
    (assembled text tokens z (insertion (record { at = c.end; text = behind_text added }) ∷ es) f out)
  where
    nope : lex d semicolon ∷ [] ≡ [] → ⊥
    nope e = cc

    ended : {A B : List Terminal} → key_package ∷ ident n ∷ A ≡ key_package ∷ ident n ∷ semicolon ∷ B → A ≡ semicolon ∷ B
    ended e = cc

    sizes : (g h body core more : List Piece) → g ≡ h → body ≡ core ++ more → size_of z.mark + (pieces_size g + pieces_size body) ≡ size_of z.mark + pieces_size (h ++ core) + pieces_size more
    sizes g h body core more e f = sums (pieces_size g) (pieces_size h) (pieces_size body) (pieces_size core) (pieces_size more) (pieces_size (h ++ core)) (ap pieces_size e) (ap pieces_size f ∙ size_pieces core more) (size_pieces h core)
      where
        sums : (a b c d e k : ℕ) → a ≡ b → c ≡ d + e → k ≡ b + d → size_of z.mark + (a + c) ≡ size_of z.mark + k + e
        sums a b c d e k p q r = omega (arith, p, q, r)

    core_terms : (x : Node (size_of z.mark) z.pieces (lex s key_package ∷ []) c (ident n) (lex d semicolon ∷ ts)) (more R : List Piece) → terms false ((x.core ++ more) ++ R) ≡ key_package ∷ ident n ∷ terms true (more ++ R)
    core_terms x more R =
        ap (terms false) (append_assoc x.core more R) ∙ terms_then x.core (more ++ R) false ∙ ap (λ (us : List Terminal). us ++ terms (due false x.core) (more ++ R)) x.own_is
        ∙ ap (λ (k : Bool). key_package ∷ ident n ∷ terms k (more ++ R)) (x.due_is ∙ asks_ends x.kind x.word (ap ends_statement x.x_is))

-- ---- all edits at once

put_writable : (i : NewImport) (js : List NewImport) → AreWritable (i ∷ []) → AreWritable js → AreWritable (put i js)
put_writable i [] h k = h
put_writable i (j ∷ js) h k = by (is_before i j) (put_writable i js h k.2)
  where
    by : (c : Bool) → AreWritable (put i js) → AreWritable (if c then i ∷ j ∷ js else j ∷ put i js)
    by true later = (h.0, h.1, k)
    by false later = (k.0, k.1, later)

pub order_writable : (is : List NewImport) → AreWritable is → AreWritable (in_order is)
order_writable [] h = h
order_writable (i ∷ is) h = put_writable i (in_order is) (h.0, h.1, tt) (order_writable is h.2)

pub put_some : (i : NewImport) (js : List NewImport) → is_some (put i js) ≡ true
put_some i [] = refl
put_some i (j ∷ js) = by (is_before i j)
  where
    by : (c : Bool) → is_some (if c then i ∷ j ∷ js else j ∷ put i js) ≡ true
    by true = refl
    by false = refl

module _ (text : List ℕ) (tokens : List Token) (comments : List Comment) (file : File Span) (unused : List Span) (t : TokensOf text tokens comments) (d : SpellsFile tokens file) (u : UndottedFile (bare_file file)) (es : List Edit) (cs : List (Decl (Unit {0}))) (tail : Tail text tokens comments unused file es cs) where
  pub some_go : (added : List NewImport) (w : AreWritable added) → is_some added ≡ true → (is : List (ImportDecl Span)) → file.imports ≡ is → adds_to_group text is ≡ false
      → ReadsAs (applied text (put_edit (insertion (addition_among text tokens comments unused file.package_name.span.end is added)) (map removal (ranges text tokens comments unused (adds_to_group text is) is)) ++ es))
      (record (bare_file file) { imports = added_decls added ++ left_decls text tokens comments unused is; decls = cs })
  unfolding behind_text
  some_go added w some [] e h = behind_from text tokens comments unused file added w some es cs tail (start text tokens comments t (tokens_apart text tokens comments file t d u)) (lexemes tokens) refl d e
  some_go added w some (i ∷ is) e h =
      subst (λ (c : Bool). ReadsAs (applied text (put_edit (insertion (if c then record { at = last_closing (i ∷ is); text = each_within (codes "\t") (codes "\n") added } else record { at = front_of text tokens comments unused i; text = each_within (codes "import ") (codes "\n") added }))
      (map removal (ranges text tokens comments unused c (i ∷ is))) ++ es)) (record (bare_file file) { imports = added_decls added ++ left_decls text tokens comments unused (i ∷ is); decls = cs })) (sym h)
      (file_from text tokens comments file unused (added_decls added ++ left_decls text tokens comments unused (i ∷ is)) cs
      (put_edit (insertion (record { at = front_of text tokens comments unused i; text = each_within (codes "import ") (codes "\n") added })) (map removal (ranges text tokens comments unused false (i ∷ is))) ++ es) (start text tokens comments t (tokens_apart text tokens comments file t d u)) (lexemes tokens) refl d
      (λ front us mid q a b. front_walk text tokens comments unused added w (λ vs. SpellsTops nowhere cs vs []) es i is us mid (subst (λ (ds : List (ImportDecl Span)). SpellsImports span_to ds us mid) e a)
      (tail (front ++ (imports_front a).0) mid (q ∙ ap (λ (vs : Lexemes). front ++ vs) (imports_front a).1 ∙ sym (append_assoc front (imports_front a).0 mid)) b)))
