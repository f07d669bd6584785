-- What spells a file's front is read as it, and no longer front is spelled than the one that is read.
use Rattle.std.proofs.Common.{◌≡◌, ℕ, zero, suc, ◌<◌, ◌≤◌, Bool, true, false, List, [], ◌∷◌, ◌++◌, length, Option, Some, None, refl, ap, ◌∙◌, arith, inl, inr, ◌⊎◌}
use Rattle.std.proofs.lemmas.List.{append-nil}
use Rattle.go_tree.specs.declared.spans.Span.{Span}
use Rattle.go_tree.specs.File.{ImportSpec, ImportDecl, TypeSpec, Receiver, Decl, types, File}
use Rattle.go_tree.specs.GoWords.Terminals.{lex, ident, assign, semicolon, end_paren, key_import, key_type}
use Rattle.go_read.specs.SpellsTypes.{Lexemes, name_here}
use Rattle.go_read.specs.Spells.{braces_rule}
use Rattle.go_read.specs.SpellsFiles.{SpellsImportSpec, SpellsImportSpecs, SpellsImport, SpellsTypeSpec, SpellsTypeSpecs, SpellsReceiver, SpellsTop, SpellsImports, SpellsTops, SpellsFront, path_rule, named_path_rule, no_import_specs_rule, last_import_spec_rule, more_import_specs_rule, import_rule, import_group_rule, type_spec_rule, alias_spec_rule, no_type_specs_rule, last_type_spec_rule, more_type_specs_rule, receiver_rule, pointer_receiver_rule, named_receiver_rule, named_pointer_receiver_rule, top_const_rule, top_var_rule, top_type_rule, top_type_group_rule, top_func_rule, top_method_rule, no_imports_rule, more_imports_rule, no_tops_rule, more_tops_rule, front_rule}
use Rattle.go_read.specs.Goals.{read_type, read_import_spec, read_import_specs, read_import, read_type_spec, read_type_specs, read_receiver, read_top, read_imports, read_tops, read_front}
use Rattle.go_read.specs.Programs.{give, ask}
use Rattle.go_read.specs.ReadFiles.{import_spec_step, import_specs_after, import_specs_step, import_step, type_spec_step, type_specs_after, type_specs_step, receiver_step, top_step, imports_step, tops_step, front_step}
use Rattle.go_read.specs.Reading.{at}
use Rattle.go_read.proofs.Sound.{at_sound}
use Rattle.go_read.specs.Follows.{is_dotted}
use Rattle.go_read.proofs.Finds.{Runs, gives, asks, looks, passes, finish, is_end_paren, starts_word, begins_type}
use Rattle.go_read.proofs.CompleteTypes.{type_begins, type_reads, sig_reads}
use Rattle.go_read.proofs.CompleteStmts.{block_reads}
use Rattle.go_read.proofs.Complete.{stmts, decl}

-- what follows a type in a declaration of types
abbrev pub ends_type : Lexemes → Bool
ends_type (lex _ semicolon ∷ _) = true
ends_type (lex _ end_paren ∷ _) = true
ends_type _ = false

type_undotted : (r : Lexemes) → ends_type r ≡ true → is_dotted r ≡ false
type_undotted (lex _ semicolon ∷ _) q = refl
type_undotted (lex _ end_paren ∷ _) q = refl
type_undotted _ q = absurd cc

-- the same tokens, or fewer
abbrev pub Ahead : Lexemes → Lexemes → Type 0
Ahead r ts = (r ≡ ts) ⊎ (length r < length ts)

pub ahead_length : {r ts : Lexemes} → Ahead r ts → length r ≤ length ts
ahead_length (inl e) = omega (arith, ap length e)
ahead_length (inr lt) = omega (arith, lt)

ahead_both : {a b c : Lexemes} → Ahead a b → Ahead b c → Ahead a c
ahead_both (inl p) (inl q) = inl (p ∙ q)
ahead_both (inl p) (inr q) = inr (omega (arith, ap length p, q))
ahead_both (inr p) q = inr (omega (arith, p, ahead_length q))

abbrev pub starts_import : Lexemes → Bool
starts_import (lex _ key_import ∷ _) = true
starts_import _ = false

module _ {S : Type 0} (mark : Lexemes → Lexemes → S) where
  -- ---- imports

  import_spec_reads : {x : ImportSpec S} {ts r : Lexemes} → SpellsImportSpec mark x ts r → at mark read_import_spec ts ≡ Some (x, r)
  unfolding import_spec_step
  import_spec_reads path_rule = finish mark read_import_spec _ (gives mark)
  import_spec_reads named_path_rule = finish mark read_import_spec _ (gives mark)

  import_specs_none : (r : Lexemes) → is_end_paren r ≡ true → Runs mark (import_specs_step mark r) (Some ([], r))
  unfolding import_specs_step
  import_specs_none (lex _ end_paren ∷ _) q = gives mark
  import_specs_none _ q = absurd cc

  import_specs_go : {o : Option (List (ImportSpec S) × Lexemes)} {x : ImportSpec S} {ts r : Lexemes} → SpellsImportSpec mark x ts r → Runs mark (ask read_import_spec ts (λ x r. import_specs_after mark x r)) o → Runs mark (import_specs_step mark ts) o
  unfolding import_specs_step
  import_specs_go path_rule k = k
  import_specs_go named_path_rule k = k

  import_specs_reads : {xs : List (ImportSpec S)} {ts r : Lexemes} → SpellsImportSpecs mark xs ts r → is_end_paren r ≡ true → at mark read_import_specs ts ≡ Some (xs, r)
  import_specs_reads (no_import_specs_rule {r = r}) q = finish mark read_import_specs r (import_specs_none r q)
  import_specs_reads (last_import_spec_rule {ts = ts} d) q = finish mark read_import_specs ts (import_specs_go d (asks mark (import_spec_reads d) (gives mark)))
  import_specs_reads (more_import_specs_rule {ts = ts} d k) q = finish mark read_import_specs ts (import_specs_go d (asks mark (import_spec_reads d) (asks mark (import_specs_reads k q) (gives mark))))

  import_go : {x : ImportSpec S} {ts r : Lexemes} (s : Span) → SpellsImportSpec mark x ts r → Runs mark (import_step mark (lex s key_import ∷ ts)) (Some (record { span = mark (lex s key_import ∷ ts) r; grouped = false; specs = x ∷ [] }, r))
  unfolding import_step
  import_go s path_rule = asks mark (import_spec_reads path_rule) (gives mark)
  import_go s named_path_rule = asks mark (import_spec_reads named_path_rule) (gives mark)

  pub import_reads : {x : ImportDecl S} {ts r : Lexemes} → SpellsImport mark x ts r → at mark read_import ts ≡ Some (x, r)
  unfolding import_step
  import_reads (import_rule {s = s} d) = finish mark read_import _ (import_go s d)
  import_reads (import_group_rule d) = finish mark read_import _ (asks mark (import_specs_reads d refl) (gives mark))

  -- ---- types

  type_spec_go : {o : Option (TypeSpec S × Lexemes)} (s : Span) (n : List ℕ) (ts : Lexemes) → begins_type ts ≡ true
      → Runs mark (ask read_type ts (λ t r. give (record { span = mark (lex s (ident n) ∷ ts) r; name = name_here mark s n ts; alias = false; of = t }) r)) o → Runs mark (type_spec_step mark (lex s (ident n) ∷ ts)) o
  unfolding type_spec_step
  type_spec_go s n (lex _ (assign None) ∷ ts) b k = absurd cc
  type_spec_go s n _ b k = k

  type_spec_reads : {x : TypeSpec S} {ts r : Lexemes} → SpellsTypeSpec mark x ts r → ends_type r ≡ true → at mark read_type_spec ts ≡ Some (x, r)
  unfolding type_spec_step
  type_spec_reads (type_spec_rule {s = s} {n = n} {ts = ts} {r = r} d) q = finish mark read_type_spec _ (type_spec_go s n ts (type_begins mark d) (asks mark (type_reads mark d (type_undotted r q)) (gives mark)))
  type_spec_reads (alias_spec_rule {r = r} d) q = finish mark read_type_spec _ (asks mark (type_reads mark d (type_undotted r q)) (gives mark))

  type_spec_begins : {x : TypeSpec S} {ts r : Lexemes} → SpellsTypeSpec mark x ts r → starts_word ts ≡ true
  type_spec_begins (type_spec_rule d) = refl
  type_spec_begins (alias_spec_rule d) = refl

  type_specs_none : (r : Lexemes) → is_end_paren r ≡ true → Runs mark (type_specs_step mark r) (Some ([], r))
  unfolding type_specs_step
  type_specs_none (lex _ end_paren ∷ _) q = gives mark
  type_specs_none _ q = absurd cc

  type_specs_go : {o : Option (List (TypeSpec S) × Lexemes)} (ts : Lexemes) → starts_word ts ≡ true → Runs mark (ask read_type_spec ts (λ x r. type_specs_after mark x r)) o → Runs mark (type_specs_step mark ts) o
  unfolding type_specs_step
  type_specs_go (lex _ end_paren ∷ _) q k = absurd cc
  type_specs_go _ q k = k

  type_specs_reads : {xs : List (TypeSpec S)} {ts r : Lexemes} → SpellsTypeSpecs mark xs ts r → is_end_paren r ≡ true → at mark read_type_specs ts ≡ Some (xs, r)
  type_specs_reads (no_type_specs_rule {r = r}) q = finish mark read_type_specs r (type_specs_none r q)
  type_specs_reads (last_type_spec_rule {ts = ts} d) q = finish mark read_type_specs ts (type_specs_go ts (type_spec_begins d) (asks mark (type_spec_reads d refl) (gives mark)))
  type_specs_reads (more_type_specs_rule {ts = ts} d k) q = finish mark read_type_specs ts (type_specs_go ts (type_spec_begins d) (asks mark (type_spec_reads d refl) (asks mark (type_specs_reads k q) (gives mark))))

  -- ---- declarations

  receiver_go : (s : Span) (n : List ℕ) (r : Lexemes) → is_end_paren r ≡ true → Runs mark (receiver_step mark (lex s (ident n) ∷ r)) (Some (record { span = mark (lex s (ident n) ∷ r) r; name = None; pointer = false; of = name_here mark s n r }, r))
  unfolding receiver_step
  receiver_go s n (lex _ end_paren ∷ r) q = gives mark
  receiver_go s n _ q = absurd cc

  receiver_reads : {x : Receiver S} {ts r : Lexemes} → SpellsReceiver mark x ts r → is_end_paren r ≡ true → at mark read_receiver ts ≡ Some (x, r)
  unfolding receiver_step
  receiver_reads (receiver_rule {s = s} {n = n} {r = r}) q = finish mark read_receiver _ (receiver_go s n r q)
  receiver_reads pointer_receiver_rule q = finish mark read_receiver _ (gives mark)
  receiver_reads named_receiver_rule q = finish mark read_receiver _ (gives mark)
  receiver_reads named_pointer_receiver_rule q = finish mark read_receiver _ (gives mark)

  type_go : {x : TypeSpec S} {ts r : Lexemes} (s : Span) → SpellsTypeSpec mark x ts r → at mark read_type_spec ts ≡ Some (x, r) → Runs mark (top_step mark (lex s key_type ∷ ts)) (Some (types (mark (lex s key_type ∷ ts) r) false (x ∷ []), r))
  unfolding top_step
  type_go s (type_spec_rule d) e = asks mark e (gives mark)
  type_go s (alias_spec_rule d) e = asks mark e (gives mark)

  pub top_reads : {x : Decl S} {c : Span} {ts r : Lexemes} → SpellsTop mark x ts (lex c semicolon ∷ r) → at mark read_top ts ≡ Some (x, lex c semicolon ∷ r)
  unfolding top_step
  top_reads (top_const_rule d) = finish mark read_top _ (asks mark (decl mark d refl) (gives mark))
  top_reads (top_var_rule d) = finish mark read_top _ (asks mark (decl mark d refl) (gives mark))
  top_reads (top_type_rule {s = s} d) = finish mark read_top _ (type_go s d (type_spec_reads d refl))
  top_reads (top_type_group_rule d) = finish mark read_top _ (asks mark (type_specs_reads d refl) (gives mark))
  top_reads (top_func_rule d (braces_rule {s = b} {e = e} {body = body} {ts = mid} {r = r} k)) = finish mark read_top _ (asks mark (sig_reads mark d refl) (asks mark (block_reads mark b e body mid r (stmts mark k)) (gives mark)))
  top_reads (top_method_rule v d (braces_rule {s = b} {e = e} {body = body} {ts = mid} {r = r} k)) =
      finish mark read_top _ (asks mark (receiver_reads v refl) (asks mark (sig_reads mark d refl) (asks mark (block_reads mark b e body mid r (stmts mark k)) (gives mark))))

  top_imports_not : {x : Decl S} {ts r : Lexemes} → SpellsTop mark x ts r → starts_import ts ≡ false
  top_imports_not (top_const_rule d) = refl
  top_imports_not (top_var_rule d) = refl
  top_imports_not (top_type_rule d) = refl
  top_imports_not (top_type_group_rule d) = refl
  top_imports_not (top_func_rule d k) = refl
  top_imports_not (top_method_rule v d k) = refl

  -- ---- the front of a file

  -- what is read of imports goes on with what is read after them
  imports_on : {is js : List (ImportDecl S)} {ts mid r : Lexemes} → SpellsImports mark is ts mid → at mark read_imports mid ≡ Some (js, r) → at mark read_imports ts ≡ Some (is ++ js, r)
  unfolding imports_step
  imports_on no_imports_rule e = e
  imports_on (more_imports_rule d k) e = finish mark read_imports _ (looks mark (import_reads d) (asks mark (imports_on k e) (gives mark)))

  tops_on : {ds es : List (Decl S)} {ts mid r : Lexemes} → SpellsTops mark ds ts mid → at mark read_tops mid ≡ Some (es, r) → at mark read_tops ts ≡ Some (ds ++ es, r)
  unfolding tops_step
  tops_on no_tops_rule e = e
  tops_on (more_tops_rule d k) e = finish mark read_tops _ (looks mark (top_reads d) (asks mark (tops_on k e) (gives mark)))

  import_none : (ts : Lexemes) → starts_import ts ≡ false → at mark read_import ts ≡ None
  import_none ts q = go ts q (at mark read_import ts) refl
    where
      clash : {x : ImportDecl S} {ts r : Lexemes} → starts_import ts ≡ false → SpellsImport mark x ts r → ⊥
      clash q (import_rule d) = cc
      clash q (import_group_rule d) = cc

      go : (ts : Lexemes) → starts_import ts ≡ false → (o : Option (ImportDecl S × Lexemes)) → at mark read_import ts ≡ o → o ≡ None
      go ts q None e = refl
      go ts q (Some y) e = absurd (clash q (at_sound mark read_import ts y e).1)

  pub no_more_imports : (ts : Lexemes) → starts_import ts ≡ false → at mark read_imports ts ≡ Some ([], ts)
  unfolding imports_step
  no_more_imports ts q = finish mark read_imports ts (looks mark (import_none ts q) (gives mark))

  -- imports and declarations are always read, if none
  imports_stop : (ts : Lexemes) (o : Option (ImportDecl S × Lexemes)) → at mark read_import ts ≡ o → (n : ℕ) → length ts ≤ n
      → ((us : Lexemes) → length us < n → (x : List (ImportDecl S)) × (r : Lexemes) × (at mark read_imports us ≡ Some (x, r)) × Ahead r us)
      → (x : List (ImportDecl S)) × (r : Lexemes) × (at mark read_imports ts ≡ Some (x, r)) × Ahead r ts
  unfolding imports_step
  imports_stop ts (Some (d, lex c semicolon ∷ us)) e n le k =
      let g = at_sound mark read_import ts (d, lex c semicolon ∷ us) e in
      let i = k us (omega (arith, g.0, le)) in
      (d ∷ i.0, i.1, finish mark read_imports ts (looks mark e (asks mark i.2 (gives mark))), inr (omega (arith, g.0, ahead_length i.3)))
  imports_stop ts _ e n le k = ([], ts, finish mark read_imports ts (looks mark e (gives mark)), inl refl)

  imports_total : (n : ℕ) (ts : Lexemes) → length ts ≤ n → (x : List (ImportDecl S)) × (r : Lexemes) × (at mark read_imports ts ≡ Some (x, r)) × Ahead r ts
  imports_total zero ts le = imports_stop ts (at mark read_import ts) refl zero le (λ us lt. absurd (omega (arith, lt)))
  imports_total (suc n) ts le = imports_stop ts (at mark read_import ts) refl (suc n) le (λ us lt. imports_total n us (omega (arith, lt)))

  tops_stop : (ts : Lexemes) (o : Option (Decl S × Lexemes)) → at mark read_top ts ≡ o → (n : ℕ) → length ts ≤ n
      → ((us : Lexemes) → length us < n → (x : List (Decl S)) × (r : Lexemes) × (at mark read_tops us ≡ Some (x, r)) × Ahead r us)
      → (x : List (Decl S)) × (r : Lexemes) × (at mark read_tops ts ≡ Some (x, r)) × Ahead r ts
  unfolding tops_step
  tops_stop ts (Some (d, lex c semicolon ∷ us)) e n le k =
      let g = at_sound mark read_top ts (d, lex c semicolon ∷ us) e in
      let i = k us (omega (arith, g.0, le)) in
      (d ∷ i.0, i.1, finish mark read_tops ts (looks mark e (asks mark i.2 (gives mark))), inr (omega (arith, g.0, ahead_length i.3)))
  tops_stop ts _ e n le k = ([], ts, finish mark read_tops ts (looks mark e (gives mark)), inl refl)

  tops_total : (n : ℕ) (ts : Lexemes) → length ts ≤ n → (x : List (Decl S)) × (r : Lexemes) × (at mark read_tops ts ≡ Some (x, r)) × Ahead r ts
  tops_total zero ts le = tops_stop ts (at mark read_top ts) refl zero le (λ us lt. absurd (omega (arith, lt)))
  tops_total (suc n) ts le = tops_stop ts (at mark read_top ts) refl (suc n) le (λ us lt. tops_total n us (omega (arith, lt)))

  -- declarations as far as they go from here on, after imports as far as they go
  middle : {ds : List (Decl S)} {mid r : Lexemes} → SpellsTops mark ds mid r
      → (is : List (ImportDecl S)) × (m : Lexemes) × (es : List (Decl S)) × (r2 : Lexemes) × (at mark read_imports mid ≡ Some (is, m)) × (at mark read_tops m ≡ Some (es, r2)) × Ahead r2 r
  middle (no_tops_rule {r = r}) =
      let i = imports_total (length r) r (omega arith) in
      let t = tops_total (length i.1) i.1 (omega arith) in
      (i.0, i.1, t.0, t.1, i.2, t.2, ahead_both t.3 i.3)
  middle (more_tops_rule {d = d} {ds = ds} {ts = ts} {r = r} x k) =
      let t = tops_total (length r) r (omega arith) in
      ([], ts, (d ∷ ds) ++ t.0, t.1, no_more_imports ts (top_imports_not x), tops_on (more_tops_rule x k) t.2, t.3)

  -- a front is read, and no shorter one than is spelled
  pub front_longest : {f : File S} {ts r : Lexemes} → SpellsFront mark f ts r → (g : File S) × (r2 : Lexemes) × (at mark read_front ts ≡ Some (g, r2)) × Ahead r2 r
  unfolding front_step
  front_longest (front_rule {c = c} {d = d} {n = n} {is = is} {ts = ts} {r = r} p i t) =
      let m = middle t in (
        record { package_name = name_here mark c n (lex d semicolon ∷ ts); imports = is ++ m.0; decls = m.2 },
        m.3,
        finish mark read_front _ (passes mark p (asks mark (imports_on i m.4) (asks mark m.5 (gives mark)))),
        m.6,
      )

  -- ---- whole files

  tops_end : at mark read_tops [] ≡ Some ([], [])
  unfolding tops_step top_step
  tops_end = finish mark read_tops [] (looks mark (finish mark read_top [] (record { is = refl })) (gives mark))

  no_import_first : {ds : List (Decl S)} {ts : Lexemes} → SpellsTops mark ds ts [] → starts_import ts ≡ false
  no_import_first no_tops_rule = refl
  no_import_first (more_tops_rule d k) = top_imports_not d

  -- all the tokens of a file are read as it
  pub file_reads : {f : File S} {ts : Lexemes} → SpellsFront mark f ts [] → at mark read_front ts ≡ Some (f, [])
  unfolding front_step
  file_reads (front_rule {c = c} {d = d} {n = n} {is = is} {ds = ds} {ts = ts} {mid = mid} p i t) =
      finish mark read_front _ (passes mark p (asks mark (imports_on i (no_more_imports mid (no_import_first t)) ∙ ap (λ (x : List (ImportDecl S)). Some (x, mid)) (append-nil is))
      (asks mark (tops_on t tops_end ∙ ap (λ (x : List (Decl S)). Some (x, [])) (append-nil ds)) (gives mark))))
