-- What spells a type, a signature or names is read as it.
use Rattle.std.proofs.Common.{◌≡◌, ℕ, Bool, true, false, List, [], ◌∷◌, Option, Some, None, refl}
use Rattle.go_tree.specs.declared.spans.Span.{Span}
use Rattle.go_tree.specs.Tree.{NameAt, TypeExpr, named, Fields, no_fields, Param, Sig}
use Rattle.go_tree.specs.GoWords.Terminals.{lex, ident, comma, dot, ellipsis, paren, end_paren, brace, end_brace}
use Rattle.go_read.specs.SpellsTypes.{Lexemes, rest_named_rule, comma_rest_named_rule, rest_unnamed_rule, comma_rest_unnamed_rule, rest_rule, named_rest_rule, name_here, params_of, unnamed, SpellsType, SpellsFields, SpellsEntries, SpellsNamed, SpellsUnnamed, SpellsParams, SpellsResults, SpellsSig, SpellsNames, named_rule, qualified_rule, pointer_rule, slice_type_rule, map_type_rule, struct_type_rule, type_parens_rule, no_fields_rule, last_field_rule, more_fields_rule, last_entry_rule, more_entries_rule, last_named_rule, comma_named_rule, more_named_rule, last_unnamed_rule, comma_unnamed_rule, more_unnamed_rule, no_params_rule, named_params_rule, unnamed_params_rule, no_results_rule, params_results_rule, type_result_rule, sig_rule, last_name_rule, more_names_rule}
use Rattle.go_read.specs.Goals.{read_type, read_fields, read_entries, read_named, read_unnamed, read_params, read_sig, read_names}
use Rattle.go_read.specs.Programs.{give, ask, look}
use Rattle.go_read.specs.ReadTypes.{type_step, fields_after, fields_step, entries_step, named_after, named_step, unnamed_after, unnamed_step, params_either, params_step, results_step, sig_step, names_step}
use Rattle.go_read.specs.Reading.{at}
use Rattle.go_read.proofs.Sound.{at_sound}
use Rattle.go_read.specs.Follows.{is_dotted}
use Rattle.go_read.proofs.Finds.{Runs, gives, asks, looks, finish, is_brace, is_end_brace, is_comma, is_end_paren, starts_word, begins_type}

module _ {S : Type 0} (mark : Lexemes → Lexemes → S) where
  pub type_begins : {t : TypeExpr S} {ts r : Lexemes} → SpellsType mark t ts r → begins_type ts ≡ true
  type_begins named_rule = refl
  type_begins qualified_rule = refl
  type_begins (pointer_rule d) = refl
  type_begins (slice_type_rule d) = refl
  type_begins (map_type_rule d k) = refl
  type_begins (struct_type_rule d) = refl
  type_begins (type_parens_rule d) = refl

  entries_begin : {t : TypeExpr S} {es : List (S × NameAt S)} {ts r : Lexemes} → SpellsEntries mark t es ts r → starts_word ts ≡ true
  entries_begin (last_entry_rule d) = refl
  entries_begin (more_entries_rule d) = refl

  named_begins : {v : Bool} {ps : List (Param S)} {ts r : Lexemes} → SpellsNamed mark v ps ts r → starts_word ts ≡ true
  named_begins (last_named_rule d) = entries_begin d
  named_begins (comma_named_rule d) = entries_begin d
  named_begins (more_named_rule d k) = entries_begin d
  named_begins (rest_named_rule (named_rest_rule d)) = refl
  named_begins (comma_rest_named_rule (named_rest_rule d)) = refl

  word_opens : (ts : Lexemes) → starts_word ts ≡ true → is_end_paren ts ≡ false
  word_opens (lex s (ident n) ∷ ts) e = refl
  word_opens _ e = absurd cc

  type_opens : (ts : Lexemes) → begins_type ts ≡ true → is_end_paren ts ≡ false
  type_opens (lex s end_paren ∷ ts) e = absurd cc
  type_opens _ e = refl

  unnamed_opens : {v : Bool} {ps : List (Param S)} {ts r : Lexemes} → SpellsUnnamed mark v ps ts r → is_end_paren ts ≡ false
  unnamed_opens (last_unnamed_rule {ts = ts} d) = type_opens ts (type_begins d)
  unnamed_opens (comma_unnamed_rule {ts = ts} d) = type_opens ts (type_begins d)
  unnamed_opens (more_unnamed_rule {ts = ts} d k) = type_opens ts (type_begins d)
  unnamed_opens (rest_unnamed_rule (rest_rule d)) = refl
  unnamed_opens (comma_rest_unnamed_rule (rest_rule d)) = refl

  -- ---- the way that a step goes, by the first token

  name_go : (s : Span) (n : List ℕ) (r : Lexemes) → is_dotted r ≡ false → Runs mark (type_step mark (lex s (ident n) ∷ r)) (Some (named (mark (lex s (ident n) ∷ r) r) None (name_here mark s n r), r))
  unfolding type_step
  name_go s n (lex d dot ∷ lex c (ident m) ∷ r) e = absurd cc
  name_go s n _ e = gives mark

  fields_none : (r : Lexemes) → is_end_brace r ≡ true → Runs mark (fields_step mark r) (Some (no_fields, r))
  unfolding fields_step
  fields_none (lex c end_brace ∷ r) e = gives mark
  fields_none _ e = absurd cc

  fields_go : {o : Option (Fields S × Lexemes)} (ts : Lexemes) → starts_word ts ≡ true → Runs mark (ask read_entries ts (λ x r. fields_after mark x r)) o → Runs mark (fields_step mark ts) o
  unfolding fields_step
  fields_go (lex s (ident n) ∷ ts) e h = h
  fields_go _ e h = absurd cc

  entries_go : {o : Option ((TypeExpr S × List (S × NameAt S)) × Lexemes)} (s : Span) (n : List ℕ) (ts : Lexemes) → begins_type ts ≡ true
      → Runs mark (ask read_type ts (λ t r. give (t, (mark (lex s (ident n) ∷ ts) r, name_here mark s n ts) ∷ []) r)) o → Runs mark (entries_step mark (lex s (ident n) ∷ ts)) o
  unfolding entries_step
  entries_go s n (lex c comma ∷ ts) e h = absurd cc
  entries_go s n _ e h = h

  names_last : (s : Span) (n : List ℕ) (r : Lexemes) → is_comma r ≡ false → Runs mark (names_step mark (lex s (ident n) ∷ r)) (Some (name_here mark s n r ∷ [], r))
  unfolding names_step
  names_last s n (lex c comma ∷ r) e = absurd cc
  names_last s n _ e = gives mark

  -- ---- types

  mutual
    unfolding type_step fields_step entries_step

    pub type_reads : {t : TypeExpr S} {ts r : Lexemes} → SpellsType mark t ts r → is_dotted r ≡ false → at mark read_type ts ≡ Some (t, r)
    type_reads (named_rule {s = s} {n = n} {r = r}) e = finish mark read_type _ (name_go s n r e)
    type_reads qualified_rule e = finish mark read_type _ (gives mark)
    type_reads (pointer_rule d) e = finish mark read_type _ (asks mark (type_reads d e) (gives mark))
    type_reads (slice_type_rule d) e = finish mark read_type _ (asks mark (type_reads d e) (gives mark))
    type_reads (map_type_rule d k) e = finish mark read_type _ (asks mark (type_reads d refl) (asks mark (type_reads k e) (gives mark)))
    type_reads (struct_type_rule d) e = finish mark read_type _ (asks mark (fields_reads d refl) (gives mark))
    type_reads (type_parens_rule d) e = finish mark read_type _ (asks mark (type_reads d refl) (gives mark))

    fields_reads : {fs : Fields S} {ts r : Lexemes} → SpellsFields mark fs ts r → is_end_brace r ≡ true → at mark read_fields ts ≡ Some (fs, r)
    fields_reads (no_fields_rule {r = r}) e = finish mark read_fields _ (fields_none r e)
    fields_reads (last_field_rule {ts = ts} d) e = finish mark read_fields _ (fields_go ts (entries_begin d) (asks mark (entries_reads d refl) (gives mark)))
    fields_reads (more_fields_rule {ts = ts} d k) e = finish mark read_fields _ (fields_go ts (entries_begin d) (asks mark (entries_reads d refl) (asks mark (fields_reads k e) (gives mark))))

    entries_reads : {t : TypeExpr S} {es : List (S × NameAt S)} {ts r : Lexemes} → SpellsEntries mark t es ts r → is_dotted r ≡ false → at mark read_entries ts ≡ Some ((t, es), r)
    entries_reads (last_entry_rule {s = s} {n = n} {ts = ts} d) e = finish mark read_entries _ (entries_go s n ts (type_begins d) (asks mark (type_reads d e) (gives mark)))
    entries_reads (more_entries_rule d) e = finish mark read_entries _ (asks mark (entries_reads d e) (gives mark))

  -- ---- parameters

  named_go : {o : Option (List (Param S) × Lexemes)} (v : Bool) (x : TypeExpr S × List (S × NameAt S)) (c : Span) (ts : Lexemes) → starts_word ts ≡ true
      → Runs mark (ask (read_named v) ts (λ ps r. give (params_of x.1 x.0 ps) r)) o → Runs mark (named_after mark v x (lex c comma ∷ ts)) o
  named_go v x c (lex e end_paren ∷ ts) w h = absurd cc
  named_go v x c _ w h = h

  unnamed_go : {o : Option (List (Param S) × Lexemes)} (v : Bool) (t : TypeExpr S) (c : Span) (ts : Lexemes) → is_end_paren ts ≡ false
      → Runs mark (ask (read_unnamed v) ts (λ ps r. give (unnamed t ∷ ps) r)) o → Runs mark (unnamed_after mark v t (lex c comma ∷ ts)) o
  unnamed_go v t c (lex e end_paren ∷ ts) w h = absurd cc
  unnamed_go v t c _ w h = h

  params_go : {o : Option (List (Param S) × Lexemes)} (v : Bool) (s : Span) (ts : Lexemes) → is_end_paren ts ≡ false
      → Runs mark (look (read_named v) ts (λ o. params_either mark v ts o)) o → Runs mark (params_step mark v (lex s paren ∷ ts)) o
  unfolding params_step
  params_go v s (lex e end_paren ∷ ts) w h = absurd cc
  params_go v s _ w h = h

  -- names and a type are no variadic parameter
  word_first : {o : Option (List (Param S) × Lexemes)} (v : Bool) (s : Span) (n : List ℕ) (ts : Lexemes) → begins_type ts ≡ true
      → Runs mark (ask read_entries (lex s (ident n) ∷ ts) (λ x r. named_after mark v x r)) o → Runs mark (named_step mark v (lex s (ident n) ∷ ts)) o
  unfolding named_step
  word_first true s n (lex d ellipsis ∷ ts) b h = absurd cc
  word_first true s n _ b h = h
  word_first false s n ts b h = h

  entries_first : {o : Option (List (Param S) × Lexemes)} {t : TypeExpr S} {es : List (S × NameAt S)} {ts r : Lexemes} (v : Bool) → SpellsEntries mark t es ts r
      → Runs mark (ask read_entries ts (λ x r. named_after mark v x r)) o → Runs mark (named_step mark v ts) o
  unfolding named_step
  entries_first v (last_entry_rule {s = s} {n = n} {ts = ts} d) h = word_first v s n ts (type_begins d) h
  entries_first true (more_entries_rule d) h = h
  entries_first false (more_entries_rule d) h = h

  type_first : {o : Option (List (Param S) × Lexemes)} (v : Bool) (ts : Lexemes) → begins_type ts ≡ true
      → Runs mark (ask read_type ts (λ t r. unnamed_after mark v t r)) o → Runs mark (unnamed_step mark v ts) o
  unfolding unnamed_step
  type_first true (lex d ellipsis ∷ ts) b h = absurd cc
  type_first true _ b h = h
  type_first false ts b h = h

  named_reads : {v : Bool} {ps : List (Param S)} {ts r : Lexemes} → SpellsNamed mark v ps ts r → at mark (read_named v) ts ≡ Some (ps, r)
  unfolding named_step
  named_reads (last_named_rule {v = v} {ts = ts} d) = finish mark (read_named v) ts (entries_first v d (asks mark (entries_reads d refl) (gives mark)))
  named_reads (comma_named_rule {v = v} {ts = ts} d) = finish mark (read_named v) ts (entries_first v d (asks mark (entries_reads d refl) (gives mark)))
  named_reads (more_named_rule {v = v} {c = c} {t = t} {es = es} {ts = ts} {mid = mid} d k) =
      finish mark (read_named v) ts (entries_first v d (asks mark (entries_reads d refl) (named_go v (t, es) c mid (named_begins k) (asks mark (named_reads k) (gives mark)))))
  named_reads (rest_named_rule (named_rest_rule d)) = finish mark (read_named true) _ (asks mark (type_reads d refl) (gives mark))
  named_reads (comma_rest_named_rule (named_rest_rule d)) = finish mark (read_named true) _ (asks mark (type_reads d refl) (gives mark))

  unnamed_reads : {v : Bool} {ps : List (Param S)} {ts r : Lexemes} → SpellsUnnamed mark v ps ts r → at mark (read_unnamed v) ts ≡ Some (ps, r)
  unfolding unnamed_step
  unnamed_reads (last_unnamed_rule {v = v} {ts = ts} d) = finish mark (read_unnamed v) ts (type_first v ts (type_begins d) (asks mark (type_reads d refl) (gives mark)))
  unnamed_reads (comma_unnamed_rule {v = v} {ts = ts} d) = finish mark (read_unnamed v) ts (type_first v ts (type_begins d) (asks mark (type_reads d refl) (gives mark)))
  unnamed_reads (more_unnamed_rule {v = v} {c = c} {t = t} {ts = ts} {mid = mid} d k) =
      finish mark (read_unnamed v) ts (type_first v ts (type_begins d) (asks mark (type_reads d refl) (unnamed_go v t c mid (unnamed_opens k) (asks mark (unnamed_reads k) (gives mark)))))
  unnamed_reads (rest_unnamed_rule (rest_rule d)) = finish mark (read_unnamed true) _ (asks mark (type_reads d refl) (gives mark))
  unnamed_reads (comma_rest_unnamed_rule (rest_rule d)) = finish mark (read_unnamed true) _ (asks mark (type_reads d refl) (gives mark))

  -- after a name that a type follows, no list of types goes on
  after_word : {u : TypeExpr S} {s : Span} {n : List ℕ} {ts mid : Lexemes} → begins_type ts ≡ true → SpellsType mark u (lex s (ident n) ∷ ts) mid → begins_type mid ≡ true
  after_word e named_rule = e
  after_word e qualified_rule = absurd cc

  no_types : {v : Bool} {qs : List (Param S)} {s : Span} {n : List ℕ} {ts r : Lexemes} → begins_type ts ≡ true → SpellsUnnamed mark v qs (lex s (ident n) ∷ ts) r → ⊥
  no_types e (last_unnamed_rule d) = let f = after_word e d in cc
  no_types e (comma_unnamed_rule d) = let f = after_word e d in cc
  no_types e (more_unnamed_rule d k) = let f = after_word e d in cc
  no_types e (rest_unnamed_rule d) = elim d [ ]
  no_types e (comma_rest_unnamed_rule d) = elim d [ ]

  -- the rest of a list of types after a name and a comma
  types_rest : {v : Bool} {qs : List (Param S)} {s c : Span} {n : List ℕ} {ts r : Lexemes} → starts_word ts ≡ true → SpellsUnnamed mark v qs (lex s (ident n) ∷ lex c comma ∷ ts) r → (ps : List (Param S)) × SpellsUnnamed mark v ps ts r
  types_rest e (last_unnamed_rule d) = elim d [ ]
  types_rest e (comma_unnamed_rule named_rule) = absurd cc
  types_rest e (more_unnamed_rule {ps = ps} named_rule k) = (ps, k)
  types_rest e (rest_unnamed_rule d) = elim d [ ]
  types_rest e (comma_rest_unnamed_rule d) = elim d [ ]

  apart_entries : {t : TypeExpr S} {es : List (S × NameAt S)} {ts a : Lexemes} → SpellsEntries mark t es ts a → {v : Bool} {qs : List (Param S)} {r : Lexemes} → SpellsUnnamed mark v qs ts r → ⊥
  apart_entries (last_entry_rule d) k = no_types (type_begins d) k
  apart_entries (more_entries_rule d) k = apart_entries d (types_rest (entries_begin d) k).1

  -- no list of types goes on with dots after a name
  no_dots : {v : Bool} {qs : List (Param S)} {s d : Span} {n : List ℕ} {ts r : Lexemes} → SpellsUnnamed mark v qs (lex s (ident n) ∷ lex d ellipsis ∷ ts) r → ⊥
  no_dots (last_unnamed_rule d) = elim d [ ]
  no_dots (comma_unnamed_rule d) = elim d [ ]
  no_dots (more_unnamed_rule d k) = elim d [ ]
  no_dots (rest_unnamed_rule d) = elim d [ ]
  no_dots (comma_rest_unnamed_rule d) = elim d [ ]

  -- no list has both forms
  apart_params : {v w : Bool} {ps qs : List (Param S)} {ts a r : Lexemes} → SpellsNamed mark v ps ts a → SpellsUnnamed mark w qs ts r → ⊥
  apart_params (last_named_rule d) k = apart_entries d k
  apart_params (comma_named_rule d) k = apart_entries d k
  apart_params (more_named_rule d j) k = apart_entries d k
  apart_params (rest_named_rule (named_rest_rule d)) k = no_dots k
  apart_params (comma_rest_named_rule (named_rest_rule d)) k = no_dots k

  named_none : {v : Bool} {qs : List (Param S)} {ts r : Lexemes} → SpellsUnnamed mark v qs ts r → at mark (read_named v) ts ≡ None
  named_none {v} {qs} {ts} {r} k = go (at mark (read_named v) ts) refl
    where
      go : (o : Option (List (Param S) × Lexemes)) → at mark (read_named v) ts ≡ o → o ≡ None
      go None e = refl
      go (Some y) e = absurd (apart_params (at_sound mark (read_named v) ts y e).1 k)

  pub params_reads : {v : Bool} {ps : List (Param S)} {ts r : Lexemes} → SpellsParams mark v ps ts r → at mark (read_params v) ts ≡ Some (ps, r)
  unfolding params_step
  params_reads (no_params_rule {v = v}) = finish mark (read_params v) _ (gives mark)
  params_reads (named_params_rule {v = v} {s = s} {ts = ts} d) = finish mark (read_params v) _ (params_go v s ts (word_opens ts (named_begins d)) (looks mark (named_reads d) (gives mark)))
  params_reads (unnamed_params_rule {v = v} {s = s} {ts = ts} d) = finish mark (read_params v) _ (params_go v s ts (unnamed_opens d) (looks mark (named_none d) (asks mark (unnamed_reads d) (gives mark))))

  -- ---- signatures

  no_results_go : (ps : List (Param S)) (r : Lexemes) → is_brace r ≡ true → Runs mark (results_step mark ps r) (Some (record { params = ps; results = [] }, r))
  no_results_go ps (lex s brace ∷ r) e = gives mark
  no_results_go ps _ e = absurd cc

  params_results_go : (ps : List (Param S)) {rs : List (Param S)} {ts r : Lexemes} → SpellsParams mark false rs ts r → at mark (read_params false) ts ≡ Some (rs, r) → Runs mark (results_step mark ps ts) (Some (record { params = ps; results = rs }, r))
  params_results_go ps no_params_rule e = asks mark e (gives mark)
  params_results_go ps (named_params_rule d) e = asks mark e (gives mark)
  params_results_go ps (unnamed_params_rule d) e = asks mark e (gives mark)

  -- a result in parentheses is a list of one
  type_result_go : (ps : List (Param S)) {t : TypeExpr S} {ts r : Lexemes} → SpellsType mark t ts r → at mark read_type ts ≡ Some (t, r) → Runs mark (results_step mark ps ts) (Some (record { params = ps; results = unnamed t ∷ [] }, r))
  type_result_go ps (type_parens_rule d) e = asks mark (params_reads (unnamed_params_rule (last_unnamed_rule d))) (gives mark)
  type_result_go ps named_rule e = asks mark e (gives mark)
  type_result_go ps qualified_rule e = asks mark e (gives mark)
  type_result_go ps (pointer_rule d) e = asks mark e (gives mark)
  type_result_go ps (slice_type_rule d) e = asks mark e (gives mark)
  type_result_go ps (map_type_rule d k) e = asks mark e (gives mark)
  type_result_go ps (struct_type_rule d) e = asks mark e (gives mark)

  brace_undotted : (r : Lexemes) → is_brace r ≡ true → is_dotted r ≡ false
  brace_undotted (lex s brace ∷ r) e = refl
  brace_undotted _ e = absurd cc

  results_go : (ps : List (Param S)) {rs : List (Param S)} {ts r : Lexemes} → SpellsResults mark rs ts r → is_brace r ≡ true → Runs mark (results_step mark ps ts) (Some (record { params = ps; results = rs }, r))
  results_go ps (no_results_rule {r = r}) e = no_results_go ps r e
  results_go ps (params_results_rule d) e = params_results_go ps d (params_reads d)
  results_go ps (type_result_rule {r = r} d) e = type_result_go ps d (type_reads d (brace_undotted r e))

  pub sig_reads : {v : Bool} {g : Sig S} {ts r : Lexemes} → SpellsSig mark v g ts r → is_brace r ≡ true → at mark (read_sig v) ts ≡ Some (g, r)
  unfolding sig_step
  sig_reads (sig_rule {v = v} {ps = ps} d k) e = finish mark (read_sig v) _ (asks mark (params_reads d) (results_go ps k e))

  -- ---- names

  pub names_reads : {ns : List (NameAt S)} {ts r : Lexemes} → SpellsNames mark ns ts r → is_comma r ≡ false → at mark read_names ts ≡ Some (ns, r)
  unfolding names_step
  names_reads (last_name_rule {s = s} {n = n} {r = r}) e = finish mark read_names _ (names_last s n r e)
  names_reads (more_names_rule d) e = finish mark read_names _ (asks mark (names_reads d e) (gives mark))
