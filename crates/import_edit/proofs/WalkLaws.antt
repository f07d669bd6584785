-- A walk through the imports of a file, step by step.
use Rattle.std.proofs.Common.{◌≡◌, ◌∙◌, ◌+◌, ◌-◌, ◌≤◌, ◌<◌, ℕ, Bool, true, false, nat_eq, ◌&&◌, if◌then◌else◌, List, [], ◌∷◌, ◌++◌, length, drop, map, refl, ap, arith, append_assoc, append-nil}
use Rattle.std.specs.List.{list_any, list_all}
use Rattle.std.proofs.lemmas.Bool.Decides.{nat_tests}
use Rattle.std.proofs.lemmas.List.{length-drop}
use Rattle.go_tree.specs.declared.spans.Span.{Span}
use Rattle.go_tree.specs.declared.tokens.Token.{Token}
use Rattle.go_tree.specs.declared.tokens.Comment.{Comment}
use Rattle.go_tree.specs.declared.files.ImportDecl as tree
use Rattle.go_tree.specs.File.{ImportSpec, ImportDecl}
use Rattle.go_tree.specs.FileView.{import_decl_of}
use Rattle.run_rules.specs.ImportRules.Removed.{same_span, through_semicolon, goes, spec_range, specs_ranges, decl_ranges, ranges}
use Rattle.run_rules.specs.ImportRules.Laid.{IsInked, StandInOrder, SpecsLie, BodyLies, DeclsLie}
use Rattle.run_rules.proofs.ImportRules.Ranges.{ink_inside, Through, through}
use Rattle.import_edit.specs.declared.removed.Source.{Source}
use Rattle.import_edit.specs.declared.removed.Cursor.{Cursor}
use Rattle.import_edit.specs.Cursors.{TokensServe, CommentsServe}
use Rattle.import_edit.specs.Walks.{Serves, EndsWithin, SpecsFit, DeclsFit, spec_ranges, SpecsLeft, DeclsLeft}

-- ---- cursors

pub tokens_later : (ts : List Token) (k from to : ℕ) → from ≤ to → TokensServe ts k from → TokensServe ts k to
tokens_later ts k from to le h = record { within = h.within; alike = λ at m. h.alike at (omega arith) }

pub comments_later : (cs : List Comment) (k from to : ℕ) → from ≤ to → CommentsServe cs k from → CommentsServe cs k to
comments_later cs k from to le h = record { within = h.within; alike = λ s m. h.alike s (omega arith) }

-- no declaration is left
abbrev pub is_none : List (ImportDecl Span) → Bool
is_none [] = true
is_none (d ∷ ds) = false

module _ (source : Source) where
  -- ---- specs

  fit_over : (from to : ℕ) (ss : List (ImportSpec Span)) → SpecsFit source from to ss → from ≤ to
  fit_over from to [] h = h
  fit_over from to (s ∷ ss) h = let k : s.span.end ≤ to = fit_over s.span.end to ss h.3 in omega (arith, k, h.0)

  pub spec_serves : (cursor : Cursor) (start to : ℕ) (s : ImportSpec Span) (ss : List (ImportSpec Span)) → SpecsLeft source cursor start to (s ∷ ss) → TokensServe source.tokens.now cursor.token s.span.end
  spec_serves cursor start to s ss h = tokens_later source.tokens.now cursor.token h.from s.span.end h.fit.0 h.serves

  pub specs_next : (cursor next : Cursor) (start to : ℕ) (s : ImportSpec Span) (ss : List (ImportSpec Span)) → SpecsLeft source cursor start to (s ∷ ss)
      → TokensServe source.tokens.now next.token s.span.end → SpecsLeft source next start to ss
  specs_next cursor next start to s ss h serves =
      record { from = s.span.end; behind = omega (arith, h.behind, h.fit.0); serves = serves; fit = h.fit.3 }

  pub specs_done : (cursor : Cursor) (start to : ℕ) (ss : List (ImportSpec Span)) → SpecsLeft source cursor start to ss → ss ≡ [] → TokensServe source.tokens.now cursor.token to
  specs_done cursor start to ss h e = tokens_later source.tokens.now cursor.token h.from to (fit_over h.from to ss h.fit) h.serves

  chosen : (b : Bool) (r : Span) (old rs : List Span) → (old ++ (if b then r ∷ [] else [])) ++ rs ≡ old ++ (if b then r ∷ rs else rs)
  chosen true r old rs = append_assoc old (r ∷ []) rs
  chosen false r old rs = append_assoc old [] rs

  pub spec_added : (old : List Span) (d : ImportDecl Span) (s : ImportSpec Span) (ss : List (ImportSpec Span))
      → (old ++ spec_ranges source d s) ++ specs_ranges source.text.now source.tokens.now source.comments.now source.unused.now d ss
      ≡ old ++ specs_ranges source.text.now source.tokens.now source.comments.now source.unused.now d (s ∷ ss)
  spec_added old d s ss =
      chosen (goes source.text.now source.tokens.now source.comments.now source.unused.now s) (spec_range source.text.now source.tokens.now source.comments.now source.unused.now d s) old
      (specs_ranges source.text.now source.tokens.now source.comments.now source.unused.now d ss)

  -- ---- declarations

  pub decl_serves : (cursor : Cursor) (d : ImportDecl Span) (ds : List (ImportDecl Span)) → DeclsLeft source cursor (d ∷ ds) → Serves source cursor d.span.start
  decl_serves cursor d ds h = record {
    tokens = tokens_later source.tokens.now cursor.token h.from d.span.start h.fit.0 h.serves.tokens;
    comments = comments_later source.comments.now cursor.comment h.from d.span.start h.fit.0 h.serves.comments;
  }

  pub decls_next : (cursor next : Cursor) (d : ImportDecl Span) (ds : List (ImportDecl Span)) → DeclsLeft source cursor (d ∷ ds) → Serves source next d.span.end → DeclsLeft source next ds
  decls_next cursor next d ds h serves = record { from = d.span.end; serves = serves; fit = h.fit.3 }

  and_true : (b : Bool) → (b && true) ≡ b
  and_true true = refl
  and_true false = refl

  and_false : (b : Bool) → (b && false) ≡ false
  and_false true = refl
  and_false false = refl

  pub decl_added : (grows adds : Bool) (old : List Span) (d : ImportDecl Span) (ds : List (ImportDecl Span)) → adds ≡ (grows && is_none ds)
      → (old ++ decl_ranges source.text.now source.tokens.now source.comments.now source.unused.now adds d) ++ ranges source.text.now source.tokens.now source.comments.now source.unused.now grows ds
      ≡ old ++ ranges source.text.now source.tokens.now source.comments.now source.unused.now grows (d ∷ ds)
  decl_added grows adds old d [] e =
      append-nil (old ++ decl_ranges source.text.now source.tokens.now source.comments.now source.unused.now adds d)
      ∙ ap (λ b. old ++ decl_ranges source.text.now source.tokens.now source.comments.now source.unused.now b d) (e ∙ and_true grows)
  decl_added grows adds old d (f ∷ ds) e =
      append_assoc old (decl_ranges source.text.now source.tokens.now source.comments.now source.unused.now adds d) (ranges source.text.now source.tokens.now source.comments.now source.unused.now grows (f ∷ ds))
      ∙ ap (λ b. old ++ (decl_ranges source.text.now source.tokens.now source.comments.now source.unused.now b d ++ ranges source.text.now source.tokens.now source.comments.now source.unused.now grows (f ∷ ds)))
      (e ∙ and_false grows)

  -- ---- where they lie

  ends_within : (at : ℕ) → StandInOrder source.text.now 0 source.tokens.now → at ≤ length source.text.now → EndsWithin source at
  ends_within at order le = let t : Through source.text.now source.tokens.now at (through_semicolon source.tokens.now at) = through source.text.now source.tokens.now 0 at order in t.within le

  inside : (s : Span) → IsInked source.text.now s → s.end ≤ length source.text.now
  inside s h = let k : s.end - 1 < length source.text.now = ink_inside source.text.now (s.end - 1) h.2 in omega (arith, k, h.0)

  specs_fit : (a from to b : ℕ) (ss : List (ImportSpec Span)) → StandInOrder source.text.now 0 source.tokens.now → a ≤ from → to ≤ b
      → SpecsLie source.text.now source.tokens.now from to ss → SpecsFit source a b ss
  specs_fit a from to b [] order p q h = omega (arith, h)
  specs_fit a from to b (s ∷ ss) order p q h =
      let k : s.span.end ≤ length source.text.now = inside s.span h.1 in
      (omega (arith, h.0, h.1.0), omega (arith, k, h.1.0), ends_within s.span.end order k, specs_fit s.span.end s.span.end to b ss order (omega arith) q h.3)

  body_fits : (sp : Span) (grouped : Bool) (ss : List (ImportSpec Span)) → StandInOrder source.text.now 0 source.tokens.now → IsInked source.text.now sp
      → BodyLies source.text.now source.tokens.now sp grouped ss → SpecsFit source sp.start sp.end ss
  body_fits sp true ss order ink h = specs_fit sp.start (sp.start + 1) (sp.end - 1) sp.end ss order (omega arith) (omega arith) h.0
  body_fits sp false [] order ink h = absurd h
  body_fits sp false (s ∷ []) order ink h =
      let k : s.span.end ≤ length source.text.now = inside s.span h.1 in
      (omega (arith, h.0, h.1.0), omega (arith, k, h.1.0), ends_within s.span.end order k, omega (arith, h.2))
  body_fits sp false (s ∷ t ∷ ss) order ink h = absurd h

  pub decls_fit : (a from : ℕ) (ds : List (ImportDecl Span)) → StandInOrder source.text.now 0 source.tokens.now → a ≤ from → DeclsLie source.text.now source.tokens.now from ds → DeclsFit source a ds
  decls_fit a from [] order le h = tt
  decls_fit a from (d ∷ ds) order le h =
      let k : d.span.end ≤ length source.text.now = inside d.span h.1.0 in (
        omega (arith, h.0),
        omega (arith, h.1.0.0),
        record {
          start = omega (arith, k, h.1.0.0);
          end = ends_within d.span.end order k;
          specs = body_fits d.span d.grouped d.specs order h.1.0 h.1.2;
        },
        decls_fit d.span.end d.span.end ds order (omega arith) h.2,
      )

none_by : (i : ℕ) (r : List tree.ImportDecl) (size : ℕ) → i < size → length r ≡ size - (i + 1) → nat_eq (i + 1) size ≡ is_none (map import_decl_of r)
none_by i [] size lt e = let k : i + 1 ≡ size = omega arith in grind (arith, nat_tests, k)
none_by i (d ∷ ds) size lt e = let k : (i + 1 ≡ size) → ⊥ = λ s. omega (arith, s) in grind (arith, nat_tests, k)

pub last_is : (i : ℕ) (decls : List tree.ImportDecl) → i < length decls → nat_eq (i + 1) (length decls) ≡ is_none (map import_decl_of (drop (i + 1) decls))
last_is i decls lt = none_by i (drop (i + 1) decls) (length decls) lt (length-drop (i + 1) decls)

-- ---- groups that go whole

pub and_behind : (a b c d e : Bool) → ((a && (b && (c && d))) && e) ≡ (a && (b && (c && (d && e))))
and_behind true true true d e = refl
and_behind true true false d e = refl
and_behind true false c d e = refl
and_behind false b c d e = refl

-- ---- the same specs go

module _ (text : List ℕ) (tokens : List Token) (comments : List Comment) (a b : List Span) (same : (q : Span) → list_any (same_span q) a ≡ list_any (same_span q) b) where
  all_same : (ss : List (ImportSpec Span)) → list_all (goes text tokens comments a) ss ≡ list_all (goes text tokens comments b) ss
  all_same [] = refl
  all_same (s ∷ ss) = rw (same s.span, all_same ss) refl

  specs_same : (d : ImportDecl Span) (ss : List (ImportSpec Span)) → specs_ranges text tokens comments a d ss ≡ specs_ranges text tokens comments b d ss
  specs_same d [] = refl
  specs_same d (s ∷ ss) = rw (same s.span, specs_same d ss) refl

  decl_same : (grows : Bool) (d : ImportDecl Span) → decl_ranges text tokens comments a grows d ≡ decl_ranges text tokens comments b grows d
  decl_same grows d = rw (all_same d.specs, specs_same d d.specs) refl

  pub ranges_same : (grows : Bool) (ds : List (ImportDecl Span)) → ranges text tokens comments a grows ds ≡ ranges text tokens comments b grows ds
  ranges_same grows [] = refl
  ranges_same grows (d ∷ []) = decl_same grows d
  ranges_same grows (d ∷ e ∷ ds) = rw (decl_same false d, ranges_same grows (e ∷ ds)) refl
