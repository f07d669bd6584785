-- Tokens of a file with imports removed and added.
use Rattle.std.proofs.Common.{◌≡◌, inl, inr, Bool, true, false, List, [], ◌∷◌, ◌++◌, map, refl, sym, ap, subst, ◌∙◌}
use Rattle.go_tree.specs.declared.spans.Span.{Span}
use Rattle.go_tree.specs.File.{ImportSpec, ImportDecl, File}
use Rattle.go_tree.specs.FileBare.{bare_import_spec, bare_import_decl, bare_decl, bare_file}
use Rattle.go_tree.specs.GoWords.Terminals.{Terminal, lex, ident, semicolon, paren, end_paren, key_import, key_package}
use Rattle.go_read.specs.SpellsTypes.{Lexemes}
use Rattle.go_read.specs.SpellsFiles.{SpellsImportSpec, SpellsImportSpecs, SpellsImport, SpellsImports, SpellsFront, path_rule, named_path_rule, no_import_specs_rule, last_import_spec_rule, more_import_specs_rule, import_rule, import_group_rule, no_imports_rule, more_imports_rule, front_rule}
use Rattle.go_read.specs.Bareness.{nowhere}
use Rattle.go_read.proofs.SpansAside as aside
use Rattle.splice_laws.specs.Imports.{SpecsWithout, without_spec, without_later_spec, ImportsWithout, without_import, without_spec_of, without_later, FileWithout, without, ImportsWithSpec, with_last_spec, with_later, FileWithSpec, with_spec, with_import, IsEnd, Shortened, TakesImport, TakesSpec}
use Rattle.splice_laws.proofs.Grafts.{Graft, base, step, joined, fronts, one_front, front_of, fronts_are, front_joined}
use Rattle.splice_laws.proofs.Frames.{import_spec_frame, import_frame}
use Rattle.splice_laws.specs.Ends.{begins_semicolon}
use Rattle.splice_laws.proofs.Closes.{Closing, last, more}

-- ---- what stands before and behind an import

-- an import spec or declaration stands behind it
abbrev pub is_opening : Terminal → Bool
is_opening paren = true
is_opening semicolon = true
is_opening _ = false

-- the last of the tokens is such a one; where there are none, as is said
abbrev pub last_open : Bool → Lexemes → Bool
last_open b [] = b
last_open b (lex _ x ∷ ts) = last_open (is_opening x) ts

abbrev pub begins_end_paren : Lexemes → Bool
begins_end_paren (lex _ end_paren ∷ _) = true
begins_end_paren _ = false

past_semicolon : (xs ys : Lexemes) (c : Span) (b : Bool) → last_open b (xs ++ lex c semicolon ∷ ys) ≡ last_open true ys
past_semicolon [] ys c b = refl
past_semicolon (lex s x ∷ xs) ys c b = past_semicolon xs ys c (is_opening x)

opens_over : {c : Span} {m n r q ts us : Lexemes} (f : Graft (lex c semicolon ∷ m) (lex c semicolon ∷ n) ts us) (g : Graft r q m n) (b : Bool) → last_open b (front_of (joined f (step {t = lex c semicolon} g))) ≡ last_open true (front_of g)
opens_over {c} f g b = ap (λ (xs : Lexemes). last_open b xs) (front_joined f (step {t = lex c semicolon} g)) ∙ past_semicolon (front_of f) (front_of g) c b

closing_then : {q r ts : Lexemes} → Closing q ts → Closing r q → Closing r ts
closing_then (last e) c = more c
closing_then (more k) c = more (closing_then k c)

module _ {S : Type 0} (mark : Lexemes → Lexemes → S) where
  spec_mark : {x : ImportSpec S} {ts r : Lexemes} → SpellsImportSpec mark x ts r → x.span ≡ mark ts r
  spec_mark path_rule = refl
  spec_mark named_path_rule = refl

  spec_closes : {x : ImportSpec S} {ts r : Lexemes} → SpellsImportSpec mark x ts r → Closing r ts
  spec_closes path_rule = last refl
  spec_closes named_path_rule = more (last refl)

  spec_starts : {x : ImportSpec S} {ts r : Lexemes} → SpellsImportSpec mark x ts r → begins_semicolon ts ≡ false
  spec_starts path_rule = refl
  spec_starts named_path_rule = refl

  specs_close : {xs : List (ImportSpec S)} {ts r : Lexemes} {e : Span} → SpellsImportSpecs mark xs ts (lex e end_paren ∷ r) → Closing r ts
  specs_close no_import_specs_rule = last refl
  specs_close (last_import_spec_rule d) = closing_then (spec_closes d) (last refl)
  specs_close (more_import_specs_rule d k) = closing_then (spec_closes d) (more (specs_close k))

  import_closes : {d : ImportDecl S} {ts r : Lexemes} → SpellsImport mark d ts r → Closing r ts
  import_closes (import_rule a) = more (spec_closes a)
  import_closes (import_group_rule a) = more (more (specs_close a))

  import_starts : {d : ImportDecl S} {ts r : Lexemes} → SpellsImport mark d ts r → begins_semicolon ts ≡ false
  import_starts (import_rule a) = refl
  import_starts (import_group_rule a) = refl

  import_mark : {d : ImportDecl S} {ts r : Lexemes} → SpellsImport mark d ts r → d.span ≡ mark ts r
  import_mark (import_rule a) = refl
  import_mark (import_group_rule a) = refl

  -- ---- without

  -- from a place on, where a node ends, and what goes behind it; and all without them
  record Cut (m : S) (A : Lexemes → Type 0) (ts : Lexemes) : Type 0 where
    start : Lexemes
    end : Lexemes
    rest : Lexemes
    own : (us : Lexemes) × Graft (end ++ rest) (end ++ rest) start us
    marked : m ≡ mark start (end ++ rest)
    is_end : IsEnd end
    shorter : (us : Lexemes) × Graft start rest ts us × A us
    opens : last_open true (front_of shorter.1) ≡ true
    closes : Closing (end ++ rest) start
    starts : begins_semicolon start ≡ false
    ends : end ≡ [] → begins_end_paren rest ≡ true

  specs_cut : {m : S} {xs ys : List (ImportSpec S)} {ts r : Lexemes} → SpellsImportSpecs mark xs ts r → SpecsWithout m xs ys → Cut m (λ us. SpellsImportSpecs nowhere (map bare_import_spec ys) us r) ts
  specs_cut no_import_specs_rule p = elim p [ ]
  specs_cut (last_import_spec_rule {e = e} {ts = ts} {r = r} d) (without_spec q) = record {
    start = ts;
    end = [];
    rest = lex e end_paren ∷ r;
    own = let y = import_spec_frame (aside.import_spec_bare mark d) (lex e end_paren ∷ r) in (y.0, y.1);
    marked = sym q ∙ spec_mark d;
    is_end = inl refl;
    shorter = (lex e end_paren ∷ r, base, no_import_specs_rule);
    opens = refl;
    closes = spec_closes d;
    starts = spec_starts d;
    ends = λ q. refl;
  }
  specs_cut (last_import_spec_rule d) (without_later_spec p) = elim p [ ]
  specs_cut (more_import_specs_rule {c = c} {ts = ts} {mid = mid} d k) (without_spec q) = record {
    start = ts;
    end = lex c semicolon ∷ [];
    rest = mid;
    own = let y = import_spec_frame (aside.import_spec_bare mark d) (lex c semicolon ∷ mid) in (y.0, y.1);
    marked = sym q ∙ spec_mark d;
    is_end = inr (c, refl);
    shorter = (mid, base, aside.import_specs_bare mark k);
    opens = refl;
    closes = spec_closes d;
    starts = spec_starts d;
    ends = λ q. absurd cc;
  }
  specs_cut (more_import_specs_rule {c = c} d k) (without_later_spec p) =
      let x = specs_cut k p in
      let y = import_spec_frame (aside.import_spec_bare mark d) (lex c semicolon ∷ x.shorter.0) in
      record { start = x.start; end = x.end; rest = x.rest; own = x.own; marked = x.marked; is_end = x.is_end; shorter = (y.0, joined y.1 (step x.shorter.1), more_import_specs_rule y.2 x.shorter.2); opens = opens_over y.1 x.shorter.1 true ∙ x.opens; closes = x.closes; starts = x.starts; ends = x.ends }

  imports_cut : {m : S} {ds es : List (ImportDecl S)} {ts r : Lexemes} → SpellsImports mark ds ts r → ImportsWithout m ds es → Cut m (λ us. SpellsImports nowhere (map bare_import_decl es) us r) ts
  imports_cut no_imports_rule p = elim p [ ]
  imports_cut (more_imports_rule {c = c} {ts = ts} {mid = mid} d k) (without_import q) = record {
    start = ts;
    end = lex c semicolon ∷ [];
    rest = mid;
    own = let y = import_frame (aside.import_bare mark d) (lex c semicolon ∷ mid) in (y.0, y.1);
    marked = sym q ∙ import_mark d;
    is_end = inr (c, refl);
    shorter = (mid, base, aside.imports_bare mark k);
    opens = refl;
    closes = import_closes d;
    starts = import_starts d;
    ends = λ q. absurd cc;
  }
  imports_cut (more_imports_rule (import_group_rule {s = s} {b = b} {e = e} d) k) (without_spec_of p) =
      let x = specs_cut d p in
      record {
        start = x.start;
        end = x.end;
        rest = x.rest;
        own = x.own;
        marked = x.marked;
        is_end = x.is_end;
        shorter = (lex s key_import ∷ lex b paren ∷ x.shorter.0, step (step x.shorter.1), more_imports_rule (import_group_rule x.shorter.2) (aside.imports_bare mark k));
        opens = x.opens;
        closes = x.closes;
        starts = x.starts;
        ends = x.ends;
      }
  imports_cut (more_imports_rule {c = c} d k) (without_later p) =
      let x = imports_cut k p in
      let y = import_frame (aside.import_bare mark d) (lex c semicolon ∷ x.shorter.0) in
      record { start = x.start; end = x.end; rest = x.rest; own = x.own; marked = x.marked; is_end = x.is_end; shorter = (y.0, joined y.1 (step x.shorter.1), more_imports_rule y.2 x.shorter.2); opens = opens_over y.1 x.shorter.1 true ∙ x.opens; closes = x.closes; starts = x.starts; ends = x.ends }

  -- the tokens of an import that goes, with what stands before and behind them
  pub record Removal (m : S) (ts : Lexemes) (are : Lexemes → Type 0) : Type 0 where
    pub front : Lexemes
    pub node : Lexemes
    pub end : Lexemes
    pub rest : Lexemes
    pub tokens : ts ≡ front ++ (node ++ (end ++ rest))
    pub marked : m ≡ mark (node ++ (end ++ rest)) (end ++ rest)
    pub is_end : IsEnd end
    pub shorter : are (front ++ rest)
    pub opens : last_open true front ≡ true
    pub closes : Closing (end ++ rest) (node ++ (end ++ rest))
    pub starts : begins_semicolon (node ++ (end ++ rest)) ≡ false
    pub ends : end ≡ [] → begins_end_paren rest ≡ true

  pub removal : {m : S} {f g : File S} {ts : Lexemes} → SpellsFront mark f ts [] → FileWithout m f g → Removal m ts (λ us. SpellsFront nowhere (bare_file g) us [])
  removal (front_rule {s = s} {c = c} {d = d} {n = n} {ds = ds} q a b) (without {js = js} p) =
      let x = imports_cut a p in
      let g = fronts x.shorter.1 in
      let o = fronts x.own.1 in
      let head : Lexemes = lex s key_package ∷ lex c (ident n) ∷ lex d semicolon ∷ [] in
      record {
        front = head ++ g.0;
        node = o.0;
        end = x.end;
        rest = x.rest;
        tokens = ap (λ (us : Lexemes). lex s key_package ∷ lex c (ident n) ∷ lex d semicolon ∷ us) (g.1 ∙ ap (λ (us : Lexemes). g.0 ++ us) o.1);
        marked = x.marked ∙ ap (λ (us : Lexemes). mark us (x.end ++ x.rest)) o.1;
        is_end = x.is_end;
        shorter = subst (λ (us : Lexemes). SpellsFront nowhere (record { package_name = record { span = tt; name = n }; imports = map bare_import_decl js; decls = map bare_decl ds }) (lex s key_package ∷ lex c (ident n) ∷ lex d semicolon ∷ us) []) g.2 (front_rule q x.shorter.2 (aside.tops_bare mark b));
        opens = ap (λ (us : Lexemes). last_open true us) (fronts_are x.shorter.1) ∙ x.opens;
        closes = subst (λ (us : Lexemes). Closing (x.end ++ x.rest) us) o.1 x.closes;
        starts = ap begins_semicolon (sym o.1) ∙ x.starts;
        ends = x.ends;
      }

  pub shortened : {m : S} {f g : File S} {ts : Lexemes} → SpellsFront mark f ts [] → FileWithout m f g → Shortened mark m ts (λ us. SpellsFront nowhere (bare_file g) us [])
  shortened d p =
      let x = removal d p in
      record { front = x.front; node = x.node; end = x.end; rest = x.rest; tokens = x.tokens; marked = x.marked; is_end = x.is_end; shorter = x.shorter }

  -- ---- with

  pub takes_import : (d : ImportDecl S) {f : File S} {ts : Lexemes} → SpellsFront mark f ts [] → TakesImport (bare_import_decl d) ts (λ us. SpellsFront nowhere (bare_file (with_import d f)) us [])
  takes_import i (front_rule {s = s} {c = c} {d = d} {n = n} {ts = ts} q a b) = record {
    front = lex s key_package ∷ lex c (ident n) ∷ lex d semicolon ∷ [];
    rest = ts;
    tokens = refl;
    new = λ others s2 x. front_rule q (more_imports_rule x (aside.imports_bare mark a)) (aside.tops_bare mark b);
  }

  -- where a spec may come, and all with it
  record Take (x : ImportSpec S) (A : Lexemes → Type 0) (ts : Lexemes) : Type 0 where
    end : Lexemes
    rest : Lexemes
    is_end : IsEnd end
    own : (us : Lexemes) × Graft rest rest ts us
    new : (others : Lexemes) (s : Span) → SpellsImportSpec nowhere (bare_import_spec x) others (lex s semicolon ∷ rest) → (us : Lexemes) × Graft rest (end ++ others) ts us × A us

  specs_take : (x : ImportSpec S) {xs : List (ImportSpec S)} {ts r : Lexemes} → SpellsImportSpecs mark xs ts r → Take x (λ us. SpellsImportSpecs nowhere (map bare_import_spec (xs ++ x ∷ [])) us r) ts
  specs_take x (no_import_specs_rule {r = r}) = record {
    end = [];
    rest = r;
    is_end = inl refl;
    own = (r, base);
    new = λ others s d. (others, base, more_import_specs_rule d no_import_specs_rule);
  }
  specs_take x (last_import_spec_rule {e = e} {r = r} d) = record {
    end = lex e semicolon ∷ [];
    rest = lex e end_paren ∷ r;
    is_end = inr (e, refl);
    own = let y = import_spec_frame (aside.import_spec_bare mark d) (lex e end_paren ∷ r) in (y.0, y.1);
    new = λ others s k. let y = import_spec_frame (aside.import_spec_bare mark d) (lex e semicolon ∷ others) in (y.0, y.1, more_import_specs_rule y.2 (more_import_specs_rule k no_import_specs_rule));
  }
  specs_take x (more_import_specs_rule {c = c} d k) =
      let t = specs_take x k in
      record {
        end = t.end;
        rest = t.rest;
        is_end = t.is_end;
        own = let y = import_spec_frame (aside.import_spec_bare mark d) (lex c semicolon ∷ t.own.0) in (y.0, joined y.1 (step t.own.1));
        new = λ others s2 n2. let z = t.new others s2 n2 in let y = import_spec_frame (aside.import_spec_bare mark d) (lex c semicolon ∷ z.0) in (y.0, joined y.1 (step z.1), more_import_specs_rule y.2 z.2);
      }

  imports_take : (x : ImportSpec S) {ds es : List (ImportDecl S)} {ts r : Lexemes} → SpellsImports mark ds ts r → ImportsWithSpec x ds es → Take x (λ us. SpellsImports nowhere (map bare_import_decl es) us r) ts
  imports_take x no_imports_rule p = elim p [ ]
  imports_take x (more_imports_rule (import_group_rule {s = s} {b = b} {e = e} d) k) with_last_spec =
      let t = specs_take x d in
      record {
        end = t.end;
        rest = t.rest;
        is_end = t.is_end;
        own = (lex s key_import ∷ lex b paren ∷ t.own.0, step (step t.own.1));
        new = λ others s2 n2. let z = t.new others s2 n2 in (lex s key_import ∷ lex b paren ∷ z.0, step (step z.1), more_imports_rule (import_group_rule z.2) (aside.imports_bare mark k));
      }
  imports_take x (more_imports_rule {c = c} d k) (with_later p) =
      let t = imports_take x k p in
      record {
        end = t.end;
        rest = t.rest;
        is_end = t.is_end;
        own = let y = import_frame (aside.import_bare mark d) (lex c semicolon ∷ t.own.0) in (y.0, joined y.1 (step t.own.1));
        new = λ others s2 n2. let z = t.new others s2 n2 in let y = import_frame (aside.import_bare mark d) (lex c semicolon ∷ z.0) in (y.0, joined y.1 (step z.1), more_imports_rule y.2 z.2);
      }

  pub takes_spec : (x : ImportSpec S) {f g : File S} {ts : Lexemes} → SpellsFront mark f ts [] → FileWithSpec x f g → TakesSpec (bare_import_spec x) ts (λ us. SpellsFront nowhere (bare_file g) us [])
  takes_spec x (front_rule {s = s} {c = c} {d = d} {n = n} {ds = ds} {ts = ts} q a b) (with_spec {js = js} p) =
      let t = imports_take x a p in
      let o = fronts t.own.1 in
      record {
        front = lex s key_package ∷ lex c (ident n) ∷ lex d semicolon ∷ o.0;
        end = t.end;
        rest = t.rest;
        tokens = ap (λ (us : Lexemes). lex s key_package ∷ lex c (ident n) ∷ lex d semicolon ∷ us) o.1;
        is_end = t.is_end;
        new = λ others s2 n2.
            let z = t.new others s2 n2 in
            let i = fronts z.1 in
            let same : i.0 ≡ o.0 = one_front i.0 o.0 t.rest (sym i.1 ∙ o.1) in
            subst (λ (us : Lexemes). SpellsFront nowhere (record { package_name = record { span = tt; name = n }; imports = map bare_import_decl js; decls = map bare_decl ds }) (lex s key_package ∷ lex c (ident n) ∷ lex d semicolon ∷ us) [])
            (i.2 ∙ ap (λ (us : Lexemes). us ++ (t.end ++ others)) same) (front_rule q z.2 (aside.tops_bare mark b));
      }
