-- The edits that settle imports, put together.
use Rattle.std.proofs.Common.{◌≡◌, ◌∙◌, ◌-◌, ◌≤◌, ◌<◌, ◌⊎◌, ℕ, suc, codes, Bool, true, false, nat_le, nat_lt, not, ◌&&◌, if◌then◌else◌, List, [], ◌∷◌, ◌++◌, length, get_or, map, refl, sym, ap, subst, inl, inr, arith}
use Rattle.std.specs.List.{list_any}
use Rattle.std.proofs.lemmas.Bool.Decides.{nat_tests}
use Rattle.go_tree.specs.declared.spans.Span.{Span}
use Rattle.go_tree.specs.declared.tokens.Token.{Token}
use Rattle.go_tree.specs.declared.tokens.Comment.{Comment}
use Rattle.go_tree.specs.declared.files.ImportDecl as tree
use Rattle.go_tree.specs.File.{ImportSpec, ImportDecl, File}
use Rattle.go_tree.specs.FileView.{import_decl_of}
use Rattle.text_edits.specs.declared.edit.Edit.{Edit}
use Rattle.text_edits.specs.Order.{InOrder, PrecedesEach}
use Rattle.run_rules.specs.declared.import_rules.new_import.NewImport.{NewImport}
use Rattle.run_rules.specs.ImportRules.SpecText.{in_order}
use Rattle.run_rules.specs.ImportRules.Removed.{same_span, goes, goes_whole, spec_range, decl_range, specs_ranges, decl_ranges, ranges}
use Rattle.run_rules.specs.ImportRules.Added.{Addition, each_within, is_open_group, adds_to_group, last_closing, single_start, front_of, addition_among}
use Rattle.run_rules.specs.ImportRules.Settled.{removal, insertion, put_edit, settled}
use Rattle.run_rules.specs.ImportRules.Laid.{StandInOrder, DeclsLie, Laid}
use Rattle.run_rules.proofs.ImportRules.Blanks.{IsStop, ink_stops}
use Rattle.run_rules.proofs.ImportRules.Chains.{Chain, chain_over}
use Rattle.run_rules.proofs.ImportRules.Ranges.{ink_inside, ranges_before, ranges_behind, front_before}
use Rattle.import_edit.specs.Fronts.{least_start, group_addition, front_addition, addition_before, LastFits}
use Rattle.import_edit.proofs.WalkLaws.{ranges_same}

-- ---- edits in order

precedes_front : (s : Span) (xs ys : List Edit) → PrecedesEach s (xs ++ ys) → PrecedesEach s xs
precedes_front s [] ys h = tt
precedes_front s (x ∷ xs) ys h = (h.0, precedes_front s xs ys h.1)

pub order_front : (xs ys : List Edit) → InOrder (xs ++ ys) → InOrder xs
order_front [] ys h = tt
order_front (x ∷ xs) ys h = (h.0, precedes_front x.span xs ys h.1, order_front xs ys h.2)

put_behind : (from : ℕ) (a : Addition) (rs : List Span) → Chain from a.at rs → put_edit (insertion a) (map removal rs) ≡ map removal rs ++ insertion a ∷ []
put_behind from a [] h = refl
put_behind from a (r ∷ rs) h =
    let over : r.end ≤ a.at = chain_over r.end a.at rs h.2 in
    let late : nat_le a.at r.start ≡ false = grind (arith, nat_tests, over, h.1) in
    rw late (ap (λ es. removal r ∷ es) (put_behind r.end a rs h.2))

put_before : (to : ℕ) (a : Addition) (rs : List Span) → Chain a.at to rs → put_edit (insertion a) (map removal rs) ≡ insertion a ∷ map removal rs
put_before to a [] h = refl
put_before to a (r ∷ rs) h =
    let early : nat_le a.at r.start ≡ true = grind (arith, nat_tests, h.0) in
    rw early refl

module _ (text : List ℕ) (tokens : List Token) (comments : List Comment) (unused : List Span) where
  -- ---- where the first declaration starts

  -- it is the start of the declaration, or of the first range
  abbrev IsFront : ℕ → ℕ → List Span → Type 0
  IsFront start front rs = (front ≡ start) ⊎ ((w : Span) × (more : List Span) × (rs ≡ w ∷ more) × (front ≡ w.start))

  single_is : (d : ImportDecl Span) (s : ImportSpec Span) (ss : List (ImportSpec Span)) (g t : Bool) → not d.grouped ≡ g → goes text tokens comments unused s ≡ t
      → IsFront d.span.start (if g && t then (spec_range text tokens comments unused d s).start else d.span.start)
      (if t then spec_range text tokens comments unused d s ∷ specs_ranges text tokens comments unused d ss else specs_ranges text tokens comments unused d ss)
  single_is d s ss true true e f = inr (spec_range text tokens comments unused d s, specs_ranges text tokens comments unused d ss, refl, refl)
  single_is d s ss true false e f = inl refl
  single_is d s ss false t e f = inl refl

  specs_front : (d : ImportDecl Span) (ss : List (ImportSpec Span)) → IsFront d.span.start (single_start text tokens comments unused d ss) (specs_ranges text tokens comments unused d ss)
  specs_front d [] = inl refl
  specs_front d (s ∷ ss) = single_is d s ss (not d.grouped) (goes text tokens comments unused s) refl refl

  whole_front : (d : ImportDecl Span) (b : Bool) → goes_whole text tokens comments unused false d ≡ b
      → IsFront d.span.start (if b then (decl_range text tokens comments unused d).start else single_start text tokens comments unused d d.specs)
      (if b then decl_range text tokens comments unused d ∷ [] else specs_ranges text tokens comments unused d d.specs)
  whole_front d true e = inr (decl_range text tokens comments unused d, [], refl, refl)
  whole_front d false e = specs_front d d.specs

  front_more : (start front : ℕ) (rs more : List Span) → IsFront start front rs → IsFront start front (rs ++ more)
  front_more start front rs more (inl e) = inl e
  front_more start front rs more (inr (w, others, e, f)) = inr (w, others ++ more, ap (λ l. l ++ more) e, f)

  decls_front : (d : ImportDecl Span) (ds : List (ImportDecl Span)) → IsFront d.span.start (front_of text tokens comments unused d) (ranges text tokens comments unused false (d ∷ ds))
  decls_front d [] = whole_front d (goes_whole text tokens comments unused false d) refl
  decls_front d (e ∷ ds) =
      front_more d.span.start (front_of text tokens comments unused d) (decl_ranges text tokens comments unused false d) (ranges text tokens comments unused false (e ∷ ds))
      (whole_front d (goes_whole text tokens comments unused false d) refl)

  least_of : (start front to : ℕ) (rs : List Span) → Chain front to rs → front ≤ start → IsFront start front rs → front ≡ least_start start rs
  least_of start front to [] h le (inl e) = e
  least_of start front to [] h le (inr (w, more, e, f)) = absurd (cc e)
  least_of start front to (r ∷ rs) h le (inl e) = let late : nat_lt r.start start ≡ false = grind (arith, nat_tests, h.0, e) in rw late e
  least_of start front to (r ∷ rs) h le (inr (w, more, e, f)) = here (nat_lt r.start start) refl
    where
      same : front ≡ r.start
      same = cc (e, f)

      here : (b : Bool) → nat_lt r.start start ≡ b → front ≡ (if b then r.start else start)
      here true l = same
      here false l = let k : start ≤ r.start = grind (arith, nat_tests, l) in omega (arith, same, k, le)

  -- ---- what settles

  module _ (order : StandInOrder text 0 tokens) where
    front_is : (from : ℕ) (d : ImportDecl Span) (ds : List (ImportDecl Span)) → from ≤ length text → IsStop text from → DeclsLie text tokens from (d ∷ ds)
        → front_of text tokens comments unused d ≡ least_start d.span.start (ranges text tokens comments unused false (d ∷ ds))
    front_is from d ds le st h =
        least_of d.span.start (front_of text tokens comments unused d) (length text) (ranges text tokens comments unused false (d ∷ ds))
        (ranges_behind text tokens comments unused order from d ds le st h) (front_before text tokens comments unused order from d h.0 st h.1) (decls_front d ds)

    among_by : (from : ℕ) (d : ImportDecl Span) (ds : List (ImportDecl Span)) (added : List NewImport) → from ≤ length text → IsStop text from → DeclsLie text tokens from (d ∷ ds)
        → (b : Bool) → adds_to_group text (d ∷ ds) ≡ b
        → put_edit (insertion (if b then record { at = last_closing (d ∷ ds); text = each_within (codes "\t") (codes "\n") added } else record { at = front_of text tokens comments unused d; text = each_within (codes "import ") (codes "\n") added }))
        (map removal (ranges text tokens comments unused b (d ∷ ds)))
        ≡ (if b then map removal (ranges text tokens comments unused true (d ∷ ds)) ++ insertion (group_addition (last_closing (d ∷ ds)) added) ∷ []
        else insertion (addition_before from (d ∷ ds) (ranges text tokens comments unused false (d ∷ ds)) added) ∷ map removal (ranges text tokens comments unused false (d ∷ ds)))
    among_by from d ds added le st h true e =
        put_behind from (group_addition (last_closing (d ∷ ds)) added) (ranges text tokens comments unused true (d ∷ ds)) (ranges_before text tokens comments unused order from (d ∷ ds) e st h)
    among_by from d ds added le st h false e =
        let rs : List Span = ranges text tokens comments unused false (d ∷ ds) in
        ap (λ (k : ℕ). put_edit (insertion (front_addition k added)) (map removal rs)) (front_is from d ds le st h)
        ∙ put_before (length text) (addition_before from (d ∷ ds) rs added) rs
        (subst (λ (k : ℕ). Chain k (length text) rs) (front_is from d ds le st h) (ranges_behind text tokens comments unused order from d ds le st h))

    pub among : (from : ℕ) (ds : List (ImportDecl Span)) (added : List NewImport) → from ≤ length text → IsStop text from → DeclsLie text tokens from ds
        → put_edit (insertion (addition_among text tokens comments unused from ds added)) (map removal (ranges text tokens comments unused (adds_to_group text ds) ds))
        ≡ (if adds_to_group text ds then map removal (ranges text tokens comments unused true ds) ++ insertion (group_addition (last_closing ds) added) ∷ []
        else insertion (addition_before from ds (ranges text tokens comments unused false ds) added) ∷ map removal (ranges text tokens comments unused false ds))
    among from [] added le st h = refl
    among from (d ∷ ds) added le st h = among_by from d ds added le st h (adds_to_group text (d ∷ ds)) refl

pub settled_none : (text : List ℕ) (tokens : List Token) (comments : List Comment) (file : File Span) (added : List NewImport) (unused : List Span) → length added ≡ 0
    → settled text tokens comments file added unused ≡ map removal (ranges text tokens comments unused false file.imports)
settled_none text tokens comments file [] unused e = refl
settled_none text tokens comments file (i ∷ is) unused e = absurd (omega (arith, e))

module _ (text : List ℕ) (tokens : List Token) (comments : List Comment) (file : File Span) (added : List NewImport) (unused : List Span) where
  -- the edits, where imports are added
  abbrev pub added_edits : Bool → List Edit
  added_edits b =
      if b then map removal (ranges text tokens comments unused true file.imports) ++ insertion (group_addition (last_closing file.imports) (in_order added)) ∷ []
      else insertion (addition_before file.package_name.span.end file.imports (ranges text tokens comments unused false file.imports) (in_order added))
      ∷ map removal (ranges text tokens comments unused false file.imports)

pub settled_some : (text : List ℕ) (tokens : List Token) (comments : List Comment) (file : File Span) (added : List NewImport) (unused : List Span) → 0 < length added
    → Laid text tokens file → settled text tokens comments file added unused ≡ added_edits text tokens comments file added unused (adds_to_group text file.imports)
settled_some text tokens comments file [] unused lt laid = absurd (omega arith)
settled_some text tokens comments file (i ∷ is) unused lt laid =
    among text tokens comments unused laid.order file.package_name.span.end file.imports (in_order (i ∷ is)) laid.name_within (ink_stops text file.package_name.span.end laid.name_ends) laid.imports

pub settled_by : (text : List ℕ) (tokens : List Token) (comments : List Comment) (file : File Span) (added : List NewImport) (unused : List Span) (b : Bool) → 0 < length added
    → Laid text tokens file → adds_to_group text file.imports ≡ b → settled text tokens comments file added unused ≡ added_edits text tokens comments file added unused b
settled_by text tokens comments file added unused b lt laid e = settled_some text tokens comments file added unused lt laid ∙ ap (added_edits text tokens comments file added unused) e

-- ---- the same specs go

module _ (text : List ℕ) (tokens : List Token) (comments : List Comment) (file : File Span) (a b : List Span) (same : (q : Span) → list_any (same_span q) a ≡ list_any (same_span q) b) where
  edits_same : (added : List NewImport) (t : Bool) → added_edits text tokens comments file added a t ≡ added_edits text tokens comments file added b t
  edits_same added true = ap (λ rs. map removal rs ++ insertion (group_addition (last_closing file.imports) (in_order added)) ∷ []) (ranges_same text tokens comments a b same true file.imports)
  edits_same added false =
      ap (λ rs. insertion (addition_before file.package_name.span.end file.imports rs (in_order added)) ∷ map removal rs) (ranges_same text tokens comments a b same false file.imports)

  same_by : (added : List NewImport) → Laid text tokens file → (length added ≡ 0) ⊎ (0 < length added) → settled text tokens comments file added a ≡ settled text tokens comments file added b
  same_by added laid (inl e) =
      settled_none text tokens comments file added a e ∙ ap (map removal) (ranges_same text tokens comments a b same false file.imports) ∙ sym (settled_none text tokens comments file added b e)
  same_by added laid (inr lt) =
      settled_some text tokens comments file added a lt laid ∙ edits_same added (adds_to_group text file.imports) ∙ sym (settled_some text tokens comments file added b lt laid)

  some_or_none : (added : List NewImport) → (length added ≡ 0) ⊎ (0 < length added)
  some_or_none [] = inl refl
  some_or_none (i ∷ is) = inr (omega arith)

  pub settled_same : (added : List NewImport) → Laid text tokens file → settled text tokens comments file added a ≡ settled text tokens comments file added b
  settled_same added laid = same_by added laid (some_or_none added)

-- ---- the edits as they are made

module _ (text : List ℕ) (tokens : List Token) (comments : List Comment) (file : File Span) (added : List NewImport) (unused : List Span) (laid : Laid text tokens file) where
  pub none_made : (rs : List Span) → length added ≡ 0 → rs ≡ ranges text tokens comments unused false file.imports → map removal rs ≡ settled text tokens comments file added unused
  none_made rs e r = ap (map removal) r ∙ sym (settled_none text tokens comments file added unused e)

  pub grown_made : (rs : List Span) (last : Edit) (at : ℕ) (is : List NewImport) (b : Bool) → 0 < length added → b ≡ adds_to_group text file.imports → b ≡ true
      → rs ≡ ranges text tokens comments unused b file.imports → at ≡ last_closing file.imports → is ≡ in_order added → last ≡ insertion (group_addition at is)
      → map removal rs ++ last ∷ [] ≡ settled text tokens comments file added unused
  grown_made rs last at is b lt adds here r a i l =
      ap (λ x. map removal x ++ last ∷ []) (r ∙ ap (λ t. ranges text tokens comments unused t file.imports) here)
      ∙ ap (λ x. map removal (ranges text tokens comments unused true file.imports) ++ x ∷ []) (l ∙ ap (λ k. insertion (group_addition k is)) a ∙ ap (λ x. insertion (group_addition (last_closing file.imports) x)) i)
      ∙ sym (settled_by text tokens comments file added unused true lt laid (sym adds ∙ here))

  pub fronted_made : (rs : List Span) (first : Edit) (is : List NewImport) (b : Bool) → 0 < length added → b ≡ adds_to_group text file.imports → b ≡ false
      → rs ≡ ranges text tokens comments unused b file.imports → is ≡ in_order added → first ≡ insertion (addition_before file.package_name.span.end file.imports rs is)
      → first ∷ map removal rs ≡ settled text tokens comments file added unused
  fronted_made rs first is b lt adds there r i f =
      let made : rs ≡ ranges text tokens comments unused false file.imports = r ∙ ap (λ t. ranges text tokens comments unused t file.imports) there in
      ap (λ x. x ∷ map removal rs) (f ∙ ap (λ x. insertion (addition_before file.package_name.span.end file.imports rs x)) i)
      ∙ ap (λ x. insertion (addition_before file.package_name.span.end file.imports x (in_order added)) ∷ map removal x) made
      ∙ sym (settled_by text tokens comments file added unused false lt laid (sym adds ∙ there))

-- ---- the last declaration

at_last : (e f : tree.ImportDecl) (ds : List tree.ImportDecl) (d : tree.ImportDecl) → get_or (e ∷ f ∷ ds) (length (e ∷ f ∷ ds) - 1) d ≡ get_or (f ∷ ds) (length (f ∷ ds) - 1) d
at_last e f ds d =
    let a : length (e ∷ f ∷ ds) - 1 ≡ suc (length ds) = omega arith in
    let b : length (f ∷ ds) - 1 ≡ length ds = omega arith in
    ap (λ k. get_or (e ∷ f ∷ ds) k d) a ∙ sym (ap (λ k. get_or (f ∷ ds) k d) b)

pub last_adds : (text : List ℕ) (ds : List tree.ImportDecl) (d : tree.ImportDecl) → 0 < length ds → is_open_group text (import_decl_of (get_or ds (length ds - 1) d)) ≡ adds_to_group text (map import_decl_of ds)
last_adds text [] d lt = absurd (omega arith)
last_adds text (e ∷ []) d lt = refl
last_adds text (e ∷ f ∷ ds) d lt = ap (λ x. is_open_group text (import_decl_of x)) (at_last e f ds d) ∙ last_adds text (f ∷ ds) d (omega arith)

pub last_closes : (ds : List tree.ImportDecl) (d : tree.ImportDecl) → 0 < length ds → (get_or ds (length ds - 1) d).span.end - 1 ≡ last_closing (map import_decl_of ds)
last_closes [] d lt = absurd (omega arith)
last_closes (e ∷ []) d lt = refl
last_closes (e ∷ f ∷ ds) d lt = ap (λ x. x.span.end - 1) (at_last e f ds d) ∙ last_closes (f ∷ ds) d (omega arith)

pub last_fits : (size : ℕ) (ds : List tree.ImportDecl) (d : tree.ImportDecl) → 0 < length ds → LastFits size (map import_decl_of ds)
    → (0 < (get_or ds (length ds - 1) d).span.end) × ((get_or ds (length ds - 1) d).span.end ≤ size)
last_fits size [] d lt h = absurd (omega arith)
last_fits size (e ∷ []) d lt h = h
last_fits size (e ∷ f ∷ ds) d lt h =
    subst (λ (x : tree.ImportDecl). (0 < x.span.end) × (x.span.end ≤ size)) (sym (at_last e f ds d)) (last_fits size (f ∷ ds) d (omega arith) h)

pub lasts_fit : (text : List ℕ) (tokens : List Token) (from : ℕ) (ds : List (ImportDecl Span)) → DeclsLie text tokens from ds → LastFits (length text) ds
lasts_fit text tokens from [] h = tt
lasts_fit text tokens from (d ∷ []) h =
    let k : d.span.end - 1 < length text = ink_inside text (d.span.end - 1) h.1.0.2 in (omega (arith, h.1.0.0), omega (arith, k, h.1.0.0))
lasts_fit text tokens from (d ∷ e ∷ ds) h = lasts_fit text tokens d.span.end (e ∷ ds) h.2
