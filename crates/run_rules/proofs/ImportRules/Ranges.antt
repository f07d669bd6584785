-- The ranges that are removed ascend.
use Rattle.std.proofs.Common.{◌≡◌, ◌≤◌, ◌<◌, ◌+◌, ◌-◌, ◌⊎◌, ℕ, Bool, true, false, cond, nat_le, if◌then◌else◌, List, [], ◌∷◌, ◌++◌, length, refl, sym, subst, inl, inr, arith}
use Rattle.std.proofs.lemmas.Bool.{cases_lt, cond_both, both_ways, leb-true, leb-false}
use Rattle.std.proofs.lemmas.List.{get_or_past}
use Rattle.go_tree.specs.declared.spans.Span.{Span}
use Rattle.go_tree.specs.declared.tokens.Token.{Token}
use Rattle.go_tree.specs.declared.tokens.Comment.{Comment}
use Rattle.go_tree.specs.File.{ImportSpec, ImportDecl}
use Rattle.go_tree.specs.GoWords.Tokens.Characters.{is_blank}
use Rattle.run_rules.specs.ImportRules.Removed.{is_semicolon, through_semicolon, widened, goes, spec_range, decl_range, goes_whole, specs_ranges, decl_ranges, ranges}
use Rattle.run_rules.specs.ImportRules.Added.{is_open_group, adds_to_group, last_closing, single_start, front_of}
use Rattle.run_rules.specs.ImportRules.Laid.{IsInk, IsInked, StandInOrder, StartsAt, IsStart, SpecsLie, BodyLies, DeclLies, DeclsLie}
use Rattle.run_rules.proofs.ImportRules.Blanks.{IsStop, ink_stops, Widens, widens}
use Rattle.run_rules.proofs.ImportRules.Chains.{Chain, last_end, chain_append, chain_within, chain_from, chain_last, HeadFrom, chain_head, head_of, head_append}

-- ---- semicolons

ink_within : (text : List ℕ) (at : ℕ) → IsInk text at → (at < length text) ⊎ (length text ≤ at) → at < length text
ink_within text at ink (inl h) = h
ink_within text at ink (inr h) = absurd (both_ways (is_blank 32) (subst (λ (b : ℕ). is_blank b ≡ false) (get_or_past text at 32 h) ink) refl)

pub ink_inside : (text : List ℕ) (at : ℕ) → IsInk text at → at < length text
ink_inside text at ink = ink_within text at ink (cases_lt at (length text))

starts_from : (text : List ℕ) (from n : ℕ) (ts : List Token) → StandInOrder text from ts → StartsAt n ts → from ≤ n
starts_from text from n [] h s = absurd s
starts_from text from n (t ∷ ts) h (inl s) = omega (arith, h.0, s.0)
starts_from text from n (t ∷ ts) h (inr s) = let k : t.span.end ≤ n = starts_from text t.span.end n ts h.4 s in omega (arith, k, h.0, h.1)

-- from an offset through the semicolon that stands next
pub record Through (text : List ℕ) (tokens : List Token) (at to : ℕ) : Type 0 where
  pub up : at ≤ to
  pub within : at ≤ length text → to ≤ length text
  pub before : (n : ℕ) → StartsAt n tokens → at ≤ n → to ≤ n
  pub stops : IsStop text at → IsStop text to

module _ (text : List ℕ) where
  stays_put : (ts : List Token) (at : ℕ) → Through text ts at at
  stays_put ts at = record { up = omega arith; within = λ le. le; before = λ n s le. le; stops = λ st. st }

  later : (t : Token) (ts : List Token) (at to : ℕ) → t.span.start < at → Through text ts at to → Through text (t ∷ ts) at to
  later t ts at to lt h = record { up = h.up; within = h.within; before = before; stops = h.stops } where
    before : (n : ℕ) → StartsAt n (t ∷ ts) → at ≤ n → to ≤ n
    before n (inl s) le = absurd (omega (arith, s.0, lt, le))
    before n (inr s) le = h.before n s le

  over : (t : Token) (ts : List Token) (at from : ℕ) → at ≤ t.span.start → StandInOrder text from (t ∷ ts) → is_semicolon t.kind t.spelling ≡ true → Through text (t ∷ ts) at t.span.end
  over t ts at from le h e = record { up = omega (arith, le, h.1); within = λ w. h.2; before = before; stops = λ st. ink_stops text t.span.end (h.3 e).2 } where
    before : (n : ℕ) → StartsAt n (t ∷ ts) → at ≤ n → t.span.end ≤ n
    before n (inl s) lo = absurd (both_ways (is_semicolon t.kind t.spelling) s.1 e)
    before n (inr s) lo = starts_from text t.span.end n ts h.4 s

  pub through : (ts : List Token) (from at : ℕ) → StandInOrder text from ts → Through text ts at (through_semicolon ts at)
  through [] from at h = stays_put [] at
  through (t ∷ ts) from at h =
      cond_both (nat_le at t.span.start) (if is_semicolon t.kind t.spelling then t.span.end else at) (through_semicolon ts at) (λ (to : ℕ). Through text (t ∷ ts) at to)
      (λ e. cond_both (is_semicolon t.kind t.spelling) t.span.end at (λ (to : ℕ). Through text (t ∷ ts) at to) (λ s. over t ts at from (leb-true at t.span.start e) h s) (λ s. stays_put (t ∷ ts) at))
      (λ e. later t ts at (through_semicolon ts at) (leb-false at t.span.start e) (through ts t.span.end at h.4))

-- ---- ranges

both_conds : {A B : Type 0} (P : A → B → Type 0) (b : Bool) (x y : A) (u v : B) → (b ≡ true → P x u) → (b ≡ false → P y v) → P (cond b x y) (cond b u v)
both_conds P true x y u v f g = f refl
both_conds P false x y u v f g = g refl

module _ (text : List ℕ) (tokens : List Token) (comments : List Comment) (unused : List Span) (order : StandInOrder text 0 tokens) where
  abbrev IsBegin : ℕ → Type 0
  IsBegin n = IsStart text tokens n

  -- what a range is of bytes from one offset on up to a semicolon behind another
  pub record Taken (start end : ℕ) (w : Span) : Type 0 where
    pub starts : w.start ≤ start
    pub ends : end ≤ w.end
    pub within : w.end ≤ length text
    pub stops : IsStop text w.end
    pub behind : (p : ℕ) → IsStop text p → p ≤ start → p ≤ w.start
    pub before : (n : ℕ) → IsBegin n → end ≤ n → w.end ≤ n

  taken : (start end : ℕ) → start < end → IsInk text (end - 1) → Taken start end (widened text (record { start = start; end = through_semicolon tokens end }))
  taken start end lt ink =
      let inside : end - 1 < length text = ink_inside text (end - 1) ink in
      let t : Through text tokens end (through_semicolon tokens end) = through text tokens 0 end order in
      let w : Widens text (record { start = start; end = through_semicolon tokens end }) (widened text (record { start = start; end = through_semicolon tokens end })) =
      widens text (record { start = start; end = through_semicolon tokens end }) (omega (arith, inside, lt)) (t.within (omega (arith, inside, lt))) (t.stops (ink_stops text end ink)) in
      record {
        starts = w.starts;
        ends = let a : end ≤ through_semicolon tokens end = t.up in let b : through_semicolon tokens end ≤ (widened text (record { start = start; end = through_semicolon tokens end })).end = w.ends in omega (arith, a, b);
        within = w.within;
        stops = w.stops;
        behind = w.behind;
        before = λ n s le. w.before n s.0 (t.before n s.1 le);
      }

  -- Ranges ascend from one offset on up to another, and a line's blanks don't go on behind them.
  pub record Lie (from to : ℕ) (rs : List Span) : Type 0 where
    pub chain : Chain from to rs
    pub stops : IsStop text (last_end from rs)

  lie_next : (from to : ℕ) (w : Span) (rs : List Span) → from ≤ w.start → w.start < w.end → Lie w.end to rs → Lie from to (w ∷ rs)
  lie_next from to w rs a b h = record { chain = (a, b, h.chain); stops = h.stops }

  lie_from : (before from to : ℕ) (rs : List Span) → before ≤ from → IsStop text before → Lie from to rs → Lie before to rs
  lie_from before from to [] le st h = record { chain = chain_from before from to [] le h.chain; stops = st }
  lie_from before from to (r ∷ rs) le st h = record { chain = chain_from before from to (r ∷ rs) le h.chain; stops = h.stops }

  specs_from : (from other to : ℕ) (ss : List (ImportSpec Span)) → IsBegin to → ((n : ℕ) → IsBegin n → from ≤ n → other ≤ n) → SpecsLie text tokens from to ss → SpecsLie text tokens other to ss
  specs_from from other to [] b f h = f to b h
  specs_from from other to (s ∷ ss) b f h = (f s.span.start h.2 h.0, h.1, h.2, h.3)

  abbrev group : Span → List (ImportSpec Span) → ImportDecl Span
  group sp all = record { span = sp; grouped = true; specs = all }

  specs_chain : (sp : Span) (all : List (ImportSpec Span)) (from to : ℕ) (ss : List (ImportSpec Span)) → IsStop text from → IsBegin to → SpecsLie text tokens from to ss → Lie from to (specs_ranges text tokens comments unused (group sp all) ss)
  specs_chain sp all from to [] st b h = record { chain = h; stops = st }
  specs_chain sp all from to (s ∷ ss) st b h =
      cond_both (goes text tokens comments unused s) (spec_range text tokens comments unused (group sp all) s ∷ specs_ranges text tokens comments unused (group sp all) ss) (specs_ranges text tokens comments unused (group sp all) ss)
      (λ (rs : List Span). Lie from to rs)
      (λ e.
      let w : Span = spec_range text tokens comments unused (group sp all) s in
      let t : Taken s.span.start s.span.end w = taken s.span.start s.span.end h.1.0 h.1.2 in
      let lo : from ≤ w.start = t.behind from st h.0 in
      let a : w.start ≤ s.span.start = t.starts in
      let z : s.span.end ≤ w.end = t.ends in
      lie_next from to w (specs_ranges text tokens comments unused (group sp all) ss) lo (omega (arith, a, z, h.1.0)) (specs_chain sp all w.end to ss t.stops b (specs_from s.span.end w.end to ss b (λ n g le. t.before n g le) h.3)))
      (λ e. specs_chain sp all from to ss st b (specs_from s.span.end from to ss b (λ n g le. omega (arith, le, h.0, h.1.0)) h.3))

  -- the ranges of a declaration
  pub record Part (from : ℕ) (d : Span) (rs : List Span) : Type 0 where
    pub chain : Chain from (length text) rs
    pub stops : IsStop text (last_end from rs)
    pub before : (n : ℕ) → IsBegin n → d.end ≤ n → last_end from rs ≤ n

  none_part : (from : ℕ) (d : Span) → from ≤ d.start → IsInked text d → IsStop text from → Part from d []
  none_part from d le ink st =
      let inside : d.end - 1 < length text = ink_inside text (d.end - 1) ink.2 in
      record { chain = omega (arith, inside, le, ink.0); stops = st; before = λ n g lo. omega (arith, le, lo, ink.0) }

  one_part : (from end : ℕ) (d w : Span) → from ≤ d.start → IsInked text d → IsStop text from → end ≡ d.end → Taken d.start end w → Part from d (w ∷ [])
  one_part from end d w le ink st e t =
      let a : w.start ≤ d.start = t.starts in
      let z : end ≤ w.end = t.ends in
      record { chain = (t.behind from st le, omega (arith, a, z, e, ink.0), t.within); stops = t.stops; before = λ n g lo. t.before n g (omega (arith, e, lo)) }

  specs_part : (from : ℕ) (sp : Span) (all : List (ImportSpec Span)) → from ≤ sp.start → IsInked text sp → IsStop text from → BodyLies text tokens sp true all → Lie (sp.start + 1) (sp.end - 1) (specs_ranges text tokens comments unused (group sp all) all)
  specs_part from sp all le ink st body =
      let same : sp.start + 1 - 1 ≡ sp.start = omega arith in
      specs_chain sp all (sp.start + 1) (sp.end - 1) all (ink_stops text (sp.start + 1) (subst (λ (k : ℕ). IsInk text k) (sym same) ink.1)) body.1 body.0

  group_part : (from : ℕ) (sp : Span) (rs : List Span) → from ≤ sp.start → IsInked text sp → IsStop text from → Lie (sp.start + 1) (sp.end - 1) rs → Part from sp rs
  group_part from sp rs le ink st h =
      let inside : sp.end - 1 < length text = ink_inside text (sp.end - 1) ink.2 in
      let l : Lie from (sp.end - 1) rs = lie_from from (sp.start + 1) (sp.end - 1) rs (omega (arith, le)) st h in
      let last : last_end from rs ≤ sp.end - 1 = chain_last from (sp.end - 1) rs l.chain in
      record { chain = chain_within from (sp.end - 1) (length text) rs (omega (arith, inside)) l.chain; stops = l.stops; before = λ n g lo. omega (arith, last, lo) }

  body_part : (grows : Bool) (from : ℕ) (sp : Span) (grouped : Bool) (ss : List (ImportSpec Span)) → from ≤ sp.start → IsInked text sp → IsStop text from → BodyLies text tokens sp grouped ss
      → Part from sp (decl_ranges text tokens comments unused grows (record { span = sp; grouped = grouped; specs = ss }))
  body_part grows from sp true ss le ink st body =
      cond_both (goes_whole text tokens comments unused grows (group sp ss)) (decl_range text tokens comments unused (group sp ss) ∷ []) (specs_ranges text tokens comments unused (group sp ss) ss) (λ (rs : List Span). Part from sp rs)
      (λ e. one_part from sp.end sp (decl_range text tokens comments unused (group sp ss)) le ink st refl (taken sp.start sp.end ink.0 ink.2))
      (λ e. group_part from sp (specs_ranges text tokens comments unused (group sp ss) ss) le ink st (specs_part from sp ss le ink st body))
  body_part grows from sp false [] le ink st body = absurd body
  body_part grows from sp false (s ∷ []) le ink st body =
      let d : ImportDecl Span = record { span = sp; grouped = false; specs = s ∷ [] } in
      cond_both (goes text tokens comments unused s) (spec_range text tokens comments unused d s ∷ []) [] (λ (rs : List Span). Part from sp rs)
      (λ e. one_part from s.span.end sp (spec_range text tokens comments unused d s) le ink st body.2 (taken sp.start s.span.end (omega (arith, body.0, body.1.0)) body.1.2))
      (λ e. none_part from sp le ink st)
  body_part grows from sp false (s ∷ s' ∷ ss) le ink st body = absurd body

  decl_part : (grows : Bool) (from : ℕ) (d : ImportDecl Span) → from ≤ d.span.start → IsStop text from → DeclLies text tokens d → Part from d.span (decl_ranges text tokens comments unused grows d)
  decl_part grows from d le st h = body_part grows from d.span d.grouped d.specs le h.0 st h.2

  -- of all declarations
  pub ranges_chain : (grows : Bool) (from : ℕ) (ds : List (ImportDecl Span)) → from ≤ length text → IsStop text from → DeclsLie text tokens from ds → Chain from (length text) (ranges text tokens comments unused grows ds)
  ranges_chain grows from [] le st h = le
  ranges_chain grows from (d ∷ []) le st h = (decl_part grows from d h.0 st h.1).chain
  ranges_chain grows from (d ∷ e ∷ ds) le st h =
      let p : Part from d.span (decl_ranges text tokens comments unused false d) = decl_part false from d h.0 st h.1 in
      let end : ℕ = last_end from (decl_ranges text tokens comments unused false d) in
      let fits : end ≤ length text = chain_last from (length text) (decl_ranges text tokens comments unused false d) p.chain in
      let next : end ≤ e.span.start = p.before e.span.start h.2.1.1 h.2.0 in
      chain_append from (length text) (length text) (decl_ranges text tokens comments unused false d) (ranges text tokens comments unused grows (e ∷ ds)) p.chain (ranges_chain grows end (e ∷ ds) fits p.stops (next, h.2.1, h.2.2))

  -- ---- where specs are added to the last group, all ranges end before its `)`

  open_chain : (from : ℕ) (sp : Span) (grouped : Bool) (ss : List (ImportSpec Span)) → is_open_group text (record { span = sp; grouped = grouped; specs = ss }) ≡ true → from ≤ sp.start → IsInked text sp → IsStop text from → BodyLies text tokens sp grouped ss
      → Chain from (sp.end - 1) (decl_ranges text tokens comments unused true (record { span = sp; grouped = grouped; specs = ss }))
  open_chain from sp true ss e le ink st body = chain_from from (sp.start + 1) (sp.end - 1) (specs_ranges text tokens comments unused (group sp ss) ss) (omega (arith, le)) (specs_part from sp ss le ink st body).chain
  open_chain from sp false ss e le ink st body = absurd (both_ways false refl e)

  pub ranges_before : (from : ℕ) (ds : List (ImportDecl Span)) → adds_to_group text ds ≡ true → IsStop text from → DeclsLie text tokens from ds → Chain from (last_closing ds) (ranges text tokens comments unused true ds)
  ranges_before from [] e st h = absurd (both_ways false refl e)
  ranges_before from (d ∷ []) e st h = open_chain from d.span d.grouped d.specs e h.0 h.1.0 st h.1.2
  ranges_before from (d ∷ f ∷ ds) e st h =
      let p : Part from d.span (decl_ranges text tokens comments unused false d) = decl_part false from d h.0 st h.1 in
      let end : ℕ = last_end from (decl_ranges text tokens comments unused false d) in
      let next : end ≤ f.span.start = p.before f.span.start h.2.1.1 h.2.0 in
      chain_append from (length text) (last_closing (f ∷ ds)) (decl_ranges text tokens comments unused false d) (ranges text tokens comments unused true (f ∷ ds)) p.chain (ranges_before end (f ∷ ds) e p.stops (next, h.2.1, h.2.2))

  pub closing_within : (from : ℕ) (ds : List (ImportDecl Span)) → DeclsLie text tokens from ds → last_closing ds ≤ length text
  closing_within from [] h = omega arith
  closing_within from (d ∷ []) h = let inside : d.span.end - 1 < length text = ink_inside text (d.span.end - 1) h.1.0.2 in omega (arith, inside)
  closing_within from (d ∷ e ∷ ds) h = closing_within d.span.end (e ∷ ds) h.2

  -- ---- else they are added before all ranges

  -- where a declaration starts, or the range that is removed with it
  pub record Front (from : ℕ) (d : Span) (front : ℕ) (rs : List Span) : Type 0 where
    pub behind : from ≤ front
    pub within : front ≤ d.start
    pub first : HeadFrom front (length text) rs

  first_one : (from end : ℕ) (d w : Span) → from ≤ d.start → IsStop text from → Taken d.start end w → Front from d w.start (w ∷ [])
  first_one from end d w le st t = record { behind = t.behind from st le; within = t.starts; first = omega arith }

  first_none : (from : ℕ) (d : Span) (rs : List Span) → from ≤ d.start → HeadFrom d.start (length text) rs → Front from d d.start rs
  first_none from d rs le h = record { behind = le; within = omega arith; first = h }

  single_of_group : (sp : Span) (all ss : List (ImportSpec Span)) → single_start text tokens comments unused (group sp all) ss ≡ sp.start
  single_of_group sp all [] = refl
  single_of_group sp all (s ∷ ss) = refl

  body_front : (from : ℕ) (sp : Span) (grouped : Bool) (ss : List (ImportSpec Span)) → from ≤ sp.start → IsInked text sp → IsStop text from → BodyLies text tokens sp grouped ss
      → Front from sp (front_of text tokens comments unused (record { span = sp; grouped = grouped; specs = ss })) (decl_ranges text tokens comments unused false (record { span = sp; grouped = grouped; specs = ss }))
  body_front from sp true ss le ink st body =
      both_conds (λ (front : ℕ) (rs : List Span). Front from sp front rs) (goes_whole text tokens comments unused false (group sp ss))
      (decl_range text tokens comments unused (group sp ss)).start (single_start text tokens comments unused (group sp ss) ss)
      (decl_range text tokens comments unused (group sp ss) ∷ []) (specs_ranges text tokens comments unused (group sp ss) ss)
      (λ e. first_one from sp.end sp (decl_range text tokens comments unused (group sp ss)) le st (taken sp.start sp.end ink.0 ink.2))
      (λ e.
      let l : Lie (sp.start + 1) (sp.end - 1) (specs_ranges text tokens comments unused (group sp ss) ss) = specs_part from sp ss le ink st body in
      let inside : sp.end - 1 < length text = ink_inside text (sp.end - 1) ink.2 in
      let c : Chain (sp.start + 1) (length text) (specs_ranges text tokens comments unused (group sp ss) ss) = chain_within (sp.start + 1) (sp.end - 1) (length text) (specs_ranges text tokens comments unused (group sp ss) ss) (omega (arith, inside)) l.chain in
      subst (λ (front : ℕ). Front from sp front (specs_ranges text tokens comments unused (group sp ss) ss)) (sym (single_of_group sp ss ss))
      (first_none from sp (specs_ranges text tokens comments unused (group sp ss) ss) le (head_of (sp.start + 1) sp.start (length text) (specs_ranges text tokens comments unused (group sp ss) ss) (omega arith) c)))
  body_front from sp false [] le ink st body = absurd body
  body_front from sp false (s ∷ []) le ink st body =
      let d : ImportDecl Span = record { span = sp; grouped = false; specs = s ∷ [] } in
      let inside : sp.end - 1 < length text = ink_inside text (sp.end - 1) ink.2 in
      both_conds (λ (front : ℕ) (rs : List Span). Front from sp front rs) (goes text tokens comments unused s)
      (spec_range text tokens comments unused d s).start sp.start (spec_range text tokens comments unused d s ∷ []) []
      (λ e. first_one from s.span.end sp (spec_range text tokens comments unused d s) le st (taken sp.start s.span.end (omega (arith, body.0, body.1.0)) body.1.2))
      (λ e. first_none from sp [] le (omega (arith, inside, ink.0)))
  body_front from sp false (s ∷ s' ∷ ss) le ink st body = absurd body

  pub front_within : (from : ℕ) (d : ImportDecl Span) → from ≤ d.span.start → IsStop text from → DeclLies text tokens d → (from ≤ front_of text tokens comments unused d) × (front_of text tokens comments unused d ≤ length text)
  front_within from d le st h =
      let f : Front from d.span (front_of text tokens comments unused d) (decl_ranges text tokens comments unused false d) = body_front from d.span d.grouped d.specs le h.0 st h.2 in
      let inside : d.span.end - 1 < length text = ink_inside text (d.span.end - 1) h.0.2 in
      let a : front_of text tokens comments unused d ≤ d.span.start = f.within in
      (f.behind, omega (arith, a, inside, h.0.0))

  pub front_before : (from : ℕ) (d : ImportDecl Span) → from ≤ d.span.start → IsStop text from → DeclLies text tokens d → front_of text tokens comments unused d ≤ d.span.start
  front_before from d le st h =
      let f : Front from d.span (front_of text tokens comments unused d) (decl_ranges text tokens comments unused false d) = body_front from d.span d.grouped d.specs le h.0 st h.2 in
      f.within

  pub ranges_behind : (from : ℕ) (d : ImportDecl Span) (ds : List (ImportDecl Span)) → from ≤ length text → IsStop text from → DeclsLie text tokens from (d ∷ ds) → Chain (front_of text tokens comments unused d) (length text) (ranges text tokens comments unused false (d ∷ ds))
  ranges_behind from d [] le st h =
      let f : Front from d.span (front_of text tokens comments unused d) (decl_ranges text tokens comments unused false d) = body_front from d.span d.grouped d.specs h.0 h.1.0 st h.1.2 in
      chain_head from (front_of text tokens comments unused d) (length text) (decl_ranges text tokens comments unused false d) f.first (ranges_chain false from (d ∷ []) le st h)
  ranges_behind from d (e ∷ ds) le st h =
      let f : Front from d.span (front_of text tokens comments unused d) (decl_ranges text tokens comments unused false d) = body_front from d.span d.grouped d.specs h.0 h.1.0 st h.1.2 in
      let a : front_of text tokens comments unused d ≤ d.span.start = f.within in
      let inside : d.span.end - 1 < length text = ink_inside text (d.span.end - 1) h.1.0.2 in
      let rest : Chain d.span.end (length text) (ranges text tokens comments unused false (e ∷ ds)) = ranges_chain false d.span.end (e ∷ ds) (omega (arith, inside)) (ink_stops text d.span.end h.1.0.2) h.2 in
      chain_head from (front_of text tokens comments unused d) (length text) (decl_ranges text tokens comments unused false d ++ ranges text tokens comments unused false (e ∷ ds))
      (head_append d.span.end (front_of text tokens comments unused d) (length text) (decl_ranges text tokens comments unused false d) (ranges text tokens comments unused false (e ∷ ds)) f.first (omega (arith, a, h.1.0.0)) rest)
      (ranges_chain false from (d ∷ e ∷ ds) le st h)
