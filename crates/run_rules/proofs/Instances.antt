-- Steps and runs put together from what computes.
use Rattle.std.proofs.Common.{◌≡◌, refl, sym, subst, ℕ, ◌≤◌, Bool, true, false, not, ◌&&◌, nat_le, length, List, [], ◌∷◌, Option, Some, None, is_some}
use Rattle.std.proofs.lemmas.Bool.{leb-true}
use Rattle.go_tree.specs.declared.spans.Span.{Span}
use Rattle.go_tree.specs.declared.tokens.Token.{Token}
use Rattle.go_tree.specs.File.{File}
use Rattle.go_tree.specs.GoWords.Terminals.{lexemes}
use Rattle.go_layout.specs.SpellsSpans.{span_to}
use Rattle.go_layout.specs.Goals.{read_front}
use Rattle.go_layout.proofs.Whole.{file_spelled}
use Rattle.text_edits.specs.declared.edit.Edit.{Edit}
use Rattle.text_edits.specs.Applied.{Ascend, applied}
use Rattle.run_rules.specs.ImportRules.Removed.{is_semicolon}
use Rattle.run_rules.specs.ImportRules.Laid.{IsInked, StandInOrder}
use Rattle.pkg_graph.specs.Package.{Package}
use Rattle.pkg_graph.specs.Reads.{Source}
use Rattle.run_rules.specs.Sites.{MarkRef}
use Rattle.run_rules.specs.Texts.{FileText}
use Rattle.run_rules.specs.Respanned.{file_with, decls_with}
use Rattle.run_rules.specs.Steps.{At, same_here, Found, new_decls, with_file}
use Rattle.run_rules.specs.Marks.{text_at, marks_of, bad_of}
use Rattle.run_rules.specs.Run.{Standing, Logged, here_of, origin_of, step_in, edits_in, logged, with_text, Next, Run, uses_kept, edits_of, FilesKeep, file, bytes_of, Limits, TooLarge, passed}
use Rattle.run_rules.specs.Report.{report_of}
use Rattle.run_rules.specs.Inlining.{standing_as_read, ModuleReads, Reaches, begins, IsInlining, IsTooLarge}
use Rattle.run_rules.proofs.CaseTools.{read_at}
use Rattle.go_tree.specs.GoWords.Tokens.{TokensOf}

-- what is there
abbrev pub the : {A : Type 0} (o : Option A) → is_some o ≡ true → A
the (Some a) e = a
the None e = cc

pub the_is : {A : Type 0} (o : Option A) (e : is_some o ≡ true) → o ≡ Some (the o e)
the_is (Some a) e = refl
the_is None e = cc

module _ (marks : List MarkRef) (st : Standing) (e : is_some (step_in marks st) ≡ true) (old new : FileText) (tree : File At) where
  abbrev pub found : Found At
  found = the (step_in marks st) e

  abbrev pub stands_after : Standing
  stands_after = record { packages = with_file same_here st.packages found.site.at tree; texts = with_text found.site.at.source.path new st.texts }

  abbrev pub log_entry : Logged
  log_entry = logged marks st found (edits_in marks st old found)

  abbrev pub next_by : text_at found.site.at.source.path st.texts ≡ Some old → new.text ≡ applied old.text (edits_in marks st old found) → TokensOf new.text new.tokens new.comments
      → read_at span_to read_front (lexemes new.tokens) ≡ Some (file_with here_of tree, [])
      → file_with origin_of tree ≡ record (file_with here_of tree) { decls = decls_with origin_of (new_decls same_here st.packages found.site found.form) }
      → Next marks st log_entry stands_after
  next_by stands text scans read origins =
      record {
        found = found;
        old = old;
        new = new;
        tree = tree;
        is_first = the_is (step_in marks st) e;
        stands = stands;
        log_is = refl;
        text_is = text;
        scans = scans;
        spells = file_spelled new.tokens (file_with here_of tree) read;
        origins_are = origins;
        packages_are = refl;
        texts_are = refl;
      }

-- ---- bytes that stay

abbrev pub ascends : ℕ → ℕ → List Edit → Bool
ascends from size [] = nat_le from size
ascends from size (e ∷ es) = nat_le from e.span.start && (nat_le e.span.start e.span.end && (nat_le e.span.end size && ascends e.span.end size es))

first_holds : (a b : Bool) → (a && b) ≡ true → a ≡ true
first_holds true b h = refl
first_holds false b h = cc

second_holds : (a b : Bool) → (a && b) ≡ true → b ≡ true
second_holds true b h = h
second_holds false b h = cc

pub is_at_most : (a b : ℕ) → nat_le a b ≡ true → a ≤ b
is_at_most a b h = leb-true a b h

pub ascends_so : (from size : ℕ) (es : List Edit) → ascends from size es ≡ true → Ascend from size es
ascends_so from size [] h = is_at_most from size h
ascends_so from size (e ∷ es) h =
    let rest = second_holds (nat_le from e.span.start) (nat_le e.span.start e.span.end && (nat_le e.span.end size && ascends e.span.end size es)) h in
    let more = second_holds (nat_le e.span.start e.span.end) (nat_le e.span.end size && ascends e.span.end size es) rest in (
      is_at_most from e.span.start (first_holds (nat_le from e.span.start) (nat_le e.span.start e.span.end && (nat_le e.span.end size && ascends e.span.end size es)) h),
      is_at_most e.span.start e.span.end (first_holds (nat_le e.span.start e.span.end) (nat_le e.span.end size && ascends e.span.end size es) rest),
      is_at_most e.span.end size (first_holds (nat_le e.span.end size) (ascends e.span.end size es) more),
      ascends_so e.span.end size es (second_holds (nat_le e.span.end size) (ascends e.span.end size es) more),
    )

pub kept_by : (log : List Logged) (path old new : List ℕ) (olds news : List (List ℕ × List ℕ)) → ascends 0 (length old) (edits_of path [] log) ≡ true → new ≡ applied old (edits_of path [] log) → FilesKeep log olds news → FilesKeep log ((path, old) ∷ olds) ((path, new) ∷ news)
kept_by log path old new olds news h e rest = file (record { edits = edits_of path [] log; ranges_are = refl; ascend = ascends_so 0 (length old) (edits_of path [] log) h; replaced = e }) rest

-- ---- tokens that stand in a text, none of them a written semicolon

abbrev pub stand : ℕ → ℕ → List Token → Bool
stand size from [] = true
stand size from (t ∷ ts) =
    nat_le from t.span.start && (nat_le t.span.start t.span.end && (nat_le t.span.end size && (not (is_semicolon t.kind t.spelling) && stand size t.span.end ts)))

no_semicolon : (b : Bool) (P : Type 0) → not b ≡ true → b ≡ true → P
no_semicolon true P h e = cc
no_semicolon false P h e = cc

pub stand_so : (text : List ℕ) (from : ℕ) (ts : List Token) → stand (length text) from ts ≡ true → StandInOrder text from ts
stand_so text from [] h = tt
stand_so text from (t ∷ ts) h =
    let others : Bool = not (is_semicolon t.kind t.spelling) && stand (length text) t.span.end ts in
    let ends : Bool = nat_le t.span.end (length text) && others in
    let spans : Bool = nat_le t.span.start t.span.end && ends in
    let a : spans ≡ true = second_holds (nat_le from t.span.start) spans h in
    let b : ends ≡ true = second_holds (nat_le t.span.start t.span.end) ends a in
    let c : others ≡ true = second_holds (nat_le t.span.end (length text)) others b in (
      is_at_most from t.span.start (first_holds (nat_le from t.span.start) spans h),
      is_at_most t.span.start t.span.end (first_holds (nat_le t.span.start t.span.end) ends a),
      is_at_most t.span.end (length text) (first_holds (nat_le t.span.end (length text)) others b),
      no_semicolon (is_semicolon t.kind t.spelling) (IsInked text t.span) (first_holds (not (is_semicolon t.kind t.spelling)) (stand (length text) t.span.end ts) c),
      stand_so text t.span.end ts (second_holds (not (is_semicolon t.kind t.spelling)) (stand (length text) t.span.end ts) c),
    )

-- ---- a run, whole

module _ (m : Limits) (files : List Source) (ps : List (Package Span)) (texts : List (List ℕ × FileText)) (only : List ℕ) where
  pub inlining_by : (marks : List MarkRef) (last : Standing) (log : List Logged) (report : List ℕ) → marks_of ps texts only ≡ marks → ModuleReads files ps texts → Run marks (standing_as_read ps texts) log last
      → Reaches marks m files [] (standing_as_read ps texts) log last → FilesKeep log (bytes_of texts) (bytes_of last.texts) → report ≡ report_of texts log (uses_kept marks last) (bad_of ps texts ps)
      → IsInlining m files ps texts only last.texts report
  inlining_by marks last log report e read run within keeps told =
      record {
        last = last;
        log = log;
        read = read;
        run = subst (λ (ms : List MarkRef). Run ms (standing_as_read ps texts) log last) (sym e) run;
        within = subst (λ (ms : List MarkRef). Reaches ms m files [] (standing_as_read ps texts) log last) (sym e) within;
        after_is = refl;
        keeps = keeps;
        reported = subst (λ (ms : List MarkRef). report ≡ report_of texts log (uses_kept ms last) (bad_of ps texts ps)) (sym e) told;
      }

  -- the first step passes a limit
  pub too_large_by : (marks : List MarkRef) (after : Standing) (last : Logged) (r : TooLarge) → marks ≡ marks_of ps texts only → ModuleReads files ps texts → (n : Next marks (standing_as_read ps texts) last after) → passed m files [] last n.new after.texts ≡ Some r
      → IsTooLarge m files ps texts only r
  too_large_by marks after last r e read n h =
      record {
        before = standing_as_read ps texts;
        after = after;
        log = [];
        last = last;
        read = read;
        reached = begins [] (standing_as_read ps texts);
        next = moved.0;
        passes = moved.1;
      }
    where
      moved : (n : Next (marks_of ps texts only) (standing_as_read ps texts) last after) × (passed m files [] last n.new after.texts ≡ Some r)
      moved = subst (λ (ms : List MarkRef). (n : Next ms (standing_as_read ps texts) last after) × (passed m files [] last n.new after.texts ≡ Some r)) e (n, h)
