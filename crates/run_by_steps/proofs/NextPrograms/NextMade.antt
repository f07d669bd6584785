-- The program with the file that is read is the next one.
use Rattle.std.proofs.Common.{◌≡◌, ◌∙◌, refl, sym, subst, ℕ, List, [], ◌∷◌, map, Option, Some, None}
use Rattle.std.specs.Option.{option_map}
use Rattle.go_tree.specs.declared.spans.Span.{Span}
use Rattle.go_tree.specs.declared.tokens.Token.{Token}
use Rattle.go_tree.specs.Tree.{NameAt}
use Rattle.go_tree.specs.File.{ImportSpec, ImportDecl, Decl, File}
use Rattle.go_tree.specs.FileBare.{bare_decl}
use Rattle.go_tree.specs.GoWords.Tokens.{TokensOf}
use Rattle.go_scan.proofs.Cuts.{tokens_once}
use Rattle.go_read.specs.SpellsFiles.{SpellsFile}
use Rattle.go_read.proofs.Whole.{file_one}
use Rattle.splice_laws.specs.ImportSplices.AddedFile.{AreWritable}
use Rattle.run_rules.specs.Sites.{MarkRef}
use Rattle.run_rules.specs.Naming.{imports_added}
use Rattle.run_rules.specs.Marks.{text_at}
use Rattle.run_rules.specs.Texts.{FileText}
use Rattle.run_rules.specs.Respanned.{name_with, import_spec_with, import_decl_with, decl_with, decls_with, file_with}
use Rattle.run_rules.specs.Steps.{At, same_here, Found, new_decls, with_file}
use Rattle.run_rules.specs.Run.{Standing, here_of, origin_of, as_read, step_in, edits_in, logged, with_text, Next}
use Rattle.splice_laws.proofs.RunLaws.Reread.{file-reread}
use Rattle.run_by_steps.specs.NextPrograms.Made.{PutsForm, MakesFile, NextWith}
use Rattle.run_by_steps.specs.NextPrograms.Laws.{MadeFilesAreNext, OneFileIsMade}
use Rattle.run_by_steps.proofs.NextPrograms.Zips.{zipped}
use Rattle.run_by_steps.proofs.NextPrograms.TextsRead.{new_text, read, has_form}

-- ---- imports come from where they stand

name_same : (n : Option (NameAt Span)) → option_map (name_with origin_of) (option_map (name_with as_read) n) ≡ option_map (name_with here_of) (option_map (name_with as_read) n)
name_same None = refl
name_same (Some n) = refl

specs_same : (ss : List (ImportSpec Span)) → map (import_spec_with origin_of) (map (import_spec_with as_read) ss) ≡ map (import_spec_with here_of) (map (import_spec_with as_read) ss)
specs_same [] = refl
specs_same (s ∷ ss) = λ v. record { span = s.span; name = name_same s.name v; path = s.path } ∷ specs_same ss v

imports_same : (ds : List (ImportDecl Span)) → map (import_decl_with origin_of) (map (import_decl_with as_read) ds) ≡ map (import_decl_with here_of) (map (import_decl_with as_read) ds)
imports_same [] = refl
imports_same (d ∷ ds) = λ v. record { span = d.span; grouped = d.grouped; specs = specs_same d.specs v } ∷ imports_same ds v

-- ---- a file whose declarations are those with the form in place

module _ (marks : List MarkRef) (st : Standing) (f : Found At) (old new : FileText) (tree : File Span) (first : step_in marks st ≡ Some f) (stands : text_at f.site.at.source.path st.texts ≡ Some old)
    (m : MakesFile marks st f old new tree) (zs : List (Decl At)) (here : map (decl_with here_of) zs ≡ tree.decls)
    (origin : map (decl_with origin_of) zs ≡ map (decl_with origin_of) (new_decls same_here st.packages f.site f.form)) where
  abbrev made : File At
  made =
      record {
        package_name = name_with as_read tree.package_name;
        imports = map (import_decl_with as_read) tree.imports;
        decls = zs;
      }

  abbrev after_it : Standing
  after_it = record { packages = with_file same_here st.packages f.site.at made; texts = with_text f.site.at.source.path new st.texts }

  places : file_with here_of made ≡ tree
  places = λ v. record { package_name = tree.package_name; imports = (file-reread tree v).imports; decls = here v }

  origins : file_with origin_of made ≡ record (file_with here_of made) { decls = decls_with origin_of (new_decls same_here st.packages f.site f.form) }
  origins = λ v. record { package_name = tree.package_name; imports = imports_same tree.imports v; decls = origin v }

  next : Next marks st (logged marks st f (edits_in marks st old f)) after_it
  next =
      record {
        found = f;
        old = old;
        new = new;
        tree = made;
        is_first = first;
        stands = stands;
        log_is = refl;
        text_is = m.text_is;
        scans = m.scans;
        spells = subst (λ (t : File Span). SpellsFile new.tokens t) (sym places) m.spells;
        origins_are = origins;
        packages_are = refl;
        texts_are = refl;
      }

  next_with : NextWith marks st f old new tree
  unfolding next
  next_with = record { after = after_it; next = next; text_is = refl; tree_is = places }

-- ---- one file is read

-- two readings of one text have one tree
one_tree : (text : List ℕ) (a b : FileText) (x y : File Span) → a.text ≡ text → TokensOf a.text a.tokens a.comments → SpellsFile a.tokens x
    → b.text ≡ text → TokensOf b.text b.tokens b.comments → SpellsFile b.tokens y → (a ≡ b) × (x ≡ y)
one_tree text a b x y a_is a_scans a_spells b_is b_scans b_spells = (
  λ v. record { text = (a_is ∙ sym b_is) v; tokens = sym same.0 v; comments = sym same.1 v },
  file_one a.tokens x y a_spells (subst (λ (ts : List Token). SpellsFile ts y) same.0 b_spells),
)
  where
    same : (b.tokens ≡ a.tokens) × (b.comments ≡ a.comments)
    same =
        tokens_once text a.tokens b.tokens a.comments b.comments
        (subst (λ (t : List ℕ). TokensOf t a.tokens a.comments) a_is a_scans)
        (subst (λ (t : List ℕ). TokensOf t b.tokens b.comments) b_is b_scans)

module _ (marks : List MarkRef) (st : Standing) (f : Found At) (old new : FileText) (tree : File Span) (h : PutsForm st f old) (writable : AreWritable (imports_added f.named)) (m : MakesFile marks st f old new tree) where
  as_put : map bare_decl tree.decls ≡ map bare_decl (new_decls same_here st.packages f.site f.form)
  as_put =
      (λ v. map bare_decl (trees v).decls) ∙ has_form marks st f old h writable
    where
      trees : tree ≡ (read marks st f old h writable).file
      trees =
          (one_tree (new_text marks st f old h writable) new
          (record { text = new_text marks st f old h writable; tokens = (read marks st f old h writable).tokens; comments = (read marks st f old h writable).comments })
          tree (read marks st f old h writable).file m.text_is m.scans m.spells refl (read marks st f old h writable).of_text (read marks st f old h writable).spelled).1

pub made_are_next : MadeFilesAreNext
made_are_next marks st f old new tree first stands h writable m =
    let z = zipped tree.decls (new_decls same_here st.packages f.site f.form) (as_put marks st f old new tree h writable m) in
    next_with marks st f old new tree first stands m z.0 z.1 z.2

pub one_made : OneFileIsMade
one_made marks st l after n new tree m =
    let same = one_tree n.new.text n.new new (file_with here_of n.tree) tree refl n.scans n.spells (m.text_is ∙ sym n.text_is) m.scans m.spells in
    (same.0, same.1)
