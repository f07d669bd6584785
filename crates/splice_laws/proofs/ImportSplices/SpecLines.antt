-- The parts of imports that are added to a group, and what they spell (Go specification, Import declarations).
use Rattle.std.proofs.Common.{◌≡◌, ℕ, true, false, List, [], ◌∷◌, ◌++◌, map, Option, Some, None, codes, refl, sym, ap, subst, ◌∙◌}
use Rattle.std.specs.Prelude.{encode_utf8_all}
use Rattle.std.specs.Str.{all_scalars}
use Rattle.std.proofs.lemmas.List.{append_assoc}
use Rattle.std.proofs.lemmas.Str.{encodes-append}
use Rattle.go_tree.specs.File.{ImportSpec}
use Rattle.go_tree.specs.GoWords.Terminals.{Terminal, lex, str_lit, semicolon}
use Rattle.go_tree.specs.GoWords.Tokens.Pieces.{Piece}
use Rattle.go_read.specs.SpellsTypes.{Lexemes}
use Rattle.go_read.specs.SpellsFiles.{SpellsImportSpecs, more_import_specs_rule}
use Rattle.go_read.specs.Bareness.{nowhere}
use Rattle.run_rules.specs.declared.import_rules.new_import.NewImport.{NewImport}
use Rattle.run_rules.specs.ImportRules.SpecText.{quoted, spec_text}
use Rattle.run_rules.specs.ImportRules.Added.{each_within}
use Rattle.splice_laws.specs.Joints.{words_of, InnerEnd, LastEnds}
use Rattle.splice_laws.specs.ImportTexts.{a_piece, spec_pieces}
use Rattle.splice_laws.specs.Edited.{terminals}
use Rattle.splice_laws.proofs.AddImports.{words_both, z}
use Rattle.splice_laws.proofs.Splices.{scalars_on}
use Rattle.splice_laws.specs.ImportSplices.AddedFile.{AreWritable, added_spec}
use Rattle.splice_laws.proofs.ImportSplices.Terms.{terms}
use Rattle.splice_laws.proofs.ImportSplices.Bytes.{bytes_of, bytes_then}
use Rattle.splice_laws.proofs.ImportSplices.Quotes.{low_all}
use Rattle.splice_laws.proofs.ImportSplices.News.{SpecOf, spec_of, blank_inner, blank_last, spec_inner, spec_last, name_terminals, name_lexemes, spec_lexemes, spec_terminals, spec_spells}

tab_terms : (n : Option (List ℕ)) (l : List ℕ) (rest : List Piece) → terms false (a_piece (codes "\t") ∷ (spec_pieces n l ++ (a_piece (codes "\n") ∷ rest))) ≡ name_terminals n ++ str_lit (encode_utf8_all l) ∷ semicolon ∷ terms false rest
unfolding terms lib.Utf8.encode
tab_terms None l rest = refl
tab_terms (Some n) l rest = refl

pub record SpecLines (added : List NewImport) : Type 0 where
  pub ns : List Piece
  pub inner : InnerEnd ns
  pub closed : (next : List ℕ) → LastEnds ns next
  pub scalars : all_scalars (words_of ns) ≡ true
  pub bytes : bytes_of ns ≡ each_within (codes "\t") (codes "\n") added
  pub vs : Lexemes
  pub own : (qs : List Piece) → terms false (ns ++ qs) ≡ terminals vs ++ terms false qs
  pub spells : (xs : List (ImportSpec (Unit {0}))) (us r : Lexemes) → SpellsImportSpecs nowhere xs us r → SpellsImportSpecs nowhere (map added_spec added ++ xs) (vs ++ us) r

pub spec_lines : (added : List NewImport) → AreWritable added → SpecLines added
unfolding terms
spec_lines [] h = record { ns = []; inner = tt; closed = λ next. tt; scalars = refl; bytes = refl; vs = []; own = λ qs. refl; spells = λ xs us r s. s }
spec_lines (i ∷ is) h = more (spec_of i h.0 h.1) (spec_lines is h.2)
  where
    tab_bytes : (w : List ℕ) → encode_utf8_all (9 ∷ w) ≡ codes "\t" ++ encode_utf8_all w
    tab_bytes w = encodes-append (codes "\t") w ∙ ap (λ (v : List ℕ). v ++ encode_utf8_all w) (low_all (codes "\t") refl)

    line_bytes : (w : List ℕ) → encode_utf8_all (10 ∷ w) ≡ codes "\n" ++ encode_utf8_all w
    line_bytes w = encodes-append (codes "\n") w ∙ ap (λ (v : List ℕ). v ++ encode_utf8_all w) (low_all (codes "\n") refl)

    more : SpecOf i → SpecLines is → SpecLines (i ∷ is)
    more x later = let l : List ℕ = quoted i.path in let rest : List Piece = a_piece (codes "\n") ∷ later.ns in record {
      ns = a_piece (codes "\t") ∷ (spec_pieces x.name l ++ rest);
      inner = blank_inner (codes "\t") (spec_pieces x.name l ++ rest) refl (spec_inner l x.text x.name x.is_name rest (blank_inner (codes "\n") later.ns refl later.inner));
      closed = λ next. blank_last (codes "\t") (spec_pieces x.name l ++ rest) refl next (spec_last l x.text x.name rest next (blank_last (codes "\n") later.ns refl next (later.closed next)));
      scalars = scalars_on (codes "\t") (words_of (spec_pieces x.name l ++ rest)) refl (subst (λ (v : List ℕ). all_scalars v ≡ true) (sym (words_both (spec_pieces x.name l) rest))
          (scalars_on (words_of (spec_pieces x.name l)) (10 ∷ words_of later.ns) x.scalars (scalars_on (codes "\n") (words_of later.ns) refl later.scalars)));
      bytes = tab_bytes (words_of (spec_pieces x.name l ++ rest)) ∙ ap (λ (v : List ℕ). codes "\t" ++ v) (bytes_then (spec_pieces x.name l) rest ∙ ap (λ (v : List ℕ). v ++ bytes_of rest) x.bytes
          ∙ ap (λ (v : List ℕ). spec_text i ++ v) (line_bytes (words_of later.ns) ∙ ap (λ (v : List ℕ). codes "\n" ++ v) later.bytes));
      vs = spec_lexemes x.name l (lex z semicolon ∷ later.vs);
      own = owns x later;
      spells = λ xs us r s. spelled x later xs us r s;
    }
      where
        owns : (x : SpecOf i) (later : SpecLines is) (qs : List Piece) → terms false ((a_piece (codes "\t") ∷ (spec_pieces x.name (quoted i.path) ++ (a_piece (codes "\n") ∷ later.ns))) ++ qs) ≡ terminals (spec_lexemes x.name (quoted i.path) (lex z semicolon ∷ later.vs)) ++ terms false qs
        owns x later qs =
            let l : List ℕ = quoted i.path in
            ap (λ (us : List Piece). terms false (a_piece (codes "\t") ∷ us)) (append_assoc (spec_pieces x.name l) (a_piece (codes "\n") ∷ later.ns) qs)
            ∙ tab_terms x.name l (later.ns ++ qs) ∙ ap (λ (ts : List Terminal). name_terminals x.name ++ str_lit (encode_utf8_all l) ∷ semicolon ∷ ts) (later.own qs)
            ∙ sym (append_assoc (name_terminals x.name) (str_lit (encode_utf8_all l) ∷ semicolon ∷ terminals later.vs) (terms false qs)) ∙ ap (λ (ts : List Terminal). ts ++ terms false qs) (sym (spec_terminals x.name l (lex z semicolon ∷ later.vs)))

        spelled : (x : SpecOf i) (later : SpecLines is) (xs : List (ImportSpec (Unit {0}))) (us r : Lexemes) → SpellsImportSpecs nowhere xs us r → SpellsImportSpecs nowhere (map added_spec (i ∷ is) ++ xs) (spec_lexemes x.name (quoted i.path) (lex z semicolon ∷ later.vs) ++ us) r
        spelled x later xs us r s =
            let l : List ℕ = quoted i.path in
            subst (λ (ws : Lexemes). SpellsImportSpecs nowhere (map added_spec (i ∷ is) ++ xs) ws r) (sym (append_assoc (name_lexemes x.name) (lex z (str_lit (encode_utf8_all l)) ∷ lex z semicolon ∷ later.vs) us))
            (subst (λ (y : ImportSpec (Unit {0})). SpellsImportSpecs nowhere (y ∷ (map added_spec is ++ xs)) (spec_lexemes x.name l (lex z semicolon ∷ (later.vs ++ us))) r) (sym x.tree)
            (more_import_specs_rule {c = z} (spec_spells x.name l (lex z semicolon ∷ (later.vs ++ us))) (later.spells xs us r s)))
