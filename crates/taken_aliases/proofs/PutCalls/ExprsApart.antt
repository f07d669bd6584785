-- A type as an expression that needs no blank stands apart from the token before it.
use Rattle.std.proofs.Common.{◌≡◌, refl, sym, subst, ℕ, Bool, true, false, List, [], ◌∷◌, Some, None}
use Rattle.std.specs.Prelude.{encode_utf8_all}
use Rattle.ucd_category.specs.GeneralCategory.{general_category}
use Rattle.ucd_category.specs.GeneralCategoryRows.{general_category_rows}
use Rattle.ucd_table.specs.Rows.{value_in}
use Rattle.go_tree.specs.declared.spans.Span.{Span}
use Rattle.go_tree.specs.declared.tokens.Token.{Token}
use Rattle.go_tree.specs.declared.tokens.Comment.{Comment}
use Rattle.go_tree.specs.Tree.{TypeExpr, named, pointer, slice_type, map_type, struct_type}
use Rattle.go_tree.specs.File.{File}
use Rattle.go_tree.specs.GoWords.Tokens.{TokensOf}
use Rattle.go_tree.specs.GoWords.Tokens.Characters.{is_letter}
use Rattle.go_read.specs.SpellsFiles.{SpellsFile}
use Rattle.go_layout.specs.TreeLayout.{expr_layout}
use Rattle.go_layout.specs.LayoutLaws.Formed.{FormedType}
use Rattle.run_rules.specs.FormTrees.{type_expr}
use Rattle.run_rules.specs.Steps.{At}
use Rattle.run_rules.specs.Texts.{spelling_before, first_spelling, needs_blank}
use Rattle.splice_laws.specs.Splice.{are_apart, first_word}
use Rattle.put_nodes.specs.FormsApart.Begins.{may_begin}
use Rattle.put_nodes.proofs.FormsApart.Apart.{forms_apart, name_apart}
use Rattle.taken_aliases.proofs.PutCalls.TypesLaid.{laid}

paren-begins : may_begin 40 ≡ true
unfolding is_letter general_category general_category_rows value_in
paren-begins = refl

star-begins : may_begin 42 ≡ true
unfolding is_letter general_category general_category_rows value_in
star-begins = refl

bracket-begins : may_begin 91 ≡ true
unfolding is_letter general_category general_category_rows value_in
bracket-begins = refl

map-begins : may_begin 109 ≡ true
unfolding is_letter general_category general_category_rows value_in
map-begins = refl

struct-begins : may_begin 115 ≡ true
unfolding is_letter general_category general_category_rows value_in
struct-begins = refl

module _ (text : List ℕ) (tokens : List Token) (comments : List Comment) (file : File Span) (of_text : TokensOf text tokens comments) (spells : SpellsFile tokens file) (at : ℕ) (z : At) where
  -- one that begins with a sign or a keyword
  begun : (c : ℕ) (cs : List ℕ) → may_begin c ≡ true → needs_blank (spelling_before at tokens) (Some (c ∷ cs)) ≡ false → (encoded : encode_utf8_all (c ∷ cs) ≡ c ∷ cs) → are_apart tokens at (c ∷ cs) ≡ true
  begun c cs b none encoded =
      forms_apart text tokens comments file of_text spells at c cs b (subst (λ (v : List ℕ). needs_blank (spelling_before at tokens) (Some v) ≡ false) (sym encoded) none)

  bare-apart : (t : TypeExpr At) → FormedType t → (c : Bool) → needs_blank (spelling_before at tokens) (first_spelling (expr_layout [] false c (type_expr z t))) ≡ false → are_apart tokens at (first_word (expr_layout [] false c (type_expr z t))) ≡ true
  unfolding lib.Utf8.encode
  bare-apart (named s None n) f c none = name_apart text tokens comments file of_text spells at n.name f.1 none
  bare-apart (named s (Some q) n) f c none = name_apart text tokens comments file of_text spells at q.name f.0 none
  bare-apart (pointer s t) f c none = begun 42 [] star-begins none refl
  bare-apart (slice_type s t) f c none = begun 91 [] bracket-begins none refl
  bare-apart (map_type s k t) f c none = begun 109 (97 ∷ 112 ∷ []) map-begins none refl
  bare-apart (struct_type s fs) f c none = begun 115 (116 ∷ 114 ∷ 117 ∷ 99 ∷ 116 ∷ []) struct-begins none refl

  pub laid-apart : (p c : Bool) (t : TypeExpr At) → FormedType t → needs_blank (spelling_before at tokens) (first_spelling (laid z p c t)) ≡ false → are_apart tokens at (first_word (laid z p c t)) ≡ true
  unfolding lib.Utf8.encode
  laid-apart true c t f none = begun 40 [] paren-begins none refl
  laid-apart false c t f none = bare-apart t f c none
