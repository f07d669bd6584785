-- Forms behind tokens: with a blank where the two would be read as one.
use Rattle.std.specs.Prelude.{◌≡◌, refl, false, true, codes, Some}
use Rattle.ucd_category.specs.GeneralCategory.{general_category}
use Rattle.ucd_category.specs.GeneralCategoryRows.{general_category_rows}
use Rattle.ucd_table.specs.Rows.{value_in}
use Rattle.go_tree.specs.GoWords.Tokens.Characters.{is_letter, is_digit}
use Rattle.go_scan.specs.Automaton.{next_of, longest_from}
use Rattle.go_scan.specs.Pieces.{piece_of, lexeme_of}
use Rattle.run_rules.specs.Texts.{needs_blank}
use Rattle.splice_laws.specs.Splice.{are_two}

-- `return(p).N`, where `B` is written for the member of p
return_name : needs_blank (Some (codes "return")) (Some (codes "B")) ≡ true
return_name = refl

-- `&T`, where `*U` is written for T
and_pointer : needs_blank (Some (codes "&")) (Some (codes "*")) ≡ false
and_pointer = refl

-- `/T`, where `*U` is written for T
slash_pointer : needs_blank (Some (codes "/")) (Some (codes "*")) ≡ true
slash_pointer = refl

-- `]T`, where `[]U` is written for T
behind_bracket : needs_blank (Some (codes "]")) (Some (codes "[")) ≡ false
behind_bracket = refl

-- `*` before `*` are two side by side, and `/` before `*` begins a comment
stars_are_two : are_two (codes "*") (codes "*") ≡ true
unfolding are_two piece_of lexeme_of longest_from next_of is_letter is_digit general_category general_category_rows value_in
stars_are_two = refl

no_comment : are_two (codes "/") (codes "*") ≡ false
unfolding are_two piece_of lexeme_of longest_from next_of is_letter is_digit general_category general_category_rows value_in
no_comment = refl
