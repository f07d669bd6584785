-- Where a name is put in the place of what begins with a parenthesis, a blank may be needed.
use Rattle.std.specs.Prelude.{◌≡◌, refl, false, true, codes}
use Rattle.ucd_category.specs.GeneralCategory.{general_category}
use Rattle.ucd_category.specs.GeneralCategoryRows.{general_category_rows}
use Rattle.ucd_table.specs.Rows.{value_in}
use Rattle.go_tree.specs.GoWords.Tokens.Characters.{is_letter, is_digit}
use Rattle.go_tree.specs.GoWords.Tokens.Pieces.{keyword_spellings}
use Rattle.go_scan.specs.Automaton.{next_of, longest_from}
use Rattle.go_scan.specs.Pieces.{piece_of, lexeme_of}
use Rattle.splice_laws.specs.Splice.{are_two}

-- `return(p).N`, where `B` is written for the member of p
return_name : are_two (codes "return") (codes "B") ≡ false
unfolding are_two piece_of lexeme_of longest_from next_of keyword_spellings is_letter is_digit general_category general_category_rows value_in
return_name = refl

-- `-N`, where `B` is written for N
minus_name : are_two (codes "-") (codes "B") ≡ true
unfolding are_two piece_of lexeme_of longest_from next_of keyword_spellings is_letter is_digit general_category general_category_rows value_in
minus_name = refl
