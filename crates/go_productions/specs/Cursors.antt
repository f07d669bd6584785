-- The tokens that stand ahead of a place.
use Rattle.std.specs.Prelude.{drop}
use Rattle.go_tree.specs.GoWords.Terminals.{lexemes}
use Rattle.go_read.specs.SpellsTypes.{Lexemes}
use Rattle.go_productions.specs.declared.cursor.Cursor.{Cursor}

-- the tokens from the cursor on
unfoldable pub ahead : Cursor → Lexemes
ahead c = lexemes (drop c.at c.tokens.now.items)
