-- The bytes of a token's spelling.
use Rattle.std.specs.Prelude.{ℕ, List, take}
use Rattle.go_tree.specs.declared.spellings.SpellingBytes.{SpellingBytes}

-- the bytes of a spelling, which are few and stand in it, or stand in a list
abbrev pub bytes_of : SpellingBytes → List ℕ
bytes_of (SpellingBytes.Inline len cells) = take len cells
bytes_of (SpellingBytes.Listed list) = list.value.items
