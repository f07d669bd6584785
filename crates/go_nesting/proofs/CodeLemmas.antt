-- The code's terminals count as those of the grammar.
use Rattle.std.proofs.Common.{◌≡◌, ℕ, List, refl}
use Rattle.go_tree.specs.GoWords.Terminals as pure
use Rattle.go_tree.specs.GoWords.Codes.{spelled, code_of}
use Rattle.go_read.specs.SpellsWeight.{counts_after}

pub counts_code : (t : pure.Terminal) (w counts : List ℕ) → counts_after (spelled (code_of t) w) counts ≡ counts_after t counts
counts_code (pure.ident v) w counts = refl
counts_code (pure.int_lit v) w counts = refl
counts_code (pure.rune_lit v) w counts = refl
counts_code (pure.str_lit v) w counts = refl
counts_code (pure.binary_op op) w counts = refl
counts_code (pure.assign op) w counts = refl
counts_code pure.not_ w counts = refl
counts_code pure.define w counts = refl
counts_code pure.increment w counts = refl
counts_code pure.decrement w counts = refl
counts_code pure.comma w counts = refl
counts_code pure.semicolon w counts = refl
counts_code pure.colon w counts = refl
counts_code pure.dot w counts = refl
counts_code pure.ellipsis w counts = refl
counts_code pure.paren w counts = refl
counts_code pure.end_paren w counts = refl
counts_code pure.bracket w counts = refl
counts_code pure.end_bracket w counts = refl
counts_code pure.brace w counts = refl
counts_code pure.end_brace w counts = refl
counts_code pure.key_break w counts = refl
counts_code pure.key_case w counts = refl
counts_code pure.key_const w counts = refl
counts_code pure.key_continue w counts = refl
counts_code pure.key_default w counts = refl
counts_code pure.key_defer w counts = refl
counts_code pure.key_else w counts = refl
counts_code pure.key_for w counts = refl
counts_code pure.key_func w counts = refl
counts_code pure.key_if w counts = refl
counts_code pure.key_import w counts = refl
counts_code pure.key_map w counts = refl
counts_code pure.key_package w counts = refl
counts_code pure.key_range w counts = refl
counts_code pure.key_return w counts = refl
counts_code pure.key_struct w counts = refl
counts_code pure.key_switch w counts = refl
counts_code pure.key_type w counts = refl
counts_code pure.key_var w counts = refl
counts_code pure.foreign w counts = refl
