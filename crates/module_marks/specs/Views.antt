-- Marks and texts of files as values without places in memory.
use Rattle.std.specs.Prelude.{ℕ, List, map}
use Rattle.run_rules.specs.Sites.{MarkRef}
use Rattle.run_rules.specs.Marks.{BadAt}
use Rattle.run_rules.specs.Texts.{FileText}
use Rattle.module_texts.specs.declared.files.ScannedFile.{ScannedFile}
use Rattle.file_names.specs.declared.members.MarkRef as code
use Rattle.module_marks.specs.declared.file_marks.BadMarkAt.{BadMarkAt}

-- a declared name by its numbers
abbrev pub mark_ref_of : code.MarkRef → MarkRef
mark_ref_of m = record { «package» = m.«package»; file = m.file; decl = m.decl; item = m.item }

-- a mark that means nothing, with the path of its file
abbrev pub bad_at_of : BadMarkAt → BadAt
bad_at_of b = (b.path, b.mark)

-- the text of a file with its tokens and comments
abbrev pub file_text : ScannedFile → FileText
file_text s = record { text = s.file.now.bytes; tokens = s.tokens.items; comments = s.tokens.comments }

-- the texts of files by their paths
abbrev pub texts_of : List ScannedFile → List (List ℕ × FileText)
texts_of files = map (λ s. (s.file.now.path, file_text s)) files
