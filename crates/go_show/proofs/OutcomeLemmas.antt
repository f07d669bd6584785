-- What is written of a text that is read, and of one that isn't.
use Rattle.std.proofs.Common.{◌≢◌, inl, inr}
use Rattle.std.specs.Prelude.{ℕ, List, Option, Result, Ok, Err, OnOk, codes}
use Rattle.std.specs.Io.KnownBytes.{Appends}
use Rattle.go_tree.specs.FileView.{file_of}
use Rattle.go_layout.specs.Layouts.{text_of}
use Rattle.go_layout.specs.FileLayout.{file_layout}
use Rattle.go_parse.specs.declared.source.Source.{Source}
use Rattle.go_parse.specs.declared.source.ReadError.{ReadError}
use Rattle.go_parse.specs.declared.source.ReadError.TheVariants.{NotUtf8, BadToken, Unsupported, TooDeep, NotRead, NoMemory}
use Rattle.go_nesting.specs.Sources.{IsSource}
use Rattle.go_parse.specs.Sources.{RefusesText}
use Rattle.go_show.specs.Outcomes.{Reads, Says, SaysWhy, ShowsFile, ShowsTree}

says_no_want : (before after : Option (List ℕ)) (e : ReadError) → Says before after e → e ≢ NoMemory
says_no_want before after (NotUtf8 place) s i = absurd cc
says_no_want before after (BadToken place) s i = absurd cc
says_no_want before after (Unsupported place) s i = absurd cc
says_no_want before after (TooDeep place) s i = absurd cc
says_no_want before after (NotRead place) s i = absurd cc
says_no_want before after NoMemory s i = s

says_why : (text : List ℕ) (before after : Option (List ℕ)) (e : ReadError) → (e ≢ NoMemory → RefusesText text e) → Says before after e → SaysWhy text before after
says_why text before after e refused said = record { error = e; right = refused (says_no_want before after e said); written = said }

pub shows_fault : {T E : Type 0} (text : List ℕ) (before after : Option (List ℕ)) (e : ReadError) → (e ≢ NoMemory → RefusesText text e) → (r : Result T E) → OnOk r (Says before after e) → OnOk r (ShowsTree text before after)
shows_fault text before after e refused (Ok x) said = inr (says_why text before after e refused said)
shows_fault text before after e refused (Err x) said = said

pub shows_reason : {T E : Type 0} (text : List ℕ) (before after : Option (List ℕ)) (e : ReadError) → (e ≢ NoMemory → RefusesText text e) → (r : Result T E) → OnOk r (Says before after e) → OnOk r (ShowsFile text before after)
shows_reason text before after e refused (Ok x) said = inr (says_why text before after e refused said)
shows_reason text before after e refused (Err x) said = said

reads : (text : List ℕ) (s : Source) → IsSource text s.tokens.items s.tokens.comments (file_of s.tree) → Reads text
reads text s source = record { tokens = s.tokens.items; comments = s.tokens.comments; tree = file_of s.tree; source = source }

pub shows_read : {T E : Type 0} (text : List ℕ) (before after : Option (List ℕ)) (s : Source) → IsSource text s.tokens.items s.tokens.comments (file_of s.tree) → (r : Result T E) → OnOk r (Appends before after (codes "read\n")) → OnOk r (ShowsTree text before after)
shows_read text before after s source (Ok x) written = inl (reads text s source, written)
shows_read text before after s source (Err x) written = written

pub shows_print : {T E : Type 0} (text : List ℕ) (before after : Option (List ℕ)) (s : Source) → IsSource text s.tokens.items s.tokens.comments (file_of s.tree) → (r : Result T E) → OnOk r (Appends before after (text_of (file_layout (file_of s.tree)))) → OnOk r (ShowsFile text before after)
unfolding reads
shows_print text before after s source (Ok x) written = inl (reads text s source, written)
shows_print text before after s source (Err x) written = written
