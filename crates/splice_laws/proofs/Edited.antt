-- Any text with the parts within a span replaced, and a file that the tokens then spell.
use Rattle.std.proofs.Common.{◌≡◌, ℕ, ◌+◌, List, [], ◌∷◌, ◌++◌, length, Option, Some, None, refl, sym, ap, subst, ◌∙◌}
use Rattle.std.proofs.lemmas.List.{append_assoc}
use Rattle.go_tree.specs.declared.spans.Span.{Span}
use Rattle.go_tree.specs.declared.tokens.Token.{Token}
use Rattle.go_tree.specs.File.{File}
use Rattle.go_tree.specs.FileBare.{bare_file}
use Rattle.go_tree.specs.GoWords.Tokens.{size_of, tokens_from, pieces_size}
use Rattle.go_tree.specs.GoWords.Tokens.Pieces.{Piece}
use Rattle.go_tree.specs.GoWords.Terminals.{Terminal, lexemes}
use Rattle.go_read.specs.SpellsTypes.{Lexemes}
use Rattle.go_read.specs.SpellsSpans.{span_to}
use Rattle.go_read.specs.SpellsFiles.{SpellsFront}
use Rattle.go_read.specs.Bareness.{nowhere}
use Rattle.go_layout.proofs.LayoutLaws.LaidCuts.{is_due}
use Rattle.text_edits.specs.declared.edit.Edit.{Edit}
use Rattle.text_edits.specs.Applied.{Ascend, applied}
use Rattle.text_edits.specs.InTurn.{InTurn}
use Rattle.text_edits.proofs.Turns.{turns_agree}
use Rattle.splice_laws.specs.Joints.{InnerEnd, LastEnds, Parted, Fitting, begin_of, span_within, given, due_behind}
use Rattle.splice_laws.specs.Imports.{Shortened}
use Rattle.splice_laws.specs.Splice.{ReadsAs}
use Rattle.splice_laws.specs.Edited.{terminals, given_terminals, gives_semicolon}
use Rattle.splice_laws.proofs.Splices.{tokens_then, parted_tokens, spliced}
use Rattle.splice_laws.proofs.TokenLists.{behind_alike}
use Rattle.splice_laws.proofs.AddImports.{reads_alike, terminals_both, lexemes_both}

three : (ps qs rs : List Piece) (m : ℕ) → terminals (lexemes (tokens_from m None (ps ++ (qs ++ rs)))) ≡ given_terminals m ps qs rs
three ps qs rs m =
    let a1 : ℕ = m + pieces_size ps in
    let d1 : Option ℕ = due_behind m None ps in
    let a2 : ℕ = a1 + pieces_size qs in
    let d2 : Option ℕ = due_behind a1 d1 qs in
    ap (λ (ts : List Token). terminals (lexemes ts)) (tokens_then ps (qs ++ rs) m None) ∙ ap terminals (lexemes_both (given m None ps) (tokens_from a1 d1 (qs ++ rs))) ∙ terminals_both (lexemes (given m None ps)) (lexemes (tokens_from a1 d1 (qs ++ rs)))
    ∙ ap (λ (ts : List Terminal). terminals (lexemes (given m None ps)) ++ ts) (
    ap (λ (ts : List Token). terminals (lexemes ts)) (tokens_then qs rs a1 d1) ∙ ap terminals (lexemes_both (given a1 d1 qs) (tokens_from a2 d2 rs)) ∙ terminals_both (lexemes (given a1 d1 qs)) (lexemes (tokens_from a2 d2 rs)))

pub edited : (text mark : List ℕ) (before inside behind : List Piece) (tail : List ℕ) → Parted text mark before inside behind tail → (new bytes : List ℕ) (pieces : List Piece) → Fitting new pieces tail behind bytes → InnerEnd before → LastEnds before (new ++ tail)
    → (f : File (Unit {0})) (us : Lexemes) → SpellsFront nowhere f us [] → terminals us ≡ given_terminals (size_of mark) before pieces behind
    → ReadsAs (applied text (record { span = span_within mark before inside; text = bytes } ∷ [])) f
edited text mark before inside behind tail p new bytes pieces fit inner last f us d e =
    reads_alike (applied text (record { span = span_within mark before inside; text = bytes } ∷ [])) (tokens_from (size_of mark) None (before ++ (pieces ++ behind))) _ f us
    (parted_tokens (applied text (record { span = span_within mark before inside; text = bytes } ∷ [])) mark before pieces behind tail (spliced text mark before inside behind tail p new bytes pieces fit inner last)) d
    (e ∙ sym (three before pieces behind (size_of mark)))

-- ---- removed

due_is : (d : Option ℕ) → gives_semicolon d ≡ is_due d
due_is None = refl
due_is (Some n) = refl

cancel_terminals : (xs : List Terminal) (ys zs : List Terminal) → xs ++ ys ≡ xs ++ zs → ys ≡ zs
cancel_terminals [] ys zs e = e
cancel_terminals (x ∷ xs) ys zs e = let t : xs ++ ys ≡ xs ++ zs = cc in cancel_terminals xs ys zs t

nothing : (at : ℕ) (d : Option ℕ) → is_due d ≡ is_due (due_behind at d [])
unfolding due_behind
nothing at d = refl

nothing_given : (at : ℕ) (d : Option ℕ) → [] ≡ terminals (lexemes (given at d []))
unfolding given
nothing_given at d = refl

-- The parts within the span give the tokens of an import spec or declaration, and of the semicolon behind it.
pub removed : (text mark : List ℕ) (before inside behind : List Piece) (tail : List ℕ) → Parted text mark before inside behind tail → InnerEnd before → LastEnds before tail → (span : Span) (f g : File Span) (tokens : Lexemes)
    → terminals tokens ≡ given_terminals (size_of mark) before inside behind → (s : Shortened span_to span tokens (λ us. SpellsFront nowhere (bare_file g) us []))
    → terminals s.front ≡ terminals (lexemes (given (size_of mark) None before)) → terminals (s.node ++ s.end) ≡ terminals (lexemes (given (begin_of mark before) (due_behind (size_of mark) None before) inside))
    → gives_semicolon (due_behind (size_of mark) None before) ≡ gives_semicolon (due_behind (begin_of mark before) (due_behind (size_of mark) None before) inside)
    → ReadsAs (applied text (record { span = span_within mark before inside; text = [] } ∷ [])) (bare_file g)
removed text mark before inside behind tail p inner last span f g tokens are s front node due =
    let m : ℕ = size_of mark in
    let a1 : ℕ = m + pieces_size before in
    let d1 : Option ℕ = due_behind m None before in
    let a2 : ℕ = a1 + pieces_size inside in
    let d2 : Option ℕ = due_behind a1 d1 inside in
    let parted_list : terminals s.front ++ (terminals (s.node ++ s.end) ++ terminals s.rest) ≡ terminals tokens =
    ap (λ (ts : List Terminal). terminals s.front ++ ts) (sym (terminals_both (s.node ++ s.end) s.rest) ∙ ap terminals (append_assoc s.node s.end s.rest)) ∙ sym (terminals_both s.front (s.node ++ (s.end ++ s.rest))) ∙ ap terminals (sym s.tokens) in
    let rest : terminals s.rest ≡ terminals (lexemes (tokens_from a2 d2 behind)) =
    cancel_terminals (terminals (s.node ++ s.end)) (terminals s.rest) (terminals (lexemes (tokens_from a2 d2 behind)))
    (cancel_terminals (terminals s.front) (terminals (s.node ++ s.end) ++ terminals s.rest) (terminals (s.node ++ s.end) ++ terminals (lexemes (tokens_from a2 d2 behind)))
    (parted_list ∙ are ∙ ap (λ (ts : List Terminal). ts ++ (terminals (lexemes (given a1 d1 inside)) ++ terminals (lexemes (tokens_from a2 d2 behind)))) (sym front)
    ∙ ap (λ (ts : List Terminal). terminals s.front ++ (ts ++ terminals (lexemes (tokens_from a2 d2 behind)))) (sym node))) in
    edited text mark before inside behind tail p [] [] [] (record { scalars = refl; encoded = refl; words = refl; parts = p.parts_behind }) inner last (bare_file g) (s.front ++ s.rest) s.shorter
    (terminals_both s.front s.rest ∙ ap (λ (ts : List Terminal). ts ++ terminals s.rest) front
    ∙ ap (λ (ts : List Terminal). terminals (lexemes (given m None before)) ++ ts) (rest ∙ behind_alike behind a2 (a1 + 0) d2 (due_behind a1 d1 []) (sym (due_is d2) ∙ sym due ∙ due_is d1 ∙ nothing a1 d1) ∙ ap (λ (ts : List Terminal). ts ++ terminals (lexemes (tokens_from (a1 + 0) (due_behind a1 d1 []) behind))) (nothing_given a1 d1)))

-- ---- several edits

pub turned : (text new : List ℕ) (es : List Edit) (f : File (Unit {0})) → Ascend 0 (length text) es → InTurn text es new → ReadsAs new f → ReadsAs (applied text es) f
turned text new es f ascend turn r = subst (λ (t : List ℕ). ReadsAs t f) (turns_agree text new es ascend turn) r
