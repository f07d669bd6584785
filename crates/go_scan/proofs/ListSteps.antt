-- What a piece adds to the lists.
use Rattle.std.proofs.Common.{◌≡◌, ℕ, ◌+◌, Bool, cond, List, [], ◌∷◌, ◌++◌, length, chars, Some, None, refl, sym, ap, ◌∙◌, encode_utf8_all, IsUtf8}
use Rattle.std.proofs.lemmas.Str.{encodes-chars}
use Rattle.go_tree.specs.declared.tokens.Token.{Token}
use Rattle.go_tree.specs.declared.tokens.TokenKind.{TokenKind}
use Rattle.go_tree.specs.declared.tokens.Comment.{Comment}
use Rattle.go_tree.specs.declared.go_words.terminals.Terminal.{Terminal}
use Rattle.go_tree.specs.GoWords.Terminals.{terminal_of}
use Rattle.go_tree.specs.GoWords.Codes.{spelled, terminal_at}
use Rattle.go_tree.specs.GoWords.Tokens.{ends_line, size_of}
use Rattle.go_tree.specs.GoWords.Tokens.Pieces.{blanks, remark, token}
use Rattle.go_tree.proofs.GoWords.CodeLemmas.{terminal_is}
use Rattle.go_scan.specs.declared.lists.Lists.{Lists}
use Rattle.go_scan.specs.Scanned.{Adds}
use Rattle.go_scan.proofs.BytesLemmas.{line_same}

append_nil : {A : Type 0} (xs : List A) → xs ++ [] ≡ xs
append_nil [] = refl
append_nil {A} (x ∷ xs) = ap (λ (ys : List A). x ∷ ys) (append_nil xs)

abbrev pub token_with : ℕ → TokenKind → ℕ → List ℕ → Token
token_with at kind end spelling = record { span = record { start = at; end = end }; kind = kind; spelling = spelling }

module _ (at end : ℕ) (word bytes : List ℕ) (utf8 : IsUtf8 word) (same : bytes ≡ word) (ends : end ≡ at + length bytes) where
  bytes_are : bytes ≡ encode_utf8_all (chars word)
  bytes_are = same ∙ sym (encodes-chars word utf8)

  end_is : end ≡ at + size_of (chars word)
  end_is = ends ∙ ap (λ (bs : List ℕ). at + length bs) bytes_are

  module _ (kind : TokenKind) (spelling : List ℕ) (copied : spelling ≡ bytes) (terminal : Terminal) (is : spelled terminal bytes ≡ terminal_of kind bytes) where
    token_is : token_with at kind end spelling ≡ token_with at kind (at + size_of (chars word)) (encode_utf8_all (chars word))
    token_is =
        ap (λ (n : ℕ). token_with at kind n spelling) end_is
        ∙ ap (λ (s : List ℕ). token_with at kind (at + size_of (chars word)) s) (copied ∙ bytes_are)

    terminal_there : terminal ≡ terminal_at (token_with at kind (at + size_of (chars word)) (encode_utf8_all (chars word)))
    terminal_there =
        terminal_is terminal (token_with at kind end bytes) is
        ∙ ap (λ (s : List ℕ). terminal_at (token_with at kind end s)) bytes_are

    pub adds_token : (old new : Lists) → new.tokens.items ≡ old.tokens.items ++ token_with at kind end spelling ∷ [] → new.terminals.items ≡ old.terminals.items ++ terminal ∷ []
        → new.due ≡ cond (ends_line kind bytes) (Some end) None → new.comments.items ≡ old.comments.items → Adds old new at (token kind) (chars word)
    adds_token old new t u d c = record {
      tokens = t ∙ ap (λ (x : Token). old.tokens.items ++ x ∷ []) token_is;
      terminals = u ∙ ap (λ (x : Terminal). old.terminals.items ++ x ∷ []) terminal_there;
      due = d ∙ ap (λ (n : ℕ). cond (ends_line kind bytes) (Some n) None) end_is
          ∙ ap (λ (b : Bool). cond b (Some (at + size_of (chars word))) None) (ap (ends_line kind) same ∙ sym (line_same word utf8 kind));
      comments = c ∙ sym (append_nil old.comments.items);
    }

  abbrev comment_with : ℕ → Comment
  comment_with n = record { span = record { start = at; end = n } }

  pub adds_comment : (old gap new : Lists) → Adds old gap at blanks (chars word) → new.tokens.items ≡ gap.tokens.items → new.terminals.items ≡ gap.terminals.items → new.due ≡ gap.due
      → new.comments.items ≡ gap.comments.items ++ record { span = record { start = at; end = end } } ∷ [] → Adds old new at remark (chars word)
  adds_comment old gap new adds t u d c = record {
    tokens = t ∙ adds.tokens;
    terminals = u ∙ adds.terminals;
    due = d ∙ adds.due;
    comments =
        c ∙ ap (λ (xs : List Comment). xs ++ comment_with end ∷ []) (adds.comments ∙ append_nil old.comments.items)
        ∙ ap (λ (n : ℕ). old.comments.items ++ comment_with n ∷ []) end_is;
  }
