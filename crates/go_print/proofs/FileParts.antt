-- Files and their declarations, by their parts.
use Rattle.std.proofs.Common.{◌≡◌, ◌<◌, ◌≤◌, ◌+◌, ℕ, Bool, List, [], ◌∷◌, ◌++◌, length, drop, get_or, codes, refl, sym, ap, ◌∙◌, add-one, append_assoc, append-nil}
use Rattle.std.proofs.Math.Seq.{drop-cons}
use Rattle.std.proofs.lemmas.List.{drop_all}
use Rattle.go_layout.specs.Layouts.{Layout, text_of}
use Rattle.go_layout.specs.FileLayout.{line_before, lines_layout, paragraphs_layout, quoted_byte, quoted_bytes}
use Rattle.go_print.specs.Parts.{text_if}
use Rattle.go_print.proofs.Lists.{entry}
use Rattle.go_print.proofs.Steps.{all, has_more}

module _ {B : Type 0} (f : B → Layout) where
  -- an entry of a group, and the newline after it where others follow
  abbrev pub line_part : List ℕ → Bool → B → List ℕ
  line_part i more x = text_of (f x) ++ text_if more (10 ∷ i)

  line_is : (i : List ℕ) (ys : List B) → text_if (has_more ys) (10 ∷ i) ≡ text_of (line_before i ys)
  line_is i [] = refl
  line_is i (y ∷ ys) = refl

  pub lines_all : (i : List ℕ) (ys : List B) → all (line_part i) ys ≡ text_of (lines_layout f i ys)
  lines_all i [] = refl
  lines_all i (y ∷ ys) = entry (text_of (f y)) _ _ _ _ (line_is i ys) (lines_all i ys)

  -- a declaration with the newlines around it
  abbrev pub paragraph_part : Bool → B → List ℕ
  paragraph_part more x = codes "\n" ++ (text_of (f x) ++ codes "\n")

  around : (a b c r r' : List ℕ) → r ≡ r' → (a ++ (b ++ c)) ++ r ≡ a ++ (b ++ (c ++ r'))
  around a b c r r' e = append_assoc a (b ++ c) r ∙ ap (λ ys. a ++ ys) (append_assoc b c r ∙ ap (λ ys. b ++ (c ++ ys)) e)

  pub paragraphs_all : (ys : List B) → all paragraph_part ys ≡ text_of (paragraphs_layout f ys)
  paragraphs_all [] = refl
  paragraphs_all (y ∷ ys) = around (codes "\n") (text_of (f y)) (codes "\n") _ _ (paragraphs_all ys)

-- the bytes of a path, one after another
pub quoted_step : (path : List ℕ) (i : ℕ) (a b whole : List ℕ) → i < length path → a ++ quoted_bytes (drop i path) ≡ whole → b ≡ a ++ quoted_byte (get_or path i 0) → b ++ quoted_bytes (drop (i + 1) path) ≡ whole
quoted_step path i a b whole h ea eb =
    let here : List ℕ = quoted_byte (get_or path i 0) in
    ap (λ ys. ys ++ quoted_bytes (drop (i + 1) path)) eb ∙ append_assoc a here (quoted_bytes (drop (i + 1) path))
    ∙ ap (λ k. a ++ (here ++ quoted_bytes (drop k path))) (add-one i) ∙ sym (ap (λ ys. a ++ quoted_bytes ys) (drop-cons path i 0 h)) ∙ ea

pub quoted_done : (path : List ℕ) (n : ℕ) (a whole : List ℕ) → length path ≤ n → a ++ quoted_bytes (drop n path) ≡ whole → a ≡ whole
quoted_done path n a whole h e = sym (append-nil a) ∙ sym (ap (λ ys. a ++ quoted_bytes ys) (drop_all n path h)) ∙ e
