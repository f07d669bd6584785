-- Pieces that are written one after another.
use Rattle.std.proofs.Common.{◌≡◌, List, [], ◌∷◌, ◌++◌, ℕ, zero, suc, ◌+◌, ◌<◌, length, get_or, take, drop, map, refl, ap, sym, ◌∙◌, arith, append_assoc, append-nil}
use Rattle.std.specs.List.{concat}
use Rattle.std.specs.Prelude.{Option}
use Rattle.fix_io.specs.Contents.{appended, IsPartOut}
use Rattle.fix_io.proofs.Appended.{appended_more, part_later, part_wider}

-- the pieces joined
abbrev pub joined : {A : Type 0} → (A → List ℕ) → List A → List ℕ
joined f ps = concat (map f ps)

taken : {A : Type 0} (f : A → List ℕ) (ps : List A) (i : ℕ) (d : A) → i < length ps → joined f (take (suc i) ps) ≡ joined f (take i ps) ++ f (get_or ps i d)
taken f [] i d within = absurd (omega arith)
taken f (p ∷ ps) zero d within = append-nil (f p)
taken f (p ∷ ps) (suc i) d within = ap (λ l. f p ++ l) (taken f ps i d (omega arith)) ∙ sym (append_assoc (f p) (joined f (take i ps)) (f (get_or ps i d)))

-- one more piece is written
pub one_more_piece : {A : Type 0} (f : A → List ℕ) (ps : List A) (i : ℕ) (d : A) (before mid now : Option (List ℕ)) → i < length ps
    → mid ≡ appended before (joined f (take i ps)) → now ≡ appended mid (f (get_or ps i d)) → now ≡ appended before (joined f (take (i + 1) ps))
one_more_piece f ps i d before mid now within so_far one =
    let e : i + 1 ≡ suc i = omega arith in
    appended_more before mid now (joined f (take i ps)) (f (get_or ps i d)) (joined f (take (i + 1) ps)) so_far one (rw e (taken f ps i d within))

cut : {A : Type 0} (f : A → List ℕ) (ps : List A) (i : ℕ) (d : A) → i < length ps → joined f ps ≡ (joined f (take i ps) ++ f (get_or ps i d)) ++ joined f (drop (suc i) ps)
cut f [] i d within = absurd (omega arith)
cut f (p ∷ ps) zero d within = refl
cut f (p ∷ ps) (suc i) d within =
    ap (λ l. f p ++ l) (cut f ps i d (omega arith))
    ∙ sym (append_assoc (f p) (joined f (take i ps) ++ f (get_or ps i d)) (joined f (drop (suc i) ps)))
    ∙ ap (λ l. l ++ joined f (drop (suc i) ps)) (sym (append_assoc (f p) (joined f (take i ps)) (f (get_or ps i d))))

-- a front of a piece is written behind the pieces before it
pub part_of_pieces : {A : Type 0} (f : A → List ℕ) (ps : List A) (i : ℕ) (d : A) (before mid now : Option (List ℕ)) → i < length ps
    → mid ≡ appended before (joined f (take i ps)) → IsPartOut mid now (f (get_or ps i d)) → IsPartOut before now (joined f ps)
part_of_pieces f ps i d before mid now within so_far part =
    rw (cut f ps i d within) (part_wider before now (joined f (take i ps) ++ f (get_or ps i d)) (joined f (drop (suc i) ps)) (part_later before mid now (joined f (take i ps)) (f (get_or ps i d)) so_far part))

-- the pieces of a line joined, without a place and with one
pub line_in_pieces : (a b c d e f g : List ℕ) → a ++ (b ++ (c ++ (d ++ (e ++ (f ++ (g ++ [])))))) ≡ (((((a ++ b) ++ c) ++ d) ++ e) ++ f) ++ g
line_in_pieces a b c d e f g =
    sym (append_assoc a b (c ++ (d ++ (e ++ (f ++ (g ++ []))))))
    ∙ sym (append_assoc (a ++ b) c (d ++ (e ++ (f ++ (g ++ [])))))
    ∙ sym (append_assoc ((a ++ b) ++ c) d (e ++ (f ++ (g ++ []))))
    ∙ sym (append_assoc (((a ++ b) ++ c) ++ d) e (f ++ (g ++ [])))
    ∙ sym (append_assoc ((((a ++ b) ++ c) ++ d) ++ e) f (g ++ []))
    ∙ ap (λ l. (((((a ++ b) ++ c) ++ d) ++ e) ++ f) ++ l) (append-nil g)

place_pieces : (path s line t col rest : List ℕ) → path ++ (s ++ (line ++ (t ++ (col ++ rest)))) ≡ ((((path ++ s) ++ line) ++ t) ++ col) ++ rest
place_pieces path s line t col rest =
    sym (append_assoc path s (line ++ (t ++ (col ++ rest))))
    ∙ sym (append_assoc (path ++ s) line (t ++ (col ++ rest)))
    ∙ sym (append_assoc ((path ++ s) ++ line) t (col ++ rest))
    ∙ sym (append_assoc (((path ++ s) ++ line) ++ t) col rest)

pub line_at_pieces : (a b c path s line t col e f g : List ℕ) → a ++ (b ++ (c ++ (path ++ (s ++ (line ++ (t ++ (col ++ (e ++ (f ++ (g ++ [])))))))))) ≡ (((((a ++ b) ++ c) ++ ((((path ++ s) ++ line) ++ t) ++ col)) ++ e) ++ f) ++ g
line_at_pieces a b c path s line t col e f g =
    ap (λ l. a ++ (b ++ (c ++ l))) (place_pieces path s line t col (e ++ (f ++ (g ++ []))))
    ∙ line_in_pieces a b c ((((path ++ s) ++ line) ++ t) ++ col) e f g
