-- What stands before a cursor isn't needed.
use Rattle.std.proofs.Common.{◌≡◌, ◌∙◌, ◌+◌, ◌-◌, ◌≤◌, ℕ, zero, suc, add_comm, add-one, if◌then◌else◌, Bool, true, false, nat_le, nat_lt, List, [], ◌∷◌, length, take, drop, refl, sym, ap, subst, arith}
use Rattle.std.proofs.lemmas.Bool.Decides.{nat_tests}
use Rattle.std.proofs.lemmas.List.{take_rest, drop-drop, length-drop}
use Rattle.go_tree.specs.declared.spans.Span.{Span}
use Rattle.go_tree.specs.declared.tokens.Token.{Token}
use Rattle.go_tree.specs.declared.tokens.Comment.{Comment}
use Rattle.run_rules.specs.ImportRules.Removed.{through_semicolon, comment_within}
use Rattle.run_rules.specs.ImportRules.Laid.{CommentsAscend}
use Rattle.import_edit.specs.Cursors.{tokens_before, comments_before, starts_before, TokensServe, CommentsServe}

-- ---- tokens

pass_by : (at to n : ℕ) (t : Token) (ts : List Token) (b : Bool) → nat_lt t.span.start at ≡ b → at ≤ to
    → through_semicolon (drop n ts) to ≡ through_semicolon ts to → through_semicolon (drop (if b then 1 + n else 0) (t ∷ ts)) to ≡ through_semicolon (t ∷ ts) to
pass_by at to n t ts true e le h =
    let late : nat_le to t.span.start ≡ false = grind (arith, nat_tests) in
    rw (add_comm 1 n, add-one, late) h
pass_by at to n t ts false e le h = refl

passed : (at to : ℕ) (ts : List Token) → at ≤ to → through_semicolon (drop (tokens_before at ts) ts) to ≡ through_semicolon ts to
passed at to [] le = refl
passed at to (t ∷ ts) le = pass_by at to (tokens_before at ts) t ts (nat_lt t.span.start at) refl le (passed at to ts le)

pub tokens_serve : (ts : List Token) (k at n : ℕ) → TokensServe ts k at → n ≡ tokens_before at (take (length ts - k) (drop k ts)) → n ≤ length (take (length ts - k) (drop k ts)) → TokensServe ts (k + n) at
tokens_serve ts k at n h is le =
    let e : n ≡ tokens_before at (drop k ts) = is ∙ ap (tokens_before at) (take_rest ts k) in
    let l : n ≤ length (drop k ts) = subst (λ (r : List Token). n ≤ length r) (take_rest ts k) le in
    let d : length (drop k ts) ≡ length ts - k = length-drop k ts in
    let w : k ≤ length ts = h.within in
    record {
      within = omega (arith, l, d, w);
      alike = λ to m. ap (λ r. through_semicolon r to) (sym (drop-drop n k ts) ∙ ap (λ j. drop j (drop k ts)) e) ∙ passed at to (drop k ts) m ∙ h.alike to m;
    }

-- ---- comments

none_behind : (s : Span) (from : ℕ) (cs : List Comment) → s.end ≤ from → CommentsAscend from cs → comment_within cs s ≡ false
none_behind s from [] le h = refl
none_behind s from (c ∷ cs) le h =
    let late : nat_lt c.span.start s.end ≡ false = grind (arith, nat_tests, h.0) in
    grind (arith, late, none_behind s c.span.start cs (omega (arith, h.0)) h.1)

decide_by : (s : Span) (c : Comment) (cs : List Comment) (n : ℕ) (b : Bool) → nat_lt c.span.start s.start ≡ b → CommentsAscend c.span.start cs
    → comment_within cs s ≡ starts_before (drop n cs) s.end → comment_within (c ∷ cs) s ≡ starts_before (drop (if b then 1 + n else 0) (c ∷ cs)) s.end
decide_by s c cs n true e asc h =
    let early : nat_le s.start c.span.start ≡ false = grind (arith, nat_tests) in
    rw (add_comm 1 n, add-one, early) h
decide_by s c cs n false e asc h = here (nat_lt c.span.start s.end) refl
  where
    here : (t : Bool) → nat_lt c.span.start s.end ≡ t → comment_within (c ∷ cs) s ≡ t
    here true f = let from : nat_le s.start c.span.start ≡ true = grind (arith, nat_tests) in grind (arith, from, f)
    here false f = let none : comment_within cs s ≡ false = none_behind s c.span.start cs (grind (arith, nat_tests)) asc in grind (arith, none, f)

pub decided : (s : Span) (from : ℕ) (cs : List Comment) → CommentsAscend from cs → comment_within cs s ≡ starts_before (drop (comments_before s.start cs) cs) s.end
decided s from [] h = refl
decided s from (c ∷ cs) h = decide_by s c cs (comments_before s.start cs) (nat_lt c.span.start s.start) refl h.1 (decided s c.span.start cs h.1)

leave_by : (at n : ℕ) (s : Span) (c : Comment) (cs : List Comment) (b : Bool) → nat_lt c.span.start at ≡ b → at ≤ s.start
    → comment_within (drop n cs) s ≡ comment_within cs s → comment_within (drop (if b then 1 + n else 0) (c ∷ cs)) s ≡ comment_within (c ∷ cs) s
leave_by at n s c cs true e le h =
    let early : nat_le s.start c.span.start ≡ false = grind (arith, nat_tests) in
    rw (add_comm 1 n, add-one, early) h
leave_by at n s c cs false e le h = refl

left : (at : ℕ) (s : Span) (cs : List Comment) → at ≤ s.start → comment_within (drop (comments_before at cs) cs) s ≡ comment_within cs s
left at s [] le = refl
left at s (c ∷ cs) le = leave_by at (comments_before at cs) s c cs (nat_lt c.span.start at) refl le (left at s cs le)

ascend_drop : (k from : ℕ) (cs : List Comment) → CommentsAscend from cs → CommentsAscend 0 (drop k cs)
ascend_drop zero from [] h = tt
ascend_drop zero from (c ∷ cs) h = (omega arith, h.1)
ascend_drop (suc k) from [] h = tt
ascend_drop (suc k) from (c ∷ cs) h = ascend_drop k c.span.start cs h.1

pub comments_serve : (cs : List Comment) (k at n : ℕ) → CommentsServe cs k at → n ≡ comments_before at (take (length cs - k) (drop k cs)) → n ≤ length (take (length cs - k) (drop k cs)) → CommentsServe cs (k + n) at
comments_serve cs k at n h is le =
    let e : n ≡ comments_before at (drop k cs) = is ∙ ap (comments_before at) (take_rest cs k) in
    let l : n ≤ length (drop k cs) = subst (λ (r : List Comment). n ≤ length r) (take_rest cs k) le in
    let d : length (drop k cs) ≡ length cs - k = length-drop k cs in
    let w : k ≤ length cs = h.within in
    record {
      within = omega (arith, l, d, w);
      alike = λ s m. ap (λ r. comment_within r s) (sym (drop-drop n k cs) ∙ ap (λ j. drop j (drop k cs)) e) ∙ left at s (drop k cs) m ∙ h.alike s m;
    }

pub comment_decided : (cs : List Comment) (k n : ℕ) (s : Span) → CommentsAscend 0 cs → CommentsServe cs k s.start → n ≡ comments_before s.start (take (length cs - k) (drop k cs))
    → starts_before (take (length cs - (k + n)) (drop (k + n) cs)) s.end ≡ comment_within cs s
comment_decided cs k n s asc h is =
    let e : n ≡ comments_before s.start (drop k cs) = is ∙ ap (comments_before s.start) (take_rest cs k) in
    ap (λ r. starts_before r s.end) (take_rest cs (k + n) ∙ sym (drop-drop n k cs) ∙ ap (λ j. drop j (drop k cs)) e)
    ∙ sym (decided s 0 (drop k cs) (ascend_drop k 0 cs asc)) ∙ h.alike s (omega arith)
