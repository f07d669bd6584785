-- The automaton's answer is the longest front that is a whole word.
use Rattle.std.proofs.Common.{◌≡◌, ℕ, suc, ◌+◌, ◌≤◌, Bool, true, false, cond, nat_eq, ◌==◌, List, [], ◌∷◌, ◌++◌, length, take, Option, Some, refl, sym, ap, subst, ◌∙◌, arith}
use Rattle.std.proofs.lemmas.Bool.Decides.{nat_tests}
use Rattle.go_scan.specs.declared.automaton.TheConstants.{DEAD}
use Rattle.go_scan.specs.Automaton.{next_of, is_whole, longest_from}
use Rattle.go_scan.proofs.AutomatonLemmas.{run}
use Rattle.go_scan.proofs.LexemeLemmas.{run_dead}

-- what comes of a state, a length so far, what was found so far, and a text
pub data Best (state len : ℕ) (found : Option (ℕ × ℕ)) (text : List ℕ) (answer : Option (ℕ × ℕ)) : Type 0 where
  keeps : answer ≡ found → ((c : ℕ) (u more : List ℕ) → text ≡ (c ∷ u) ++ more → is_whole (run state (c ∷ u)) ≡ false) → Best state len found text answer
  gives : (n : ℕ) → n ≤ length text → answer ≡ Some (run state (take n text), len + n) → is_whole (run state (take n text)) ≡ true
      → ((c : ℕ) (u more : List ℕ) → text ≡ (c ∷ u) ++ more → is_whole (run state (c ∷ u)) ≡ true → length (c ∷ u) ≤ n) → Best state len found text answer

contrary : {X : Type 0} (b : Bool) → b ≡ true → b ≡ false → X
contrary b p q = absurd cc

same_number : (a b : ℕ) → nat_eq a b ≡ true → a ≡ b
same_number a b e = grind (arith, nat_tests, e)

module _ (state len : ℕ) (found : Option (ℕ × ℕ)) (c : ℕ) (cs : List ℕ) where
  next : ℕ
  next = next_of state c

  head_is : (d : ℕ) (u more : List ℕ) → c ∷ cs ≡ (d ∷ u) ++ more → (d ≡ c) × (cs ≡ u ++ more)
  head_is d u more e = (cc, cc)

  after_head : (d : ℕ) (u more : List ℕ) (b : Bool) → c ∷ cs ≡ (d ∷ u) ++ more → is_whole (run (next_of state c) u) ≡ b → is_whole (run state (d ∷ u)) ≡ b
  after_head d u more b e h = let same = (head_is d u more e).0 in subst (λ (x : ℕ). is_whole (run (next_of state x) u) ≡ b) (sym same) h

  from_head : (d : ℕ) (u more : List ℕ) (b : Bool) → c ∷ cs ≡ (d ∷ u) ++ more → is_whole (run state (d ∷ u)) ≡ b → is_whole (run (next_of state c) u) ≡ b
  from_head d u more b e h = let same = (head_is d u more e).0 in subst (λ (x : ℕ). is_whole (run (next_of state x) u) ≡ b) same h

  dead_best : next_of state c ≡ DEAD → Best state len found (c ∷ cs) found
  dead_best dead = keeps refl (λ d u more e. after_head d u more false e (subst (λ (s : ℕ). is_whole (run s u) ≡ false) (sym dead) (subst (λ (s : ℕ). is_whole s ≡ false) (sym (run_dead u)) refl)))

  whole_best : (answer : Option (ℕ × ℕ)) → is_whole (next_of state c) ≡ true → Best (next_of state c) (len + 1) (Some (next_of state c, len + 1)) cs answer → Best state len found (c ∷ cs) answer
  whole_best answer whole (keeps e none) = gives 1 (omega arith) e whole most
    where
      most : (d : ℕ) (u more : List ℕ) → c ∷ cs ≡ (d ∷ u) ++ more → is_whole (run state (d ∷ u)) ≡ true → length (d ∷ u) ≤ 1
      most d [] more p w = omega arith
      most d (x ∷ u) more p w = contrary (is_whole (run (next_of state c) (x ∷ u))) (from_head d (x ∷ u) more true p w) (none x u more (head_is d (x ∷ u) more p).1)
  whole_best answer whole (gives n small e w most) = gives (suc n) (omega (arith, small)) (e ∙ ap (λ (k : ℕ). Some (run (next_of state c) (take n cs), k)) (omega arith)) w most_on
    where
      most_on : (d : ℕ) (u more : List ℕ) → c ∷ cs ≡ (d ∷ u) ++ more → is_whole (run state (d ∷ u)) ≡ true → length (d ∷ u) ≤ suc n
      most_on d [] more p w = omega arith
      most_on d (x ∷ u) more p w = let le = most x u more (head_is d (x ∷ u) more p).1 (from_head d (x ∷ u) more true p w) in omega (arith, le)

  part_best : (answer : Option (ℕ × ℕ)) → is_whole (next_of state c) ≡ false → Best (next_of state c) (len + 1) found cs answer → Best state len found (c ∷ cs) answer
  part_best answer part (keeps e none) = keeps e none_on
    where
      none_on : (d : ℕ) (u more : List ℕ) → c ∷ cs ≡ (d ∷ u) ++ more → is_whole (run state (d ∷ u)) ≡ false
      none_on d [] more p = after_head d [] more false p part
      none_on d (x ∷ u) more p = after_head d (x ∷ u) more false p (none x u more (head_is d (x ∷ u) more p).1)
  part_best answer part (gives n small e w most) = gives (suc n) (omega (arith, small)) (e ∙ ap (λ (k : ℕ). Some (run (next_of state c) (take n cs), k)) (omega arith)) w most_on
    where
      most_on : (d : ℕ) (u more : List ℕ) → c ∷ cs ≡ (d ∷ u) ++ more → is_whole (run state (d ∷ u)) ≡ true → length (d ∷ u) ≤ suc n
      most_on d [] more p w = omega arith
      most_on d (x ∷ u) more p w = let le = most x u more (head_is d (x ∷ u) more p).1 (from_head d (x ∷ u) more true p w) in omega (arith, le)

pub best : (state len : ℕ) (found : Option (ℕ × ℕ)) (text : List ℕ) → Best state len found text (longest_from state len found text)
unfolding longest_from
best state len found [] = keeps refl (λ c u more e. absurd cc)
best state len found (c ∷ cs) =
    by_dead (next_of state c == DEAD) refl (best (next_of state c) (len + 1) (Some (next_of state c, len + 1)) cs) (best (next_of state c) (len + 1) found cs)
  where
    by_whole : (b : Bool) → is_whole (next_of state c) ≡ b
        → Best (next_of state c) (len + 1) (Some (next_of state c, len + 1)) cs (longest_from (next_of state c) (len + 1) (Some (next_of state c, len + 1)) cs)
        → Best (next_of state c) (len + 1) found cs (longest_from (next_of state c) (len + 1) found cs)
        → Best state len found (c ∷ cs) (longest_from (next_of state c) (len + 1) (cond b (Some (next_of state c, len + 1)) found) cs)
    by_whole true e x y = whole_best state len found c cs (longest_from (next_of state c) (len + 1) (Some (next_of state c, len + 1)) cs) e x
    by_whole false e x y = part_best state len found c cs (longest_from (next_of state c) (len + 1) found cs) e y

    by_dead : (b : Bool) → next_of state c == DEAD ≡ b
        → Best (next_of state c) (len + 1) (Some (next_of state c, len + 1)) cs (longest_from (next_of state c) (len + 1) (Some (next_of state c, len + 1)) cs)
        → Best (next_of state c) (len + 1) found cs (longest_from (next_of state c) (len + 1) found cs)
        → Best state len found (c ∷ cs) (cond b found (longest_from (next_of state c) (len + 1) (cond (is_whole (next_of state c)) (Some (next_of state c, len + 1)) found) cs))
    by_dead true e x y = dead_best state len found c cs (same_number (next_of state c) DEAD e)
    by_dead false e x y = by_whole (is_whole (next_of state c)) refl x y
