-- The table of the lines that lead to something holds what they lead to.
use Rattle.std.proofs.Common.{◌≡◌, ◌≤◌, ◌<◌, ◌+◌, drop, get_or, ℕ, zero, suc, Bool, true, false, ◌&&◌, ◌||◌, List, [], ◌∷◌, length, refl, ap, sym, ◌∙◌, arith}
use Rattle.std.proofs.lemmas.List.{drop_more}
use Rattle.directive_scan.specs.Lines.{leads_one}
use Rattle.directive_scan.specs.Tables.{entry, leads_list}

none : (a : Bool) → false ≡ (a && (false || false))
none true = refl
none false = refl

leads_none : (p : ℕ → Bool) (more k : ℕ) → leads_one (entry []) p more k ≡ false
leads_none p zero k = refl
leads_none p (suc more) k = refl

pub same_leads : (f g p q : ℕ → Bool) → ((k : ℕ) → f k ≡ g k) → ((k : ℕ) → p k ≡ q k) → (more k : ℕ) → leads_one f p more k ≡ leads_one g q more k
same_leads f g p q h i zero k = refl
same_leads f g p q h i (suc more) k = λ w. h k w && (i (suc k) w || same_leads f g p q h i more (suc k) w)

shifted : (f p : ℕ → Bool) (more k : ℕ) → leads_one f p more (suc k) ≡ leads_one (λ n. f (suc n)) (λ n. p (suc n)) more k
shifted f p zero k = refl
shifted f p (suc more) k = ap (λ t. f (suc k) && (p (suc (suc k)) || t)) (shifted f p more (suc k))

pub leads_entry : (leads starts : List Bool) (more k : ℕ) → length leads ≡ length starts → length leads ≤ k + more + 1
    → entry (leads_list leads starts) k ≡ leads_one (entry leads) (entry starts) more k
leads_entry [] starts more k e h = sym (leads_none (entry starts) more k)
leads_entry (l ∷ ls) [] more k e h = grind (arith, e)
leads_entry (l ∷ ls) (s ∷ ss) more (suc k) e h =
    leads_entry ls ss more k (grind (arith, e)) (grind (arith, h)) ∙ sym (shifted (entry (l ∷ ls)) (entry (s ∷ ss)) more k)
leads_entry (l ∷ []) (s ∷ []) zero zero e h = sym (none l)
leads_entry (l ∷ []) (s ∷ t ∷ ss) zero zero e h = grind (arith, e)
leads_entry (l ∷ m ∷ ls) (s ∷ ss) zero zero e h = grind (arith, h)
leads_entry (l ∷ ls) (s ∷ ss) (suc more) zero e h =
    ap (λ t. l && (entry ss 0 || t)) (leads_entry ls ss more 0 (grind (arith, e)) (grind (arith, h)) ∙ sym (shifted (entry (l ∷ ls)) (entry (s ∷ ss)) more 0))

-- ---- the loop from the last line to the first

-- what the line below says to the one above
abbrev pub says_below : List Bool → List Bool → Bool
says_below leads starts = entry starts 0 || entry (leads_list leads starts) 0

pub leads_step : (leads starts : List Bool) (k : ℕ) → length leads ≡ length starts → k < length leads
    → leads_list (drop k leads) (drop k starts) ≡ (get_or leads k false && says_below (drop (k + 1) leads) (drop (k + 1) starts)) ∷ leads_list (drop (k + 1) leads) (drop (k + 1) starts)
leads_step leads starts k e h =
    (λ w. leads_list (drop_more leads k false h w) (drop_more starts k false (grind (arith, e, h)) w))

pub below_step : (leads starts : List Bool) (k : ℕ) → length leads ≡ length starts → k < length leads
    → says_below (drop k leads) (drop k starts) ≡ (get_or starts k false || (get_or leads k false && says_below (drop (k + 1) leads) (drop (k + 1) starts)))
below_step leads starts k e h =
    (λ w. says_below (drop_more leads k false h w) (drop_more starts k false (grind (arith, e, h)) w))

pub leads_end : (leads starts : List Bool) → length leads ≡ length starts → leads_list (drop (length leads) leads) (drop (length leads) starts) ≡ []
leads_end [] starts e = refl
leads_end (l ∷ ls) [] e = grind (arith, e)
leads_end (l ∷ ls) (s ∷ ss) e = leads_end ls ss (grind (arith, e))

pub ruleset loop_laws = (leads_step, below_step, leads_end)
