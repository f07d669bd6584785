-- What a step changes of a run's counts.
use Rattle.std.proofs.Common.{◌≡◌, ◌∙◌, refl, sym, ap, subst, ℕ, ◌+◌, Bool, true, false, not, if◌then◌else◌, bytes_eq, List, [], ◌∷◌, ◌++◌, length, filter, Some, arith}
use Rattle.std.proofs.lemmas.Bool.{and_parts}
use Rattle.std.proofs.lemmas.Slice.Eq.{bytes_eq-Decides}
use Rattle.std.proofs.lemmas.Option.{same_Some}
use Rattle.run_rules.specs.Marks.{text_at}
use Rattle.run_rules.specs.Texts.{FileText}
use Rattle.run_rules.specs.Run.{Logged, with_text, same_origin, steps_like, module_file_size, texts_size}
use Rattle.run_by_steps.specs.RunProgress.Laws.{is_no_path, are_paths_apart, TotalsFollow, StepsComeNext, OriginsAreCounted}

never : {A : Type 0} → false ≡ true → A
never e = absurd (grind (arith, e))

-- ---- bytes

size_there : (path : List ℕ) (new : FileText) (ts : List (List ℕ × FileText)) → is_no_path path ts ≡ true → texts_size (with_text path new ts) ≡ texts_size ts
size_there path new [] h = refl
size_there path new (t ∷ ts) h = by (bytes_eq path t.0) two.0 (size_there path new ts two.1)
  where
    two : (not (bytes_eq path t.0) ≡ true) × (is_no_path path ts ≡ true)
    two = and_parts (not (bytes_eq path t.0)) (is_no_path path ts) h

    by : (b : Bool) → not b ≡ true → texts_size (with_text path new ts) ≡ texts_size ts → texts_size ((if b then (t.0, new) else t) ∷ with_text path new ts) ≡ texts_size (t ∷ ts)
    by true e r = never e
    by false e r = ap (λ (k : ℕ). length t.1.text + k) r

size_new : (path : List ℕ) (old new : FileText) (ts : List (List ℕ × FileText)) → are_paths_apart ts ≡ true → text_at path ts ≡ Some old
    → texts_size (with_text path new ts) + length old.text ≡ texts_size ts + length new.text
size_new path old new [] h e = absurd cc
size_new path old new (t ∷ ts) h e = by (bytes_eq path t.0) refl e (size_new path old new ts two.1)
  where
    two : (is_no_path t.0 ts ≡ true) × (are_paths_apart ts ≡ true)
    two = and_parts (is_no_path t.0 ts) (are_paths_apart ts) h

    here : bytes_eq path t.0 ≡ true → t.1 ≡ old → length new.text + texts_size (with_text path new ts) + length old.text ≡ length t.1.text + texts_size ts + length new.text
    here f same =
        let others : texts_size (with_text path new ts) ≡ texts_size ts = size_there path new ts (subst (λ (p : List ℕ). is_no_path p ts ≡ true) (sym ((bytes_eq-Decides path t.0).0 f)) two.0) in
        let sizes : length t.1.text ≡ length old.text = ap (λ (u : FileText). length u.text) same in omega (arith, others, sizes)

    there : texts_size (with_text path new ts) + length old.text ≡ texts_size ts + length new.text → length t.1.text + texts_size (with_text path new ts) + length old.text ≡ length t.1.text + texts_size ts + length new.text
    there r = omega (arith, r)

    by : (b : Bool) → bytes_eq path t.0 ≡ b → (if b then Some t.1 else text_at path ts) ≡ Some old
        → (text_at path ts ≡ Some old → texts_size (with_text path new ts) + length old.text ≡ texts_size ts + length new.text)
        → texts_size ((if b then (t.0, new) else t) ∷ with_text path new ts) + length old.text ≡ texts_size (t ∷ ts) + length new.text
    by true f e r = here f (same_Some t.1 old e)
    by false f e r = there (r e)

pub totals_follow : TotalsFollow
totals_follow marks st l after n h =
    ap (λ (ts : List (List ℕ × FileText)). texts_size ts + length n.old.text) n.texts_are ∙ size_new n.found.site.at.source.path n.old n.new st.texts h n.stands

pub steps_come_next : StepsComeNext
steps_come_next marks files done st l after n p h c =
    let total : texts_size after.texts + length n.old.text ≡ texts_size st.texts + length n.new.text = totals_follow marks st l after n h in
    let bytes : module_file_size files + texts_size st.texts ≡ p.other_bytes + length n.old.text = c.bytes in
    record { steps = c.steps; steps_of_use = c.steps_of_use; bytes = omega (arith, total, bytes) }

-- ---- steps of one origin

one_behind : (l k : Logged) → length (filter (same_origin l) (k ∷ [])) ≡ 0 + (if same_origin l k then 1 else 0)
one_behind l k = by (same_origin l k)
  where
    by : (b : Bool) → length (if b then k ∷ [] else []) ≡ 0 + (if b then 1 else 0)
    by true = refl
    by false = refl

pub origins_are_counted : OriginsAreCounted
origins_are_counted l k [] = one_behind l k
origins_are_counted l k (m ∷ done) = by (same_origin l m) (origins_are_counted l k done)
  where
    by : (b : Bool) → steps_like l (done ++ k ∷ []) ≡ steps_like l done + (if same_origin l k then 1 else 0)
        → length (if b then m ∷ filter (same_origin l) (done ++ k ∷ []) else filter (same_origin l) (done ++ k ∷ [])) ≡ length (if b then m ∷ filter (same_origin l) done else filter (same_origin l) done) + (if same_origin l k then 1 else 0)
    by true r = omega (arith, r)
    by false r = r
