-- Lists of parts among which a use stands once: it stands in front, or behind.
use Rattle.std.proofs.Common.{◌≡◌, inl, inr, ℕ, suc, Bool, true, false, List, [], ◌∷◌, ◌++◌, append_assoc, ap, sym, ◌∙◌, subst, arith}
use Rattle.go_tree.specs.Tree.{NameAt, TypeExpr, Expr, Stmt}
use Rattle.go_tree.specs.ScopeNames.FreeNames.{names_of}
use Rattle.go_tree.specs.GoTypes.Answers.{is_among}
use Rattle.go_kernel.specs.Kernel.{ImportPath}
use Rattle.go_translation.specs.Here.{Here}
use Rattle.run_rules.specs.Forms.{is_at}
use Rattle.run_rules.specs.Sites.{Site, part_span}
use Rattle.run_rules.specs.Surroundings.{Place, Seen, seen, seen_type, seen_stmt, is_local}
use Rattle.constant_steps.specs.StepLaws.Kept.{NoneAt}
use Rattle.literals_in_place.specs.StepsInBodies.Once.{SamePlace, StandsOnce, AllClear}

module _ {S : Type 0} (same : S → S → Bool) (x : Site S) (tree e : Expr S) (lower : Type 0) (paths : List (ℕ × ImportPath)) where
  -- ---- lists that are found from what is known of them

  pub record Once (xs : List (Seen S)) : Type 0 where
    pub it : StandsOnce same x tree xs

  pub record Without (xs : List (Seen S)) : Type 0 where
    pub it : NoneAt same (part_span x.part) xs

  pub record Clear (xs : List (Seen S)) : Type 0 where
    pub it : AllClear same x lower xs

  -- What is made of a part in which the use stands: R holds of how many operands stand around it, and of its place. Names
  -- that are declared around the part are declared around the use.
  pub record Put (bound : List (NameAt S)) (R : ℕ → Here → Type 0) : Type 0 where
    pub operands : ℕ
    pub place : Here
    pub it : R operands place
    pub there : SamePlace paths place x.place.env x.place.bound
    pub around : (n : List ℕ) → is_among n (names_of bound) ≡ true → is_local x.place n ≡ true

  -- where the use stands once in the parts, and clear
  pub record Ok (xs : List (Seen S)) (bound : List (NameAt S)) (R : ℕ → Here → Type 0) : Type 0 where
    pub on : Once xs → Clear xs → Put bound R

module _ {S : Type 0} (same : S → S → Bool) (z : S) where
  pub without_front : (xs ys : List (Seen S)) → NoneAt same z (xs ++ ys) → NoneAt same z xs
  without_front [] ys a = tt
  without_front (y ∷ xs) ys a = (a.0, without_front xs ys a.1)

  pub without_back : (xs ys : List (Seen S)) → NoneAt same z (xs ++ ys) → NoneAt same z ys
  without_back [] ys a = a
  without_back (y ∷ xs) ys a = without_back xs ys a.1

module _ {S : Type 0} (same : S → S → Bool) (x : Site S) (lower : Type 0) where
  pub clear_front : (xs ys : List (Seen S)) → AllClear same x lower (xs ++ ys) → AllClear same x lower xs
  clear_front [] ys a = tt
  clear_front (y ∷ xs) ys a = (a.0, clear_front xs ys a.1)

  pub clear_back : (xs ys : List (Seen S)) → AllClear same x lower (xs ++ ys) → AllClear same x lower ys
  clear_back [] ys a = a
  clear_back (y ∷ xs) ys a = clear_back xs ys a.1

-- ---- in front or behind

module _ {S : Type 0} (same : S → S → Bool) (x : Site S) (tree : Expr S) where
  pub data Parted (xs ys : List (Seen S)) : Type 0 where
    in_front : StandsOnce same x tree xs → NoneAt same (part_span x.part) ys → Parted xs ys
    in_back : NoneAt same (part_span x.part) xs → StandsOnce same x tree ys → Parted xs ys

  pub parted : (xs ys : List (Seen S)) → StandsOnce same x tree (xs ++ ys) → Parted xs ys
  parted [] ys o = in_back tt o
  parted (y ∷ xs) ys (inl q) = in_front (inl (q.0, without_front same (part_span x.part) xs ys q.1)) (without_back same (part_span x.part) xs ys q.1)
  parted (y ∷ xs) ys (inr q) = go (parted xs ys q.1)
    where
      go : Parted xs ys → Parted (y ∷ xs) ys
      go (in_front o n) = in_front (inr (q.0, o)) n
      go (in_back n o) = in_back (q.0, n) o

  -- the part isn't at the span of the use
  module _ (here : is_at same (part_span x.part) tree ≡ true) where
    differs : (y : Expr S) → is_at same (part_span x.part) y ≡ false → y ≡ tree → ⊥
    differs y f q = absurd (grind (arith, sym here ∙ ap (is_at same (part_span x.part)) (sym q) ∙ f))

    clash : (xs : List (Seen S)) → NoneAt same (part_span x.part) xs → StandsOnce same x tree xs → ⊥
    clash [] n o = o
    clash (seen p u y ∷ xs) n (inl q) = differs y n.0 q.0.1
    clash (seen_type p t ∷ xs) n (inl q) = q.0
    clash (seen_stmt p s ∷ xs) n (inl q) = q.0
    clash (y ∷ xs) n (inr q) = clash xs n.1 q.1

module _ {S : Type 0} {same : S → S → Bool} {x : Site S} {tree e : Expr S} {lower : Type 0} {paths : List (ℕ × ImportPath)} where
  -- what stands in neither of two lists
  pub first_of : (xs ys : List (Seen S)) → Without same x tree e lower paths (xs ++ ys) → Without same x tree e lower paths xs
  first_of xs ys n = record { it = without_front same (part_span x.part) xs ys n.it }

  pub second_of : (xs ys : List (Seen S)) → Without same x tree e lower paths (xs ++ ys) → Without same x tree e lower paths ys
  second_of xs ys n = record { it = without_back same (part_span x.part) xs ys n.it }

  pub both : {bound : List (NameAt S)} {R : ℕ → Here → Type 0} (xs ys : List (Seen S)) → (Without same x tree e lower paths ys → Clear same x tree e lower paths ys → Ok same x tree e lower paths xs bound R)
      → (Without same x tree e lower paths xs → Clear same x tree e lower paths xs → Ok same x tree e lower paths ys bound R) → Ok same x tree e lower paths (xs ++ ys) bound R
  both {bound = bound} {R = R} xs ys f g = record { on = λ o c. go (parted same x tree xs ys o.it) (record { it = clear_front same x lower xs ys c.it }) (record { it = clear_back same x lower xs ys c.it }) }
    where
      go : Parted same x tree xs ys → Clear same x tree e lower paths xs → Clear same x tree e lower paths ys → Put same x tree e lower paths bound R
      go (in_front o n) a b = (f (record { it = n }) b).on (record { it = o }) a
      go (in_back n o) a b = (g (record { it = n }) a).on (record { it = o }) b

  pub regrouped : {bound : List (NameAt S)} {R : ℕ → Here → Type 0} (xs ys zs : List (Seen S)) → Ok same x tree e lower paths (xs ++ (ys ++ zs)) bound R → Ok same x tree e lower paths (xs ++ ys ++ zs) bound R
  regrouped {bound = bound} {R = R} xs ys zs o = subst (λ (l : List (Seen S)). Ok same x tree e lower paths l bound R) (sym (append_assoc xs ys zs)) o

  -- ---- what is known of a part is known of what holds it

  pub mapped : {xs : List (Seen S)} {bound : List (NameAt S)} {R Q : ℕ → Here → Type 0} → Ok same x tree e lower paths xs bound R → ((k : ℕ) (d : Here) → R k d → Q k d) → Ok same x tree e lower paths xs bound Q
  mapped r f = record { on = λ o c. let w = r.on o c in record { operands = w.operands; place = w.place; it = f w.operands w.place w.it; there = w.there; around = w.around } }

  -- the part is an operand of it
  pub deeper : {xs : List (Seen S)} {bound : List (NameAt S)} {R Q : ℕ → Here → Type 0} → Ok same x tree e lower paths xs bound R → ((k : ℕ) (d : Here) → R k d → Q (suc k) d) → Ok same x tree e lower paths xs bound Q
  deeper r f = record { on = λ o c. let w = r.on o c in record { operands = suc w.operands; place = w.place; it = f w.operands w.place w.it; there = w.there; around = w.around } }

  -- the part stands behind further declarations
  pub scoped : {xs : List (Seen S)} {bound wider : List (NameAt S)} {R Q : ℕ → Here → Type 0} → Ok same x tree e lower paths xs wider R → ((n : List ℕ) → is_among n (names_of bound) ≡ true → is_among n (names_of wider) ≡ true)
      → ((k : ℕ) (d : Here) → ((n : List ℕ) → is_among n (names_of wider) ≡ true → is_local x.place n ≡ true) → R k d → Q k d) → Ok same x tree e lower paths xs bound Q
  scoped r g f = record { on = λ o c. let w = r.on o c in record { operands = w.operands; place = w.place; it = f w.operands w.place w.around w.it; there = w.there; around = λ n i. w.around n (g n i) } }

  -- the part is an operand of it, behind further declarations; its place is that of the use
  pub scoped_deeper : {xs : List (Seen S)} {bound wider : List (NameAt S)} {R Q : ℕ → Here → Type 0} → Ok same x tree e lower paths xs wider R → ((n : List ℕ) → is_among n (names_of bound) ≡ true → is_among n (names_of wider) ≡ true)
      → ((k : ℕ) (d : Here) → SamePlace paths d x.place.env x.place.bound → ((n : List ℕ) → is_among n (names_of wider) ≡ true → is_local x.place n ≡ true) → R k d → Q (suc k) d) → Ok same x tree e lower paths xs bound Q
  scoped_deeper r g f = record { on = λ o c. let w = r.on o c in record { operands = suc w.operands; place = w.place; it = f w.operands w.place w.there w.around w.it; there = w.there; around = λ n i. w.around n (g n i) } }

  -- ---- where the use doesn't stand

  pub nowhere : {bound : List (NameAt S)} {R : ℕ → Here → Type 0} → Ok same x tree e lower paths [] bound R
  nowhere = record { on = λ o c. absurd o.it }

  pub no_statement : {bound : List (NameAt S)} {R : ℕ → Here → Type 0} (p : Place S) (s : Stmt S) → Ok same x tree e lower paths (seen_stmt p s ∷ []) bound R
  no_statement {bound = bound} {R = R} p s = record { on = λ o c. go o.it }
    where
      go : StandsOnce same x tree (seen_stmt p s ∷ []) → Put same x tree e lower paths bound R
      go (inl q) = absurd q.0
      go (inr q) = absurd q.1

  pub no_type : {bound : List (NameAt S)} {R : ℕ → Here → Type 0} (p : Place S) (t : TypeExpr S) → Ok same x tree e lower paths (seen_type p t ∷ []) bound R
  no_type {bound = bound} {R = R} p t = record { on = λ o c. go o.it }
    where
      go : StandsOnce same x tree (seen_type p t ∷ []) → Put same x tree e lower paths bound R
      go (inl q) = absurd q.0
      go (inr q) = absurd q.1

  -- the part isn't at the span of the use
  module _ (here : is_at same (part_span x.part) tree ≡ true) where
    pub never : {bound : List (NameAt S)} {R : ℕ → Here → Type 0} (xs : List (Seen S)) → NoneAt same (part_span x.part) xs → Ok same x tree e lower paths xs bound R
    never xs n = record { on = λ o c. absurd (clash same x tree here xs n o.it) }
