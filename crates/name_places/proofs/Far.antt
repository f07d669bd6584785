-- Names and keys of fields between two bytes that stand apart, and parts that have such.
use Rattle.std.proofs.Common.{◌≡◌, ◌∙◌, ◌≤◌, ◌<◌, ◌⊎◌, inl, inr, ℕ, List, [], ◌∷◌, ◌++◌, refl, sym, ap, subst, arith}
use Rattle.std.proofs.lemmas.List.{append_assoc, append-nil}
use Rattle.go_tree.specs.declared.spans.Span.{Span}
use Rattle.go_tree.specs.Tree.{NameAt, Expr, selector}
use Rattle.run_rules.specs.Surroundings.{Use, Place, Seen, seen}
use Rattle.member_uses.specs.Uses.{name_alone}
use Rattle.constant_steps.proofs.PlaceMeanings.Nested.{Lies}
use Rattle.name_places.specs.NamesThere.{Spelling, behind_dot, NameThere, Among, first, later, fields_in, fields_among, names_in, names_among, StandApart}
use Rattle.name_places.proofs.Lists.{among_front, among_back, among_either, none_of}

-- ---- spans

pub longer : {lo m hi : ℕ} {s : Span} → Lies lo m s → m ≤ hi → Lies lo hi s
longer h le = record { from = h.from; filled = h.filled; to = omega (arith, h.to, le) }

pub around : {lo a b hi : ℕ} {s : Span} → Lies a b s → lo ≤ a → b ≤ hi → Lies lo hi s
around h x y = record { from = omega (arith, h.from, x); filled = h.filled; to = omega (arith, h.to, y) }

one_behind : {lo m hi : ℕ} (s t : Span) → Lies lo m s → Lies m hi t → s ≡ t → ⊥
one_behind s t h k e = let f : s.start ≡ t.start = ap (λ (v : Span). v.start) e in omega (arith, h.filled, h.to, k.from, f)

ends_first : {lo m : ℕ} (s t : Span) → Lies lo m s → m < t.end → s ≡ t → ⊥
ends_first s t h b e = let f : s.end ≡ t.end = ap (λ (v : Span). v.end) e in omega (arith, h.to, b, f)

-- ---- names and keys

module _ {S : Type 0} (to : S → Span) where
  -- they lie between two bytes and stand apart
  pub record Apart (lo hi : ℕ) (ns : List NameThere) (ks : List S) : Type 0 where
    pub names : (x : NameThere) → Among x ns → Lies lo hi x.0
    pub keys : (s : S) → Among s ks → Lies lo hi (to s)
    pub once : (x y : NameThere) → Among x ns → Among y ns → x.0 ≡ y.0 → x.1 ≡ y.1
    pub fields : (x : NameThere) (s : S) → Among x ns → Among s ks → x.0 ≡ to s → ⊥

  pub nothing : (lo hi : ℕ) → Apart lo hi [] []
  nothing lo hi = record { names = λ x m. none_of m; keys = λ s m. none_of m; once = λ x y m k e. none_of m; fields = λ x s m k e. none_of m }

  pub name : (lo hi : ℕ) (s : Span) (v : Spelling) → Lies lo hi s → Apart lo hi ((s, v) ∷ []) []
  name lo hi s v h = record { names = at; keys = λ k m. none_of m; once = same; fields = λ x k m n e. none_of n }
    where
      at : (x : NameThere) → Among x ((s, v) ∷ []) → Lies lo hi x.0
      at x first = h
      at x (later m) = none_of m

      same : (x y : NameThere) → Among x ((s, v) ∷ []) → Among y ((s, v) ∷ []) → x.0 ≡ y.0 → x.1 ≡ y.1
      same x y first first e = refl
      same x y (later m) k e = none_of m
      same x y first (later m) e = none_of m

  pub key : (lo hi : ℕ) (s : S) → Lies lo hi (to s) → Apart lo hi [] (s ∷ [])
  key lo hi s h = record { names = λ x m. none_of m; keys = at; once = λ x y m k e. none_of m; fields = λ x s m k e. none_of m }
    where
      at : (t : S) → Among t (s ∷ []) → Lies lo hi (to t)
      at t first = h
      at t (later m) = none_of m

  pub fewer : (lo hi : ℕ) (ns ms : List NameThere) (ks js : List S) → ((x : NameThere) → Among x ms → Among x ns) → ((s : S) → Among s js → Among s ks) → Apart lo hi ns ks → Apart lo hi ms js
  fewer lo hi ns ms ks js f g h =
      record {
        names = λ x m. h.names x (f x m);
        keys = λ s m. h.keys s (g s m);
        once = λ x y m k e. h.once x y (f x m) (f y k) e;
        fields = λ x s m k e. h.fields x s (f x m) (g s k) e;
      }

  pub wider : (lo a b hi : ℕ) (ns : List NameThere) (ks : List S) → lo ≤ a → b ≤ hi → Apart a b ns ks → Apart lo hi ns ks
  wider lo a b hi ns ks x y h = record { names = λ n m. around (h.names n m) x y; keys = λ s m. around (h.keys s m) x y; once = h.once; fields = h.fields }

  -- those of one part, and those of one behind it
  pub both : (lo m hi : ℕ) (ns ms : List NameThere) (ks js : List S) → lo ≤ m → m ≤ hi → Apart lo m ns ks → Apart m hi ms js → Apart lo hi (ns ++ ms) (ks ++ js)
  both lo m hi ns ms ks js a b h k =
      record {
        names = λ x n. at x (among_either x ns ms n);
        keys = λ s n. key_at s (among_either s ks js n);
        once = λ x y n l e. same x y (among_either x ns ms n) (among_either y ns ms l) e;
        fields = λ x s n l e. none x s (among_either x ns ms n) (among_either s ks js l) e;
      }
    where
      at : (x : NameThere) → Among x ns ⊎ Among x ms → Lies lo hi x.0
      at x (inl n) = around (h.names x n) (omega arith) b
      at x (inr n) = around (k.names x n) a (omega arith)

      key_at : (s : S) → Among s ks ⊎ Among s js → Lies lo hi (to s)
      key_at s (inl n) = around (h.keys s n) (omega arith) b
      key_at s (inr n) = around (k.keys s n) a (omega arith)

      same : (x y : NameThere) → Among x ns ⊎ Among x ms → Among y ns ⊎ Among y ms → x.0 ≡ y.0 → x.1 ≡ y.1
      same x y (inl n) (inl l) e = h.once x y n l e
      same x y (inr n) (inr l) e = k.once x y n l e
      same x y (inl n) (inr l) e = absurd (one_behind x.0 y.0 (h.names x n) (k.names y l) e)
      same x y (inr n) (inl l) e = absurd (one_behind y.0 x.0 (h.names y l) (k.names x n) (sym e))

      none : (x : NameThere) (s : S) → Among x ns ⊎ Among x ms → Among s ks ⊎ Among s js → x.0 ≡ to s → ⊥
      none x s (inl n) (inl l) e = h.fields x s n l e
      none x s (inr n) (inr l) e = k.fields x s n l e
      none x s (inl n) (inr l) e = one_behind x.0 (to s) (h.names x n) (k.keys s l) e
      none x s (inr n) (inl l) e = one_behind (to s) x.0 (h.keys s l) (k.names x n) (sym e)

  -- those of a part, and a name that ends behind it
  pub and_name : (lo m hi : ℕ) (ns : List NameThere) (ks : List S) (s : Span) (v : Spelling) → m < s.end → Lies lo hi s → Apart lo m ns ks → Apart lo hi (ns ++ (s, v) ∷ []) ks
  and_name lo m hi ns ks s v b l h =
      record {
        names = λ x n. at x (among_either x ns ((s, v) ∷ []) n);
        keys = λ t n. longer (h.keys t n) (omega (arith, b, l.to));
        once = λ x y n k e. same x y (among_either x ns ((s, v) ∷ []) n) (among_either y ns ((s, v) ∷ []) k) e;
        fields = λ x t n k e. none x t (among_either x ns ((s, v) ∷ []) n) k e;
      }
    where
      at : (x : NameThere) → Among x ns ⊎ Among x ((s, v) ∷ []) → Lies lo hi x.0
      at x (inl n) = longer (h.names x n) (omega (arith, b, l.to))
      at x (inr first) = l
      at x (inr (later n)) = none_of n

      same : (x y : NameThere) → Among x ns ⊎ Among x ((s, v) ∷ []) → Among y ns ⊎ Among y ((s, v) ∷ []) → x.0 ≡ y.0 → x.1 ≡ y.1
      same x y (inl n) (inl k) e = h.once x y n k e
      same x y (inl n) (inr first) e = absurd (ends_first x.0 s (h.names x n) b e)
      same x y (inl n) (inr (later k)) e = none_of k
      same x y (inr first) (inl k) e = absurd (ends_first y.0 s (h.names y k) b (sym e))
      same x y (inr (later n)) (inl k) e = none_of n
      same x y (inr first) (inr first) e = refl
      same x y (inr first) (inr (later k)) e = none_of k
      same x y (inr (later n)) (inr k) e = none_of n

      none : (x : NameThere) (t : S) → Among x ns ⊎ Among x ((s, v) ∷ []) → Among t ks → x.0 ≡ to t → ⊥
      none x t (inl n) k e = h.fields x t n k e
      none x t (inr first) k e = ends_first (to t) s (h.keys t k) b (sym e)
      none x t (inr (later n)) k e = none_of n

  -- ---- parts

  pub names_both : (xs ys : List (Seen S)) → names_among to (xs ++ ys) ≡ names_among to xs ++ names_among to ys
  names_both [] ys = refl
  names_both (x ∷ xs) ys = ap (λ (ns : List NameThere). names_in to x ++ ns) (names_both xs ys) ∙ sym (append_assoc (names_in to x) (names_among to xs) (names_among to ys))

  pub fields_both : (xs ys : List (Seen S)) → fields_among (xs ++ ys) ≡ fields_among xs ++ fields_among ys
  fields_both [] ys = refl
  fields_both (x ∷ xs) ys = ap (λ (ks : List S). fields_in x ++ ks) (fields_both xs ys) ∙ sym (append_assoc (fields_in x) (fields_among xs) (fields_among ys))

  -- the names among parts, and the keys among them and others
  abbrev pub Far : ℕ → ℕ → List (Seen S) → List S → Type 0
  Far lo hi xs ks = Apart lo hi (names_among to xs) (ks ++ fields_among xs)

  pub far_both : (lo m hi : ℕ) (xs ys : List (Seen S)) (ks js : List S) → lo ≤ m → m ≤ hi → Far lo m xs ks → Far m hi ys js → Far lo hi (xs ++ ys) (ks ++ js)
  far_both lo m hi xs ys ks js a b h k =
      fewer lo hi (names_among to xs ++ names_among to ys) (names_among to (xs ++ ys)) ((ks ++ fields_among xs) ++ (js ++ fields_among ys)) ((ks ++ js) ++ fields_among (xs ++ ys))
      (λ x n. subst (λ (ns : List NameThere). Among x ns) (names_both xs ys) n)
      (λ s n. moved s (among_either s (ks ++ js) (fields_among (xs ++ ys)) n))
      (both lo m hi (names_among to xs) (names_among to ys) (ks ++ fields_among xs) (js ++ fields_among ys) a b h k)
    where
      left : (s : S) → Among s (ks ++ fields_among xs) → Among s ((ks ++ fields_among xs) ++ (js ++ fields_among ys))
      left s n = among_front s (ks ++ fields_among xs) (js ++ fields_among ys) n

      right : (s : S) → Among s (js ++ fields_among ys) → Among s ((ks ++ fields_among xs) ++ (js ++ fields_among ys))
      right s n = among_back s (ks ++ fields_among xs) (js ++ fields_among ys) n

      own : (s : S) → Among s ks ⊎ Among s js → Among s ((ks ++ fields_among xs) ++ (js ++ fields_among ys))
      own s (inl n) = left s (among_front s ks (fields_among xs) n)
      own s (inr n) = right s (among_front s js (fields_among ys) n)

      others : (s : S) → Among s (fields_among xs) ⊎ Among s (fields_among ys) → Among s ((ks ++ fields_among xs) ++ (js ++ fields_among ys))
      others s (inl n) = left s (among_back s ks (fields_among xs) n)
      others s (inr n) = right s (among_back s js (fields_among ys) n)

      moved : (s : S) → Among s (ks ++ js) ⊎ Among s (fields_among (xs ++ ys)) → Among s ((ks ++ fields_among xs) ++ (js ++ fields_among ys))
      moved s (inl n) = own s (among_either s ks js n)
      moved s (inr n) = others s (among_either s (fields_among xs) (fields_among ys) (subst (λ (ts : List S). Among s ts) (fields_both xs ys) n))

  -- a part behind, which names nothing, and whose keys are known
  pub far_close : (lo hi : ℕ) (xs : List (Seen S)) (ks : List S) (x : Seen S) → names_in to x ≡ [] → fields_in x ≡ ks → Far lo hi xs ks → Far lo hi (xs ++ x ∷ []) []
  far_close lo hi xs ks x e f h =
      fewer lo hi (names_among to xs) (names_among to (xs ++ x ∷ [])) (ks ++ fields_among xs) (fields_among (xs ++ x ∷ []))
      (λ n m. off n (subst (λ (ns : List NameThere). Among n ns) (names_both xs (x ∷ [])) m))
      (λ s m. swapped s (subst (λ (ts : List S). Among s ts) (fields_both xs (x ∷ [])) m)) h
    where
      off : (n : NameThere) → Among n (names_among to xs ++ (names_in to x ++ [])) → Among n (names_among to xs)
      off n m = subst (λ (ns : List NameThere). Among n ns) (ap (λ (ns : List NameThere). names_among to xs ++ (ns ++ [])) e ∙ append-nil (names_among to xs)) m

      turned : (s : S) → Among s (fields_among xs) ⊎ Among s (fields_in x ++ []) → Among s (ks ++ fields_among xs)
      turned s (inl m) = among_back s ks (fields_among xs) m
      turned s (inr m) = among_front s ks (fields_among xs) (subst (λ (ts : List S). Among s ts) (append-nil (fields_in x) ∙ f) m)

      swapped : (s : S) → Among s (fields_among xs ++ (fields_in x ++ [])) → Among s (ks ++ fields_among xs)
      swapped s m = turned s (among_either s (fields_among xs) (fields_in x ++ []) m)

  -- a selector behind what it selects from
  pub far_selector : (lo m hi : ℕ) (xs : List (Seen S)) (p : Place S) (u : Use) (s : S) (b : Expr S) (n : NameAt S) → m < (to s).end → Lies lo hi (to s) → Far lo m xs [] → Far lo hi (xs ++ seen p u (selector s b n) ∷ []) []
  far_selector lo m hi xs p u s b n c l h =
      fewer lo hi (names_among to xs ++ (to s, behind_dot (name_alone b)) ∷ []) (names_among to (xs ++ seen p u (selector s b n) ∷ [])) (fields_among xs) (fields_among (xs ++ seen p u (selector s b n) ∷ []))
      (λ x k. subst (λ (ns : List NameThere). Among x ns) (names_both xs (seen p u (selector s b n) ∷ [])) k)
      (λ t k. subst (λ (ts : List S). Among t ts) (fields_both xs (seen p u (selector s b n) ∷ []) ∙ append-nil (fields_among xs)) k)
      (and_name lo m hi (names_among to xs) (fields_among xs) (to s) (behind_dot (name_alone b)) c l h)

  pub stands_apart : (lo hi : ℕ) (xs : List (Seen S)) → Far lo hi xs [] → StandApart to xs
  stands_apart lo hi xs h = record { once = h.once; fields = h.fields }
