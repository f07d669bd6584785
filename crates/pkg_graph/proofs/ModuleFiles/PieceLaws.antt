-- Paths byte by byte: what one more byte does to their elements.
use Rattle.std.proofs.Common.{◌≡◌, ◌∙◌, ◌==◌, ◌≤◌, ◌<◌, ◌+◌, ℕ, Bool, true, false, if◌then◌else◌, List, [], ◌∷◌, ◌++◌, length, refl, sym, ap, arith, take, drop, slice_index_or}
use Rattle.std.proofs.lemmas.Bool.{true≢false}
use Rattle.std.proofs.lemmas.List.{take_more, drop_all, length-take, length-take-le, drop-append-le}
use Rattle.std.specs.List.{join_with_byte}
use Rattle.pkg_graph.specs.ModuleFiles.Pieces.{push_front, elements, all_but_last, last_element, folders, folder_of, file_name}

is_slash : ℕ → Bool
is_slash b = b == 47

-- ---- the last of a list

pub last_push : (es : List (List ℕ)) (e : List ℕ) → last_element (es ++ e ∷ []) ≡ e
last_push [] e = refl
last_push (x ∷ []) e = refl
last_push (x ∷ y ∷ ys) e = last_push (y ∷ ys) e

pub front_push : (es : List (List ℕ)) (e : List ℕ) → all_but_last (es ++ e ∷ []) ≡ es
front_push [] e = refl
front_push (x ∷ []) e = refl
front_push (x ∷ y ∷ ys) e = ap (λ r. x ∷ r) (front_push (y ∷ ys) e)

-- ---- the elements of a path

pub record Parts (es : List (List ℕ)) : Type 0 where
  pub first : List ℕ
  pub rest : List (List ℕ)
  pub is : es ≡ first ∷ rest

front_parts : (b : ℕ) (es : List (List ℕ)) → Parts es → Parts (push_front b es)
front_parts b [] p = absurd (cc (p.is))
front_parts b (e ∷ es) p = record { first = b ∷ e; rest = es; is = refl }

parts_by : (b : ℕ) (bs : List ℕ) (t : Bool) → Parts (elements bs) → Parts (if t then [] ∷ elements bs else push_front b (elements bs))
parts_by b bs true p = record { first = []; rest = elements bs; is = refl }
parts_by b bs false p = front_parts b (elements bs) p

pub parts : (bs : List ℕ) → Parts (elements bs)
parts [] = record { first = []; rest = []; is = refl }
parts (b ∷ bs) = parts_by b bs (b == 47) (parts bs)

front_more : (b : ℕ) (es : List (List ℕ)) (e : List ℕ) → Parts es → push_front b (es ++ e ∷ []) ≡ push_front b es ++ e ∷ []
front_more b [] e p = absurd (cc (p.is))
front_more b (x ∷ xs) e p = refl

slash_by : (b : ℕ) (es : List (List ℕ)) (t : Bool) → Parts es → (if t then [] ∷ (es ++ [] ∷ []) else push_front b (es ++ [] ∷ [])) ≡ (if t then [] ∷ es else push_front b es) ++ [] ∷ []
slash_by b es true p = refl
slash_by b es false p = front_more b es [] p

pub elements_slash : (xs : List ℕ) → elements (xs ++ 47 ∷ []) ≡ elements xs ++ [] ∷ []
elements_slash [] = refl
elements_slash (x ∷ xs) = ap (λ es. if x == 47 then [] ∷ es else push_front x es) (elements_slash xs) ∙ slash_by x (elements xs) (x == 47) (parts xs)

-- the last element with one byte more
abbrev with_byte : List (List ℕ) → ℕ → List (List ℕ)
with_byte es b = all_but_last es ++ (last_element es ++ b ∷ []) ∷ []

other_parts : (x b : ℕ) (es : List (List ℕ)) → Parts es → push_front x (with_byte es b) ≡ with_byte (push_front x es) b
other_parts x b [] p = absurd (cc (p.is))
other_parts x b (e ∷ []) p = refl
other_parts x b (e ∷ f ∷ es) p = refl

under_parts : (b : ℕ) (es : List (List ℕ)) → Parts es → [] ∷ with_byte es b ≡ with_byte ([] ∷ es) b
under_parts b [] p = absurd (cc (p.is))
under_parts b (e ∷ es) p = refl

other_by : (x b : ℕ) (es : List (List ℕ)) (t : Bool) → Parts es → (if t then [] ∷ with_byte es b else push_front x (with_byte es b)) ≡ with_byte (if t then [] ∷ es else push_front x es) b
other_by x b es true p = under_parts b es p
other_by x b es false p = other_parts x b es p

alone_by : (b : ℕ) (t : Bool) → t ≡ false → (if t then [] ∷ ([] ∷ []) else push_front b ([] ∷ [])) ≡ (b ∷ []) ∷ []
alone_by b true h = absurd (true≢false h)
alone_by b false h = refl

pub elements_other : (xs : List ℕ) (b : ℕ) → (b == 47) ≡ false → elements (xs ++ b ∷ []) ≡ with_byte (elements xs) b
elements_other [] b h = alone_by b (b == 47) h
elements_other (x ∷ xs) b h = ap (λ es. if x == 47 then [] ∷ es else push_front x es) (elements_other xs b h) ∙ other_by x b (elements xs) (x == 47) (parts xs)

join_front : (x : ℕ) (es : List (List ℕ)) → Parts es → join_with_byte 47 (push_front x es) ≡ x ∷ join_with_byte 47 es
join_front x [] p = absurd (cc (p.is))
join_front x (e ∷ []) p = refl
join_front x (e ∷ f ∷ es) p = refl

join_under : (es : List (List ℕ)) → Parts es → join_with_byte 47 ([] ∷ es) ≡ 47 ∷ join_with_byte 47 es
join_under [] p = absurd (cc (p.is))
join_under (e ∷ es) p = refl

join_by : (x : ℕ) (es : List (List ℕ)) (t : Bool) → (x == 47) ≡ t → Parts es → join_with_byte 47 (if t then [] ∷ es else push_front x es) ≡ x ∷ join_with_byte 47 es
join_by x es true e p = join_under es p ∙ ap (λ b. b ∷ join_with_byte 47 es) (sym (grind (arith, e)))
join_by x es false e p = join_front x es p

-- the elements of a path make the path
pub join_elements : (xs : List ℕ) → join_with_byte 47 (elements xs) ≡ xs
join_elements [] = refl
join_elements (x ∷ xs) = join_by x (elements xs) (x == 47) refl (parts xs) ∙ ap (λ r. x ∷ r) (join_elements xs)

-- ---- one byte more

pub folders_slash : (xs : List ℕ) → folders (xs ++ 47 ∷ []) ≡ elements xs
folders_slash xs = ap all_but_last (elements_slash xs) ∙ front_push (elements xs) []

pub folder_slash : (xs : List ℕ) → folder_of (xs ++ 47 ∷ []) ≡ xs
folder_slash xs = ap (join_with_byte 47) (folders_slash xs) ∙ join_elements xs

pub name_slash : (xs : List ℕ) → file_name (xs ++ 47 ∷ []) ≡ []
name_slash xs = ap last_element (elements_slash xs) ∙ last_push (elements xs) []

pub folders_other : (xs : List ℕ) (b : ℕ) → (b == 47) ≡ false → folders (xs ++ b ∷ []) ≡ folders xs
folders_other xs b h = ap all_but_last (elements_other xs b h) ∙ front_push (folders xs) (file_name xs ++ b ∷ [])

pub folder_other : (xs : List ℕ) (b : ℕ) → (b == 47) ≡ false → folder_of (xs ++ b ∷ []) ≡ folder_of xs
folder_other xs b h = ap (join_with_byte 47) (folders_other xs b h)

pub name_other : (xs : List ℕ) (b : ℕ) → (b == 47) ≡ false → file_name (xs ++ b ∷ []) ≡ file_name xs ++ b ∷ []
name_other xs b h = ap last_element (elements_other xs b h) ∙ last_push (folders xs) (file_name xs ++ b ∷ [])

-- the front of a path up to a place: its folder ends at the one number, and its name begins at the other
pub record IsSplitAt (path : List ℕ) (i end start : ℕ) : Type 0 where
  pub end_in : end ≤ i
  pub start_in : start ≤ i
  pub folder : take end path ≡ folder_of (take i path)
  pub name : drop start (take i path) ≡ file_name (take i path)

pub more : (path : List ℕ) (i b : ℕ) → i < length path → slice_index_or path i 0 ≡ b → take (i + 1) path ≡ take i path ++ b ∷ []
more path i b h e = take_more path i 0 h ∙ ap (λ n. take i path ++ n ∷ []) e

pub split_at_slash : (path : List ℕ) (i : ℕ) → i < length path → slice_index_or path i 0 ≡ 47 → IsSplitAt path (i + 1) i (i + 1)
split_at_slash path i h e = let m = more path i 47 h e in record {
  end_in = omega arith;
  start_in = omega arith;
  folder = sym (ap folder_of m ∙ folder_slash (take i path));
  name = drop_all (i + 1) (take (i + 1) path) (rw (length-take (i + 1) path) (omega arith)) ∙ sym (ap file_name m ∙ name_slash (take i path));
}

pub not_slash : (b : ℕ) → (b ≡ 47 → ⊥) → (b == 47) ≡ false
not_slash b f = go (b == 47) refl
  where
    go : (t : Bool) → (b == 47) ≡ t → (b == 47) ≡ false
    go true e = absurd (f (grind (arith, e)))
    go false e = e

pub split_at_other : (path : List ℕ) (i end start : ℕ) → i < length path → (slice_index_or path i 0 ≡ 47 → ⊥) → IsSplitAt path i end start → IsSplitAt path (i + 1) end start
split_at_other path i end start h f s =
    let b = slice_index_or path i 0 in
    let other = not_slash b f in
    let m = more path i b h refl in
    let size : length (take i path) ≡ i = length-take-le i path (omega (arith, h)) in
    record {
      end_in = omega (arith, s.end_in);
      start_in = omega (arith, s.start_in);
      folder = s.folder ∙ sym (ap folder_of m ∙ folder_other (take i path) b other);
      name = ap (drop start) m ∙ drop-append-le start (take i path) (b ∷ []) (rw size s.start_in) ∙ ap (λ n. n ++ b ∷ []) s.name ∙ sym (ap file_name m ∙ name_other (take i path) b other);
    }
