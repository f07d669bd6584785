-- The paths of a module's packages are octets.
use Rattle.std.proofs.Common.{◌≡◌, refl, ap, subst, ℕ, ◌==◌, Bool, true, false, not, ◌&&◌, nat_le, bytes_eq, if◌then◌else◌, List, [], ◌∷◌, ◌++◌, filter, Option, Some, None, codes, arith}
use Rattle.std.specs.Prelude.{option_and_then}
use Rattle.std.specs.List.{list_all, join_with_byte}
use Rattle.std.proofs.lemmas.Bool.{and_parts, and_from}
use Rattle.std.proofs.lemmas.Bool.Decides.{nat_tests}
use Rattle.go_tree.specs.declared.spans.Span.{Span}
use Rattle.go_tree.specs.GoWords.Tokens.Characters.{each}
use Rattle.splice_laws.specs.ImportSplices.AddedFile.{is_byte}
use Rattle.pkg_graph.specs.ModuleFiles.Pieces.{push_front, split_by, elements, all_but_last, folders, folder_of, has_bytes}
use Rattle.pkg_graph.specs.ModuleFiles.ModuleFile.{argument_of, is_quote, is_path_byte, is_module_path, unquoted, path_in, module_path, is_version, ModuleAnswer, is_module, no_module_line, old_go, version_answer, path_answer, module_of}
use Rattle.pkg_graph.specs.Package.{SourceTree, home_of, first_seen}

-- each of the parts is octets
abbrev pub AllOctets : List (List ℕ) → Type 0
AllOctets [] = Unit {0}
AllOctets (x ∷ xs) = (each is_byte x ≡ true) × AllOctets xs

pub octets_both : (xs ys : List ℕ) → each is_byte xs ≡ true → each is_byte ys ≡ true → each is_byte (xs ++ ys) ≡ true
octets_both [] ys h k = k
octets_both (c ∷ xs) ys h k =
    let a = and_parts (is_byte c) (each is_byte xs) h in and_from (is_byte c) (each is_byte (xs ++ ys)) a.0 (octets_both xs ys a.1 k)

-- ---- folders

pushed : (b : ℕ) (ps : List (List ℕ)) → is_byte b ≡ true → AllOctets ps → AllOctets (push_front b ps)
pushed b [] h k = (and_from (is_byte b) true h refl, tt)
pushed b (p ∷ ps) h k = (and_from (is_byte b) (each is_byte p) h k.0, k.1)

split_octets : (separates : ℕ → Bool) (bs : List ℕ) → each is_byte bs ≡ true → AllOctets (split_by separates bs)
split_octets separates [] h = (refl, tt)
split_octets separates (b ∷ bs) h = by (separates b) (split_octets separates bs a.1)
  where
    a : (is_byte b ≡ true) × (each is_byte bs ≡ true)
    a = and_parts (is_byte b) (each is_byte bs) h

    by : (c : Bool) → AllOctets (split_by separates bs) → AllOctets (if c then [] ∷ split_by separates bs else push_front b (split_by separates bs))
    by true r = (refl, r)
    by false r = pushed b (split_by separates bs) a.0 r

but_last : (xs : List (List ℕ)) → AllOctets xs → AllOctets (all_but_last xs)
but_last [] h = tt
but_last (x ∷ []) h = tt
but_last (x ∷ y ∷ ys) h = (h.0, but_last (y ∷ ys) h.1)

joined_octets : (xs : List (List ℕ)) → AllOctets xs → each is_byte (join_with_byte 47 xs) ≡ true
joined_octets [] h = refl
joined_octets (x ∷ []) h = h.0
joined_octets (x ∷ y ∷ ys) h = octets_both x (47 ∷ join_with_byte 47 (y ∷ ys)) h.0 (joined_octets (y ∷ ys) h.1)

folder_octets : (path : List ℕ) → each is_byte path ≡ true → each is_byte (folder_of path) ≡ true
folder_octets path h = joined_octets (folders path) (but_last (elements path) (split_octets (λ b. b == 47) path h))

pub home_octets : (home : List ℕ) (f : SourceTree Span) → each is_byte home ≡ true → each is_byte f.path ≡ true → each is_byte (home_of home f) ≡ true
home_octets home f h k = by (has_bytes (folder_of f.path))
  where
    by : (b : Bool) → each is_byte (if b then home ++ (codes "/" ++ folder_of f.path) else home) ≡ true
    by true = octets_both home (codes "/" ++ folder_of f.path) h (octets_both (codes "/") (folder_of f.path) refl (folder_octets f.path k))
    by false = h

-- ---- each path once

kept_octets : (P : List ℕ → Bool) (xs : List (List ℕ)) → AllOctets xs → AllOctets (filter P xs)
kept_octets P [] h = tt
kept_octets P (x ∷ xs) h = by (P x) (kept_octets P xs h.1)
  where
    by : (b : Bool) → AllOctets (filter P xs) → AllOctets (if b then x ∷ filter P xs else filter P xs)
    by true r = (h.0, r)
    by false r = r

pub seen_octets : (xs : List (List ℕ)) → AllOctets xs → AllOctets (first_seen xs)
seen_octets [] h = tt
seen_octets (x ∷ xs) h = (h.0, kept_octets (λ y. not (bytes_eq x y)) (first_seen xs) (seen_octets xs h.1))

-- ---- the module's path

path_byte : (b : ℕ) → is_path_byte b ≡ true → is_byte b ≡ true
path_byte b e =
    let a = and_parts (nat_le 0x21 b) (nat_le b 0x7e && not (is_quote b)) e in
    let c = and_parts (nat_le b 0x7e) (not (is_quote b)) a.1 in grind (arith, nat_tests, c.0)

path_bytes : (p : List ℕ) → list_all is_path_byte p ≡ true → each is_byte p ≡ true
path_bytes [] h = refl
path_bytes (b ∷ bs) h = let a = and_parts (is_path_byte b) (list_all is_path_byte bs) h in and_from (is_byte b) (each is_byte bs) (path_byte b a.0) (path_bytes bs a.1)

abbrev is_path : ModuleAnswer → Bool
is_path (is_module p) = true
is_path no_module_line = false
is_path (old_go v) = false

abbrev path_of : ModuleAnswer → List ℕ
path_of (is_module p) = p
path_of no_module_line = []
path_of (old_go v) = []

never : {A : Type 0} → false ≡ true → A
never e = absurd (grind (arith, e))

by_version : (p q : List ℕ) (v : Option (List ℕ)) → version_answer p v ≡ is_module q → p ≡ q
unfolding version_answer
by_version p q None e = never (ap is_path e)
by_version p q (Some v) e = by (is_version v) e
  where
    by : (b : Bool) → (if b then is_module p else old_go v) ≡ is_module q → p ≡ q
    by true e = ap path_of e
    by false e = never (ap is_path e)

by_path : (text : List ℕ) (o : Option (List ℕ)) (q : List ℕ) → path_answer text o ≡ is_module q → o ≡ Some q
unfolding path_answer
by_path text None q e = never (ap is_path e)
by_path text (Some p) q e = ap (λ (x : List ℕ). Some x) (by_version p q (argument_of (codes "go") text) e)

abbrev given_path : Option (List ℕ) → List ℕ
given_path None = []
given_path (Some p) = p

abbrev has_path : Option (List ℕ) → Bool
has_path None = false
has_path (Some p) = true

in_argument : (a q : List ℕ) → path_in a ≡ Some q → is_module_path q ≡ true
in_argument a q e = by (is_module_path (unquoted a)) refl e
  where
    by : (b : Bool) → is_module_path (unquoted a) ≡ b → (if b then Some (unquoted a) else None) ≡ Some q → is_module_path q ≡ true
    by true h e = subst (λ (p : List ℕ). is_module_path p ≡ true) (ap given_path e) h
    by false h e = never (ap has_path e)

of_argument : (o : Option (List ℕ)) (q : List ℕ) → option_and_then path_in o ≡ Some q → is_module_path q ≡ true
of_argument None q e = never (ap has_path e)
of_argument (Some a) q e = in_argument a q e

said_path : (text q : List ℕ) → module_path text ≡ Some q → is_module_path q ≡ true
unfolding module_path
said_path text q e = of_argument (argument_of (codes "module") text) q e

pub module_octets : (text q : List ℕ) → module_of text ≡ is_module q → each is_byte q ≡ true
module_octets text q e =
    path_bytes q (and_parts (has_bytes q) (list_all is_path_byte q) (said_path text q (by_path text (module_path text) q e))).1
