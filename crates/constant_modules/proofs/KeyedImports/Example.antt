-- A file with an import, and the same without it: a field of the import's name is a key, which elsewhere names a predeclared
-- function. The files hold the same declarations, and each name that these use means the same.
--   import len "m/len"; var v = T{len: 1}
use Rattle.std.proofs.Common.{◌≡◌, ◌⊎◌, inr, refl, sym, subst, ℕ, zero, suc, false, List, [], ◌∷◌, None, Some, codes}
use Rattle.std.specs.Prelude.{slice_get}
use Rattle.std.proofs.lemmas.Option.{same_Some}
use Rattle.go_tree.specs.Tree.{NameAt, named, ident, int_lit, composite, no_exprs, expr_and, no_elems, elem, plain, some_value, var_decl, no_specs, spec}
use Rattle.go_tree.specs.File.{Decl, values}
use Rattle.go_tree.specs.GoTypes.Programs.{SourceFile}
use Rattle.order_runs.specs.ImportCodes.PackagesMoved.{imported_as}
use Rattle.constant_modules.specs.KeyedImports.Keyed.{decl_marked, IsFree, FileKeyed}
use Rattle.constant_modules.specs.NamesAndKeys.Marked.{Marked, used_name, key_name, Within, at_head, behind}

abbrev name_at : List ℕ → NameAt ℕ
name_at s = record { span = 0; name = s }

abbrev v : Decl ℕ
v = values (var_decl 1 false (spec 1 (name_at (codes "v") ∷ []) None (expr_and (composite 2 (named 2 None (name_at (codes "T"))) (elem 3 (some_value (plain (ident 3 (codes "len")))) (plain (int_lit 4 (codes "1"))) no_elems)) no_exprs) no_specs))

abbrev with_import : SourceFile ℕ
with_import = record { imports = record { span = 0; name = codes "len"; of = 7 } ∷ []; decls = v ∷ [] }

abbrev without : SourceFile ℕ
without = record { imports = []; decls = v ∷ [] }

marked : decl_marked v ≡ used_name (codes "T") ∷ key_name (codes "len") ∷ []
marked = refl

free : IsFree (codes "v" ∷ codes "T" ∷ []) (codes "len")
free = (refl, refl)

used_one : (n : List ℕ) → Within (used_name n) (used_name (codes "T") ∷ key_name (codes "len") ∷ []) → imported_as {S = ℕ} without.imports n ≡ imported_as with_import.imports n
used_one _ at_head = refl
used_one n (behind i) = absurd (no_key (key_name (codes "len")) refl i)
  where
    no_key : (x : Marked) → x ≡ key_name (codes "len") → Within (used_name n) (x ∷ []) → ⊥
    no_key _ e at_head = cc
    no_key x e (behind j) = elim j [ ]

last_key : (n : List ℕ) → Within (key_name n) (key_name (codes "len") ∷ []) → IsFree (codes "v" ∷ codes "T" ∷ []) n
last_key _ at_head = free
last_key n (behind j) = elim j [ ]

key_one : (n : List ℕ) → Within (key_name n) (used_name (codes "T") ∷ key_name (codes "len") ∷ []) → IsFree (codes "v" ∷ codes "T" ∷ []) n
key_one n i = by (used_name (codes "T")) refl i
  where
    by : (x : Marked) → x ≡ used_name (codes "T") → Within (key_name n) (x ∷ key_name (codes "len") ∷ []) → IsFree (codes "v" ∷ codes "T" ∷ []) n
    by _ e at_head = absurd cc
    by x e (behind j) = last_key n j

alike : FileKeyed (codes "v" ∷ codes "T" ∷ []) with_import without
alike = record { decls = refl; used = used; keys = keys }
  where
    used : (k : ℕ) (d : Decl ℕ) → slice_get (v ∷ []) k ≡ Some d → (n : List ℕ) → Within (used_name n) (decl_marked d) → imported_as {S = ℕ} without.imports n ≡ imported_as with_import.imports n
    used zero d e n i = used_one n (subst (λ (y : Decl ℕ). Within (used_name n) (decl_marked y)) (sym (same_Some v d e)) i)
    used (suc k) d e n i = absurd cc

    keys : (k : ℕ) (d : Decl ℕ) → slice_get (v ∷ []) k ≡ Some d → (n : List ℕ) → Within (key_name n) (decl_marked d) → (imported_as {S = ℕ} without.imports n ≡ imported_as with_import.imports n) ⊎ IsFree (codes "v" ∷ codes "T" ∷ []) n
    keys zero d e n i = inr (key_one n (subst (λ (y : Decl ℕ). Within (key_name n) (decl_marked y)) (sym (same_Some v d e)) i))
    keys (suc k) d e n i = absurd cc

-- for the key the imports differ
with_it : imported_as with_import.imports (codes "len") ≡ Some 7
with_it = refl

without_it : imported_as {S = ℕ} without.imports (codes "len") ≡ None
without_it = refl
