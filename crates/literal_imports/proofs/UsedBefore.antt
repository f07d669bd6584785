-- The file of a call that names its function by an import uses that import; and one that a step doesn't remove, though its file used it, is used with the literal in the call's place.
use Rattle.std.proofs.Common.{◌≡◌, ◌∙◌, refl, sym, ap, subst, inl, inr, ℕ, zero, suc, ◌+◌, Bool, true, false, if◌then◌else◌, nat_eq, List, [], ◌∷◌, ◌++◌, map, Option, Some, None, arith}
use Rattle.std.specs.List.{list_any}
use Rattle.std.specs.Prelude.{filter, slice_get}
use Rattle.std.proofs.lemmas.Bool.Decides.{nat_tests}
use Rattle.std.proofs.lemmas.Option.{same_Some}
use Rattle.go_tree.specs.declared.exprs.Rest.TheVariants.{Plain}
use Rattle.go_tree.specs.File.{Decl, Func, func}
use Rattle.go_tree.specs.ScopeNames.FreeNames.{names_of}
use Rattle.go_tree.specs.ScopeNames.Means.{means}
use Rattle.go_tree.specs.Tree.{NameAt, Expr, ident, selector, call}
use Rattle.go_tree.specs.GoTypes.Answers.{given, is_among}
use Rattle.pkg_graph.specs.Package.{Package}
use Rattle.pkg_graph.specs.Members.{Target, local, imported, member, predeclared}
use Rattle.run_rules.specs.Places.{sig_seen, stmts_seen}
use Rattle.run_rules.specs.Programs.{numbered_from, top_place, body_place, receiver_seen, decl_seen}
use Rattle.run_rules.specs.Sites.{Where, outer, imported_by, import_number, qualifier}
use Rattle.run_rules.specs.Steps.{means_import, named_by_import, uses_import, is_import_used}
use Rattle.run_rules.specs.Surroundings.{Use, Place, Seen, seen, seen_type, seen_stmt, is_local}
use Rattle.literal_steps.specs.LiteralUse.{NamesCallee, plainly, by_import}
use Rattle.order_runs.proofs.RunSteps.SeatedUses.{Among, first, later}
use Rattle.printed_constants.proofs.RemovedImports.Imports.{any_true, nth_among}
use Rattle.constant_modules.proofs.LookUps.Walk.{among-back}
use Rattle.literals_in_place.specs.StepsInBodies.Once.{StandsOnce, IsUse}
use Rattle.literals_in_place.specs.TypedSteps.Uses.{UseInBody}
use Rattle.literal_imports.proofs.CalledNames.{NamedThere, stmts_named}
use Rattle.literal_imports.proofs.ImportsNamed.{Means}

-- ---- lists

number_itself : (a : ℕ) → nat_eq a a ≡ true
number_itself a = grind (arith, nat_tests)

-- an item stands among the numbered ones
pub among_numbered : {A : Type 0} (k j n : ℕ) (xs : List A) (x : A) → slice_get xs j ≡ Some x → n ≡ k + j → Among (n, x) (numbered_from k xs)
among_numbered k j n [] x e m = absurd cc
among_numbered {A = A} k zero n (y ∷ xs) x e m = let number : k ≡ n = omega (arith, m) in subst (λ (v : ℕ × A). Among v ((k, y) ∷ numbered_from (suc k) xs)) (λ i. (number i, same_Some y x e i)) first
among_numbered k (suc j) n (y ∷ xs) x e m = later (among_numbered (suc k) j n xs x e (omega (arith, m)))

-- where nothing is left of a list, nothing passes
pub none_passes : {A B : Type 0} (f : A → Bool) (g : A → B) (a : A) (xs : List A) → map g (filter f xs) ≡ [] → Among a xs → f a ≡ false
none_passes {A = A} {B = B} f g a _ e (first {xs = xs}) = by (f a) refl
  where
    by : (b : Bool) → f a ≡ b → f a ≡ false
    by false q = q
    by true q = let no : ◌≡◌ {A = List B} (g a ∷ map g (filter f xs)) [] = (λ i. map g (if sym q i then a ∷ filter f xs else filter f xs)) ∙ e in absurd cc
none_passes {A = A} {B = B} f g a _ e (later {x = x} {xs = xs} h) = by (f x) e (λ q. none_passes f g a xs q h)
  where
    by : (b : Bool) → map g (if b then x ∷ filter f xs else filter f xs) ≡ [] → (map g (filter f xs) ≡ [] → f a ≡ false) → f a ≡ false
    by false q r = r q
    by true q r = absurd cc

-- ---- the package before a dot

module _ {S : Type 0} (rs : List (Package S)) (w : Where S) where
  -- the import that a name means
  pub qualifies : (p : Place S) (q : List ℕ) (k : ℕ) → qualifier rs w p q ≡ Some k → (j : ℕ) × ((is_local p q ≡ false) × Means rs w j q)
  qualifies p q k e = go (is_local p q) refl (means (outer rs w) q) refl e
    where
      go : (b : Bool) → is_local p q ≡ b → (o : Option Target) → means (outer rs w) q ≡ o → given (if b then None else o) (λ t. given (imported_by t) (import_number rs w)) ≡ Some k → (j : ℕ) × ((is_local p q ≡ false) × Means rs w j q)
      go true h o f g = absurd cc
      go false h None f g = absurd cc
      go false h (Some (local z)) f g = absurd cc
      go false h (Some (imported j)) f g = (j, (h, (λ v. means_import j (given (f v) imported_by)) ∙ number_itself j))
      go false h (Some (member a b c d)) f g = absurd cc
      go false h (Some (predeclared j)) f g = absurd cc

  -- it means it wherever it isn't declared around
  pub named_there : (p : Place S) (q : List ℕ) (j : ℕ) → is_local p q ≡ false → Means rs w j q → named_by_import rs w j p q ≡ true
  named_there p q j h m = (λ v. means_import j (given (if h v then None else means (outer rs w) q) imported_by)) ∙ m

-- the name of the package before what is called
abbrev before_name : {S : Type 0} → Expr S → List ℕ
before_name (selector s (ident z q) n) = q
before_name e = []

abbrev is_dotted : {S : Type 0} → Expr S → Bool
is_dotted (selector s e n) = true
is_dotted e = false

-- ---- the use

module _ {S : Type 0} (x : UseInBody S) where
  abbrev rs : List (Package S)
  rs = x.packages

  abbrev w : Where S
  w = x.site.at

  abbrev f : Func S
  f = x.stands.function

  abbrev body : List (Seen S)
  body = stmts_seen (body_place rs w.number w.of w.source.tree f) f.body

  listed : (ys : List (Seen S)) → StandsOnce x.same x.site x.becomes.tree ys → (u : Use) × Among (seen x.site.place u x.becomes.tree) ys
  listed [] o = absurd o
  listed (y ∷ ys) (inl o) = own y o.0
    where
      own : (y : Seen S) → IsUse x.same x.site x.becomes.tree y → (u : Use) × Among (seen x.site.place u x.becomes.tree) (y ∷ ys)
      own (seen p u z) i = (u, subst (λ (v : Seen S). Among (seen x.site.place u x.becomes.tree) (v ∷ ys)) (λ v. seen (sym i.0 v) u (sym i.1 v)) first)
      own (seen_type p t) i = absurd i
      own (seen_stmt p s) i = absurd i
  listed (y ∷ ys) (inr o) = let r = listed ys o.1 in (r.0, later r.1)

  -- where the call names its function behind this name, the name means an import that its file uses
  module _ (s t : S) (q : List ℕ) (n : NameAt S) (called_so : x.by_name.called ≡ selector s (ident t q) n) where
    found : (g : Expr S) → NamesCallee x.same x.commented rs x.marks x.site x.becomes x.by_name.name g → g ≡ selector s (ident t q) n → (k : ℕ) × (qualifier rs w x.site.place q ≡ Some k)
    found _ (plainly {s = z} own) e = let no : false ≡ true = ap is_dotted e in absurd cc
    found _ (by_import {q = m} {k = k} h d) e = (k, subst (λ (v : List ℕ). qualifier rs w x.site.place v ≡ Some k) (ap before_name e) h)

    package_before : (k : ℕ) × (qualifier rs w x.site.place q ≡ Some k)
    package_before = found x.by_name.called x.by_name.named called_so

    pub its : (j : ℕ) × ((is_local x.site.place q ≡ false) × Means rs w j q)
    its = qualifies rs w x.site.place q package_before.0 package_before.1

    the_call : Among (seen x.site.place (listed body x.stands.once).0 (call x.by_name.span (selector s (ident t q) n) x.by_name.args Plain)) body
    the_call =
        subst (λ (v : Expr S). Among (seen x.site.place (listed body x.stands.once).0 (call x.by_name.span v x.by_name.args Plain)) body) called_so
        (subst (λ (v : Expr S). Among (seen x.site.place (listed body x.stands.once).0 v) body) x.by_name.tree_is (listed body x.stands.once).1)

    its_name : NamedThere x.site.place q body
    its_name = (stmts_named f.body (body_place rs w.number w.of w.source.tree f)).each x.site.place (listed body x.stands.once).0 x.by_name.span s t q n x.by_name.args Plain the_call

    name_uses : uses_import rs w its.0 (seen its_name.place its_name.use_ (ident its_name.span q)) ≡ true
    name_uses = named_there rs w its_name.place q its.0 ((λ v. is_among q (names_of (its_name.same_bound v))) ∙ its.1.0) its.1.1

    in_decl : list_any (uses_import rs w its.0) (decl_seen rs w.number w.of w.source.tree (func f)) ≡ true
    in_decl =
        any_true (uses_import rs w its.0)
        (among-back (receiver_seen rs (top_place rs w.number w.of w.source.tree) f.receiver ++ sig_seen (top_place rs w.number w.of w.source.tree) f.sig) its_name.listed) name_uses

    pub used_before : is_import_used rs w w.source.tree.decls its.0 ≡ true
    used_before = any_true (λ (d : Decl S). list_any (uses_import rs w its.0) (decl_seen rs w.number w.of w.source.tree d)) (nth_among w.source.tree.decls x.site.decl (func f) x.stands.decl_there) in_decl
