-- Files that use what their kept uses are of.
use Rattle.std.proofs.Common.{◌≡◌, ◌∙◌, refl, sym, ap, subst, ℕ, ◌+◌, ◌<◌, ◌≤◌, Bool, true, false, ◌&&◌, ◌||◌, nat_eq, List, [], ◌∷◌, ◌++◌, length, take, get_or, eq-eqb}
use Rattle.std.proofs.lemmas.List.{take_more, take_all}
use Rattle.module_marks.specs.Views.{mark_ref_of}
use Rattle.repeated_parts.specs.UseSearch.MarkValues.Tables.{DeclKey, key_of, same_key}
use Rattle.repeated_parts.specs.declared.use_search.search.FoundObstacle.{FoundObstacle}
use Rattle.programs.specs.Users.{Known, FileKey, is_user, same_file, AreItsUses}
use Rattle.stepped_programs.specs.PackageSearch.SearchedPrograms.Search.{Keeps}

itself : (k : ℕ) → nat_eq k k ≡ true
itself k = eq-eqb k k refl

same_decl : (k : DeclKey) → same_key k k ≡ true
same_decl k = λ w. itself k.0 w && (itself k.1.0 w && itself k.1.1 w)

same_source : (f : FileKey) → same_file f f ≡ true
same_source f = λ w. itself f.0 w && itself f.1 w

or_true : (a : Bool) → (a || true) ≡ true
or_true true = refl
or_true false = refl

-- ---- one more user

-- the file is a user of the declaration besides
abbrev pub Adds : Known → Known → DeclKey → FileKey → Type 0
Adds old new d file = (k : DeclKey) (f : FileKey) → is_user new k f ≡ (same_key k d && same_file f file) || is_user old k f

pub added_keeps : (old new : Known) (d : DeclKey) (file : FileKey) → Adds old new d file → Keeps old new
added_keeps old new d file a k f h =
    a k f ∙ ap (λ (b : Bool). (same_key k d && same_file f file) || b) h ∙ or_true (same_key k d && same_file f file)

pub added_uses : (old new : Known) (d : DeclKey) (file : FileKey) → Adds old new d file → is_user new d file ≡ true
added_uses old new d file a =
    a d file ∙ ap (λ (b : Bool). (b && same_file file file) || is_user old d file) (same_decl d)
    ∙ ap (λ (b : Bool). b || is_user old d file) (same_source file)

-- ---- all users

pub keeps_self : (users : Known) → Keeps users users
keeps_self users k f h = h

pub keeps_on : (a b c : Known) → Keeps a b → Keeps b c → Keeps a c
keeps_on a b c p q k f h = q k f (p k f h)

pub uses_stay : (old new : Known) (file : FileKey) (ks : List FoundObstacle) → Keeps old new → AreItsUses old file ks → AreItsUses new file ks
uses_stay old new file [] h u = tt
uses_stay old new file (k ∷ ks) h u = (h (key_of (mark_ref_of k.use_.mark)) file u.0, uses_stay old new file ks h u.1)

then_one : (users : Known) (file : FileKey) (ks : List FoundObstacle) (k : FoundObstacle) → AreItsUses users file ks → is_user users (key_of (mark_ref_of k.use_.mark)) file ≡ true
    → AreItsUses users file (ks ++ k ∷ [])
then_one users file [] k u h = (h, tt)
then_one users file (x ∷ ks) k u h = (u.0, then_one users file ks k u.1 h)

pub one_taken : (old new : Known) (file : FileKey) (ks : List FoundObstacle) (i : ℕ) (x : FoundObstacle) → i < length ks → x ≡ get_or ks i x
    → Adds old new (key_of (mark_ref_of x.use_.mark)) file → AreItsUses old file (take i ks) → AreItsUses new file (take (i + 1) ks)
one_taken old new file ks i x h e a u =
    subst (λ (xs : List FoundObstacle). AreItsUses new file xs) (ap (λ (y : FoundObstacle). take i ks ++ y ∷ []) e ∙ sym (take_more ks i x h))
    (then_one new file (take i ks) x (uses_stay old new file (take i ks) (added_keeps old new (key_of (mark_ref_of x.use_.mark)) file a) u)
    (added_uses old new (key_of (mark_ref_of x.use_.mark)) file a))

pub all_taken : (users : Known) (file : FileKey) (ks : List FoundObstacle) (i : ℕ) → length ks ≤ i → AreItsUses users file (take i ks) → AreItsUses users file ks
all_taken users file ks i h u = subst (λ (xs : List FoundObstacle). AreItsUses users file xs) (take_all i ks h) u
