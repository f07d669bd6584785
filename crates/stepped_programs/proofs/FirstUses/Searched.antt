-- Packages of a program that are searched one after another.
use Rattle.std.proofs.Common.{◌≡◌, ◌∙◌, sym, ap, subst, ℕ, zero, suc, ◌+◌, ◌<◌, ◌≤◌, ◌⊎◌, inl, inr, Bool, true, List, [], ◌∷◌, ◌++◌, map, length, take, drop, Option, Some, None, arith}
use Rattle.std.specs.Prelude.{slice_get}
use Rattle.std.proofs.lemmas.List.{take_all}
use Rattle.std.proofs.lemmas.Option.{same_Some}
use Rattle.go_tree.specs.FileView.{file_of}
use Rattle.go_scan.specs.TokenLists.{TokenLists}
use Rattle.pkg_graph.specs.Package.{import_specs}
use Rattle.pkg_graph.specs.Members.{names_of_file}
use Rattle.pkg_graph.specs.Views.{package_view}
use Rattle.pkg_graph.specs.declared.packages.Package.{Package}
use Rattle.pkg_graph.specs.declared.packages.SourceTree.{SourceTree}
use Rattle.file_tables.specs.Numbers.{number_in}
use Rattle.repeated_parts.specs.UseSearch.MarkValues.Tables.{key_of}
use Rattle.module_marks.specs.Tables.{IsTableOf}
use Rattle.module_marks.specs.Views.{mark_ref_of}
use Rattle.repeated_parts.specs.declared.use_search.search.FoundObstacle.{FoundObstacle}
use Rattle.stepped_programs.specs.declared.package_search.looks.FileLook.{FileLook}
use Rattle.stepped_programs.specs.declared.package_search.looks.ProgramSources.{ProgramSources}
use Rattle.stepped_programs.specs.declared.package_search.search.FoundInPackage.{FoundInPackage}
use Rattle.stepped_programs.specs.PackageSearch.Looks.{IsLook}
use Rattle.stepped_programs.specs.PackageSearch.Search.{is_settled, block_of, LookAt, IsFirstIn, IsFirst}
use Rattle.stepped_programs.specs.PackageSearch.SearchedPrograms.Programs.{IsProgramSearch}
use Rattle.stepped_programs.specs.PackageSearch.SearchedPrograms.Search as searched
use Rattle.stepped_programs.specs.PackageSearch.SearchedPrograms.Search.{Keeps}
use Rattle.programs.specs.Users.{AreItsUses}
use Rattle.programs.specs.declared.state.Program.{Program}
use Rattle.stepped_programs.specs.SearchedSites.OrderedSearches.Held.{AreUsed}
use Rattle.stepped_programs.specs.SearchedSites.OrderedSearches.Search.{EachNumber, HasNoneOf, ComeSettled, IsAllSettled}
use Rattle.stepped_programs.proofs.SearchedSites.KeptPrograms.Kept.{nat_cases}
use Rattle.stepped_programs.specs.SteppedValues.Held.{AreSourcesOf, tokens_in}
use Rattle.stepped_programs.specs.Laws.{flags_of, users_of}
use Rattle.stepped_programs.specs.FirstUses.First.{IsFlagged, IsFirstUse}
use Rattle.stepped_programs.proofs.FirstUses.Flagged.{kept_there, kept_same, flagged_self, flagged_on, flags_stay, tokens_same, now_is, else_is, search_flags}

-- ---- looks, where the same is told

module _ (s t : ProgramSources) (packages : s.packages.now ≡ t.packages.now) (marks : s.marks.now ≡ t.marks.now) (values : s.values.now ≡ t.values.now) (types : s.types.now ≡ t.types.now) where
  look_same : (home : ℕ) (source : SourceTree) (tokens : TokenLists) (block : List (List ℕ)) (l : FileLook) → IsLook s home source tokens block l → IsLook t home source tokens block l
  look_same home source tokens block l k =
      record {
        names_are = λ p b. k.names_are p b ∙ ap (λ (ps : List Package). names_of_file (map package_view ps) p (file_of source.tree)) packages;
        block_stays = k.block_stays;
        table_is = k.table_is;
        imports_are = k.imports_are ∙ ap (λ (ps : List Package). map (number_in (map package_view ps)) (import_specs (file_of source.tree))) packages;
        program = k.program;
        packages_told = k.packages_told ∙ packages;
        values_told = k.values_told ∙ values;
        types_told = k.types_told ∙ types;
        view = k.view;
        home_told = k.home_told;
        tree_told = k.tree_told;
        comments_told = k.comments_told;
        names_told = k.names_told;
        table_told = k.table_told;
        imports_told = k.imports_told;
        found = λ ps ms a. k.found ps ms (subst (IsTableOf ps ms) (sym marks) a);
      }

  at_same : (k : ℕ) (home : Package) (tokens : List TokenLists) (i : ℕ) (l : FileLook) → LookAt s k home tokens i l → LookAt t k home tokens i l
  at_same k home tokens i l a =
      record {
        source = a.source;
        is_source = a.is_source;
        list = a.list;
        is_list = a.is_list;
        look = look_same k a.source a.list (block_of s k home tokens) l a.look;
      }

-- ---- who uses what

used_so : (p : Program) (k i : ℕ) (xs : List FoundObstacle) → AreItsUses p.users (k, i) xs → AreUsed (users_of p) k i xs
used_so p k i [] h = tt
used_so p k i (x ∷ xs) h = (h.0, used_so p k i xs h.1)

used_on : (b c : Program) (k i : ℕ) (xs : List FoundObstacle) → Keeps b.users c.users → AreUsed (users_of b) k i xs → AreUsed (users_of c) k i xs
used_on b c k i [] keeps h = tt
used_on b c k i (x ∷ xs) keeps h = (keeps (key_of (mark_ref_of x.use_.mark)) (k, i) h.0, used_on b c k i xs keeps h.1)

-- ---- numbers in order

each_taken : (P : ℕ → Type 0) (xs : List ℕ) (n k : ℕ) → slice_get xs n ≡ Some k → EachNumber P (take n xs) → P k → EachNumber P (take (suc n) xs)
each_taken P [] n k e all h = tt
each_taken P (x ∷ xs) zero k e all h = (subst P (sym (same_Some x k e)) h, tt)
each_taken P (x ∷ xs) (suc n) k e all h = (all.0, each_taken P xs n k e all.1 h)

split_at : (xs : List ℕ) (n k : ℕ) → slice_get xs n ≡ Some k → xs ≡ take n xs ++ k ∷ drop (suc n) xs
split_at [] n k e = absurd cc
split_at (x ∷ xs) zero k e = ap (λ (z : ℕ). z ∷ xs) (same_Some x k e)
split_at (x ∷ xs) (suc n) k e = ap (λ (zs : List ℕ). x ∷ zs) (split_at xs n k e)

each_on : (P Q : ℕ → Type 0) → ((k : ℕ) → P k → Q k) → (ks : List ℕ) → EachNumber P ks → EachNumber Q ks
each_on P Q f [] h = tt
each_on P Q f (k ∷ ks) h = (f k h.0, each_on P Q f ks h.1)

-- ---- one more package

module _ (a b c : Program) (k : ℕ) (r : Option FoundInPackage) (f : IsFlagged a b) (x : IsProgramSearch b c k r) (s : ProgramSources) (told : AreSourcesOf a s) where
  packages : x.sources.packages.now ≡ s.packages.now
  packages = x.packages_told ∙ ap (λ (p : Program). p.packages.items) f.rest ∙ sym told.packages_told

  marks : x.sources.marks.now ≡ s.marks.now
  marks = x.marks_told ∙ ap (λ (p : Program). p.marks) f.rest ∙ sym told.marks_told

  values : x.sources.values.now ≡ s.values.now
  values = x.values_told ∙ ap (λ (p : Program). p.values) f.rest ∙ sym told.values_told

  types : x.sources.types.now ≡ s.types.now
  types = x.types_told ∙ ap (λ (p : Program). p.types) f.rest ∙ sym told.types_told

  tokens : x.search.was.tokens.items ≡ tokens_in a k
  tokens = tokens_same a b f k x.search.was x.search.was_is

  flags_now : flags_of c k ≡ x.search.now.settled.items
  flags_now = kept_there (λ f. f.settled.items) c.files.items k x.search.now (now_is b c k r x)

  flags_was : flags_of b k ≡ x.search.was.settled.items
  flags_was = kept_there (λ f. f.settled.items) b.files.items k x.search.was x.search.was_is

  flags_else : (j : ℕ) → (j ≡ k → ⊥) → flags_of c j ≡ flags_of b j
  flags_else j q = kept_same (λ f. f.settled.items) c.files.items b.files.items j (else_is b c k r x j q)

  same_home : (home : Package) → slice_get s.packages.now k ≡ Some home → x.search.home ≡ home
  same_home home h = same_Some x.search.home home (sym x.search.home_is ∙ ap (λ (ps : List Package). slice_get ps k) packages ∙ h)

  look_here : (i : ℕ) (l : FileLook) → LookAt x.sources k x.search.home x.search.was.tokens.items i l → LookAt s k x.search.home (tokens_in a k) i l
  look_here i l w =
      subst (λ (ts : List TokenLists). LookAt s k x.search.home ts i l) tokens
      (at_same x.sources s packages marks values types k x.search.home x.search.was.tokens.items i l w)

  abbrev Comes : Program → ℕ → Package → ℕ → Type 0
  Comes p j home i = (is_settled (flags_of a j) i ≡ true) ⊎ HasNoneOf s (tokens_in a) (users_of p) j home i

  none_so : (home : Package) (i : ℕ) → slice_get s.packages.now k ≡ Some home → searched.HasNoneOf x.sources k x.search.home x.search.was.tokens.items c.users i
      → HasNoneOf s (tokens_in a) (users_of c) k home i
  none_so home i h e =
      record {
        seen = e.seen;
        look = subst (λ (z : Package). LookAt s k z (tokens_in a k) i e.seen) (same_home home h) (look_here i e.seen e.look);
        none_free = e.none_free;
        used = used_so c k i e.seen.kept.items e.used;
      }

  later : (j : ℕ) (home : Package) (i : ℕ) → Comes b j home i → Comes c j home i
  later j home i (inl e) = inl e
  later j home i (inr n) = inr (record { seen = n.seen; look = n.look; none_free = n.none_free; used = used_on b c j i n.seen.kept.items x.search.keeps n.used })

  here : ComeSettled s (tokens_in a) (users_of b) (flags_of a) (flags_of b) → (home : Package) (i : ℕ) → slice_get s.packages.now k ≡ Some home
      → (is_settled x.search.was.settled.items i ≡ true) ⊎ searched.HasNoneOf x.sources k x.search.home x.search.was.tokens.items c.users i → Comes c k home i
  here y home i h (inl e) = later k home i (y k home h i (ap (λ (bs : List Bool). is_settled bs i) flags_was ∙ e))
  here y home i h (inr n) = inr (none_so home i h n)

  pub come_on : ComeSettled s (tokens_in a) (users_of b) (flags_of a) (flags_of b) → ComeSettled s (tokens_in a) (users_of c) (flags_of a) (flags_of c)
  come_on y j home h i set = by (nat_cases j k)
    where
      by : (j ≡ k) ⊎ (j ≡ k → ⊥) → Comes c j home i
      by (inl q) =
          subst (λ (m : ℕ). Comes c m home i) (sym q)
          (here y home i (sym (ap (slice_get s.packages.now) q) ∙ h)
          (x.search.search.settled.come i (ap (λ (bs : List Bool). is_settled bs i) (sym flags_now) ∙ sym (ap (λ (m : ℕ). is_settled (flags_of c m) i) q) ∙ set)))
      by (inr q) = later j home i (y j home h i (ap (λ (bs : List Bool). is_settled bs i) (sym (flags_else j q)) ∙ set))

  pub all_on : (j : ℕ) → IsAllSettled s (tokens_in a) (flags_of b) j → IsAllSettled s (tokens_in a) (flags_of c) j
  all_on j h home e i l = flags_stay b c (search_flags b c k r x) j i (h home e i l)

  pub all_here : IsFirst x.sources k x.search.home x.search.was.tokens.items x.search.now.settled.items None → IsAllSettled s (tokens_in a) (flags_of c) k
  all_here first home h i l =
      ap (λ (bs : List Bool). is_settled bs i) flags_now ∙ first i (subst (λ (z : Package). i < length z.files) (sym (same_home home h)) l)

  pub first_here : (g : FoundInPackage) → IsFirstIn x.sources k x.search.home x.search.was.tokens.items x.search.now.settled.items g
      → IsFirstIn s k x.search.home (tokens_in a k) (flags_of c k) g
  first_here g y =
      record {
        seen = y.seen;
        look = look_here g.file y.seen y.look;
        is_free = y.is_free;
        tables_are = y.tables_are;
        before = λ i l. ap (λ (bs : List Bool). is_settled bs i) flags_now ∙ y.before i l;
      }

  pub home_there : slice_get s.packages.now k ≡ Some x.search.home
  home_there = ap (λ (ps : List Package). slice_get ps k) (sym packages) ∙ x.search.home_is

-- ---- so many packages

-- The first packages of the order, so many, are searched, and all their files are settled.
pub record SoFar (a b : Program) (n : ℕ) : Type 0 where
  pub changes : IsFlagged a b
  pub come : (s : ProgramSources) → AreSourcesOf a s → ComeSettled s (tokens_in a) (users_of b) (flags_of a) (flags_of b)
  pub settled : (s : ProgramSources) → AreSourcesOf a s → EachNumber (IsAllSettled s (tokens_in a) (flags_of b)) (take n a.order.items)

pub none_yet : (a : Program) → SoFar a a 0
none_yet a = record { changes = flagged_self a; come = λ s t j home h i set. inl set; settled = λ s t. tt }

module _ (a b c : Program) (n k : ℕ) (so : SoFar a b n) (e : slice_get a.order.items n ≡ Some k) where
  changed : (r : Option FoundInPackage) → IsProgramSearch b c k r → IsFlagged a c
  changed r x = flagged_on a b c so.changes (search_flags b c k r x)

  still_settled : (r : Option FoundInPackage) → IsProgramSearch b c k r → (s : ProgramSources) → AreSourcesOf a s → EachNumber (IsAllSettled s (tokens_in a) (flags_of c)) (take n a.order.items)
  still_settled r x s t =
      each_on (IsAllSettled s (tokens_in a) (flags_of b)) (IsAllSettled s (tokens_in a) (flags_of c)) (λ j h. all_on a b c k r so.changes x s t j h) (take n a.order.items) (so.settled s t)

  one_more : IsProgramSearch b c k None → SoFar a c (n + 1)
  one_more x =
      let on : n + 1 ≡ suc n = omega arith in
      record {
        changes = changed None x;
        come = λ s t. come_on a b c k None so.changes x s t (so.come s t);
        settled = λ s t.
            subst (λ (m : ℕ). EachNumber (IsAllSettled s (tokens_in a) (flags_of c)) (take m a.order.items)) (sym on)
            (each_taken (IsAllSettled s (tokens_in a) (flags_of c)) a.order.items n k e (still_settled None x s t)
            (all_here a b c k None so.changes x s t x.search.search.first));
      }

  one_found : (g : FoundInPackage) → IsProgramSearch b c k (Some g) → IsFirstUse a c (Some (record { home = k; found = g }))
  one_found g x =
      record {
        changes = changed (Some g) x;
        come = λ s t. come_on a b c k (Some g) so.changes x s t (so.come s t);
        first = λ s t.
            record {
              before = take n a.order.items;
              after = drop (suc n) a.order.items;
              order_is = split_at a.order.items n k e;
              settled = still_settled (Some g) x s t;
              home = x.search.home;
              there = home_there a b c k (Some g) so.changes x s t;
              first = first_here a b c k (Some g) so.changes x s t g x.search.search.first;
            };
      }

  pub none_there : (r : Option FoundInPackage) → IsProgramSearch b c k r → r ≡ None → SoFar a c (n + 1)
  none_there r x q = one_more (subst (λ (o : Option FoundInPackage). IsProgramSearch b c k o) q x)

  pub found_there : (r : Option FoundInPackage) (g : FoundInPackage) → IsProgramSearch b c k r → r ≡ Some g → IsFirstUse a c (Some (record { home = k; found = g }))
  found_there r g x q = one_found g (subst (λ (o : Option FoundInPackage). IsProgramSearch b c k o) q x)

pub all_searched : (a b : Program) (n : ℕ) → length a.order.items ≤ n → SoFar a b n → IsFirstUse a b None
all_searched a b n h so =
    record {
      changes = so.changes;
      come = so.come;
      first = λ s t. subst (EachNumber (IsAllSettled s (tokens_in a) (flags_of b))) (take_all n a.order.items h) (so.settled s t);
    }
