-- Programs of which flags and users alone change.
use Rattle.std.proofs.Common.{◌≡◌, ◌∙◌, refl, sym, ap, subst, ℕ, ◌<◌, ◌⊎◌, inl, inr, Bool, true, All, List, [], length, get_or, Option, Some, None, arith}
use Rattle.std.specs.Prelude.{slice_get}
use Rattle.std.proofs.lemmas.List.{length-set}
use Rattle.std.proofs.lemmas.Option.{same_Some, slice_get_read, slice_get_within, get_or_from_slice_get}
use Rattle.go_scan.specs.TokenLists.{TokenLists}
use Rattle.run_rules.specs.ImportRules.Laid.{CommentsAscend}
use Rattle.file_names.specs.Imports.{FindsPackages}
use Rattle.stepped_programs.specs.declared.package_search.search.FoundInPackage.{FoundInPackage}
use Rattle.stepped_programs.specs.PackageSearch.Search.{is_settled}
use Rattle.stepped_programs.specs.PackageSearch.SearchedPrograms.Programs.{IsOpenProgram, IsProgramSearch}
use Rattle.programs.specs.declared.state.PackageFiles.{PackageFiles}
use Rattle.programs.specs.declared.state.Program.{Program}
use Rattle.programs.specs.TextsOfPackages.Given.{kept_at}
use Rattle.stepped_programs.proofs.SearchedSites.KeptPrograms.Kept.{There, there, set_here, set_else, nat_cases}
use Rattle.stepped_programs.specs.SteppedValues.Held.{tokens_in}
use Rattle.stepped_programs.specs.Laws.{flags_of}
use Rattle.stepped_programs.specs.FirstUses.First.{IsOpenInOrder, AreFlagged, IsFlagged}

-- ---- what is kept of packages

pub kept_there : {A : Type 0} (part : PackageFiles → List A) (ks : List PackageFiles) (k : ℕ) (f : PackageFiles) → slice_get ks k ≡ Some f → kept_at part ks k ≡ part f
kept_there {A = A} part ks k f e = ap (λ (o : Option PackageFiles). elim o [ None ↦ [] | Some f ↦ part f ]) e

pub kept_same : {A : Type 0} (part : PackageFiles → List A) (ks js : List PackageFiles) (k : ℕ) → slice_get ks k ≡ slice_get js k → kept_at part ks k ≡ kept_at part js k
kept_same {A = A} part ks js k e = ap (λ (o : Option PackageFiles). elim o [ None ↦ [] | Some f ↦ part f ]) e

kept_none : {A : Type 0} (part : PackageFiles → List A) (ks : List PackageFiles) (k : ℕ) → slice_get ks k ≡ None → kept_at part ks k ≡ []
kept_none {A = A} part ks k e = ap (λ (o : Option PackageFiles). elim o [ None ↦ [] | Some f ↦ part f ]) e

none_set : (i : ℕ) → is_settled [] i ≡ true → ⊥
none_set i h = cc

-- ---- flags

pub flagged_same : (was now : PackageFiles) → was ≡ now → AreFlagged was now
flagged_same was now e = subst (λ (y : PackageFiles). AreFlagged was y) e (record { only_flags = refl; size = refl; stay = λ i h. h })

files_on : (was middle now : PackageFiles) → AreFlagged was middle → AreFlagged middle now → AreFlagged was now
files_on was middle now x y =
    record {
      only_flags = y.only_flags ∙ ap (λ (p : PackageFiles). record p { settled = now.settled }) x.only_flags;
      size = y.size ∙ x.size;
      stay = λ i h. y.stay i (x.stay i h);
    }

pub flagged_self : (p : Program) → IsFlagged p p
flagged_self p =
    record {
      rest = refl;
      size = refl;
      files = λ k was now e f. flagged_same was now (same_Some was now (sym e ∙ f));
      keeps = λ k f h. h;
    }

pub flagged_on : (a b c : Program) → IsFlagged a b → IsFlagged b c → IsFlagged a c
flagged_on a b c f g =
    record {
      rest = g.rest ∙ ap (λ (q : Program). record q { files = c.files; users = c.users }) f.rest;
      size = g.size ∙ f.size;
      files = λ k was now e h.
          let m : There b.files.items k = there b.files.items k (omega (arith, slice_get_within a.files.items k was e, f.size)) in
          files_on was m.entry now (f.files k was m.entry e m.is) (g.files k m.entry now m.is h);
      keeps = λ k u h. g.keeps k u (f.keeps k u h);
    }

-- a flag that is set stays set
pub flags_stay : (b c : Program) → IsFlagged b c → (k i : ℕ) → is_settled (flags_of b k) i ≡ true → is_settled (flags_of c k) i ≡ true
flags_stay b c f k i = by (slice_get b.files.items k) refl
  where
    by : (o : Option PackageFiles) → slice_get b.files.items k ≡ o → is_settled (flags_of b k) i ≡ true → is_settled (flags_of c k) i ≡ true
    by None e h = absurd (none_set i (ap (λ (bs : List Bool). is_settled bs i) (sym (kept_none (λ f. f.settled.items) b.files.items k e)) ∙ h))
    by (Some was) e h =
        let m : There c.files.items k = there c.files.items k (omega (arith, slice_get_within b.files.items k was e, f.size)) in
        ap (λ (bs : List Bool). is_settled bs i) (kept_there (λ f. f.settled.items) c.files.items k m.entry m.is)
        ∙ (f.files k was m.entry e m.is).stay i
        (ap (λ (bs : List Bool). is_settled bs i) (sym (kept_there (λ f. f.settled.items) b.files.items k was e)) ∙ h)

-- the tokens are those that were kept
pub tokens_same : (a b : Program) → IsFlagged a b → (k : ℕ) (now : PackageFiles) → slice_get b.files.items k ≡ Some now → now.tokens.items ≡ tokens_in a k
tokens_same a b f k now e =
    let m : There a.files.items k = there a.files.items k (omega (arith, slice_get_within b.files.items k now e, f.size)) in
    ap (λ (p : PackageFiles). p.tokens.items) (f.files k m.entry now m.is e).only_flags ∙ sym (kept_there (λ f. f.tokens.items) a.files.items k m.entry m.is)

-- ---- a package may still be searched

pub open_stays : (a b : Program) → IsFlagged a b → (k : ℕ) → IsOpenProgram a k → IsOpenProgram b k
open_stays a b f k o =
    let m : There b.files.items k = there b.files.items k (omega (arith, slice_get_within a.files.items k o.there.kept o.there.kept_is, f.size)) in
    let y : AreFlagged o.there.kept m.entry = f.files k o.there.kept m.entry o.there.kept_is m.is in
    record {
      places = subst (λ (q : Program). FindsPackages q.places q.packages.items) (sym f.rest) o.places;
      there =
          record {
            home = o.there.home;
            home_is = ap (λ (q : Program). slice_get q.packages.items k) f.rest ∙ o.there.home_is;
            kept = m.entry;
            kept_is = m.is;
            tokens = ap (λ (q : PackageFiles). length q.tokens.items) y.only_flags ∙ o.there.tokens;
            settled = y.size ∙ o.there.settled;
            ascend = subst (λ (q : PackageFiles). All (λ (t : TokenLists). CommentsAscend 0 t.comments) q.tokens.items) (sym y.only_flags) o.there.ascend;
          };
    }

pub open_next : (a b : Program) (n k : ℕ) → IsFlagged a b → IsOpenInOrder a → slice_get a.order.items n ≡ Some k → IsOpenProgram b k
open_next a b n k f o e =
    open_stays a b f k
    (subst (λ (j : ℕ). IsOpenProgram a j) (get_or_from_slice_get a.order.items n k k e) (o n k (slice_get_within a.order.items n k e)))

-- what is read of the order
pub number_read : (a b : Program) (n k : ℕ) → IsFlagged a b → n < length a.order.items → k ≡ get_or b.order.items n k → slice_get a.order.items n ≡ Some k
number_read a b n k f h e =
    slice_get_read a.order.items (length a.order.items) n k refl h (e ∙ ap (λ (p : Program). get_or p.order.items n k) f.rest)

-- ---- a search of a package

module _ (b c : Program) (k : ℕ) (r : Option FoundInPackage) (x : IsProgramSearch b c k r) where
  pub now_is : slice_get c.files.items k ≡ Some x.search.now
  now_is =
      ap (λ (ks : List PackageFiles). slice_get ks k) x.search.put
      ∙ set_here b.files.items k x.search.now (slice_get_within b.files.items k x.search.was x.search.was_is)

  pub else_is : (j : ℕ) → (j ≡ k → ⊥) → slice_get c.files.items j ≡ slice_get b.files.items j
  else_is j q = ap (λ (ks : List PackageFiles). slice_get ks j) x.search.put ∙ set_else b.files.items k j x.search.now q

  one_flagged : AreFlagged x.search.was x.search.now
  one_flagged = record { only_flags = x.search.only_flags; size = x.search.search.settled.size; stay = x.search.search.settled.stay }

  each_flagged : (j : ℕ) (was now : PackageFiles) → slice_get b.files.items j ≡ Some was → slice_get c.files.items j ≡ Some now → (j ≡ k) ⊎ (j ≡ k → ⊥) → AreFlagged was now
  each_flagged j was now e f (inl q) =
      let w : x.search.was ≡ was = same_Some x.search.was was (sym x.search.was_is ∙ ap (slice_get b.files.items) (sym q) ∙ e) in
      let n : x.search.now ≡ now = same_Some x.search.now now (sym now_is ∙ ap (slice_get c.files.items) (sym q) ∙ f) in
      subst (λ (y : PackageFiles). AreFlagged y now) w (subst (λ (y : PackageFiles). AreFlagged x.search.was y) n one_flagged)
  each_flagged j was now e f (inr q) = flagged_same was now (same_Some was now (sym e ∙ sym (else_is j q) ∙ f))

  pub search_flags : IsFlagged b c
  search_flags =
      record {
        rest = x.rest;
        size = ap length x.search.put ∙ length-set b.files.items k x.search.now;
        files = λ j was now e f. each_flagged j was now e f (nat_cases j k);
        keeps = x.search.keeps;
      }
