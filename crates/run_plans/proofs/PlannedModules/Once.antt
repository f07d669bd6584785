-- Files have one answer at most.
use Rattle.std.proofs.Common.{◌≡◌, ◌∙◌, refl, sym, ap, subst, ℕ, ◌<◌, ◌≤◌, true, false, List, length, Option, Some, is_none, arith}
use Rattle.std.proofs.lemmas.Bool.{true≢false}
use Rattle.std.proofs.lemmas.Option.{same_Some}
use Rattle.go_tree.specs.declared.spans.Span.{Span}
use Rattle.go_tree.specs.GoTypes.WellTyped.{NotTyped, refused_place, well_typed}
use Rattle.module_refusals.specs.Laws as lower
use Rattle.module_refusals.specs.Laws.{AreAlike, ModulesHaveNoRefusal}
use Rattle.module_refusals.specs.Told.{told_at}
use Rattle.step_files.specs.declared.limits.Passed.{Passed}
use Rattle.step_files.specs.Limits.{told}
use Rattle.pkg_graph.specs.Package.{Package}
use Rattle.pkg_graph.specs.Reads.{Source}
use Rattle.run_plans.specs.PlannedFiles.Limits.{TellsLimit, file_with_path}
use Rattle.refusals.specs.declared.refusal.Refusal.{Refusal}
use Rattle.refusals.specs.declared.refusal.Detail.TheVariants as detail
use Rattle.refusals.specs.Refusals.{number_of}
use Rattle.run_rules.specs.Inlining.{IsInlining, IsTooLarge}
use Rattle.run_rules.specs.Laws.{InlinedOrTooLarge, OneInlining}
use Rattle.run_rules.specs.Programs.{linked}
use Rattle.run_rules.specs.Respanned.{packages_with}
use Rattle.run_rules.specs.Run.{Logged, TooLarge, as_read, path_of_file, the_limits}
use Rattle.run_rules.specs.Texts.{FileText}
use Rattle.source_files.specs.declared.files.SourceFile.{SourceFile}
use Rattle.run_plans.specs.PlannedModules.Laws.{NeverBoth, PlansAreOne, RefusalsAreAlike, TakenModulesPassLimits}
use Rattle.run_plans.specs.PlannedModules.Modules.{IsRead, IsTaken, has_form, module_size}
use Rattle.run_plans.specs.PlannedModules.Places.{TellsPlace}
use Rattle.run_plans.specs.PlannedModules.Unplanned.{IsStopped, IsUnplanned, no_module, not_built, ill_typed, too_large, passes_limit}
use Rattle.run_plans.proofs.PlannedModules.ReadOnce.{SameModule, reads_once}
use Rattle.run_plans.proofs.PlannedModules.Stops.{one_stop}

-- ---- what the checks find of one module

module _ (ps qs : List (Package Span)) (ts us : List (List ℕ × FileText)) (same : SameModule ps qs ts us) where
  -- it is of the form, or not
  formed_or_not : has_form ps ts ≡ true → has_form qs us ≡ false → ⊥
  formed_or_not e f = true≢false (sym e ∙ (λ v. has_form (same.packages v) (same.texts v)) ∙ f)

  -- it is well typed, or a place is refused
  typed_or_not : well_typed (linked ps) ≡ true → (place : NotTyped Span) → refused_place (linked qs) ≡ Some place → ⊥
  typed_or_not e place f =
      true≢false (sym e ∙ (λ v. well_typed (linked (same.packages v))) ∙ ap (λ (o : Option (NotTyped Span)). is_none o) f)

  one_place : (a b : NotTyped Span) → refused_place (linked ps) ≡ Some a → refused_place (linked qs) ≡ Some b → a ≡ b
  one_place a b e f = same_Some a b (sym e ∙ (λ v. refused_place (linked (same.packages v))) ∙ f)

  -- it is within the limit of a module, or not
  within_or_not : (folder : List Source) → module_size folder ts ≤ the_limits.total → the_limits.total < module_size folder us → ⊥
  within_or_not folder e f =
      let sizes : module_size folder ts ≡ module_size folder us = ap (λ (xs : List (List ℕ × FileText)). module_size folder xs) same.texts in
      not_over (module_size folder ts) (module_size folder us) the_limits.total sizes e f
    where
      not_over : (m n bound : ℕ) → m ≡ n → m ≤ bound → bound < n → ⊥
      not_over m n bound e f g = absurd (omega (arith, e, f, g))

  -- its run has one first step that passes a limit
  passes_as : (folder : List Source) (only : List ℕ) (t : TooLarge) → IsTooLarge the_limits folder ps ts only t → IsTooLarge the_limits folder qs us only t
  passes_as folder only t h =
      subst (λ (xs : List (List ℕ × FileText)). IsTooLarge the_limits folder qs xs only t) same.texts
      (subst (λ (xs : List (Package Span)). IsTooLarge the_limits folder xs ts only t) same.packages h)

-- ---- refusals

pub alike_itself : (r : Refusal) → AreAlike r r
alike_itself r = record { number = refl; file = refl; place = refl }

one_file : (files : List SourceFile) (p q : List ℕ) (a b : SourceFile) → p ≡ q → file_with_path files p ≡ Some a → file_with_path files q ≡ Some b → a ≡ b
one_file files p q a b same e f = same_Some a b (sym e ∙ ap (file_with_path files) same ∙ f)

places_alike : (files : List SourceFile) (ps qs : List (Package Span)) (place other : NotTyped Span) (r s : Refusal) → ps ≡ qs → place ≡ other → TellsPlace files ps place r → TellsPlace files qs other s → AreAlike r s
places_alike files ps qs place other r s e f a b =
    let path : a.path ≡ b.path = same_Some a.path b.path (sym a.path_is ∙ (λ v. path_of_file (packages_with as_read (e v)) (f v).home (f v).file) ∙ b.path_is) in
    let file : a.read ≡ b.read = one_file files a.path b.path a.read b.read path a.there b.there in
    let same : r ≡ s = a.told ∙ (λ v. told_at (file v) (f v).at.start detail.NotTyped) ∙ sym b.told in
    subst (AreAlike r) same (alike_itself r)

limits_alike : (files : List SourceFile) (p q : List ℕ) (limit other : Passed) (r s : Refusal) → p ≡ q → TellsLimit files p limit r → TellsLimit files q other s → AreAlike r s
limits_alike files p q limit other r s e a b =
    let file : a.read ≡ b.read = one_file files p q a.read b.read e a.there b.there in
    record {
      number = ap (λ (x : Refusal). number_of x.detail) a.told ∙ sym (ap (λ (x : Refusal). number_of x.detail) b.told);
      file = ap (λ (x : Refusal). x.file) a.told ∙ (λ v. Some (file v).index) ∙ sym (ap (λ (x : Refusal). x.file) b.told);
      place = ap (λ (x : Refusal). x.place) a.told ∙ sym (ap (λ (x : Refusal). x.place) b.told);
    }

-- the step at which the run of a module stops
step_same : (folder : List Source) (only : List ℕ) (ps qs : List (Package Span)) (ts us : List (List ℕ × FileText)) (r q : TooLarge) → ps ≡ qs → ts ≡ us
    → (i : IsTooLarge the_limits folder ps ts only r) (j : IsTooLarge the_limits folder qs us only q) → i.last ≡ j.last
step_same folder only ps qs ts us r q e f i j =
    subst (λ (xs : List (Package Span)). (k : IsTooLarge the_limits folder xs us only q) → i.last ≡ k.last) e
    (subst (λ (xs : List (List ℕ × FileText)). (k : IsTooLarge the_limits folder ps xs only q) → i.last ≡ k.last) f (λ k. one_stop the_limits folder ps ts only r q i k)) j

module _ (folder : List Source) (files : List SourceFile) (only : List ℕ) where
  stops_alike : (r s : Refusal) → IsStopped folder files only r → IsStopped folder files only s → AreAlike r s
  stops_alike r s a b =
      let same = reads_once folder a.taken.packages b.taken.packages a.taken.texts b.taken.texts a.taken.read.reads b.taken.read.reads in
      let step = step_same folder only a.taken.packages b.taken.packages a.taken.texts b.taken.texts (told a.limit) (told b.limit) same.packages same.texts a.passes b.passes in
      limits_alike files a.passes.last.file b.passes.last.file a.limit b.limit r s (ap (λ (l : Logged). l.file) step) a.tells b.tells

  -- ---- a module that is taken is refused only where its run passes a limit

  module _ (never : ModulesHaveNoRefusal) (t : IsTaken folder files) where
    same_ones : (qs : List (Package Span)) (us : List (List ℕ × FileText)) → IsRead folder files qs us → SameModule t.packages qs t.texts us
    same_ones qs us a = reads_once folder t.packages qs t.texts us t.read.reads a.reads

    pub taken_stops : (r : Refusal) → IsUnplanned folder files only r → IsStopped folder files only r
    taken_stops _ (no_module r is) = absurd (never files r t.read.module_is is)
    taken_stops _ (not_built qs us a e) = absurd (formed_or_not t.packages qs t.texts us (same_ones qs us a) t.form e)
    taken_stops _ (ill_typed qs us a e place f r h) = absurd (typed_or_not t.packages qs t.texts us (same_ones qs us a) t.typed place f)
    taken_stops _ (too_large qs us a e f l) = absurd (within_or_not t.packages qs t.texts us (same_ones qs us a) folder t.within l)
    taken_stops _ (passes_limit r h) = h

pub taken_pass : ModulesHaveNoRefusal → TakenModulesPassLimits
taken_pass never folder files only r t h = taken_stops folder files only never t r h

-- ---- one answer

module _ (alike : lower.RefusalsAreAlike) (never : ModulesHaveNoRefusal) where
  module _ (folder : List Source) (files : List SourceFile) (only : List ℕ) where
    same_of : (ps qs : List (Package Span)) (ts us : List (List ℕ × FileText)) → IsRead folder files ps ts → IsRead folder files qs us → SameModule ps qs ts us
    same_of ps qs ts us a b = reads_once folder ps qs ts us a.reads b.reads

    are_alike : (r s : Refusal) → IsUnplanned folder files only r → IsUnplanned folder files only s → AreAlike r s
    are_alike _ _ (no_module r i) (no_module s j) = alike files r s i j
    are_alike _ _ (no_module r i) (not_built qs us b f) = absurd (never files r b.module_is i)
    are_alike _ _ (no_module r i) (ill_typed qs us b f place g s h) = absurd (never files r b.module_is i)
    are_alike _ _ (no_module r i) (too_large qs us b f g l) = absurd (never files r b.module_is i)
    are_alike _ _ (no_module r i) (passes_limit s h) = absurd (never files r h.taken.read.module_is i)
    are_alike _ _ (not_built ps ts a e) (no_module s j) = absurd (never files s a.module_is j)
    are_alike _ _ (not_built ps ts a e) (not_built qs us b f) = alike_itself _
    are_alike _ _ (not_built ps ts a e) (ill_typed qs us b f place g s h) = absurd (formed_or_not qs ps us ts (same_of qs ps us ts b a) f e)
    are_alike _ _ (not_built ps ts a e) (too_large qs us b f g l) = absurd (formed_or_not qs ps us ts (same_of qs ps us ts b a) f e)
    are_alike _ _ (not_built ps ts a e) (passes_limit s h) = absurd (formed_or_not h.taken.packages ps h.taken.texts ts (same_of h.taken.packages ps h.taken.texts ts h.taken.read a) h.taken.form e)
    are_alike _ _ (ill_typed ps ts a e place f r h) (no_module s j) = absurd (never files s a.module_is j)
    are_alike _ _ (ill_typed ps ts a e place f r h) (not_built qs us b g) = absurd (formed_or_not ps qs ts us (same_of ps qs ts us a b) e g)
    are_alike _ _ (ill_typed ps ts a e place f r h) (ill_typed qs us b g other k s i) =
        let same = same_of ps qs ts us a b in
        places_alike files ps qs place other r s same.packages (one_place ps qs ts us same place other f k) h i
    are_alike _ _ (ill_typed ps ts a e place f r h) (too_large qs us b g k l) = absurd (typed_or_not qs ps us ts (same_of qs ps us ts b a) k place f)
    are_alike _ _ (ill_typed ps ts a e place f r h) (passes_limit s i) =
        absurd (typed_or_not i.taken.packages ps i.taken.texts ts (same_of i.taken.packages ps i.taken.texts ts i.taken.read a) i.taken.typed place f)
    are_alike _ _ (too_large ps ts a e f l) (no_module s j) = absurd (never files s a.module_is j)
    are_alike _ _ (too_large ps ts a e f l) (not_built qs us b g) = absurd (formed_or_not ps qs ts us (same_of ps qs ts us a b) e g)
    are_alike _ _ (too_large ps ts a e f l) (ill_typed qs us b g place k s h) = absurd (typed_or_not ps qs ts us (same_of ps qs ts us a b) f place k)
    are_alike _ _ (too_large ps ts a e f l) (too_large qs us b g h k) = record { number = refl; file = refl; place = refl }
    are_alike _ _ (too_large ps ts a e f l) (passes_limit s h) =
        absurd (within_or_not h.taken.packages ps h.taken.texts ts (same_of h.taken.packages ps h.taken.texts ts h.taken.read a) folder h.taken.within l)
    are_alike _ s (passes_limit r h) g = stops_alike folder files only r s h (taken_stops folder files only never h.taken s g)

  pub refusals_are_alike : RefusalsAreAlike
  refusals_are_alike folder files only r s h g = are_alike folder files only r s h g

pub never_both : ModulesHaveNoRefusal → InlinedOrTooLarge → NeverBoth
never_both never apart folder files only after report steps r p h =
    let s = taken_stops folder files only never p.taken r h in
    let same = reads_once folder s.taken.packages p.taken.packages s.taken.texts p.taken.texts s.taken.read.reads p.taken.read.reads in
    apart the_limits folder p.taken.packages p.taken.texts only after report (told s.limit) p.inlining
    (passes_as s.taken.packages p.taken.packages s.taken.texts p.taken.texts same folder only (told s.limit) s.passes)

-- ---- plans

one_plan : OneInlining → (folder : List Source) (only : List ℕ) (ps qs : List (Package Span)) (ts us : List (List ℕ × FileText)) (after news : List (List ℕ × FileText)) (report lines : List ℕ) → ps ≡ qs → ts ≡ us
    → (i : IsInlining the_limits folder ps ts only after report) (j : IsInlining the_limits folder qs us only news lines) → (i.log ≡ j.log) × (after ≡ news) × (report ≡ lines)
one_plan one folder only ps qs ts us after news report lines e f i j =
    subst (λ (xs : List (Package Span)). (k : IsInlining the_limits folder xs us only news lines) → (i.log ≡ k.log) × (after ≡ news) × (report ≡ lines)) e
    (subst (λ (xs : List (List ℕ × FileText)). (k : IsInlining the_limits folder ps xs only news lines) → (i.log ≡ k.log) × (after ≡ news) × (report ≡ lines)) f
    (λ k. let h = one the_limits folder ps ts only after news report lines i k in (h.0, h.2, h.3)))
    j

pub plans_are_one : OneInlining → PlansAreOne
plans_are_one one folder files only after news report lines steps count p q =
    let same = reads_once folder p.taken.packages q.taken.packages p.taken.texts q.taken.texts p.taken.read.reads q.taken.read.reads in
    let h = one_plan one folder only p.taken.packages q.taken.packages p.taken.texts q.taken.texts after news report lines same.packages same.texts p.inlining q.inlining in
    (h.1, h.2, p.steps_are ∙ ap (λ (log : List Logged). length log) h.0 ∙ sym q.steps_are)
