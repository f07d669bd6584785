use Rattle.std.proofs.Common.{◌≡◌, Result, Ok, Err, IfOk, length}
use Rattle.finite_types.specs.Finite.{AreFinite}
use Rattle.finite_types.specs.Flags.{FiniteSoFar}
use Rattle.finite_types.proofs.FlagLaws.{finite_all}
use Rattle.finite_types.proofs.grown.first_finite.Goals as goal

joined :
    {A E : Type 0} (P Q R : A → Type 0) → ((x : A) → P x → Q x → R x) → (r : Result A E) → IfOk r P → IfOk r Q →
    IfOk r R
joined P Q R f (Ok x) p q = f x p q
joined P Q R f (Err x) p q = tt

pub returns : goal.returns
returns c =
    let e = c.args.types.now in
    let ds = c.args.declared.now in
    joined (λ flags. length flags.items ≡ length e.rows) (λ flags. AreFinite e ds flags.items)
    (λ flags. FiniteSoFar e ds flags.items) (λ flags n f. finite_all e ds flags.items c.requires n f)
    c.finite_types.result c.finite_types.ensures.count c.finite_types.ensures.are
