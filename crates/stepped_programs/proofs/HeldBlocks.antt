-- Blocks that are held.
use Rattle.std.proofs.Common.{◌≡◌, ◌∙◌, sym, ap, subst, ℕ, ◌⊎◌, inl, inr, List, Option, Some, Result, Ok, Err, OnOk}
use Rattle.std.specs.Prelude.{slice_get}
use Rattle.std.proofs.lemmas.Option.{same_Some}
use Rattle.pkg_graph.specs.declared.packages.Package.{Package}
use Rattle.stepped_programs.specs.declared.held_blocks.HeldBlock.{HeldBlock}
use Rattle.stepped_programs.specs.HeldBlocks.{IsBlock, IsHeldOf, IsHeldIn, IsHeldNext}

module _ (ps : List Package) (k : ℕ) (home : Package) (there : slice_get ps k ≡ Some home) where
  pub held_here : (held : Option HeldBlock) → IsHeldIn ps held → IsHeldOf k home held
  held_here held is = λ h e q. is h home e (ap (slice_get ps) q ∙ there)

  still_held : (old new : Option HeldBlock) → IsHeldIn ps old → IsHeldNext k home old new → IsHeldIn ps new
  still_held old new is n = λ h p e f. by h p f (n h e)
    where
      by : (h : HeldBlock) (p : Package) → slice_get ps h.home ≡ Some p → (old ≡ Some h) ⊎ ((h.home ≡ k) × IsBlock home h.block) → IsBlock p h.block
      by h p f (inl o) = is h p o f
      by h p f (inr x) = subst (λ (q : Package). IsBlock q h.block) (same_Some home p (sym there ∙ sym (ap (slice_get ps) x.0) ∙ f)) x.1

  pub held_next : {A E : Type 0} (r : Result A E) (old new : Option HeldBlock) → IsHeldIn ps old → OnOk r (IsHeldNext k home old new) → OnOk r (IsHeldIn ps new)
  held_next (Ok x) old new is n = still_held old new is n
  held_next (Err e) old new is n = tt
